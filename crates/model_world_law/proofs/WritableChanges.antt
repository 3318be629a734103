-- A line can write what a change that it asks for inserts and sets, on a list that it can write.
use Rattle.std.proofs.Common.{◌≡◌, ℕ, Bool, true, false, ◌==◌, List, [], ◌∷◌, drop, length, map, Option, Some, None, Result, Ok, Err, if◌then◌else◌, refl, sym, ◌∙◌, subst}
use Rattle.std.specs.Prelude.{IsUtf8, encode_utf8_all}
use Rattle.std.specs.List.{AllByRecursion}
use Rattle.std.specs.Str.{all_scalars}
use Rattle.ve_base.specs.declared.head.Head.{Head}
use Rattle.ve_base.specs.declared.marks.Mark.{Mark}
use Rattle.ve_kinds.specs.declared.kind.Kind.{Kind}
use Rattle.ve_kinds.specs.Table.{is_element, kind_same}
use Rattle.model_items.specs.declared.plain_item.PlainItem.{PlainItem}
use Rattle.model_items.specs.declared.plain_item.PlainItem.TheVariants.{Char, Closing, Opening}
use Rattle.model_items.specs.Offsets.{stack_at}
use Rattle.model_items.proofs.LawLemmas.{Ok-same}
use Rattle.model_change.specs.Transaction.{Transaction, all_inserted}
use Rattle.model_edit.specs.Insert.{insertion, is_bad_offset}
use Rattle.model_page.specs.Fragment.{fragment_items}
use Rattle.model_page.specs.Limits.{fragment_limit}
use Rattle.model_page.specs.PageItems.{or_nothing}
use Rattle.model_spelling.specs.Faults.{ForestFault, fault_of}
use Rattle.model_spelling.specs.Forest.{Forest}
use Rattle.model_spelling.specs.Parsed.{forest_of}
use Rattle.model_site_law.specs.ItemLaws.{all_set, attr_of}
use Rattle.model_world.specs.Completed.{all_completed, completed, head_for, item_completed, op_completed, read_for}
use Rattle.model_world.specs.Edits.{built_transaction, change_of, forest_inserted, fragment_inserted, needs, ops_on, text_inserted, text_typed, transaction_of_ops}
use Rattle.model_world.specs.Refusals.{build_refusal, html_refusal}
use Rattle.model_world.specs.declared.edit_command.EditCommand.{EditCommand}
use Rattle.model_world.specs.declared.edit_command.EditCommand.TheVariants as change
use Rattle.model_world.specs.declared.edit_command.OpWords.{OpWords}
use Rattle.model_world.specs.declared.edit_command.OpWords.TheVariants as op
use Rattle.model_world.specs.declared.edit_command.TextMarks.{TextMarks}
use Rattle.model_world.specs.declared.edit_command.TextMarks.TheVariants.{Left, Plain}
use Rattle.model_world.specs.declared.refusal.Refusal.{Refusal}
use Rattle.model_world.specs.declared.refusal.Refusal.TheVariants.{BadLength, BadOffset, TooManyMarks}
use Rattle.model_world_law.specs.Writable.{ChangeIsWritable, OpsAreWritable, is_text}
use Rattle.model_world_law.proofs.ChangeLemmas.{given}
use Rattle.model_world_law.proofs.CompletedLemmas.{with_ok}
use Rattle.model_world_law.proofs.ReadLemmas.{OfOk}
use Rattle.model_world_law.proofs.WritableEdits as edit
use Rattle.model_world_law.proofs.WritableEdits.{InsertsWritten, attrs-append, write-append}
use Rattle.model_world_law.proofs.WritablePages.{fragments_writable}
use Rattle.model_world_law.proofs.WritableLemmas.{AllWrite, Writes, opening_marks, opening_parts, opening_writes}

-- ---- fragments

utf8_of : (html : List ℕ) → all_scalars html ≡ true → IsUtf8 (encode_utf8_all html)
utf8_of html h = (html, (h, refl))

forest_writes : (items : List PlainItem) (at : ℕ) (f : Forest) (t : Transaction) → AllWrite items → AllWrite (fragment_items (stack_at items at) f) → forest_inserted items at f ≡ Ok t → InsertsWritten t
forest_writes items at f t p given_items h = by (fragment_limit (stack_at items at) f) h
  where
    by : (o : Option ℕ) → (elim o as (λ _. Result Transaction Refusal) [
      | Some byte ↦ Err (TooManyMarks byte)
      | None ↦ built_transaction (insertion items at (fragment_items (stack_at items at) f))
    ]) ≡ Ok t → InsertsWritten t
    by (Some byte) h = cc
    by None h = edit.insertion_writes items at (fragment_items (stack_at items at) f) t p given_items (given build_refusal _ t h)

text_writes : (items : List PlainItem) (at : ℕ) (text : List ℕ) (t : Transaction) → AllWrite items → IsUtf8 text → text_inserted items at text ≡ Ok t → InsertsWritten t
text_writes items at text t p u h = by (fault_of text) h
  where
    by : (o : Option ForestFault) → (elim o as (λ _. Result Transaction Refusal) [
      | Some fault ↦ Err (html_refusal fault)
      | None ↦ forest_inserted items at (or_nothing (forest_of text))
    ]) ≡ Ok t → InsertsWritten t
    by (Some fault) h = cc
    by None h = forest_writes items at (or_nothing (forest_of text)) t p (fragments_writable (stack_at items at) text u) h

pasted_writes : (items : List PlainItem) (at : ℕ) (html : List ℕ) (t : Transaction) → AllWrite items → all_scalars html ≡ true → fragment_inserted items at html ≡ Ok t → InsertsWritten t
pasted_writes items at html t p s h = by (is_bad_offset items at) h
  where
    by : (b : Bool) → (elim b as (λ _. Result Transaction Refusal) [
      | true ↦ Err (BadOffset at)
      | false ↦ text_inserted items at (encode_utf8_all html)
    ]) ≡ Ok t → InsertsWritten t
    by true h = cc
    by false h = text_writes items at (encode_utf8_all html) t p (utf8_of html s) h

-- ---- operations

ops_put : (ops : List OpWords) (items : List PlainItem) → OpsAreWritable ops → InsertsWritten (ops_on ops items)
ops_put [] items p = (tt, tt)
ops_put (op.Retain count ∷ ops) items p = ops_put ops (drop count items) p
ops_put (op.Remove count insert ∷ ops) items p =
    let later = ops_put ops (drop count items) p.1 in (write-append insert (all_inserted (ops_on ops (drop count items))) p.0 later.0, later.1)
ops_put (op.Attr name to ∷ ops) items p =
    let later = ops_put ops items p.1 in (later.0, attrs-append (attr_of name to) (all_set (ops_on ops items)) p.0 later.1)

applied_writes : (items : List PlainItem) (ops : List OpWords) (t : Transaction) → OpsAreWritable ops → transaction_of_ops items ops ≡ Ok t → InsertsWritten t
applied_writes items ops t p h = by (needs ops == length items) h
  where
    by : (b : Bool) → (elim b as (λ _. Result Transaction Refusal) [
      | true ↦ Ok (ops_on ops items)
      | false ↦ Err (BadLength (length items) (needs ops))
    ]) ≡ Ok t → InsertsWritten t
    by false h = cc
    by true h = subst InsertsWritten (Ok-same {E = Refusal} (ops_on ops items) t h) (ops_put ops items p)

-- ---- changes

typed_writes : (marks : TextMarks) (items : List PlainItem) (at : ℕ) (text : List ℕ) (t : Transaction) → is_text text ≡ true → AllWrite items → text_typed marks items at text ≡ Ok t → InsertsWritten t
typed_writes Left items at text t w p h = edit.typing_writes items at text t w p h
typed_writes Plain items at text t w p h = edit.plain_typing_writes items at text t w p h

pub change_writes : (items : List PlainItem) (c : EditCommand) (t : Transaction) → ChangeIsWritable c → AllWrite items → change_of items c ≡ Ok t → InsertsWritten t
change_writes items (change.Text at text marks) t w p h = typed_writes marks items at text t w p (given build_refusal _ t h)
change_writes items (change.Insert at html) t w p h = pasted_writes items at html t p w h
change_writes items (change.Remove from to) t w p h = edit.removal_writes items from to t (given build_refusal _ t h)
change_writes items (change.Split at depth) t w p h = edit.split_writes items at depth t p (given build_refusal _ t h)
change_writes items (change.Mark from to mark) t w p h = edit.marking_writes items from to mark t w p (given build_refusal _ t h)
change_writes items (change.Unmark from to mark) t w p h = edit.unmarking_writes items from to mark t p (given build_refusal _ t h)
change_writes items (change.Wrap from to plan) t w p h = edit.wrap_writes items from to plan t w.0 w.1 (given build_refusal _ t h)
change_writes items (change.Convert at kind) t w p h = edit.convert_writes items at kind t p (given build_refusal _ t h)
change_writes items (change.Attr at name to) t w p h = edit.attribute_writes items at name to t w (given build_refusal _ t h)
change_writes items (change.Apply ops) t w p h = applied_writes items ops t w h
change_writes items (change.NoOrigin origin) t w p h = cc

-- ---- completed changes

-- of a leaf that no tag spells any head will do
headed_writes : (kind : Kind) (head : Head) (marks : List Mark) (pre : List ℕ) (origin : ℕ) (generated : Bool) (o : Option (Kind × Head)) → Writes (Opening kind head marks pre (Some origin) generated) →
    OfOk Writes (elim (head_for kind head o) as (λ _. Result PlainItem ℕ) [
      | None ↦ Err origin
      | Some found ↦ Ok (Opening kind found marks pre (Some origin) generated)
    ])
headed_writes kind head marks pre origin generated None w = tt
headed_writes kind head marks pre origin generated (Some first) w = by_kind (kind_same kind first.0)
  where
    other : is_element kind ≡ false → Writes (Opening kind first.1 marks pre (Some origin) generated)
    other e = opening_writes kind first.1 marks pre (Some origin) generated (opening_marks kind head marks pre (Some origin) generated w) (λ outer.
        let p = opening_parts kind head marks pre (Some origin) generated w outer in
        record { own = λ f. absurd (let g : true ≡ false = sym f ∙ e in cc); white = p.white; may = p.may; known = p.known; made = p.made })

    chosen : (b : Bool) → is_element kind ≡ b → Writes (Opening kind (if b then head else first.1) marks pre (Some origin) generated)
    chosen true e = w
    chosen false e = other e

    by_kind : (b : Bool) → OfOk Writes (elim (if b then Some (if is_element kind then head else first.1) else None) as (λ _. Result PlainItem ℕ) [
      | None ↦ Err origin
      | Some found ↦ Ok (Opening kind found marks pre (Some origin) generated)
    ])
    by_kind true = chosen (is_element kind) refl
    by_kind false = tt

module _ (opened : List PlainItem) where
  item_writes : (item : PlainItem) → Writes item → OfOk Writes (item_completed opened item)
  item_writes (Char c marks) w = w
  item_writes (Closing kind pre) w = w
  item_writes (Opening kind head marks pre None generated) w = w
  item_writes (Opening kind head marks pre (Some origin) generated) w = headed_writes kind head marks pre origin generated (read_for origin opened) w

  items_write : (items : List PlainItem) → AllWrite items → OfOk AllWrite (all_completed (item_completed opened) items)
  items_write [] w = tt
  items_write (x ∷ xs) w =
      with_ok Writes AllWrite _ (item_completed opened x) (item_writes x w.0) (λ y q.
      with_ok AllWrite AllWrite _ (all_completed (item_completed opened) xs) (items_write xs w.1) (λ ys qs. (q, qs)))

  op_writes : (o : OpWords) (os : List OpWords) → OpsAreWritable (o ∷ []) → OpsAreWritable os → OpsAreWritable (o ∷ os)
  op_writes (op.Retain count) os p q = q
  op_writes (op.Remove count insert) os p q = (p.0, q)
  op_writes (op.Attr name to) os p q = (p.0, q)

  one_op_writes : (o : OpWords) → OpsAreWritable (o ∷ []) → OfOk (λ done. OpsAreWritable (done ∷ [])) (op_completed opened o)
  one_op_writes (op.Retain count) w = tt
  one_op_writes (op.Remove count insert) w =
      with_ok AllWrite (λ done. OpsAreWritable (done ∷ [])) _ (all_completed (item_completed opened) insert) (items_write insert w.0) (λ items q. (q, tt))
  one_op_writes (op.Attr name to) w = w

  parts : (o : OpWords) (os : List OpWords) → OpsAreWritable (o ∷ os) → OpsAreWritable (o ∷ []) × OpsAreWritable os
  parts (op.Retain count) os p = (tt, p)
  parts (op.Remove count insert) os p = ((p.0, tt), p.1)
  parts (op.Attr name to) os p = ((p.0, tt), p.1)

  ops_write : (ops : List OpWords) → OpsAreWritable ops → OfOk OpsAreWritable (all_completed (op_completed opened) ops)
  ops_write [] w = tt
  ops_write (o ∷ ops) w =
      let p = parts o ops w in
      with_ok (λ done. OpsAreWritable (done ∷ [])) OpsAreWritable _ (op_completed opened o) (one_op_writes o p.0) (λ done q.
      with_ok OpsAreWritable OpsAreWritable _ (all_completed (op_completed opened) ops) (ops_write ops p.1) (λ rest qs. op_writes done rest q qs))

  pub completed_writes : (c : EditCommand) → ChangeIsWritable c → ChangeIsWritable (completed opened c)
  completed_writes (change.Text at text marks) w = w
  completed_writes (change.Insert at html) w = w
  completed_writes (change.Remove from to) w = tt
  completed_writes (change.Split at depth) w = tt
  completed_writes (change.Mark from to mark) w = w
  completed_writes (change.Unmark from to mark) w = tt
  completed_writes (change.Wrap from to plan) w = w
  completed_writes (change.Convert at kind) w = tt
  completed_writes (change.Attr at name to) w = w
  completed_writes (change.Apply ops) w = by (all_completed (op_completed opened) ops) (ops_write ops w)
    where
      by : (r : Result (List OpWords) ℕ) → OfOk OpsAreWritable r → ChangeIsWritable (elim r as (λ _. EditCommand) [
        | Err origin ↦ change.NoOrigin origin
        | Ok done ↦ change.Apply done
      ])
      by (Err origin) p = tt
      by (Ok done) p = p
  completed_writes (change.NoOrigin origin) w = tt

  pub all_completed_write : (cs : List EditCommand) → AllByRecursion ChangeIsWritable cs → AllByRecursion ChangeIsWritable (map (completed opened) cs)
  all_completed_write [] w = tt
  all_completed_write (c ∷ cs) w = (completed_writes c w.0, all_completed_write cs w.1)
