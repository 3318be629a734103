-- Openings with origins stay those that the page was read with, whatever is changed.
use Rattle.std.proofs.Common.{◌≡◌, ℕ, Bool, true, false, ◌&&◌, ◌||◌, ◌==◌, if◌then◌else◌, List, [], ◌∷◌, ◌++◌, drop, length, map, Option, Some, None, Result, Ok, Err, refl, ap, ◌∙◌, subst}
use Rattle.std.specs.Prelude.{chars, encode_utf8_all}
use Rattle.std.specs.List.{AllByRecursion}
use Rattle.std.proofs.lemmas.Bool.{and_from, and_parts}
use Rattle.ve_base.specs.Empty.{empty_head}
use Rattle.ve_base.specs.declared.head.Head.{Head}
use Rattle.ve_base.specs.declared.marks.Mark.{Mark}
use Rattle.ve_kinds.specs.declared.kind.Kind.{Kind}
use Rattle.ve_kinds.specs.declared.kind.Kind.TheVariants.{P}
use Rattle.ve_kinds.specs.Table.{is_element, is_flow, kind_same}
use Rattle.model_items.specs.declared.plain_item.PlainItem.{PlainItem}
use Rattle.model_items.specs.declared.plain_item.PlainItem.TheVariants.{Char, Closing, Opening}
use Rattle.model_items.specs.Same.{head_same, option_same, text_same}
use Rattle.model_items.specs.Offsets.{stack_at}
use Rattle.model_items.proofs.LawLemmas.{Ok-same}
use Rattle.model_items.proofs.SameLemmas.{Means-head_same}
use Rattle.model_change.specs.Attributes.{AttrChange, allows, attrs_changed, item_changed, value_of}
use Rattle.model_change.specs.Transaction.{Transaction, all_inserted}
use Rattle.model_edit.specs.Insert.{insertion, is_bad_offset, marks_before, text_pieces}
use Rattle.model_page.specs.Elements.{is_white}
use Rattle.model_page.specs.Fragment.{context_of, fragment_items, item_unmade, pieces_in}
use Rattle.model_page.specs.Limits.{fragment_limit}
use Rattle.model_page.specs.PageItems.{or_nothing}
use Rattle.model_page.specs.Parts.{Parts, parts_of, source_of}
use Rattle.model_page_law.specs.Origins.{origins_of}
use Rattle.model_spelling.specs.Faults.{ForestFault, fault_of}
use Rattle.model_spelling.specs.Forest.{Forest}
use Rattle.model_spelling.specs.Parsed.{forest_of}
use Rattle.model_site_law.specs.ItemLaws.{SettingKeeps, any_attr}
use Rattle.model_site_law.proofs.ItemLemmas.{any_keeps}
use Rattle.model_world.specs.Completed.{all_completed, completed, head_for, item_completed, op_completed, read_for}
use Rattle.model_world.specs.Edits.{built_transaction, change_of, forest_inserted, fragment_inserted, needs, ops_on, text_inserted, text_typed, transaction_of_ops}
use Rattle.model_world.specs.Refusals.{build_refusal, html_refusal}
use Rattle.model_world.specs.declared.edit_command.EditCommand.{EditCommand}
use Rattle.model_world.specs.declared.edit_command.EditCommand.TheVariants as change
use Rattle.model_world.specs.declared.edit_command.OpWords.{OpWords}
use Rattle.model_world.specs.declared.edit_command.OpWords.TheVariants as op
use Rattle.model_world.specs.declared.edit_command.TextMarks.{TextMarks}
use Rattle.model_world.specs.declared.edit_command.TextMarks.TheVariants.{Left, Plain}
use Rattle.model_world.specs.declared.refusal.Refusal.{Refusal}
use Rattle.model_world.specs.declared.refusal.Refusal.TheVariants.{BadLength, BadOffset, TooManyMarks}
use Rattle.model_world_law.specs.PutBack.{has_first, is_as_read}
use Rattle.model_world_law.proofs.ChangeLemmas.{given}
use Rattle.model_world_law.proofs.CompletedLemmas.{with_ok}
use Rattle.model_world_law.proofs.OriginEdits as edit
use Rattle.model_world_law.proofs.OriginEdits.{AllFirst, first-append}
use Rattle.model_world_law.proofs.PastedLemmas.{pieces_unplaced}
use Rattle.model_world_law.proofs.ReadLemmas.{OfOk}

either_true : (b c : Bool) → b ≡ true → (b || c) ≡ true
either_true true c h = refl
either_true false c h = cc

module _ (opened : List PlainItem) where
  -- an attribute may be set of elements alone
  setting_first : (c : AttrChange) (item : PlainItem) → allows c item ≡ true → has_first opened item ≡ true → has_first opened (item_changed c item) ≡ true
  setting_first c (Char ch marks) h f = cc
  setting_first c (Closing kind pre) h f = cc
  setting_first c (Opening kind head marks pre None generated) h f = refl
  setting_first c (Opening kind head marks pre (Some origin) generated) h f =
      of_element (record { tag = head.tag; attrs = attrs_changed c.name c.kept c.from c.to head.attrs; raw = head.raw; reference = head.reference; owner = head.owner })
      (read_for origin opened) (and_parts (is_element kind) (option_same text_same (value_of c.name head.attrs) c.from && _) h).0 f
    where
      of_element : (new : Head) (o : Option (Kind × Head)) → is_element kind ≡ true → is_as_read kind head o ≡ true → is_as_read kind new o ≡ true
      of_element new None e f = cc
      of_element new (Some first) e f =
          and_from (kind_same kind first.0) (is_element kind || head_same new first.1) (and_parts (kind_same kind first.0) (is_element kind || head_same head first.1) f).0
          (either_true (is_element kind) (head_same new first.1) e)

  pub setting_stays : SettingKeeps (has_first opened) any_attr
  setting_stays = any_keeps (has_first opened) setting_first

  -- ---- fragments

  unplaced_first : (items : List PlainItem) → origins_of items ≡ [] → AllFirst opened (map item_unmade items)
  unplaced_first [] e = tt
  unplaced_first (Char c marks ∷ items) e = (refl, unplaced_first items e)
  unplaced_first (Closing kind pre ∷ items) e = (refl, unplaced_first items e)
  unplaced_first (Opening kind head marks pre None generated ∷ items) e = (refl, unplaced_first items e)
  unplaced_first (Opening kind head marks pre (Some origin) generated ∷ items) e = cc

  letters_first : (text : List ℕ) → AllFirst opened (map (λ c. Char c []) text ++ Closing P [] ∷ [])
  letters_first [] = (refl, tt)
  letters_first (c ∷ cs) = (refl, letters_first cs)

  fragment_first : (stack : List Kind) (f : Forest) → AllFirst opened (fragment_items stack f)
  fragment_first stack f = by (is_flow (context_of parts stack) && is_white (source_of parts))
    where
      parts : Parts
      parts = parts_of f

      by : (b : Bool) → AllFirst opened (
          if b
          then Opening P empty_head [] [] None false ∷ map (λ c. Char c []) (chars (source_of parts)) ++ Closing P [] ∷ []
          else map item_unmade (pieces_in (context_of parts stack) parts).later.items)
      by true = (refl, letters_first (chars (source_of parts)))
      by false = unplaced_first (pieces_in (context_of parts stack) parts).later.items (pieces_unplaced stack parts)

  abbrev InsertsFirst : Transaction → Type 0
  InsertsFirst t = AllFirst opened (all_inserted t)

  forest_first : (items : List PlainItem) (at : ℕ) (f : Forest) (t : Transaction) → forest_inserted items at f ≡ Ok t → InsertsFirst t
  forest_first items at f t h = by (fragment_limit (stack_at items at) f) h
    where
      by : (o : Option ℕ) → (elim o as (λ _. Result Transaction Refusal) [
        | Some byte ↦ Err (TooManyMarks byte)
        | None ↦ built_transaction (insertion items at (fragment_items (stack_at items at) f))
      ]) ≡ Ok t → InsertsFirst t
      by (Some byte) h = cc
      by None h = edit.insertion_first opened items at (fragment_items (stack_at items at) f) t (fragment_first (stack_at items at) f) (given build_refusal _ t h)

  text_first : (items : List PlainItem) (at : ℕ) (text : List ℕ) (t : Transaction) → text_inserted items at text ≡ Ok t → InsertsFirst t
  text_first items at text t h = by (fault_of text) h
    where
      by : (o : Option ForestFault) → (elim o as (λ _. Result Transaction Refusal) [
        | Some fault ↦ Err (html_refusal fault)
        | None ↦ forest_inserted items at (or_nothing (forest_of text))
      ]) ≡ Ok t → InsertsFirst t
      by (Some fault) h = cc
      by None h = forest_first items at (or_nothing (forest_of text)) t h

  pasted_first : (items : List PlainItem) (at : ℕ) (html : List ℕ) (t : Transaction) → fragment_inserted items at html ≡ Ok t → InsertsFirst t
  pasted_first items at html t h = by (is_bad_offset items at) h
    where
      by : (b : Bool) → (elim b as (λ _. Result Transaction Refusal) [
        | true ↦ Err (BadOffset at)
        | false ↦ text_inserted items at (encode_utf8_all html)
      ]) ≡ Ok t → InsertsFirst t
      by true h = cc
      by false h = text_first items at (encode_utf8_all html) t h

  -- ---- operations

  abbrev OpsFirst : List OpWords → Type 0
  OpsFirst [] = Unit {0}
  OpsFirst (op.Retain count ∷ ops) = OpsFirst ops
  OpsFirst (op.Remove count insert ∷ ops) = AllFirst opened insert × OpsFirst ops
  OpsFirst (op.Attr name to ∷ ops) = OpsFirst ops

  ops_insert : (ops : List OpWords) (items : List PlainItem) → OpsFirst ops → AllFirst opened (all_inserted (ops_on ops items))
  ops_insert [] items p = tt
  ops_insert (op.Retain count ∷ ops) items p = ops_insert ops (drop count items) p
  ops_insert (op.Remove count insert ∷ ops) items p = first-append opened insert (all_inserted (ops_on ops (drop count items))) p.0 (ops_insert ops (drop count items) p.1)
  ops_insert (op.Attr name to ∷ ops) items p = ops_insert ops items p

  applied_first : (items : List PlainItem) (ops : List OpWords) (t : Transaction) → OpsFirst ops → transaction_of_ops items ops ≡ Ok t → InsertsFirst t
  applied_first items ops t p h = by (needs ops == length items) h
    where
      by : (b : Bool) → (elim b as (λ _. Result Transaction Refusal) [
        | true ↦ Ok (ops_on ops items)
        | false ↦ Err (BadLength (length items) (needs ops))
      ]) ≡ Ok t → InsertsFirst t
      by false h = cc
      by true h = subst InsertsFirst (Ok-same {E = Refusal} (ops_on ops items) t h) (ops_insert ops items p)

  -- ---- changes

  -- what is inserted by operations is of the page
  abbrev pub ChangeFirst : EditCommand → Type 0
  ChangeFirst (change.Apply ops) = OpsFirst ops
  ChangeFirst _ = Unit {0}

  typed_first : (marks : TextMarks) (items : List PlainItem) (at : ℕ) (text : List ℕ) (t : Transaction) → text_typed marks items at text ≡ Ok t → InsertsFirst t
  typed_first Left items at text t h = edit.insertion_first opened items at (text_pieces (marks_before items at) text) t (edit.text_first opened (marks_before items at) text) h
  typed_first Plain items at text t h = edit.insertion_first opened items at (text_pieces [] text) t (edit.text_first opened [] text) h

  pub change_first : (items : List PlainItem) (c : EditCommand) (t : Transaction) → ChangeFirst c → AllFirst opened items → change_of items c ≡ Ok t → InsertsFirst t
  change_first items (change.Text at text marks) t w p h = typed_first marks items at text t (given build_refusal _ t h)
  change_first items (change.Insert at html) t w p h = pasted_first items at html t h
  change_first items (change.Remove from to) t w p h = edit.removal_first opened items from to t (given build_refusal _ t h)
  change_first items (change.Split at depth) t w p h = edit.split_first opened items at depth t (given build_refusal _ t h)
  change_first items (change.Mark from to mark) t w p h = edit.marking_first opened items from to mark t p (given build_refusal _ t h)
  change_first items (change.Unmark from to mark) t w p h = edit.unmarking_first opened items from to mark t p (given build_refusal _ t h)
  change_first items (change.Wrap from to plan) t w p h = edit.wrap_first opened items from to plan t (given build_refusal _ t h)
  change_first items (change.Convert at kind) t w p h = edit.convert_first opened items at kind t (given build_refusal _ t h)
  change_first items (change.Attr at name to) t w p h = edit.attribute_first opened items at name to t (given build_refusal _ t h)
  change_first items (change.Apply ops) t w p h = applied_first items ops t w h
  change_first items (change.NoOrigin origin) t w p h = cc

  -- ---- completed changes

  head_first : (kind : Kind) (head : Head) (marks : List Mark) (pre : List ℕ) (origin : ℕ) (generated : Bool) (o : Option (Kind × Head)) → read_for origin opened ≡ o →
      OfOk (λ item. has_first opened item ≡ true) (elim (head_for kind head o) as (λ _. Result PlainItem ℕ) [
        | None ↦ Err origin
        | Some found ↦ Ok (Opening kind found marks pre (Some origin) generated)
      ])
  head_first kind head marks pre origin generated None e = tt
  head_first kind head marks pre origin generated (Some first) e = by_kind (kind_same kind first.0) refl
    where
      chosen : (b : Bool) → is_element kind ≡ b → (is_element kind || head_same (if b then head else first.1) first.1) ≡ true
      chosen true d = ap (λ b. b || head_same head first.1) d
      chosen false d = ap (λ b. b || head_same first.1 first.1) d ∙ Means-head_same.itself first.1

      by_kind : (b : Bool) → kind_same kind first.0 ≡ b → OfOk (λ item. has_first opened item ≡ true) (elim (if b then Some (if is_element kind then head else first.1) else None) as (λ _. Result PlainItem ℕ) [
        | None ↦ Err origin
        | Some found ↦ Ok (Opening kind found marks pre (Some origin) generated)
      ])
      by_kind false d = tt
      by_kind true d =
          let found = if is_element kind then head else first.1 in
          ap (is_as_read kind found) e ∙ and_from (kind_same kind first.0) (is_element kind || head_same found first.1) d (chosen (is_element kind) refl)

  item_first : (item : PlainItem) → OfOk (λ done. has_first opened done ≡ true) (item_completed opened item)
  item_first (Char c marks) = refl
  item_first (Closing kind pre) = refl
  item_first (Opening kind head marks pre None generated) = refl
  item_first (Opening kind head marks pre (Some origin) generated) = head_first kind head marks pre origin generated (read_for origin opened) refl

  items_first : (items : List PlainItem) → OfOk (AllFirst opened) (all_completed (item_completed opened) items)
  items_first [] = tt
  items_first (x ∷ xs) =
      with_ok (λ done. has_first opened done ≡ true) (AllFirst opened) _ (item_completed opened x) (item_first x) (λ y q.
      with_ok (AllFirst opened) (AllFirst opened) _ (all_completed (item_completed opened) xs) (items_first xs) (λ ys qs. (q, qs)))

  op_first : (o : OpWords) (os : List OpWords) → OpsFirst (o ∷ []) → OpsFirst os → OpsFirst (o ∷ os)
  op_first (op.Retain count) os p q = q
  op_first (op.Remove count insert) os p q = (p.0, q)
  op_first (op.Attr name to) os p q = q

  one_op_first : (o : OpWords) → OfOk (λ done. OpsFirst (done ∷ [])) (op_completed opened o)
  one_op_first (op.Retain count) = tt
  one_op_first (op.Remove count insert) =
      with_ok (AllFirst opened) (λ done. OpsFirst (done ∷ [])) _ (all_completed (item_completed opened) insert) (items_first insert) (λ items q. (q, tt))
  one_op_first (op.Attr name to) = tt

  ops_first : (ops : List OpWords) → OfOk OpsFirst (all_completed (op_completed opened) ops)
  ops_first [] = tt
  ops_first (o ∷ ops) =
      with_ok (λ done. OpsFirst (done ∷ [])) OpsFirst _ (op_completed opened o) (one_op_first o) (λ done q.
      with_ok OpsFirst OpsFirst _ (all_completed (op_completed opened) ops) (ops_first ops) (λ rest qs. op_first done rest q qs))

  pub completed_first : (c : EditCommand) → ChangeFirst (completed opened c)
  completed_first (change.Text at text marks) = tt
  completed_first (change.Insert at html) = tt
  completed_first (change.Remove from to) = tt
  completed_first (change.Split at depth) = tt
  completed_first (change.Mark from to mark) = tt
  completed_first (change.Unmark from to mark) = tt
  completed_first (change.Wrap from to plan) = tt
  completed_first (change.Convert at kind) = tt
  completed_first (change.Attr at name to) = tt
  completed_first (change.Apply ops) = by (all_completed (op_completed opened) ops) (ops_first ops)
    where
      by : (r : Result (List OpWords) ℕ) → OfOk OpsFirst r → ChangeFirst (elim r as (λ _. EditCommand) [
        | Err origin ↦ change.NoOrigin origin
        | Ok done ↦ change.Apply done
      ])
      by (Err origin) p = tt
      by (Ok done) p = p
  completed_first (change.NoOrigin origin) = tt

  pub all_completed_first : (cs : List EditCommand) → AllByRecursion ChangeFirst (map (completed opened) cs)
  all_completed_first [] = tt
  all_completed_first (c ∷ cs) = (completed_first c, all_completed_first cs)
