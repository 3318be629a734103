-- Every change that was read gives, on every sound list, a reduced transaction that puts in names
-- apart; and a page that opens is a sound list.
use Rattle.std.proofs.Common.{◌≡◌, ℕ, zero, suc, ◌+◌, ◌≤◌, ◌==◌, Bool, true, false, not, ◌&&◌, nat_lt, List, [], ◌∷◌, length, take, drop, Option, Some, None, Result, Ok, Err, refl, ap, ◌∙◌, subst, arith}
use Rattle.std.specs.Prelude.{encode_utf8_all, unwrap_or}
use Rattle.std.proofs.lemmas.Bool.{and_parts, and_from, eqb-true}
use Rattle.std.proofs.lemmas.List.{length-drop}
use Rattle.model_spelling.specs.declared.scan_fault.ScanFault.{ScanFault}
use Rattle.model_spelling.specs.Forest.{Forest}
use Rattle.model_spelling.specs.Faults.{ForestFault, fault_of}
use Rattle.model_spelling.specs.Parsed.{forest_of}
use Rattle.model_spelling.specs.Page.{body_at}
use Rattle.model_spelling.proofs.Proved.{law_reads_right}
use Rattle.model_items.specs.declared.plain_item.PlainItem.{PlainItem}
use Rattle.model_items.specs.Same.{text_same}
use Rattle.model_items.proofs.LawLemmas.{Ok-same}
use Rattle.model_change.specs.Attributes.{AllNamesApart}
use Rattle.model_change.specs.Transaction.{Op, Retain, Replace, Attribute, Transaction, may_precede, is_something, is_reduced, InsertedApart}
use Rattle.model_page.specs.PageItems.{Opened, page_opened, opened_forest, opened_body, page_made, slice, or_nothing}
use Rattle.model_page.specs.Fragment.{fragment_items}
use Rattle.model_page.specs.Limits.{fragment_limit}
use Rattle.model_page.specs.OpenPage.{read_page}
use Rattle.model_page_law.proofs.OpenPageLemmas.{read_is_lawful, read_is_within}
use Rattle.model_items.specs.Offsets.{stack_at}
use Rattle.model_edit.specs.Insert.{is_bad_offset, marks_before, text_pieces, insertion}
use Rattle.model_site_law.specs.Sound.{Sound}
use Rattle.model_world.specs.declared.edit_command.TextMarks.{TextMarks}
use Rattle.model_world.specs.declared.edit_command.TextMarks.TheVariants.{Left, Plain}
use Rattle.model_world.specs.declared.edit_command.OpWords.{OpWords}
use Rattle.model_world.specs.declared.edit_command.OpWords.TheVariants as op
use Rattle.model_world.specs.declared.edit_command.EditCommand.{EditCommand}
use Rattle.model_world.specs.declared.edit_command.EditCommand.TheVariants as change
use Rattle.model_world.specs.declared.refusal.Refusal.{Refusal}
use Rattle.model_world.specs.declared.refusal.Refusal.TheVariants.{BadOffset, BadLength, TooManyMarks}
use Rattle.model_world.specs.Operations as operations
use Rattle.model_world.specs.Refusals.{refused_as, html_refusal, build_refusal, open_refusal}
use Rattle.model_world.specs.Edits.{built_transaction, change_of, forest_inserted, text_inserted, fragment_inserted, needs, set_first, ops_on, transaction_of_ops, text_typed}
use Rattle.model_world_law.specs.Fit.{Fit, OpsApart, ChangesFit, PagesAreSound}
use Rattle.model_world_law.proofs.CompletedLemmas.{IsFormed, formed}
use Rattle.model_world_law.proofs.BuilderLemmas.{insertion_fits, split_fits, removal_fits, marking_fits, unmarking_fits, wrap_fits, convert_fits, attribute_fits}
use Rattle.model_world_law.proofs.MadeLemmas.{apart-chars, ForestApart, forest_apart, read_apart, fragment_apart, page_apart}

pub given : {A E : Type 0} (named : E → Refusal) (r : Result A E) (x : A) → refused_as named r ≡ Ok x → r ≡ Ok x
given named (Ok y) x h = ap (λ z. Ok z) (Ok-same {E = Refusal} y x h)
given named (Err f) x h = cc

-- ---- operations as they are written

ops_apart : (ops : List OpWords) (items : List PlainItem) → OpsApart ops → InsertedApart (ops_on ops items)
ops_apart [] items p = tt
ops_apart (op.Retain count ∷ ops) items p = ops_apart ops (drop count items) p
ops_apart (op.Remove count insert ∷ ops) items p = (p.0, ops_apart ops (drop count items) p.1)
ops_apart (op.Attr name to ∷ ops) items p = ops_apart ops items p

-- the operation that the words are at these items
abbrev op_on : OpWords → List PlainItem → Op
op_on (op.Retain count) items = Retain count
op_on (op.Remove count insert) items = Replace (take count items) insert
op_on (op.Attr name to) items = Attribute (set_first name to items)

precedes : (o : OpWords) (ops : List OpWords) (here items : List PlainItem) → operations.word_may_precede o ops ≡ true → may_precede (op_on o here) (ops_on ops items) ≡ true
precedes (op.Retain count) [] here items h = refl
precedes (op.Retain count) (op.Retain other ∷ ops) here items h = cc
precedes (op.Retain count) (op.Remove other others ∷ ops) here items h = refl
precedes (op.Retain count) (op.Attr other value ∷ ops) here items h = refl
precedes (op.Remove count insert) [] here items h = refl
precedes (op.Remove count insert) (op.Retain other ∷ ops) here items h = refl
precedes (op.Remove count insert) (op.Remove other others ∷ ops) here items h = cc
precedes (op.Remove count insert) (op.Attr other value ∷ ops) here items h = refl
precedes (op.Attr name to) [] here items h = cc
precedes (op.Attr name to) (op.Retain other ∷ ops) here items h = refl
precedes (op.Attr name to) (op.Remove other others ∷ ops) here items h = cc
precedes (op.Attr name to) (op.Attr other value ∷ ops) here items h =
    let p = and_parts (not (text_same name other)) (operations.word_may_precede (op.Attr name to) ops) h in
    and_from (not (text_same name other)) (may_precede (Attribute (set_first name to here)) (ops_on ops items))
    p.0
    (precedes (op.Attr name to) ops here items p.1)

taken : (n : ℕ) (items : List PlainItem) → n ≤ length items → length (take n items) ≡ n
taken zero items h = refl
taken (suc n) [] h = absurd (omega arith)
taken (suc n) (item ∷ items) h = ap suc (taken n items (omega arith))

somethings : (o : OpWords) (items : List PlainItem) → needs (o ∷ []) ≤ length items → operations.word_is_something o ≡ true → is_something (op_on o items) ≡ true
somethings (op.Retain count) items n h = h
somethings (op.Remove count insert) items n h = ap (λ k. nat_lt 0 (k + length insert)) (taken count items (omega arith)) ∙ h
somethings (op.Attr name to) items n h = refl

ops_reduced : (ops : List OpWords) (items : List PlainItem) → needs ops ≤ length items → operations.words_are_normal ops ≡ true → is_reduced (ops_on ops items) ≡ true
ops_reduced [] items n h = refl
ops_reduced (op.Retain count ∷ ops) items n h =
    let p = and_parts (operations.word_is_something (op.Retain count)) (operations.word_may_precede (op.Retain count) ops && operations.words_are_normal ops) h in
    let q = and_parts (operations.word_may_precede (op.Retain count) ops) (operations.words_are_normal ops) p.1 in
    let rest = drop count items in
    and_from (nat_lt 0 count) (may_precede (Retain count) (ops_on ops rest) && is_reduced (ops_on ops rest)) p.0
    (and_from (may_precede (Retain count) (ops_on ops rest)) (is_reduced (ops_on ops rest)) (precedes (op.Retain count) ops items rest q.0)
    (ops_reduced ops rest (omega (arith, length-drop count items)) q.1))
ops_reduced (op.Remove count insert ∷ ops) items n h =
    let p = and_parts (operations.word_is_something (op.Remove count insert)) (operations.word_may_precede (op.Remove count insert) ops && operations.words_are_normal ops) h in
    let q = and_parts (operations.word_may_precede (op.Remove count insert) ops) (operations.words_are_normal ops) p.1 in
    let rest = drop count items in
    let here = Replace (take count items) insert in
    and_from (is_something here) (may_precede here (ops_on ops rest) && is_reduced (ops_on ops rest)) (somethings (op.Remove count insert) items (omega arith) p.0)
    (and_from (may_precede here (ops_on ops rest)) (is_reduced (ops_on ops rest)) (precedes (op.Remove count insert) ops items rest q.0)
    (ops_reduced ops rest (omega (arith, length-drop count items)) q.1))
ops_reduced (op.Attr name to ∷ ops) items n h =
    let q = and_parts (operations.word_may_precede (op.Attr name to) ops) (operations.words_are_normal ops) h in
    let here = Attribute (set_first name to items) in
    and_from (may_precede here (ops_on ops items)) (is_reduced (ops_on ops items)) (precedes (op.Attr name to) ops items items q.0) (ops_reduced ops items n q.1)

applied_fits : (items : List PlainItem) (ops : List OpWords) (t : Transaction) → operations.words_are_normal ops ≡ true → OpsApart ops → transaction_of_ops items ops ≡ Ok t → Fit t
applied_fits items ops t normal apart h = by (needs ops == length items) refl h
  where
    by : (b : Bool) → (needs ops == length items) ≡ b → (elim b as (λ _. Result Transaction Refusal) [
      | true ↦ Ok (ops_on ops items)
      | false ↦ Err (BadLength (length items) (needs ops))
    ]) ≡ Ok t → Fit t
    by false e h = cc
    by true e h =
        let same : ops_on ops items ≡ t = Ok-same {E = Refusal} _ t h in
        let n : needs ops ≡ length items = eqb-true (needs ops) (length items) e in
        subst Fit same (record { reduced = ops_reduced ops items (omega arith) normal; apart = ops_apart ops items apart })

-- ---- fragments

forest_fits : (items : List PlainItem) (at : ℕ) (f : Forest) (t : Transaction) → Sound items → ForestApart f → forest_inserted items at f ≡ Ok t → Fit t
forest_fits items at f t s g h = by (fragment_limit (stack_at items at) f) h
  where
    by : (o : Option ℕ) → (elim o as (λ _. Result Transaction Refusal) [
      | Some byte ↦ Err (TooManyMarks byte)
      | None ↦ built_transaction (insertion items at (fragment_items (stack_at items at) f))
    ]) ≡ Ok t → Fit t
    by (Some byte) h = cc
    by None h = insertion_fits items at (fragment_items (stack_at items at) f) t s (fragment_apart (stack_at items at) f g) (given build_refusal _ t h)

text_fits : (items : List PlainItem) (at : ℕ) (text : List ℕ) (t : Transaction) → Sound items → text_inserted items at text ≡ Ok t → Fit t
text_fits items at text t s h = by (fault_of text) h
  where
    by : (o : Option ForestFault) → (elim o as (λ _. Result Transaction Refusal) [
      | Some fault ↦ Err (html_refusal fault)
      | None ↦ forest_inserted items at (or_nothing (forest_of text))
    ]) ≡ Ok t → Fit t
    by (Some fault) h = cc
    by None h = forest_fits items at (or_nothing (forest_of text)) t s (read_apart text) h

fragment_fits : (items : List PlainItem) (at : ℕ) (html : List ℕ) (t : Transaction) → Sound items → fragment_inserted items at html ≡ Ok t → Fit t
fragment_fits items at html t s h = by (is_bad_offset items at) h
  where
    by : (b : Bool) → (elim b as (λ _. Result Transaction Refusal) [
      | true ↦ Err (BadOffset at)
      | false ↦ text_inserted items at (encode_utf8_all html)
    ]) ≡ Ok t → Fit t
    by true h = cc
    by false h = text_fits items at (encode_utf8_all html) t s h

-- ---- changes

typed_fits : (marks : TextMarks) (items : List PlainItem) (at : ℕ) (text : List ℕ) (t : Transaction) → Sound items → text_typed marks items at text ≡ Ok t → Fit t
typed_fits Left items at text t s h = insertion_fits items at (text_pieces (marks_before items at) text) t s (apart-chars (marks_before items at) text) h
typed_fits Plain items at text t s h = insertion_fits items at (text_pieces [] text) t s (apart-chars [] text) h

pub formed_fits : (items : List PlainItem) (c : EditCommand) (t : Transaction) → IsFormed c → Sound items → change_of items c ≡ Ok t → Fit t
formed_fits items (change.Text at text marks) t w s h = typed_fits marks items at text t s (given build_refusal _ t h)
formed_fits items (change.Insert at html) t w s h = fragment_fits items at html t s h
formed_fits items (change.Remove from to) t w s h = removal_fits items from to t s (given build_refusal _ t h)
formed_fits items (change.Split at depth) t w s h = split_fits items at depth t s (given build_refusal _ t h)
formed_fits items (change.Mark from to mark) t w s h = marking_fits items from to mark t s (given build_refusal _ t h)
formed_fits items (change.Unmark from to mark) t w s h = unmarking_fits items from to mark t s (given build_refusal _ t h)
formed_fits items (change.Wrap from to plan) t w s h = wrap_fits items from to plan t w s (given build_refusal _ t h)
formed_fits items (change.Convert at kind) t w s h = convert_fits items at kind t s (given build_refusal _ t h)
formed_fits items (change.Attr at name to) t w s h = attribute_fits items at name to t (given build_refusal _ t h)
formed_fits items (change.Apply ops) t w s h = applied_fits items ops t w.0 w.1 h
formed_fits items (change.NoOrigin origin) t w s h = cc

pub changes_fit : ChangesFit
changes_fit items c t w s h = formed_fits items c t (formed c w) s h

-- ---- pages

forest_page : (page : List ℕ) (from to : ℕ) (r : Option Forest) → forest_of (slice page from to) ≡ r → (o : Opened) → opened_forest page (record { from = from; to = to }) r ≡ Some o → AllNamesApart o.items
forest_page page from to None e o h = cc
forest_page page from to (Some f) e o h =
    let first : Opened = page_opened page (record { from = from; to = to }) (page_made from f) in
    let is : first ≡ o = let p : ◌≡◌ {A = Option Opened} (Some first) (Some o) = h in ap (λ x. unwrap_or x first) p in
    subst (λ x. AllNamesApart x.items) is (page_apart from f (forest_apart 200 f (law_reads_right (slice page from to) f e).1))

body_page : (page : List ℕ) (body : Result (ℕ × ℕ) ScanFault) (o : Opened) → opened_body page body ≡ Some o → AllNamesApart o.items
body_page page (Err f) o h = cc
body_page page (Ok body) o h = forest_page page body.0 body.1 (forest_of (slice page body.0 body.1)) refl o h

pub pages_are_sound : PagesAreSound
pages_are_sound page o h =
    let bytes = encode_utf8_all page in
    let r : read_page bytes ≡ Ok o = given open_refusal (read_page bytes) o h in
    record { lawful = read_is_lawful bytes o r; apart = body_page bytes (body_at bytes) o (read_is_within bytes o r).opens }
