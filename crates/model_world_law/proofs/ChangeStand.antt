-- The items that a read change inserts may stand, and so may the items of a page that opens.
use Rattle.std.proofs.Common.{◌≡◌, ℕ, Bool, true, false, ◌==◌, List, [], ◌∷◌, drop, length, Option, Some, None, Result, Ok, Err, refl, sym, ap, ◌∙◌, subst}
use Rattle.std.specs.List.{list_all}
use Rattle.std.specs.Prelude.{IsUtf8, encode_utf8_all, unwrap_or}
use Rattle.std.proofs.lemmas.Bool.{and_from, and_parts}
use Rattle.model_spelling.specs.Faults.{ForestFault, fault_of}
use Rattle.model_spelling.specs.Forest.{Forest}
use Rattle.model_spelling.specs.Page.{body_at}
use Rattle.model_spelling.specs.Parsed.{forest_of}
use Rattle.model_spelling.specs.declared.scan_fault.ScanFault.{ScanFault}
use Rattle.model_items.specs.declared.plain_item.PlainItem.{PlainItem}
use Rattle.model_items.specs.Offsets.{stack_at}
use Rattle.model_items.proofs.LawLemmas.{Ok-same}
use Rattle.model_change.specs.Transaction.{all_inserted, Transaction}
use Rattle.model_edit.specs.Insert.{insertion, is_bad_offset}
use Rattle.model_page.specs.Editable.{all_refer, item_refers}
use Rattle.model_page.specs.Fragment.{fragment_items}
use Rattle.model_page.specs.Limits.{fragment_limit, page_limit}
use Rattle.model_page.specs.OpenPage.{limit_in, read_page}
use Rattle.model_page.specs.PageItems.{Opened, opened_body, opened_forest, or_nothing, page_made, page_opened, slice}
use Rattle.model_page_law.proofs.EditsRefer.{fragments_refer}
use Rattle.model_page_law.proofs.OpenPageLemmas.{read_is_within}
use Rattle.model_page_law.proofs.PageRefers.{opened_refers}
use Rattle.model_site_law.specs.Sound.{Sound}
use Rattle.model_world.specs.Edits.{transaction_of_ops, built_transaction, change_of, forest_inserted, fragment_inserted, needs, ops_on, text_inserted, text_typed}
use Rattle.model_world.specs.Refusals.{build_refusal, html_refusal, open_refusal}
use Rattle.model_world.specs.declared.edit_command.EditCommand.{EditCommand}
use Rattle.model_world.specs.declared.edit_command.EditCommand.TheVariants as change
use Rattle.model_world.specs.declared.edit_command.OpWords.{OpWords}
use Rattle.model_world.specs.declared.edit_command.OpWords.TheVariants as op
use Rattle.model_world.specs.declared.edit_command.TextMarks.{TextMarks}
use Rattle.model_world.specs.declared.edit_command.TextMarks.TheVariants.{Left, Plain}
use Rattle.model_world.specs.declared.refusal.Refusal.{Refusal}
use Rattle.model_world.specs.declared.refusal.Refusal.TheVariants.{BadLength, BadOffset, TooManyMarks}
use Rattle.model_world_law.specs.Fit.{ChangesStand, InsertsStanding, MovesStand, PagesStand}
use Rattle.model_world_law.specs.Standing.{OpsStand, has_few_marks}
use Rattle.model_world_law.proofs.ChangeLemmas.{given}
use Rattle.model_world_law.proofs.CompletedLemmas.{InsertsWell, inserts_well}
use Rattle.model_world_law.proofs.FewMarks.{AllFew, fragment_few, page_few}
use Rattle.model_world_law.proofs.StandEditLemmas as edit
use Rattle.model_world_law.proofs.StandLemmas.{AllStand, stand-append}

both : (items : List PlainItem) → all_refer items ≡ true → AllFew items → AllStand items
both [] r f = tt
both (x ∷ items) r f = let p = and_parts (item_refers x) (list_all item_refers items) r in (and_from (item_refers x) (has_few_marks x) p.0 f.0, both items p.1 f.1)

ops_insert : (ops : List OpWords) (items : List PlainItem) → OpsStand ops → AllStand (all_inserted (ops_on ops items))
ops_insert [] items p = tt
ops_insert (op.Retain count ∷ ops) items p = ops_insert ops (drop count items) p
ops_insert (op.Remove count insert ∷ ops) items p = stand-append insert (all_inserted (ops_on ops (drop count items))) p.0 (ops_insert ops (drop count items) p.1)
ops_insert (op.Attr name to ∷ ops) items p = ops_insert ops items p

applied_stands : (items : List PlainItem) (ops : List OpWords) (t : Transaction) → OpsStand ops → transaction_of_ops items ops ≡ Ok t → InsertsStanding t
applied_stands items ops t p h = by (needs ops == length items) h
  where
    by : (b : Bool) → (elim b as (λ _. Result Transaction Refusal) [
      | true ↦ Ok (ops_on ops items)
      | false ↦ Err (BadLength (length items) (needs ops))
    ]) ≡ Ok t → InsertsStanding t
    by false h = cc
    by true h = subst InsertsStanding (Ok-same {E = Refusal} (ops_on ops items) t h) (ops_insert ops items p)

-- ---- fragments

forest_stands : (items : List PlainItem) (at : ℕ) (f : Forest) (t : Transaction) → Sound items → forest_inserted items at f ≡ Ok t → InsertsStanding t
forest_stands items at f t s h = by (fragment_limit (stack_at items at) f) refl h
  where
    by : (o : Option ℕ) → fragment_limit (stack_at items at) f ≡ o → (elim o as (λ _. Result Transaction Refusal) [
      | Some byte ↦ Err (TooManyMarks byte)
      | None ↦ built_transaction (insertion items at (fragment_items (stack_at items at) f))
    ]) ≡ Ok t → InsertsStanding t
    by (Some byte) e h = cc
    by None e h =
        let pieces = fragment_items (stack_at items at) f in
        edit.insertion_stands items at pieces t s.lawful (both pieces (fragments_refer (stack_at items at) f) (fragment_few (stack_at items at) f e)) (given build_refusal _ t h)

text_stands : (items : List PlainItem) (at : ℕ) (text : List ℕ) (t : Transaction) → Sound items → text_inserted items at text ≡ Ok t → InsertsStanding t
text_stands items at text t s h = by (fault_of text) h
  where
    by : (o : Option ForestFault) → (elim o as (λ _. Result Transaction Refusal) [
      | Some fault ↦ Err (html_refusal fault)
      | None ↦ forest_inserted items at (or_nothing (forest_of text))
    ]) ≡ Ok t → InsertsStanding t
    by (Some fault) h = cc
    by None h = forest_stands items at (or_nothing (forest_of text)) t s h

fragment_stands : (items : List PlainItem) (at : ℕ) (html : List ℕ) (t : Transaction) → Sound items → fragment_inserted items at html ≡ Ok t → InsertsStanding t
fragment_stands items at html t s h = by (is_bad_offset items at) h
  where
    by : (b : Bool) → (elim b as (λ _. Result Transaction Refusal) [
      | true ↦ Err (BadOffset at)
      | false ↦ text_inserted items at (encode_utf8_all html)
    ]) ≡ Ok t → InsertsStanding t
    by true h = cc
    by false h = text_stands items at (encode_utf8_all html) t s h

-- ---- changes

typed_stand : (marks : TextMarks) (items : List PlainItem) (at : ℕ) (text : List ℕ) (t : Transaction) → Sound items → AllStand items → text_typed marks items at text ≡ Ok t → InsertsStanding t
typed_stand Left items at text t s p h = edit.typing_stands items at text t s.lawful p h
typed_stand Plain items at text t s p h = edit.plain_typing_stands items at text t s.lawful h

pub standing_stands : (items : List PlainItem) (c : EditCommand) (t : Transaction) → InsertsWell c → Sound items → AllStand items → change_of items c ≡ Ok t → InsertsStanding t
standing_stands items (change.Text at text marks) t w s p h = typed_stand marks items at text t s p (given build_refusal _ t h)
standing_stands items (change.Insert at html) t w s p h = fragment_stands items at html t s h
standing_stands items (change.Remove from to) t w s p h = edit.removal_stands items from to t (given build_refusal _ t h)
standing_stands items (change.Split at depth) t w s p h = edit.split_stands items at depth t s.lawful (given build_refusal _ t h)
standing_stands items (change.Mark from to mark) t w s p h = edit.marking_stands items from to mark t p (given build_refusal _ t h)
standing_stands items (change.Unmark from to mark) t w s p h = edit.unmarking_stands items from to mark t p (given build_refusal _ t h)
standing_stands items (change.Wrap from to plan) t w s p h = edit.wrap_stands items from to plan t w (given build_refusal _ t h)
standing_stands items (change.Convert at kind) t w s p h = edit.convert_stands items at kind t p (given build_refusal _ t h)
standing_stands items (change.Attr at name to) t w s p h = edit.attribute_stands items at name to t (given build_refusal _ t h)
standing_stands items (change.Apply ops) t w s p h = applied_stands items ops t w h
standing_stands items (change.NoOrigin origin) t w s p h = cc

pub changes_stand : ChangesStand
changes_stand items c t w s p h = standing_stands items c t (inserts_well c w) s p h

pub moves_stand : MovesStand
moves_stand = record {
  row_in = λ items at row t s h. edit.row_in_stands items at row t h;
  row_out = λ items at row t s h. edit.row_out_stands items at row t h;
  col_in = λ items at column t s h. edit.col_in_stands items at column t h;
  col_out = λ items at column t s h. edit.col_out_stands items at column t h;
  indent = λ items at t s h. edit.indent_stands items at t s.lawful h;
  outdent = λ items at t s h. edit.outdent_stands items at t s.lawful h;
}

-- ---- pages

forest_few : (page : List ℕ) (from to : ℕ) (r : Option Forest) → forest_of (slice page from to) ≡ r → (o : Opened) → opened_forest page (record { from = from; to = to }) r ≡ Some o → limit_in o ≡ None → AllFew o.items
forest_few page from to None e o h none = cc
forest_few page from to (Some f) e o h none =
    let first : Opened = page_opened page (record { from = from; to = to }) (page_made from f) in
    let is : first ≡ o = let p : ◌≡◌ {A = Option Opened} (Some first) (Some o) = h in ap (λ x. unwrap_or x first) p in
    let same : limit_in first ≡ page_limit from f = ap (λ r. page_limit from (or_nothing r)) e in
    subst (λ x. AllFew x.items) is (page_few from f (sym same ∙ ap limit_in is ∙ none))

body_few : (page : List ℕ) (body : Result (ℕ × ℕ) ScanFault) (o : Opened) → opened_body page body ≡ Some o → limit_in o ≡ None → AllFew o.items
body_few page (Err f) o h none = cc
body_few page (Ok body) o h none = forest_few page body.0 body.1 (forest_of (slice page body.0 body.1)) refl o h none

forest_page : (page : List ℕ) (from to : ℕ) (r : Option Forest) (o : Opened) → opened_forest page (record { from = from; to = to }) r ≡ Some o → o.page ≡ page
forest_page page from to None o h = cc
forest_page page from to (Some f) o h =
    let first : Opened = page_opened page (record { from = from; to = to }) (page_made from f) in
    let is : first ≡ o = let p : ◌≡◌ {A = Option Opened} (Some first) (Some o) = h in ap (λ x. unwrap_or x first) p in
    ap (λ x. x.page) (sym is)

body_page : (page : List ℕ) (body : Result (ℕ × ℕ) ScanFault) (o : Opened) → opened_body page body ≡ Some o → o.page ≡ page
body_page page (Err f) o h = cc
body_page page (Ok body) o h = forest_page page body.0 body.1 (forest_of (slice page body.0 body.1)) o h

pub pages_stand : PagesStand
pages_stand page o u h =
    let bytes = encode_utf8_all page in
    let within = read_is_within bytes o (given open_refusal (read_page bytes) o h) in
    let same : o.page ≡ bytes = body_page bytes (body_at bytes) o within.opens in
    both o.items (opened_refers bytes o (subst IsUtf8 same u) within.opens) (body_few bytes (body_at bytes) o within.opens within.limit)
