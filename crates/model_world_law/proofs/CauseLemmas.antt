-- Where a change, a row, a column or a list item is refused as `store_full`, the store is full.
use Rattle.std.specs.Option.{option_or}
use Rattle.std.proofs.Common.{◌≡◌, ◌<◌, ℕ, zero, suc, ◌+◌, ◌==◌, Bool, true, false, ◌&&◌, nat_lt, if◌then◌else◌, List, [], ◌∷◌, length, take, drop, Option, Some, None, Result, Ok, Err, refl, sym, ap, ◌∙◌, subst}
use Rattle.std.specs.Prelude.{encode_utf8_all, option_map}
use Rattle.std.proofs.lemmas.Bool.{and_parts, ltb-true}
use Rattle.ve_base.specs.Limits.{max_values, max_items}
use Rattle.model_spelling.specs.Forest.{Forest}
use Rattle.model_spelling.specs.Faults.{ForestFault, fault_of}
use Rattle.model_spelling.specs.Faults as forest
use Rattle.model_spelling.specs.Parsed.{forest_of}
use Rattle.model_items.specs.declared.plain_item.PlainItem.{PlainItem}
use Rattle.model_items.specs.declared.law_fault.LawFault.{LawFault}
use Rattle.model_items.specs.declared.law_fault.LawFault.TheVariants as law
use Rattle.model_items.specs.Law.{verdict}
use Rattle.model_items.proofs.SameLemmas.{Means-item_same}
use Rattle.model_items.proofs.LawLemmas.{Ok-same}
use Rattle.model_change.specs.declared.tx_fault.TxFault.{TxFault}
use Rattle.model_change.specs.declared.tx_fault.TxFault.TheVariants as tx
use Rattle.model_change.specs.Attributes.{item_changed}
use Rattle.model_change.specs.Transaction.{Transaction, old_length, on_first}
use Rattle.model_change.specs.Fault.{differs_at, mismatch_at, bad_attribute_at, fault}
use Rattle.model_page.specs.PageItems.{or_nothing}
use Rattle.model_page.specs.Fragment.{fragment_items}
use Rattle.model_page.specs.Limits.{fragment_limit}
use Rattle.model_edit.specs.Causes.{BuildCause, TableCause, ListCause}
use Rattle.model_edit.specs.Tables.{row_in, row_out, col_in, col_out}
use Rattle.model_edit.specs.Lists.{indent, outdent}
use Rattle.model_edit_law.proofs.TableFineLemmas.{row_in_fine, row_out_fine, col_in_fine, col_out_fine}
use Rattle.model_edit_law.proofs.IndentLemmas.{indent_fine}
use Rattle.model_edit_law.proofs.OutdentLemmas.{outdent_fine}
use Rattle.model_edit.specs.Causes as build
use Rattle.model_items.specs.Offsets.{stack_at}
use Rattle.model_edit.specs.Insert.{is_bad_offset, marks_before, text_pieces, insertion, split}
use Rattle.model_edit.specs.Remove.{removal}
use Rattle.model_edit.specs.Marking.{marking, unmarking}
use Rattle.model_edit.specs.Wrap.{wrap}
use Rattle.model_edit.specs.Convert.{convert, attribute}
use Rattle.model_edit_law.specs.Fine.{Fine}
use Rattle.model_edit_law.proofs.InsertLemmas.{insertion_fine, split_fine}
use Rattle.model_edit_law.proofs.RemoveLemmas.{removal_fine}
use Rattle.model_edit_law.proofs.ShapeLemmas.{marking_fine, unmarking_fine, convert_fine, attribute_fine}
use Rattle.model_edit_law.proofs.WrapLemmas.{wrap_fine}
use Rattle.model_site.specs.Causes.{EditCause}
use Rattle.model_site.specs.Causes as edit
use Rattle.model_site.specs.Replica.{Replica, performed}
use Rattle.model_site.specs.Refused.{law_cause, items_cause, store_cause, edit_cause}
use Rattle.model_site_law.specs.Sound.{Sound}
use Rattle.model_world.specs.declared.edit_command.TextMarks.{TextMarks}
use Rattle.model_world.specs.declared.edit_command.TextMarks.TheVariants.{Left, Plain}
use Rattle.model_world.specs.declared.edit_command.OpWords.{OpWords}
use Rattle.model_world.specs.declared.edit_command.OpWords.TheVariants as op
use Rattle.model_world.specs.declared.edit_command.EditCommand.{EditCommand}
use Rattle.model_world.specs.declared.edit_command.EditCommand.TheVariants as change
use Rattle.model_world.specs.declared.refusal.Refusal.{Refusal}
use Rattle.model_world.specs.declared.refusal.Refusal.TheVariants.{StoreFull, BadOffset, BadLength, TooManyMarks}
use Rattle.model_world.specs.Operations as operations
use Rattle.model_world.specs.Refusals.{html_refusal, build_refusal, table_refusal, list_refusal}
use Rattle.model_world.specs.Edits.{built_transaction, forest_inserted, text_inserted, fragment_inserted, needs, set_first, ops_on, transaction_of_ops, text_typed, change_of, unless_faulty, checked_transaction}
use Rattle.model_world_law.specs.Fit.{IsWritten}
use Rattle.model_world_law.specs.Causes.{FillsStore, StoreFullIsFull, IsFullFor, MovesFillStore}
use Rattle.model_world_law.proofs.ChangeLemmas.{given}

-- ---- no builder is refused as a full store

built_is : (r : Result Transaction BuildCause) → built_transaction r ≡ Err StoreFull → ⊥
built_is (Ok t) h = cc
built_is (Err (build.BadOffset at)) h = cc
built_is (Err (build.NoPlace at)) h = cc
built_is (Err (build.NotContent at)) h = cc
built_is (Err (build.BadDepth depth)) h = cc
built_is (Err (build.BadRange from to)) h = cc
built_is (Err build.BadMark) h = cc
built_is (Err (build.TooManyMarks at)) h = cc
built_is (Err (build.NotWrapped at)) h = cc
built_is (Err (build.NotBranch at)) h = cc
built_is (Err (build.NotOpening at)) h = cc
built_is (Err (build.BadAttr at)) h = cc

-- ---- nor is a fragment, or operations

html_is : (f : ForestFault) → ◌≡◌ {A = Result Transaction Refusal} (Err (html_refusal f)) (Err StoreFull) → ⊥
html_is (forest.Scan f) h = cc
html_is (forest.Mismatched at) h = cc
html_is (forest.Unclosed at) h = cc
html_is (forest.Stray at) h = cc
html_is (forest.TooDeep at) h = cc

forest_is : (items : List PlainItem) (at : ℕ) (f : Forest) → forest_inserted items at f ≡ Err StoreFull → ⊥
forest_is items at f h = by (fragment_limit (stack_at items at) f) h
  where
    by : (o : Option ℕ) → (elim o as (λ _. Result Transaction Refusal) [
      | Some byte ↦ Err (TooManyMarks byte)
      | None ↦ built_transaction (insertion items at (fragment_items (stack_at items at) f))
    ]) ≡ Err StoreFull → ⊥
    by (Some byte) h = cc
    by None h = built_is (insertion items at (fragment_items (stack_at items at) f)) h

text_is : (items : List PlainItem) (at : ℕ) (text : List ℕ) → text_inserted items at text ≡ Err StoreFull → ⊥
text_is items at text h = by (fault_of text) h
  where
    by : (o : Option ForestFault) → (elim o as (λ _. Result Transaction Refusal) [
      | Some fault ↦ Err (html_refusal fault)
      | None ↦ forest_inserted items at (or_nothing (forest_of text))
    ]) ≡ Err StoreFull → ⊥
    by (Some fault) h = html_is fault h
    by None h = forest_is items at (or_nothing (forest_of text)) h

fragment_is : (items : List PlainItem) (at : ℕ) (html : List ℕ) → fragment_inserted items at html ≡ Err StoreFull → ⊥
fragment_is items at html h = by (is_bad_offset items at) h
  where
    by : (b : Bool) → (elim b as (λ _. Result Transaction Refusal) [
      | true ↦ Err (BadOffset at)
      | false ↦ text_inserted items at (encode_utf8_all html)
    ]) ≡ Err StoreFull → ⊥
    by true h = cc
    by false h = text_is items at (encode_utf8_all html) h

applied_is : (items : List PlainItem) (ops : List OpWords) → transaction_of_ops items ops ≡ Err StoreFull → ⊥
applied_is items ops h = by (needs ops == length items) h
  where
    by : (b : Bool) → (elim b as (λ _. Result Transaction Refusal) [
      | true ↦ Ok (ops_on ops items)
      | false ↦ Err (BadLength (length items) (needs ops))
    ]) ≡ Err StoreFull → ⊥
    by true h = cc
    by false h = cc

change_is : (items : List PlainItem) (c : EditCommand) → change_of items c ≡ Err StoreFull → ⊥
change_is items (change.Text at text marks) h = built_is (text_typed marks items at text) h
change_is items (change.Insert at html) h = fragment_is items at html h
change_is items (change.Remove from to) h = built_is (removal items from to) h
change_is items (change.Split at depth) h = built_is (split items at depth) h
change_is items (change.Mark from to mark) h = built_is (marking items from to mark) h
change_is items (change.Unmark from to mark) h = built_is (unmarking items from to mark) h
change_is items (change.Wrap from to plan) h = built_is (wrap items from to plan) h
change_is items (change.Convert at kind) h = built_is (convert items at kind) h
change_is items (change.Attr at name to) h = built_is (attribute items at name to) h
change_is items (change.Apply ops) h = applied_is items ops h
change_is items (change.NoOrigin origin) h = cc

-- ---- what is removed is the list's own

abbrev Matches : Transaction → List PlainItem → Type 0
Matches t items = mismatch_at 0 t items ≡ None

same_prefix : (n at : ℕ) (items : List PlainItem) → differs_at at (take n items) items ≡ None
same_prefix zero at items = refl
same_prefix (suc n) at [] = refl
same_prefix (suc n) at (item ∷ items) = ap (λ b. if b then differs_at (suc at) (take n items) items else Some at) (Means-item_same.itself item) ∙ same_prefix n (suc at) items

take_gone : (n : ℕ) (items : List PlainItem) → drop (length (take n items)) items ≡ drop n items
take_gone zero items = refl
take_gone (suc n) [] = refl
take_gone (suc n) (item ∷ items) = take_gone n items

drop_none : (n : ℕ) (xs : List PlainItem) → xs ≡ [] → drop n xs ≡ []
drop_none zero xs e = e
drop_none (suc n) [] e = refl
drop_none (suc n) (x ∷ xs) e = cc

past_first : (n : ℕ) (xs ys : List PlainItem) → drop 1 xs ≡ drop 1 ys → drop (suc n) xs ≡ drop (suc n) ys
past_first n [] [] e = refl
past_first n [] (y ∷ ys) e = sym (drop_none n ys (sym e))
past_first n (x ∷ xs) [] e = drop_none n xs e
past_first n (x ∷ xs) (y ∷ ys) e = ap (drop n) e

first_changed : (f : PlainItem → PlainItem) (items : List PlainItem) → drop 1 (on_first f items) ≡ drop 1 items
first_changed f [] = refl
first_changed f (item ∷ items) = refl

-- after attributes of the first item were set, which a retain follows
mutual
  ops_match : (ops : List OpWords) (at : ℕ) (items : List PlainItem) → operations.words_are_normal ops ≡ true → mismatch_at at (ops_on ops items) items ≡ None
  ops_match [] at items h = refl
  ops_match (op.Retain count ∷ ops) at items h =
      let p = and_parts (operations.word_is_something (op.Retain count)) (operations.word_may_precede (op.Retain count) ops && operations.words_are_normal ops) h in
      ops_match ops (at + count) (drop count items) (and_parts (operations.word_may_precede (op.Retain count) ops) (operations.words_are_normal ops) p.1).1
  ops_match (op.Remove count insert ∷ ops) at items h =
      let p = and_parts (operations.word_is_something (op.Remove count insert)) (operations.word_may_precede (op.Remove count insert) ops && operations.words_are_normal ops) h in
      ap (λ o. option_or o (mismatch_at (at + length (take count items)) (ops_on ops (drop count items)) (drop (length (take count items)) items))) (same_prefix count at items)
      ∙ ap (λ rest. mismatch_at (at + length (take count items)) (ops_on ops (drop count items)) rest) (take_gone count items)
      ∙ ops_match ops (at + length (take count items)) (drop count items) (and_parts (operations.word_may_precede (op.Remove count insert) ops) (operations.words_are_normal ops) p.1).1
  ops_match (op.Attr name to ∷ ops) at items h =
      let p = and_parts (operations.word_may_precede (op.Attr name to) ops) (operations.words_are_normal ops) h in
      after_match name to ops at items (on_first (item_changed (set_first name to items)) items) p.0 p.1 (first_changed (item_changed (set_first name to items)) items)

  after_match : (name : List ℕ) (to : Option (List ℕ)) (ops : List OpWords) (at : ℕ) (items other : List PlainItem) → operations.word_may_precede (op.Attr name to) ops ≡ true →
      operations.words_are_normal ops ≡ true → drop 1 other ≡ drop 1 items → mismatch_at at (ops_on ops items) other ≡ None
  after_match name to [] at items other m h e = cc
  after_match name to (op.Retain zero ∷ ops) at items other m h e = cc
  after_match name to (op.Retain (suc n) ∷ ops) at items other m h e =
      let p = and_parts (operations.word_is_something (op.Retain (suc n))) (operations.word_may_precede (op.Retain (suc n)) ops && operations.words_are_normal ops) h in
      ap (λ rest. mismatch_at (at + suc n) (ops_on ops (drop (suc n) items)) rest) (past_first n other items e)
      ∙ ops_match ops (at + suc n) (drop (suc n) items) (and_parts (operations.word_may_precede (op.Retain (suc n)) ops) (operations.words_are_normal ops) p.1).1
  after_match name to (op.Remove count insert ∷ ops) at items other m h e = cc
  after_match name to (op.Attr next value ∷ ops) at items other m h e =
      let p = and_parts (operations.word_may_precede (op.Attr next value) ops) (operations.words_are_normal ops) h in
      after_match next value ops at items (on_first (item_changed (set_first next value items)) other) p.0 p.1 (first_changed (item_changed (set_first next value items)) other ∙ e)

fault_none : (b : Bool) (o p : Option ℕ) (e : TxFault) → (if b then option_or (option_map (λ at. tx.Mismatch at) o) (option_map (λ at. tx.BadAttr at) p) else Some e) ≡ None → o ≡ None
fault_none true None p e h = refl
fault_none true (Some at) p e h = cc
fault_none false o p e h = cc

fine_match : (items : List PlainItem) (t : Transaction) → Fine items t → Matches t items
fine_match items t f = fault_none (old_length t == length items) (mismatch_at 0 t items) (bad_attribute_at 0 t items) (tx.BadLength (length items) (old_length t)) f.applies

forest_match : (items : List PlainItem) (at : ℕ) (f : Forest) (t : Transaction) → forest_inserted items at f ≡ Ok t → Matches t items
forest_match items at f t h = by (fragment_limit (stack_at items at) f) h
  where
    by : (o : Option ℕ) → (elim o as (λ _. Result Transaction Refusal) [
      | Some byte ↦ Err (TooManyMarks byte)
      | None ↦ built_transaction (insertion items at (fragment_items (stack_at items at) f))
    ]) ≡ Ok t → Matches t items
    by (Some byte) h = cc
    by None h = fine_match items t (insertion_fine items at (fragment_items (stack_at items at) f) t (given build_refusal _ t h))

text_match : (items : List PlainItem) (at : ℕ) (text : List ℕ) (t : Transaction) → text_inserted items at text ≡ Ok t → Matches t items
text_match items at text t h = by (fault_of text) h
  where
    by : (o : Option ForestFault) → (elim o as (λ _. Result Transaction Refusal) [
      | Some fault ↦ Err (html_refusal fault)
      | None ↦ forest_inserted items at (or_nothing (forest_of text))
    ]) ≡ Ok t → Matches t items
    by (Some fault) h = cc
    by None h = forest_match items at (or_nothing (forest_of text)) t h

fragment_match : (items : List PlainItem) (at : ℕ) (html : List ℕ) (t : Transaction) → fragment_inserted items at html ≡ Ok t → Matches t items
fragment_match items at html t h = by (is_bad_offset items at) h
  where
    by : (b : Bool) → (elim b as (λ _. Result Transaction Refusal) [
      | true ↦ Err (BadOffset at)
      | false ↦ text_inserted items at (encode_utf8_all html)
    ]) ≡ Ok t → Matches t items
    by true h = cc
    by false h = text_match items at (encode_utf8_all html) t h

applied_match : (items : List PlainItem) (ops : List OpWords) (t : Transaction) → operations.words_are_normal ops ≡ true → transaction_of_ops items ops ≡ Ok t → Matches t items
applied_match items ops t normal h = by (needs ops == length items) h
  where
    by : (b : Bool) → (elim b as (λ _. Result Transaction Refusal) [
      | true ↦ Ok (ops_on ops items)
      | false ↦ Err (BadLength (length items) (needs ops))
    ]) ≡ Ok t → Matches t items
    by true h = subst (λ u. Matches u items) (Ok-same {E = Refusal} (ops_on ops items) t h) (ops_match ops 0 items normal)
    by false h = cc

typed_match : (marks : TextMarks) (items : List PlainItem) (at : ℕ) (text : List ℕ) (t : Transaction) → text_typed marks items at text ≡ Ok t → Matches t items
typed_match Left items at text t h = fine_match items t (insertion_fine items at (text_pieces (marks_before items at) text) t h)
typed_match Plain items at text t h = fine_match items t (insertion_fine items at (text_pieces [] text) t h)

change_match : (items : List PlainItem) (c : EditCommand) (t : Transaction) → IsWritten c → Sound items → change_of items c ≡ Ok t → Matches t items
change_match items (change.Text at text marks) t w s h = typed_match marks items at text t (given build_refusal _ t h)
change_match items (change.Insert at html) t w s h = fragment_match items at html t h
change_match items (change.Remove from to) t w s h = fine_match items t (removal_fine items from to t s.lawful (given build_refusal _ t h))
change_match items (change.Split at depth) t w s h = fine_match items t (split_fine items at depth t (given build_refusal _ t h))
change_match items (change.Mark from to mark) t w s h = fine_match items t (marking_fine items from to mark t (given build_refusal _ t h))
change_match items (change.Unmark from to mark) t w s h = fine_match items t (unmarking_fine items from to mark t (given build_refusal _ t h))
change_match items (change.Wrap from to plan) t w s h = fine_match items t (wrap_fine items from to plan t s.lawful (given build_refusal _ t h))
change_match items (change.Convert at kind) t w s h = fine_match items t (convert_fine items at kind t s.lawful (given build_refusal _ t h))
change_match items (change.Attr at name to) t w s h = fine_match items t (attribute_fine items at name to t (given build_refusal _ t h))
change_match items (change.Apply ops) t w s h = applied_match items ops t w.0 h
change_match items (change.NoOrigin origin) t w s h = cc

-- ---- what is left is the store

abbrev Told : Option EditCause → Transaction → Type 0
Told o t = unless_faulty o t ≡ Err StoreFull

store_left : (count : ℕ) (t : Transaction) → Told (store_cause count) t → max_values < count
store_left count t h = by (nat_lt max_values count) refl h
  where
    by : (b : Bool) → nat_lt max_values count ≡ b → Told (if b then Some edit.StoreFull else None) t → max_values < count
    by true e h = ltb-true max_values count e
    by false e h = cc

items_left : (count stored : ℕ) (t : Transaction) → Told (option_or (items_cause count) (store_cause stored)) t → max_values < stored
items_left count stored t h = by (nat_lt max_items count) h
  where
    by : (b : Bool) → Told (option_or (if b then Some (edit.TooManyItems count) else None) (store_cause stored)) t → max_values < stored
    by true h = cc
    by false h = store_left stored t h

law_left : (o : Option LawFault) (count stored : ℕ) (t : Transaction) → Told (option_or (law_cause o) (option_or (items_cause count) (store_cause stored))) t → max_values < stored
law_left None count stored t h = items_left count stored t h
law_left (Some (law.Unlawful at)) count stored t h = cc
law_left (Some (law.TooDeep at)) count stored t h = cc

matched_left : (b : Bool) (o p : Option ℕ) (has need : ℕ) (rest : Option EditCause) (t : Transaction) → o ≡ None →
    Told (option_or (if b then option_or (option_map (λ at. edit.Mismatch at) o) (option_map (λ at. edit.BadAttr at) p) else Some (edit.BadLength has need)) rest) t →
    Told rest t
matched_left true None None has need rest t e h = h
matched_left true None (Some at) has need rest t e h = cc
matched_left true (Some at) p has need rest t e h = cc
matched_left false o p has need rest t e h = cc

full_left : (r : Replica) (t : Transaction) → Matches t r.items → Told (edit_cause t r) t → max_values < length (performed t r).store
full_left r t matches h =
    let new = performed t r in
    law_left (verdict new.items) (length new.items) (length new.store) t
    (matched_left (old_length t == length r.items) (mismatch_at 0 t r.items) (bad_attribute_at 0 t r.items) (length r.items) (old_length t) _ t matches h)

full_from : (r : Replica) (c : EditCommand) (result : Result Transaction Refusal) → change_of r.items c ≡ result → IsWritten c → Sound r.items →
    checked_transaction r result ≡ Err StoreFull → FillsStore r (change_of r.items c)
full_from r c (Err refusal) e w s h = absurd (change_is r.items c (e ∙ h))
full_from r c (Ok t) e w s h = record { t = t; gives = e; full = full_left r t (change_match r.items c t w s e) h }

pub store_full_is_full : StoreFullIsFull
store_full_is_full r c w s h = full_from r c (change_of r.items c) refl w s h

-- ---- rows, columns and list items

abbrev IsOther : Refusal → Type 0
IsOther refusal = ◌≡◌ {A = Result Transaction Refusal} (Err refusal) (Err StoreFull) → ⊥

table_is : (c : TableCause) → IsOther (table_refusal c)
table_is (build.NotTable at) h = cc
table_is (build.Crooked at) h = cc
table_is (build.BadRow row rows) h = cc
table_is (build.BadColumn column columns) h = cc
table_is (build.TooWide columns) h = cc
table_is (build.Ragged row) h = cc
table_is (build.Spanned at) h = cc
table_is (build.SpanFull at) h = cc

list_is : (c : ListCause) → IsOther (list_refusal c)
list_is (build.NotListItem at) h = cc
list_is (build.NoSibling at) h = cc
list_is (build.NotNested at) h = cc

full_of : {E : Type 0} (r : Replica) (named : E → Refusal) (given : Result Transaction E) → ((c : E) → IsOther (named c)) →
    ((t : Transaction) → given ≡ Ok t → Fine r.items t) → IsFullFor named r given → FillsStore r given
full_of r named (Err c) other fine h = absurd (other c h)
full_of r named (Ok t) other fine h = record { t = t; gives = refl; full = full_left r t (fine_match r.items t (fine t refl)) h }

pub moves_fill_store : MovesFillStore
moves_fill_store = record {
  row_in = λ r at row s h. full_of r table_refusal (row_in r.items at row) table_is (λ t e. row_in_fine r.items at row t s.lawful e) h;
  row_out = λ r at row s h. full_of r table_refusal (row_out r.items at row) table_is (λ t e. row_out_fine r.items at row t s.lawful e) h;
  col_in = λ r at column s h. full_of r table_refusal (col_in r.items at column) table_is (λ t e. col_in_fine r.items at column t s.lawful e) h;
  col_out = λ r at column s h. full_of r table_refusal (col_out r.items at column) table_is (λ t e. col_out_fine r.items at column t s.lawful e) h;
  indent = λ r at s h. full_of r list_refusal (indent r.items at) list_is (λ t e. indent_fine r.items at t s.lawful e) h;
  outdent = λ r at s h. full_of r list_refusal (outdent r.items at) list_is (λ t e. outdent_fine r.items at t s.lawful e) h;
}
