-- The texts of bodies, row by row.
use Rattle.std.proofs.Common.{◌≡◌, ◌≢◌, ℕ, zero, suc, ◌+◌, ◌<◌, ◌≤◌, ◌==◌, Bool, true, false, List, [], ◌∷◌, ◌++◌, length, take, map, get_or, refl, sym, ap, subst, ◌∙◌, arith, eqb-true, Option, Some, None}
use Rattle.std.specs.Prelude.{find, nat_eq, option_map, option_and_then, encode_utf8_all, if◌then◌else◌}
use Rattle.std.specs.List.{slice_get}
use Rattle.std.specs.Option.{option_or}
use Rattle.std.proofs.lemmas.Bool.{eq-eqb}
use Rattle.std.proofs.lemmas.List.{length-map, take_all, take_more}
use Rattle.std.proofs.lemmas.List.Folds.{find-append}
use Rattle.std.proofs.lemmas.Option.{slice_get-get_or, slice_get_within, get_or_from_slice_get}
use Rattle.indexmap.specs.IndexMap.{IndexMap, Updates, get}
use Rattle.ve_base.specs.declared.value.Value.{Value}
use Rattle.model_items.specs.declared.item.Item.{Item}
use Rattle.model_items.specs.declared.plain_item.PlainItem.{PlainItem}
use Rattle.model_items.specs.Plain.{plain, plain_list}
use Rattle.model_page.specs.declared.ref_table.RefRow.{RefRow}
use Rattle.model_page.specs.References.{Body, RefAt, body_of, place_of_body, ref_row, refs_of, table}
use Rattle.ve_write.specs.Told.{text_of, AreBodyTexts}
use Rattle.ve_origin.specs.Rows.{RowsRise}
use Rattle.ve_origin.proofs.RowLemmas.{no_row}
use Rattle.ve_origin.proofs.ReferLemmas.{table_rises}
use Rattle.ve_write.specs.BodyTexts.{carried_outside, notes_place, text_at, text_by}
use Rattle.ve_write.proofs.CarriedLemmas.{body_stands, carried_text}

-- ---- where bodies stand

row_is : (items : List PlainItem) (refs : List RefAt) (k : ℕ) (row : RefRow) → slice_get (map (ref_row items) refs) k ≡ Some row → (r : RefAt) × (ref_row items r ≡ row)
row_is items [] k row e = cc
row_is items (r ∷ refs) zero row e = let same : ref_row items r ≡ row = cc in (r, same)
row_is items (r ∷ refs) (suc k) row e = row_is items refs k row e

place_within : (items : List PlainItem) (o : Option Body) (r : RefAt) (at : ℕ) → body_of r.key items ≡ o → place_of_body o ≡ Some at → at < length items
place_within items None r at e f = cc
place_within items (Some b) r at e f =
    let same : b.at ≡ at = cc in
    let h = body_stands 0 r.key items b e in
    let place = h.at_is in
    let within = h.within in
    omega (arith, same, place, within)

by_carrier : (past carries : Bool) (o : Option ℕ) (at : ℕ) → (if past then None else (if carries then o else None)) ≡ Some at → o ≡ Some at
by_carrier false true o at e = e
by_carrier false false o at e = cc
by_carrier true true o at e = cc
by_carrier true false o at e = cc

pub carried_within : (items : List PlainItem) (k notes : ℕ) (row : RefRow) (at : ℕ) → slice_get (table items) k ≡ Some row → carried_outside notes row ≡ Some at → at < length items
carried_within items k notes row at found carried =
    let r = row_is items (refs_of items) k row found in
    let place : row.body_at ≡ Some at = by_carrier _ _ row.body_at at carried in
    place_within items (body_of r.0.key items) r.0 at refl (ap (λ (s : RefRow). s.body_at) r.1 ∙ place)

-- ---- one more row

abbrev carried_in : List PlainItem → Option RefRow → Option (List ℕ)
carried_in items o = option_map (text_at items) (option_and_then (carried_outside (notes_place items)) o)

by_more : (items : List PlainItem) (rows : List RefRow) (i : ℕ) (row : RefRow) (p : ℕ) → slice_get rows i ≡ Some row →
    text_by items (take (i + 1) rows) p ≡ carried_in items (option_or (find (λ r. r.at == p) (take i rows)) (if row.at == p then Some row else None))
by_more items rows i row p found =
    ap (λ l. text_by items l p) (take_more rows i row (slice_get_within rows i row found) ∙ ap (λ r. take i rows ++ r ∷ []) (get_or_from_slice_get rows i row row found))
    ∙ ap (carried_in items) (find-append (λ r. r.at == p) (take i rows) (row ∷ []))

nothing_more : (items : List PlainItem) (row : RefRow) (b : Bool) (o : Option RefRow) → carried_outside (notes_place items) row ≡ None → carried_in items o ≡ carried_in items (option_or o (if b then Some row else None))
nothing_more items row b (Some s) none = refl
nothing_more items row true None none = sym (ap (option_map (text_at items)) none)
nothing_more items row false None none = refl

pub none_carried : {S : Type 0} (items : List PlainItem) (rows : List RefRow) (i : ℕ) (row : RefRow) (texts : IndexMap ℕ (List ℕ) S) → slice_get rows i ≡ Some row →
    carried_outside (notes_place items) row ≡ None → ((p : ℕ) → text_of texts p ≡ text_by items (take i rows) p) → (p : ℕ) → text_of texts p ≡ text_by items (take (i + 1) rows) p
none_carried items rows i row texts found none so p = so p ∙ nothing_more items row (row.at == p) (find (λ r. r.at == p) (take i rows)) none ∙ sym (by_more items rows i row p found)

other_row : (items : List PlainItem) (o : Option RefRow) → carried_in items o ≡ carried_in items (option_or o None)
other_row items (Some s) = refl
other_row items None = refl

taken : {A : Type 0} (xs : List A) (i j : ℕ) (x : A) → slice_get (take i xs) j ≡ Some x → (j < i) × (slice_get xs j ≡ Some x)
taken xs zero j x e = cc
taken [] (suc i) j x e = cc
taken (y ∷ xs) (suc i) zero x e = (omega arith, e)
taken (y ∷ xs) (suc i) (suc j) x e = let h = taken xs i j x e in let less = h.0 in (omega (arith, less), h.1)

none_before : (rows : List RefRow) (i : ℕ) (row : RefRow) → RowsRise rows → slice_get rows i ≡ Some row → find (λ r. r.at == row.at) (take i rows) ≡ None
none_before rows i row rise found = no_row (take i rows) row.at apart
  where
    apart : (j : ℕ) (s : RefRow) → slice_get (take i rows) j ≡ Some s → s.at ≢ row.at
    apart j s e same = let h = taken rows i j s e in let up = rise j i s row h.1 found h.0 in omega (arith, up, same)

pub one_carried : {S : Type 0} (items : List PlainItem) (rows : List RefRow) (i : ℕ) (row : RefRow) (at : ℕ) (text : List ℕ) (old new : IndexMap ℕ (List ℕ) S) → RowsRise rows → slice_get rows i ≡ Some row →
    carried_outside (notes_place items) row ≡ Some at → encode_utf8_all text ≡ text_at items at → Updates nat_eq old new row.at (Some text) →
    ((p : ℕ) → text_of old p ≡ text_by items (take i rows) p) → (p : ℕ) → text_of new p ≡ text_by items (take (i + 1) rows) p
one_carried items rows i row at text old new rise found some is updates so p =
    ap (option_map encode_utf8_all) (updates.0 p) ∙ cases (row.at == p) refl ∙ sym (by_more items rows i row p found)
  where
    cases : (b : Bool) → (row.at == p) ≡ b →
        option_map encode_utf8_all (if nat_eq row.at p then Some text else get nat_eq old p) ≡ carried_in items (option_or (find (λ r. r.at == p) (take i rows)) (if row.at == p then Some row else None))
    cases true e =
        let same : row.at ≡ p = eqb-true _ _ e in
        let none : find (λ r. r.at == p) (take i rows) ≡ None = ap (λ n. find (λ r. r.at == n) (take i rows)) (sym same) ∙ none_before rows i row rise found in
        ap (λ b. option_map encode_utf8_all (if b then Some text else get nat_eq old p)) e
        ∙ ap Some is
        ∙ sym (ap (option_map (text_at items)) some)
        ∙ sym (ap (λ o. carried_in items (option_or o (Some row))) none)
        ∙ sym (ap (λ b. carried_in items (option_or (find (λ r. r.at == p) (take i rows)) (if b then Some row else None))) e)
    cases false e =
        ap (λ b. option_map encode_utf8_all (if b then Some text else get nat_eq old p)) e
        ∙ so p
        ∙ other_row items (find (λ r. r.at == p) (take i rows))
        ∙ sym (ap (λ b. carried_in items (option_or (find (λ r. r.at == p) (take i rows)) (if b then Some row else None))) e)

-- ---- one more row, at one position

pub other_passed : (items : List PlainItem) (rows : List RefRow) (i : ℕ) (row : RefRow) (p : ℕ) → slice_get rows i ≡ Some row → (row.at == p) ≡ false →
    text_by items (take (i + 1) rows) p ≡ text_by items (take i rows) p
other_passed items rows i row p found other =
    let before = find (λ r. r.at == p) (take i rows) in
    by_more items rows i row p found
    ∙ ap (λ b. carried_in items (option_or before (if b then Some row else None))) other
    ∙ sym (other_row items before)

pub none_passed : (items : List PlainItem) (rows : List RefRow) (i : ℕ) (row : RefRow) (p : ℕ) → slice_get rows i ≡ Some row → carried_outside (notes_place items) row ≡ None →
    text_by items (take (i + 1) rows) p ≡ text_by items (take i rows) p
none_passed items rows i row p found none = by_more items rows i row p found ∙ sym (nothing_more items row (row.at == p) (find (λ r. r.at == p) (take i rows)) none)

pub row_here : (items : List PlainItem) (rows : List RefRow) (i : ℕ) (row : RefRow) (at : ℕ) → rows ≡ table items → slice_get rows i ≡ Some row → carried_outside (notes_place items) row ≡ Some at →
    text_by items (take (i + 1) rows) row.at ≡ Some (text_at items at)
row_here items rows i row at all found some =
    by_more items rows i row row.at found
    ∙ ap (λ b. carried_in items (option_or (find (λ r. r.at == row.at) (take i rows)) (if b then Some row else None))) (eq-eqb row.at row.at refl)
    ∙ ap (λ o. carried_in items (option_or o (Some row))) (none_before rows i row (subst RowsRise (sym all) (table_rises items)) found)
    ∙ ap (option_map (text_at items)) some

-- ---- a row of the table by its number

pub row_found : (rows : List RefRow) (i : ℕ) (row : RefRow) → i < length rows → row ≡ get_or rows i row → slice_get rows i ≡ Some row
row_found rows i row less is = slice_get-get_or rows i row less ∙ ap Some (sym is)

pub row_within : (values : List Value) (items : List Item) (rows : List RefRow) (i notes : ℕ) (row : RefRow) (at : ℕ) → rows ≡ table (plain_list values items) → i < length rows → row ≡ get_or rows i row →
    Some at ≡ carried_outside notes row → at < length items
row_within values items rows i notes row at all less is carried =
    let found : slice_get (table (plain_list values items)) i ≡ Some row = ap (λ l. slice_get l i) (sym all) ∙ row_found rows i row less is in
    let within = carried_within (plain_list values items) i notes row at found (sym carried) in
    let same = length-map items (plain values) in
    omega (arith, within, same)

pub row_passed : {S : Type 0} (items : List PlainItem) (rows : List RefRow) (i notes : ℕ) (row : RefRow) (old new : IndexMap ℕ (List ℕ) S) → notes ≡ notes_place items → i < length rows → row ≡ get_or rows i row →
    None ≡ carried_outside notes row → new ≡ old → ((p : ℕ) → text_of old p ≡ text_by items (take i rows) p) → (p : ℕ) → text_of new p ≡ text_by items (take (i + 1) rows) p
row_passed items rows i notes row old new place less is carried same so p =
    ap (λ m. text_of m p) same ∙ none_carried items rows i row old (row_found rows i row less is) (ap (λ n. carried_outside n row) (sym place) ∙ sym carried) so p

pub row_put : {S : Type 0} (items : List PlainItem) (rows : List RefRow) (i notes : ℕ) (row : RefRow) (at : ℕ) (text : List ℕ) (old put new : IndexMap ℕ (List ℕ) S) → notes ≡ notes_place items → rows ≡ table items →
    i < length rows → row ≡ get_or rows i row → Some at ≡ carried_outside notes row → encode_utf8_all text ≡ text_at items at → Updates nat_eq old put row.at (Some text) → new ≡ put →
    ((p : ℕ) → text_of old p ≡ text_by items (take i rows) p) → (p : ℕ) → text_of new p ≡ text_by items (take (i + 1) rows) p
row_put items rows i notes row at text old put new place all less is carried known updates same so p =
    ap (λ m. text_of m p) same
    ∙ one_carried items rows i row at text old put (subst RowsRise (sym all) (table_rises items)) (row_found rows i row less is) (ap (λ n. carried_outside n row) (sym place) ∙ sym carried) known updates so p

-- ---- all rows

pub texts_are : {S : Type 0} (items : List PlainItem) (rows : List RefRow) (i : ℕ) (texts : IndexMap ℕ (List ℕ) S) → rows ≡ table items → length rows ≤ i → ((p : ℕ) → text_of texts p ≡ text_by items (take i rows) p) →
    AreBodyTexts items (text_of texts)
texts_are items rows i texts all le so at = carried_text items at ∙ sym (so at ∙ ap (λ l. text_by items l at) (take_all i rows le ∙ all))
