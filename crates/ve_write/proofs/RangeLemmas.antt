-- The texts of the bodies that are carried in a range, row by row.
use Rattle.std.proofs.Common.{◌≡◌, ℕ, ◌+◌, ◌-◌, ◌<◌, ◌≤◌, ◌==◌, Bool, true, false, List, [], ◌∷◌, length, take, get_or, refl, sym, ap, ◌∙◌, arith, eqb-true, Option, Some, None}
use Rattle.std.specs.Prelude.{find, nat_eq, nat_le, nat_lt, ◌||◌, option_map, option_and_then, encode_utf8_all, if◌then◌else◌}
use Rattle.std.specs.List.{list_any, slice_get}
use Rattle.std.proofs.lemmas.Bool.{and_from, and_parts, eqb-false, le-leb, leb-true, lt-ltb, ltb-true}
use Rattle.std.proofs.lemmas.List.{take_all}
use Rattle.std.proofs.lemmas.List.Folds.{list_any_at, list_any_more}
use Rattle.indexmap.specs.IndexMap.{IndexMap, Updates, get}
use Rattle.model_items.specs.declared.plain_item.PlainItem.{PlainItem}
use Rattle.model_page.specs.declared.ref_table.RefRow.{RefRow}
use Rattle.model_page.specs.References.{table}
use Rattle.ve_write.specs.BodyTexts.{carried_outside, notes_place, text_at, text_by}
use Rattle.ve_write.specs.Range.{carried_in, in_range, stands_in, AreTextsIn}
use Rattle.ve_write.specs.Told.{text_of}
use Rattle.ve_write.proofs.TextLemmas.{none_passed, other_passed, row_found, row_here}

-- ---- where a row's reference stands

inside : (from to row p : ℕ) → row ≡ from + p → nat_lt p (to - from) ≡ true → stands_in from to row ≡ true
inside from to row p at less =
    let below = ltb-true p (to - from) less in
    and_from _ _ (le-leb from row (omega (arith, at))) (lt-ltb row to (omega (arith, at, below)))

pub begins_after : (from to row : ℕ) → stands_in from to row ≡ true → from ≤ row
begins_after from to row h = leb-true from row (and_parts (nat_le from row) _ h).0

ends_before : (from to row : ℕ) → stands_in from to row ≡ true → row < to
ends_before from to row h = ltb-true row to (and_parts (nat_le from row) _ h).1

-- the reference is in the range where it carries something there
pub some_inside : (b : Bool) (o : Option ℕ) (at : ℕ) → Some at ≡ (if b then o else None) → (b ≡ true) × (o ≡ Some at)
some_inside true o at e = (refl, sym e)
some_inside false o at e = cc

apart_there : (b : Bool) (from row p : ℕ) → (row == from + p) ≡ b → ((row - from) == p) ≡ false → b ≡ false
apart_there false from row p e apart = refl
apart_there true from row p e apart =
    let same = eqb-true _ _ e in
    absurd (eqb-false _ _ apart (omega (arith, same)))

-- ---- whether some reference stands in the range

pub one_stands : (from to : ℕ) (rows : List RefRow) (i : ℕ) (row : RefRow) → i < length rows → row ≡ get_or rows i row → stands_in from to row.at ≡ true → true ≡ list_any (λ r. stands_in from to r.at) rows
one_stands from to rows i row less is here = sym (list_any_at (λ r. stands_in from to r.at) rows i row less (ap (λ (r : RefRow). stands_in from to r.at) (sym is) ∙ here))

pub none_yet_stand : (from to : ℕ) (rows : List RefRow) (i : ℕ) (row : RefRow) → i < length rows → row ≡ get_or rows i row → stands_in from to row.at ≡ false → list_any (λ r. stands_in from to r.at) (take i rows) ≡ false →
    list_any (λ r. stands_in from to r.at) (take (i + 1) rows) ≡ false
none_yet_stand from to rows i row less is apart before =
    list_any_more (λ r. stands_in from to r.at) rows i row less
    ∙ ap (λ b. b || stands_in from to (get_or rows i row).at) before
    ∙ ap (λ (r : RefRow). stands_in from to r.at) (sym is)
    ∙ apart

pub none_stand : (from to : ℕ) (rows : List RefRow) (i : ℕ) → length rows ≤ i → list_any (λ r. stands_in from to r.at) (take i rows) ≡ false → false ≡ list_any (λ r. stands_in from to r.at) rows
none_stand from to rows i le before = sym (ap (list_any (λ r. stands_in from to r.at)) (sym (take_all i rows le)) ∙ before)

-- ---- one more row

-- one whose reference carries nothing in the range
pub row_skipped : {S : Type 0} (items : List PlainItem) (from to : ℕ) (rows : List RefRow) (i notes : ℕ) (row : RefRow) (old new : IndexMap ℕ (List ℕ) S) → notes ≡ notes_place items → i < length rows → row ≡ get_or rows i row →
    None ≡ carried_in from to notes row → new ≡ old → ((p : ℕ) → text_of old p ≡ in_range from to (text_by items (take i rows)) p) → (p : ℕ) → text_of new p ≡ in_range from to (text_by items (take (i + 1) rows)) p
row_skipped items from to rows i notes row old new place less is none same so p = ap (λ m. text_of m p) same ∙ so p ∙ sym (by (nat_lt p (to - from)) refl)
  where
    found : slice_get rows i ≡ Some row
    found = row_found rows i row less is

    at_row : (b : Bool) → (row.at == from + p) ≡ b → nat_lt p (to - from) ≡ true → text_by items (take (i + 1) rows) (from + p) ≡ text_by items (take i rows) (from + p)
    at_row false other within = other_passed items rows i row (from + p) found other
    at_row true here within =
        let stands = inside from to row.at p (eqb-true _ _ here) within in
        none_passed items rows i row (from + p) found (
        ap (λ n. carried_outside n row) (sym place)
        ∙ ap (λ b. if b then carried_outside notes row else None) (sym stands)
        ∙ sym none)

    by : (b : Bool) → nat_lt p (to - from) ≡ b → (if b then text_by items (take (i + 1) rows) (from + p) else None) ≡ (if b then text_by items (take i rows) (from + p) else None)
    by false e = refl
    by true e = at_row (row.at == from + p) refl e

-- one whose reference carries a body there
pub row_added : {S : Type 0} (items : List PlainItem) (from to : ℕ) (rows : List RefRow) (i notes : ℕ) (row : RefRow) (at : ℕ) (text : List ℕ) (old put new : IndexMap ℕ (List ℕ) S) → notes ≡ notes_place items → rows ≡ table items →
    i < length rows → row ≡ get_or rows i row → Some at ≡ carried_in from to notes row → encode_utf8_all text ≡ text_at items at → Updates nat_eq old put (row.at - from) (Some text) → new ≡ put →
    ((p : ℕ) → text_of old p ≡ in_range from to (text_by items (take i rows)) p) → (p : ℕ) → text_of new p ≡ in_range from to (text_by items (take (i + 1) rows)) p
row_added items from to rows i notes row at text old put new place all less is carried known updates same so p =
    ap (λ m. text_of m p) same ∙ ap (option_map encode_utf8_all) (updates.0 p) ∙ by ((row.at - from) == p) refl
  where
    found : slice_get rows i ≡ Some row
    found = row_found rows i row less is

    stands : stands_in from to row.at ≡ true
    stands = (some_inside (stands_in from to row.at) (carried_outside notes row) at carried).0

    some : carried_outside (notes_place items) row ≡ Some at
    some = ap (λ n. carried_outside n row) (sym place) ∙ (some_inside (stands_in from to row.at) (carried_outside notes row) at carried).1

    other : (b : Bool) → nat_lt p (to - from) ≡ b → ((row.at - from) == p) ≡ false → (if b then text_by items (take i rows) (from + p) else None) ≡ (if b then text_by items (take (i + 1) rows) (from + p) else None)
    other false e apart = refl
    other true e apart = sym (other_passed items rows i row (from + p) found (apart_there (row.at == from + p) from row.at p refl apart))

    by : (b : Bool) → ((row.at - from) == p) ≡ b → option_map encode_utf8_all (if nat_eq (row.at - from) p then Some text else get nat_eq old p) ≡ in_range from to (text_by items (take (i + 1) rows)) p
    by false e = ap (λ b. option_map encode_utf8_all (if b then Some text else get nat_eq old p)) e ∙ so p ∙ other (nat_lt p (to - from)) refl e
    by true e =
        let here = eqb-true _ _ e in
        let after = begins_after from to row.at stands in
        let before = ends_before from to row.at stands in
        let place : row.at ≡ from + p = omega (arith, here, after) in
        ap (λ b. option_map encode_utf8_all (if b then Some text else get nat_eq old p)) e
        ∙ ap Some known
        ∙ sym (row_here items rows i row at all found some)
        ∙ ap (text_by items (take (i + 1) rows)) place
        ∙ ap (λ b. if b then text_by items (take (i + 1) rows) (from + p) else None) (sym (lt-ltb p (to - from) (omega (arith, place, before))))

pub nothing_yet : {S : Type 0} (items : List PlainItem) (from to : ℕ) (rows : List RefRow) (texts : IndexMap ℕ (List ℕ) S) → ((p : ℕ) → None ≡ text_of texts p) → (p : ℕ) → text_of texts p ≡ in_range from to (text_by items (take 0 rows)) p
nothing_yet items from to rows texts empty p = sym (empty p) ∙ by (nat_lt p (to - from))
  where
    by : (b : Bool) → None ≡ (if b then text_by items (take 0 rows) (from + p) else None)
    by true = refl
    by false = refl

-- ---- all rows

pub rows_are : {S : Type 0} (items : List PlainItem) (from to : ℕ) (rows : List RefRow) (i : ℕ) (texts : IndexMap ℕ (List ℕ) S) → rows ≡ table items → length rows ≤ i →
    ((p : ℕ) → text_of texts p ≡ in_range from to (text_by items (take i rows)) p) → AreTextsIn items from to (text_of texts)
rows_are items from to rows i texts all le so p = sym (so p ∙ ap (λ l. in_range from to (text_by items l) p) (take_all i rows le ∙ all))

-- no reference is in the range
none_found : (from to p : ℕ) (rows : List RefRow) → nat_lt p (to - from) ≡ true → list_any (λ row. stands_in from to row.at) rows ≡ false → find (λ r. r.at == from + p) rows ≡ None
none_found from to p [] within none = refl
none_found from to p (row ∷ rows) within none = by (row.at == from + p) refl (stands_in from to row.at) refl (λ h. none_found from to p rows within h)
  where
    by : (b : Bool) → (row.at == from + p) ≡ b → (c : Bool) → stands_in from to row.at ≡ c → (list_any (λ r. stands_in from to r.at) rows ≡ false → find (λ r. r.at == from + p) rows ≡ None) →
        (if b then Some row else find (λ r. r.at == from + p) rows) ≡ None
    by false e false f more = more (ap (λ c. c || list_any (λ r. stands_in from to r.at) rows) (sym f) ∙ none)
    by false e true f more = let clash : true ≡ false = ap (λ c. c || list_any (λ r. stands_in from to r.at) rows) (sym f) ∙ none in cc
    by true e true f more = let clash : true ≡ false = ap (λ c. c || list_any (λ r. stands_in from to r.at) rows) (sym f) ∙ none in cc
    by true e false f more = let clash : true ≡ false = sym (inside from to row.at p (eqb-true _ _ e) within) ∙ f in cc

pub none_are : {S : Type 0} (items : List PlainItem) (from to : ℕ) (rows : List RefRow) (texts : IndexMap ℕ (List ℕ) S) → rows ≡ table items → list_any (λ row. stands_in from to row.at) rows ≡ false →
    ((p : ℕ) → None ≡ text_of texts p) → AreTextsIn items from to (text_of texts)
none_are items from to rows texts all none empty p = by (nat_lt p (to - from)) refl ∙ empty p
  where
    by : (b : Bool) → nat_lt p (to - from) ≡ b → (if b then text_by items (table items) (from + p) else None) ≡ None
    by false e = refl
    by true e =
        ap (λ l. text_by items l (from + p)) (sym all)
        ∙ ap (λ o. option_map (text_at items) (option_and_then (carried_outside (notes_place items)) o)) (none_found from to p rows e none)
