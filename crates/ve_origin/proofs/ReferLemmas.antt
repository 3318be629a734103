-- The references of a list by their positions, and the rows of its table.
use Rattle.std.proofs.Common.{◌≡◌, ◌≢◌, ℕ, zero, suc, ◌+◌, ◌<◌, ◌≤◌, ◌==◌, Bool, true, false, List, [], ◌∷◌, ◌++◌, length, take, drop, map, refl, sym, ap, ◌∙◌, arith, eq-eqb}
use Rattle.std.specs.Prelude.{slice_get, find, Option, Some, None, option_map, option_and_then, if◌then◌else◌, ◌&&◌, ◌||◌, not}
use Rattle.std.specs.List.{list_any}
use Rattle.std.specs.Option.{option_or}
use Rattle.std.proofs.lemmas.List.Folds.{find-append}
use Rattle.ve_kinds.specs.declared.kind.Kind.TheVariants.{InternalList, InternalItem, Ref}
use Rattle.ve_kinds.specs.Table.{kind_same}
use Rattle.ve_base.specs.declared.head.RefKey.{RefKey}
use Rattle.model_items.specs.declared.plain_item.PlainItem.{PlainItem}
use Rattle.model_items.specs.declared.plain_item.PlainItem.TheVariants.{Char, Opening, Closing}
use Rattle.model_items.specs.Same.{option_same, ref_key_same}
use Rattle.model_page.specs.declared.ref_table.RefRow.{RefRow}
use Rattle.model_page.specs.References.{RefAt, ref_at, refs_from, refs_of, Body, body_after, body_from, body_of, inside_from, is_carrier, carried_by, place_of_body, ref_row, table}
use Rattle.model_page_write.specs.Nodes.{body_carried}
use Rattle.ve_origin.specs.Rows.{RowsRise, carried_place, carried_at}
use Rattle.ve_origin.specs.Kept.{opens_notes}
use Rattle.ve_origin.proofs.RowLemmas.{not_same}

-- the reference that an item is
abbrev pub own_refs : ℕ → Bool → PlainItem → List RefAt
own_refs at inside (Char c marks) = []
own_refs at inside (Closing kind pre) = []
own_refs at inside (Opening kind head marks pre origin generated) = if kind_same kind Ref then ref_at at inside head.owner head.reference else []

abbrev pub inside_after : Bool → PlainItem → Bool
inside_after inside x = inside || opens_notes x

or_false : (b : Bool) → (b || false) ≡ b
or_false true = refl
or_false false = refl

pub refs_first : (at : ℕ) (inside : Bool) (x : PlainItem) (xs : List PlainItem) → refs_from at inside (x ∷ xs) ≡ own_refs at inside x ++ refs_from (suc at) (inside_after inside x) xs
refs_first at inside (Char c marks) xs = ap (λ b. refs_from (suc at) b xs) (sym (or_false inside))
refs_first at inside (Closing kind pre) xs = ap (λ b. refs_from (suc at) b xs) (sym (or_false inside))
refs_first at inside (Opening kind head marks pre origin generated) xs = refl

abbrev pub ref_in : ℕ → List RefAt → Option RefAt
ref_in p refs = find (λ r. r.at == p) refs

own_apart : (at p : ℕ) (inside : Bool) (x : PlainItem) → at ≢ p → ref_in p (own_refs at inside x) ≡ None
own_apart at p inside (Char c marks) h = refl
own_apart at p inside (Closing kind pre) h = refl
own_apart at p inside (Opening kind head marks pre origin generated) h = cases (kind_same kind Ref) head.reference
  where
    cases : (b : Bool) (key : Option RefKey) → ref_in p (if b then ref_at at inside head.owner key else []) ≡ None
    cases false key = refl
    cases true None = refl
    cases true (Some key) = rw (not_same at p h) refl

or_none : {A : Type 0} (o : Option A) → option_or o None ≡ o
or_none None = refl
or_none (Some x) = refl

ref_split : (at p : ℕ) (inside : Bool) (x : PlainItem) (xs : List PlainItem) →
    ref_in p (refs_from at inside (x ∷ xs)) ≡ option_or (ref_in p (own_refs at inside x)) (ref_in p (refs_from (suc at) (inside_after inside x) xs))
ref_split at p inside x xs = ap (ref_in p) (refs_first at inside x xs) ∙ find-append (λ r. r.at == p) (own_refs at inside x) (refs_from (suc at) (inside_after inside x) xs)

-- no reference stands before the items
pub none_before : (at p : ℕ) (inside : Bool) (xs : List PlainItem) → p < at → ref_in p (refs_from at inside xs) ≡ None
none_before at p inside [] h = refl
none_before at p inside (x ∷ xs) h =
    ref_split at p inside x xs
    ∙ ap (λ o. option_or o (ref_in p (refs_from (suc at) (inside_after inside x) xs))) (own_apart at p inside x (λ e. omega (arith, h, e)))
    ∙ none_before (suc at) p (inside_after inside x) xs (omega (arith, h))

-- the reference at a position is the item there, where the internal list doesn't open before it
pub ref_here : (at i : ℕ) (inside : Bool) (xs : List PlainItem) (x : PlainItem) → slice_get xs i ≡ Some x → list_any opens_notes (take i xs) ≡ false →
    ref_in (at + i) (refs_from at inside xs) ≡ ref_in (at + i) (own_refs (at + i) inside x)
ref_here at i inside [] x e h = cc
ref_here at zero inside (y ∷ xs) x e h =
    let same : y ≡ x = cc in
    let here : at + 0 ≡ at = omega arith in
    ref_split at (at + 0) inside y xs
    ∙ ap (λ o. option_or (ref_in (at + 0) (own_refs at inside y)) o) (none_before (suc at) (at + 0) (inside_after inside y) xs (omega arith))
    ∙ or_none (ref_in (at + 0) (own_refs at inside y))
    ∙ ap (λ z. ref_in (at + 0) (own_refs at inside z)) same
    ∙ ap (λ n. ref_in (at + 0) (own_refs n inside x)) (sym here)
ref_here at (suc i) inside (y ∷ xs) x e h =
    let p = or_parts (opens_notes y) (list_any opens_notes (take i xs)) h in
    let next : at + suc i ≡ suc at + i = omega arith in
    let stays : inside_after inside y ≡ inside = ap (λ b. inside || b) p.0 ∙ or_false inside in
    ref_split at (at + suc i) inside y xs
    ∙ ap (λ o. option_or o (ref_in (at + suc i) (refs_from (suc at) (inside_after inside y) xs))) (own_apart at (at + suc i) inside y (λ e. omega (arith, e)))
    ∙ ap (λ b. ref_in (at + suc i) (refs_from (suc at) b xs)) stays
    ∙ ap (λ n. ref_in n (refs_from (suc at) inside xs)) next
    ∙ ref_here (suc at) i inside xs x e p.1
    ∙ ap (λ n. ref_in n (own_refs n inside x)) (sym next)
  where
    or_parts : (a b : Bool) → (a || b) ≡ false → (a ≡ false) × (b ≡ false)
    or_parts false b h = (refl, h)
    or_parts true b h = absurd cc

-- past the list's end stands none
pub none_past : (at i : ℕ) (inside : Bool) (xs : List PlainItem) → length xs ≤ i → ref_in (at + i) (refs_from at inside xs) ≡ None
none_past at i inside [] h = refl
none_past at zero inside (y ∷ xs) h = absurd (omega (arith, h))
none_past at (suc i) inside (y ∷ xs) h =
    let next : at + suc i ≡ suc at + i = omega arith in
    ref_split at (at + suc i) inside y xs
    ∙ ap (λ o. option_or o (ref_in (at + suc i) (refs_from (suc at) (inside_after inside y) xs))) (own_apart at (at + suc i) inside y (λ e. omega (arith, e)))
    ∙ ap (λ n. ref_in n (refs_from (suc at) (inside_after inside y) xs)) next
    ∙ none_past (suc at) i (inside_after inside y) xs (omega (arith, h))

-- what stands at a position is no reference, or one that stands outside the internal list
pub data RefThere (o : Option RefAt) : Type 0 where
  NoRef : o ≡ None → RefThere o
  IsRef : (r : RefAt) → o ≡ Some r → r.inside ≡ false → RefThere o

pub own_there : (p : ℕ) (x : PlainItem) → RefThere (ref_in p (own_refs p false x))
own_there p (Char c marks) = NoRef refl
own_there p (Closing kind pre) = NoRef refl
own_there p (Opening kind head marks pre origin generated) = cases (kind_same kind Ref) head.reference
  where
    cases : (b : Bool) (key : Option RefKey) → RefThere (ref_in p (if b then ref_at p false head.owner key else []))
    cases false key = NoRef refl
    cases true None = NoRef refl
    cases true (Some key) = IsRef (record { at = p; key = key; owner = head.owner; inside = false }) (rw (eq-eqb p p refl) refl) refl

-- ---- rows

pub find_row : (items : List PlainItem) (p : ℕ) (refs : List RefAt) → find (λ (r : RefRow). r.at == p) (map (ref_row items) refs) ≡ option_map (ref_row items) (ref_in p refs)
find_row items p [] = refl
find_row items p (r ∷ refs) = cases (r.at == p) refl (find_row items p refs)
  where
    cases : (b : Bool) → (r.at == p) ≡ b → find (λ (s : RefRow). s.at == p) (map (ref_row items) refs) ≡ option_map (ref_row items) (ref_in p refs) →
        find (λ (s : RefRow). s.at == p) (map (ref_row items) (r ∷ refs)) ≡ option_map (ref_row items) (ref_in p (r ∷ refs))
    cases true h more = rw h refl
    cases false h more = rw h more

carried_cases : (c inside : Bool) (b : Option Body) → inside ≡ false → place_of_body (if c && not inside then b else None) ≡ (if c then place_of_body b else None)
carried_cases c true b h = absurd cc
carried_cases true false b h = refl
carried_cases false false b h = refl

-- the position of the body that is carried, by the table
pub place_there : (items : List PlainItem) (p : ℕ) → RefThere (ref_in p (refs_of items)) → carried_at (table items) p ≡ place_of_body (body_carried items p)
place_there items p (NoRef none) = ap carried_place (find_row items p (refs_of items) ∙ ap (option_map (ref_row items)) none) ∙ sym (ap (λ o. place_of_body (option_and_then (carried_by items) o)) none)
place_there items p (IsRef r some outside) =
    ap carried_place (find_row items p (refs_of items) ∙ ap (option_map (ref_row items)) some)
    ∙ sym (carried_cases (is_carrier (refs_of items) r) r.inside (body_of r.key items) outside)
    ∙ sym (ap (λ o. place_of_body (option_and_then (carried_by items) o)) some)

-- ---- bodies

pub record BodyAt (at : ℕ) (xs : List PlainItem) (b : Body) : Type 0 where
  pub place : ℕ
  pub at_is : b.at ≡ at + place
  pub inside : b.items ≡ (inside_from 0 (drop (suc place) xs)).0

body_later : (at : ℕ) (x : PlainItem) (xs : List PlainItem) (b : Body) → BodyAt (suc at) xs b → BodyAt at (x ∷ xs) b
body_later at x xs b h = record { place = suc h.place; at_is = let e = h.at_is in omega (arith, e); inside = h.inside }

pub body_found : (at : ℕ) (key : RefKey) (xs : List PlainItem) (b : Body) → body_from at key xs ≡ Some b → BodyAt at xs b
body_found at key [] b e = cc
body_found at key (Char c marks ∷ xs) b e = body_later at _ xs b (body_found (suc at) key xs b e)
body_found at key (Closing kind pre ∷ xs) b e = body_later at _ xs b (body_found (suc at) key xs b e)
body_found at key (Opening kind head marks pre origin generated ∷ xs) b e = cases (kind_same kind InternalItem && option_same ref_key_same head.reference (Some key)) e (λ h. body_found (suc at) key xs b h)
  where
    cases : (c : Bool) → (if c then Some (body_after at xs) else body_from (suc at) key xs) ≡ Some b → (body_from (suc at) key xs ≡ Some b → BodyAt (suc at) xs b) → BodyAt at (Opening kind head marks pre origin generated ∷ xs) b
    cases true h more =
        let same : body_after at xs ≡ b = cc in
        record { place = 0; at_is = let e : at ≡ at + 0 = omega arith in sym (ap (λ (c : Body). c.at) same) ∙ e; inside = sym (ap (λ (c : Body). c.items) same) }
    cases false h more = body_later at _ xs b (more h)

pub body_there : (items : List PlainItem) (p : ℕ) (b : Body) → body_carried items p ≡ Some b → b.items ≡ (inside_from 0 (drop (suc b.at) items)).0
body_there items p b e = from (ref_in p (refs_of items)) e
  where
    found : (key : RefKey) → body_of key items ≡ Some b → b.items ≡ (inside_from 0 (drop (suc b.at) items)).0
    found key h =
        let k = body_found 0 key items b h in
        let e : k.place ≡ b.at = let f = k.at_is in omega (arith, f) in
        k.inside ∙ ap (λ n. (inside_from 0 (drop (suc n) items)).0) e

    cases : (c : Bool) (key : RefKey) → (if c then body_of key items else None) ≡ Some b → b.items ≡ (inside_from 0 (drop (suc b.at) items)).0
    cases true key h = found key h
    cases false key h = cc

    from : (o : Option RefAt) → option_and_then (carried_by items) o ≡ Some b → b.items ≡ (inside_from 0 (drop (suc b.at) items)).0
    from None h = cc
    from (Some r) h = cases (is_carrier (refs_of items) r && not r.inside) r.key h

-- ---- the rows of a table rise

-- each stands at a position or past it
abbrev pub AreFrom : ℕ → List RefAt → Type 0
AreFrom at refs = (k : ℕ) (r : RefAt) → slice_get refs k ≡ Some r → at ≤ r.at

abbrev pub RefsRise : List RefAt → Type 0
RefsRise refs = (i j : ℕ) (r s : RefAt) → slice_get refs i ≡ Some r → slice_get refs j ≡ Some s → i < j → r.at < s.at

own_from : (at : ℕ) (inside owner b : Bool) (key : Option RefKey) (refs : List RefAt) → AreFrom (suc at) refs → AreFrom at ((if b then ref_at at inside owner key else []) ++ refs)
own_from at inside owner false key refs h k r e = let low = h k r e in omega (arith, low)
own_from at inside owner true None refs h k r e = let low = h k r e in omega (arith, low)
own_from at inside owner true (Some key) refs h zero r e =
    let same : record { at = at; key = key; owner = owner; inside = inside } ≡ r = cc in
    let f : at ≡ r.at = ap (λ (s : RefAt). s.at) same in omega (arith, f)
own_from at inside owner true (Some key) refs h (suc k) r e = let low = h k r e in omega (arith, low)

own_rise : (at : ℕ) (inside owner b : Bool) (key : Option RefKey) (refs : List RefAt) → AreFrom (suc at) refs → RefsRise refs → RefsRise ((if b then ref_at at inside owner key else []) ++ refs)
own_rise at inside owner false key refs h rise i j r s e f less = rise i j r s e f less
own_rise at inside owner true None refs h rise i j r s e f less = rise i j r s e f less
own_rise at inside owner true (Some key) refs h rise zero zero r s e f less = absurd (omega (arith, less))
own_rise at inside owner true (Some key) refs h rise zero (suc j) r s e f less =
    let same : record { at = at; key = key; owner = owner; inside = inside } ≡ r = cc in
    let g : at ≡ r.at = ap (λ (t : RefAt). t.at) same in
    let low = h j s f in omega (arith, g, low)
own_rise at inside owner true (Some key) refs h rise (suc i) zero r s e f less = absurd (omega (arith, less))
own_rise at inside owner true (Some key) refs h rise (suc i) (suc j) r s e f less = rise i j r s e f (omega (arith, less))

from_later : (at : ℕ) (refs : List RefAt) → AreFrom (suc at) refs → AreFrom at refs
from_later at refs h k r e = let low = h k r e in omega (arith, low)

pub refs_from_place : (at : ℕ) (inside : Bool) (xs : List PlainItem) → AreFrom at (refs_from at inside xs)
refs_from_place at inside [] = λ k r e. cc
refs_from_place at inside (Char c marks ∷ xs) = from_later at _ (refs_from_place (suc at) inside xs)
refs_from_place at inside (Closing kind pre ∷ xs) = from_later at _ (refs_from_place (suc at) inside xs)
refs_from_place at inside (Opening kind head marks pre origin generated ∷ xs) =
    own_from at inside head.owner (kind_same kind Ref) head.reference _ (refs_from_place (suc at) (inside || kind_same kind InternalList) xs)

pub refs_rise : (at : ℕ) (inside : Bool) (xs : List PlainItem) → RefsRise (refs_from at inside xs)
refs_rise at inside [] = λ i j r s e f less. cc
refs_rise at inside (Char c marks ∷ xs) = refs_rise (suc at) inside xs
refs_rise at inside (Closing kind pre ∷ xs) = refs_rise (suc at) inside xs
refs_rise at inside (Opening kind head marks pre origin generated ∷ xs) =
    own_rise at inside head.owner (kind_same kind Ref) head.reference _ (refs_from_place (suc at) (inside || kind_same kind InternalList) xs) (refs_rise (suc at) (inside || kind_same kind InternalList) xs)

-- the reference of a row
pub record RowOf (items : List PlainItem) (refs : List RefAt) (k : ℕ) (row : RefRow) : Type 0 where
  pub ref : RefAt
  pub found : slice_get refs k ≡ Some ref
  pub at_is : ref.at ≡ row.at

row_of : (items : List PlainItem) (refs : List RefAt) (k : ℕ) (row : RefRow) → slice_get (map (ref_row items) refs) k ≡ Some row → RowOf items refs k row
row_of items [] k row e = cc
row_of items (r ∷ refs) zero row e = let same : ref_row items r ≡ row = cc in record { ref = r; found = refl; at_is = ap (λ (s : RefRow). s.at) same }
row_of items (r ∷ refs) (suc k) row e = let h = row_of items refs k row e in record { ref = h.ref; found = h.found; at_is = h.at_is }

pub table_rises : (items : List PlainItem) → RowsRise (table items)
table_rises items i j r s e f less =
    let a = row_of items (refs_of items) i r e in
    let b = row_of items (refs_of items) j s f in
    let up = refs_rise 0 false items i j a.ref b.ref a.found b.found less in
    let ra = a.at_is in
    let rb = b.at_is in
    omega (arith, up, ra, rb)

-- a row stands at a position where a reference stands
pub row_there : (items : List PlainItem) (k : ℕ) (row : RefRow) → slice_get (table items) k ≡ Some row → (r : RefAt) × (slice_get (refs_of items) k ≡ Some r) × (r.at ≡ row.at)
row_there items k row e = let h = row_of items (refs_of items) k row e in (h.ref, h.found, h.at_is)
