-- The area that is covered, and what meets, where a row is put in among rectangles; and a line laid
-- there.
use Rattle.std.specs.List.{list_any}
use Rattle.std.proofs.Common.{◌≡◌, ◌⊎◌, inl, inr, ℕ, suc, ◌+◌, ◌<◌, ◌≤◌, Bool, true, false, ◌&&◌, ◌||◌, if◌then◌else◌, nat_lt, nat_le, List, [], ◌∷◌, ◌++◌, map, Some, None, refl, sym, ap, ◌∙◌, subst, arith, append-nil}
use Rattle.std.proofs.lemmas.Bool.{cases_Bool, and_parts, and_from, or_parts, or_from, leb-true, ltb-true, leb-false, ltb-false, le-leb, lt-ltb, false_from_ne_true, true≢false}
use Rattle.std.proofs.lemmas.List.{append_assoc}
use Rattle.model_edit.specs.Layout.{Rectangle, has_row, has_column, grows_down, moved_down}
use Rattle.model_edit_law.specs.Spans.{CellSpan, covers_cell, free_from, width, meet, laid, bent, lay_row}
use Rattle.model_edit_law.proofs.LayLemmas.{meet_numbers, next_row, not_bent}
use Rattle.model_edit_law.proofs.LeastLemmas.{placed_same, same_has}

-- what the rows of a rectangle are after: it begins later, is one higher, or ends above
abbrev pub Shift : (row a h a' h' : ℕ) → Type 0
Shift row a h a' h' =
    ((row ≤ a) × (a' ≡ suc a) × (h' ≡ h))
    ⊎ (((a < row) × (row < a + h) × (a' ≡ a) × (h' ≡ suc h))
    ⊎ ((a < row) × (a + h ≤ row) × (a' ≡ a) × (h' ≡ h)))

pub record Alike (row : ℕ) (r r' : Rectangle) : Type 0 where
  pub rows : Shift row r.row r.rows r'.row r'.rows
  pub column : r'.column ≡ r.column
  pub columns : r'.columns ≡ r.columns

pub moved_alike : (row : ℕ) (r : Rectangle) → Alike row r (moved_down row r)
moved_alike row r = first (nat_le row r.row) refl
  where
    second : (b : Bool) → grows_down row r ≡ b → r.row < row → Alike row r (if b then record r { rows = suc r.rows } else r)
    second true e l =
        let p = and_parts (nat_lt r.row row) _ e in
        let q = and_parts (nat_le r.row row) _ p.1 in
        record { rows = inr (inl (l, ltb-true row (r.row + r.rows) q.1, refl, refl)); column = refl; columns = refl }
    second false e l = short (cases_Bool (nat_lt row (r.row + r.rows)))
      where
        short : (nat_lt row (r.row + r.rows) ≡ true) ⊎ (nat_lt row (r.row + r.rows) ≡ false) → Alike row r r
        short (inl t) = absurd (true≢false (sym (and_from _ _ (lt-ltb r.row row l) (and_from _ _ (le-leb r.row row (omega arith)) t)) ∙ e))
        short (inr f) = record { rows = inr (inr (l, ltb-false row (r.row + r.rows) f, refl, refl)); column = refl; columns = refl }

    first : (b : Bool) → nat_le row r.row ≡ b →
        Alike row r (if b then record r { row = suc r.row } else (if grows_down row r then record r { rows = suc r.rows } else r))
    first true e = record { rows = inl (leb-true row r.row e, refl, refl); column = refl; columns = refl }
    first false e = second (grows_down row r) refl (leb-false row r.row e)

-- what a row number is after
abbrev pub Moved : (row j j' : ℕ) → Type 0
Moved row j j' = ((j < row) × (j' ≡ j)) ⊎ ((row ≤ j) × (j' ≡ suc j))

has_same : (row j j' a h a' h' : ℕ) → Moved row j j' → Shift row a h a' h' → (nat_le a' j' && nat_lt j' (a' + h')) ≡ (nat_le a j && nat_lt j (a + h))
has_same row j j' a h a' h' (inl m) (inl s) =
    same_has a' a j' j (a' + h') (a + h) (λ x y. (omega arith, omega arith)) (λ x y. (omega arith, omega arith))
has_same row j j' a h a' h' (inl m) (inr (inl s)) =
    same_has a' a j' j (a' + h') (a + h) (λ x y. (omega arith, omega arith)) (λ x y. (omega arith, omega arith))
has_same row j j' a h a' h' (inl m) (inr (inr s)) =
    same_has a' a j' j (a' + h') (a + h) (λ x y. (omega arith, omega arith)) (λ x y. (omega arith, omega arith))
has_same row j j' a h a' h' (inr m) (inl s) =
    same_has a' a j' j (a' + h') (a + h) (λ x y. (omega arith, omega arith)) (λ x y. (omega arith, omega arith))
has_same row j j' a h a' h' (inr m) (inr (inl s)) =
    same_has a' a j' j (a' + h') (a + h) (λ x y. (omega arith, omega arith)) (λ x y. (omega arith, omega arith))
has_same row j j' a h a' h' (inr m) (inr (inr s)) =
    same_has a' a j' j (a' + h') (a + h) (λ x y. (omega arith, omega arith)) (λ x y. (omega arith, omega arith))

-- before the row a rectangle covers what it did
pub has_column_same : (row : ℕ) (r r' : Rectangle) (column : ℕ) → Alike row r r' → has_column r' column ≡ has_column r column
has_column_same row r r' column x = (λ i. nat_le (x.column i) column && nat_lt column (x.column i + x.columns i))

covered_moved : (row j j' column : ℕ) (all : List Rectangle) → Moved row j j' → covers_cell (map (moved_down row) all) j' column ≡ covers_cell all j column
covered_moved row j j' column [] m = refl
covered_moved row j j' column (r ∷ all) m =
    let x = moved_alike row r in
    let r' = moved_down row r in
    let e = has_same row j j' r.row r.rows r'.row r'.rows m x.rows in
    let f = has_column_same row r r' column x in
    let rest = covered_moved row j j' column all m in
    (λ i. (e i && f i) || rest i)

overlap : (row a h a' h' b k b' k' : ℕ) → Shift row a h a' h' → Shift row b k b' k' → a' < b' + k' → b' < a' + h' → (a < b + k) × (b < a + h)
overlap row a h a' h' b k b' k' (inl x) (inl y) l m = (omega arith, omega arith)
overlap row a h a' h' b k b' k' (inl x) (inr (inl y)) l m = (omega arith, omega arith)
overlap row a h a' h' b k b' k' (inl x) (inr (inr y)) l m = (omega arith, omega arith)
overlap row a h a' h' b k b' k' (inr (inl x)) (inl y) l m = (omega arith, omega arith)
overlap row a h a' h' b k b' k' (inr (inl x)) (inr (inl y)) l m = (omega arith, omega arith)
overlap row a h a' h' b k b' k' (inr (inl x)) (inr (inr y)) l m = (omega arith, omega arith)
overlap row a h a' h' b k b' k' (inr (inr x)) (inl y) l m = (omega arith, omega arith)
overlap row a h a' h' b k b' k' (inr (inr x)) (inr (inl y)) l m = (omega arith, omega arith)
overlap row a h a' h' b k b' k' (inr (inr x)) (inr (inr y)) l m = (omega arith, omega arith)

-- two that meet after have met before
meet_before : (row : ℕ) (a a' b b' : Rectangle) → Alike row a a' → Alike row b b' → meet a' b' ≡ true → meet a b ≡ true
meet_before row a a' b b' x y h =
    let n = meet_numbers a' b' h in
    let o = overlap row a.row a.rows a'.row a'.rows b.row b.rows b'.row b'.rows x.rows y.rows n.0 n.1 in
    let c1 = x.column in let c2 = x.columns in let c3 = y.column in let c4 = y.columns in
    and_from _ _ (and_from _ _ (lt-ltb a.row (b.row + b.rows) o.0) (lt-ltb b.row (a.row + a.rows) o.1))
    (and_from _ _ (lt-ltb a.column (b.column + b.columns) (omega arith)) (lt-ltb b.column (a.column + a.columns) (omega arith)))

no_meets : (row : ℕ) (a a' : Rectangle) (all : List Rectangle) → Alike row a a' → list_any (meet a) all ≡ false →
    list_any (meet a') (map (moved_down row) all) ≡ false
no_meets row a a' [] x h = refl
no_meets row a a' (b ∷ all) x h =
    let p = or_parts (meet a b) _ h in
    or_from (meet a' (moved_down row b)) _
    (false_from_ne_true (meet a' (moved_down row b)) (λ t. true≢false (sym (meet_before row a a' b (moved_down row b) x (moved_alike row b) t) ∙ p.0)))
    (no_meets row a a' all x p.1)

pub any_append : (p : Rectangle → Bool) (xs ys : List Rectangle) → list_any p (xs ++ ys) ≡ (list_any p xs || list_any p ys)
any_append p [] ys = refl
any_append p (x ∷ xs) ys = ap (λ b. p x || b) (any_append p xs ys) ∙ assoc (p x) (list_any p xs) (list_any p ys)
  where
    assoc : (a b c : Bool) → (a || (b || c)) ≡ ((a || b) || c)
    assoc true b c = refl
    assoc false b c = refl

-- a property of each
abbrev pub Each : (Rectangle → Type 0) → List Rectangle → Type 0
Each P [] = Unit {0}
Each P (r ∷ all) = P r × Each P all

pub Each-append : (P : Rectangle → Type 0) (xs ys : List Rectangle) → Each P xs → Each P ys → Each P (xs ++ ys)
Each-append P [] ys h g = g
Each-append P (x ∷ xs) ys h g = (h.0, Each-append P xs ys h.1 g)

map_append : (f : Rectangle → Rectangle) (xs ys : List Rectangle) → map f (xs ++ ys) ≡ map f xs ++ map f ys
map_append f [] ys = refl
map_append f (x ∷ xs) ys = ap (λ v. f x ∷ v) (map_append f xs ys)

abbrev pub rect : (row column : ℕ) → CellSpan → Rectangle
rect row column s = record { row = row; column = column; rows = s.rows; columns = s.columns }

module _ (row j j' left left' : ℕ) (f : CellSpan → CellSpan) (moves : Moved row j j') (P : Rectangle → Type 0) (it : (column : ℕ) (s : CellSpan) → P (rect j column s)) (X N : List Rectangle)
    (free : (column : ℕ) → covers_cell N j' column ≡ false) (apart : (r : Rectangle) → r.row ≡ j' → list_any (meet r) N ≡ false)
    (moved : (column : ℕ) (s : CellSpan) → moved_down row (rect j column s) ≡ rect j' column (f s)) (wide : (s : CellSpan) → (f s).columns ≡ s.columns)
    (short : (s : CellSpan) → nat_lt left s.rows ≡ false → nat_lt left' (f s).rows ≡ false) where
  -- the rectangles X and Y after, with the new ones between
  abbrev between : List Rectangle → List Rectangle
  between Y = map (moved_down row) X ++ (N ++ map (moved_down row) Y)

  covered_between : (Y : List Rectangle) (column : ℕ) → covers_cell (between Y) j' column ≡ covers_cell (X ++ Y) j column
  covered_between Y column =
      let p : Rectangle → Bool = λ r. has_row r j' && has_column r column in
      let q : Rectangle → Bool = λ r. has_row r j && has_column r column in
      let mX = map (moved_down row) X in
      let mY = map (moved_down row) Y in
      any_append p mX (N ++ mY)
      ∙ ap (λ b. list_any p mX || b) (any_append p N mY ∙ ap (λ b. b || list_any p mY) (free column))
      ∙ (λ i. covered_moved row j j' column X moves i || covered_moved row j j' column Y moves i)
      ∙ sym (any_append q X Y)

  no_meets_between : (Y : List Rectangle) (a a' : Rectangle) → Alike row a a' → a'.row ≡ j' → list_any (meet a) (X ++ Y) ≡ false →
      list_any (meet a') (between Y) ≡ false
  no_meets_between Y a a' x at h =
      let mX = map (moved_down row) X in
      let mY = map (moved_down row) Y in
      let p = or_parts (list_any (meet a) X) (list_any (meet a) Y) (sym (any_append (meet a) X Y) ∙ h) in
      any_append (meet a') mX (N ++ mY)
      ∙ or_from _ _ (no_meets row a a' X x p.0) (any_append (meet a') N mY ∙ or_from _ _ (apart a' at) (no_meets row a a' Y x p.1))

  pub row_moved : (spans : List CellSpan) (end : ℕ) (Y C : List Rectangle) → lay_row j left end spans (X ++ Y) ≡ Some C →
      (Z : List Rectangle) × (C ≡ X ++ (Y ++ Z)) × Each P Z × (lay_row j' left' end (map f spans) (between Y) ≡ Some (between (Y ++ Z)))
  row_moved [] end Y C h =
      let e : X ++ Y ≡ C = cc in
      let z = append-nil Y in
      ([], sym e ∙ ap (λ v. X ++ v) (sym z), tt, ap (λ v. Some (between v)) (sym z))
  row_moved (s ∷ spans) end Y C h =
      let B = X ++ Y in
      let one = laid B j end s in
      let new = rect j' one.column (f s) in
      let n = not_bent j left spans B one C h in
      let b = or_parts (nat_lt left s.rows) _ n.0 in
      let alike : Alike row one new = subst (Alike row one) (moved one.column s) (moved_alike row one) in
      let col : free_from (between Y) j' end (width (between Y)) ≡ one.column = placed_same (between Y) B j' j end (covered_between Y) in
      let place : laid (between Y) j' end (f s) ≡ new = ap (λ c. rect j' c (f s)) col in
      let straight : bent left' (between Y) new ≡ false = or_from (nat_lt left' (f s).rows) _ (short s b.0) (no_meets_between Y one new alike refl b.1) in
      let joined : between (Y ++ one ∷ []) ≡ between Y ++ new ∷ [] = more Y one new (moved one.column s) in
      let end' : new.column + new.columns ≡ one.column + one.columns = ap (λ w. one.column + w) (wide s) in
      let old : B ++ one ∷ [] ≡ X ++ (Y ++ one ∷ []) = append_assoc X Y (one ∷ []) in
      let rest = row_moved spans (one.column + one.columns) (Y ++ one ∷ []) C (ap (lay_row j left (one.column + one.columns) spans) (sym old) ∙ n.1) in
      let z : (Y ++ one ∷ []) ++ rest.0 ≡ Y ++ one ∷ rest.0 = append_assoc Y (one ∷ []) rest.0 in (
        one ∷ rest.0,
        rest.1 ∙ ap (λ v. X ++ v) z,
        (it one.column s, rest.2),
        ap (next_row j' left' (map f spans) (between Y)) place
            ∙ ap (λ b. if b then None else lay_row j' left' (new.column + new.columns) (map f spans) (between Y ++ new ∷ [])) straight
            ∙ (λ i. lay_row j' left' (end' i) (map f spans) (sym joined i))
            ∙ rest.3
            ∙ ap (λ v. Some (between v)) z,
      )
    where
      more : (Y : List Rectangle) (one new : Rectangle) → moved_down row one ≡ new → between (Y ++ one ∷ []) ≡ between Y ++ new ∷ []
      more Y one new e =
          let mX = map (moved_down row) X in
          let mY = map (moved_down row) Y in
          ap (λ v. mX ++ (N ++ v)) (map_append (moved_down row) Y (one ∷ []) ∙ ap (λ r. mY ++ r ∷ []) e)
          ∙ ap (λ v. mX ++ v) (sym (append_assoc N mY (new ∷ [])))
          ∙ sym (append_assoc mX (N ++ mY) (new ∷ []))
