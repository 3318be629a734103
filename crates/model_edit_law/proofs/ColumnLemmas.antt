-- A table as the spans of its cells, and what is left of its rectangles when a column is taken out.
use Rattle.std.specs.Prelude.{filter_map, nat_le}
use Rattle.std.specs.List.{list_any, cons_option}
use Rattle.std.proofs.Common.{◌≡◌, ◌⊎◌, inl, inr, ℕ, zero, suc, ◌+◌, ◌-◌, ◌<◌, ◌≤◌, ◌==◌, Bool, true, false, cond, ◌&&◌, ◌||◌, if◌then◌else◌, nat_lt, List, [], ◌∷◌, ◌++◌, map, Option, Some, None, refl, sym, ap, ◌∙◌, subst, arith, append-nil}
use Rattle.std.proofs.lemmas.Bool.{eqb-true, eqb-false, eq-eqb, ne_eqb, and_parts, and_from, or_parts, or_from, ltb-true, ltb-false, le-leb, lt-ltb, false_from_ne_true, true≢false}
use Rattle.std.proofs.lemmas.List.{append_assoc}
use Rattle.model_edit.specs.Layout.{Rectangle, has_row, has_column, without_column}
use Rattle.model_edit_law.specs.Spans.{CellSpan, Line, covers_cell, free_from, width, meet, laid, bent, lay_row, lay, size_of, of_row, AllSome, EachSome, lines_left}
use Rattle.model_edit_law.specs.TableLaws.{ColOutLays}
use Rattle.model_edit_law.proofs.LeastLemmas.{Least, placed_least, least_one, covers_in, same_has, has_parts}
use Rattle.model_edit_law.proofs.LayLemmas.{filter_map-append, meet_numbers, next_row, not_bent}

and_false : (a : Bool) → (a && false) ≡ false
and_false true = refl
and_false false = refl

covered_grow : (xs ys : List Rectangle) (row c : ℕ) → covers_cell xs row c ≡ true → covers_cell (xs ++ ys) row c ≡ true
covered_grow [] ys row c h = cc
covered_grow (x ∷ xs) ys row c h = by (has_row x row && has_column x c) h (covered_grow xs ys row c)
  where
    by : (b : Bool) → (b || covers_cell xs row c) ≡ true → (covers_cell xs row c ≡ true → covers_cell (xs ++ ys) row c ≡ true) → (b || covers_cell (xs ++ ys) row c) ≡ true
    by true h next = refl
    by false h next = next h

-- nothing before covers what a cell covers that meets none
pub uncovered : (one : Rectangle) (before : List Rectangle) (c : ℕ) → 1 ≤ one.rows → one.column ≤ c → c < one.column + one.columns → list_any (meet one) before ≡ false →
    covers_cell before one.row c ≡ false
uncovered one [] c tall low high h = refl
uncovered one (r ∷ before) c tall low high h =
    let p = or_parts (meet one r) _ h in
    or_from (has_row r one.row && has_column r c) _
    (false_from_ne_true (has_row r one.row && has_column r c) (λ t.
    let q = and_parts (has_row r one.row) _ t in
    let a = has_parts r.row one.row (r.row + r.rows) q.0 in
    let b = has_parts r.column c (r.column + r.columns) q.1 in
    let a0 = a.0 in let a1 = a.1 in let b0 = b.0 in let b1 = b.1 in
    true≢false (sym (and_from _ _ (and_from _ _ (lt-ltb one.row (r.row + r.rows) (omega arith)) (lt-ltb r.row (one.row + one.rows) (omega arith)))
    (and_from _ _ (lt-ltb one.column (r.column + r.columns) (omega arith)) (lt-ltb r.column (one.column + one.columns) (omega arith)))) ∙ p.0)))
    (uncovered one before c tall low high p.1)

module _ (gone : ℕ) where
  abbrev pub fmc : List Rectangle → List Rectangle
  fmc all = filter_map (without_column gone) all

  -- the old column c that the new column k was
  abbrev Beside : (k c : ℕ) → Type 0
  Beside k c = ((k < gone) × (c ≡ k)) ⊎ ((gone ≤ k) × (c ≡ suc k))

  -- where the end of a cell, c, is afterwards
  abbrev Slid : (c d : ℕ) → Type 0
  Slid c d = ((c ≤ gone) × (d ≡ c)) ⊎ ((gone < c) × (suc d ≡ c))

  beside : (k : ℕ) → (c : ℕ) × Beside k c
  beside k = by (nat_lt k gone) refl
    where
      by : (b : Bool) → nat_lt k gone ≡ b → (c : ℕ) × Beside k c
      by true e = (k, inl (ltb-true k gone e, refl))
      by false e = (suc k, inr (ltb-false k gone e, refl))

  -- columns of a rectangle: it begins later, is one less wide, or ends before
  abbrev Num : (a h a' h' : ℕ) → Type 0
  Num a h a' h' =
      ((gone < a) × (suc a' ≡ a) × (h' ≡ h)) ⊎ (((a ≤ gone) × (a' ≡ a) × (gone < a + h) × (suc h' ≡ h) × (1 ≤ h')) ⊎ ((a' ≡ a) × (a + h ≤ gone) × (h' ≡ h)))

  record Narrowed (r r' : Rectangle) : Type 0 where
    pub its_row : r'.row ≡ r.row
    pub its_rows : r'.rows ≡ r.rows
    pub its_columns : Num r.column r.columns r'.column r'.columns

  abbrev Fate : Rectangle → Type 0
  Fate r = ((without_column gone r ≡ None) × (r.column ≡ gone) × (r.columns ≡ 1)) ⊎ ((r' : Rectangle) × (without_column gone r ≡ Some r') × Narrowed r r')

  fate_of : (r : Rectangle) → Fate r
  fate_of r = made (nat_lt gone r.column) (has_column r gone) (r.columns == 1) refl refl refl
    where
      W : Bool → Bool → Bool → Option Rectangle
      W a b c = if a then Some (record r { column = r.column - 1 }) else (if b then (if c then None else Some (record r { columns = r.columns - 1 })) else Some r)

      ended : (b : Bool) → nat_lt gone (r.column + r.columns) ≡ b → r.column ≤ gone → has_column r gone ≡ false → r.column + r.columns ≤ gone
      ended false e l f = ltb-false gone (r.column + r.columns) e
      ended true e l f = absurd (true≢false (sym (and_from (nat_le r.column gone) (nat_lt gone (r.column + r.columns)) (le-leb r.column gone l) e) ∙ f))

      made : (a b c : Bool) → nat_lt gone r.column ≡ a → has_column r gone ≡ b → (r.columns == 1) ≡ c → Fate r
      made true b c e f g =
          let l = ltb-true gone r.column e in
          inr (record r { column = r.column - 1 }, ap (λ x. W x (has_column r gone) (r.columns == 1)) e, record { its_row = refl; its_rows = refl; its_columns = inl (l, omega arith, refl) })
      made false true true e f g =
          let p = has_parts r.column gone (r.column + r.columns) f in
          let p0 = p.0 in let p1 = p.1 in
          let one = eqb-true r.columns 1 g in
          inl ((λ i. W (e i) (f i) (g i)), omega arith, one)
      made false true false e f g =
          let p = has_parts r.column gone (r.column + r.columns) f in
          let p0 = p.0 in let p1 = p.1 in
          let two = wide r.columns (eqb-false r.columns 1 g) (omega arith) in
          inr (record r { columns = r.columns - 1 }, (λ i. W (e i) (f i) (g i)), record { its_row = refl; its_rows = refl; its_columns = inr (inl (p0, refl, p1, omega arith, omega arith)) })
        where
          wide : (h : ℕ) → (h ≡ 1 → ⊥) → 1 ≤ h → 2 ≤ h
          wide zero a b = omega arith
          wide (suc zero) a b = absurd (a refl)
          wide (suc (suc h)) a b = omega arith
      made false false c e f g =
          let l = ltb-false gone r.column e in
          inr (r, (λ i. W (e i) (f i) (r.columns == 1)), record { its_row = refl; its_rows = refl; its_columns = inr (inr (refl, ended (nat_lt gone (r.column + r.columns)) refl l f, refl)) })

  columns_same : (a h a' h' k c : ℕ) → Num a h a' h' → Beside k c → (nat_le a' k && nat_lt k (a' + h')) ≡ (nat_le a c && nat_lt c (a + h))
  columns_same a h a' h' k c (inl x) (inl y) = let x0 = x.0 in let x1 = x.1 in let x2 = x.2 in let y0 = y.0 in let y1 = y.1 in same_has a' a k c (a' + h') (a + h) (λ l m. (omega arith, omega arith)) (λ l m. (omega arith, omega arith))
  columns_same a h a' h' k c (inl x) (inr y) = let x0 = x.0 in let x1 = x.1 in let x2 = x.2 in let y0 = y.0 in let y1 = y.1 in same_has a' a k c (a' + h') (a + h) (λ l m. (omega arith, omega arith)) (λ l m. (omega arith, omega arith))
  columns_same a h a' h' k c (inr (inl x)) (inl y) = let x0 = x.0 in let x1 = x.1 in let x2 = x.2 in let x3 = x.3 in let x4 = x.4 in let y0 = y.0 in let y1 = y.1 in same_has a' a k c (a' + h') (a + h) (λ l m. (omega arith, omega arith)) (λ l m. (omega arith, omega arith))
  columns_same a h a' h' k c (inr (inl x)) (inr y) = let x0 = x.0 in let x1 = x.1 in let x2 = x.2 in let x3 = x.3 in let x4 = x.4 in let y0 = y.0 in let y1 = y.1 in same_has a' a k c (a' + h') (a + h) (λ l m. (omega arith, omega arith)) (λ l m. (omega arith, omega arith))
  columns_same a h a' h' k c (inr (inr x)) (inl y) = let x0 = x.0 in let x1 = x.1 in let x2 = x.2 in let y0 = y.0 in let y1 = y.1 in same_has a' a k c (a' + h') (a + h) (λ l m. (omega arith, omega arith)) (λ l m. (omega arith, omega arith))
  columns_same a h a' h' k c (inr (inr x)) (inr y) = let x0 = x.0 in let x1 = x.1 in let x2 = x.2 in let y0 = y.0 in let y1 = y.1 in same_has a' a k c (a' + h') (a + h) (λ l m. (omega arith, omega arith)) (λ l m. (omega arith, omega arith))

  overlap : (a h a' h' b k b' k' : ℕ) → Num a h a' h' → Num b k b' k' → a' < b' + k' → b' < a' + h' → (a < b + k) × (b < a + h)
  overlap a h a' h' b k b' k' (inl x) (inl y) l m = let x0 = x.0 in let x1 = x.1 in let x2 = x.2 in let y0 = y.0 in let y1 = y.1 in let y2 = y.2 in (omega arith, omega arith)
  overlap a h a' h' b k b' k' (inl x) (inr (inl y)) l m = let x0 = x.0 in let x1 = x.1 in let x2 = x.2 in let y0 = y.0 in let y1 = y.1 in let y2 = y.2 in let y3 = y.3 in let y4 = y.4 in (omega arith, omega arith)
  overlap a h a' h' b k b' k' (inl x) (inr (inr y)) l m = let x0 = x.0 in let x1 = x.1 in let x2 = x.2 in let y0 = y.0 in let y1 = y.1 in let y2 = y.2 in (omega arith, omega arith)
  overlap a h a' h' b k b' k' (inr (inl x)) (inl y) l m = let x0 = x.0 in let x1 = x.1 in let x2 = x.2 in let x3 = x.3 in let x4 = x.4 in let y0 = y.0 in let y1 = y.1 in let y2 = y.2 in (omega arith, omega arith)
  overlap a h a' h' b k b' k' (inr (inl x)) (inr (inl y)) l m = let x0 = x.0 in let x1 = x.1 in let x2 = x.2 in let x3 = x.3 in let x4 = x.4 in let y0 = y.0 in let y1 = y.1 in let y2 = y.2 in let y3 = y.3 in let y4 = y.4 in (omega arith, omega arith)
  overlap a h a' h' b k b' k' (inr (inl x)) (inr (inr y)) l m = let x0 = x.0 in let x1 = x.1 in let x2 = x.2 in let x3 = x.3 in let x4 = x.4 in let y0 = y.0 in let y1 = y.1 in let y2 = y.2 in (omega arith, omega arith)
  overlap a h a' h' b k b' k' (inr (inr x)) (inl y) l m = let x0 = x.0 in let x1 = x.1 in let x2 = x.2 in let y0 = y.0 in let y1 = y.1 in let y2 = y.2 in (omega arith, omega arith)
  overlap a h a' h' b k b' k' (inr (inr x)) (inr (inl y)) l m = let x0 = x.0 in let x1 = x.1 in let x2 = x.2 in let y0 = y.0 in let y1 = y.1 in let y2 = y.2 in let y3 = y.3 in let y4 = y.4 in (omega arith, omega arith)
  overlap a h a' h' b k b' k' (inr (inr x)) (inr (inr y)) l m = let x0 = x.0 in let x1 = x.1 in let x2 = x.2 in let y0 = y.0 in let y1 = y.1 in let y2 = y.2 in (omega arith, omega arith)

  covers_narrow : (row k c : ℕ) (r : Rectangle) → Beside k c → covers_in (without_column gone r) row k ≡ (has_row r row && has_column r c)
  covers_narrow row k c r b = by (fate_of r)
    where
      not_there : (gone' : ℕ) → gone' ≡ gone → (w : ℕ) → w ≡ 1 → Beside k c → (nat_le gone' c && nat_lt c (gone' + w)) ≡ true → ⊥
      not_there gone' e w f (inl y) t = (let p = has_parts gone' c (gone' + w) t in let p0 = p.0 in let p1 = p.1 in let y0 = y.0 in let y1 = y.1 in omega arith)
      not_there gone' e w f (inr y) t = (let p = has_parts gone' c (gone' + w) t in let p0 = p.0 in let p1 = p.1 in let y0 = y.0 in let y1 = y.1 in omega arith)

      by : Fate r → covers_in (without_column gone r) row k ≡ (has_row r row && has_column r c)
      by (inl f) =
          ap (λ o. covers_in o row k) f.0
          ∙ sym (ap (λ v. has_row r row && v) (false_from_ne_true (has_column r c) (not_there r.column f.1 r.columns f.2 b)) ∙ and_false (has_row r row))
      by (inr f) =
          let n = f.2 in
          let r' = f.0 in
          ap (λ o. covers_in o row k) f.1
          ∙ (λ i. (nat_le (n.its_row i) row && nat_lt row (n.its_row i + n.its_rows i)) && columns_same r.column r.columns r'.column r'.columns k c n.its_columns b i)

  covered_columns : (row k c : ℕ) (all : List Rectangle) → Beside k c → covers_cell (fmc all) row k ≡ covers_cell all row c
  covered_columns row k c [] b = refl
  covered_columns row k c (r ∷ all) b = by (without_column gone r) (covers_narrow row k c r b) (covered_columns row k c all b)
    where
      by : (o : Option Rectangle) → covers_in o row k ≡ (has_row r row && has_column r c) → covers_cell (fmc all) row k ≡ covers_cell all row c → covers_cell (cons_option o (fmc all)) row k ≡ covers_cell (r ∷ all) row c
      by None e rest = rest ∙ ap (λ b. b || covers_cell all row c) e
      by (Some r') e rest = (λ i. e i || rest i)

  meet_narrow : (a a' b b' : Rectangle) → Narrowed a a' → Narrowed b b' → meet a' b' ≡ true → meet a b ≡ true
  meet_narrow a a' b b' x y h =
      let n = meet_numbers a' b' h in
      let o = overlap a.column a.columns a'.column a'.columns b.column b.columns b'.column b'.columns x.its_columns y.its_columns n.2 n.3 in
      let n0 = n.0 in let n1 = n.1 in
      let c1 = x.its_row in let c2 = x.its_rows in let c3 = y.its_row in let c4 = y.its_rows in
      and_from _ _ (and_from _ _ (lt-ltb a.row (b.row + b.rows) (omega arith)) (lt-ltb b.row (a.row + a.rows) (omega arith)))
      (and_from _ _ (lt-ltb a.column (b.column + b.columns) o.0) (lt-ltb b.column (a.column + a.columns) o.1))

  none_meets : (a a' : Rectangle) (all : List Rectangle) → Narrowed a a' → list_any (meet a) all ≡ false → list_any (meet a') (fmc all) ≡ false
  none_meets a a' [] x h = refl
  none_meets a a' (b ∷ all) x h =
      let p = or_parts (meet a b) _ h in by (fate_of b) p.0 (none_meets a a' all x p.1)
    where
      by : Fate b → meet a b ≡ false → list_any (meet a') (fmc all) ≡ false → list_any (meet a') (cons_option (without_column gone b) (fmc all)) ≡ false
      by (inl f) m rest = ap (λ o. list_any (meet a') (cons_option o (fmc all))) f.0 ∙ rest
      by (inr f) m rest =
          ap (λ o. list_any (meet a') (cons_option o (fmc all))) f.1
          ∙ or_from (meet a' f.0) _ (false_from_ne_true (meet a' f.0) (λ t. true≢false (sym (meet_narrow a a' b f.0 x f.2 t) ∙ m))) rest

  -- From the end of the cell before on: the new position is not after the old one, and what lies
  -- between is covered.
  record Seam (row end end' : ℕ) (before : List Rectangle) : Type 0 where
    pub low : (d : ℕ) → Slid end d → end' ≤ d
    pub filled : (k c : ℕ) → Beside k c → end' ≤ k → c < end → covers_cell before row c ≡ true

  slid : (c : ℕ) → (d : ℕ) × Slid c d
  slid c = by (nat_lt gone c) refl
    where
      by : (b : Bool) → nat_lt gone c ≡ b → (d : ℕ) × Slid c d
      by true e = (c - 1, inr (ltb-true gone c e, (let l = ltb-true gone c e in omega arith)))
      by false e = (c, inl (ltb-false gone c e, refl))

  filled_up : (row end end' column c k : ℕ) (B : List Rectangle) → Seam row end end' B → Least (covers_cell B row) end column → Beside k c → end' ≤ k → c < column → covers_cell B row c ≡ true
  filled_up row end end' column c k B s l b low high = by (nat_lt c end) refl
    where
      by : (t : Bool) → nat_lt c end ≡ t → covers_cell B row c ≡ true
      by true e = s.filled k c b low (ltb-true c end e)
      by false e = l.passed c (ltb-false c end e) high

  starts : (end end' a h a' h' d : ℕ) → end ≤ a → Slid end d → end' ≤ d → Num a h a' h' → end' ≤ a'
  starts end end' a h a' h' d l (inl y) m (inl x) = let x0 = x.0 in let x1 = x.1 in let x2 = x.2 in let y0 = y.0 in let y1 = y.1 in omega arith
  starts end end' a h a' h' d l (inl y) m (inr (inl x)) = let x0 = x.0 in let x1 = x.1 in let x2 = x.2 in let x3 = x.3 in let x4 = x.4 in let y0 = y.0 in let y1 = y.1 in omega arith
  starts end end' a h a' h' d l (inl y) m (inr (inr x)) = let x0 = x.0 in let x1 = x.1 in let x2 = x.2 in let y0 = y.0 in let y1 = y.1 in omega arith
  starts end end' a h a' h' d l (inr y) m (inl x) = let x0 = x.0 in let x1 = x.1 in let x2 = x.2 in let y0 = y.0 in let y1 = y.1 in omega arith
  starts end end' a h a' h' d l (inr y) m (inr (inl x)) = let x0 = x.0 in let x1 = x.1 in let x2 = x.2 in let x3 = x.3 in let x4 = x.4 in let y0 = y.0 in let y1 = y.1 in omega arith
  starts end end' a h a' h' d l (inr y) m (inr (inr x)) = let x0 = x.0 in let x1 = x.1 in let x2 = x.2 in let y0 = y.0 in let y1 = y.1 in omega arith

  before_old : (a h a' h' k c : ℕ) → Num a h a' h' → Beside k c → k < a' → c < a
  before_old a h a' h' k c (inl x) (inl y) l = let x0 = x.0 in let x1 = x.1 in let x2 = x.2 in let y0 = y.0 in let y1 = y.1 in omega arith
  before_old a h a' h' k c (inl x) (inr y) l = let x0 = x.0 in let x1 = x.1 in let x2 = x.2 in let y0 = y.0 in let y1 = y.1 in omega arith
  before_old a h a' h' k c (inr (inl x)) (inl y) l = let x0 = x.0 in let x1 = x.1 in let x2 = x.2 in let x3 = x.3 in let x4 = x.4 in let y0 = y.0 in let y1 = y.1 in omega arith
  before_old a h a' h' k c (inr (inl x)) (inr y) l = let x0 = x.0 in let x1 = x.1 in let x2 = x.2 in let x3 = x.3 in let x4 = x.4 in let y0 = y.0 in let y1 = y.1 in omega arith
  before_old a h a' h' k c (inr (inr x)) (inl y) l = let x0 = x.0 in let x1 = x.1 in let x2 = x.2 in let y0 = y.0 in let y1 = y.1 in omega arith
  before_old a h a' h' k c (inr (inr x)) (inr y) l = let x0 = x.0 in let x1 = x.1 in let x2 = x.2 in let y0 = y.0 in let y1 = y.1 in omega arith

  within_old : (a h a' h' c : ℕ) → 1 ≤ h → Num a h a' h' → Beside a' c → (a ≤ c) × (c < a + h)
  within_old a h a' h' c some (inl x) (inl y) = let x0 = x.0 in let x1 = x.1 in let x2 = x.2 in let y0 = y.0 in let y1 = y.1 in (omega arith, omega arith)
  within_old a h a' h' c some (inl x) (inr y) = let x0 = x.0 in let x1 = x.1 in let x2 = x.2 in let y0 = y.0 in let y1 = y.1 in (omega arith, omega arith)
  within_old a h a' h' c some (inr (inl x)) (inl y) = let x0 = x.0 in let x1 = x.1 in let x2 = x.2 in let x3 = x.3 in let x4 = x.4 in let y0 = y.0 in let y1 = y.1 in (omega arith, omega arith)
  within_old a h a' h' c some (inr (inl x)) (inr y) = let x0 = x.0 in let x1 = x.1 in let x2 = x.2 in let x3 = x.3 in let x4 = x.4 in let y0 = y.0 in let y1 = y.1 in (omega arith, omega arith)
  within_old a h a' h' c some (inr (inr x)) (inl y) = let x0 = x.0 in let x1 = x.1 in let x2 = x.2 in let y0 = y.0 in let y1 = y.1 in (omega arith, omega arith)
  within_old a h a' h' c some (inr (inr x)) (inr y) = let x0 = x.0 in let x1 = x.1 in let x2 = x.2 in let y0 = y.0 in let y1 = y.1 in (omega arith, omega arith)

  ends_slid : (a h a' h' d : ℕ) → Num a h a' h' → Slid (a + h) d → a' + h' ≤ d
  ends_slid a h a' h' d (inl x) (inl y) = let x0 = x.0 in let x1 = x.1 in let x2 = x.2 in let y0 = y.0 in let y1 = y.1 in omega arith
  ends_slid a h a' h' d (inl x) (inr y) = let x0 = x.0 in let x1 = x.1 in let x2 = x.2 in let y0 = y.0 in let y1 = y.1 in omega arith
  ends_slid a h a' h' d (inr (inl x)) (inl y) = let x0 = x.0 in let x1 = x.1 in let x2 = x.2 in let x3 = x.3 in let x4 = x.4 in let y0 = y.0 in let y1 = y.1 in omega arith
  ends_slid a h a' h' d (inr (inl x)) (inr y) = let x0 = x.0 in let x1 = x.1 in let x2 = x.2 in let x3 = x.3 in let x4 = x.4 in let y0 = y.0 in let y1 = y.1 in omega arith
  ends_slid a h a' h' d (inr (inr x)) (inl y) = let x0 = x.0 in let x1 = x.1 in let x2 = x.2 in let y0 = y.0 in let y1 = y.1 in omega arith
  ends_slid a h a' h' d (inr (inr x)) (inr y) = let x0 = x.0 in let x1 = x.1 in let x2 = x.2 in let y0 = y.0 in let y1 = y.1 in omega arith

  past_end : (a h a' h' k c : ℕ) → Num a h a' h' → Beside k c → a' + h' ≤ k → c < a + h → ⊥
  past_end a h a' h' k c (inl x) (inl y) l m = let x0 = x.0 in let x1 = x.1 in let x2 = x.2 in let y0 = y.0 in let y1 = y.1 in omega arith
  past_end a h a' h' k c (inl x) (inr y) l m = let x0 = x.0 in let x1 = x.1 in let x2 = x.2 in let y0 = y.0 in let y1 = y.1 in omega arith
  past_end a h a' h' k c (inr (inl x)) (inl y) l m = let x0 = x.0 in let x1 = x.1 in let x2 = x.2 in let x3 = x.3 in let x4 = x.4 in let y0 = y.0 in let y1 = y.1 in omega arith
  past_end a h a' h' k c (inr (inl x)) (inr y) l m = let x0 = x.0 in let x1 = x.1 in let x2 = x.2 in let x3 = x.3 in let x4 = x.4 in let y0 = y.0 in let y1 = y.1 in omega arith
  past_end a h a' h' k c (inr (inr x)) (inl y) l m = let x0 = x.0 in let x1 = x.1 in let x2 = x.2 in let y0 = y.0 in let y1 = y.1 in omega arith
  past_end a h a' h' k c (inr (inr x)) (inr y) l m = let x0 = x.0 in let x1 = x.1 in let x2 = x.2 in let y0 = y.0 in let y1 = y.1 in omega arith

  -- a cell that stays is placed where it was, but for the column
  next_column : (B : List Rectangle) (row end end' : ℕ) (s : CellSpan) (r' : Rectangle) → 1 ≤ s.rows → 1 ≤ s.columns → Seam row end end' B → Narrowed (laid B row end s) r' →
      list_any (meet (laid B row end s)) B ≡ false → free_from (fmc B) row end' (width (fmc B)) ≡ r'.column
  next_column B row end end' s r' tall wide seam n apart =
      let one = laid B row end s in
      let l = placed_least B row end in
      let d = slid end in
      least_one (covers_cell (fmc B) row) (covers_cell (fmc B) row) end' _ _ (λ c. refl) (placed_least (fmc B) row end')
      (record {
        low = starts end end' one.column one.columns r'.column r'.columns d.0 l.low d.1 (seam.low d.0 d.1) n.its_columns;
        passed = λ k low high.
            let c = beside k in
            covered_columns row k c.0 B c.1
            ∙ filled_up row end end' one.column c.0 k B seam l c.1 low (before_old one.column one.columns r'.column r'.columns k c.0 n.its_columns c.1 high);
        free = (let c = beside r'.column in
            let w = within_old one.column one.columns r'.column r'.columns c.0 wide n.its_columns c.1 in
            covered_columns row r'.column c.0 B c.1 ∙ uncovered one B c.0 tall w.0 w.1 apart);
      })

  seam_kept : (B : List Rectangle) (row : ℕ) (one r' : Rectangle) → Narrowed one r' → Seam row (one.column + one.columns) (r'.column + r'.columns) B
  seam_kept B row one r' n = record {
    low = λ d e. ends_slid one.column one.columns r'.column r'.columns d n.its_columns e;
    filled = λ k c b l m. absurd (past_end one.column one.columns r'.column r'.columns k c n.its_columns b l m);
  }

  seam_gone : (B : List Rectangle) (row end end' : ℕ) (s : CellSpan) → Seam row end end' B → (laid B row end s).column ≡ gone → s.columns ≡ 1 →
      Seam row ((laid B row end s).column + s.columns) end' (B ++ laid B row end s ∷ [])
  seam_gone B row end end' s seam at one_wide =
      let one = laid B row end s in
      let l = placed_least B row end in
      let first = l.low in
      let low : end' ≤ end = seam.low end (inl (omega arith, refl)) in
      record { low = lower low first; filled = λ k c b m h. between k c b m h l }
    where
      lower : end' ≤ end → end ≤ (laid B row end s).column → (d : ℕ) → Slid ((laid B row end s).column + s.columns) d → end' ≤ d
      lower low first d (inl y) = (let y0 = y.0 in let y1 = y.1 in omega arith)
      lower low first d (inr y) = (let y0 = y.0 in let y1 = y.1 in omega arith)

      between : (k c : ℕ) → Beside k c → end' ≤ k → c < (laid B row end s).column + s.columns → Least (covers_cell B row) end (laid B row end s).column → covers_cell (B ++ laid B row end s ∷ []) row c ≡ true
      between k c (inr y) m h l = absurd (let y0 = y.0 in let y1 = y.1 in omega arith)
      between k c (inl y) m h l =
          let y0 = y.0 in
          let y1 = y.1 in
          covered_grow B (laid B row end s ∷ []) row c (filled_up row end end' (laid B row end s).column c k B seam l (inl y) m (omega arith))

  abbrev AllIn : ℕ → List Rectangle → Type 0
  AllIn row [] = Unit {0}
  AllIn row (r ∷ all) = (r.row ≡ row) × AllIn row all

  -- The rectangles that a row adds, and those that it adds without the column.
  record Row (row left end' : ℕ) (B C : List Rectangle) : Type 0 where
    pub more : List Rectangle
    pub whole : C ≡ B ++ more
    pub here : AllIn row more
    pub narrow : lay_row row left end' (map size_of (fmc more)) (fmc B) ≡ Some (fmc C)

  row_narrowed : (spans : List CellSpan) (row left end end' : ℕ) (B C : List Rectangle) → AllSome spans → Seam row end end' B → lay_row row left end spans B ≡ Some C → Row row left end' B C
  row_narrowed [] row left end end' B C some seam h =
      let e : B ≡ C = cc in
      record { more = []; whole = sym e ∙ sym (append-nil B); here = tt; narrow = ap (λ v. Some (fmc v)) e }
  row_narrowed (s ∷ spans) row left end end' B C some seam h =
      let one = laid B row end s in
      let n = not_bent row left spans B one C h in
      let p = or_parts (nat_lt left s.rows) _ n.0 in
      by (fate_of one) p.0 p.1 (λ next seam'. row_narrowed spans row left (one.column + one.columns) next (B ++ one ∷ []) C some.2 seam' n.1)
    where
      one : Rectangle
      one = laid B row end s

      whole_of : (more : List Rectangle) → C ≡ (B ++ one ∷ []) ++ more → C ≡ B ++ one ∷ more
      whole_of more e = e ∙ append_assoc B (one ∷ []) more

      by : Fate one → nat_lt left s.rows ≡ false → list_any (meet one) B ≡ false → ((next : ℕ) → Seam row (one.column + one.columns) next (B ++ one ∷ []) → Row row left next (B ++ one ∷ []) C) → Row row left end' B C
      by (inl f) short apart next =
          let r = next end' (seam_gone B row end end' s seam f.1 f.2) in
          let same : fmc (B ++ one ∷ []) ≡ fmc B = filter_map-append (without_column gone) B (one ∷ []) ∙ ap (λ o. fmc B ++ cons_option o []) f.0 ∙ append-nil (fmc B) in
          record {
            more = one ∷ r.more;
            whole = whole_of r.more r.whole;
            here = (refl, r.here);
            narrow = ap (λ o. lay_row row left end' (map size_of (cons_option o (fmc r.more))) (fmc B)) f.0
                ∙ ap (lay_row row left end' (map size_of (fmc r.more))) (sym same) ∙ r.narrow;
          }
      by (inr f) short apart next =
          let r' = f.0 in
          let w = f.2 in
          let r = next (r'.column + r'.columns) (seam_kept (B ++ one ∷ []) row one r' w) in
          let same : fmc (B ++ one ∷ []) ≡ fmc B ++ r' ∷ [] = filter_map-append (without_column gone) B (one ∷ []) ∙ ap (λ o. fmc B ++ cons_option o []) f.1 in
          let column = next_column B row end end' s r' some.0 some.1 seam w apart in
          let its_row : row ≡ r'.row = sym w.its_row in
          let place : laid (fmc B) row end' (size_of r') ≡ r' = (λ i. record { row = its_row i; column = column i; rows = r'.rows; columns = r'.columns }) in
          let straight : bent left (fmc B) r' ≡ false = or_from (nat_lt left r'.rows) _ (ap (nat_lt left) w.its_rows ∙ short) (none_meets one r' B w apart) in
          record {
            more = one ∷ r.more;
            whole = whole_of r.more r.whole;
            here = (refl, r.here);
            narrow = ap (λ o. lay_row row left end' (map size_of (cons_option o (fmc r.more))) (fmc B)) f.1
                ∙ ap (next_row row left (map size_of (fmc r.more)) (fmc B)) place
                ∙ ap (λ b. if b then None else lay_row row left (r'.column + r'.columns) (map size_of (fmc r.more)) (fmc B ++ r' ∷ [])) straight
                ∙ ap (lay_row row left (r'.column + r'.columns) (map size_of (fmc r.more))) (sym same) ∙ r.narrow;
          }

  abbrev Under : ℕ → List Rectangle → Type 0
  Under row [] = Unit {0}
  Under row (r ∷ all) = (r.row < row) × Under row all

  abbrev From : ℕ → List Rectangle → Type 0
  From row [] = Unit {0}
  From row (r ∷ all) = (row ≤ r.row) × From row all

  pub of_row-under : (row : ℕ) (xs ys : List Rectangle) → Under row xs → of_row (xs ++ ys) row ≡ of_row ys row
  of_row-under row [] ys u = refl
  of_row-under row (r ∷ xs) ys u =
      let l = u.0 in ap (λ b. cond b (r ∷ of_row (xs ++ ys) row) (of_row (xs ++ ys) row)) (ne_eqb r.row row (λ e. omega arith)) ∙ of_row-under row xs ys u.1

  of_row-from : (row : ℕ) (xs : List Rectangle) → From (suc row) xs → of_row xs row ≡ []
  of_row-from row [] f = refl
  of_row-from row (r ∷ xs) f =
      let l = f.0 in ap (λ b. cond b (r ∷ of_row xs row) (of_row xs row)) (ne_eqb r.row row (λ e. omega arith)) ∙ of_row-from row xs f.1

  of_row-here : (row : ℕ) (xs ys : List Rectangle) → AllIn row xs → From (suc row) ys → of_row (xs ++ ys) row ≡ xs
  of_row-here row [] ys a f = of_row-from row ys f
  of_row-here row (r ∷ xs) ys a f =
      ap (λ b. cond b (r ∷ of_row (xs ++ ys) row) (of_row (xs ++ ys) row)) (eq-eqb r.row row a.0) ∙ ap (λ v. r ∷ v) (of_row-here row xs ys a.1 f)

  Under-append : (row : ℕ) (xs ys : List Rectangle) → Under row xs → AllIn row ys → Under (suc row) (xs ++ ys)
  Under-append row [] [] u a = tt
  Under-append row [] (r ∷ ys) u a = let e = a.0 in (omega arith, Under-append row [] ys tt a.1)
  Under-append row (r ∷ xs) ys u a = let l = u.0 in (omega arith, Under-append row xs ys u.1 a)

  From-append : (row : ℕ) (xs ys : List Rectangle) → AllIn row xs → From (suc row) ys → From row (xs ++ ys)
  From-append row [] [] a f = tt
  From-append row [] (r ∷ ys) a f = let l = f.0 in (omega arith, From-append row [] ys tt f.1)
  From-append row (r ∷ xs) ys a f = let e = a.0 in (omega arith, From-append row xs ys a.1 f)

  -- The rectangles that all rows add, and those that they add without the column.
  record Rest (lines : List Line) (row : ℕ) (B R : List Rectangle) : Type 0 where
    pub later : List Rectangle
    pub whole : R ≡ B ++ later
    pub from : From row later
    pub narrow : lay row (lines_left gone R row lines) (Some (fmc B)) ≡ Some (fmc R)

  lines_narrowed : (lines : List Line) (row : ℕ) (B R : List Rectangle) → EachSome lines → Under row B → lay row lines (Some B) ≡ Some R → Rest lines row B R
  lines_narrowed [] row B R some u h =
      let e : B ≡ R = cc in
      record { later = []; whole = sym e ∙ sym (append-nil B); from = tt; narrow = ap (λ v. Some (fmc v)) e }
  lines_narrowed (line ∷ lines) row B R some u h =
      by (λ C u' h'. lines_narrowed lines (suc row) C R some.1 u' h') (lay_row row line.left 0 line.spans B) refl h
    where
      by : ((C : List Rectangle) → Under (suc row) C → lay (suc row) lines (Some C) ≡ Some R → Rest lines (suc row) C R) →
          (o : Option (List Rectangle)) → lay_row row line.left 0 line.spans B ≡ o → lay (suc row) lines o ≡ Some R → Rest (line ∷ lines) row B R
      by next None e h = cc
      by next (Some C) e h =
          let r = row_narrowed line.spans row line.left 0 0 B C some.0 (record { low = λ d s. omega arith; filled = λ k c b l m. absurd (omega arith) }) e in
          let i = next C (subst (Under (suc row)) (sym r.whole) (Under-append row B r.more u r.here)) h in
          let all : R ≡ B ++ (r.more ++ i.later) = i.whole ∙ ap (λ v. v ++ i.later) r.whole ∙ append_assoc B r.more i.later in
          let here : of_row R row ≡ r.more = ap (λ v. of_row v row) all ∙ of_row-under row B (r.more ++ i.later) u ∙ of_row-here row r.more i.later r.here i.from in
          record {
            later = r.more ++ i.later;
            whole = all;
            from = From-append row r.more i.later r.here i.from;
            narrow = ap (λ v. lay (suc row) (lines_left gone R (suc row) lines) (lay_row row line.left 0 (map size_of (fmc v)) (fmc B))) here
                ∙ ap (lay (suc row) (lines_left gone R (suc row) lines)) r.narrow ∙ i.narrow;
          }

pub col_out_lays : ColOutLays
col_out_lays lines gone all some h = (lines_narrowed gone lines 0 [] all some tt h).narrow
