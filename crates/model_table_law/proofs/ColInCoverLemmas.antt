-- The area that rectangles cover when a column is put in: each is moved, or one wider, or stays.
use Rattle.std.specs.Prelude.{filter, nat_le}
use Rattle.std.specs.List.{list_any}
use Rattle.std.proofs.Common.{◌≡◌, ◌⊎◌, inl, inr, ℕ, zero, suc, ◌+◌, ◌-◌, ◌<◌, ◌≤◌, Bool, true, false, not, ◌&&◌, ◌||◌, if◌then◌else◌, nat_lt, List, [], ◌∷◌, ◌++◌, map, refl, sym, ap, ◌∙◌, subst, arith}
use Rattle.std.proofs.lemmas.Bool.{and_parts, and_from, or_parts, or_from, leb-true, leb-false, ltb-true, ltb-false, le-leb, lt-ltb, false_from_ne_true, true≢false}
use Rattle.std.proofs.lemmas.List.Folds.{list_any-append}
use Rattle.model_edit.specs.Layout.{Rectangle, has_row, has_column, grows_right, moved_right, one_by_one}
use Rattle.model_edit_law.specs.Spans.{Line, covers_cell, meet, bent, size_of, of_row}
use Rattle.model_edit_law.proofs.LeastLemmas.{same_has, has_parts}
use Rattle.model_edit_law.proofs.ColumnLemmas.{uncovered}
use Rattle.model_table_law.proofs.RowsAddLemmas.{Sized, Sized-append, free_apart}

pub or_nil : (b : Bool) → (b || false) ≡ b
or_nil true = refl
or_nil false = refl

pub and_no : (a : Bool) → (a && false) ≡ false
and_no true = refl
and_no false = refl

pub no_less : (m n : ℕ) → n ≤ m → nat_lt m n ≡ false
no_less m n l = false_from_ne_true (nat_lt m n) (λ t. let g = ltb-true m n t in omega arith)

pub no_least : (m n : ℕ) → n < m → nat_le m n ≡ false
no_least m n l = false_from_ne_true (nat_le m n) (λ t. let g = leb-true m n t in omega arith)

pub same_rest : (B xs ys : List Rectangle) → B ++ xs ≡ B ++ ys → xs ≡ ys
same_rest [] xs ys h = h
same_rest (b ∷ B) xs ys h = same_rest B xs ys cc

module _ (c : ℕ) where
  -- a cell grows into the column in this row
  abbrev pub grown : List Rectangle → ℕ → Bool
  grown all row = list_any (λ (r : Rectangle). grows_right c r && has_row r row) all

  abbrev pub lefts : List Rectangle → List Rectangle
  lefts all = filter (λ (r : Rectangle). nat_lt r.column c) all

  abbrev pub rights : List Rectangle → List Rectangle
  rights all = filter (λ (r : Rectangle). nat_le c r.column) all

  abbrev pub moved : List Rectangle → List Rectangle
  moved all = map (moved_right c) all

  abbrev pub new_here : Bool → ℕ → List Rectangle
  new_here grows row = if not grows then one_by_one row c ∷ [] else []

  -- a row's rectangles with the column
  abbrev pub row_widened : List Rectangle → Bool → ℕ → List Rectangle
  row_widened more grows row = moved (lefts more) ++ (new_here grows row ++ moved (rights more))

  abbrev pub row_with : List Rectangle → ℕ → List Rectangle
  row_with all row = row_widened (of_row all row) (grown all row) row

  -- each row with the spans of its rectangles with the column
  abbrev pub lines_with : List Rectangle → ℕ → List Line → List Line
  lines_with all row [] = []
  lines_with all row (line ∷ lines) = record { left = line.left; spans = map size_of (row_with all row) } ∷ lines_with all (suc row) lines

  -- columns of a rectangle: it is moved, one wider, or stays
  abbrev pub Num : (a h a' h' : ℕ) → Type 0
  Num a h a' h' = ((c ≤ a) × (a' ≡ suc a) × (h' ≡ h)) ⊎ (((a < c) × (a' ≡ a) × (c < a + h) × (h' ≡ suc h)) ⊎ ((a < c) × (a' ≡ a) × (a + h ≤ c) × (h' ≡ h)))

  pub record Moved (r r' : Rectangle) : Type 0 where
    pub its_row : r.row ≡ r'.row
    pub its_rows : r'.rows ≡ r.rows
    pub its_columns : Num r.column r.columns r'.column r'.columns

  pub moved_of : (r : Rectangle) → Moved r (moved_right c r)
  moved_of r = by (nat_le c r.column) refl (grows_right c r) refl
    where
      M : Bool → Bool → Rectangle
      M a b = if a then record r { column = suc r.column } else (if b then record r { columns = suc r.columns } else r)

      by : (a : Bool) → nat_le c r.column ≡ a → (b : Bool) → grows_right c r ≡ b → Moved r (moved_right c r)
      by true e b f =
          let l = leb-true c r.column e in
          subst (Moved r) (ap (λ x. M x (grows_right c r)) (sym e)) (record { its_row = refl; its_rows = refl; its_columns = inl (l, refl, refl) })
      by false e true f =
          let l = leb-false c r.column e in
          let p = has_parts r.column c (r.column + r.columns) (and_parts (nat_lt r.column c) _ f).1 in
          subst (Moved r) (λ i. M (sym e i) (sym f i)) (record { its_row = refl; its_rows = refl; its_columns = inr (inl (omega arith, refl, p.1, refl)) })
      by false e false f =
          let l = leb-false c r.column e in
          let end : r.column + r.columns ≤ c = ended (nat_lt c (r.column + r.columns)) refl (omega arith) f in
          subst (Moved r) (λ i. M (sym e i) (sym f i)) (record { its_row = refl; its_rows = refl; its_columns = inr (inr (omega arith, refl, end, refl)) })
        where
          ended : (b : Bool) → nat_lt c (r.column + r.columns) ≡ b → r.column < c → grows_right c r ≡ false → r.column + r.columns ≤ c
          ended false t l f = ltb-false c (r.column + r.columns) t
          ended true t l f = absurd (true≢false (sym (and_from _ _ (lt-ltb r.column c l) (and_from _ _ (le-leb r.column c (omega arith)) t)) ∙ f))

  -- which columns it has
  columns_left : (a h a' h' k : ℕ) → Num a h a' h' → k < c → (nat_le a' k && nat_lt k (a' + h')) ≡ (nat_le a k && nat_lt k (a + h))
  columns_left a h a' h' k (inl x) l = let x0 = x.0 in let x1 = x.1 in let x2 = x.2 in same_has a' a k k (a' + h') (a + h) (λ p q. (omega arith, omega arith)) (λ p q. (omega arith, omega arith))
  columns_left a h a' h' k (inr (inl x)) l = let x0 = x.0 in let x1 = x.1 in let x2 = x.2 in let x3 = x.3 in same_has a' a k k (a' + h') (a + h) (λ p q. (omega arith, omega arith)) (λ p q. (omega arith, omega arith))
  columns_left a h a' h' k (inr (inr x)) l = let x0 = x.0 in let x1 = x.1 in let x2 = x.2 in let x3 = x.3 in same_has a' a k k (a' + h') (a + h) (λ p q. (omega arith, omega arith)) (λ p q. (omega arith, omega arith))

  columns_right : (a h a' h' k : ℕ) → Num a h a' h' → c ≤ k → (nat_le a' (suc k) && nat_lt (suc k) (a' + h')) ≡ (nat_le a k && nat_lt k (a + h))
  columns_right a h a' h' k (inl x) l = let x0 = x.0 in let x1 = x.1 in let x2 = x.2 in same_has a' a (suc k) k (a' + h') (a + h) (λ p q. (omega arith, omega arith)) (λ p q. (omega arith, omega arith))
  columns_right a h a' h' k (inr (inl x)) l = let x0 = x.0 in let x1 = x.1 in let x2 = x.2 in let x3 = x.3 in same_has a' a (suc k) k (a' + h') (a + h) (λ p q. (omega arith, omega arith)) (λ p q. (omega arith, omega arith))
  columns_right a h a' h' k (inr (inr x)) l = let x0 = x.0 in let x1 = x.1 in let x2 = x.2 in let x3 = x.3 in same_has a' a (suc k) k (a' + h') (a + h) (λ p q. (omega arith, omega arith)) (λ p q. (omega arith, omega arith))

  columns_middle : (r r' : Rectangle) → Moved r r' → has_column r' c ≡ grows_right c r
  columns_middle r r' m = by m.its_columns
    where
      by : Num r.column r.columns r'.column r'.columns → has_column r' c ≡ grows_right c r
      by (inl x) =
          let x0 = x.0 in let x1 = x.1 in
          ap (λ b. b && nat_lt c (r'.column + r'.columns)) (no_least r'.column c (omega arith))
          ∙ sym (ap (λ b. b && has_column r c) (no_less r.column c (omega arith)))
      by (inr (inl x)) =
          let x0 = x.0 in let x1 = x.1 in let x2 = x.2 in let x3 = x.3 in
          and_from _ _ (le-leb r'.column c (omega arith)) (lt-ltb c (r'.column + r'.columns) (omega arith))
          ∙ sym (and_from _ _ (lt-ltb r.column c (omega arith)) (and_from _ _ (le-leb r.column c (omega arith)) (lt-ltb c (r.column + r.columns) (omega arith))))
      by (inr (inr x)) =
          let x0 = x.0 in let x1 = x.1 in let x2 = x.2 in let x3 = x.3 in
          ap (λ b. nat_le r'.column c && b) (no_less c (r'.column + r'.columns) (omega arith)) ∙ and_no (nat_le r'.column c)
          ∙ sym (ap (λ b. nat_lt r.column c && (nat_le r.column c && b)) (no_less c (r.column + r.columns) (omega arith)) ∙ ap (λ b. nat_lt r.column c && b) (and_no (nat_le r.column c)) ∙ and_no (nat_lt r.column c))

  -- The area that the rectangles so far cover, and that which they cover with the column. In the
  -- rows from one on no new cell stands.
  pub record Twin (from : ℕ) (B B' : List Rectangle) : Type 0 where
    pub left : (row k : ℕ) → k < c → covers_cell B' row k ≡ covers_cell B row k
    pub right : (row k : ℕ) → c ≤ k → covers_cell B' row (suc k) ≡ covers_cell B row k
    pub middle : (row : ℕ) → from ≤ row → covers_cell B' row c ≡ grown B row

  pub Twin-later : (from : ℕ) (B B' : List Rectangle) → Twin from B B' → Twin (suc from) B B'
  Twin-later from B B' t = record { left = t.left; right = t.right; middle = λ row l. t.middle row (omega arith) }

  pub covered-append : (xs ys : List Rectangle) (row k : ℕ) → covers_cell (xs ++ ys) row k ≡ (covers_cell xs row k || covers_cell ys row k)
  covered-append xs ys row k = list_any-append (λ (r : Rectangle). has_row r row && has_column r k) xs ys

  pub grown-append : (xs ys : List Rectangle) (row : ℕ) → grown (xs ++ ys) row ≡ (grown xs row || grown ys row)
  grown-append xs ys row = list_any-append (λ (r : Rectangle). grows_right c r && has_row r row) xs ys

  same_row : (r r' : Rectangle) (row : ℕ) → Moved r r' → has_row r' row ≡ has_row r row
  same_row r r' row m = (λ i. nat_le (sym m.its_row i) row && nat_lt row (sym m.its_row i + m.its_rows i))

  pub Twin-more : (from : ℕ) (B B' : List Rectangle) (r : Rectangle) → Twin from B B' → Twin from (B ++ r ∷ []) (B' ++ moved_right c r ∷ [])
  Twin-more from B B' r t =
      let r' = moved_right c r in
      let m = moved_of r in
      record {
        left = λ row k l. covered-append B' (r' ∷ []) row k
            ∙ (λ i. t.left row k l i || ((same_row r r' row m i && columns_left r.column r.columns r'.column r'.columns k m.its_columns l i) || false)) ∙ sym (covered-append B (r ∷ []) row k);
        right = λ row k l. covered-append B' (r' ∷ []) row (suc k)
            ∙ (λ i. t.right row k l i || ((same_row r r' row m i && columns_right r.column r.columns r'.column r'.columns k m.its_columns l i) || false)) ∙ sym (covered-append B (r ∷ []) row k);
        middle = λ row l. covered-append B' (r' ∷ []) row c
            ∙ (λ i. t.middle row l i || ((same_row r r' row m i && columns_middle r r' m i) || false))
            ∙ ap (λ b. grown B row || (b || false)) (swap (has_row r row) (grows_right c r)) ∙ sym (grown-append B (r ∷ []) row);
      }
    where
      swap : (a b : Bool) → (a && b) ≡ (b && a)
      swap true true = refl
      swap true false = refl
      swap false true = refl
      swap false false = refl

  pub Twin-new : (row : ℕ) (B B' : List Rectangle) → Twin row B B' → Twin (suc row) B (B' ++ one_by_one row c ∷ [])
  Twin-new row B B' t = record {
    left = λ at k l. beside at k (inl l) ∙ t.left at k l;
    right = λ at k l. beside at (suc k) (inr (omega arith)) ∙ t.right at k l;
    middle = λ at l.
        covered-append B' (one_by_one row c ∷ []) at c
        ∙ ap (λ b. covers_cell B' at c || (((nat_le row at && b) && has_column (one_by_one row c) c) || false)) (no_less at (row + 1) (omega arith))
        ∙ ap (λ b. covers_cell B' at c || ((b && has_column (one_by_one row c) c) || false)) (and_no (nat_le row at))
        ∙ or_nil (covers_cell B' at c) ∙ t.middle at (omega arith);
  }
    where
      apart : (k : ℕ) → (k < c) ⊎ (c < k) → has_column (one_by_one row c) k ≡ false
      apart k (inl l) = ap (λ b. b && nat_lt k (c + 1)) (no_least c k l)
      apart k (inr l) = ap (λ b. nat_le c k && b) (no_less k (c + 1) (omega arith)) ∙ and_no (nat_le c k)

      beside : (at k : ℕ) → (k < c) ⊎ (c < k) → covers_cell (B' ++ one_by_one row c ∷ []) at k ≡ covers_cell B' at k
      beside at k l =
          covered-append B' (one_by_one row c ∷ []) at k
          ∙ ap (λ b. covers_cell B' at k || ((has_row (one_by_one row c) at && b) || false)) (apart k l)
          ∙ ap (λ b. covers_cell B' at k || (b || false)) (and_no (has_row (one_by_one row c) at))
          ∙ or_nil (covers_cell B' at k)

  -- where nothing covers the column, nothing grows into it
  pub not_grown : (B : List Rectangle) (row : ℕ) → covers_cell B row c ≡ false → grown B row ≡ false
  not_grown [] row h = refl
  not_grown (r ∷ B) row h =
      let p = or_parts (has_row r row && has_column r c) _ h in
      or_from (grows_right c r && has_row r row) _
      (false_from_ne_true (grows_right c r && has_row r row) (λ t.
      let q = and_parts (grows_right c r) _ t in
      true≢false (sym (and_from _ _ q.1 (and_parts (nat_lt r.column c) _ q.0).1) ∙ p.0)))
      (not_grown B row p.1)

  pub Sized-more : (row : ℕ) (B' : List Rectangle) (r : Rectangle) → r.row ≡ row → 1 ≤ r.columns → Sized row B' → Sized row (B' ++ moved_right c r ∷ [])
  Sized-more row B' r e w s = let m = moved_of r in let i = m.its_row in Sized-append row B' (moved_right c r ∷ []) s (omega arith, wide m.its_columns, tt)
    where
      wide : Num r.column r.columns (moved_right c r).column (moved_right c r).columns → 1 ≤ (moved_right c r).columns
      wide (inl x) = let x2 = x.2 in omega arith
      wide (inr (inl x)) = let x3 = x.3 in omega arith
      wide (inr (inr x)) = let x3 = x.3 in omega arith

  -- a cell that met nothing meets nothing where it is then
  pub still_straight : (row left : ℕ) (B B' : List Rectangle) (one : Rectangle) (from : ℕ) → one.row ≡ row → 1 ≤ one.rows → 1 ≤ one.columns → (one.column < c → from ≤ row) → Twin from B B' → Sized row B' →
      bent left B one ≡ false → bent left B' (moved_right c one) ≡ false
  still_straight row left B B' one from its_row tall some reach t s h =
      let m = moved_of one in
      let p = or_parts (nat_lt left one.rows) _ h in
      let e : row ≡ (moved_right c one).row = sym its_row ∙ m.its_row in
      or_from (nat_lt left (moved_right c one).rows) _ (ap (nat_lt left) m.its_rows ∙ p.0)
      (free_apart (moved_right c one) B' (wide m.its_columns) (subst (λ k. Sized k B') e s)
      (λ k low high. subst (λ v. covers_cell B' v k ≡ false) e (free m.its_columns p.1 k low high)))
    where
      m' : Rectangle
      m' = moved_right c one

      wide : Num one.column one.columns m'.column m'.columns → 1 ≤ m'.columns
      wide (inl x) = let x2 = x.2 in omega arith
      wide (inr (inl x)) = let x3 = x.3 in omega arith
      wide (inr (inr x)) = let x3 = x.3 in omega arith

      old : list_any (meet one) B ≡ false → (k : ℕ) → one.column ≤ k → k < one.column + one.columns → covers_cell B row k ≡ false
      old apart k low high = subst (λ v. covers_cell B v k ≡ false) its_row (uncovered one B k tall low high apart)

      before : list_any (meet one) B ≡ false → (j k : ℕ) → k ≡ suc j → c ≤ j → one.column ≤ j → j < one.column + one.columns → covers_cell B' row k ≡ false
      before apart j k e l low high = ap (covers_cell B' row) e ∙ t.right row j l ∙ old apart j low high

      free : Num one.column one.columns m'.column m'.columns → list_any (meet one) B ≡ false → (k : ℕ) → m'.column ≤ k → k < m'.column + m'.columns → covers_cell B' row k ≡ false
      free (inl x) apart zero low high = absurd (let x1 = x.1 in omega arith)
      free (inl x) apart (suc j) low high = let x0 = x.0 in let x1 = x.1 in let x2 = x.2 in before apart j (suc j) refl (omega arith) (omega arith) (omega arith)
      free (inr (inl x)) apart k low high = by (nat_lt k c) refl (nat_lt c k) refl
        where
          by : (a : Bool) → nat_lt k c ≡ a → (b : Bool) → nat_lt c k ≡ b → covers_cell B' row k ≡ false
          by true e b f = let l = ltb-true k c e in let x1 = x.1 in let x2 = x.2 in t.left row k l ∙ old apart k (omega arith) (omega arith)
          by false e true f =
              let l = ltb-true c k f in let x0 = x.0 in let x1 = x.1 in let x3 = x.3 in
              before apart (k - 1) k (omega arith) (omega arith) (omega arith) (omega arith)
          by false e false f =
              let l = ltb-false k c e in let g = ltb-false c k f in let x0 = x.0 in let x2 = x.2 in
              let z : k ≡ c = omega arith in
              ap (covers_cell B' row) z ∙ t.middle row (reach x0) ∙ not_grown B row (old apart c (omega arith) (omega arith))
      free (inr (inr x)) apart k low high = let x0 = x.0 in let x1 = x.1 in let x2 = x.2 in let x3 = x.3 in t.left row k (omega arith) ∙ old apart k (omega arith) (omega arith)
