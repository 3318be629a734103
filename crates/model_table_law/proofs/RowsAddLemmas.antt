-- The rectangles that each row of a table adds to those before it.
use Rattle.std.specs.List.{list_any}
use Rattle.std.proofs.Common.{◌≡◌, inl, inr, ℕ, suc, ◌+◌, ◌-◌, ◌<◌, ◌≤◌, Bool, true, false, cond, ◌&&◌, if◌then◌else◌, nat_lt, List, [], ◌∷◌, ◌++◌, Option, Some, None, refl, sym, ap, ◌∙◌, subst, arith, append-nil}
use Rattle.std.proofs.lemmas.Bool.{cases_eq, and_from, or_parts, or_from, ltb-true, ltb-false, le-leb, lt-ltb, eq-eqb, ne_eqb, false_from_ne_true, true≢false}
use Rattle.std.proofs.lemmas.List.{append_assoc}
use Rattle.model_edit.specs.Layout.{Rectangle, has_row, has_column}
use Rattle.model_edit_law.specs.Spans.{CellSpan, Line, covers_cell, free_from, width, meet, laid, bent, lay_row, lay, size_of, of_row}
use Rattle.model_edit_law.proofs.LeastLemmas.{placed_least}
use Rattle.model_edit_law.proofs.LayLemmas.{meet_numbers, next_row, not_bent}

-- no rectangle is later than a row, and none is empty
abbrev pub Sized : ℕ → List Rectangle → Type 0
Sized row [] = Unit {0}
Sized row (r ∷ all) = (r.row ≤ row) × (1 ≤ r.columns) × Sized row all

pub Sized-append : (row : ℕ) (xs ys : List Rectangle) → Sized row xs → Sized row ys → Sized row (xs ++ ys)
Sized-append row [] ys x y = y
Sized-append row (r ∷ xs) ys x y = (x.0, x.1, Sized-append row xs ys x.2 y)

pub Sized-later : (row : ℕ) (xs : List Rectangle) → Sized row xs → Sized (suc row) xs
Sized-later row [] x = tt
Sized-later row (r ∷ xs) x = let l = x.0 in (omega arith, x.1, Sized-later row xs x.2)

-- what covers only free positions meets nothing
pub free_apart : (one : Rectangle) (B : List Rectangle) → 1 ≤ one.columns → Sized one.row B → ((k : ℕ) → one.column ≤ k → k < one.column + one.columns → covers_cell B one.row k ≡ false) →
    list_any (meet one) B ≡ false
free_apart one [] wide sized free = refl
free_apart one (b ∷ B) wide sized free =
    or_from (meet one b) _ (false_from_ne_true (meet one b) (λ t. never (meet_numbers one b t) (nat_lt one.column b.column) refl))
    (free_apart one B wide sized.2 (λ k low high. (or_parts (has_row b one.row && has_column b k) _ (free k low high)).1))
  where
    at : (k : ℕ) → one.column ≤ k → k < one.column + one.columns → b.column ≤ k → k < b.column + b.columns → one.row < b.row + b.rows → ⊥
    at k low high low' high' r =
        let h = sized.0 in
        true≢false (sym (and_from _ _ (and_from _ _ (le-leb b.row one.row h) (lt-ltb one.row (b.row + b.rows) r)) (and_from _ _ (le-leb b.column k low') (lt-ltb k (b.column + b.columns) high')))
        ∙ (or_parts (has_row b one.row && has_column b k) _ (free k low high)).0)

    never : (one.row < b.row + b.rows) × (b.row < one.row + one.rows) × (one.column < b.column + b.columns) × (b.column < one.column + one.columns) → (t : Bool) → nat_lt one.column b.column ≡ t → ⊥
    never n true e = (let l = ltb-true one.column b.column e in let s = sized.1 in let n2 = n.2 in let n3 = n.3 in at b.column (omega arith) (omega arith) (omega arith) (omega arith) n.0)
    never n false e = (let l = ltb-false one.column b.column e in let n2 = n.2 in let n3 = n.3 in at one.column (omega arith) (omega arith) (omega arith) (omega arith) n.0)

-- a cell at the least free position that meets nothing
pub put_one : (row left end : ℕ) (spans : List CellSpan) (B D : List Rectangle) (m : Rectangle) → row ≡ m.row → free_from B row end (width B) ≡ m.column → bent left B m ≡ false →
    lay_row row left (m.column + m.columns) spans (B ++ m ∷ []) ≡ Some D → lay_row row left end (size_of m ∷ spans) B ≡ Some D
put_one row left end spans B D m its_row column straight rest =
    let place : laid B row end (size_of m) ≡ m = (λ i. record { row = its_row i; column = column i; rows = m.rows; columns = m.columns }) in
    ap (next_row row left spans B) place
    ∙ ap (λ b. if b then None else lay_row row left (m.column + m.columns) spans (B ++ m ∷ [])) straight ∙ rest

abbrev pub AllIn : ℕ → List Rectangle → Type 0
AllIn row [] = Unit {0}
AllIn row (r ∷ all) = (r.row ≡ row) × AllIn row all

abbrev pub Under : ℕ → List Rectangle → Type 0
Under row [] = Unit {0}
Under row (r ∷ all) = (r.row < row) × Under row all

abbrev pub From : ℕ → List Rectangle → Type 0
From row [] = Unit {0}
From row (r ∷ all) = (row ≤ r.row) × From row all

-- columns do not fall
abbrev pub Rising : ℕ → List Rectangle → Type 0
Rising low [] = Unit {0}
Rising low (r ∷ all) = (low ≤ r.column) × Rising r.column all

pub Rising-lower : (low low' : ℕ) (all : List Rectangle) → low' ≤ low → Rising low all → Rising low' all
Rising-lower low low' [] l h = tt
Rising-lower low low' (r ∷ all) l h = let a = h.0 in (omega arith, h.1)

-- what a row adds
pub record Adds (row end : ℕ) (B C : List Rectangle) : Type 0 where
  pub more : List Rectangle
  pub whole : C ≡ B ++ more
  pub here : AllIn row more
  pub rising : Rising end more

pub row_adds : (spans : List CellSpan) (row left end : ℕ) (B C : List Rectangle) → lay_row row left end spans B ≡ Some C → Adds row end B C
row_adds [] row left end B C h = let e : B ≡ C = cc in record { more = []; whole = sym e ∙ sym (append-nil B); here = tt; rising = tt }
row_adds (s ∷ spans) row left end B C h =
    let one = laid B row end s in
    let n = not_bent row left spans B one C h in
    let r = row_adds spans row left (one.column + one.columns) (B ++ one ∷ []) C n.1 in
    record {
      more = one ∷ r.more;
      whole = r.whole ∙ append_assoc B (one ∷ []) r.more;
      here = (refl, r.here);
      rising = ((placed_least B row end).low, Rising-lower (one.column + one.columns) one.column r.more (omega arith) r.rising);
    }

pub of_row-under : (row : ℕ) (xs ys : List Rectangle) → Under row xs → of_row (xs ++ ys) row ≡ of_row ys row
of_row-under row [] ys u = refl
of_row-under row (r ∷ xs) ys u =
    let l = u.0 in ap (λ b. cond b (r ∷ of_row (xs ++ ys) row) (of_row (xs ++ ys) row)) (ne_eqb r.row row (λ e. omega arith)) ∙ of_row-under row xs ys u.1

of_row-from : (row : ℕ) (xs : List Rectangle) → From (suc row) xs → of_row xs row ≡ []
of_row-from row [] f = refl
of_row-from row (r ∷ xs) f =
    let l = f.0 in ap (λ b. cond b (r ∷ of_row xs row) (of_row xs row)) (ne_eqb r.row row (λ e. omega arith)) ∙ of_row-from row xs f.1

pub of_row-here : (row : ℕ) (xs ys : List Rectangle) → AllIn row xs → From (suc row) ys → of_row (xs ++ ys) row ≡ xs
of_row-here row [] ys a f = of_row-from row ys f
of_row-here row (r ∷ xs) ys a f =
    ap (λ b. cond b (r ∷ of_row (xs ++ ys) row) (of_row (xs ++ ys) row)) (eq-eqb r.row row a.0) ∙ ap (λ v. r ∷ v) (of_row-here row xs ys a.1 f)

pub Under-append : (row : ℕ) (xs ys : List Rectangle) → Under row xs → AllIn row ys → Under (suc row) (xs ++ ys)
Under-append row [] [] u a = tt
Under-append row [] (r ∷ ys) u a = let e = a.0 in (omega arith, Under-append row [] ys tt a.1)
Under-append row (r ∷ xs) ys u a = let l = u.0 in (omega arith, Under-append row xs ys u.1 a)

From-append : (row : ℕ) (xs ys : List Rectangle) → AllIn row xs → From (suc row) ys → From row (xs ++ ys)
From-append row [] [] a f = tt
From-append row [] (r ∷ ys) a f = let l = f.0 in (omega arith, From-append row [] ys tt f.1)
From-append row (r ∷ xs) ys a f = let e = a.0 in (omega arith, From-append row xs ys a.1 f)

-- what all rows add
pub record Later (row : ℕ) (B R : List Rectangle) : Type 0 where
  pub later : List Rectangle
  pub whole : R ≡ B ++ later
  pub from : From row later
  pub rising : (k : ℕ) → row ≤ k → Rising 0 (of_row R k)

pub rows_add : (lines : List Line) (row : ℕ) (B R : List Rectangle) → Under row B → lay row lines (Some B) ≡ Some R → Later row B R
rows_add [] row B R u h =
    let e : B ≡ R = cc in
    record { later = []; whole = sym e ∙ sym (append-nil B); from = tt; rising = λ k l. subst (λ v. Rising 0 (of_row v k)) (append-nil B ∙ e) (subst (Rising 0) (sym (of_row-under k B [] (up k l B u))) tt) }
  where
    up : (k : ℕ) → row ≤ k → (xs : List Rectangle) → Under row xs → Under k xs
    up k l [] u = tt
    up k l (x ∷ xs) u = let a = u.0 in (omega arith, up k l xs u.1)
rows_add (line ∷ lines) row B R u h = by (λ C u' h'. rows_add lines (suc row) C R u' h') (lay_row row line.left 0 line.spans B) refl h
  where
    by : ((C : List Rectangle) → Under (suc row) C → lay (suc row) lines (Some C) ≡ Some R → Later (suc row) C R) →
        (o : Option (List Rectangle)) → lay_row row line.left 0 line.spans B ≡ o → lay (suc row) lines o ≡ Some R → Later row B R
    by next None e h = cc
    by next (Some C) e h =
        let r = row_adds line.spans row line.left 0 B C e in
        let i = next C (subst (Under (suc row)) (sym r.whole) (Under-append row B r.more u r.here)) h in
        let all : R ≡ B ++ (r.more ++ i.later) = i.whole ∙ ap (λ v. v ++ i.later) r.whole ∙ append_assoc B r.more i.later in
        let here : of_row R row ≡ r.more = ap (λ v. of_row v row) all ∙ of_row-under row B (r.more ++ i.later) u ∙ of_row-here row r.more i.later r.here i.from in
        record {
          later = r.more ++ i.later;
          whole = all;
          from = From-append row r.more i.later r.here i.from;
          rising = λ k l. elim (cases_eq row k) [
            | inl same ↦ subst (λ m. Rising 0 (of_row R m)) same (subst (Rising 0) (sym here) r.rising)
            | inr other ↦ i.rising k (omega arith)
          ];
        }

pub rows_rise : (lines : List Line) (all : List Rectangle) → lay 0 lines (Some []) ≡ Some all → (k : ℕ) → Rising 0 (of_row all k)
rows_rise lines all h k = (rows_add lines 0 [] all tt h).rising k (omega arith)
