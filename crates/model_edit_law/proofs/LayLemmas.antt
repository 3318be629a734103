-- A table as the spans of its cells, row by row, and its rectangles; and what they are when a row
-- is taken out.
use Rattle.std.specs.Prelude.{filter_map}
use Rattle.std.specs.List.{list_any, cons_option}
use Rattle.std.proofs.Common.{◌≡◌, ◌⊎◌, inl, inr, ℕ, zero, suc, ◌+◌, ◌-◌, ◌<◌, ◌≤◌, ◌==◌, Bool, true, false, not, ◌&&◌, ◌||◌, if◌then◌else◌, nat_lt, nat_le, List, [], ◌∷◌, ◌++◌, length, map, Option, Some, None, refl, sym, ap, ◌∙◌, subst, arith}
use Rattle.std.proofs.lemmas.Bool.{cases_Bool, eqb-true, eqb-false, eq-eqb, ne_eqb, and_parts, and_from, or_parts, or_from, leb-true, ltb-true, leb-false, ltb-false, le-leb, lt-ltb, false_from_ne_true, true≢false}
use Rattle.model_edit.specs.Layout.{Rectangle, has_row, without_row}
use Rattle.model_edit_law.specs.Spans.{free_from, width, LowIn, CellSpan, Line, meet, laid, bent, lay_row, lay, span_after, line_after, lines_after}
use Rattle.model_edit_law.specs.TableLaws.{RowOutLays}
use Rattle.model_edit_law.proofs.LeastLemmas.{covered_kept, placed_same}

abbrev pub fm : ℕ → List Rectangle → List Rectangle
fm gone all = filter_map (without_row gone) all

pub filter_map-append : {A B : Type 0} (f : A → Option B) (xs ys : List A) → filter_map f (xs ++ ys) ≡ filter_map f xs ++ filter_map f ys
filter_map-append f [] ys = refl
filter_map-append f (x ∷ xs) ys = by (f x) (filter_map-append f xs ys)
  where
    by : (o : Option _) → filter_map f (xs ++ ys) ≡ filter_map f xs ++ filter_map f ys → cons_option o (filter_map f (xs ++ ys)) ≡ cons_option o (filter_map f xs) ++ filter_map f ys
    by None e = e
    by (Some y) e = ap (λ v. y ∷ v) e

-- what a row number is after
abbrev Moved : (gone row row' : ℕ) → Type 0
Moved gone row row' = ((row < gone) × (row' ≡ row)) ⊎ ((gone < row) × (suc row' ≡ row))

-- what the rows of a rectangle are after: it begins later, is one less high, or ends above
abbrev Num : (gone a h a' h' : ℕ) → Type 0
Num gone a h a' h' =
    ((gone < a) × (suc a' ≡ a) × (h' ≡ h))
    ⊎ (((a < gone) × (a' ≡ a) × (gone < a + h) × (suc h' ≡ h))
    ⊎ ((a < gone) × (a' ≡ a) × (a + h ≤ gone) × (h' ≡ h)))

overlap : (gone a h a' h' b k b' k' : ℕ) → Num gone a h a' h' → Num gone b k b' k' → a' < b' + k' → b' < a' + h' → (a < b + k) × (b < a + h)
overlap gone a h a' h' b k b' k' (inl x) (inl y) l m = let x0 = x.0 in let x1 = x.1 in let x2 = x.2 in let y0 = y.0 in let y1 = y.1 in let y2 = y.2 in (omega arith, omega arith)
overlap gone a h a' h' b k b' k' (inl x) (inr (inl y)) l m = let x0 = x.0 in let x1 = x.1 in let x2 = x.2 in let y0 = y.0 in let y1 = y.1 in let y2 = y.2 in let y3 = y.3 in (omega arith, omega arith)
overlap gone a h a' h' b k b' k' (inl x) (inr (inr y)) l m = let x0 = x.0 in let x1 = x.1 in let x2 = x.2 in let y0 = y.0 in let y1 = y.1 in let y2 = y.2 in let y3 = y.3 in (omega arith, omega arith)
overlap gone a h a' h' b k b' k' (inr (inl x)) (inl y) l m = let x0 = x.0 in let x1 = x.1 in let x2 = x.2 in let x3 = x.3 in let y0 = y.0 in let y1 = y.1 in let y2 = y.2 in (omega arith, omega arith)
overlap gone a h a' h' b k b' k' (inr (inl x)) (inr (inl y)) l m = let x0 = x.0 in let x1 = x.1 in let x2 = x.2 in let x3 = x.3 in let y0 = y.0 in let y1 = y.1 in let y2 = y.2 in let y3 = y.3 in (omega arith, omega arith)
overlap gone a h a' h' b k b' k' (inr (inl x)) (inr (inr y)) l m = let x0 = x.0 in let x1 = x.1 in let x2 = x.2 in let x3 = x.3 in let y0 = y.0 in let y1 = y.1 in let y2 = y.2 in let y3 = y.3 in (omega arith, omega arith)
overlap gone a h a' h' b k b' k' (inr (inr x)) (inl y) l m = let x0 = x.0 in let x1 = x.1 in let x2 = x.2 in let x3 = x.3 in let y0 = y.0 in let y1 = y.1 in let y2 = y.2 in (omega arith, omega arith)
overlap gone a h a' h' b k b' k' (inr (inr x)) (inr (inl y)) l m = let x0 = x.0 in let x1 = x.1 in let x2 = x.2 in let x3 = x.3 in let y0 = y.0 in let y1 = y.1 in let y2 = y.2 in let y3 = y.3 in (omega arith, omega arith)
overlap gone a h a' h' b k b' k' (inr (inr x)) (inr (inr y)) l m = let x0 = x.0 in let x1 = x.1 in let x2 = x.2 in let x3 = x.3 in let y0 = y.0 in let y1 = y.1 in let y2 = y.2 in let y3 = y.3 in (omega arith, omega arith)

record Alike (gone : ℕ) (r r' : Rectangle) : Type 0 where
  pub rows : Num gone r.row r.rows r'.row r'.rows
  pub column : r'.column ≡ r.column
  pub columns : r'.columns ≡ r.columns

alike_of : (gone : ℕ) (r r' : Rectangle) → (r.row ≡ gone → r.rows ≡ 1) → without_row gone r ≡ Some r' → Alike gone r r'
alike_of gone r r' low e = first (nat_lt gone r.row) refl e
  where
    some_same : {x y : Rectangle} → ◌≡◌ {A = Option Rectangle} (Some x) (Some y) → x ≡ y
    some_same h = cc

    third : (b : Bool) → (r.rows == 1) ≡ b → r.row ≤ gone → gone < r.row + r.rows → (if b then None else Some (record r { rows = r.rows - 1 })) ≡ Some r' → Alike gone r r'
    third true o l h e = cc
    third false o l h e = subst (Alike gone r) (some_same e) (made (eqb-false r.rows 1 o) (Rattle.std.proofs.lemmas.Bool.cases_eq r.row gone))
      where
        made : (r.rows ≡ 1 → ⊥) → ((r.row ≡ gone) ⊎ (r.row ≡ gone → ⊥)) → Alike gone r (record r { rows = r.rows - 1 })
        made n (inl z) = absurd (n (low z))
        made n (inr z) = record { rows = inr (inl (omega arith, refl, h, omega arith)); column = refl; columns = refl }

    second : (b : Bool) → has_row r gone ≡ b → r.row ≤ gone → (if b then (if r.rows == 1 then None else Some (record r { rows = r.rows - 1 })) else Some r) ≡ Some r' → Alike gone r r'
    second true h l e =
        let p = and_parts (nat_le r.row gone) _ h in third (r.rows == 1) refl l (ltb-true gone (r.row + r.rows) p.1) e
    second false h l e = subst (Alike gone r) (some_same e) (made (cases_Bool (nat_lt gone (r.row + r.rows))) (Rattle.std.proofs.lemmas.Bool.cases_eq r.row gone))
      where
        made : ((nat_lt gone (r.row + r.rows) ≡ true) ⊎ (nat_lt gone (r.row + r.rows) ≡ false)) → ((r.row ≡ gone) ⊎ (r.row ≡ gone → ⊥)) → Alike gone r r
        made (inl t) z = absurd (true≢false (sym (and_from (nat_le r.row gone) (nat_lt gone (r.row + r.rows)) (le-leb r.row gone l) t) ∙ h))
        made (inr f) (inl z) = absurd (let far = ltb-false gone (r.row + r.rows) f in let one = low z in omega arith)
        made (inr f) (inr z) = let far = ltb-false gone (r.row + r.rows) f in record { rows = inr (inr (omega arith, refl, far, refl)); column = refl; columns = refl }

    first : (b : Bool) → nat_lt gone r.row ≡ b →
        (if b then Some (record r { row = r.row - 1 }) else (if has_row r gone then (if r.rows == 1 then None else Some (record r { rows = r.rows - 1 })) else Some r)) ≡ Some r' → Alike gone r r'
    first true t e = let l = ltb-true gone r.row t in subst (Alike gone r) (some_same e) (record { rows = inl (l, omega arith, refl); column = refl; columns = refl })
    first false f e = second (has_row r gone) refl (ltb-false gone r.row f) e

pub meet_numbers : (a b : Rectangle) → meet a b ≡ true → (a.row < b.row + b.rows) × (b.row < a.row + a.rows) × (a.column < b.column + b.columns) × (b.column < a.column + a.columns)
meet_numbers a b h =
    let p = and_parts (nat_lt a.row (b.row + b.rows) && nat_lt b.row (a.row + a.rows)) _ h in
    let q = and_parts (nat_lt a.row (b.row + b.rows)) _ p.0 in
    let r = and_parts (nat_lt a.column (b.column + b.columns)) _ p.1 in
    (ltb-true _ _ q.0, ltb-true _ _ q.1, ltb-true _ _ r.0, ltb-true _ _ r.1)

-- two that meet after have met before
meet_before : (gone : ℕ) (a a' b b' : Rectangle) → Alike gone a a' → Alike gone b b' → meet a' b' ≡ true → meet a b ≡ true
meet_before gone a a' b b' x y h =
    let n = meet_numbers a' b' h in
    let o = overlap gone a.row a.rows a'.row a'.rows b.row b.rows b'.row b'.rows x.rows y.rows n.0 n.1 in
    let c1 = x.column in let c2 = x.columns in let c3 = y.column in let c4 = y.columns in
    let n2 = n.2 in let n3 = n.3 in
    and_from _ _ (and_from _ _ (lt-ltb a.row (b.row + b.rows) o.0) (lt-ltb b.row (a.row + a.rows) o.1))
    (and_from _ _ (lt-ltb a.column (b.column + b.columns) (omega arith)) (lt-ltb b.column (a.column + a.columns) (omega arith)))

no_meets : (gone : ℕ) (a a' : Rectangle) (all : List Rectangle) → LowIn gone all → Alike gone a a' → list_any (meet a) all ≡ false → list_any (meet a') (fm gone all) ≡ false
no_meets gone a a' [] low x h = refl
no_meets gone a a' (b ∷ all) low x h =
    let p = or_parts (meet a b) _ h in
    by (without_row gone b) refl p.0 (no_meets gone a a' all low.1 x p.1)
  where
    by : (o : Option Rectangle) → without_row gone b ≡ o → meet a b ≡ false → list_any (meet a') (fm gone all) ≡ false → list_any (meet a') (cons_option o (fm gone all)) ≡ false
    by None e f rest = rest
    by (Some b') e f rest =
        or_from (meet a' b') _ (false_from_ne_true (meet a' b') (λ t. true≢false (sym (meet_before gone a a' b b' x (alike_of gone b b' low.0 e) t) ∙ f))) rest

LowIn-append : (gone : ℕ) (xs ys : List Rectangle) → LowIn gone xs → LowIn gone ys → LowIn gone (xs ++ ys)
LowIn-append gone [] ys h g = g
LowIn-append gone (x ∷ xs) ys h g = (h.0, LowIn-append gone xs ys h.1 g)

LowIn-prefix : (gone : ℕ) (xs ys : List Rectangle) → LowIn gone (xs ++ ys) → LowIn gone xs × LowIn gone ys
LowIn-prefix gone [] ys h = (tt, h)
LowIn-prefix gone (x ∷ xs) ys h = let r = LowIn-prefix gone xs ys h.1 in ((h.0, r.0), r.1)

abbrev rect : (row column : ℕ) → CellSpan → Rectangle
rect row column s = record { row = row; column = column; rows = s.rows; columns = s.columns }

abbrev pub next_row : (row left : ℕ) → List CellSpan → List Rectangle → Rectangle → Option (List Rectangle)
next_row row left spans before one = if bent left before one then None else lay_row row left (one.column + one.columns) spans (before ++ one ∷ [])

pub not_bent : (row left : ℕ) (spans : List CellSpan) (before : List Rectangle) (one : Rectangle) (all : List Rectangle) → next_row row left spans before one ≡ Some all →
    (bent left before one ≡ false) × (lay_row row left (one.column + one.columns) spans (before ++ one ∷ []) ≡ Some all)
not_bent row left spans before one all h = by (bent left before one) refl h
  where
    by : (b : Bool) → bent left before one ≡ b → (if b then None else lay_row row left (one.column + one.columns) spans (before ++ one ∷ [])) ≡ Some all →
        (bent left before one ≡ false) × (lay_row row left (one.column + one.columns) spans (before ++ one ∷ []) ≡ Some all)
    by true e h = cc
    by false e h = (e, h)

module _ (gone row row' left left' : ℕ) (f : CellSpan → CellSpan) (before_ : row < gone → row' ≡ row) (after_ : gone < row → suc row' ≡ row) (other : row ≡ gone → ⊥)
    (without : (column : ℕ) (s : CellSpan) → without_row gone (rect row column s) ≡ Some (rect row' column (f s))) (wide : (s : CellSpan) → (f s).columns ≡ s.columns)
    (short : (s : CellSpan) → nat_lt left s.rows ≡ false → nat_lt left' (f s).rows ≡ false) where
  row_kept : (spans : List CellSpan) (end : ℕ) (B C : List Rectangle) → LowIn gone B → lay_row row left end spans B ≡ Some C → lay_row row' left' end (map f spans) (fm gone B) ≡ Some (fm gone C)
  row_kept [] end B C low h = let e : B ≡ C = cc in ap (λ v. Some (fm gone v)) e
  row_kept (s ∷ spans) end B C low h =
      let one = laid B row end s in
      let new = rect row' one.column (f s) in
      let n = not_bent row left spans B one C h in
      let b = or_parts (nat_lt left s.rows) _ n.0 in
      let low' : LowIn gone (B ++ one ∷ []) = LowIn-append gone B (one ∷ []) low ((λ e. absurd (other e)), tt) in
      let alike = alike_of gone one new (λ e. absurd (other e)) (without one.column s) in
      let col : free_from (fm gone B) row' end (width (fm gone B)) ≡ one.column =
      placed_same (fm gone B) B row' row end (λ c. covered_kept gone row row' c B low before_ after_ other) in
      let place : laid (fm gone B) row' end (f s) ≡ new = ap (λ c. rect row' c (f s)) col in
      let straight : bent left' (fm gone B) new ≡ false = or_from (nat_lt left' (f s).rows) _ (short s b.0) (no_meets gone one new B low alike b.1) in
      let joined : fm gone (B ++ one ∷ []) ≡ fm gone B ++ new ∷ [] =
      filter_map-append (without_row gone) B (one ∷ []) ∙ ap (λ o. fm gone B ++ cons_option o []) (without one.column s) in
      let end' : new.column + new.columns ≡ one.column + one.columns = ap (λ w. one.column + w) (wide s) in
      let rest = row_kept spans (one.column + one.columns) (B ++ one ∷ []) C low' n.1 in
      ap (next_row row' left' (map f spans) (fm gone B)) place
      ∙ ap (λ b. if b then None else lay_row row' left' (new.column + new.columns) (map f spans) (fm gone B ++ new ∷ [])) straight
      ∙ (λ i. lay_row row' left' (end' i) (map f spans) (sym joined i))
      ∙ rest

-- what is placed before stays before
row_prefix : (spans : List CellSpan) (row left end : ℕ) (B C : List Rectangle) → lay_row row left end spans B ≡ Some C → (more : List Rectangle) × (C ≡ B ++ more)
row_prefix [] row left end B C h = let e : B ≡ C = cc in ([], sym e ∙ sym (Rattle.std.proofs.Common.append-nil B))
row_prefix (s ∷ spans) row left end B C h =
    let one = laid B row end s in
    let n = not_bent row left spans B one C h in
    let r = row_prefix spans row left (one.column + one.columns) (B ++ one ∷ []) C n.1 in
    (one ∷ r.0, r.1 ∙ Rattle.std.proofs.lemmas.List.append_assoc B (one ∷ []) r.0)

lay_none : (row : ℕ) (lines : List Line) → lay row lines None ≡ None
lay_none row lines = refl

all_prefix : (lines : List Line) (row : ℕ) (B R : List Rectangle) → lay row lines (Some B) ≡ Some R → (more : List Rectangle) × (R ≡ B ++ more)
all_prefix [] row B R h = let e : B ≡ R = cc in ([], sym e ∙ sym (Rattle.std.proofs.Common.append-nil B))
all_prefix (line ∷ lines) row B R h = by (λ C g. all_prefix lines (suc row) C R g) (lay_row row line.left 0 line.spans B) refl h
  where
    by : ((C : List Rectangle) → lay (suc row) lines (Some C) ≡ Some R → (more : List Rectangle) × (R ≡ C ++ more)) →
        (o : Option (List Rectangle)) → lay_row row line.left 0 line.spans B ≡ o → lay (suc row) lines o ≡ Some R → (more : List Rectangle) × (R ≡ B ++ more)
    by rest None e h = cc
    by rest (Some C) e h =
        let a = row_prefix line.spans row line.left 0 B C e in
        let b = rest C h in
        (a.0 ++ b.0, b.1 ∙ ap (λ v. v ++ b.0) a.1 ∙ Rattle.std.proofs.lemmas.List.append_assoc B a.0 b.0)

low_before : (gone : ℕ) (lines : List Line) (row : ℕ) (B R : List Rectangle) → LowIn gone R → lay row lines (Some B) ≡ Some R → LowIn gone B
low_before gone lines row B R low h = let f = all_prefix lines row B R h in (LowIn-prefix gone B f.0 (subst (LowIn gone) f.1 low)).0

-- after the row that goes each is one further up
after_one : (gone row column : ℕ) (s : CellSpan) → gone < row → without_row gone (rect row column s) ≡ Some (rect (row - 1) column s)
after_one gone row column s h =
    ap (λ b. if b then Some (rect (row - 1) column s) else (if has_row (rect row column s) gone then (if s.rows == 1 then None else Some (record (rect row column s) { rows = s.rows - 1 })) else Some (rect row column s)))
    (lt-ltb gone row h)

map_same : (spans : List CellSpan) → map (λ s. s) spans ≡ spans
map_same [] = refl
map_same (s ∷ spans) = ap (λ v. s ∷ v) (map_same spans)

after_kept : (gone : ℕ) (lines : List Line) (row : ℕ) (B R : List Rectangle) → gone < row → LowIn gone R → lay row lines (Some B) ≡ Some R →
    lay (row - 1) lines (Some (fm gone B)) ≡ Some (fm gone R)
after_kept gone [] row B R less low h = let e : B ≡ R = cc in ap (λ v. Some (fm gone v)) e
after_kept gone (line ∷ lines) row B R less low h =
    by (λ C g. after_kept gone lines (suc row) C R (omega arith) low g) (lay_row row line.left 0 line.spans B) refl h
  where
    by : ((C : List Rectangle) → lay (suc row) lines (Some C) ≡ Some R → lay (suc row - 1) lines (Some (fm gone C)) ≡ Some (fm gone R)) →
        (o : Option (List Rectangle)) → lay_row row line.left 0 line.spans B ≡ o → lay (suc row) lines o ≡ Some R → lay (row - 1) (line ∷ lines) (Some (fm gone B)) ≡ Some (fm gone R)
    by rest None e h = cc
    by rest (Some C) e h =
        let lowB = low_before gone (line ∷ lines) row B R low (ap (lay (suc row) lines) e ∙ h) in
        let kept = row_kept gone row (row - 1) line.left line.left (λ s. s) (λ l. absurd (omega arith)) (λ l. omega arith) (λ z. absurd (omega arith))
        (λ column s. after_one gone row column s less) (λ s. refl) (λ s g. g) line.spans 0 B C lowB e in
        let kept' : lay_row (row - 1) line.left 0 line.spans (fm gone B) ≡ Some (fm gone C) = ap (λ v. lay_row (row - 1) line.left 0 v (fm gone B)) (sym (map_same line.spans)) ∙ kept in
        let z : suc (row - 1) ≡ suc row - 1 = omega arith in
        ap (lay (suc (row - 1)) lines) kept' ∙ ap (λ n. lay n lines (Some (fm gone C))) z ∙ rest C h

-- a cell of the row itself goes
single_one : (gone column : ℕ) (s : CellSpan) → s.rows ≡ 1 → without_row gone (rect gone column s) ≡ None
single_one gone column s e =
    let r = rect gone column s in
    let a : nat_lt gone gone ≡ false = false_from_ne_true (nat_lt gone gone) (λ t. let l = ltb-true gone gone t in omega arith) in
    let b : has_row r gone ≡ true = and_from (nat_le gone gone) _ (le-leb gone gone (omega arith)) (lt-ltb gone (gone + s.rows) (omega arith)) in
    ap (λ v. if v then Some (record r { row = gone - 1 }) else (if has_row r gone then (if s.rows == 1 then None else Some (record r { rows = s.rows - 1 })) else Some r)) a
    ∙ ap (λ v. if v then (if s.rows == 1 then None else Some (record r { rows = s.rows - 1 })) else Some r) b
    ∙ ap (λ v. if v then None else Some (record r { rows = s.rows - 1 })) (eq-eqb s.rows 1 e)

row_gone : (gone : ℕ) (spans : List CellSpan) (left end : ℕ) (B C : List Rectangle) → LowIn gone C → lay_row gone left end spans B ≡ Some C → fm gone C ≡ fm gone B
row_gone gone [] left end B C low h = let e : B ≡ C = cc in ap (fm gone) (sym e)
row_gone gone (s ∷ spans) left end B C low h =
    let one = laid B gone end s in
    let n = not_bent gone left spans B one C h in
    let f = row_prefix spans gone left (one.column + one.columns) (B ++ one ∷ []) C n.1 in
    let low1 = (LowIn-prefix gone B (one ∷ []) (LowIn-prefix gone (B ++ one ∷ []) f.0 (subst (LowIn gone) f.1 low)).0).1 in
    row_gone gone spans left (one.column + one.columns) (B ++ one ∷ []) C low n.1
    ∙ filter_map-append (without_row gone) B (one ∷ [])
    ∙ ap (λ o. fm gone B ++ cons_option o []) (single_one gone one.column s (low1.0 refl))
    ∙ Rattle.std.proofs.Common.append-nil (fm gone B)

-- above it a cell keeps its rows, or has one less
above_one : (gone row column : ℕ) (s : CellSpan) → row < gone → without_row gone (rect row column s) ≡ Some (rect row column (span_after gone row s))
above_one gone row column s h =
    let r = rect row column s in
    let a : nat_lt gone row ≡ false = false_from_ne_true (nat_lt gone row) (λ t. let l = ltb-true gone row t in omega arith) in
    let b : nat_le row gone ≡ true = le-leb row gone (omega arith) in
    let E : Bool → Option Rectangle = λ v. if v then (if s.rows == 1 then None else Some (record r { rows = s.rows - 1 })) else Some r in
    let S : Bool → CellSpan = λ v. if v then record s { rows = s.rows - 1 } else s in
    ap (λ v. if v then Some (record r { row = row - 1 }) else E (nat_le row gone && nat_lt gone (row + s.rows))) a
    ∙ ap (λ v. E (v && nat_lt gone (row + s.rows))) b
    ∙ elim (cases_Bool (nat_lt gone (row + s.rows))) [
      | inl yes_ ↦ subst (λ v. E v ≡ Some (rect row column (S v))) (sym yes_)
          (let l = ltb-true gone (row + s.rows) yes_ in ap (λ v. if v then None else Some (record r { rows = s.rows - 1 })) (ne_eqb s.rows 1 (λ e. omega arith)))
      | inr no_ ↦ subst (λ v. E v ≡ Some (rect row column (S v))) (sym no_) refl
    ]

span_wide : (gone row : ℕ) (s : CellSpan) → (span_after gone row s).columns ≡ s.columns
span_wide gone row s = elim (nat_lt gone (row + s.rows)) as (λ b. (if b then record s { rows = s.rows - 1 } else s).columns ≡ s.columns) [ true ↦ refl | false ↦ refl ]

span_short : (gone row left : ℕ) (s : CellSpan) → row < gone → nat_lt left s.rows ≡ false →
    nat_lt (if nat_lt gone (row + left) then left - 1 else left) (span_after gone row s).rows ≡ false
span_short gone row left s h e =
    by (nat_lt gone (row + left)) (nat_lt gone (row + s.rows)) refl refl (ltb-false left s.rows e)
  where
    no_less : (m n : ℕ) → n ≤ m → nat_lt m n ≡ false
    no_less m n l = false_from_ne_true (nat_lt m n) (λ t. let g = ltb-true m n t in omega arith)

    by : (a b : Bool) → nat_lt gone (row + left) ≡ a → nat_lt gone (row + s.rows) ≡ b → s.rows ≤ left →
        nat_lt (if a then left - 1 else left) (if b then record s { rows = s.rows - 1 } else s).rows ≡ false
    by true true x y l = no_less (left - 1) (s.rows - 1) (omega arith)
    by true false x y l = let p = ltb-true gone (row + left) x in let q = ltb-false gone (row + s.rows) y in no_less (left - 1) s.rows (omega arith)
    by false true x y l = no_less left (s.rows - 1) (omega arith)
    by false false x y l = no_less left s.rows l

-- A table without a row: its rectangles are those without the row.
pub lay_kept : (gone : ℕ) (lines : List Line) (above row : ℕ) (B R : List Rectangle) → gone ≡ row + above → above < length lines → LowIn gone R → lay row lines (Some B) ≡ Some R →
    lay row (lines_after gone above row lines) (Some (fm gone B)) ≡ Some (fm gone R)
lay_kept gone [] above row B R at within low h = absurd (omega arith)
lay_kept gone (line ∷ lines) zero row B R at within low h =
    by (lay_row row line.left 0 line.spans B) refl h
  where
    here : row ≡ gone
    here = omega arith

    by : (o : Option (List Rectangle)) → lay_row row line.left 0 line.spans B ≡ o → lay (suc row) lines o ≡ Some R → lay row lines (Some (fm gone B)) ≡ Some (fm gone R)
    by None e h = cc
    by (Some C) e h =
        let lowC = low_before gone lines (suc row) C R low h in
        let same = row_gone gone line.spans line.left 0 B C lowC (subst (λ n. lay_row n line.left 0 line.spans B ≡ Some C) here e) in
        let z : row ≡ suc row - 1 = omega arith in
        ap (λ v. lay row lines (Some v)) (sym same) ∙ ap (λ n. lay n lines (Some (fm gone C))) z ∙ after_kept gone lines (suc row) C R (omega arith) low h
lay_kept gone (line ∷ lines) (suc above) row B R at within low h =
    by (λ C g. lay_kept gone lines above (suc row) C R (omega arith) (omega arith) low g) (lay_row row line.left 0 line.spans B) refl h
  where
    by : ((C : List Rectangle) → lay (suc row) lines (Some C) ≡ Some R → lay (suc row) (lines_after gone above (suc row) lines) (Some (fm gone C)) ≡ Some (fm gone R)) →
        (o : Option (List Rectangle)) → lay_row row line.left 0 line.spans B ≡ o → lay (suc row) lines o ≡ Some R →
        lay row (line_after gone row line ∷ lines_after gone above (suc row) lines) (Some (fm gone B)) ≡ Some (fm gone R)
    by rest None e h = cc
    by rest (Some C) e h =
        let lowB = low_before gone (line ∷ lines) row B R low (ap (lay (suc row) lines) e ∙ h) in
        let kept = row_kept gone row row line.left (line_after gone row line).left (span_after gone row) (λ l. refl) (λ l. absurd (omega arith)) (λ z. absurd (omega arith))
        (λ column s. above_one gone row column s (omega arith)) (span_wide gone row) (λ s g. span_short gone row line.left s (omega arith) g) line.spans 0 B C lowB e in
        ap (lay (suc row) (lines_after gone above (suc row) lines)) kept ∙ rest C h

pub row_out_lays : RowOutLays
row_out_lays lines gone all within low h = lay_kept gone lines gone 0 [] all (omega arith) within low h
