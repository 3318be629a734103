-- The cells of a grid, row by row, and where sections and rows stand beside them.
use Rattle.std.specs.Prelude.{slice_get, filter, flat_map}
use Rattle.std.proofs.Common.{◌≡◌, ◌⊎◌, inl, inr, ℕ, zero, suc, ◌+◌, ◌<◌, ◌≤◌, ◌==◌, Bool, true, false, cond, nat_lt, List, [], ◌∷◌, ◌++◌, map, Option, Some, Result, Ok, Err, refl, sym, ap, ◌∙◌, subst, arith, append-nil}
use Rattle.std.proofs.lemmas.Bool.{eq-eqb, ne_eqb, ltb-true, ltb-false}
use Rattle.std.proofs.lemmas.List.{append_assoc}
use Rattle.ve_kinds.specs.declared.kind.Kind.{Kind}
use Rattle.ve_kinds.specs.declared.kind.Kind.TheVariants.{Tr}
use Rattle.model_items.specs.declared.plain_item.PlainItem.{PlainItem}
use Rattle.model_items.specs.Law.{Lawful}
use Rattle.model_items.specs.Tree.{Open}
use Rattle.model_items.specs.Offsets.{partner, end_of_node}
use Rattle.model_edit.specs.declared.grid_cell.GridCell.{GridCell}
use Rattle.model_edit.specs.Causes.{TableCause}
use Rattle.model_edit.specs.Grid.{TableRow, children_of, section_rows, row_cells, placed_cell, is_crooked, with_row, with_rows}
use Rattle.model_edit_law.specs.Spans.{rectangle_of, of_row, cell_span_at}
use Rattle.model_edit_law.proofs.TablePlaceLemmas.{Chain, from_of, row_at, Home, Homes, children_of_stand, section_stands, sections_stand, if_ok_else}
use Rattle.model_edit_law.proofs.TableFineLemmas.{row_within, rows_apart, row_ahead}
use Rattle.model_edit_law.proofs.TableSetLemmas.{Among}

-- cells and the nodes that they are
abbrev pub Pairs : List PlainItem → List GridCell → List Open → Type 0
Pairs items [] [] = Unit {0}
Pairs items (c ∷ cells) (n ∷ nodes) = (c.at ≡ n.from) × (c.rows ≡ (cell_span_at items n).rows) × (c.columns ≡ (cell_span_at items n).columns) × Pairs items cells nodes
Pairs items [] (n ∷ nodes) = ⊥
Pairs items (c ∷ cells) [] = ⊥

abbrev pub cells_in : ℕ → List GridCell → List GridCell
cells_in row cells = filter (λ (c : GridCell). c.row == row) cells

abbrev AllIn : ℕ → List GridCell → Type 0
AllIn row [] = Unit {0}
AllIn row (c ∷ cells) = (c.row ≡ row) × AllIn row cells

abbrev Under : ℕ → List GridCell → Type 0
Under row [] = Unit {0}
Under row (c ∷ cells) = (c.row < row) × Under row cells

abbrev From : ℕ → List GridCell → Type 0
From row [] = Unit {0}
From row (c ∷ cells) = (row ≤ c.row) × From row cells

in-under : (row : ℕ) (xs ys : List GridCell) → Under row xs → cells_in row (xs ++ ys) ≡ cells_in row ys
in-under row [] ys u = refl
in-under row (c ∷ xs) ys u =
    let l = u.0 in ap (λ b. cond b (c ∷ cells_in row (xs ++ ys)) (cells_in row (xs ++ ys))) (ne_eqb c.row row (λ e. omega arith)) ∙ in-under row xs ys u.1

in-from : (row : ℕ) (xs : List GridCell) → From (suc row) xs → cells_in row xs ≡ []
in-from row [] f = refl
in-from row (c ∷ xs) f = let l = f.0 in ap (λ b. cond b (c ∷ cells_in row xs) (cells_in row xs)) (ne_eqb c.row row (λ e. omega arith)) ∙ in-from row xs f.1

in-here : (row : ℕ) (xs ys : List GridCell) → AllIn row xs → From (suc row) ys → cells_in row (xs ++ ys) ≡ xs
in-here row [] ys a f = in-from row ys f
in-here row (c ∷ xs) ys a f =
    ap (λ b. cond b (c ∷ cells_in row (xs ++ ys)) (cells_in row (xs ++ ys))) (eq-eqb c.row row a.0) ∙ ap (λ v. c ∷ v) (in-here row xs ys a.1 f)

Under-append : (row : ℕ) (xs ys : List GridCell) → Under row xs → AllIn row ys → Under (suc row) (xs ++ ys)
Under-append row [] [] u a = tt
Under-append row [] (c ∷ ys) u a = let e = a.0 in (omega arith, Under-append row [] ys tt a.1)
Under-append row (c ∷ xs) ys u a = let l = u.0 in (omega arith, Under-append row xs ys u.1 a)

From-append : (row : ℕ) (xs ys : List GridCell) → AllIn row xs → From (suc row) ys → From row (xs ++ ys)
From-append row [] [] a f = tt
From-append row [] (c ∷ ys) a f = let l = f.0 in (omega arith, From-append row [] ys tt f.1)
From-append row (c ∷ xs) ys a f = let e = a.0 in (omega arith, From-append row xs ys a.1 f)

row_adds : (items : List PlainItem) (row left end : ℕ) (nodes : List Open) (before cells : List GridCell) → with_row items row left end nodes before ≡ Ok cells →
    (more : List GridCell) × (cells ≡ before ++ more) × AllIn row more × Pairs items more nodes
row_adds items row left end [] before cells h = let e : before ≡ cells = cc in ([], sym e ∙ sym (append-nil before), tt, tt)
row_adds items row left end (n ∷ nodes) before cells h =
    let one = placed_cell items before row end n in
    let p = if_ok_else (is_crooked left before one) _ _ cells h in
    let r = row_adds items row left (one.column + one.columns) nodes (before ++ one ∷ []) cells p.1 in
    (one ∷ r.0, r.1 ∙ append_assoc before (one ∷ []) r.0, (refl, r.2), (refl, refl, refl, r.3))

pub rows_add : (items : List PlainItem) (rows : List TableRow) (index : ℕ) (before cells : List GridCell) → Under index before → with_rows items index rows (Ok before) ≡ Ok cells →
    (later : List GridCell) × (cells ≡ before ++ later) × From index later × ((k : ℕ) (r : TableRow) → slice_get rows k ≡ Some r → Pairs items (cells_in (index + k) cells) (row_cells items r.at))
rows_add items [] index before cells u h = let e : before ≡ cells = cc in ([], sym e ∙ sym (append-nil before), tt, λ k r g. cc)
rows_add items (row ∷ rows) index before cells u h =
    by (λ some u' g. rows_add items rows (suc index) some cells u' g) (with_row items index row.left 0 (row_cells items row.at) before) refl h
  where
    each : (more later : List GridCell) → cells ≡ before ++ (more ++ later) → AllIn index more → From (suc index) later → Pairs items more (row_cells items row.at) →
        ((k : ℕ) (r : TableRow) → slice_get rows k ≡ Some r → Pairs items (cells_in (suc index + k) cells) (row_cells items r.at)) →
        (k : ℕ) (r : TableRow) → slice_get (row ∷ rows) k ≡ Some r → Pairs items (cells_in (index + k) cells) (row_cells items r.at)
    each more later whole here from pairs next zero r g =
        let e : row ≡ r = cc in
        let z : index ≡ index + 0 = omega arith in
        let own : cells_in index cells ≡ more = ap (cells_in index) whole ∙ in-under index before (more ++ later) u ∙ in-here index more later here from in
        subst (λ (v : TableRow). Pairs items (cells_in (index + 0) cells) (row_cells items v.at)) e
        (subst (λ m. Pairs items (cells_in m cells) (row_cells items row.at)) z (subst (λ v. Pairs items v (row_cells items row.at)) (sym own) pairs))
    each more later whole here from pairs next (suc k) r g =
        let z : suc index + k ≡ index + suc k = omega arith in
        subst (λ m. Pairs items (cells_in m cells) (row_cells items r.at)) z (next k r g)

    by : ((some : List GridCell) → Under (suc index) some → with_rows items (suc index) rows (Ok some) ≡ Ok cells →
        (later : List GridCell) × (cells ≡ some ++ later) × From (suc index) later × ((k : ℕ) (r : TableRow) → slice_get rows k ≡ Some r → Pairs items (cells_in (suc index + k) cells) (row_cells items r.at))) →
        (o : Result (List GridCell) TableCause) → with_row items index row.left 0 (row_cells items row.at) before ≡ o → with_rows items (suc index) rows o ≡ Ok cells →
        (later : List GridCell) × (cells ≡ before ++ later) × From index later × ((k : ℕ) (r : TableRow) → slice_get (row ∷ rows) k ≡ Some r → Pairs items (cells_in (index + k) cells) (row_cells items r.at))
    by next (Err e) g h = cc
    by next (Ok some) g h =
        let a = row_adds items index row.left 0 (row_cells items row.at) before some g in
        let b = next some (subst (Under (suc index)) (sym a.1) (Under-append index before a.0 u a.2)) h in
        let whole : cells ≡ before ++ (a.0 ++ b.0) = b.1 ∙ ap (λ v. v ++ b.0) a.1 ∙ append_assoc before a.0 b.0 in
        (a.0 ++ b.0, whole, From-append index a.0 b.0 a.2 b.2, each a.0 b.0 whole a.2 b.2 a.3 b.3)

pub of_row-cells : (row : ℕ) (cells : List GridCell) → of_row (map rectangle_of cells) row ≡ map rectangle_of (cells_in row cells)
of_row-cells row [] = refl
of_row-cells row (c ∷ cells) = by (c.row == row) (of_row-cells row cells)
  where
    by : (b : Bool) → of_row (map rectangle_of cells) row ≡ map rectangle_of (cells_in row cells) →
        cond b (rectangle_of c ∷ of_row (map rectangle_of cells) row) (of_row (map rectangle_of cells) row) ≡ map rectangle_of (cond b (c ∷ cells_in row cells) (cells_in row cells))
    by true e = ap (λ v. rectangle_of c ∷ v) e
    by false e = e

pub Among-filter : (test : GridCell → Bool) (c : GridCell) (cells : List GridCell) → Among c (filter test cells) → Among c cells
Among-filter test c [] a = absurd a
Among-filter test c (x ∷ cells) a = by (test x) a (λ a'. Among-filter test c cells a')
  where
    by : (b : Bool) → Among c (cond b (x ∷ filter test cells) (filter test cells)) → (Among c (filter test cells) → Among c cells) → (x ≡ c) ⊎ Among c cells
    by true (inl e) next = inl e
    by true (inr a') next = inr (next a')
    by false a' next = inr (next a')

pub homes_among : (items : List PlainItem) (rows : List TableRow) (cells : List GridCell) (c : GridCell) → Homes items rows cells → Among c cells → Home items rows c
homes_among items rows [] c h a = absurd a
homes_among items rows (x ∷ cells) c h (inl e) = subst (Home items rows) e h.0
homes_among items rows (x ∷ cells) c h (inr a) = homes_among items rows cells c h.1 a

-- a row begins before a cell, or after its end
pub row_clear : (items : List PlainItem) (low high : ℕ) (rows : List TableRow) (k : ℕ) (r : TableRow) (c : GridCell) → Chain row_at items (Tr ∷ []) low high rows → slice_get rows k ≡ Some r → Home items rows c →
    (r.at < c.at) ⊎ (end_of_node items c.at ≤ r.at)
row_clear items low high rows k r c chain e home = by (nat_lt k c.row) (nat_lt c.row k) refl refl
  where
    by : (x y : Bool) → nat_lt k c.row ≡ x → nat_lt c.row k ≡ y → (r.at < c.at) ⊎ (end_of_node items c.at ≤ r.at)
    by true y f g =
        let w = rows_apart items (Tr ∷ []) low high rows k c.row r home.row chain e home.named (ltb-true k c.row f) in
        let v = row_ahead items (Tr ∷ []) low high rows k r chain e in
        let u = home.low in inl (omega arith)
    by false true f g =
        let w = rows_apart items (Tr ∷ []) low high rows c.row k home.row r chain home.named e (ltb-true c.row k g) in
        let u = home.high in inr (omega arith)
    by false false f g =
        let l = ltb-false k c.row f in
        let m = ltb-false c.row k g in
        let z : k ≡ c.row = omega arith in
        let same : ◌≡◌ {A = Option TableRow} (Some r) (Some home.row) = sym e ∙ ap (slice_get rows) z ∙ home.named in
        let own : r ≡ home.row = cc in
        let u : suc r.at ≤ c.at = subst (λ (v : TableRow). suc v.at ≤ c.at) (sym own) home.low in inl u

abbrev pub AmongNodes : Open → List Open → Type 0
AmongNodes o [] = ⊥
AmongNodes o (x ∷ nodes) = (x ≡ o) ⊎ AmongNodes o nodes

split_get : (xs ys : List TableRow) (k : ℕ) (r : TableRow) → slice_get (xs ++ ys) k ≡ Some r → (slice_get xs k ≡ Some r) ⊎ ((j : ℕ) × (slice_get ys j ≡ Some r))
split_get [] ys k r h = inr (k, h)
split_get (x ∷ xs) ys zero r h = inl h
split_get (x ∷ xs) ys (suc k) r h = split_get xs ys k r h

node_after : (items : List PlainItem) (kinds : List Kind) (nodes : List Open) (low high : ℕ) (o : Open) → Chain from_of items kinds low high nodes → AmongNodes o nodes → low ≤ o.from
node_after items kinds [] low high o c a = absurd a
node_after items kinds (x ∷ nodes) low high o c (inl e) = subst (λ (v : Open). low ≤ v.from) e c.0
node_after items kinds (x ∷ nodes) low high o c (inr a) =
    let l = node_after items kinds nodes (end_of_node items x.from) high o c.2 a in let p = c.0 in let q = (c.1.2).ahead in omega arith

-- a section begins before a row, or after its end
pub section_clear : (items : List PlainItem) (kinds : List Kind) (sections : List Open) (low high : ℕ) (o : Open) (k : ℕ) (r : TableRow) → Lawful items → Chain from_of items kinds low high sections →
    AmongNodes o sections → slice_get (flat_map (λ (section : Open). section_rows (children_of (Tr ∷ []) items section.from)) sections) k ≡ Some r →
    (o.from < r.at) ⊎ (suc (partner items r.at) ≤ o.from)
section_clear items kinds [] low high o k r lawful c a h = absurd a
section_clear items kinds (x ∷ sections) low high o k r lawful c a h =
    by (split_get rows later k r h) a (λ a' j h'. section_clear items kinds sections (end_of_node items x.from) high o j r lawful c.2 a' h')
  where
    rows : List TableRow
    rows = section_rows (children_of (Tr ∷ []) items x.from)

    later : List TableRow
    later = flat_map (λ (section : Open). section_rows (children_of (Tr ∷ []) items section.from)) sections

    by : (slice_get rows k ≡ Some r) ⊎ ((j : ℕ) × (slice_get later j ≡ Some r)) → (x ≡ o) ⊎ AmongNodes o sections →
        (AmongNodes o sections → (j : ℕ) → slice_get later j ≡ Some r → (o.from < r.at) ⊎ (suc (partner items r.at) ≤ o.from)) → (o.from < r.at) ⊎ (suc (partner items r.at) ≤ o.from)
    by (inl e) a next =
        let nodes = children_of (Tr ∷ []) items x.from in
        let stand = section_stands items (suc x.from) (partner items x.from) nodes (children_of_stand items (Tr ∷ []) (c.1.0) x.from lawful (c.1.2)) in
        let w = row_within items (Tr ∷ []) (suc x.from) (partner items x.from) rows k r stand e in
        found a w.0 w.1
      where
        found : (x ≡ o) ⊎ AmongNodes o sections → suc x.from ≤ r.at → suc (partner items r.at) ≤ partner items x.from → (o.from < r.at) ⊎ (suc (partner items r.at) ≤ o.from)
        found (inl same) l m = inl (subst (λ (v : Open). suc v.from ≤ r.at) same l)
        found (inr a') l m = let b = node_after items kinds sections (end_of_node items x.from) high o c.2 a' in inr (omega arith)
    by (inr j) (inl same) next =
        let stand = sections_stand items kinds (end_of_node items x.from) high sections lawful c.2 in
        let w = (row_within items (Tr ∷ []) (end_of_node items x.from) high later j.0 r stand j.1).0 in
        let b = (c.1.2).ahead in
        let l : suc x.from ≤ r.at = omega arith in
        inl (subst (λ (v : Open). suc v.from ≤ r.at) same l)
    by (inr j) (inr a') next = next a' j.0 j.1
