-- The cells of a table in its grid, and the spans that are read where one is set.
use Rattle.std.specs.Prelude.{slice_get, codes, decimal}
use Rattle.std.proofs.Common.{◌≡◌, inl, inr, ℕ, zero, suc, ◌+◌, ◌-◌, ◌<◌, ◌≤◌, Bool, true, false, if◌then◌else◌, nat_le, nat_lt, List, [], ◌∷◌, ◌++◌, Option, Some, None, Result, Ok, Err, refl, sym, ap, ◌∙◌, subst, arith}
use Rattle.std.proofs.lemmas.Bool.{ltb-true, leb-true}
use Rattle.ve_kinds.specs.declared.kind.Kind.{Kind}
use Rattle.ve_base.specs.declared.head.Head.{Head}
use Rattle.ve_base.specs.declared.marks.Mark.{Mark}
use Rattle.model_items.specs.declared.plain_item.PlainItem.{PlainItem}
use Rattle.model_items.specs.declared.plain_item.PlainItem.TheVariants.{Opening}
use Rattle.model_items.specs.Tree.{Open}
use Rattle.model_change.specs.Attributes.{value_of, attrs_changed, position_kept}
use Rattle.model_edit.specs.declared.grid_cell.GridCell.{GridCell}
use Rattle.model_edit.specs.Causes.{TableCause}
use Rattle.ve_base.specs.Limits.{max_row_span, max_column_span}
use Rattle.model_edit.specs.Grid.{TableRow, row_cells, decimal_number, span_by, span_in, cell_span, placed_cell, is_crooked, with_row, with_rows}
use Rattle.model_edit_law.specs.Spans.{CellSpan, cell_span_at, span_after}
use Rattle.model_edit_law.proofs.SpanLemmas.{span_written}
use Rattle.model_edit_law.proofs.TablePlaceLemmas.{if_ok_else}
use Rattle.model_edit_law.proofs.TableSetLemmas.{Among, set_in, attrs_set, attrs_other}

-- a node of a row is a cell of the grid
pub record Placed (items : List PlainItem) (cells : List GridCell) (row : ℕ) (n : Open) : Type 0 where
  pub cell : GridCell
  pub among : Among cell cells
  pub its_place : cell.at ≡ n.from
  pub its_row : cell.row ≡ row
  pub its_rows : cell.rows ≡ (cell_span_at items n).rows

abbrev pub AllPlaced : List PlainItem → List GridCell → ℕ → List Open → Type 0
AllPlaced items cells row [] = Unit {0}
AllPlaced items cells row (n ∷ nodes) = Placed items cells row n × AllPlaced items cells row nodes

pub Among-left : (c : GridCell) (xs ys : List GridCell) → Among c xs → Among c (xs ++ ys)
Among-left c [] ys a = absurd a
Among-left c (x ∷ xs) ys (inl e) = inl e
Among-left c (x ∷ xs) ys (inr a) = inr (Among-left c xs ys a)

Among-last : (c : GridCell) (xs : List GridCell) → Among c (xs ++ c ∷ [])
Among-last c [] = inl refl
Among-last c (x ∷ xs) = inr (Among-last c xs)

placed_in : (items : List PlainItem) (xs ys : List GridCell) (row : ℕ) (nodes : List Open) → ((c : GridCell) → Among c xs → Among c ys) → AllPlaced items xs row nodes → AllPlaced items ys row nodes
placed_in items xs ys row [] h p = tt
placed_in items xs ys row (n ∷ nodes) h p = (
  record { cell = (p.0).cell; among = h (p.0).cell (p.0).among; its_place = (p.0).its_place; its_row = (p.0).its_row; its_rows = (p.0).its_rows },
  placed_in items xs ys row nodes h p.1,
)

row_placed : (items : List PlainItem) (row left end : ℕ) (nodes : List Open) (before cells : List GridCell) → with_row items row left end nodes before ≡ Ok cells →
    ((c : GridCell) → Among c before → Among c cells) × AllPlaced items cells row nodes
row_placed items row left end [] before cells h = let e : before ≡ cells = cc in ((λ c a. subst (Among c) e a), tt)
row_placed items row left end (n ∷ nodes) before cells h =
    let one = placed_cell items before row end n in
    let p = if_ok_else (is_crooked left before one) _ _ cells h in
    let r = row_placed items row left (one.column + one.columns) nodes (before ++ one ∷ []) cells p.1 in (
      (λ c a. r.0 c (Among-left c before (one ∷ []) a)),
      (record { cell = one; among = r.0 one (Among-last one before); its_place = refl; its_row = refl; its_rows = refl }, r.1),
    )

-- each node of each row
pub rows_placed : (items : List PlainItem) (rows : List TableRow) (index : ℕ) (before cells : List GridCell) → with_rows items index rows (Ok before) ≡ Ok cells →
    ((c : GridCell) → Among c before → Among c cells) × ((k : ℕ) (r : TableRow) → slice_get rows k ≡ Some r → AllPlaced items cells (index + k) (row_cells items r.at))
rows_placed items [] index before cells h = let e : before ≡ cells = cc in ((λ c a. subst (Among c) e a), λ k r g. cc)
rows_placed items (row ∷ rows) index before cells h =
    by (λ some g. rows_placed items rows (suc index) some cells g) (with_row items index row.left 0 (row_cells items row.at) before) refl h
  where
    each : (some : List GridCell) → AllPlaced items some index (row_cells items row.at) → ((c : GridCell) → Among c some → Among c cells) →
        ((k : ℕ) (r : TableRow) → slice_get rows k ≡ Some r → AllPlaced items cells (suc index + k) (row_cells items r.at)) →
        (k : ℕ) (r : TableRow) → slice_get (row ∷ rows) k ≡ Some r → AllPlaced items cells (index + k) (row_cells items r.at)
    each some here more later zero r g =
        let e : row ≡ r = cc in
        let z : index ≡ index + 0 = omega arith in
        subst (λ (v : TableRow). AllPlaced items cells (index + 0) (row_cells items v.at)) e
        (subst (λ m. AllPlaced items cells m (row_cells items row.at)) z (placed_in items some cells index (row_cells items row.at) more here))
    each some here more later (suc k) r g =
        let z : suc index + k ≡ index + suc k = omega arith in
        subst (λ m. AllPlaced items cells m (row_cells items r.at)) z (later k r g)

    by : ((some : List GridCell) → with_rows items (suc index) rows (Ok some) ≡ Ok cells →
        ((c : GridCell) → Among c some → Among c cells) × ((k : ℕ) (r : TableRow) → slice_get rows k ≡ Some r → AllPlaced items cells (suc index + k) (row_cells items r.at))) →
        (o : Result (List GridCell) TableCause) → with_row items index row.left 0 (row_cells items row.at) before ≡ o → with_rows items (suc index) rows o ≡ Ok cells →
        ((c : GridCell) → Among c before → Among c cells) × ((k : ℕ) (r : TableRow) → slice_get (row ∷ rows) k ≡ Some r → AllPlaced items cells (index + k) (row_cells items r.at))
    by next (Err e) g h = cc
    by next (Ok some) g h =
        let a = row_placed items index row.left 0 (row_cells items row.at) before some g in
        let b = next some h in
        ((λ c m. b.0 c (a.0 c m)), each some a.1 b.0 b.1)

-- the spans that an item spells
abbrev pub span_read : Option PlainItem → CellSpan
span_read o = record { rows = cell_span (codes "rowspan") max_row_span o; columns = cell_span (codes "colspan") max_column_span o }

span_most_by : (most : ℕ) (o : Option ℕ) → 1 ≤ most → span_by most o ≤ most
span_most_by most None l = l
span_most_by most (Some n) l = by (nat_le n most) refl
  where
    by : (b : Bool) → nat_le n most ≡ b → (if b then n else 1) ≤ most
    by true e = leb-true n most e
    by false e = l

span_most_in : (most : ℕ) (o : Option (List ℕ)) → 1 ≤ most → span_in most o ≤ most
span_most_in most None l = l
span_most_in most (Some text) l = span_most_by most (decimal_number text) l

-- A cell that reaches the row which goes has one row less.
module _ (kind : Kind) (head : Head) (marks : List Mark) (pre : List ℕ) (origin : Option ℕ) (generated : Bool) where
  abbrev cell_item : PlainItem
  cell_item = Opening kind head marks pre origin generated

  pub rows_written : (m : ℕ) → 1 ≤ m → m ≤ max_row_span → span_read (set_in (codes "rowspan") (Some (decimal m)) (Some cell_item)) ≡ record (span_read (Some cell_item)) { rows = m }
  rows_written m some most =
      let rows : span_in max_row_span (value_of (codes "rowspan") (attrs_changed (codes "rowspan") (position_kept (value_of (codes "rowspan") head.attrs) (Some (decimal m)) (codes "rowspan") None cell_item) (value_of (codes "rowspan") head.attrs) (Some (decimal m)) head.attrs)) ≡ m =
      ap (span_in max_row_span) (attrs_set (codes "rowspan") (decimal m) head.attrs cell_item) ∙ span_written max_row_span m some most (omega arith) in
      let columns = ap (span_in max_column_span) (attrs_other (codes "rowspan") (decimal m) (codes "colspan") head.attrs cell_item refl) in
      (λ i. record { rows = rows i; columns = columns i })

  pub columns_written : (m : ℕ) → 1 ≤ m → m ≤ max_column_span → span_read (set_in (codes "colspan") (Some (decimal m)) (Some cell_item)) ≡ record (span_read (Some cell_item)) { columns = m }
  columns_written m some most =
      let columns : span_in max_column_span (value_of (codes "colspan") (attrs_changed (codes "colspan") (position_kept (value_of (codes "colspan") head.attrs) (Some (decimal m)) (codes "colspan") None cell_item) (value_of (codes "colspan") head.attrs) (Some (decimal m)) head.attrs)) ≡ m =
      ap (span_in max_column_span) (attrs_set (codes "colspan") (decimal m) head.attrs cell_item) ∙ span_written max_column_span m some most (omega arith) in
      let rows = ap (span_in max_row_span) (attrs_other (codes "colspan") (decimal m) (codes "rowspan") head.attrs cell_item refl) in
      (λ i. record { rows = rows i; columns = columns i })

  pub columns_most : (span_read (Some cell_item)).columns ≤ max_column_span
  columns_most = span_most_in max_column_span (value_of (codes "colspan") head.attrs) (omega arith)

  pub span_less : (rows k gone : ℕ) → rows ≡ (span_read (Some cell_item)).rows → k < gone →
      span_read (if nat_lt gone (k + rows) then set_in (codes "rowspan") (Some (decimal (rows - 1))) (Some cell_item) else Some cell_item) ≡ span_after gone k (span_read (Some cell_item))
  span_less rows k gone e l =
      subst (λ m. span_read (if nat_lt gone (k + m) then set_in (codes "rowspan") (Some (decimal (m - 1))) (Some cell_item) else Some cell_item) ≡ span_after gone k (span_read (Some cell_item))) (sym e)
      (by (nat_lt gone (k + (span_read (Some cell_item)).rows)) refl (span_most_in max_row_span (value_of (codes "rowspan") head.attrs) (omega arith)))
    where
      own : CellSpan
      own = span_read (Some cell_item)

      by : (b : Bool) → nat_lt gone (k + own.rows) ≡ b → own.rows ≤ max_row_span →
          span_read (if b then set_in (codes "rowspan") (Some (decimal (own.rows - 1))) (Some cell_item) else Some cell_item) ≡ (if b then record own { rows = own.rows - 1 } else own)
      by true t most = (let far = ltb-true gone (k + own.rows) t in rows_written (own.rows - 1) (omega arith) (omega arith))
      by false t most = refl
