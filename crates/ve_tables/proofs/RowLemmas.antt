-- Rows of a table by the positions of their sections' nodes, and cells placed one at a time as the
-- model positions them.
use Rattle.std.specs.Prelude.{slice_get, codes, flat_map}
use Rattle.std.proofs.Common.{◌≡◌, inl, inr, ℕ, suc, ◌+◌, true, false, if◌then◌else◌, List, [], ◌∷◌, ◌++◌, map, length, Option, Some, Ok, Err, refl, sym, ap, ◌∙◌, subst}
use Rattle.std.proofs.lemmas.List.{length-map}
use Rattle.ve_base.specs.Limits.{max_row_span, max_column_span}
use Rattle.model_items.specs.declared.plain_item.PlainItem.{PlainItem}
use Rattle.model_items.specs.Tree.{Open}
use Rattle.model_edit.specs.declared.grid_cell.GridCell.{GridCell}
use Rattle.model_edit.specs.declared.table_fault.TableFault.{TableFault}
use Rattle.model_edit.specs.Causes.{NotTable, Crooked}
use Rattle.model_edit.specs.Brackets.{is_opening_of}
use Rattle.model_items.specs.Offsets.{passes}
use Rattle.model_items.specs.declared.plain_item.PlainItem.TheVariants.{Char, Opening, Closing}
use Rattle.model_change.specs.Attributes.{value_of}
use Rattle.ve_base.specs.declared.attrs.Attr.{Attr}
use Rattle.ve_kinds.specs.declared.kind.Kind.TheVariants.{Table, Td, Th}
use Rattle.std.specs.Str.{chars}
use Rattle.model_edit.specs.Grid as model
use Rattle.model_edit.specs.Grid.{cell_span, is_crooked, placed_cell}
use Rattle.ve_tables.specs.Placed.{Placed, next_cell, with_next, IsNext, IsCellRefusal}
use Rattle.ve_tables.specs.declared.rows.TableRow.{TableRow}
use Rattle.ve_tables.specs.Refused.{IsTableRefusal}
use Rattle.ve_tables.specs.Rows.{attrs_in, child_places, places_of, row_of, rows_at, cell_open, row_placed, row_after, rows_after, HasRow}

pub section_places : (nodes : List Open) → model.section_rows nodes ≡ rows_at (places_of nodes)
section_places [] = refl
section_places (tr ∷ later) =
    ap (λ n. record { at = tr.from; left = suc n } ∷ model.section_rows later) (sym (length-map later (λ (node : Open). node.from)))
    ∙ ap (λ v. record { at = tr.from; left = suc (length (places_of later)) } ∷ v) (section_places later)

-- rows of sections that stand at these positions
abbrev pub rows_of_places : (ℕ → List ℕ) → List ℕ → List model.TableRow
rows_of_places inside [] = []
rows_of_places inside (place ∷ places) = rows_at (inside place) ++ rows_of_places inside places

pub rows_flat : (trs : Open → List Open) (inside : ℕ → List ℕ) (sections : List Open) → ((s : Open) → inside s.from ≡ places_of (trs s)) →
    flat_map (λ (s : Open). model.section_rows (trs s)) sections ≡ rows_of_places inside (places_of sections)
rows_flat trs inside [] same = refl
rows_flat trs inside (s ∷ sections) same =
    ap (λ v. v ++ flat_map (λ (s : Open). model.section_rows (trs s)) sections) (section_places (trs s) ∙ ap rows_at (sym (same s)))
    ∙ ap (λ v. rows_at (inside s.from) ++ v) (rows_flat trs inside sections same)

-- A row's cells are placed by their positions alone.
pub row_places : (items : List PlainItem) (row left end : ℕ) (nodes : List Open) (before : List GridCell) →
    model.with_row items row left end (map cell_open (places_of nodes)) before ≡ model.with_row items row left end nodes before
row_places items row left end [] before = refl
row_places items row left end (n ∷ nodes) before =
    let one = placed_cell items before row end n in
    ap (λ r. if is_crooked left before one then Err (Crooked one.at) else r) (row_places items row left (one.column + one.columns) nodes (before ++ one ∷ []))

-- one cell more is placed
pub cell_more : (items : List PlainItem) (old new : Placed) (at rows columns : ℕ) (cells : List ℕ) → rows ≡ cell_span (codes "rowspan") max_row_span (slice_get items at) →
    columns ≡ cell_span (codes "colspan") max_column_span (slice_get items at) → IsNext old (next_cell old at rows columns) new →
    row_placed items new cells ≡ row_placed items old (at ∷ cells)
cell_more items old new at rows columns cells r c next =
    let one : ℕ → ℕ → GridCell = λ rows columns. next_cell old at rows columns in
    let R = cell_span (codes "rowspan") max_row_span (slice_get items at) in
    let C = cell_span (codes "colspan") max_column_span (slice_get items at) in
    let stands : is_crooked old.left old.cells (one R C) ≡ false = subst (λ n. is_crooked old.left old.cells (one R n) ≡ false) c (subst (λ n. is_crooked old.left old.cells (one n columns) ≡ false) r next.stands) in
    let is : new ≡ with_next old (one R C) = subst (λ n. new ≡ with_next old (one R n)) c (subst (λ n. new ≡ with_next old (one n columns)) r next.placed) in
    ap (λ p. row_placed items p cells) is
    ∙ sym (ap (λ b. if b then Err (Crooked at) else row_placed items (with_next old (one R C)) cells) stands)

-- or it is refused
pub cell_refused : (items : List PlainItem) (old : Placed) (at rows columns : ℕ) (cells : List ℕ) (fault : TableFault) → rows ≡ cell_span (codes "rowspan") max_row_span (slice_get items at) →
    columns ≡ cell_span (codes "colspan") max_column_span (slice_get items at) → IsCellRefusal old (next_cell old at rows columns) fault →
    IsTableRefusal (row_placed items old (at ∷ cells)) fault
cell_refused items old at rows columns cells fault r c (inl memory) = inl memory
cell_refused items old at rows columns cells fault r c (inr crooked) =
    let one : ℕ → ℕ → GridCell = λ rows columns. next_cell old at rows columns in
    let R = cell_span (codes "rowspan") max_row_span (slice_get items at) in
    let C = cell_span (codes "colspan") max_column_span (slice_get items at) in
    let bad : is_crooked old.left old.cells (one R C) ≡ true = subst (λ n. is_crooked old.left old.cells (one R n) ≡ true) c (subst (λ n. is_crooked old.left old.cells (one n columns) ≡ true) r crooked.0) in
    inr (Crooked at, ap (λ b. if b then Err (Crooked at) else row_placed items (with_next old (one R C)) cells) bad, crooked.1)

-- a row more is placed
pub row_more : (items : List PlainItem) (i : ℕ) (row : TableRow) (rows : List TableRow) (old : Placed) (new : Placed) → old.row ≡ i → old.left ≡ row.left → old.end ≡ 0 →
    HasRow items old row.at new → rows_after items (suc i) rows new.cells ≡ rows_after items i (row ∷ rows) old.cells
row_more items i row rows old new r l e has =
    ap (λ v. model.with_rows items (suc i) (map row_of rows) v)
    (sym has.means ∙ ap (λ n. model.with_row items n old.left old.end (model.row_cells items row.at) old.cells) r
    ∙ ap (λ n. model.with_row items i n old.end (model.row_cells items row.at) old.cells) l
    ∙ ap (λ n. model.with_row items i row.left n (model.row_cells items row.at) old.cells) e)

-- or one is refused, and so are all
pub row_refused : (items : List PlainItem) (i : ℕ) (row : TableRow) (rows : List TableRow) (old : Placed) (fault : TableFault) → old.row ≡ i → old.left ≡ row.left → old.end ≡ 0 →
    IsTableRefusal (row_after items old row.at) fault → IsTableRefusal (rows_after items i (row ∷ rows) old.cells) fault
row_refused items i row rows old fault r l e (inl memory) = inl memory
row_refused items i row rows old fault r l e (inr cause) =
    inr (
      cause.0,
      ap (λ v. model.with_rows items (suc i) (map row_of rows) v)
          (sym (ap (λ n. model.with_row items n old.left old.end (model.row_cells items row.at) old.cells) r
          ∙ ap (λ n. model.with_row items i n old.end (model.row_cells items row.at) old.cells) l
          ∙ ap (λ n. model.with_row items i row.left n (model.row_cells items row.at) old.cells) e) ∙ cause.1)
          ∙ with_none (map row_of rows),
      cause.2,
    )
  where
    with_none : (rest : List model.TableRow) → model.with_rows items (suc i) rest (Err cause.0) ≡ Err cause.0
    with_none [] = refl
    with_none (one ∷ rest) = refl

-- the attributes of an item spell its spans
pub span_is : (name : List ℕ) (most n : ℕ) (x : Option PlainItem) (item : PlainItem) (attrs : List Attr) → x ≡ Some item → attrs ≡ attrs_in item → n ≡ model.span_in most (value_of name attrs) →
    n ≡ cell_span name most x
span_is name most n x item attrs h a e = e ∙ ap (λ v. model.span_in most (value_of name v)) a ∙ by item ∙ ap (cell_span name most) (sym h)
  where
    by : (item : PlainItem) → model.span_in most (value_of name (attrs_in item)) ≡ cell_span name most (Some item)
    by (Char c marks) = refl
    by (Closing kind pre) = refl
    by (Opening kind head marks pre origin generated) = refl

pub rowspan_is : chars (codes "rowspan") ≡ codes "rowspan"
unfolding chars
rowspan_is = refl

pub colspan_is : chars (codes "colspan") ≡ codes "colspan"
unfolding chars
colspan_is = refl

-- the cells at the positions of a row's
pub row_is : (items : List PlainItem) (old : Placed) (at : ℕ) (cells : List ℕ) → cells ≡ child_places (Td ∷ Th ∷ []) items at → row_placed items old cells ≡ row_after items old at
row_is items old at cells e = ap (row_placed items old) e ∙ row_places items old.row old.left old.end (model.row_cells items at) old.cells

grid_then : (items : List PlainItem) (at : ℕ) → passes (is_opening_of Table) (slice_get items at) ≡ true →
    model.grid items at ≡ model.grid_with (length (model.table_rows items at)) (model.with_rows items 0 (model.table_rows items at) (Ok []))
grid_then items at opens = ap (λ b. if b then model.grid_with (length (model.table_rows items at)) (model.with_rows items 0 (model.table_rows items at) (Ok [])) else Err (NotTable at)) opens

-- The grid, and its refusal, from the rows' cells.
pub grid_is : (items : List PlainItem) (at count : ℕ) (rows : List TableRow) (cells : List GridCell) → passes (is_opening_of Table) (slice_get items at) ≡ true →
    map row_of rows ≡ model.table_rows items at → count ≡ length rows → rows_after items 0 rows [] ≡ Ok cells →
    model.grid items at ≡ Ok (record { rows = count; columns = model.right_end cells; cells = cells })
grid_is items at count rows cells opens is n placed_cell =
    grid_then items at opens
    ∙ ap (λ v. model.grid_with (length v) (model.with_rows items 0 v (Ok []))) (sym is)
    ∙ ap (model.grid_with (length (map row_of rows))) placed_cell
    ∙ ap (λ k. Ok (record { rows = k; columns = model.right_end cells; cells = cells })) (length-map rows row_of ∙ sym n)

pub grid_refused : (items : List PlainItem) (at : ℕ) (rows : List TableRow) (fault : TableFault) → passes (is_opening_of Table) (slice_get items at) ≡ true →
    map row_of rows ≡ model.table_rows items at → IsTableRefusal (rows_after items 0 rows []) fault → IsTableRefusal (model.grid items at) fault
grid_refused items at rows fault opens is (inl memory) = inl memory
grid_refused items at rows fault opens is (inr cause) =
    inr (
      cause.0,
      grid_then items at opens
          ∙ ap (λ v. model.grid_with (length v) (model.with_rows items 0 v (Ok []))) (sym is)
          ∙ ap (model.grid_with (length (map row_of rows))) cause.1,
      cause.2,
    )

pub no_table : (items : List PlainItem) (at : ℕ) → passes (is_opening_of Table) (slice_get items at) ≡ false → model.grid items at ≡ Err (NotTable at)
no_table items at none = ap (λ b. if b then model.grid_with (length (model.table_rows items at)) (model.with_rows items 0 (model.table_rows items at) (Ok [])) else Err (NotTable at)) none
