-- Where a new row and a new cell stand.
use Rattle.std.specs.Prelude.{slice_get}
use Rattle.std.proofs.lemmas.Bool.{false_from_ne_true, eqb-true}
use Rattle.std.proofs.Common.{◌≡◌, ℕ, zero, suc, ◌+◌, ◌-◌, ◌<◌, ◌≤◌, ◌==◌, true, false, if◌then◌else◌, nat_le, List, [], ◌∷◌, length, map, get_or, refl, sym, ap, ◌∙◌, arith, eq-eqb}
use Rattle.model_items.specs.declared.plain_item.PlainItem.{PlainItem}
use Rattle.model_items.specs.Offsets.{partner, end_of_node}
use Rattle.model_edit.specs.declared.grid_cell.GridCell.{GridCell}
use Rattle.model_edit.specs.Grid.{TableRow}
use Rattle.model_edit.specs.Tables.{row_place, cell_place, row_removed, whole_node, cell_removed, set_columns}
use Rattle.ve_tables.specs.declared.rows.TableRow.{TableRow as Row}
use Rattle.ve_tables.specs.Rows.{row_of}

pub place_before : (items : List PlainItem) (rows : List TableRow) (row : ℕ) (d : TableRow) → row < length rows → row_place items rows row ≡ (get_or rows row d).at
place_before items [] row d inside = absurd (omega arith)
place_before items (one ∷ []) zero d inside = refl
place_before items (one ∷ []) (suc row) d inside = absurd (omega arith)
place_before items (one ∷ next ∷ rows) zero d inside = refl
place_before items (one ∷ next ∷ rows) (suc row) d inside = place_before items (next ∷ rows) row d (omega arith)

pub place_after : (items : List PlainItem) (rows : List TableRow) (row last : ℕ) (d : TableRow) → length rows ≤ row → length rows ≡ last + 1 → row_place items rows row ≡ end_of_node items (get_or rows last d).at
place_after items [] row last d past many = absurd (omega arith)
place_after items (one ∷ []) zero last d past many = absurd (omega arith)
place_after items (one ∷ []) (suc row) zero d past many = refl
place_after items (one ∷ []) (suc row) (suc last) d past many = absurd (omega arith)
place_after items (one ∷ next ∷ rows) zero last d past many = absurd (omega arith)
place_after items (one ∷ next ∷ rows) (suc row) zero d past many = absurd (omega arith)
place_after items (one ∷ next ∷ rows) (suc row) (suc last) d past many = place_after items (next ∷ rows) row last d (omega arith) (omega arith)

-- before the first cell at or right of the column
pub cell_before : (items : List PlainItem) (row : TableRow) (column : ℕ) (cells : List GridCell) (i : ℕ) (d : GridCell) → i < length cells →
    ((k : ℕ) (d : GridCell) → k < i → nat_le column (get_or cells k d).column ≡ false) → nat_le column (get_or cells i d).column ≡ true → cell_place items row column cells ≡ (get_or cells i d).at
cell_before items row column [] i d inside left here = absurd (omega arith)
cell_before items row column (cell ∷ []) zero d inside left here = ap (λ b. if b then cell.at else end_of_node items cell.at) here
cell_before items row column (cell ∷ []) (suc i) d inside left here = absurd (omega arith)
cell_before items row column (cell ∷ next ∷ cells) zero d inside left here = ap (λ b. if b then cell.at else cell_place items row column (next ∷ cells)) here
cell_before items row column (cell ∷ next ∷ cells) (suc i) d inside left here =
    ap (λ b. if b then cell.at else cell_place items row column (next ∷ cells)) (left 0 d (omega arith))
    ∙ cell_before items row column (next ∷ cells) i d (omega arith) (λ k d less. left (suc k) d (omega arith)) here

pub cell_none : (items : List PlainItem) (row : TableRow) (column : ℕ) (cells : List GridCell) → length cells ≡ 0 → cell_place items row column cells ≡ partner items row.at
cell_none items row column [] h = refl
cell_none items row column (cell ∷ cells) h = absurd (omega arith)

-- after the last one
pub cell_after : (items : List PlainItem) (row : TableRow) (column : ℕ) (cells : List GridCell) (last : ℕ) (d : GridCell) → length cells ≡ last + 1 →
    ((k : ℕ) (d : GridCell) → k < length cells → nat_le column (get_or cells k d).column ≡ false) → cell_place items row column cells ≡ end_of_node items (get_or cells last d).at
cell_after items row column [] last d many left = absurd (omega arith)
cell_after items row column (cell ∷ []) zero d many left = ap (λ b. if b then cell.at else end_of_node items cell.at) (left 0 d (omega arith))
cell_after items row column (cell ∷ []) (suc last) d many left = absurd (omega arith)
cell_after items row column (cell ∷ next ∷ cells) zero d many left = absurd (omega arith)
cell_after items row column (cell ∷ next ∷ cells) (suc last) d many left =
    ap (λ b. if b then cell.at else cell_place items row column (next ∷ cells)) (left 0 d (omega arith))
    ∙ cell_after items row column (next ∷ cells) last d (omega arith) (λ k d less. left (suc k) d (omega arith))

-- the row that is taken out
pub removed_is : (items : List PlainItem) (rows : List Row) (row : ℕ) (d : Row) → row < length rows → row_removed items (slice_get (map row_of rows) row) ≡ whole_node items (get_or rows row d).at ∷ []
removed_is items [] row d inside = absurd (omega arith)
removed_is items (one ∷ rows) zero d inside = refl
removed_is items (one ∷ rows) (suc row) d inside = removed_is items rows row d (omega arith)

-- the cell that is taken out, or shrinks
pub removed_whole : (items : List PlainItem) (cell : GridCell) → cell.columns ≡ 1 → whole_node items cell.at ≡ cell_removed items cell
removed_whole items cell h = ap (λ b. if b then whole_node items cell.at else set_columns (cell.columns - 1) cell) (sym (eq-eqb cell.columns 1 h))

pub removed_part : (items : List PlainItem) (cell : GridCell) → (cell.columns ≡ 1 → ⊥) → set_columns (cell.columns - 1) cell ≡ cell_removed items cell
removed_part items cell h =
    ap (λ b. if b then whole_node items cell.at else set_columns (cell.columns - 1) cell) (sym (false_from_ne_true (cell.columns == 1) (λ t. h (eqb-true cell.columns 1 t))))
