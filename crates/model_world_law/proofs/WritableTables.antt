-- A line can write what the edits of lists and tables insert and set.
use Rattle.std.specs.Prelude.{codes, decimal, encode_utf8_all, filter, flat_map, slice_get}
use Rattle.std.specs.Fmt.{digit_glyph, digits, digits_onto}
use Rattle.std.specs.List.{enumerate_from, list_any, range_with_len}
use Rattle.std.specs.Str.{all_scalars}
use Rattle.std.proofs.Common.{◌≡◌, ℕ, zero, suc, ◌+◌, ◌-◌, ◌/◌, ◌%◌, ◌<◌, ◌==◌, Bool, true, false, not, ◌&&◌, ◌||◌, if◌then◌else◌, List, [], ◌∷◌, ◌++◌, map, Option, Some, None, Ok, refl, sym, ap, ◌∙◌, subst, arith}
use Rattle.std.proofs.lemmas.Bool.{and_from, lt-ltb, ne_eqb}
use Rattle.std.proofs.lemmas.Str.{encode_ascii}
use lib.Utf8.{low_scalar}
use Rattle.ve_kinds.specs.declared.kind.Kind.{Kind}
use Rattle.ve_kinds.specs.declared.kind.Kind.TheVariants.{Li, P, Td, Tr}
use Rattle.ve_kinds.specs.Table.{kind_same}
use Rattle.model_items.specs.declared.plain_item.PlainItem.{PlainItem}
use Rattle.model_items.specs.Offsets.{end_of_node, kind_at, opens_at, partner}
use Rattle.model_items.specs.Tree.{Open}
use Rattle.model_change.specs.Transaction.{Transaction}
use Rattle.model_edit.specs.Brackets.{closing_of, is_closing_of, opening_of}
use Rattle.model_edit.specs.Causes.{ListCause, TableCause}
use Rattle.model_edit.specs.Edits.{Change, Edit, transaction_of}
use Rattle.model_edit.specs.Grid.{Grid, TableRow, covers_column, covers_row, grid, table_rows}
use Rattle.model_edit.specs.Lists.{begin_after, copy_at, end_before, indent, indent_edits, is_list_item, list_ends, outdent, outdent_from, passes_before}
use Rattle.model_edit.specs.Tables.{cell_place, cell_removed, col_in, col_out, column_edits, fault_or, new_cell, new_row, row_in, row_in_edits, row_out, row_place, row_removed, set_columns, set_rows, spans_column, spans_row, whole_node}
use Rattle.model_edit.specs.declared.grid_cell.GridCell.{GridCell}
use Rattle.model_edit_law.proofs.ShapeLemmas.{if_ok_then}
use Rattle.model_edit_law.proofs.TableFineLemmas.{fault_or_is, grid_given}
use Rattle.model_page.proofs.OnLiterals.{page_on_literals}
use Rattle.model_spelling.specs.Grammar.{is_attr_name, is_barred}
use Rattle.model_world_law.specs.Writable.{is_text}
use Rattle.model_world_law.proofs.WritableLemmas.{AllWrite, closing_writes, copy_writes, text_more}
use Rattle.model_world_law.proofs.WritableEdits.{EditWrites, EditsWrite, InsertsWritten, answered, edits_write, edits-append, edits-each, edits-map, opens, write-append}

-- ---- list items

indent_edits_write : (items : List PlainItem) (at : ℕ) (kind : Kind) → EditsWrite (indent_edits items at kind)
indent_edits_write items at kind =
    elim (passes_before (is_closing_of kind) items (at - 1)) as (λ b. EditsWrite
    ((if b then Change (at - 2) 2 [] else Change (at - 1) 1 (opening_of kind [] ∷ [])) ∷ Change (end_of_node items at) 0 (list_ends kind) ∷ []))
    [ true ↦ (tt, (ends kind, tt)) | false ↦ ((opens kind, tt), (ends kind, tt)) ]
  where
    ends : (kind : Kind) → AllWrite (list_ends kind)
    ends kind = (closing_writes kind, (closing_writes Li, tt))

pub indent_writes : (items : List PlainItem) (at : ℕ) (t : Transaction) → indent items at ≡ Ok t → InsertsWritten t
indent_writes items at t h =
    let p = if_ok_then (is_list_item items at) _ _ t h in
    let q = if_ok_then (passes_before (is_closing_of Li) items at) _ _ t p.1 in
    answered {E = ListCause} items (indent_edits items at (kind_at items at)) t (indent_edits_write items at (kind_at items at)) q.1

end_writes : (at : ℕ) (list : Open) → EditWrites (end_before at list)
end_writes at list =
    elim (suc list.from == at) as (λ b. EditWrites (if b then Change list.from 1 (closing_of Li ∷ []) else Change at 0 (list_ends list.kind)))
    [ true ↦ (closing_writes Li, tt) | false ↦ (closing_writes list.kind, (closing_writes Li, tt)) ]

copy_at_writes : (items : List PlainItem) (from : ℕ) → AllWrite items → AllWrite (copy_at items from)
copy_at_writes [] from p = tt
copy_at_writes (x ∷ items) zero p = (copy_writes x p.0, tt)
copy_at_writes (x ∷ items) (suc from) p = copy_at_writes items from p.1

begin_writes : (items : List PlainItem) (closing : ℕ) (list : Open) → AllWrite items → EditWrites (begin_after items closing list)
begin_writes items closing list p =
    elim (partner items list.from == suc closing) as (λ b. EditWrites (if b then Change closing 2 [] else Change closing 1 (copy_at items list.from)))
    [ true ↦ tt | false ↦ copy_at_writes items list.from p ]

pub outdent_writes : (items : List PlainItem) (at : ℕ) (t : Transaction) → AllWrite items → outdent items at ≡ Ok t → InsertsWritten t
outdent_writes items at t own h =
    let p = if_ok_then (is_list_item items at) _ _ t h in
    nested (opens_at items at) p.1
  where
    nested : (nodes : List Open) → outdent_from items at nodes ≡ Ok t → InsertsWritten t
    nested [] h = cc
    nested (list ∷ []) h = cc
    nested (list ∷ outer ∷ rest) h =
        answered {E = ListCause} items (end_before at list ∷ begin_after items (partner items at) list ∷ []) t
        (end_writes at list, (begin_writes items (partner items at) list own, tt))
        (if_ok_then (kind_same outer.kind Li) _ _ t h).1

-- ---- numbers

not_barred : (c : ℕ) → (c ≡ 0 → ⊥) → (c ≡ 13 → ⊥) → not (list_any is_barred (c ∷ [])) ≡ true
unfolding is_barred
not_barred c none ret = λ i. not ((ne_eqb c 0 none i || ne_eqb c 13 ret i) || false)

digit_text : (d : ℕ) → d < 10 → is_text ((48 + d) ∷ []) ≡ true
digit_text d small =
    let c = 48 + d in
    and_from (all_scalars (c ∷ [])) (not (list_any is_barred (encode_utf8_all (c ∷ [])))) (ap (λ t. t && true) (low_scalar c (omega (arith, small))))
    (ap (λ bs. not (list_any is_barred (bs ++ []))) (encode_ascii c (omega (arith, small))) ∙ not_barred c (λ e. omega (arith, e)) (λ e. omega (arith, e, small)))

glyph_text : (d : ℕ) → d < 10 → is_text (digit_glyph false d ∷ []) ≡ true
glyph_text d small = subst (λ b. is_text ((if b then 48 + d else 87 + d) ∷ []) ≡ true) (sym (lt-ltb d 10 small)) (digit_text d small)

onto_text : (k n : ℕ) (acc : List ℕ) → is_text acc ≡ true → is_text (digits_onto k 10 false n acc) ≡ true
onto_text zero n acc p = p
onto_text (suc k) n acc p = by (n / 10 == 0) more (onto_text k (n / 10) (digit_glyph false (n % 10) ∷ acc) more)
  where
    more : is_text (digit_glyph false (n % 10) ∷ acc) ≡ true
    more = text_more (digit_glyph false (n % 10)) acc (glyph_text (n % 10) (omega arith)) p

    by : (b : Bool) → is_text (digit_glyph false (n % 10) ∷ acc) ≡ true → is_text (digits_onto k 10 false (n / 10) (digit_glyph false (n % 10) ∷ acc)) ≡ true →
        is_text (if b then digit_glyph false (n % 10) ∷ acc else digits_onto k 10 false (n / 10) (digit_glyph false (n % 10) ∷ acc)) ≡ true
    by true last later = last
    by false last later = later

pub decimal_text : (n : ℕ) → is_text (decimal n) ≡ true
unfolding digits
decimal_text n = onto_text 64 n [] refl

rows_set : (n : ℕ) (c : GridCell) → EditWrites (set_rows n c)
unfolding page_on_literals
rows_set n c = (and_from (is_text (codes "rowspan") && is_attr_name (codes "rowspan")) (is_text (decimal n)) refl (decimal_text n), tt)

columns_set : (n : ℕ) (c : GridCell) → EditWrites (set_columns n c)
unfolding page_on_literals
columns_set n c = (and_from (is_text (codes "colspan") && is_attr_name (codes "colspan")) (is_text (decimal n)) refl (decimal_text n), tt)

-- ---- tables

on_answer : (items : List PlainItem) (edits : List Edit) (o : Option TableCause) (t : Transaction) → EditsWrite edits → fault_or o (transaction_of items edits) ≡ Ok t → InsertsWritten t
on_answer items edits o t p h = subst InsertsWritten (fault_or_is o (transaction_of items edits) t h) (edits_write items edits p)

cell_writes : AllWrite new_cell
cell_writes = (opens Td, (opens P, (closing_writes P, (closing_writes Td, tt))))

new_row_writes : (g : Grid) (row : ℕ) → AllWrite (new_row g row)
new_row_writes g row = (opens Tr, write-append _ (closing_of Tr ∷ []) (cells (range_with_len 0 g.columns)) (closing_writes Tr, tt))
  where
    cells : (columns : List ℕ) → AllWrite (flat_map (λ column. if list_any (λ c. spans_row row c && covers_column c column) g.cells then [] else new_cell) columns)
    cells [] = tt
    cells (column ∷ columns) =
        write-append _ (flat_map (λ column. if list_any (λ c. spans_row row c && covers_column c column) g.cells then [] else new_cell) columns)
        (elim (list_any (λ c. spans_row row c && covers_column c column) g.cells) as (λ b. AllWrite (if b then [] else new_cell)) [ true ↦ tt | false ↦ cell_writes ])
        (cells columns)

pub row_in_writes : (items : List PlainItem) (at row : ℕ) (t : Transaction) → row_in items at row ≡ Ok t → InsertsWritten t
row_in_writes items at row t h =
    let p = grid_given (grid items at) _ t h in
    let g = p.0 in
    let grown = filter (spans_row row) g.cells in
    on_answer items (row_in_edits items (table_rows items at) row g) _ t
    (edits-append (map (λ (c : GridCell). set_rows (suc c.rows) c) grown) (Change (row_place items (table_rows items at) row) 0 (new_row g row) ∷ [])
    (edits-map (λ (c : GridCell). set_rows (suc c.rows) c) (λ c. rows_set (suc c.rows) c) grown) (new_row_writes g row, tt)) p.2

column_edits_write : (items : List PlainItem) (column : ℕ) (g : Grid) (at : ℕ × TableRow) → EditsWrite (column_edits items column g at)
column_edits_write items column g (index, row) =
    let cells = filter (λ (c : GridCell). c.row == index) g.cells in
    let grown = filter (spans_column column) cells in
    edits-append (map (λ (c : GridCell). set_columns (suc c.columns) c) grown) _
    (edits-map (λ (c : GridCell). set_columns (suc c.columns) c) (λ c. columns_set (suc c.columns) c) grown)
    (elim (list_any (λ c. spans_column column c && covers_row c index) g.cells) as (λ b. EditsWrite (if b then [] else Change (cell_place items row column cells) 0 new_cell ∷ []))
    [ true ↦ tt | false ↦ (cell_writes, tt) ])

pub col_in_writes : (items : List PlainItem) (at column : ℕ) (t : Transaction) → col_in items at column ≡ Ok t → InsertsWritten t
col_in_writes items at column t h =
    let p = grid_given (grid items at) _ t h in
    let rows = enumerate_from 0 (table_rows items at) in
    on_answer items (flat_map (column_edits items column p.0) rows) _ t (edits-each (column_edits items column p.0) (column_edits_write items column p.0) rows) p.2

removed_writes : (items : List PlainItem) (o : Option TableRow) → EditsWrite (row_removed items o)
removed_writes items None = tt
removed_writes items (Some row) = (tt, tt)

pub row_out_writes : (items : List PlainItem) (at row : ℕ) (t : Transaction) → row_out items at row ≡ Ok t → InsertsWritten t
row_out_writes items at row t h =
    let p = grid_given (grid items at) _ t h in
    let shrunk = filter (spans_row row) p.0.cells in
    let gone = row_removed items (slice_get (table_rows items at) row) in
    on_answer items (map (λ (c : GridCell). set_rows (c.rows - 1) c) shrunk ++ gone) _ t
    (edits-append (map (λ (c : GridCell). set_rows (c.rows - 1) c) shrunk) gone
    (edits-map (λ (c : GridCell). set_rows (c.rows - 1) c) (λ c. rows_set (c.rows - 1) c) shrunk)
    (removed_writes items (slice_get (table_rows items at) row))) p.2

cell_removed_writes : (items : List PlainItem) (cell : GridCell) → EditWrites (cell_removed items cell)
cell_removed_writes items cell =
    elim (cell.columns == 1) as (λ b. EditWrites (if b then whole_node items cell.at else set_columns (cell.columns - 1) cell))
    [ true ↦ tt | false ↦ columns_set (cell.columns - 1) cell ]

pub col_out_writes : (items : List PlainItem) (at column : ℕ) (t : Transaction) → col_out items at column ≡ Ok t → InsertsWritten t
col_out_writes items at column t h =
    let p = grid_given (grid items at) _ t h in
    let cells = filter (λ (c : GridCell). covers_column c column) p.0.cells in
    on_answer items (map (cell_removed items) cells) _ t (edits-map (cell_removed items) (cell_removed_writes items) cells) p.2
