-- The result of each edit of a list.
use Rattle.std.specs.Prelude.{◌≡◌, ℕ, true, ◌+◌, ◌-◌, if◌then◌else◌, List, [], ◌∷◌, ◌++◌, map, take, drop, filter, filter_map, flat_map, slice_get, slice_range, Option, Some, None, Ok}
use Rattle.std.specs.List.{enumerate_from}
use Rattle.ve_kinds.specs.declared.kind.Kind.{Kind}
use Rattle.ve_kinds.specs.Table.{kind_same}
use Rattle.ve_base.specs.declared.marks.Mark.{Mark}
use Rattle.model_items.specs.declared.plain_item.PlainItem.{PlainItem}
use Rattle.model_items.specs.Law.{Lawful}
use Rattle.model_items.specs.Marks.{with_mark, without_mark}
use Rattle.model_items.specs.Offsets.{openings_at, stack_at, kind_at, is_content, opens_at, partner, unmatched_places}
use Rattle.model_items.specs.Tree.{Open}
use Rattle.model_change.specs.Attributes.{item_changed}
use Rattle.model_change.specs.Transaction.{Transaction, edited}
use Rattle.model_edit.specs.Brackets.{closing_of}
use Rattle.model_edit.specs.Edits.{setting, substituted}
use Rattle.model_edit.specs.Insert.{insertion, split, text_pieces, in_paragraph, levels_up, reopened}
use Rattle.model_edit.specs.Remove.{Join, join_at, removal}
use Rattle.model_edit.specs.Marking.{marking, unmarking, remarked}
use Rattle.model_edit.specs.Convert.{convert, converted, attribute}
use Rattle.model_edit.specs.declared.wrap_plan.WrapPlan.{WrapPlan}
use Rattle.model_edit.specs.Wrap.{wrap, wrap_edits}
use Rattle.model_edit.specs.Lists.{indent, indent_edits, outdent, end_before, begin_after}
use Rattle.model_edit.specs.declared.grid_cell.GridCell.{GridCell}
use Rattle.model_edit.specs.Grid.{Grid, grid, table_rows, covers_column}
use Rattle.model_edit.specs.Tables.{row_in, row_in_edits, row_out, row_removed, set_rows, spans_row, col_in, column_edits, col_out, cell_removed}

-- `count` items from a position on replaced by others
abbrev pub replaced_at : (at count : ℕ) → (new items : List PlainItem) → List PlainItem
replaced_at at count new items = take at items ++ (new ++ drop (at + count) items)

-- Typing in a content branch puts just the text at the position, with the given marks, and changes
-- nothing else.
abbrev pub TypingPuts : Type 0
TypingPuts = (items : List PlainItem) (at : ℕ) (marks : List Mark) (text : List ℕ) (t : Transaction) → is_content items at ≡ true →
    insertion items at (text_pieces marks text) ≡ Ok t → edited t items ≡ replaced_at at 0 (text_pieces marks text) items

-- An insertion puts the pieces at the position, in a paragraph where they are content outside of
-- content branches. The open nodes that may not hold them are closed before them, and opened again
-- after them.
pub record IsPut (items : List PlainItem) (at : ℕ) (placed new : List PlainItem) : Type 0 where
  pub levels : ℕ
  pub out : levels_up placed (stack_at items at) ≡ Some levels
  pub list : new ≡ replaced_at at 0 (reopened (take levels (openings_at items at)) placed) items

abbrev pub InsertionPuts : Type 0
InsertionPuts = (items : List PlainItem) (at : ℕ) (pieces : List PlainItem) (t : Transaction) → insertion items at pieces ≡ Ok t →
    IsPut items at (in_paragraph (kind_at items at) pieces) (edited t items)

-- A split closes the innermost open nodes at the position, and opens them again.
abbrev pub SplitParts : Type 0
SplitParts = (items : List PlainItem) (at depth : ℕ) (t : Transaction) → split items at depth ≡ Ok t →
    edited t items ≡ replaced_at at 0 (reopened (take depth (openings_at items at)) []) items

-- the unmatched brackets of a range
abbrev pub unmatched_items : List PlainItem → (from to : ℕ) → List PlainItem
unmatched_items items from to = filter_map (slice_get items) (unmatched_places items from to)

-- the second branch of a join ends with the first one's kind
abbrev pub ended_alike : Join → List PlainItem → List PlainItem
ended_alike join items =
    if kind_same join.first join.second then items else replaced_at join.second_closing 1 (closing_of join.first ∷ []) items

abbrev pub without_range : List PlainItem → (from to : ℕ) → Option Join → List PlainItem
without_range items from to None = replaced_at from (to - from) (unmatched_items items from to) items
without_range items from to (Some join) = replaced_at from (to - from) [] (ended_alike join items)

-- A removal takes the range but for its unmatched brackets. Where these join two branches of
-- content, it takes the whole range, and the branches are one of the first one's kind.
abbrev pub RemovalTakes : Type 0
RemovalTakes = (items : List PlainItem) (from to : ℕ) (t : Transaction) → Lawful items → removal items from to ≡ Ok t →
    edited t items ≡ without_range items from to (join_at items (unmatched_places items from to))

-- Of the items of the range the marks change, and nothing else.
abbrev pub remarked_range : (List Mark → List Mark) → (from to : ℕ) → List PlainItem → List PlainItem
remarked_range f from to items = replaced_at from (to - from) (map (remarked f) (slice_range items from to)) items

abbrev pub MarkingMarks : Type 0
MarkingMarks = (items : List PlainItem) (from to : ℕ) (m : Mark) (t : Transaction) → marking items from to m ≡ Ok t →
    edited t items ≡ remarked_range (with_mark m) from to items

abbrev pub UnmarkingUnmarks : Type 0
UnmarkingUnmarks = (items : List PlainItem) (from to : ℕ) (m : Mark) (t : Transaction) → unmarking items from to m ≡ Ok t →
    edited t items ≡ remarked_range (without_mark m) from to items

-- A branch that is converted has another kind at both of its brackets.
abbrev pub ConvertConverts : Type 0
ConvertConverts = (items : List PlainItem) (at : ℕ) (kind : Kind) (t : Transaction) → Lawful items → convert items at kind ≡ Ok t →
    edited t items ≡ replaced_at at 1 (converted kind (slice_get items at)) (replaced_at (partner items at) 1 (closing_of kind ∷ []) items)

-- Of the opening at a position one attribute is set, and nothing else changes.
abbrev pub AttributeSets : Type 0
AttributeSets = (items : List PlainItem) (at : ℕ) (name : List ℕ) (to : Option (List ℕ)) (t : Transaction) →
    attribute items at name to ≡ Ok t →
    edited t items ≡ replaced_at at 1 (map (item_changed (setting name to (drop at items))) (take 1 (drop at items))) items

-- All others are the list with their edits made: of brackets that are wrapped round nodes, of list
-- items, and of tables.
abbrev pub WrapWraps : Type 0
WrapWraps = (items : List PlainItem) (from to : ℕ) (plan : WrapPlan) (t : Transaction) → Lawful items → wrap items from to plan ≡ Ok t →
    edited t items ≡ substituted items (wrap_edits items from to plan)

abbrev pub IndentIndents : Type 0
IndentIndents = (items : List PlainItem) (at : ℕ) (t : Transaction) → Lawful items → indent items at ≡ Ok t →
    edited t items ≡ substituted items (indent_edits items at (kind_at items at))

abbrev pub OutdentOutdents : Type 0
OutdentOutdents = (items : List PlainItem) (at : ℕ) (list : Open) (outer : List Open) (t : Transaction) → Lawful items →
    opens_at items at ≡ list ∷ outer → outdent items at ≡ Ok t →
    edited t items ≡ substituted items (end_before at list ∷ begin_after items (partner items at) list ∷ [])

abbrev pub RowInPuts : Type 0
RowInPuts = (items : List PlainItem) (at row : ℕ) (g : Grid) (t : Transaction) → Lawful items → grid items at ≡ Ok g →
    row_in items at row ≡ Ok t → edited t items ≡ substituted items (row_in_edits items (table_rows items at) row g)

abbrev pub ColInPuts : Type 0
ColInPuts = (items : List PlainItem) (at column : ℕ) (g : Grid) (t : Transaction) → Lawful items → grid items at ≡ Ok g →
    col_in items at column ≡ Ok t →
    edited t items ≡ substituted items (flat_map (column_edits items column g) (enumerate_from 0 (table_rows items at)))

abbrev pub RowOutTakes : Type 0
RowOutTakes = (items : List PlainItem) (at row : ℕ) (g : Grid) (t : Transaction) → Lawful items → grid items at ≡ Ok g →
    row_out items at row ≡ Ok t →
    edited t items
    ≡ substituted items
    (map (λ (c : GridCell). set_rows (c.rows - 1) c) (filter (spans_row row) g.cells)
    ++ row_removed items (slice_get (table_rows items at) row))

abbrev pub ColOutTakes : Type 0
ColOutTakes = (items : List PlainItem) (at column : ℕ) (g : Grid) (t : Transaction) → Lawful items → grid items at ≡ Ok g →
    col_out items at column ≡ Ok t →
    edited t items ≡ substituted items (map (cell_removed items) (filter (λ (c : GridCell). covers_column c column) g.cells))
