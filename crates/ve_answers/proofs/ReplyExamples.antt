-- A paragraph of two characters and the internal list, asked for its parts, and a table of two
-- cells, asked for its grid.
use Rattle.std.proofs.Common.{◌≡◌, ℕ, List, [], ◌∷◌, ◌++◌, None, false, refl}
use Rattle.ve_kinds.specs.declared.kind.Kind.{Kind}
use Rattle.ve_kinds.specs.declared.kind.Kind.TheVariants.{P, InternalList, Root, Table, Tbody, Td, Tr}
use Rattle.model_items.specs.declared.item.Item.{Item}
use Rattle.model_items.specs.declared.item.Item.TheVariants as item
use Rattle.model_items.specs.declared.offset_class.OffsetClass.TheVariants.{Content}
use Rattle.model_items.specs.Plain.{plain_list}
use Rattle.model_items.specs.declared.plain_item.PlainItem.{PlainItem}
use Rattle.model_items.specs.declared.plain_item.PlainItem.TheVariants.{Char}
use Rattle.model_edit.specs.declared.grid_cell.GridCell.{GridCell}
use Rattle.model_edit.specs.declared.selection.Dir.TheVariants.{Back, Ahead}
use Rattle.model_world.specs.declared.refusal.Refusal.TheVariants.{BadOffset, BadRange, Edge, NotTable}
use Rattle.model_world.specs.declared.reply.Reply.TheVariants as reply
use Rattle.model_world.specs.declared.shown.TreeWord.TheVariants as tree
use Rattle.ve_answers.specs.Replies.{grid_reply, items_reply, near_reply, node_reply, refs_reply, tree_reply}
use Rattle.ve_answers.specs.Words.{words_after}

abbrev cited : List Item
cited =
    item.Opening P false None None None None
    ∷ item.Char 97 None
    ∷ item.Char 98 None
    ∷ item.Closing P None
    ∷ item.Opening InternalList false None None None None
    ∷ item.Closing InternalList None
    ∷ []

abbrev page : List PlainItem
page = plain_list [] cited

a_part : items_reply page 1 3 ≡ reply.Items (Char 97 [] ∷ Char 98 [] ∷ [])
a_part = refl

an_empty_part : items_reply page 2 2 ≡ reply.Items []
an_empty_part = refl

a_turned_part : items_reply page 3 2 ≡ reply.No (BadRange 3 2)
a_turned_part = refl

past_the_end : items_reply page 0 7 ≡ reply.No (BadRange 0 7)
past_the_end = refl

its_tree : tree_reply page ≡ reply.Tree (tree.Begin Root ∷ tree.Begin P ∷ tree.Run 2 ∷ tree.End ∷ tree.Begin InternalList ∷ tree.End ∷ tree.End ∷ [])
its_tree = refl

in_the_paragraph : node_reply page 2 ≡ reply.At P 0 4 Content
in_the_paragraph = refl

no_offset : node_reply page 7 ≡ reply.No (BadOffset 7)
no_offset = refl

near_the_end : (near_reply page 6 Back ≡ reply.Offset 3) × (near_reply page 6 Ahead ≡ reply.No (Edge 6)) × (near_reply page 7 Back ≡ reply.No (BadOffset 7))
near_the_end = (refl, refl, refl)

no_references : refs_reply page ≡ reply.Refs []
no_references = refl

-- after one character, the words of what is left of the paragraph and of the rest
words : words_after 1 (item.Char 98 None ∷ item.Closing P None ∷ item.Opening InternalList false None None None None ∷ []) ≡ tree.Run 2 ∷ tree.End ∷ tree.Begin InternalList ∷ []
words = refl

abbrev begins : Kind → Item
begins kind = item.Opening kind false None None None None

abbrev ends : Kind → Item
ends kind = item.Closing kind None

abbrev cell : ℕ → List Item
cell c = begins Td ∷ begins P ∷ item.Char c None ∷ ends P ∷ ends Td ∷ []

abbrev table : List PlainItem
table = plain_list [] (begins Table ∷ begins Tbody ∷ begins Tr ∷ (cell 97 ++ cell 98) ++ ends Tr ∷ ends Tbody ∷ ends Table ∷ begins InternalList ∷ ends InternalList ∷ [])

abbrev cell_at : (at column : ℕ) → GridCell
cell_at at column = record { at = at; row = 0; column = column; rows = 1; columns = 1 }

its_grid : grid_reply table 0 ≡ reply.Grid 1 2 (cell_at 3 0 ∷ cell_at 8 1 ∷ [])
its_grid = refl

no_grid : grid_reply table 1 ≡ reply.No (NotTable 1)
no_grid = refl
