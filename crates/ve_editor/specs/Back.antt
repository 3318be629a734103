-- What takes a list back to what it was before splices of it.
use Rattle.std.specs.Prelude.{ℕ, ◌+◌, ◌≤◌, List, [], ◌∷◌, ◌++◌, All, IsSome, length, slice_range, take}
use Rattle.ve_base.specs.declared.value.Value.{Value}
use Rattle.model_items.specs.declared.item.Item.{Item}
use Rattle.model_items.specs.Plain.{CitesWell}
use Rattle.ve_arena.specs.Arena.{first_slots}
use Rattle.ve_editor.specs.declared.first_values.FirstValues.{FirstValues}
use Rattle.ve_editor.specs.declared.first_values.FirstValues.TheVariants.{Prefix, Copied}
use Rattle.ve_items.specs.ItemList.{ItemList}
use Rattle.ve_tree.specs.IsTree.{IsTree, unvalued}
use Rattle.ve_tree.specs.declared.tree.Tree.{Tree}
use Rattle.ve_tx.specs.Spliced.{come_count, spliced_by}
use Rattle.ve_tx.specs.declared.splice.Splice.{Splice}

-- the splice that undoes a splice of a list
abbrev pub undoing : List Item → Splice → Splice
undoing items splice = record { at = splice.at; removed = length splice.items; items = slice_range items splice.at (splice.at + splice.removed) }

-- The splices that undo splices at rising positions of a list. The first was made last, so that it
-- is undone first, and stands last.
abbrev pub backward : List Item → List Splice → List Splice
backward items [] = []
backward items (splice ∷ more) = backward items more ++ undoing items splice ∷ []

-- The last can be made of the list, and each of what those behind it give.
abbrev pub LieInTurn : List Item → List Splice → Type 0
LieInTurn items [] = Unit {0}
LieInTurn items (splice ∷ more) = LieInTurn items more × (splice.at + splice.removed ≤ length (spliced_by items more))

-- the values that a store had first: so many of its own, or those of a copy
abbrev pub first_values : List Value → FirstValues → List Value
first_values store (Prefix count) = take count store
first_values store (Copied first) = first

-- the store has them still, or there is a copy
abbrev pub HasFirst : List Value → FirstValues → Type 0
HasFirst store (Prefix count) = count ≤ length store
HasFirst store (Copied first) = Unit {0}

-- A page can go back, without memory, to what these splices make of its list, over the values that
-- its store had first: there is room for them, and what they make cites those values. A trial runs
-- in the tree, and the nodes that were there when it began are the tree of what they make.
pub record CanGoBack (store : List Value) (list : ItemList) (back : List Splice) (values : FirstValues) (linked : Tree) : Type 0 where
  pub turn : LieInTurn list.items back
  pub room : come_count back ≤ list.spare
  pub stored : HasFirst store values
  pub cites : All (CitesWell (first_values store values)) (spliced_by list.items back)
  pub trial : IsSome linked.arena.first
  pub tree : IsTree (first_slots linked.arena) linked.root (unvalued (spliced_by list.items back))
