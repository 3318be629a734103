-- Nodes that stay keep their numbers.
use Rattle.std.specs.Prelude.{◌≡◌, ℕ, ◌-◌, true, Option, Some, None, List, Contains}
use Rattle.ve_base.specs.declared.value.Value.{Value}
use Rattle.model_items.specs.declared.item.Item.{Item}
use Rattle.model_items.specs.Plain.{plain_list}
use Rattle.model_change.specs.Inverse.{inverse}
use Rattle.model_change.specs.Touch.{NodeName, TheRoot, Opened, Text, image, match_by}
use Rattle.model_change.specs.Transaction.{Transaction}
use Rattle.ve_arena.specs.declared.node.NodeId.{NodeId}
use Rattle.ve_arena.specs.declared.node.NodeWhat.{NodeWhat}
use Rattle.ve_arena.specs.declared.node.NodeWhat.TheVariants as what
use Rattle.ve_arena.specs.declared.node.ArenaNode.{ArenaNode}
use Rattle.ve_tree.specs.IsTree.{IsTree}
use Rattle.ve_tree.specs.Places.{NodePlace, tree_places}
use Rattle.ve_tx.specs.Operation.{Operation, by_value}
use Rattle.ve_repair.specs.Change.{new_list}

-- the model's name of a node of the tree: the root has no parent
abbrev pub named_by : Option ℕ → NodeWhat → ℕ → NodeName
named_by None sort at = TheRoot
named_by (Some parent) what.Run at = Text at
named_by (Some parent) (what.Node kind) at = Opened at

abbrev pub name_of : NodePlace → NodeName
name_of n = named_by n.parent n.sort n.from

abbrev pub count_of : NodePlace → ℕ
count_of n = n.to - n.from

-- an old and a new node match, as the model says
abbrev pub Match : Transaction → NodePlace → NodePlace → Type 0
Match t old new =
    match_by (name_of old) (image t (name_of old) (count_of old)) (count_of old)
    (name_of new) (image (inverse t) (name_of new) (count_of new)) (count_of new)
    ≡ true

-- The new node of each matching pair stands under the number of the old one, whatever the values
-- are.
abbrev pub KeepsNumbers : (old new : List (Option ArenaNode)) → NodeId → List Operation → List Item → Type 0
KeepsNumbers old new root tx items =
    (values : List Value) (was : IsTree old root (plain_list values items)) (is : IsTree new root (new_list values tx items))
    (o n : NodePlace) → Contains (tree_places was) o → Contains (tree_places is) n → Match (by_value values tx) o n → n.number ≡ o.number
