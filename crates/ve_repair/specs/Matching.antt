-- Nodes of the old and the new tree match exactly where they have one number.
use Rattle.std.specs.Prelude.{◌≡◌, ◌↔◌, ℕ, Option, List, ◌∷◌, Contains, map}
use Rattle.model_items.specs.declared.item.Item.{Item}
use Rattle.model_items.specs.declared.plain_item.PlainItem.{PlainItem}
use Rattle.model_change.specs.Touch.{new_place}
use Rattle.model_change.specs.Transaction.{Transaction}
use Rattle.ve_arena.specs.declared.node.NodeId.{NodeId}
use Rattle.ve_arena.specs.declared.node.ArenaNode.{ArenaNode}
use Rattle.ve_tree.specs.Links.{AllApart}
use Rattle.ve_tree.specs.Named.{node_numbers}
use Rattle.ve_tree.specs.IsTree.{IsTree}
use Rattle.ve_tree.specs.Places.{NodePlace, tree_places}
use Rattle.ve_tx.specs.Operation.{Operation, bare}
use Rattle.ve_repair.specs.Tokens.{puts}
use Rattle.ve_repair.specs.Spelled.{Sign, AllFrom}
use Rattle.ve_repair.specs.Acts.{Act, acts_of}
use Rattle.ve_repair.specs.Changed.{IsChangeOf, HasForest}
use Rattle.ve_repair.specs.Whole.{script_of, IsCarriedOut}
use Rattle.ve_repair.specs.Moved.{all_acts, Moves}
use Rattle.ve_repair.specs.Kept.{Match, KeepsNumbers}

-- A piece of a tree is changed by acts; the made numbers are distinct and none of the old tree's.
pub record IsChanged (supply : ℕ → ℕ) (root : NodeId) (old : List (Option ArenaNode)) (items others : List PlainItem) (tree : IsTree old root items) (lefts ss rights : List Sign) (acts : List Act) : Type 0 where
  pub change : IsChangeOf tree.named lefts ss rights acts others
  pub forest : HasForest supply tree.named lefts ss rights acts others
  pub distinct : AllApart (puts (script_of supply acts ss))
  pub made : AllFrom (puts (script_of supply acts ss)) (root.0 ∷ node_numbers tree.named)

-- The arena has what the script makes of it.
pub record IsRepaired (supply : ℕ → ℕ) (root : NodeId) (old new : List (Option ArenaNode)) (items others : List PlainItem) (tree : IsTree old root items) (lefts ss rights : List Sign) (acts : List Act) : Type 0 where
  pub changed : IsChanged supply root old items others tree lefts ss rights acts
  pub carried : IsCarriedOut root lefts rights (script_of supply acts ss) old new changed.forest.named others

-- Where the acts are those of a transaction, an old and a new node match exactly where their
-- numbers are equal. This is so whatever lists the two arenas are the trees of.
abbrev pub NumbersMatch : Type 0
NumbersMatch = (supply : ℕ → ℕ) (root : NodeId) (old new : List (Option ArenaNode)) (items others : List PlainItem) (tree : IsTree old root items) (lefts ss rights : List Sign) (acts : List Act) →
    IsRepaired supply root old new items others tree lefts ss rights acts → (t : Transaction) → Moves (new_place t) lefts acts rights →
    (before after : List PlainItem) (was : IsTree old root before) (is : IsTree new root after) (o n : NodePlace) → Contains (tree_places was) o →
    Contains (tree_places is) n →
    Match t o n ↔ (n.number ≡ o.number)

-- So nodes that stay keep their numbers.
abbrev pub NumbersAreKept : Type 0
NumbersAreKept = (supply : ℕ → ℕ) (root : NodeId) (old new : List (Option ArenaNode)) (list others : List PlainItem) (tree : IsTree old root list) (lefts ss rights : List Sign) (acts : List Act) →
    IsRepaired supply root old new list others tree lefts ss rights acts → (tx : List Operation) (ns : List ℕ) (items : List Item) →
    acts_of (map bare tx) ns ≡ all_acts lefts acts rights → KeepsNumbers old new root tx items
