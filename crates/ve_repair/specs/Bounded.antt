-- How many steps a repair takes: at most eight for each node that is touched.
use Rattle.std.specs.Prelude.{◌≡◌, ◌≤◌, ℕ, ◌+◌, ◌*◌, Option, List, ◌++◌, map}
use Rattle.model_items.specs.declared.plain_item.PlainItem.{PlainItem}
use Rattle.model_items.specs.Tree.{shape_of}
use Rattle.model_change.specs.Touch.{new_place, touch}
use Rattle.model_change.specs.Transaction.{Transaction, edited}
use Rattle.ve_arena.specs.declared.node.NodeId.{NodeId}
use Rattle.ve_arena.specs.declared.node.ArenaNode.{ArenaNode}
use Rattle.ve_tree.specs.Named.{Named}
use Rattle.ve_tree.specs.IsTree.{IsTree}
use Rattle.ve_repair.specs.declared.script.Step.{Step}
use Rattle.ve_repair.specs.Work as W
use Rattle.ve_repair.specs.Tokens.{Token, work_at}
use Rattle.ve_repair.specs.Spelled.{Sign, token_of}
use Rattle.ve_repair.specs.Acts.{Act}
use Rattle.ve_repair.specs.Agree.{steps_of, Agrees}
use Rattle.ve_repair.specs.Plan.{Stacks, script_writes, script_stacks}
use Rattle.ve_repair.specs.Closing.{close_writes}
use Rattle.ve_repair.specs.Ending.{right_tokens}
use Rattle.ve_repair.specs.Sizing.{Sizing}
use Rattle.ve_repair.specs.Lengths.{StartsAt, whole_writes, HaveLengths}
use Rattle.ve_repair.specs.Writes.{weight}
use Rattle.ve_repair.specs.Whole.{script_of}
use Rattle.ve_repair.specs.Moved.{Moves}
use Rattle.ve_repair.specs.Changed.{IsChangeOf}
use Rattle.ve_repair.specs.Matching.{IsChanged}
use Rattle.ve_repair.specs.Charged.{made_count, freed_count}

-- A piece of the tree of a list is changed as a transaction says, and this is a list with the same
-- brackets and characters.
pub record IsChangeBy (supply : ℕ → ℕ) (root : NodeId) (old : List (Option ArenaNode)) (items others : List PlainItem) (tree : IsTree old root items) (lefts ss rights : List Sign) (acts : List Act)
    (t : Transaction) (before : List PlainItem) : Type 0 where
  pub changed : IsChanged supply root old items others tree lefts ss rights acts
  pub moves : Moves (new_place t) lefts acts rights
  pub old_shapes : map shape_of before ≡ map shape_of items
  pub new_shapes : map shape_of (edited t before) ≡ map shape_of others

-- The code has the script, and begins where the piece does.
pub record IsPlanned (root : NodeId) (lefts rights : List Sign) (xs : List Step) (fs : List Named) (s : Stacks) (z : Sizing) : Type 0 where
  pub past : List ℕ
  pub right : List Token
  pub agrees : Agrees s (work_at root.0 (map token_of lefts) right) past
  pub rows : right_tokens fs ≡ map token_of rights
  pub starts : StartsAt root.0 lefts z

-- Then a count is at most eight for each touched node: the nodes that are made, all writes of links
-- and lengths, and the nodes that are freed. This is so whatever arena has the old nodes' lengths.
abbrev pub StepsAreBounded : Type 0
StepsAreBounded = (supply : ℕ → ℕ) (root : NodeId) (old slots : List (Option ArenaNode)) (items others : List PlainItem) (tree : IsTree old root items) (lefts ss rights : List Sign) (acts : List Act)
    (t : Transaction) (before : List PlainItem) → IsChangeBy supply root old items others tree lefts ss rights acts t before →
    HaveLengths slots root.0 tree.named →
    (xs : List Step) (fs : List Named) (s : Stacks) (z : Sizing) → steps_of xs ≡ script_of supply acts ss → IsPlanned root lefts rights xs fs s z →
    made_count xs + weight ((script_writes xs s ++ close_writes fs (script_stacks xs s)) ++ whole_writes slots xs z) + freed_count xs ≤ 8 * touch t before

-- The same without the numbers of what is made.
pub record IsPieceBy (root : NodeId) (old : List (Option ArenaNode)) (items others : List PlainItem) (tree : IsTree old root items) (lefts ss rights : List Sign) (acts : List Act) (t : Transaction)
    (before : List PlainItem) : Type 0 where
  pub change : IsChangeOf tree.named lefts ss rights acts others
  pub moves : Moves (new_place t) lefts acts rights
  pub old_shapes : map shape_of before ≡ map shape_of items
  pub new_shapes : map shape_of (edited t before) ≡ map shape_of others

-- The nodes that are made for a part of the script, and freed again, are within the bound too,
-- whatever their numbers are.
abbrev pub MadeAreBounded : Type 0
MadeAreBounded = (supply : ℕ → ℕ) (root : NodeId) (old : List (Option ArenaNode)) (items others : List PlainItem) (tree : IsTree old root items) (lefts ss rights : List Sign) (acts : List Act)
    (t : Transaction) (before : List PlainItem) → IsPieceBy root old items others tree lefts ss rights acts t before →
    (xs : List Step) (more : List W.Step) → steps_of xs ++ more ≡ script_of supply acts ss → 2 * made_count xs ≤ 8 * touch t before
