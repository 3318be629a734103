-- The rest at the levels that are open at the end of a script: the siblings there go to the new
-- node, where that is another one.
use Rattle.std.specs.Prelude.{◌≡◌, ◌≤◌, ℕ, if◌then◌else◌, Option, Some, None, List, [], ◌∷◌, ◌++◌, drop, map, option_map}
use Rattle.ve_arena.specs.declared.node.NodeId.{NodeId}
use Rattle.ve_arena.specs.declared.node.ArenaNode.{ArenaNode}
use Rattle.ve_arena.specs.Arena.{node_under, IsLive}
use Rattle.model_items.specs.Tree.{item_count, HasWholeRuns}
use Rattle.ve_tree.specs.Links.{number_of, links_of, first_or, AreSiblings}
use Rattle.ve_tree.specs.Named.{Named, unnumbered, heads, Shows}
use Rattle.ve_tree.specs.Grown.{id_of}
use Rattle.ve_repair.specs.declared.write.Write.{Write}
use Rattle.ve_repair.specs.declared.script.How.TheVariants.{Keep}
use Rattle.ve_repair.specs.declared.script.Step.{Step}
use Rattle.ve_repair.specs.declared.script.Step.TheVariants.{Text}
use Rattle.ve_repair.specs.Plan.{Stacks, is_same_parent, script_writes, script_stacks}

-- nodes side by side that stay, whatever is inside them
abbrev pub row_of : List ℕ → List Step
row_of ns = map (λ n. Text Keep (id_of n)) ns

abbrev pub row_steps : Named → List Step
row_steps f = row_of (heads f)

-- one level less is open
abbrev pub outer_stacks : Stacks → Stacks
outer_stacks s = record { old = drop 1 s.old; new = drop 1 s.new }

-- the writes at one level, and at all of them
abbrev pub level_writes : Named → Stacks → List Write
level_writes f s = if is_same_parent s then [] else script_writes (row_steps f) s

abbrev pub close_writes : List Named → Stacks → List Write
close_writes [] s = []
close_writes (f ∷ fs) s = level_writes f s ++ close_writes fs (outer_stacks s)

-- the arena has the nodes of the forest, side by side from `next` to the last of its siblings
pub record IsRowFrom (slots : List (Option ArenaNode)) (next : Option NodeId) (f : Named) : Type 0 where
  pub next_is : option_map number_of next ≡ first_or (heads f) None
  pub inner : ℕ
  pub edge : Option ℕ
  pub row : AreSiblings (links_of slots).parent (links_of slots).before (links_of slots).after inner edge (heads f) None
  pub shown : Shows slots f
  pub runs : HasWholeRuns (unnumbered f)

-- the arena has a row of siblings from a node on that takes no more items than `most`
pub record IsRoomyRow (slots : List (Option ArenaNode)) (next : Option NodeId) (most : ℕ) : Type 0 where
  pub forest : Named
  pub row : IsRowFrom slots next forest
  pub room : item_count (unnumbered forest) ≤ most

-- the stacks and the writes after keeping a row of no more items than `most`
abbrev pub StacksForRow : List (Option ArenaNode) → Option NodeId → ℕ → Stacks → Stacks → Type 0
StacksForRow slots first most was is = (f : Named) → IsRowFrom slots first f → item_count (unnumbered f) ≤ most → is ≡ script_stacks (row_steps f) was

abbrev pub WritesForRow : List (Option ArenaNode) → Option NodeId → ℕ → Stacks → List Write → List Write → Type 0
WritesForRow slots first most s was is =
    (f : Named) → IsRowFrom slots first f → item_count (unnumbered f) ≤ most → is ≡ was ++ script_writes (row_steps f) s

-- The rows that are left, from the innermost open node outwards: the first begins with `next`, and
-- each other with the sibling behind the open node inside it.
abbrev pub AreLeft : List (Option ArenaNode) → ℕ → List NodeId → Option NodeId → List Named → Type 0
AreLeft slots most [] next [] = Unit {0}
AreLeft slots most [] next (f ∷ fs) = ⊥
AreLeft slots most (o ∷ os) next [] = ⊥
AreLeft slots most (o ∷ os) next (f ∷ fs) =
    IsRowFrom slots next f × (item_count (unnumbered f) ≤ most) × IsLive slots o × ((node : ArenaNode) → node_under slots o ≡ Some node → AreLeft slots most os node.after fs)

pub record AreSomeLeft (slots : List (Option ArenaNode)) (most : ℕ) (os : List NodeId) (next : Option NodeId) : Type 0 where
  pub rows : List Named
  pub left : AreLeft slots most os next rows
