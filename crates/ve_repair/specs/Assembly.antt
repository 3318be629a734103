-- The repair of a tree's nodes, from the start of the changed range to the writes.
use Rattle.std.specs.Prelude.{◌≡◌, ◌≤◌, ◌<◌, ℕ, ◌+◌, ◌^◌, Option, List, ◌++◌}
use Rattle.ve_arena.specs.declared.node.NodeId.{NodeId}
use Rattle.ve_arena.specs.declared.node.ArenaNode.{ArenaNode}
use Rattle.ve_arena.specs.Arena.{IsLive}
use Rattle.ve_tree.specs.Named.{Named}
use Rattle.ve_tx.specs.declared.op.Op.{Op}
use Rattle.ve_tx.specs.Checked.{old_size}
use Rattle.ve_repair.specs.declared.script.How.TheVariants.{Put}
use Rattle.ve_repair.specs.declared.script.Step.{Step}
use Rattle.ve_repair.specs.declared.write.Write.{Write}
use Rattle.ve_repair.specs.Frees.{nodes_of}
use Rattle.ve_repair.specs.Plan.{Stacks, script_writes, script_stacks}
use Rattle.ve_repair.specs.Closing.{AreLeft, AreSomeLeft, close_writes}
use Rattle.ve_repair.specs.Sizing.{Sizing, len_under, sized_all, AllOpenLive, StepsAreLive, PlacesFit, LengthsFit}
use Rattle.ve_repair.specs.Lengths.{whole_writes}
use Rattle.ve_repair.specs.Reader.{Reading, HasMade}
use Rattle.ve_repair.specs.Cursors.{items_in}
use Rattle.ve_repair.specs.Courses.{Course, HasRead, come_size}

-- a reader that may go on by so many items that stay, and then by operations
pub record MayRead (slots : List (Option ArenaNode)) (r : Reading) (front : ℕ) (ops : List Op) : Type 0 where
  pub course : Course
  pub read : HasRead course slots r
  pub enough : front + old_size ops ≤ items_in course.spot.rest
  pub room : course.bound + come_size ops < 2 ^ 64

-- The nodes that a script names are there, and all positions and lengths fit.
pub record CanPlan (slots : List (Option ArenaNode)) (root : NodeId) (r : Reading) (s : Stacks) (z : Sizing) : Type 0 where
  pub root_live : IsLive slots root
  pub left : AreSomeLeft slots (len_under slots root) (script_stacks r.script s).old r.at.next
  pub new_open : AllOpenLive slots z.new_open
  pub steps_live : StepsAreLive slots r.script
  pub fits : PlacesFit (sized_all slots r.script z)
  pub old_after : AllOpenLive slots (sized_all slots r.script z).old_open
  pub new_after : AllOpenLive slots (sized_all slots r.script z).new_open
  pub lengths : LengthsFit slots (sized_all slots r.script z).old_open (sized_all slots r.script z).new_at

-- all writes for a script, where these rows are left at its end
abbrev pub all_writes : List (Option ArenaNode) → List Step → List Named → Stacks → Sizing → List Write
all_writes slots xs fs s z = (script_writes xs s ++ close_writes fs (script_stacks xs s)) ++ whole_writes slots xs z

abbrev pub AreAllWrites : List (Option ArenaNode) → NodeId → Reading → Stacks → Sizing → List Write → Type 0
AreAllWrites slots root r s z ws =
    (fs : List Named) → AreLeft slots (len_under slots root) (script_stacks r.script s).old r.at.next fs → ws ≡ all_writes slots r.script fs s z

-- the nodes of a script were made in some arena
pub record SomeMade (now : List (Option ArenaNode)) (xs : List Step) : Type 0 where
  pub before : List (Option ArenaNode)
  pub made : HasMade before now (nodes_of Put xs)
