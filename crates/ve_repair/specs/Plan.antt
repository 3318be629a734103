-- The writes of links that a script asks for, as the code finds them: by the open nodes of both
-- lists, and the last child so far of each new one.
use Rattle.std.specs.Prelude.{nat_eq, Bool, false, if◌then◌else◌, Some, None, List, [], ◌∷◌, ◌++◌, drop}
use Rattle.ve_arena.specs.declared.node.NodeId.{NodeId}
use Rattle.ve_repair.specs.declared.write.Write.{Write}
use Rattle.ve_repair.specs.declared.write.Write.TheVariants.{Unlink, Link}
use Rattle.ve_repair.specs.declared.script.How.{How}
use Rattle.ve_repair.specs.declared.script.How.TheVariants.{Keep, Cut, Put}
use Rattle.ve_repair.specs.declared.script.Step.{Step}
use Rattle.ve_repair.specs.declared.script.Step.TheVariants.{Enter, Leave, Text, Count}
use Rattle.ve_repair.specs.declared.plan.Level.{Level}

-- the open nodes, innermost first
pub record Stacks : Type 0 where
  pub old : List NodeId
  pub new : List Level

-- and the writes so far
pub record Planned : Type 0 where
  pub stacks : Stacks
  pub writes : List Write

abbrev pub same_tops : List NodeId → List Level → Bool
same_tops [] new = false
same_tops (o ∷ os) [] = false
same_tops (o ∷ os) (f ∷ fs) = nat_eq o.0 f.node.0

abbrev pub is_same_parent : Stacks → Bool
is_same_parent s = same_tops s.old s.new

abbrev pub unlink_of : NodeId → List NodeId → List Write
unlink_of n [] = []
unlink_of n (o ∷ os) = Unlink n o ∷ []

abbrev pub link_of : NodeId → List Level → List Write
link_of n [] = []
link_of n (f ∷ fs) = Link n f.node f.last ∷ []

abbrev pub with_last : NodeId → List Level → List Level
with_last n [] = []
with_last n (f ∷ fs) = record { node = f.node; last = Some n } ∷ fs

abbrev pub placed_writes : How → NodeId → Stacks → List Write
placed_writes Keep n s = if is_same_parent s then [] else (unlink_of n s.old ++ link_of n s.new)
placed_writes Cut n s = unlink_of n s.old
placed_writes Put n s = link_of n s.new

abbrev pub placed_stacks : How → NodeId → Stacks → Stacks
placed_stacks Keep n s = record { old = s.old; new = with_last n s.new }
placed_stacks Cut n s = s
placed_stacks Put n s = record { old = s.old; new = with_last n s.new }

abbrev pub new_level : NodeId → Level
new_level n = record { node = n; last = None }

-- a level that is open in both lists where the script begins
abbrev pub begun_stacks : Level → Stacks → Stacks
begun_stacks l s = record { old = l.node ∷ s.old; new = l ∷ s.new }

abbrev pub opened_stacks : How → NodeId → Stacks → Stacks
opened_stacks Keep n s = record { old = n ∷ s.old; new = new_level n ∷ s.new }
opened_stacks Cut n s = record { old = n ∷ s.old; new = s.new }
opened_stacks Put n s = record { old = s.old; new = new_level n ∷ s.new }

abbrev pub closed_stacks : How → Stacks → Stacks
closed_stacks Keep s = record { old = drop 1 s.old; new = drop 1 s.new }
closed_stacks Cut s = record { old = drop 1 s.old; new = s.new }
closed_stacks Put s = record { old = s.old; new = drop 1 s.new }

abbrev pub stepped_writes : Step → Stacks → List Write
stepped_writes (Enter how n) s = placed_writes how n s
stepped_writes (Leave how) s = []
stepped_writes (Text how n) s = placed_writes how n s
stepped_writes (Count n count) s = []

abbrev pub stepped_stacks : Step → Stacks → Stacks
stepped_stacks (Enter how n) s = opened_stacks how n (placed_stacks how n s)
stepped_stacks (Leave how) s = closed_stacks how s
stepped_stacks (Text how n) s = placed_stacks how n s
stepped_stacks (Count n count) s = s

abbrev pub script_writes : List Step → Stacks → List Write
script_writes [] s = []
script_writes (step ∷ steps) s = stepped_writes step s ++ script_writes steps (stepped_stacks step s)

abbrev pub script_stacks : List Step → Stacks → Stacks
script_stacks [] s = s
script_stacks (step ∷ steps) s = script_stacks steps (stepped_stacks step s)
