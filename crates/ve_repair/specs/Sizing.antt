-- The lengths that a script gives to nodes, as the code finds them: by the open nodes of both
-- lists, the positions where they begin, and the position in each list.
use Rattle.std.specs.Prelude.{ℕ, ◌+◌, ◌-◌, ◌<◌, ◌^◌, nat_eq, if◌then◌else◌, Option, List, [], ◌∷◌, ◌++◌, drop}
use Rattle.ve_arena.specs.declared.node.NodeId.{NodeId}
use Rattle.ve_arena.specs.declared.node.ArenaNode.{ArenaNode}
use Rattle.ve_arena.specs.Arena.{node_under, IsLive}
use Rattle.ve_repair.specs.Labels.{len_in}
use Rattle.ve_repair.specs.declared.write.Write.{Write}
use Rattle.ve_repair.specs.declared.write.Write.TheVariants.{Resize}
use Rattle.ve_repair.specs.declared.script.How.{How}
use Rattle.ve_repair.specs.declared.script.How.TheVariants.{Keep, Cut, Put}
use Rattle.ve_repair.specs.declared.script.Step.{Step}
use Rattle.ve_repair.specs.declared.script.Step.TheVariants.{Enter, Leave, Text, Count}
use Rattle.ve_repair.specs.declared.sizes.OpenFrom.{OpenFrom}

-- the open nodes of both lists, innermost first, and both positions
pub record Sizing : Type 0 where
  pub old_open : List OpenFrom
  pub new_open : List OpenFrom
  pub old_at : ℕ
  pub new_at : ℕ

-- how many items the node takes
abbrev pub len_under : List (Option ArenaNode) → NodeId → ℕ
len_under slots n = len_in (node_under slots n)

abbrev pub open_from : NodeId → ℕ → OpenFrom
open_from n at = record { node = n; from = at }

-- a level that is open in both lists
abbrev pub with_level : OpenFrom → Sizing → Sizing
with_level b s = record { old_open = b ∷ s.old_open; new_open = b ∷ s.new_open; old_at = s.old_at; new_at = s.new_at }

-- both lists are at a position
abbrev pub started : ℕ → Sizing → Sizing
started place s = record { old_open = s.old_open; new_open = s.new_open; old_at = place; new_at = place }

abbrev pub entered : How → NodeId → Sizing → Sizing
entered Keep n s = record { old_open = open_from n s.old_at ∷ s.old_open; new_open = open_from n s.new_at ∷ s.new_open; old_at = s.old_at + 1; new_at = s.new_at + 1 }
entered Cut n s = record { old_open = open_from n s.old_at ∷ s.old_open; new_open = s.new_open; old_at = s.old_at + 1; new_at = s.new_at }
entered Put n s = record { old_open = s.old_open; new_open = open_from n s.new_at ∷ s.new_open; old_at = s.old_at; new_at = s.new_at + 1 }

abbrev pub left : How → Sizing → Sizing
left Keep s = record { old_open = drop 1 s.old_open; new_open = drop 1 s.new_open; old_at = s.old_at + 1; new_at = s.new_at + 1 }
left Cut s = record { old_open = drop 1 s.old_open; new_open = s.new_open; old_at = s.old_at + 1; new_at = s.new_at }
left Put s = record { old_open = s.old_open; new_open = drop 1 s.new_open; old_at = s.old_at; new_at = s.new_at + 1 }

-- a text of so many items; in the new list they are counted where the text ends
abbrev pub passed : How → ℕ → Sizing → Sizing
passed Keep count s = record { old_open = s.old_open; new_open = s.new_open; old_at = s.old_at + count; new_at = s.new_at }
passed Cut count s = record { old_open = s.old_open; new_open = s.new_open; old_at = s.old_at + count; new_at = s.new_at }
passed Put count s = s

abbrev pub counted : ℕ → Sizing → Sizing
counted count s = record { old_open = s.old_open; new_open = s.new_open; old_at = s.old_at; new_at = s.new_at + count }

abbrev pub sized : List (Option ArenaNode) → Step → Sizing → Sizing
sized slots (Enter how n) s = entered how n s
sized slots (Leave how) s = left how s
sized slots (Text how n) s = passed how (len_under slots n) s
sized slots (Count n count) s = counted count s

abbrev pub sized_all : List (Option ArenaNode) → List Step → Sizing → Sizing
sized_all slots [] s = s
sized_all slots (step ∷ steps) s = sized_all slots steps (sized slots step s)

-- a length is written where it is another one
abbrev pub resize_of : List (Option ArenaNode) → NodeId → ℕ → List Write
resize_of slots n len = if nat_eq (len_under slots n) len then [] else Resize n len ∷ []

-- the innermost open node ends at a position
abbrev pub end_writes : List (Option ArenaNode) → List OpenFrom → ℕ → List Write
end_writes slots [] at = []
end_writes slots (b ∷ open_) at = resize_of slots b.node (at - b.from)

abbrev pub left_writes : List (Option ArenaNode) → How → Sizing → List Write
left_writes slots Keep s = end_writes slots s.new_open (s.new_at + 1)
left_writes slots Cut s = []
left_writes slots Put s = end_writes slots s.new_open (s.new_at + 1)

abbrev pub size_writes : List (Option ArenaNode) → Step → Sizing → List Write
size_writes slots (Enter how n) s = []
size_writes slots (Leave how) s = left_writes slots how s
size_writes slots (Text how n) s = []
size_writes slots (Count n count) s = resize_of slots n count

abbrev pub sizes_writes : List (Option ArenaNode) → List Step → Sizing → List Write
sizes_writes slots [] s = []
sizes_writes slots (step ∷ steps) s = size_writes slots step s ++ sizes_writes slots steps (sized slots step s)

-- The writes at the end of the range: what follows in the old list follows in the new one.
abbrev pub open_writes : List (Option ArenaNode) → List OpenFrom → List OpenFrom → ℕ → ℕ → List Write
open_writes slots [] new old_at new_at = []
open_writes slots (o ∷ os) [] old_at new_at = []
open_writes slots (o ∷ os) (b ∷ bs) old_at new_at =
    resize_of slots b.node ((new_at - b.from) + (len_under slots o.node - (old_at - o.from))) ++ open_writes slots os bs old_at new_at

-- the nodes are there
abbrev pub AllOpenLive : List (Option ArenaNode) → List OpenFrom → Type 0
AllOpenLive slots [] = Unit {0}
AllOpenLive slots (b ∷ open_) = IsLive slots b.node × AllOpenLive slots open_

abbrev pub StepIsLive : List (Option ArenaNode) → Step → Type 0
StepIsLive slots (Enter how n) = IsLive slots n
StepIsLive slots (Leave how) = Unit {0}
StepIsLive slots (Text how n) = IsLive slots n
StepIsLive slots (Count n count) = IsLive slots n

abbrev pub StepsAreLive : List (Option ArenaNode) → List Step → Type 0
StepsAreLive slots [] = Unit {0}
StepsAreLive slots (step ∷ steps) = StepIsLive slots step × StepsAreLive slots steps

-- both positions are numbers of positions
abbrev pub PlacesFit : Sizing → Type 0
PlacesFit s = (s.old_at < 2 ^ 64) × (s.new_at < 2 ^ 64)

-- as far as open nodes of the old list reach, lengths fit
abbrev pub LengthsFit : List (Option ArenaNode) → List OpenFrom → ℕ → Type 0
LengthsFit slots [] new_at = Unit {0}
LengthsFit slots (o ∷ os) new_at = (new_at + len_under slots o.node < 2 ^ 64) × LengthsFit slots os new_at
