-- The cost of a script in writes of links, nodes that are made and nodes that are freed, by the
-- open nodes of both lists.
use Rattle.std.specs.Prelude.{ℕ, ◌+◌, if◌then◌else◌, Option, Some, None, List, [], ◌∷◌, drop, length}
use Rattle.std.proofs.Math.Dec.{eqb}
use Rattle.ve_repair.specs.declared.script.How.TheVariants as how
use Rattle.ve_repair.specs.declared.script.Step.{Step}
use Rattle.ve_repair.specs.Work.{How, Keep, Drop, Put, Enter, Leave, Text, Count}
use Rattle.ve_repair.specs.Work as W
use Rattle.ve_repair.specs.Frees.{nodes_of}
use Rattle.ve_repair.specs.Tokens.{Token, Begin, Letters, End}

abbrev pub top : List ℕ → Option ℕ
top [] = None
top (n ∷ ns) = Some n

abbrev pub moved_if : Option ℕ → Option ℕ → ℕ
moved_if None new = 7
moved_if (Some o) None = 7
moved_if (Some o) (Some n) = if eqb o n then 0 else 7

-- A node that stays under its parent costs nothing, and under another one two for the unlinking and
-- five for the linking. One that goes is unlinked and freed, and one that comes is made and linked.
abbrev pub place_cost : How → List ℕ → List ℕ → ℕ
place_cost Keep old new = moved_if (top old) (top new)
place_cost Drop old new = 3
place_cost Put old new = 6

abbrev pub old_open : How → ℕ → List ℕ → List ℕ
old_open Keep n old = n ∷ old
old_open Drop n old = n ∷ old
old_open Put n old = old

abbrev pub new_open : How → ℕ → List ℕ → List ℕ
new_open Keep n new = n ∷ new
new_open Drop n new = new
new_open Put n new = n ∷ new

abbrev pub old_left : How → List ℕ → List ℕ
old_left Keep old = drop 1 old
old_left Drop old = drop 1 old
old_left Put old = old

abbrev pub new_left : How → List ℕ → List ℕ
new_left Keep new = drop 1 new
new_left Drop new = new
new_left Put new = drop 1 new

abbrev pub script_cost : List W.Step → List ℕ → List ℕ → ℕ
script_cost [] old new = 0
script_cost (Enter how n ∷ xs) old new = place_cost how old new + script_cost xs (old_open how n old) (new_open how n new)
script_cost (Leave how ∷ xs) old new = script_cost xs (old_left how old) (new_left how new)
script_cost (Text how n ∷ xs) old new = place_cost how old new + script_cost xs old new
script_cost (Count n count ∷ xs) old new = script_cost xs old new

-- how many nodes are made for a script of the code, and how many are freed
abbrev pub made_count : List Step → ℕ
made_count xs = length (nodes_of how.Put xs)

abbrev pub freed_count : List Step → ℕ
freed_count xs = length (nodes_of how.Cut xs)

-- a node in a list of tokens, and the node that it stands in
pub record Spot : Type 0 where
  pub number : ℕ
  pub above : Option ℕ

abbrev pub spots : List Token → List ℕ → List Spot
spots [] open_ = []
spots (Begin n ∷ ts) open_ = record { number = n; above = top open_ } ∷ spots ts (n ∷ open_)
spots (Letters n ∷ ts) open_ = record { number = n; above = top open_ } ∷ spots ts open_
spots (End ∷ ts) open_ = spots ts (drop 1 open_)

abbrev pub open_behind : List Token → List ℕ → List ℕ
open_behind [] open_ = open_
open_behind (Begin n ∷ ts) open_ = open_behind ts (n ∷ open_)
open_behind (Letters n ∷ ts) open_ = open_behind ts open_
open_behind (End ∷ ts) open_ = open_behind ts (drop 1 open_)
