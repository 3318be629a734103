-- A trial in the arena of a tree.
use Rattle.std.specs.Prelude.{Option, Some, List}
use Rattle.ve_arena.specs.declared.node.ArenaNode.{ArenaNode}
use Rattle.ve_arena.specs.Arena.{ArenaView}

-- an arena in which a trial begins now: its slots are those to go back to
abbrev pub begun : List (Option ArenaNode) → ArenaView
begun slots = record { slots = slots; first = Some slots }
