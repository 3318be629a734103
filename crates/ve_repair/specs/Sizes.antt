-- The length of each node, read off brackets and texts in one pass: from the position where a node
-- begins to the position where it ends.
use Rattle.std.specs.Prelude.{◌≡◌, ℕ, suc, ◌+◌, ◌-◌, Option, Some, List, [], ◌∷◌, ◌++◌, option_map}
use Rattle.model_items.specs.Tree.{item_count}
use Rattle.ve_arena.specs.declared.node.NodeWhat.{NodeWhat}
use Rattle.ve_arena.specs.declared.node.NodeWhat.TheVariants as what
use Rattle.ve_arena.specs.declared.node.ArenaNode.{ArenaNode}
use Rattle.ve_arena.specs.Arena.{slot_at}
use Rattle.ve_tree.specs.Named.{Named, NoNode, NamedRun, NamedBranch, unnumbered}
use Rattle.ve_tree.specs.Fits.{AreLabelled}
use Rattle.ve_repair.specs.Spelled.{Sign, BeginOf, LettersOf, EndOf}

-- a node with its length, and an open one with the position where it begins
pub record Sized : Type 0 where
  pub node : ℕ
  pub len : ℕ

pub record Begun : Type 0 where
  pub node : ℕ
  pub from : ℕ

-- the lengths of the nodes that end, in the order of their ends; `at` is the position of the first
-- sign
abbrev pub sizes : List Sign → List Begun → ℕ → List Sized
sizes [] open_ at = []
sizes (BeginOf n kind ∷ ss) open_ at = sizes ss (record { node = n; from = at } ∷ open_) (suc at)
sizes (LettersOf n count ∷ ss) open_ at = record { node = n; len = count } ∷ sizes ss open_ (at + count)
sizes (EndOf kind ∷ ss) [] at = sizes ss [] (suc at)
sizes (EndOf kind ∷ ss) (b ∷ open_) at = record { node = b.node; len = suc at - b.from } ∷ sizes ss open_ (suc at)

-- the nodes that are open then, and the position
abbrev pub open_after : List Sign → List Begun → ℕ → List Begun
open_after [] open_ at = open_
open_after (BeginOf n kind ∷ ss) open_ at = open_after ss (record { node = n; from = at } ∷ open_) (suc at)
open_after (LettersOf n count ∷ ss) open_ at = open_after ss open_ (at + count)
open_after (EndOf kind ∷ ss) [] at = open_after ss [] (suc at)
open_after (EndOf kind ∷ ss) (b ∷ open_) at = open_after ss open_ (suc at)

abbrev pub place_after : List Sign → ℕ → ℕ
place_after [] at = at
place_after (BeginOf n kind ∷ ss) at = place_after ss (suc at)
place_after (LettersOf n count ∷ ss) at = place_after ss (at + count)
place_after (EndOf kind ∷ ss) at = place_after ss (suc at)

-- a forest written out
abbrev pub signs_of : Named → List Sign
signs_of NoNode = []
signs_of (NamedRun n count later) = LettersOf n count ∷ signs_of later
signs_of (NamedBranch n kind inside later) = BeginOf n kind ∷ (signs_of inside ++ EndOf kind ∷ signs_of later)

-- the lengths that its nodes have in it
abbrev pub forest_sizes : Named → List Sized
forest_sizes NoNode = []
forest_sizes (NamedRun n count later) = record { node = n; len = count } ∷ forest_sizes later
forest_sizes (NamedBranch n kind inside later) = forest_sizes inside ++ record { node = n; len = item_count (unnumbered inside) + 2 } ∷ forest_sizes later

-- the arena's nodes have these lengths
abbrev pub HaveSizes : List (Option ArenaNode) → List Sized → Type 0
HaveSizes slots [] = Unit {0}
HaveSizes slots (s ∷ ss) = (option_map (λ node. node.len) (slot_at slots s.node) ≡ Some s.len) × HaveSizes slots ss

abbrev pub HasSort : List (Option ArenaNode) → ℕ → NodeWhat → Type 0
HasSort slots n sort = option_map (λ node. node.what) (slot_at slots n) ≡ Some sort

-- and are what the forest's are
abbrev pub HaveSorts : List (Option ArenaNode) → Named → Type 0
HaveSorts slots NoNode = Unit {0}
HaveSorts slots (NamedRun n count later) = HasSort slots n what.Run × HaveSorts slots later
HaveSorts slots (NamedBranch n kind inside later) = HasSort slots n (what.Node kind) × HaveSorts slots inside × HaveSorts slots later

-- So one pass over its signs labels a forest.
abbrev pub SizesLabel : Type 0
SizesLabel = (slots : List (Option ArenaNode)) (f : Named) → HaveSorts slots f → HaveSizes slots (sizes (signs_of f) [] 0) → AreLabelled slots f

-- The pass may be cut anywhere.
abbrev pub SizesAppend : Type 0
SizesAppend = (xs ys : List Sign) (open_ : List Begun) (at : ℕ) → sizes (xs ++ ys) open_ at ≡ sizes xs open_ at ++ sizes ys (open_after xs open_ at) (place_after xs at)
