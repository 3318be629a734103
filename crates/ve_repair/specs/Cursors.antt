-- A cursor in the old tree, what is left of the tree's signs there, and what is passed next.
use Rattle.std.specs.Prelude.{◌≡◌, ◌≤◌, ◌<◌, ℕ, zero, suc, ◌+◌, ◌-◌, nat_eq, Option, Some, None, IsSome, List, [], ◌∷◌, ◌++◌, drop, map, option_map}
use Rattle.ve_kinds.specs.declared.kind.Kind.{Kind}
use Rattle.model_items.specs.Tree.{HasWholeRuns}
use Rattle.ve_arena.specs.declared.node.NodeId.{NodeId}
use Rattle.ve_arena.specs.declared.node.ArenaNode.{ArenaNode}
use Rattle.ve_arena.specs.Arena.{slot_at}
use Rattle.ve_tree.specs.Links.{number_of, links_of, first_or, AreSiblings}
use Rattle.ve_tree.specs.Named.{Named, NoNode, NamedRun, NamedBranch, unnumbered, heads, Shows}
use Rattle.ve_repair.specs.Spelled.{Sign, BeginOf, LettersOf, EndOf, NoLetters}
use Rattle.ve_repair.specs.Sizes.{signs_of}
use Rattle.ve_repair.specs.declared.cursor.Cursor.{Cursor}
use Rattle.ve_repair.specs.declared.cursor.Ahead.{Ahead}
use Rattle.ve_repair.specs.declared.cursor.Ahead.TheVariants.{Opening, Chars, Closing}
use Rattle.ve_repair.specs.declared.cursor.Passed.{Passed}

-- A position in a tree: the open nodes, innermost first, and the signs from there on. A text of
-- which letters are passed is a shorter text.
pub record Spot : Type 0 where
  pub open_nodes : List ℕ
  pub rest : List Sign

abbrev pub spot_of : List ℕ → List Sign → Spot
spot_of os ss = record { open_nodes = os; rest = ss }

-- behind the next item
abbrev pub one_past : List ℕ → List Sign → Spot
one_past os [] = spot_of os []
one_past os (BeginOf n kind ∷ ss) = spot_of (n ∷ os) ss
one_past os (EndOf kind ∷ ss) = spot_of (drop 1 os) ss
one_past os (LettersOf n zero ∷ ss) = spot_of os ss
one_past os (LettersOf n (suc zero) ∷ ss) = spot_of os ss
one_past os (LettersOf n (suc (suc count)) ∷ ss) = spot_of os (LettersOf n (suc count) ∷ ss)

-- behind the next so many items
abbrev pub past : ℕ → Spot → Spot
past zero s = s
past (suc k) s = past k (one_past s.open_nodes s.rest)

-- how many items signs take
abbrev pub items_in : List Sign → ℕ
items_in [] = 0
items_in (BeginOf n kind ∷ ss) = suc (items_in ss)
items_in (LettersOf n count ∷ ss) = count + items_in ss
items_in (EndOf kind ∷ ss) = suc (items_in ss)

-- so many letters of the first text are passed
abbrev pub cut_by : ℕ → List Sign → List Sign
cut_by k [] = []
cut_by k (BeginOf n kind ∷ ss) = BeginOf n kind ∷ ss
cut_by k (LettersOf n count ∷ ss) = LettersOf n (count - k) ∷ ss
cut_by k (EndOf kind ∷ ss) = EndOf kind ∷ ss

-- an open node: its kind, the number of the node round it, and what stands right of it there
pub record Round : Type 0 where
  pub kind : Kind
  pub outer : ℕ
  pub later : Named

abbrev pub outer_of : Round → ℕ
outer_of r = r.outer

-- the signs of siblings, and then of all that stands right of the open nodes round them
abbrev pub left_signs : Named → List Round → List Sign
left_signs f [] = signs_of f
left_signs f (r ∷ rs) = signs_of f ++ EndOf r.kind ∷ left_signs r.later rs

-- the arena has the nodes of the forest, the last children of p from `next` on
pub record IsRowUnder (slots : List (Option ArenaNode)) (p : ℕ) (next : Option NodeId) (f : Named) : Type 0 where
  pub next_is : option_map number_of next ≡ first_or (heads f) None
  pub edge : Option ℕ
  pub row : AreSiblings (links_of slots).parent (links_of slots).before (links_of slots).after p edge (heads f) None
  pub shown : Shows slots f
  pub runs : HasWholeRuns (unnumbered f)

-- and the same of all that stands right of the open nodes
abbrev pub AreRows : List (Option ArenaNode) → ℕ → Option NodeId → Named → List Round → Type 0
AreRows slots p next f [] = IsRowUnder slots p next f
AreRows slots p next f (r ∷ rs) =
    IsRowUnder slots p next f × IsSome (slot_at slots p)
    × ((node : ArenaNode) → slot_at slots p ≡ Some node → (option_map number_of node.parent ≡ Some r.outer) × AreRows slots r.outer node.after r.later rs)

-- letters are passed of a text alone, and not all of them
abbrev pub IsInside : ℕ → Named → Type 0
IsInside k NoNode = k ≡ 0
IsInside k (NamedRun n count later) = k < count
IsInside k (NamedBranch n kind inside later) = k ≡ 0

-- The cursor is at the position.
pub record IsAt (slots : List (Option ArenaNode)) (at : Cursor) (spot : Spot) : Type 0 where
  pub row : Named
  pub rounds : List Round
  pub rows : AreRows slots at.parent.0 at.next row rounds
  pub inside : IsInside at.inside row
  pub rest_is : spot.rest ≡ cut_by at.inside (left_signs row rounds)
  pub open_is : spot.open_nodes ≡ at.parent.0 ∷ map outer_of rounds

-- It is at some position where so many items follow.
pub record IsAtSome (slots : List (Option ArenaNode)) (at : Cursor) (count : ℕ) : Type 0 where
  pub spot : Spot
  pub is_at : IsAt slots at spot
  pub enough : count ≤ items_in spot.rest

-- the first of the signs, and whether so many items are all of it
abbrev pub ComesFirst : Ahead → ℕ → List Sign → Type 0
ComesFirst (Opening n) k ss = (kind : Kind) × (later : List Sign) × (ss ≡ BeginOf n.0 kind ∷ later) × (k ≡ 1)
ComesFirst (Chars n ends) k ss = (count : ℕ) × (later : List Sign) × (ss ≡ LettersOf n.0 count ∷ later) × (k ≤ count) × (ends ≡ nat_eq k count)
ComesFirst Closing k ss = (kind : Kind) × (later : List Sign) × (ss ≡ EndOf kind ∷ later) × (k ≡ 1)

-- At most so many items are passed, and at least one: a bracket, or characters of one text.
pub record IsPassed (slots : List (Option ArenaNode)) (most : ℕ) (spot : Spot) (passed : Passed) : Type 0 where
  pub some : 1 ≤ passed.count
  pub few : passed.count ≤ most
  pub first : ComesFirst passed.what passed.count spot.rest
  pub at : IsAt slots passed.at (past passed.count spot)

-- Behind so many items no text comes next.
pub record IsRestOfText (spot : Spot) (count : ℕ) : Type 0 where
  pub few : count ≤ items_in spot.rest
  pub whole : NoLetters (past count spot).rest
