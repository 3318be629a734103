-- The start of a changed range, where it is widened to whole texts.
use Rattle.std.specs.Prelude.{◌≡◌, ◌≤◌, ℕ, ◌+◌, ◌⊎◌, Option, Some, None, List, [], ◌∷◌, length, map, option_map}
use Rattle.model_items.specs.declared.plain_item.PlainItem.{PlainItem}
use Rattle.ve_arena.specs.declared.node.NodeId.{NodeId}
use Rattle.ve_arena.specs.declared.node.ArenaNode.{ArenaNode}
use Rattle.ve_tree.specs.Links.{number_of, last_or}
use Rattle.ve_tree.specs.Named.{Named, NoNode, NamedRun, NamedBranch, heads}
use Rattle.ve_tree.specs.IsTree.{IsTree}
use Rattle.ve_tree.specs.Rows.{Round, within, parent_in}
use Rattle.ve_repair.specs.declared.plan.Level.{Level}
use Rattle.ve_repair.specs.declared.start.Start.{Start}
use Rattle.ve_repair.specs.declared.start.Opened.{Opened}
use Rattle.ve_repair.specs.declared.start.Edge.{Edge}
use Rattle.ve_repair.specs.declared.sizes.OpenFrom.{OpenFrom}
use Rattle.ve_repair.specs.Plan.{Stacks}
use Rattle.ve_repair.specs.Sizing.{Sizing}
use Rattle.ve_repair.specs.Lengths.{begun_of}
use Rattle.ve_repair.specs.Changed.{NoLettersLast}
use Rattle.ve_repair.specs.Cursor.{Place, whole_of, passed_signs, offset_of, IsAt, begun_round}

abbrev pub opened_level : Opened → Level
opened_level o = record { node = o.node; last = o.last }

abbrev pub opened_from : Opened → OpenFrom
opened_from o = record { node = o.node; from = o.from }

-- the open nodes of the plan, innermost first, with the last child of each that is passed
abbrev pub OldRound : ℕ → List Round → List NodeId → Type 0
OldRound root [] [] = ⊥
OldRound root [] (n ∷ []) = n.0 ≡ root
OldRound root [] (n ∷ (m ∷ ns)) = ⊥
OldRound root (r ∷ rs) [] = ⊥
OldRound root (r ∷ rs) (n ∷ ns) = (n.0 ≡ r.number) × OldRound root rs ns

abbrev pub IsLevel : ℕ → Option ℕ → Level → Type 0
IsLevel n last l = (l.node.0 ≡ n) × (option_map number_of l.last ≡ last)

abbrev pub NewRound : ℕ → List Round → Option ℕ → List Level → Type 0
NewRound root [] last [] = ⊥
NewRound root [] last (l ∷ []) = IsLevel root last l
NewRound root [] last (l ∷ (m ∷ ls)) = ⊥
NewRound root (r ∷ rs) last [] = ⊥
NewRound root (r ∷ rs) last (l ∷ ls) = IsLevel r.number last l × NewRound root rs (Some r.number) ls

-- a text comes next, and reaches so far
abbrev pub TextReaches : Named → ℕ → Type 0
TextReaches NoNode more = ⊥
TextReaches (NamedRun n count later) more = more ≤ count
TextReaches (NamedBranch n kind inside later) more = ⊥

-- It is at the position x, or in front of the text in which x lies or at whose end; what is left of
-- it ends with no text.
pub record IsStart (f : Named) (root x : ℕ) (start : Start) (stacks : Stacks) (s : Sizing) : Type 0 where
  pub place : Place
  pub whole : f ≡ whole_of place
  pub at : IsAt root start.parent start.next place
  pub offset : start.place ≡ offset_of place
  pub near : (x ≡ start.place) ⊎ ((more : ℕ) × (x ≡ start.place + more) × TextReaches place.row more)
  pub left_whole : NoLettersLast (passed_signs place)
  pub old : OldRound root place.round stacks.old
  pub new : NewRound root place.round (last_or None (heads place.done)) stacks.new
  pub old_open : map begun_of s.old_open ≡ begun_round root place.round
  pub new_open : map begun_of s.new_open ≡ begun_round root place.round
  pub old_at : s.old_at ≡ start.place
  pub new_at : s.new_at ≡ start.place

-- whatever list the nodes are the tree of
abbrev pub StartsRange : List (Option ArenaNode) → NodeId → ℕ → Start → Stacks → Sizing → Type 0
StartsRange slots root x start stacks s = (items : List PlainItem) (tree : IsTree slots root items) → x ≤ length items → IsStart tree.named root.0 x start stacks s

-- The code's position lies between two siblings of the forest.
pub record IsBetween (f : Named) (root : ℕ) (edge : Edge) : Type 0 where
  pub place : Place
  pub whole : f ≡ whole_of place
  pub at : IsAt root edge.node edge.next place
  pub last_is : option_map number_of edge.last ≡ last_or None (heads place.done)
  pub offset : edge.place ≡ offset_of place

-- whatever list the nodes are the tree of
abbrev pub IsBetweenOf : List (Option ArenaNode) → NodeId → Edge → Type 0
IsBetweenOf slots root edge = (items : List PlainItem) (tree : IsTree slots root items) → IsBetween tree.named root.0 edge

-- It is at the position x, or in front of the text in which x lies or at whose end; what is left of
-- it ends with no text.
pub record IsEdge (f : Named) (root x : ℕ) (edge : Edge) : Type 0 where
  pub between : IsBetween f root edge
  pub near : (x ≡ edge.place) ⊎ ((more : ℕ) × (x ≡ edge.place + more) × TextReaches between.place.row more)
  pub left_whole : NoLettersLast (passed_signs between.place)

abbrev pub IsEdgeOf : List (Option ArenaNode) → NodeId → ℕ → Edge → Type 0
IsEdgeOf slots root x edge = (items : List PlainItem) (tree : IsTree slots root items) → IsEdge tree.named root.0 x edge

-- the root and the nodes round a position are open, and no other
pub record AreOpen (root : ℕ) (rs : List Round) (last : Option ℕ) (stacks : Stacks) (s : Sizing) : Type 0 where
  pub old : OldRound root rs stacks.old
  pub new : NewRound root rs last stacks.new
  pub old_open : map begun_of s.old_open ≡ begun_round root rs
  pub new_open : map begun_of s.new_open ≡ begun_round root rs

-- whatever list the nodes are the tree of, and wherever the innermost of them stands in it
abbrev pub OpensRound : List (Option ArenaNode) → NodeId → NodeId → Option NodeId → Stacks → Sizing → Type 0
OpensRound slots root n last stacks s =
    (items : List PlainItem) (tree : IsTree slots root items) (rs : List Round) (x : Named) → tree.named ≡ within rs x → n.0 ≡ parent_in root.0 rs → AreOpen root.0 rs (option_map number_of last) stacks s
