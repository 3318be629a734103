-- Nodes that are open round a position of a forest, and siblings on either side of it.
use Rattle.std.specs.Prelude.{◌+◌, ℕ, suc, Bool, true, false, List, [], ◌∷◌}
use Rattle.ve_kinds.specs.declared.kind.Kind.{Kind}
use Rattle.model_items.specs.Tree.{item_count}
use Rattle.ve_tree.specs.Named.{Named, NoNode, NamedRun, NamedBranch, unnumbered}

-- siblings, and others after them
abbrev pub beside : Named → Named → Named
beside NoNode more = more
beside (NamedRun n count later) more = NamedRun n count (beside later more)
beside (NamedBranch n kind inside later) more = NamedBranch n kind inside (beside later more)

-- a node that is open round a position, with its siblings on either side
pub record Round : Type 0 where
  pub number : ℕ
  pub kind : Kind
  pub before : Named
  pub after : Named

-- the forest in which siblings stand inside these nodes, the innermost first
abbrev pub within : List Round → Named → Named
within [] row = row
within (r ∷ rs) row = within rs (beside r.before (NamedBranch r.number r.kind row r.after))

-- the node that they stand in: the innermost, or the root
abbrev pub parent_in : ℕ → List Round → ℕ
parent_in root [] = root
parent_in root (r ∷ rs) = r.number

-- the position of the list where the first of them begins
abbrev pub start_in : List Round → ℕ
start_in [] = 0
start_in (r ∷ rs) = suc (start_in rs + item_count (unnumbered r.before))

abbrev pub ends_with_run : Named → Bool
ends_with_run NoNode = false
ends_with_run (NamedRun n count NoNode) = true
ends_with_run (NamedRun n count later) = ends_with_run later
ends_with_run (NamedBranch n kind inside later) = ends_with_run later
