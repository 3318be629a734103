-- Where a transaction's changes begin in a tree, and what its operations do with each item from
-- there on.
use Rattle.std.specs.Prelude.{◌≡◌, ℕ, Option, List, [], ◌∷◌, ◌++◌, length, map, replicate}
use Rattle.model_items.specs.declared.item.Item.{Item}
use Rattle.ve_arena.specs.declared.node.NodeId.{NodeId}
use Rattle.ve_arena.specs.declared.node.ArenaNode.{ArenaNode}
use Rattle.ve_tree.specs.Named.{Named}
use Rattle.ve_tree.specs.IsTree.{IsTree, unvalued}
use Rattle.ve_tree.specs.Rows.{Round}
use Rattle.ve_tx.specs.declared.op.Op.{Op}
use Rattle.ve_tx.specs.Operation.{Operation, bare, IsNormal}
use Rattle.ve_repair.specs.declared.range.ChangedRange.{ChangedRange}
use Rattle.ve_repair.specs.declared.start.Start.{Start}
use Rattle.ve_repair.specs.Agree.{steps_of}
use Rattle.ve_repair.specs.Acts.{Act, Stay, Use, acts_of}
use Rattle.ve_repair.specs.Change.{CanApply, LawfulAfter}
use Rattle.ve_repair.specs.Changed.{NoLettersLast}
use Rattle.ve_repair.specs.Charged.{open_behind}
use Rattle.ve_repair.specs.Courses.{Course, all_openings, supply_of, AreBegun, AreTexts}
use Rattle.ve_repair.specs.Cursor.{Place, passed_signs, coming_signs}
use Rattle.ve_repair.specs.Cursors.{spot_of, items_in, IsAt}
use Rattle.ve_repair.specs.Moved.{all_acts}
use Rattle.ve_repair.specs.Plan.{Stacks}
use Rattle.ve_repair.specs.Range.{IsChangedRange}
use Rattle.ve_repair.specs.Reader.{Reading}
use Rattle.ve_repair.specs.Sizes.{signs_of}
use Rattle.ve_repair.specs.Sizing.{Sizing}
use Rattle.ve_repair.specs.Spelled.{Sign, NoLetters, token_of}
use Rattle.ve_repair.specs.Start.{IsStart}
use Rattle.ve_repair.specs.Whole.{script_of}

-- The nodes are the tree of a list, a transaction applies to it and leads to a lawful list, and
-- what it changes begins here.
pub record Scene (old : List (Option ArenaNode)) (root : NodeId) (items : List Item) (tx : List Operation) (r : ChangedRange) (start : Start) (s : Stacks) (z : Sizing) : Type 0 where
  pub tree : IsTree old root (unvalued items)
  pub applies : CanApply tx items
  pub lawful : LawfulAfter tx items
  pub normal : IsNormal tx
  pub range : IsChangedRange (map bare tx) r
  pub starts : IsStart tree.named root.0 r.from start s z

-- the nodes round a position, the innermost first, and the root
abbrev pub open_round : ℕ → List Round → List ℕ
open_round root [] = root ∷ []
open_round root (r ∷ rs) = r.number ∷ open_round root rs

-- a reader at a position of a tree that has read nothing
abbrev pub first_course : ℕ → Place → Course
first_course root p = record {
  start = spot_of (open_round root p.round) (coming_signs p);
  acts = [];
  spot = spot_of (open_round root p.round) (coming_signs p);
  bound = items_in (coming_signs p);
}

-- Operations from the first replace to the last, with items that stay in front and behind.
abbrev pub piece_acts : ℕ → List Op → List ℕ → ℕ → List Act
piece_acts front ops ns tail = replicate front Stay ++ (acts_of ops ns ++ replicate tail Stay)

-- They are of a piece of the tree's signs, and all others stay.
pub record IsPiece (f : Named) (all changed : List Op) (lefts ss rights : List Sign) (acts : List Act) : Type 0 where
  pub front : ℕ
  pub tail : ℕ
  pub numbers : List ℕ
  pub acts_are : acts ≡ piece_acts front changed numbers tail
  pub counted : length numbers ≡ all_openings changed
  pub signs : signs_of f ≡ lefts ++ (ss ++ rights)
  pub left_whole : NoLettersLast lefts
  pub right_whole : NoLetters rights
  pub uses : Use acts ss
  pub all_are : acts_of all numbers ≡ all_acts lefts acts rights

-- A reader has the script of the piece, and stands behind it.
pub record IsReadPiece (f : Named) (root : ℕ) (all changed : List Op) (place : Place) (mid : List (Option ArenaNode)) (r : Reading) : Type 0 where
  pub acts : List Act
  pub ss : List Sign
  pub rights : List Sign
  pub piece : IsPiece f all changed (passed_signs place) ss rights acts
  pub script : steps_of r.script ≡ script_of (supply_of (steps_of r.script)) acts ss
  pub begun : AreBegun mid acts
  pub texts : AreTexts mid (steps_of r.script)
  pub at : IsAt mid r.at (spot_of (open_behind (map token_of ss) (open_round root place.round)) rights)
