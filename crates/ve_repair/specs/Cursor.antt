-- A position between two siblings of a forest: what is left of it and right of it, and how the code
-- knows it.
use Rattle.std.specs.Prelude.{◌≡◌, ℕ, ◌+◌, None, Option, List, [], ◌∷◌, ◌++◌, option_map}
use Rattle.model_items.specs.Tree.{item_count}
use Rattle.ve_arena.specs.declared.node.NodeId.{NodeId}
use Rattle.ve_tree.specs.Links.{number_of, first_or}
use Rattle.ve_tree.specs.Named.{Named, unnumbered, heads}
use Rattle.ve_tree.specs.Rows.{beside, Round, within, parent_in, start_in}
use Rattle.ve_repair.specs.Spelled.{Sign, BeginOf, EndOf}
use Rattle.ve_repair.specs.Sizes.{Begun, signs_of}

-- the signs round a row, left of it and right of it
abbrev pub left_signs : List Round → List Sign
left_signs [] = []
left_signs (r ∷ rs) = left_signs rs ++ (signs_of r.before ++ BeginOf r.number r.kind ∷ [])

abbrev pub right_signs : List Round → List Sign
right_signs [] = []
right_signs (r ∷ rs) = EndOf r.kind ∷ (signs_of r.after ++ right_signs rs)

-- The position in the forest: the nodes round it, the siblings that are passed, and those to come.
pub record Place : Type 0 where
  pub round : List Round
  pub done : Named
  pub row : Named

abbrev pub whole_of : Place → Named
whole_of p = within p.round (beside p.done p.row)

abbrev pub passed_signs : Place → List Sign
passed_signs p = left_signs p.round ++ signs_of p.done

abbrev pub coming_signs : Place → List Sign
coming_signs p = signs_of p.row ++ right_signs p.round

-- how many items are passed
abbrev pub offset_of : Place → ℕ
offset_of p = start_in p.round + item_count (unnumbered p.done)

-- the code knows the node round the position, and the sibling that comes next
pub record IsAt (root : ℕ) (parent : NodeId) (next : Option NodeId) (p : Place) : Type 0 where
  pub parent_is : parent.0 ≡ parent_in root p.round
  pub next_is : option_map number_of next ≡ first_or (heads p.row) None

-- the open nodes from the innermost outwards, and where they begin
abbrev pub begun_round : ℕ → List Round → List Begun
begun_round root [] = record { node = root; from = 0 } ∷ []
begun_round root (r ∷ rs) = record { node = r.number; from = start_in rs + item_count (unnumbered r.before) } ∷ begun_round root rs
