-- At the start of a changed range, stacks and lengths are those of what is passed.
use Rattle.std.specs.Prelude.{◌≡◌, ℕ, List, [], ◌∷◌, ◌++◌, map}
use Rattle.ve_tree.specs.Links.{AllApart}
use Rattle.ve_tree.specs.Named.{Named, node_numbers}
use Rattle.ve_repair.specs.declared.start.Start.{Start}
use Rattle.ve_repair.specs.Plan.{Stacks}
use Rattle.ve_repair.specs.Sizing.{Sizing}
use Rattle.ve_repair.specs.Tokens.{Token, work_at}
use Rattle.ve_repair.specs.Spelled.{Sign, token_of}
use Rattle.ve_repair.specs.Ready.{nums, onto}
use Rattle.ve_repair.specs.Agree.{Agrees}
use Rattle.ve_repair.specs.Sizes.{signs_of, place_after}
use Rattle.ve_repair.specs.Lengths.{StartsAt}
use Rattle.ve_repair.specs.Changed.{NoLettersLast}
use Rattle.ve_repair.specs.Cursor.{passed_signs, coming_signs}
use Rattle.ve_repair.specs.Start.{IsStart}

-- the forest's signs are those that are passed and those to come
pub record HasBegun (f : Named) (root : ℕ) (lefts rest : List Sign) (place : ℕ) (stacks : Stacks) (s : Sizing) : Type 0 where
  pub signs : signs_of f ≡ lefts ++ rest
  pub offset : place_after lefts 0 ≡ place
  pub left_whole : NoLettersLast lefts
  pub agrees : (right : List Token) → Agrees stacks (work_at root (map token_of lefts) right) (onto (nums (map token_of lefts)) (root ∷ []))
  pub starts : StartsAt root lefts s

abbrev pub StartHasBegun : Type 0
StartHasBegun = (f : Named) (root x : ℕ) (start : Start) (stacks : Stacks) (s : Sizing) (is : IsStart f root x start stacks s) → AllApart (root ∷ node_numbers f) →
    HasBegun f root (passed_signs is.place) (coming_signs is.place) start.place stacks s
