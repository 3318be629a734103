-- Links that are written: a node taken from its parent's children, and put among another's.
use Rattle.std.specs.Prelude.{◌≡◌, ℕ, Option, Some, None, List}
use Rattle.std.specs.Map.{update}
use Rattle.std.proofs.Math.Dec.{eqb}
use Rattle.ve_tree.specs.Links.{Links, first_or, last_or, AreSiblings}

abbrev pub link_set : (ℕ → Option ℕ) → ℕ → Option ℕ → ℕ → Option ℕ
link_set f n to = update eqb f n to

-- the children of p left of a gap, with what follows them
pub record LeftPart (a : Links) (p : ℕ) (ns : List ℕ) (end : Option ℕ) : Type 0 where
  pub first : a.first p ≡ first_or ns end
  pub row : AreSiblings a.parent a.before a.after p None ns end

-- the children of p right of a gap, with what stands before them
pub record RightPart (a : Links) (p : ℕ) (start : Option ℕ) (ns : List ℕ) : Type 0 where
  pub last : a.last p ≡ last_or start ns
  pub row : AreSiblings a.parent a.before a.after p start ns None

-- the child of p after `left`
abbrev pub set_right : ℕ → Option ℕ → Option ℕ → Links → Links
set_right p None to a = record a { first = link_set a.first p to }
set_right p (Some left) to a = record a { after = link_set a.after left to }

-- the child of p before `right`
abbrev pub set_left : ℕ → Option ℕ → Option ℕ → Links → Links
set_left p None to a = record a { last = link_set a.last p to }
set_left p (Some right) to a = record a { before = link_set a.before right to }

abbrev pub right_of : Links → ℕ → Option ℕ → Option ℕ
right_of a p None = a.first p
right_of a p (Some left) = a.after left

-- n leaves the children of p: two writes
abbrev pub unlinked : ℕ → ℕ → Links → Links
unlinked p n a = set_left p (a.after n) (a.before n) (set_right p (a.before n) (a.after n) a)

abbrev pub with_own : ℕ → ℕ → Option ℕ → Option ℕ → Links → Links
with_own p n left right a =
    record a { parent = link_set a.parent n (Some p); before = link_set a.before n left; after = link_set a.after n right }

-- n, nobody's child, becomes a child of p right of `left`: five writes
abbrev pub linked : ℕ → ℕ → Option ℕ → Links → Links
linked p n left a =
    set_left p (right_of a p left) (Some n) (set_right p left (Some n) (with_own p n left (right_of a p left) a))
