-- The names of attributes.
use Rattle.std.specs.Prelude.{ℕ, List, [], ◌∷◌, map, Contains}
use Rattle.ve_base.specs.declared.attrs.Attr.{Attr}

-- in order
abbrev pub names : List Attr → List (List ℕ)
names attrs = map (λ attr. attr.name) attrs

-- no two attributes have one name
abbrev pub NamesApart : List Attr → Type 0
NamesApart [] = Unit {0}
NamesApart (attr ∷ attrs) = (¬ Contains (names attrs) attr.name) × NamesApart attrs
