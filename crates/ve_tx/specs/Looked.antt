-- Where attributes stand, by name.
use Rattle.std.specs.Prelude.{◌≡◌, ℕ, suc, if◌then◌else◌, List, [], ◌∷◌, Option, Some, None}
use Rattle.std.specs.Borrow.{Bor}
use Rattle.std.specs.BTreeMap.{BTreeMap, get}
use Rattle.std.specs.Cmp.Lexicographic.{slice_cmp}
use Rattle.std.specs.Ordering.{nat_cmp}
use Rattle.std.specs.Str.{chars}
use Rattle.ve_base.specs.declared.attrs.Attr.{Attr}
use Rattle.model_items.specs.Same.{text_same}
use Rattle.ve_tx.specs.Noted.{IsEncoded}

-- the position of the first attribute of this name; `at` is that of the list's first one
abbrev pub place_from : ℕ → List ℕ → List Attr → Option ℕ
place_from at name [] = None
place_from at name (a ∷ attrs) = if text_same a.name name then Some at else place_from (suc at) name attrs

-- the map has each name of the attributes, with its first position, and no other
abbrev pub HasPlaces : ℕ → List Attr → BTreeMap (Bor (List ℕ)) ℕ → Type 0
HasPlaces at attrs positions =
    (name : Bor (List ℕ)) → IsEncoded name →
    get (λ x y. slice_cmp nat_cmp x.now y.now) positions name ≡ place_from at (chars name.now) attrs
