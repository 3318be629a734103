-- Names that were noted.
use Rattle.std.specs.Prelude.{◌≡◌, ◌↔◌, ℕ, List, map, Contains}
use Rattle.std.specs.Borrow.{Bor}
use Rattle.std.specs.Str.{chars, encode_utf8_all}

-- the bytes of a name are those of its characters
abbrev pub IsEncoded : Bor (List ℕ) → Type 0
IsEncoded name = name.now ≡ encode_utf8_all (chars name.now)

-- the characters of each name
abbrev pub texts_of : List (Bor (List ℕ)) → List (List ℕ)
texts_of names = map (λ (name : Bor (List ℕ)). chars name.now) names

-- the same names are in both lists
abbrev pub HaveSameNames : List (List ℕ) → List (List ℕ) → Type 0
HaveSameNames noted names = (name : List ℕ) → Contains noted name ↔ Contains names name
