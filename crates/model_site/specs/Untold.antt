-- What a site has not told yet of how its list changed. Whoever keeps a copy of the list is told
-- patches, and fetches the items that they put in.
use Rattle.std.specs.Prelude.{ℕ, suc, ◌+◌, nat_lt, if◌then◌else◌, List, [], ◌∷◌, ◌++◌, length, take}
use Rattle.model_change.specs.Transaction.{Transaction, Retain, Replace, Attribute}
use Rattle.model_site.specs.declared.patch.Patch.{Patch}

-- how many patches are told one by one
abbrev pub max_patches : ℕ
max_patches = 1000

-- One for each replace and for each attribute operation. A position counts the items of the new list
-- that stand before the operation.
abbrev pub patches_from : (at : ℕ) → Transaction → List Patch
patches_from at [] = []
patches_from at (Retain count ∷ ops) = patches_from (at + count) ops
patches_from at (Replace removed inserted ∷ ops) =
    record { at = at; removed = length removed; inserted = length inserted } ∷ patches_from (at + length inserted) ops
patches_from at (Attribute change ∷ ops) = record { at = at; removed = 1; inserted = 1 } ∷ patches_from at ops

-- those of transactions, one after the other
abbrev pub patches_of : List Transaction → List Patch
patches_of [] = []
patches_of (t ∷ ts) = patches_from 0 t ++ patches_of ts

pub record Untold : Type 0 where
  -- how long the list was when the site last told; 0 where it has not told since the page was opened
  pub was : ℕ
  -- what changed since then; one patch over the most is as good as many
  pub patches : List Patch

-- a list of so many items has come
abbrev pub all_untold : (count : ℕ) → Untold
all_untold count = record { was = 0; patches = record { at = 0; removed = 0; inserted = count } ∷ [] }

-- nothing has changed since the list, of so many items, was told
abbrev pub none_untold : (count : ℕ) → Untold
none_untold count = record { was = count; patches = [] }

abbrev pub with_patches : List Patch → Untold → Untold
with_patches more u = record { was = u.was; patches = take (suc max_patches) (u.patches ++ more) }

-- with those of transactions that the list went through
abbrev pub passed : List Transaction → Untold → Untold
passed ts u = with_patches (patches_of ts) u

-- what is told of a list that has so many items by now; where the patches are too many, one stands
-- for all
abbrev pub told : (count : ℕ) → Untold → List Patch
told count u =
    if nat_lt max_patches (length u.patches)
    then record { at = 0; removed = u.was; inserted = count } ∷ []
    else u.patches
