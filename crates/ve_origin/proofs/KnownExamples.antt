-- Runs that may not be found. `ab` was first read, and is still the list.
use Rattle.std.proofs.Common.{◌≡◌, ◌≤◌, ℕ, ◌+◌, ◌-◌, List, [], ◌∷◌, length, refl, sym, arith, inl, inr, subst}
use Rattle.std.specs.Prelude.{None}
use Rattle.model_items.specs.declared.item.Item.{Item}
use Rattle.model_items.specs.declared.item.Item.TheVariants.{Char}
use Rattle.ve_origin.specs.Known.{IsRunOf, IsCompared}
use Rattle.ve_origin.specs.Origins.{FirstRead}
use Rattle.ve_origin.specs.declared.known.Known.{Known}
use Rattle.ve_origin.specs.declared.known.Run.{Run}
use Rattle.ve_origin.specs.declared.origin.OriginRow.{OriginRow}

abbrev letters : List Item
letters = Char 97 None ∷ Char 98 None ∷ []

-- so many items from the beginning of each list on
abbrev from_the_beginning : ℕ → Run
from_the_beginning count = record { now = 0; first = 0; count = count }

abbrev found : ℕ → Known
found count = record { alike = from_the_beginning count; at_end = from_the_beginning 0 }

-- the origin 0 has both letters
abbrev both : OriginRow
both = record { span = record { from = 0; to = 2 }; from = 0; to = 2 }

abbrev page : FirstRead
page = record { page = 97 ∷ 98 ∷ []; body = record { from = 0; to = 2 }; rows = both ∷ []; items = letters; refs = [] }

-- a run doesn't stop early
no_shorter_run : IsRunOf letters 0 letters 0 2 (from_the_beginning 1) → ⊥
no_shorter_run (inl p) = p.1.differ (omega arith) refl
no_shorter_run (inr p) = p.0 refl

no_empty_run : IsRunOf letters 0 letters 0 2 (from_the_beginning 0) → ⊥
no_empty_run (inl p) = absurd (omega (arith, p.0))
no_empty_run (inr p) = p.0 refl

-- what is known isn't what was known, where nothing was
something_is_compared : IsCompared page 0 letters 0 (found 0) (found 0) → ⊥
something_is_compared compared =
    let same : both ≡ compared.row = (let some = compared.is in cc) in
    no_empty_run (subst (λ (row : OriginRow). IsRunOf letters 0 letters row.from (row.to - row.from) (from_the_beginning 0)) (sym same)
    (compared.fits (subst (λ (row : OriginRow). 0 + (row.to - row.from) ≤ length letters) same (omega arith))))
