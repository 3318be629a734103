-- What a site tells of how its list changed.
use Rattle.std.proofs.Common.{◌≡◌, ℕ, List, [], ◌∷◌, ◌++◌, Some, None, codes, replicate, refl}
use Rattle.model_change.specs.Inverse.{inverse}
use Rattle.model_change.specs.Transaction.{Attribute, Replace, Retain, Transaction}
use Rattle.model_site.specs.Site.{Site, starting, told, undo, with_entry, with_told}
use Rattle.model_site.specs.Untold.{all_untold, none_untold, passed, patches_from, with_patches}
use Rattle.model_site.specs.Untold as untold
use Rattle.model_site.specs.declared.patch.Patch.{Patch}
use Rattle.model_site.proofs.ExampleItems.{chars_, opened, inserts, removes}
use Rattle.model_site.proofs.SiteExamples.{undone}

abbrev patch : (at removed inserted : ℕ) → Patch
patch at removed inserted = record { at = at; removed = removed; inserted = inserted }

-- a position counts the new list's items: two more have come before the second change
abbrev two_changes : Transaction
two_changes = Retain 1 ∷ Replace [] (chars_ (codes "xy")) ∷ Retain 1 ∷ Replace (chars_ (codes "b")) [] ∷ Retain 3 ∷ []

in_the_new_list : patches_from 0 two_changes ≡ patch 1 0 2 ∷ patch 4 1 0 ∷ []
in_the_new_list = refl

-- each attribute operation is one, also where it changes nothing
abbrev named : Transaction
named = Attribute (record { name = codes "id"; from = None; to = None; kept = None }) ∷ Attribute (record { name = codes "lang"; from = None; to = Some (codes "en"); kept = None }) ∷ Retain 5 ∷ []

attributes_are_told : patches_from 0 named ≡ patch 0 1 1 ∷ patch 0 1 1 ∷ []
attributes_are_told = refl

-- the list as it is opened, an edit, and what takes it back
abbrev page : Site
page = starting (opened [])

opened_is_told : told page ≡ patch 0 0 4 ∷ []
opened_is_told = refl

abbrev typed : Site
typed = with_entry (inserts 1 (chars_ (codes "ab")) 4 ∷ []) (with_told page)

told_once : told (with_told page) ≡ []
told_once = refl

edit_is_told : told typed ≡ patch 1 0 2 ∷ []
edit_is_told = refl

reversal_is_told : told (undone typed) ≡ patch 1 0 2 ∷ patch 1 2 0 ∷ []
reversal_is_told = refl

-- a thousand are told one by one, and one more is told with all of them as one
abbrev so_many : ℕ → List Patch
so_many count = untold.told 7 (with_patches (replicate count (patch 1 0 1)) (none_untold 4))

thousand : so_many 1000 ≡ replicate 1000 (patch 1 0 1)
thousand = refl

too_many : so_many 1001 ≡ patch 0 4 7 ∷ []
too_many = refl
