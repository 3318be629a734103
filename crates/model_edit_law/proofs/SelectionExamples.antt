-- Selections after transactions on worked lists.
use Rattle.std.proofs.Common.{◌≡◌, true, false, [], ◌∷◌, Some, None, refl}
use Rattle.std.specs.Prelude.{codes}
use Rattle.model_change.specs.Transaction.{Retain, Replace, Transaction}
use Rattle.model_change.specs.Touch.{new_place}
use Rattle.model_edit.specs.Translate.{translate_range, between}
use Rattle.model_items.proofs.ExampleItems.{text}
use Rattle.model_edit_law.specs.SelectLaws.{selects}

-- the three items 2, 3 and 4, from either end
three : (selects (between 2 5) 1 ≡ false) × (selects (between 2 5) 2 ≡ true) × (selects (between 5 2) 4 ≡ true) × (selects (between 5 2) 5 ≡ false)
three = (refl, refl, refl, refl)

-- a caret selects nothing
nothing : selects (between 3 3) 3 ≡ false
nothing = refl

-- `XY` before item 2, and `Z` for item 4
abbrev changed : Transaction
changed = Retain 2 ∷ Replace [] (text (codes "XY")) ∷ Retain 2 ∷ Replace (text (codes "c")) (text (codes "Z")) ∷ Retain 3 ∷ []

-- items 2 and 3 stay selected at 4 and 5, `XY` is not, and `Z` is
moved_on : (new_place changed 2 ≡ Some 4) × (new_place changed 3 ≡ Some 5) × (new_place changed 4 ≡ None) × (translate_range changed (between 2 5) ≡ between 4 7)
moved_on = (refl, refl, refl, refl)
