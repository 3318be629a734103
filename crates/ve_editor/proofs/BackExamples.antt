-- Worked examples on four letters: a list goes back over two splices of it.
use Rattle.std.proofs.Common.{◌≡◌, List, [], ◌∷◌, None, refl}
use Rattle.model_items.specs.declared.item.Item.{Item}
use Rattle.model_items.specs.declared.item.Item.TheVariants as item
use Rattle.ve_tx.specs.Spliced.{come_count, spliced_by}
use Rattle.ve_tx.specs.declared.splice.Splice.{Splice}
use Rattle.ve_editor.specs.Back.{backward}

abbrev a : Item
a = item.Char 97 None

abbrev b : Item
b = item.Char 98 None

abbrev c : Item
c = item.Char 99 None

abbrev d : Item
d = item.Char 100 None

abbrev x : Item
x = item.Char 120 None

abbrev before : List Item
before = a ∷ b ∷ c ∷ d ∷ []

-- two letters in the place of the second one, and then the last one goes
abbrev splices : List Splice
splices = record { at = 1; removed = 1; items = x ∷ x ∷ [] } ∷ record { at = 3; removed = 1; items = [] } ∷ []

made : spliced_by before splices ≡ a ∷ x ∷ x ∷ c ∷ []
made = refl

-- what undoes the first of them stands last, for it is made first
undone : backward before splices ≡ record { at = 3; removed = 0; items = d ∷ [] } ∷ record { at = 1; removed = 2; items = b ∷ [] } ∷ []
undone = refl

goes_back : spliced_by (spliced_by before splices) (backward before splices) ≡ before
goes_back = refl

owes_what_went : come_count (backward before splices) ≡ 2
owes_what_went = refl
