-- An item read over a list of values; what isn't there, or is of another sort, reads as empty.
use Rattle.std.proofs.Common.{◌≡◌, ℕ, false, List, [], ◌∷◌, Some, None, codes, refl}
use Rattle.ve_kinds.specs.declared.kind.Kind.TheVariants.{P}
use Rattle.ve_base.specs.declared.marks.Mark.{Mark}
use Rattle.ve_base.specs.declared.head.Head.{Head}
use Rattle.ve_base.specs.declared.value.Value.{Value}
use Rattle.ve_base.specs.declared.value.Value.TheVariants as value
use Rattle.ve_base.specs.declared.value.ValueId.{ValueId}
use Rattle.model_items.specs.declared.item.Item.TheVariants as item
use Rattle.model_items.specs.declared.plain_item.PlainItem.TheVariants.{Char, Opening, Closing}
use Rattle.ve_base.specs.Empty.{empty_head}
use Rattle.model_items.specs.Plain.{plain}

abbrev bold : List Mark
bold = record { tag = codes "b"; attrs = [] } ∷ []

abbrev identified : Head
identified = record { tag = []; attrs = record { name = codes "id"; value = codes "x" } ∷ []; raw = []; reference = None; owner = false }

abbrev values : List Value
values = value.Marks bold ∷ value.Head identified ∷ value.White (codes " ") ∷ []

abbrev place : ℕ → ValueId
place n = record { 0 = n }

bold_char : plain values (item.Char 97 (Some (place 0))) ≡ Char 97 bold
bold_char = refl

plain_char : plain values (item.Char 97 None) ≡ Char 97 []
plain_char = refl

opening : plain values (item.Opening P false (Some (place 1)) None (Some (place 2)) (Some 4)) ≡ Opening P identified [] (codes " ") (Some 4) false
opening = refl

no_such_place : plain values (item.Closing P (Some (place 3))) ≡ Closing P []
no_such_place = refl

of_another_sort : plain values (item.Opening P false (Some (place 0)) None None None) ≡ Opening P empty_head [] [] None false
of_another_sort = refl
