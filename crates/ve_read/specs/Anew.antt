-- Items that cite values of one list, as they cite another one in which these values stand. These
-- serve private functions.
use Rattle.std.specs.Prelude.{◌≡◌, List, map, slice_get, Option, Some, None}
use Rattle.ve_base.specs.declared.value.Value.{Value}
use Rattle.ve_base.specs.declared.value.ValueId.{ValueId}
use Rattle.model_items.specs.declared.item.Item.{Item}
use Rattle.model_items.specs.declared.item.Item.TheVariants.{Char, Opening, Closing}

-- one after the other, the values stand in the other list where these citations say
abbrev pub StandThere : (values others : List Value) → List ValueId → Type 0
StandThere values others ids = map Some values ≡ map (λ id. slice_get others id.0) ids

-- the new number of a value: the one at its position
abbrev pub id_anew : List ValueId → Option ValueId → Option ValueId
id_anew ids None = None
id_anew ids (Some id) = slice_get ids id.0

abbrev pub item_anew : List ValueId → Item → Item
item_anew ids (Char ch marks) = Char ch (id_anew ids marks)
item_anew ids (Opening kind generated head marks pre origin) = Opening kind generated (id_anew ids head) (id_anew ids marks) (id_anew ids pre) origin
item_anew ids (Closing kind pre) = Closing kind (id_anew ids pre)
