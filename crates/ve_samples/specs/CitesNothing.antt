-- Items without values.
use Rattle.std.specs.Prelude.{◌≡◌, List, All, None}
use Rattle.model_items.specs.declared.item.Item.{Item}
use Rattle.model_items.specs.declared.item.Item.TheVariants.{Char, Opening, Closing}

-- the item cites no value
abbrev pub IsPlain : Item → Type 0
IsPlain (Char ch marks) = marks ≡ None
IsPlain (Opening kind generated head marks pre origin) = (head ≡ None) × ((marks ≡ None) × (pre ≡ None))
IsPlain (Closing kind pre) = pre ≡ None

-- no item cites a value
abbrev pub CitesNothing : List Item → Type 0
CitesNothing items = All IsPlain items
