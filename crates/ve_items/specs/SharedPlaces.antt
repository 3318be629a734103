-- Where the items of a block stand.
use Rattle.std.specs.Prelude.{List, Option, None, Some}
use Rattle.std.specs.Arc.{arc_value}
use Rattle.std.specs.declared.sync.Arc.{Arc}
use Rattle.model_items.specs.declared.item.Item.{Item}

-- in shared places, where it has such, and else in its own
abbrev pub items_of : {Z : Type 0} → Option (Arc (List Item) Z) → List Item → List Item
items_of None own = own
items_of (Some shared) own = arc_value shared
