-- Each item of a list cites values of the right sorts, where all do.
use Rattle.std.proofs.Common.{List, subst}
use Rattle.std.specs.Prelude.{All}
use Rattle.std.proofs.lemmas.Option.{get_or_from_slice_get, slice_get_within}
use Rattle.ve_base.specs.declared.value.Value.{Value}
use Rattle.model_items.specs.declared.item.Item.{Item}
use Rattle.model_items.specs.Plain.{CitesWell}
use Rattle.ve_write.specs.Siblings.{AllCite}

pub cites_each : (values : List Value) (items : List Item) → All (CitesWell values) items → AllCite values items
cites_each values items cite at item got =
    subst (CitesWell values) (get_or_from_slice_get items at item item got) (cite at item (slice_get_within items at item got))
