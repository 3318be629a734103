-- How a draft holds its items: over the values that they cite, which are those of the items in
-- order, each once.
use Rattle.std.specs.Prelude.{◌≡◌, ◌≢◌, List, [], ◌∷◌, ◌++◌, Option, Some, None, All, slice_get}
use Rattle.ve_base.specs.declared.marks.Mark.{Mark}
use Rattle.ve_base.specs.declared.value.Value.{Value}
use Rattle.ve_base.specs.declared.value.Value.TheVariants as value
use Rattle.ve_base.specs.declared.value.ValueId.{ValueId}
use Rattle.model_items.specs.declared.item.Item.{Item}
use Rattle.model_items.specs.declared.plain_item.PlainItem.{PlainItem}
use Rattle.model_items.specs.Plain.{plain, plain_list, CitesWell}
use Rattle.model_change.specs.Store.{cited, cited_by, fill}

-- the value that holds the marks, where it is known
abbrev pub Knows : List Value → List Mark → Option ValueId → Type 0
Knows values marks None = Unit {0}
Knows values marks (Some id) = (slice_get values id.0 ≡ Some (value.Marks marks)) × (marks ≢ [])

pub record Holds (values : List Value) (items : List Item) (marks : List Mark) (known : Option ValueId) : Type 0 where
  pub cites : All (CitesWell values) items
  pub filled : values ≡ fill [] (cited (plain_list values items))
  pub knows : Knows values marks known

-- One item more, which cites well: the values take what it cites, each where it is new.
pub record More (old new : List Value) (items all : List Item) (p : PlainItem) : Type 0 where
  pub item : Item
  pub is : all ≡ items ++ item ∷ []
  pub cites : CitesWell new item
  pub plain_is : plain new item ≡ p
  pub filled : new ≡ fill old (cited_by p)
