-- The lists and changes of which the laws speak.
use Rattle.std.specs.Prelude.{◌≡◌, true, List, [], ◌∷◌, Contains}
use Rattle.ve_base.specs.declared.value.Value.{Value}
use Rattle.model_items.specs.declared.plain_item.PlainItem.{PlainItem}
use Rattle.model_items.specs.Law.{Lawful}
use Rattle.model_change.specs.Attributes.{AllNamesApart}
use Rattle.model_change.specs.Transaction.{Transaction, edited, is_reduced, InsertedApart}
use Rattle.model_change.specs.Fault.{Applies}
use Rattle.model_change.specs.Store.{cited}
use Rattle.model_site.specs.Replica.{Replica}

-- lawful, and no opening has two attributes of one name
pub record Sound (items : List PlainItem) : Type 0 where
  pub lawful : Lawful items
  pub apart : AllNamesApart items

-- each of the values is in the store
abbrev pub AllIn : (store vs : List Value) → Type 0
AllIn store vs = (v : Value) → Contains vs v → Contains store v

-- a page as it is opened: a sound list, and a store that has what it cites
pub record Opens (base : Replica) : Type 0 where
  pub sound : Sound base.items
  pub stored : AllIn base.store (cited base.items)

-- a change that may be performed: reduced, it applies, leaves a lawful list, and inserts no opening
-- with two attributes of one name
pub record MayRun (t : Transaction) (items : List PlainItem) : Type 0 where
  pub reduced : is_reduced t ≡ true
  pub applies : Applies t items
  pub lawful : Lawful (edited t items)
  pub apart : InsertedApart t

-- each after those before it
abbrev pub AllMayRun : List Transaction → List PlainItem → Type 0
AllMayRun [] items = Unit {0}
AllMayRun (t ∷ ts) items = MayRun t items × AllMayRun ts (edited t items)
