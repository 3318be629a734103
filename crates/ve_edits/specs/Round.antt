-- The nodes that are open at an offset, one after the other from the innermost out.
use Rattle.std.specs.Prelude.{◌≡◌, ℕ, Some, List, ◌∷◌, take, slice_get, All}
use Rattle.ve_kinds.specs.declared.kind.Kind.{Kind}
use Rattle.ve_base.specs.declared.value.Value.{Value}
use Rattle.model_items.specs.declared.item.Item.{Item}
use Rattle.model_items.specs.Plain.{plain, plain_list, CitesWell}
use Rattle.model_items.specs.Offsets.{opens_at, openings_at}

-- The innermost node that is open at the offset begins at the position; the others are those that
-- are open there.
pub record IsOpeningRound (values : List Value) (items : List Item) (o place : ℕ) : Type 0 where
  pub item : Item
  pub kind : Kind
  pub there : slice_get items place ≡ Some item
  pub opens : opens_at (plain_list values items) o ≡ record { kind = kind; from = place } ∷ opens_at (plain_list values items) place
  pub openings : openings_at (plain_list values items) o ≡ plain values item ∷ openings_at (plain_list values items) place

-- The items are the openings of so many of them, the innermost first, over every list of values.
abbrev pub AreOpeningsRound : List Item → (o levels : ℕ) → List Item → Type 0
AreOpeningsRound items o levels all = (values : List Value) → plain_list values all ≡ take levels (openings_at (plain_list values items) o)

-- They cite only what such a list of values holds.
abbrev pub CiteAsItems : List Item → List Item → Type 0
CiteAsItems items all = (values : List Value) → All (CitesWell values) items → All (CitesWell values) all
