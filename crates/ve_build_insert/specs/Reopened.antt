-- Closings and copies of open nodes, as they are made.
use Rattle.std.specs.Prelude.{◌≡◌, ◌≤◌, ℕ, List, [], ◌∷◌, All, length, map, reverse, drop, take}
use Rattle.ve_base.specs.declared.value.Value.{Value}
use Rattle.model_items.specs.declared.item.Item.{Item}
use Rattle.model_items.specs.Offsets.{openings_at}
use Rattle.model_items.specs.Plain.{plain_list, CitesWell}
use Rattle.model_edit.specs.Brackets.{closing_for, copy_of}
use Rattle.model_edit.specs.Edits.{Change, transaction_of}
use Rattle.model_edit.specs.Insert.{reopened}
use Rattle.ve_offsets.specs.declared.doc.Doc.{Doc}
use Rattle.ve_offsets.specs.Docs.{page_items}
use Rattle.ve_store.specs.Following.{Following, Grows, together}
use Rattle.ve_tx.specs.Operation.{Operation, by_value}
use Rattle.ve_edits.specs.Filled.{IsFilledFor}

-- the closings of what these items open, over every list of values
abbrev pub AreClosings : List Item → List Item → Type 0
AreClosings openings closings = (values : List Value) → plain_list values closings ≡ map closing_for (plain_list values openings)

-- Copies of the openings from a number on, the last one first; the values that they cite have come
-- after the first ones.
pub record AreCopies (store : List Value) (openings : List Item) (left : ℕ) (start new : Following) (copies : List Item) : Type 0 where
  pub within : left ≤ length openings
  pub grown : Grows start new
  pub means : plain_list (together store new) copies ≡ reverse (map copy_of (drop left (plain_list (together store start) openings)))
  pub cites : All (CitesWell (together store new)) copies
  pub filled : IsFilledFor store start new (plain_list (together store new) copies)

-- The openings are closed, and after the pieces opened again; the values that this cites have come
-- after the first ones.
pub record IsReopened (store : List Value) (openings pieces : List Item) (start new : Following) (made : List Item) : Type 0 where
  pub means : plain_list (together store new) made ≡ reopened (plain_list (together store start) openings) (plain_list (together store start) pieces)
  pub cites : All (CitesWell (together store new)) made
  pub filled : IsFilledFor store start new (plain_list (together store new) made)

-- The transaction puts the pieces at the offset of a page, so many open nodes being closed before
-- them and opened again after them. The pieces are read with the first values that follow the
-- store, and the transaction with the new ones.
abbrev pub PutsInto : Doc → (at levels : ℕ) → List Item → (old new : Following) → List Operation → Type 0
PutsInto doc at levels pieces old new tx =
    let items = page_items doc in
    by_value (together doc.store.now new) tx
    ≡ transaction_of items (Change at 0 (reopened (take levels (openings_at items at)) (plain_list (together doc.store.now old) pieces)) ∷ [])
