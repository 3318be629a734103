-- The inverse of a transaction: the one that undoes it.
use Rattle.std.specs.Prelude.{◌≡◌, true, List, [], ◌∷◌, ◌++◌, length, drop}
use Rattle.model_items.specs.declared.plain_item.PlainItem.{PlainItem}
use Rattle.model_change.specs.Attributes.{AttrChange, item_changed, change_filled, change_back, PutsBack, AllNamesApart}
use Rattle.model_change.specs.Transaction.{Retain, Replace, Attribute, Transaction, on_first, edited, is_reduced, is_normal}
use Rattle.model_change.specs.Fault.{Applies}

abbrev pub attribute_ops : List AttrChange → Transaction
attribute_ops [] = []
attribute_ops (change ∷ changes) = Attribute change ∷ attribute_ops changes

-- The inverse of the operations, after the changes that undo the attribute operations just before
-- them: those of one position come in reverse order.
abbrev pub inverse_after : List AttrChange → Transaction → Transaction
inverse_after changes [] = attribute_ops changes
inverse_after changes (Retain count ∷ ops) = attribute_ops changes ++ Retain count ∷ inverse_after [] ops
inverse_after changes (Replace removed inserted ∷ ops) = attribute_ops changes ++ Replace inserted removed ∷ inverse_after [] ops
inverse_after changes (Attribute change ∷ ops) = inverse_after (change_back change ∷ changes) ops

-- removed and inserted change places, and so do the old and the new value of each attribute;
-- positions are kept
abbrev pub inverse : Transaction → Transaction
inverse = inverse_after []

abbrev pub first_filled : AttrChange → List PlainItem → AttrChange
first_filled change [] = change
first_filled change (item ∷ items) = change_filled change item

-- With the position of each attribute that it removes: the one just before that operation, the
-- earlier operations at its position being done.
abbrev pub filled : Transaction → List PlainItem → Transaction
filled [] items = []
filled (Retain count ∷ ops) items = Retain count ∷ filled ops (drop count items)
filled (Replace removed inserted ∷ ops) items = Replace removed inserted ∷ filled ops (drop (length removed) items)
filled (Attribute change ∷ ops) items = Attribute (first_filled change items) ∷ filled ops (on_first (item_changed change) items)

abbrev pub FirstPutsBack : AttrChange → List PlainItem → Type 0
FirstPutsBack change [] = Unit {0}
FirstPutsBack change (item ∷ items) = PutsBack change item

-- each attribute that it removes would be put back where it was
abbrev pub IsRestorable : Transaction → List PlainItem → Type 0
IsRestorable [] items = Unit {0}
IsRestorable (Retain count ∷ ops) items = IsRestorable ops (drop count items)
IsRestorable (Replace removed inserted ∷ ops) items = IsRestorable ops (drop (length removed) items)
IsRestorable (Attribute change ∷ ops) items = FirstPutsBack change items × IsRestorable ops (on_first (item_changed change) items)

-- the inverse gives the old list back, and can itself be undone
pub record IsUndoneBy (t back : Transaction) (items : List PlainItem) : Type 0 where
  pub applies : Applies back (edited t items)
  pub undone : edited back (edited t items) ≡ items
  pub restorable : IsRestorable back (edited t items)

-- Where names are apart, the inverse of a transaction that applies and can put back what it removes
-- gives the old list back.
abbrev pub InverseUndoes : Type 0
InverseUndoes = (t : Transaction) (items : List PlainItem) → is_reduced t ≡ true → AllNamesApart items → Applies t items →
    IsRestorable t items → IsUndoneBy t (inverse t) items

abbrev pub InverseIsReduced : Type 0
InverseIsReduced = (t : Transaction) → is_reduced t ≡ true → is_reduced (inverse t) ≡ true

-- The inverse keeps the normal form, bound and all.
abbrev pub InverseIsNormal : Type 0
InverseIsNormal = (t : Transaction) → is_normal t ≡ true → is_normal (inverse t) ≡ true

-- A transaction with its positions filled in does the same, and can put back what it removes.
pub record FillingKeeps (t : Transaction) (items : List PlainItem) : Type 0 where
  pub applies : Applies (filled t items) items
  pub same : edited (filled t items) items ≡ edited t items
  pub restorable : IsRestorable (filled t items) items
  pub reduced : is_reduced (filled t items) ≡ is_reduced t
  pub normal : is_normal (filled t items) ≡ is_normal t

abbrev pub FillingIsNeutral : Type 0
FillingIsNeutral = (t : Transaction) (items : List PlainItem) → Applies t items → FillingKeeps t items
