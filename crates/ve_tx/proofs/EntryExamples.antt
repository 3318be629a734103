-- Entries as one, and the values that come with a parcel.
use Rattle.std.proofs.Common.{◌≡◌, List, [], ◌∷◌, Some, None, codes, refl}
use Rattle.ve_base.specs.declared.marks.Mark.{Mark}
use Rattle.ve_base.specs.declared.value.Value.TheVariants as value
use Rattle.ve_kinds.specs.declared.kind.Kind.TheVariants.{P}
use Rattle.model_items.specs.declared.item.Item.TheVariants as item
use Rattle.model_items.specs.declared.plain_item.PlainItem.TheVariants.{Char, Closing}
use Rattle.model_change.specs.Store.{fill}
use Rattle.model_change.specs.Transaction.{Transaction}
use Rattle.model_change.specs.Transaction as model
use Rattle.ve_tx.specs.declared.entry.Entry.{Entry}
use Rattle.ve_tx.specs.Entry.{entry_with}
use Rattle.ve_tx.specs.Operation.{Operation, Retain, Replace}
use Rattle.ve_tx.specs.Parcel.{all_cited}

-- a letter put in after one item and, later, another after two
abbrev puts_x : List Operation
puts_x = Retain 1 ∷ Replace [] (item.Char 120 None ∷ []) ∷ Retain 4 ∷ []

abbrev puts_y : List Operation
puts_y = Retain 2 ∷ Replace [] (item.Char 121 None ∷ []) ∷ Retain 4 ∷ []

abbrev earlier : Entry
earlier = record { txs = puts_x ∷ []; store_before = 2; store_after = 3; takes_back = Some 7 }

abbrev later : Entry
later = record { txs = puts_y ∷ []; store_before = 3; store_after = 5; takes_back = None }

one_entry : entry_with earlier later ≡ record { txs = puts_x ∷ puts_y ∷ []; store_before = 2; store_after = 5; takes_back = Some 7 }
one_entry = refl

abbrev bold : List Mark
bold = record { tag = codes "b"; attrs = [] } ∷ []

-- a bold letter exchanged for another, and a paragraph's end with a space before it
abbrev exchanges : Transaction
exchanges = model.Retain 1 ∷ model.Replace (Char 97 bold ∷ Closing P [] ∷ []) (Char 98 bold ∷ Closing P (codes " ") ∷ []) ∷ []

in_order : all_cited (exchanges ∷ []) ≡ value.Marks bold ∷ value.Marks bold ∷ value.White (codes " ") ∷ []
in_order = refl

each_once : fill [] (all_cited (exchanges ∷ exchanges ∷ [])) ≡ value.Marks bold ∷ value.White (codes " ") ∷ []
each_once = refl
