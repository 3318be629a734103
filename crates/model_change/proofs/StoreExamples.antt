-- Values that items cite, and a list that is filled with them.
use Rattle.std.proofs.Common.{◌≡◌, false, List, [], ◌∷◌, ◌++◌, Some, None, codes, refl, arith}
use Rattle.ve_kinds.specs.declared.kind.Kind.TheVariants.{P}
use Rattle.ve_base.specs.declared.attrs.Attr.{Attr}
use Rattle.ve_base.specs.declared.marks.Mark.{Mark}
use Rattle.ve_base.specs.declared.head.Head.{Head}
use Rattle.ve_base.specs.declared.value.Value.TheVariants as value
use Rattle.model_items.specs.declared.plain_item.PlainItem.{PlainItem}
use Rattle.model_items.specs.declared.plain_item.PlainItem.TheVariants.{Char, Opening, Closing}
use Rattle.model_change.specs.Attributes.{AttrChange}
use Rattle.model_change.specs.Transaction.{Retain, Attribute, Transaction}
use Rattle.model_change.specs.Store.{cited, fill, changed_heads, brought, IsChangedHead}
use Rattle.model_change.proofs.ExampleItems.{with_attrs, chars_, close_, end_, attr_}

abbrev bold : List Mark
bold = record { tag = codes "b"; attrs = [] } ∷ []

abbrev head_ : List Attr → Head
head_ attrs = record { tag = []; attrs = attrs; raw = []; reference = None; owner = false }

abbrev identified : Head
identified = head_ (attr_ (codes "id") (codes "x") ∷ [])

abbrev items : List PlainItem
items = Opening P identified [] (codes " ") None false ∷ Char 97 bold ∷ Char 98 bold ∷ Closing P [] ∷ end_

-- in order, head, marks, whitespace; what is empty cites nothing
in_order : cited items ≡ value.Head identified ∷ value.White (codes " ") ∷ value.Marks bold ∷ value.Marks bold ∷ []
in_order = refl

filled_once : fill [] (cited items) ≡ value.Head identified ∷ value.White (codes " ") ∷ value.Marks bold ∷ []
filled_once = refl

only_new_ones : fill (value.Marks bold ∷ []) (cited items) ≡ value.Marks bold ∷ value.Head identified ∷ value.White (codes " ") ∷ []
only_new_ones = refl

abbrev id_changed : AttrChange
id_changed = record { name = codes "id"; from = Some (codes "x"); to = Some (codes "y"); kept = None }

abbrev lang_added : AttrChange
lang_added = record { name = codes "lang"; from = None; to = Some (codes "en"); kept = None }

abbrev two_changes : Transaction
two_changes = Attribute id_changed ∷ Attribute lang_added ∷ Retain 5 ∷ []

abbrev paragraph : List PlainItem
paragraph = with_attrs P (attr_ (codes "id") (codes "x") ∷ []) ∷ (chars_ (codes "a") ++ (close_ P ∷ end_))

abbrev both_set : Head
both_set = head_ (attr_ (codes "id") (codes "y") ∷ attr_ (codes "lang") (codes "en") ∷ [])

-- the head that an opening has in the end, after two changes
final_head : changed_heads two_changes paragraph ≡ value.Head both_set ∷ []
final_head = refl

-- of which the first of them speaks
of_the_first : IsChangedHead two_changes paragraph (value.Head both_set)
of_the_first = record { before = []; change = id_changed; after = Attribute lang_added ∷ Retain 5 ∷ []; parts = refl; opening = Opening P both_set [] [] None false; there = refl; cites = (0, omega arith, refl) }

-- a head that becomes empty is no value
emptied : brought (Attribute (record { name = codes "id"; from = Some (codes "x"); to = None; kept = None }) ∷ Retain 5 ∷ [])
    (with_attrs P (attr_ (codes "id") (codes "x") ∷ []) ∷ (chars_ (codes "a") ++ (close_ P ∷ end_)))
    ≡ []
emptied = refl
