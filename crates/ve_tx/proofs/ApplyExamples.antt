-- Worked examples of what is asked of a list and of how it is changed.
use Rattle.std.proofs.Common.{◌≡◌, false, List, [], ◌∷◌, None, Some, codes, refl}
use Rattle.ve_base.specs.Empty.{empty_head}
use Rattle.ve_kinds.specs.declared.kind.Kind.TheVariants.{P, InternalList}
use Rattle.model_items.specs.declared.item.Item.{Item}
use Rattle.model_items.specs.declared.item.Item.TheVariants.{Char, Opening, Closing}
use Rattle.model_items.specs.declared.plain_item.PlainItem.TheVariants as plain
use Rattle.model_change.specs.declared.tx_fault.TxFault.TheVariants.{BadLength, Mismatch, BadAttr}
use Rattle.ve_tx.specs.declared.op.Op.{Op}
use Rattle.ve_tx.specs.declared.op.Op.TheVariants.{Retain, Replace, Attribute}
use Rattle.ve_tx.specs.Checked.{old_size, fault_in}
use Rattle.ve_tx.specs.Changed.{brought_by}
use Rattle.ve_tx.specs.Making.{item_with_head}
use Rattle.ve_tx.specs.Spliced.{spliced_by, come_count, gone_count}
use Rattle.ve_tx.specs.declared.splice.Splice.{Splice}

-- a paragraph with the letters a and b, and the empty internal list
page : List Item
page =
    Opening P false None None None None
    ∷ Char 97 None
    ∷ Char 98 None
    ∷ Closing P None
    ∷ Opening InternalList false None None None None
    ∷ Closing InternalList None
    ∷ []

removes_b : List Op
removes_b = Retain 1 ∷ Replace (Char 98 None ∷ []) [] ∷ Retain 4 ∷ []

-- an x comes before the letters, and the second one goes; each position is the old list's
two_splices : List Splice
two_splices = record { at = 1; removed = 0; items = Char 120 None ∷ [] } ∷ record { at = 2; removed = 1; items = [] } ∷ []

page_with_x : spliced_by page two_splices
    ≡ Opening P false None None None None
    ∷ Char 120 None
    ∷ Char 97 None
    ∷ Closing P None
    ∷ Opening InternalList false None None None None
    ∷ Closing InternalList None
    ∷ []
unfolding page two_splices
page_with_x = refl

one_comes : come_count two_splices ≡ 1
unfolding two_splices
one_comes = refl

one_goes : gone_count two_splices ≡ 1
unfolding two_splices
one_goes = refl

-- what is retained is not brought
nothing_is_brought : brought_by removes_b ≡ 0
unfolding removes_b
nothing_is_brought = refl

an_opening_is_brought : brought_by (Attribute (codes "id") None (Some (codes "x")) ∷ Retain 6 ∷ []) ≡ 1
an_opening_is_brought = refl

its_length : old_size removes_b ≡ 6
unfolding removes_b
its_length = refl

b_is_not_there : fault_in [] page removes_b ≡ Some (Mismatch 1)
unfolding page removes_b
b_is_not_there = refl

one_short : fault_in [] page (Retain 5 ∷ []) ≡ Some (BadLength 6 5)
unfolding page
one_short = refl

a_letter_has_no_attributes : fault_in [] page (Retain 1 ∷ Attribute (codes "id") None (Some (codes "x")) ∷ Retain 5 ∷ []) ≡ Some (BadAttr 1)
unfolding page
a_letter_has_no_attributes = refl

about_is_not_set : fault_in [] page (Attribute (codes "about") None (Some (codes "x")) ∷ Retain 6 ∷ []) ≡ Some (BadAttr 0)
unfolding page
about_is_not_set = refl

an_attribute_may_come : fault_in [] page (Attribute (codes "id") None (Some (codes "x")) ∷ Retain 6 ∷ []) ≡ None
unfolding page
an_attribute_may_come = refl

-- a changed head is an opening's alone
a_letter_takes_no_head : item_with_head (Some empty_head) (plain.Char 97 []) ≡ plain.Char 97 []
a_letter_takes_no_head = refl
