-- Why transactions do not apply, in their order.
use Rattle.std.proofs.Common.{◌≡◌, ℕ, List, [], ◌∷◌, ◌++◌, Option, Some, None, Ok, Err, codes, refl}
use Rattle.ve_kinds.specs.declared.kind.Kind.TheVariants.{P}
use Rattle.ve_base.specs.declared.attrs.Attr.{Attr}
use Rattle.model_items.specs.declared.plain_item.PlainItem.{PlainItem}
use Rattle.model_change.specs.declared.tx_fault.TxFault.TheVariants.{BadLength, Mismatch, BadAttr}
use Rattle.model_change.specs.Transaction.{Retain, Replace, Attribute, Transaction}
use Rattle.model_change.specs.Fault.{apply, fault}
use Rattle.model_change.proofs.ExampleItems.{with_attrs, close_, chars_, end_, paragraph, attr_}

-- one short
bad_length : apply (Retain 4 ∷ []) (paragraph (codes "a") ++ end_) ≡ Err (BadLength 5 4)
bad_length = refl

-- a removed item differs
mismatch : apply (Retain 1 ∷ Replace (chars_ (codes "b")) [] ∷ Retain 4 ∷ []) (paragraph (codes "ab") ++ end_) ≡ Err (Mismatch 1)
mismatch = refl

second_differs : apply (Retain 1 ∷ Replace (chars_ (codes "ac")) [] ∷ Retain 3 ∷ []) (paragraph (codes "ab") ++ end_) ≡ Err (Mismatch 2)
second_differs = refl

-- lengths come before items
length_first : apply (Retain 1 ∷ Replace (chars_ (codes "b")) [] ∷ Retain 3 ∷ []) (paragraph (codes "ab") ++ end_) ≡ Err (BadLength 6 5)
length_first = refl

-- an attribute operation on the first of five items
abbrev sets : List ℕ → Option (List ℕ) → Option (List ℕ) → Transaction
sets name from to = Attribute (record { name = name; from = from; to = to; kept = None }) ∷ Retain 5 ∷ []

abbrev page_ : List Attr → List PlainItem
page_ attrs = with_attrs P attrs ∷ (chars_ (codes "a") ++ (close_ P ∷ end_))

removed : apply (sets (codes "id") (Some (codes "x")) None) (page_ (attr_ (codes "id") (codes "x") ∷ [])) ≡ Ok (page_ [])
removed = refl

reserved : apply (sets (codes "about") None (Some (codes "y"))) (page_ []) ≡ Err (BadAttr 0)
reserved = refl

other_value : apply (sets (codes "id") (Some (codes "z")) None) (page_ (attr_ (codes "id") (codes "x") ∷ [])) ≡ Err (BadAttr 0)
other_value = refl

-- items come before attributes, also where they stand after
mismatch_first : fault (Attribute (record { name = codes "about"; from = None; to = Some (codes "y"); kept = None }) ∷ Retain 1 ∷ Replace (chars_ (codes "b")) [] ∷ Retain 3 ∷ []) (page_ []) ≡ Some (Mismatch 1)
mismatch_first = refl

-- an attribute of a letter
no_opening : fault (Retain 1 ∷ Attribute (record { name = codes "id"; from = None; to = Some (codes "y"); kept = None }) ∷ Retain 4 ∷ []) (page_ []) ≡ Some (BadAttr 1)
no_opening = refl
