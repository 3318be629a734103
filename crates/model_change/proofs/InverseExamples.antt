-- Transactions undone.
use Rattle.std.proofs.Common.{◌≡◌, ℕ, List, [], ◌∷◌, ◌++◌, Option, Some, None, Ok, Err, codes, refl}
use Rattle.ve_kinds.specs.declared.kind.Kind.TheVariants.{P}
use Rattle.ve_base.specs.declared.attrs.Attr.{Attr}
use Rattle.model_items.specs.declared.plain_item.PlainItem.{PlainItem}
use Rattle.model_change.specs.declared.tx_fault.TxFault.TheVariants.{BadAttr}
use Rattle.model_change.specs.Attributes.{AttrChange}
use Rattle.model_change.specs.Transaction.{Retain, Attribute, Transaction}
use Rattle.model_change.specs.Fault.{apply}
use Rattle.model_change.specs.Inverse.{inverse, filled}
use Rattle.model_change.proofs.ExampleItems.{with_attrs, close_, chars_, end_, paragraph, attr_, inserts}

undone : apply (inverse (inserts 2 (codes "X") 4)) (paragraph (codes "aXb") ++ end_) ≡ Ok (paragraph (codes "ab") ++ end_)
undone = refl

abbrev change : List ℕ → Option (List ℕ) → Option (List ℕ) → Option ℕ → AttrChange
change name from to kept = record { name = name; from = from; to = to; kept = kept }

-- an attribute operation on the first of five items
abbrev sets : List ℕ → Option (List ℕ) → Option (List ℕ) → Option ℕ → Transaction
sets name from to kept = Attribute (change name from to kept) ∷ Retain 5 ∷ []

abbrev page_ : List Attr → List PlainItem
page_ attrs = with_attrs P attrs ∷ (chars_ (codes "a") ++ (close_ P ∷ end_))

abbrev id_lang : List Attr
id_lang = attr_ (codes "id") (codes "x") ∷ attr_ (codes "lang") (codes "en") ∷ []

-- an attribute is removed, keeps its position, and comes back there
removed : apply (sets (codes "id") (Some (codes "x")) None None) (page_ id_lang) ≡ Ok (page_ (attr_ (codes "lang") (codes "en") ∷ []))
removed = refl

position_is_kept : filled (sets (codes "id") (Some (codes "x")) None None) (page_ id_lang) ≡ sets (codes "id") (Some (codes "x")) None (Some 0)
position_is_kept = refl

put_back : apply (inverse (sets (codes "id") (Some (codes "x")) None (Some 0))) (page_ (attr_ (codes "lang") (codes "en") ∷ [])) ≡ Ok (page_ id_lang)
put_back = refl

-- two removals at one position keep the position that each then has, and are undone in reverse
-- order
abbrev removes_both : Transaction
removes_both = Attribute (change (codes "id") (Some (codes "x")) None None) ∷ Attribute (change (codes "lang") (Some (codes "en")) None None) ∷ Retain 5 ∷ []

both_kept : filled removes_both (page_ id_lang)
    ≡ Attribute (change (codes "id") (Some (codes "x")) None (Some 0)) ∷ Attribute (change (codes "lang") (Some (codes "en")) None (Some 0)) ∷ Retain 5 ∷ []
both_kept = refl

both_back : apply (inverse (filled removes_both (page_ id_lang))) (page_ []) ≡ Ok (page_ id_lang)
both_back = refl

-- Where a head has two attributes of one name, which no list of attributes has, the inverse does
-- not apply.
one_name_twice : apply (inverse (sets (codes "id") (Some (codes "x")) None (Some 0))) (page_ (attr_ (codes "id") (codes "y") ∷ [])) ≡ Err (BadAttr 0)
one_name_twice = refl
