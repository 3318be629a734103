-- Changes of one attribute.
use Rattle.std.proofs.Common.{◌≡◌, ℕ, true, false, List, [], ◌∷◌, Option, Some, None, codes, refl}
use Rattle.ve_kinds.specs.declared.kind.Kind.TheVariants.{P, Ref}
use Rattle.model_items.specs.declared.plain_item.PlainItem.TheVariants.{Opening, Closing}
use Rattle.ve_base.specs.declared.head.Key.TheVariants.{Auto}
use Rattle.model_change.specs.Attributes.{AttrChange, attrs_changed, item_changed, allows, change_filled, clash}
use Rattle.model_change.proofs.ExampleItems.{with_attrs, attr_}

abbrev change : List ℕ → Option (List ℕ) → Option (List ℕ) → Option ℕ → AttrChange
change name from to kept = record { name = name; from = from; to = to; kept = kept }

added_at_the_end : item_changed (change (codes "id") None (Some (codes "x")) None) (with_attrs P (attr_ (codes "lang") (codes "en") ∷ []))
    ≡ with_attrs P (attr_ (codes "lang") (codes "en") ∷ attr_ (codes "id") (codes "x") ∷ [])
added_at_the_end = refl

added_at_its_place : item_changed (change (codes "id") None (Some (codes "x")) (Some 0)) (with_attrs P (attr_ (codes "lang") (codes "en") ∷ []))
    ≡ with_attrs P (attr_ (codes "id") (codes "x") ∷ attr_ (codes "lang") (codes "en") ∷ [])
added_at_its_place = refl

-- a position past the end counts as the end
added_past_the_end : attrs_changed (codes "id") (Some 7) None (Some (codes "x")) (attr_ (codes "lang") (codes "en") ∷ [])
    ≡ attr_ (codes "lang") (codes "en") ∷ attr_ (codes "id") (codes "x") ∷ []
added_past_the_end = refl

replaced : attrs_changed (codes "id") None (Some (codes "x")) (Some (codes "y")) (attr_ (codes "id") (codes "x") ∷ attr_ (codes "lang") (codes "en") ∷ [])
    ≡ attr_ (codes "id") (codes "y") ∷ attr_ (codes "lang") (codes "en") ∷ []
replaced = refl

-- what a head carries beside attributes stays
reference_stays : item_changed (change (codes "id") None (Some (codes "x")) None)
    (Opening Ref (record { tag = codes "sup"; attrs = []; raw = codes "[1]"; reference = Some (record { group = []; key = Auto 0 }); owner = true }) [] [] (Some 3) true)
    ≡ Opening Ref (record { tag = codes "sup"; attrs = attr_ (codes "id") (codes "x") ∷ []; raw = codes "[1]"; reference = Some (record { group = []; key = Auto 0 }); owner = true }) [] [] (Some 3) true
reference_stays = refl

position_is_kept : change_filled (change (codes "lang") (Some (codes "en")) None None) (with_attrs P (attr_ (codes "id") (codes "x") ∷ attr_ (codes "lang") (codes "en") ∷ []))
    ≡ change (codes "lang") (Some (codes "en")) None (Some 1)
position_is_kept = refl

-- a reserved name, another value, an item that is no element's opening
reserved : allows (change (codes "about") None (Some (codes "y")) None) (with_attrs P []) ≡ false
reserved = refl

other_value : allows (change (codes "id") (Some (codes "z")) None None) (with_attrs P (attr_ (codes "id") (codes "x") ∷ [])) ≡ false
other_value = refl

no_element : allows (change (codes "id") None (Some (codes "y")) None) (with_attrs Ref []) ≡ false
no_element = refl

closing : allows (change (codes "id") None (Some (codes "y")) None) (Closing P []) ≡ false
closing = refl

from_absent_to_absent : allows (change (codes "id") None None None) (with_attrs P []) ≡ true
from_absent_to_absent = refl

both_add : clash (change (codes "title") None (Some (codes "t")) None) (change (codes "lang") None (Some (codes "en")) None) ≡ true
both_add = refl

one_adds : clash (change (codes "title") None (Some (codes "t")) None) (change (codes "id") (Some (codes "x")) (Some (codes "y")) None) ≡ false
one_adds = refl
