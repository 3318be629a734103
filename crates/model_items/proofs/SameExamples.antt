-- Items that differ in one thing alone are told apart.
use Rattle.std.proofs.Common.{◌≡◌, ℕ, Bool, true, false, List, [], ◌∷◌, Some, None, codes, refl}
use Rattle.ve_kinds.specs.declared.kind.Kind.TheVariants.{P, H2, Ref}
use Rattle.ve_base.specs.declared.head.Key.{Key}
use Rattle.ve_base.specs.declared.head.Key.TheVariants.{Named, Auto}
use Rattle.ve_base.specs.declared.marks.Mark.{Mark}
use Rattle.model_items.specs.declared.plain_item.PlainItem.{PlainItem}
use Rattle.model_items.specs.declared.plain_item.PlainItem.TheVariants.{Char, Opening, Closing}
use Rattle.ve_base.specs.Empty.{empty_head}
use Rattle.model_items.specs.Same.{item_same, marks_same}

abbrev marked : List ℕ → List Mark
marked tag = record { tag = tag; attrs = [] } ∷ []

one_item : item_same (Char 97 (marked (codes "b"))) (Char 97 (marked (codes "b"))) ≡ true
one_item = refl

-- marks are compared in their order, outermost first
other_order : marks_same (record { tag = codes "b"; attrs = [] } ∷ marked (codes "i")) (record { tag = codes "i"; attrs = [] } ∷ marked (codes "b")) ≡ false
other_order = refl

without_marks : item_same (Char 97 (marked (codes "b"))) (Char 97 []) ≡ false
without_marks = refl

other_origin : item_same (Opening P empty_head [] [] (Some 0) false) (Opening P empty_head [] [] (Some 1) false) ≡ false
other_origin = refl

generated_or_not : item_same (Opening P empty_head [] [] None false) (Opening P empty_head [] [] None true) ≡ false
generated_or_not = refl

other_kind : item_same (Closing P []) (Closing H2 []) ≡ false
other_kind = refl

opening_or_closing : item_same (Opening P empty_head [] [] None false) (Closing P []) ≡ false
opening_or_closing = refl

-- a reference of a key in the group without a name, an owner or not
abbrev reference : Key → Bool → PlainItem
reference key owner = Opening Ref (record { tag = codes "sup"; attrs = []; raw = []; reference = Some (record { group = []; key = key }); owner = owner }) [] [] None false

one_reference : item_same (reference (Named (codes "n")) true) (reference (Named (codes "n")) true) ≡ true
one_reference = refl

other_key : item_same (reference (Auto 0) true) (reference (Auto 1) true) ≡ false
other_key = refl

owner_or_not : item_same (reference (Auto 0) true) (reference (Auto 0) false) ≡ false
owner_or_not = refl
