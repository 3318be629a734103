-- Which nodes stand in a range, which bracket of them is wrong, and the edits that put brackets
-- round them.
use Rattle.std.proofs.Common.{◌≡◌, ℕ, List, [], ◌∷◌, Some, None, refl, true, false, arith}
use Rattle.ve_kinds.specs.declared.kind.Kind.{Kind}
use Rattle.ve_kinds.specs.declared.kind.Kind.TheVariants.{Ul, Ol, Li, Div, P}
use Rattle.model_items.specs.declared.item.Item.{Item}
use Rattle.model_items.specs.declared.item.Item.TheVariants as item
use Rattle.model_items.specs.Plain.{plain, plain_list}
use Rattle.model_edit.specs.Brackets.{opening_of, closing_of}
use Rattle.model_edit.specs.Edits.{Change}
use Rattle.model_edit.specs.declared.wrap_plan.WrapPlan.{WrapPlan}
use Rattle.ve_build_shape.specs.Nodes.{depth_past, begun, is_matched, AreNodes, wrong_among}
use Rattle.ve_build_shape.specs.Round.{AreClosings, HaveRoom, edits_round}

abbrev opening : Kind → Item
opening kind = item.Opening kind false None None None None

abbrev closing : Kind → Item
closing kind = item.Closing kind None

abbrev letter : ℕ → Item
letter c = item.Char c None

-- a list with two items, and a paragraph in each
abbrev page : List Item
page =
    opening Ul ∷ opening Li ∷ opening P ∷ letter 97 ∷ closing P ∷ closing Li ∷ opening Li ∷ opening P ∷ letter 98 ∷ closing P ∷ closing Li ∷ closing Ul ∷ []

-- the two items are the nodes of the range between the brackets of the list
two_nodes : AreNodes page 1 11 (1 ∷ 6 ∷ [])
two_nodes = λ values. refl

-- the nodes side by side go no further than the node that they stand in
no_further : AreNodes page 6 12 (6 ∷ [])
no_further = λ values. refl

inside_begun : begun 1 2 (plain [] (opening P)) ≡ []
inside_begun = refl

closed_outside : depth_past 0 (plain [] (closing P)) ≡ None
closed_outside = refl

both_matched : is_matched (plain_list [] page) 1 11 ≡ true
both_matched = refl

-- the closing of the list has its opening before the range
one_not_matched : is_matched (plain_list [] page) 1 12 ≡ false
one_not_matched = refl

all_right : wrong_among (plain_list [] page) 1 11 (Ul ∷ []) (Li ∷ P ∷ []) (1 ∷ 6 ∷ []) ≡ None
all_right = refl

other_kind_outside : wrong_among (plain_list [] page) 1 11 (Ol ∷ []) (Li ∷ []) (1 ∷ 6 ∷ []) ≡ Some 0
other_kind_outside = refl

-- the first wrong position is named, in the order of the list
other_kind_inside : wrong_among (plain_list [] page) 1 11 (Ul ∷ []) (Li ∷ Div ∷ []) (1 ∷ 6 ∷ []) ≡ Some 2
other_kind_inside = refl

too_few_before : wrong_among (plain_list [] page) 1 11 (Div ∷ Ul ∷ []) [] (1 ∷ 6 ∷ []) ≡ Some 0
too_few_before = refl

-- in a division that holds two others side by side the second one's closing isn't that of the first
abbrev three : List Item
three = opening Div ∷ opening Div ∷ closing Div ∷ opening Div ∷ closing Div ∷ closing Div ∷ []

other_closing : wrong_among (plain_list [] three) 0 6 [] (Div ∷ Div ∷ []) (0 ∷ []) ≡ Some 4
other_closing = refl

-- the list's brackets go, and each item's become those of a division with a paragraph round it
abbrev plan : WrapPlan
plan = record {
  unwrap_outer = Ul ∷ [];
  wrap_outer = [];
  unwrap_each = Li ∷ [];
  wrap_each = record { kind = Div; attrs = [] } ∷ record { kind = P; attrs = [] } ∷ [];
}

innermost_first : AreClosings plan.wrap_each (closing P ∷ closing Div ∷ [])
innermost_first = λ values. refl

room : HaveRoom (plain_list [] page) 1 1 11 (1 ∷ 6 ∷ [])
room = (omega arith, omega arith, (omega arith, omega arith, omega arith))

edits : edits_round (plain_list [] page) 1 11 plan (1 ∷ 6 ∷ [])
    ≡ Change 0 1 []
    ∷ Change 1 1 (opening_of Div [] ∷ opening_of P [] ∷ [])
    ∷ Change 5 1 (closing_of P ∷ closing_of Div ∷ [])
    ∷ Change 6 1 (opening_of Div [] ∷ opening_of P [] ∷ [])
    ∷ Change 10 1 (closing_of P ∷ closing_of Div ∷ [])
    ∷ Change 11 1 []
    ∷ []
edits = refl
