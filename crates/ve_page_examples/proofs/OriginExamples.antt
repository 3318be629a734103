-- Worked examples of what is carried, which bodies and nodes are the same, and the bytes of
-- origins.
use Rattle.std.proofs.Common.{◌≡◌, ℕ, true, false, List, [], ◌∷◌, Some, None, refl, ap, arith}
use Rattle.std.specs.Prelude.{Option, Bool, codes, slice_get}
use Rattle.ve_base.specs.declared.head.Key.TheVariants.{Auto}
use Rattle.ve_base.specs.declared.value.ValueId.{ValueId}
use Rattle.ve_kinds.specs.declared.kind.Kind.TheVariants.{P, InternalItem}
use Rattle.model_items.specs.declared.item.Item.{Item}
use Rattle.model_items.specs.declared.item.Item.TheVariants.{Char, Opening, Closing}
use Rattle.model_page.specs.declared.ref_table.RefRow.{RefRow}
use Rattle.model_page_write.specs.PageText.{part_at}
use Rattle.ve_origin.specs.Bodies.{AreSameBodies}
use Rattle.ve_origin.specs.Origins.{spans}
use Rattle.ve_origin.specs.Rows.{carried_place}
use Rattle.ve_origin.specs.Without.{AreSameNodes}
use Rattle.ve_origin.specs.declared.origin.OriginRow.{OriginRow}

abbrev row : Bool → RefRow
row carrier = record { at = 1; key = record { group = []; key = Auto 0 }; number = 1; carrier = carrier; body_at = Some 5 }

-- refuses a use that carries the body
a_use_carries_nothing : carried_place (Some (row false)) ≡ None
a_use_carries_nothing = refl

the_carrier_carries_the_body : carried_place (Some (row true)) ≡ Some 5
the_carrier_carries_the_body = refl

-- ---- bodies and nodes

abbrev body : List Item
body = Opening InternalItem false None None None None ∷ Char 97 None ∷ Closing InternalItem None ∷ []

-- refuses the position in the one list for the position in the other
bodies_stand_each_at_its_place : AreSameBodies body (Char 98 None ∷ body) (Some 0) (Some 1)
bodies_stand_each_at_its_place = refl

no_body_is_at_the_other_place : AreSameBodies body (Char 98 None ∷ body) (Some 0) (Some 0) → ⊥
no_body_is_at_the_other_place h = cc

abbrev paragraph : Option ValueId → List Item
paragraph pre = Opening P false None None pre (Some 0) ∷ Char 97 None ∷ Closing P None ∷ []

-- refuses a node that differs for the whitespace before it
whitespace_before_a_node_is_left_aside : AreSameNodes (paragraph (Some (record { 0 = 4 }))) 0 (paragraph None) 0 3
whitespace_before_a_node_is_left_aside = refl

-- ---- origins

abbrev origin : ℕ → ℕ → OriginRow
origin from to = record { span = record { from = from; to = to }; from = 0; to = 1 }

-- refuses the bytes of another origin, or those of the whole body
a_part_has_the_bytes_of_its_origin : part_at (codes "<br><img>") (slice_get (spans (origin 0 4 ∷ origin 4 9 ∷ [])) 1) ≡ codes "<img>"
a_part_has_the_bytes_of_its_origin = refl

-- two lists of one length aren't the same
abbrev first_letter : List Item → ℕ
first_letter (Char ch marks ∷ items) = ch
first_letter _ = 0

no_other_letter_is_the_same : Char 97 None ∷ [] ≡ Char 98 None ∷ [] → ⊥
no_other_letter_is_the_same h = let e : 97 ≡ 98 = ap first_letter h in omega (arith, e)
