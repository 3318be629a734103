-- Nodes that are kept, and that are not: `<p>a</p>` was read, and its paragraph is the origin 0.
use Rattle.std.proofs.Common.{◌≡◌, ℕ, true, false, List, [], ◌∷◌, refl}
use Rattle.std.specs.Prelude.{Some, None}
use Rattle.ve_base.specs.Empty.{empty_head}
use Rattle.ve_kinds.specs.declared.kind.Kind.TheVariants.{P, Div}
use Rattle.model_items.specs.declared.item.Item.TheVariants as item
use Rattle.model_items.specs.declared.plain_item.PlainItem.{PlainItem}
use Rattle.model_items.specs.declared.plain_item.PlainItem.TheVariants.{Char, Opening, Closing}
use Rattle.model_page_write.specs.Nodes.{carried_items}
use Rattle.model_page_write.specs.PageText.{is_kept}
use Rattle.ve_origin.specs.Bodies.{cited_inside}
use Rattle.ve_origin.specs.Kept.{closes_last, node_at}

abbrev paragraph : List ℕ → ℕ → List ℕ → List PlainItem
paragraph before letter inside = Opening P empty_head [] before (Some 0) false ∷ Char letter [] ∷ Closing P inside ∷ []

abbrev first : List PlainItem
first = paragraph [] 97 []

-- as it was, and after other items
as_it_was : is_kept (carried_items first) 0 (node_at (carried_items first) 0) ≡ true
as_it_was = refl

after_another : is_kept (carried_items first) 0 (node_at (carried_items (Opening Div empty_head [] [] None false ∷ first)) 1) ≡ true
after_another = refl

-- with other whitespace before it
with_whitespace_before : is_kept (carried_items first) 0 (node_at (carried_items (paragraph (10 ∷ []) 97 [])) 0) ≡ true
with_whitespace_before = refl

-- with other whitespace inside, and with another letter
with_whitespace_inside : is_kept (carried_items first) 0 (node_at (carried_items (paragraph [] 97 (10 ∷ []))) 0) ≡ false
with_whitespace_inside = refl

with_another_letter : is_kept (carried_items first) 0 (node_at (carried_items (paragraph [] 98 [])) 0) ≡ false
with_another_letter = refl

-- the items of a node past its opening end with its closing, and those of two nodes don't
one_node : closes_last 0 (Opening P empty_head [] [] None false ∷ Closing P [] ∷ Closing Div [] ∷ []) ≡ true
one_node = refl

two_nodes : closes_last 0 (Closing P [] ∷ Opening P empty_head [] [] None false ∷ Closing P [] ∷ []) ≡ false
two_nodes = refl

-- a body is what stands before the closing
body : cited_inside 0 (item.Char 97 None ∷ item.Closing P None ∷ item.Char 98 None ∷ []) ≡ item.Char 97 None ∷ []
body = refl
