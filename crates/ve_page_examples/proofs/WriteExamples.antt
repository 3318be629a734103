-- Worked examples of what is written, what is bare and where siblings end, and answers of passing a
-- list that are none.
use Rattle.std.proofs.Common.{◌≡◌, ℕ, true, false, List, [], ◌∷◌, ◌++◌, ◌+◌, Some, None, refl, ap, subst, arith}
use Rattle.std.specs.Prelude.{Bool, codes, slice_get}
use Rattle.model_spelling.specs.Grammar.{Start as StartTag}
use Rattle.ve_base.specs.Empty.{empty_head}
use Rattle.ve_base.specs.declared.attrs.Attr.{Attr}
use Rattle.ve_base.specs.declared.head.Key.TheVariants.{Auto}
use Rattle.ve_base.specs.declared.value.Value.TheVariants.{White}
use Rattle.ve_base.specs.declared.value.ValueId.{ValueId}
use Rattle.ve_kinds.specs.declared.kind.Kind.TheVariants.{P, Ul, Li, Br}
use Rattle.model_items.specs.declared.item.Item.{Item}
use Rattle.model_items.specs.declared.item.Item.TheVariants.{Char, Opening, Closing}
use Rattle.model_page.proofs.OnLiterals.{page_on_literals}
use Rattle.model_page.specs.Elements.{is_white_char}
use Rattle.model_page_write.specs.Nodes.{Outer, Start, Nodes, Empty, Letter, Node}
use Rattle.model_page_write.specs.PageText.{bare_writer}
use Rattle.model_page_write.specs.Written.{reads_inline}
use Rattle.ve_write.specs.After.{Follows}
use Rattle.ve_write.specs.Bare.{bare_in, is_run_in}
use Rattle.ve_write.specs.BodyTexts.{carried_outside}
use Rattle.ve_write.specs.Inline.{is_inline_token}
use Rattle.ve_write.specs.Passing.{Passes}
use Rattle.ve_write.specs.Siblings.{View, ending_at, is_end}
use Rattle.ve_write.specs.Told.{blocks_at}

abbrev first_value : ValueId
first_value = record { 0 = 0 }

-- a line feed is the one value
abbrev here : View
here = record { values = White (10 ∷ []) ∷ []; bodies = λ at. None }

-- ---- where siblings end

abbrev open_ : Item
open_ = Opening P false None None None None

-- refuses a list that never ends siblings
a_list_ends_siblings : is_end [] ≡ true
a_list_ends_siblings = refl

-- refuses a closing that ends none, and an opening that ends them
a_closing_ends_siblings : is_end (Closing P None ∷ Char 97 None ∷ []) ≡ true
a_closing_ends_siblings = refl

an_opening_goes_on : is_end (open_ ∷ Closing P None ∷ []) ≡ false
an_opening_goes_on = refl

abbrev count_outer : List Outer → Bool
count_outer [] = false
count_outer (o ∷ outer) = true

abbrev empty_paragraph : List Item
empty_paragraph = open_ ∷ Closing P None ∷ []

from_start : (n : ℕ) → n ≡ 0 + n
from_start n = omega arith

-- a closing isn't that of the parent where a node is open before it
no_opening_is_passed_unopened : Passes empty_paragraph 0 (record { count = 1; depth = 0 }) → ⊥
unfolding ending_at
no_opening_is_passed_unopened h =
    let inside = h empty_paragraph 0 0 (λ n item found. subst (λ k. slice_get empty_paragraph k ≡ Some item) (from_start n) found) (λ v. refl) here in
    let e : true ≡ false = ap count_outer inside in cc

-- what follows the nodes at the end of a paragraph has the whitespace before its closing
no_whitespace_of_a_closing_is_lost : Follows (Closing P (Some first_value) ∷ []) 0 (record { pre = None; at = 1 }) → ⊥
unfolding ending_at
no_whitespace_of_a_closing_is_lost h =
    let e : 10 ∷ [] ≡ (let none : List ℕ = [] in none) = h.pre here in cc

-- ---- runs

-- refuses a carriage return for a tab
a_tab_is_whitespace : is_white_char 9 ≡ true
a_tab_is_whitespace = refl

a_carriage_return_is_not : is_white_char 13 ≡ false
a_carriage_return_is_not = refl

abbrev start : List Attr → Bool → List ℕ → Start
start attrs generated pre = record {
  kind = P;
  head = record { tag = []; attrs = attrs; raw = []; reference = None; owner = false };
  marks = [];
  pre = pre;
  origin = None;
  generated = generated;
  body = None;
}

abbrev line_break : Start
line_break = record { kind = Br; head = empty_head; marks = []; pre = []; origin = None; generated = false; body = None }

-- refuses a leaf that is no content
a_leaf_is_content : is_run_in false (Node line_break Empty [] Empty) ≡ true
unfolding page_on_literals
a_leaf_is_content = refl

-- refuses blocks in a run, and inline elements as blocks
a_mark_stays_in_a_run : is_inline_token (StartTag (codes "b") [] false) ≡ true
a_mark_stays_in_a_run = refl

a_block_does_not : is_inline_token (StartTag (codes "div") [] false) ≡ false
a_block_does_not = refl

-- refuses what doesn't read at all
what_does_not_read_is_not_inline : reads_inline (codes "<b>") ≡ false
unfolding page_on_literals
what_does_not_read_is_not_inline = refl

-- ---- bare paragraphs

abbrev paragraph : List Attr → Nodes → Nodes
paragraph attrs inside = Node (start attrs true []) inside [] Empty

a_letter_is_bare : bare_in false [] (paragraph [] (Letter 97 [] Empty)) ≡ true
unfolding page_on_literals
a_letter_is_bare = refl

-- refuses a bare paragraph that has attributes, one that holds nothing, and one after which
-- whitespace stands
with_attributes_it_is_not : bare_in false [] (paragraph (record { name = codes "id"; value = codes "x" } ∷ []) (Letter 97 [] Empty)) ≡ false
unfolding page_on_literals
with_attributes_it_is_not = refl

nothing_is_not_bare : bare_in false [] (paragraph [] Empty) ≡ false
unfolding page_on_literals
nothing_is_not_bare = refl

before_whitespace_it_is_not : bare_in false [] (Node (start [] true []) (Letter 97 [] Empty) [] (Node (start [] false (codes " ")) Empty [] Empty)) ≡ false
unfolding page_on_literals
before_whitespace_it_is_not = refl

-- ---- blocks and bodies

abbrev list_after_line : List Item
list_after_line = Opening Ul false None None (Some first_value) None ∷ Opening Li false None None (Some first_value) None ∷ Closing Li None ∷ Closing Ul None ∷ []

-- refuses an element without the whitespace before it
an_element_has_its_whitespace : blocks_at bare_writer here list_after_line false 0 ≡ 10 ∷ codes "<ul>" ++ 10 ∷ codes "<li></li></ul>"
unfolding ending_at page_on_literals
an_element_has_its_whitespace = refl

-- refuses a use that carries the body
a_use_carries_nothing : carried_outside 4 (record { at = 1; key = record { group = []; key = Auto 0 }; number = 1; carrier = false; body_at = Some 5 }) ≡ None
a_use_carries_nothing = refl
