-- Worked examples of the parts of a page, and answers that no part has: references, groups,
-- fragments, fits, sources and runs.
use Rattle.std.proofs.Common.{◌≡◌, ℕ, zero, suc, ◌+◌, true, false, List, [], ◌∷◌, length, Some, None, refl, sym, ap, subst, arith}
use Rattle.std.specs.Prelude.{Bool, codes}
use Rattle.model_spelling.specs.Grammar.{Attr}
use Rattle.model_spelling.specs.Forest.{Forest, Nothing, Text, Remark, Void, RawElement, Element, spelling}
use Rattle.model_spelling.specs.ForestNodes.{ForestNode, forest_size}
use Rattle.ve_kinds.specs.declared.kind.Kind.TheVariants.{Root, P, Ul, Li, Div, Tr}
use Rattle.ve_kinds.specs.Tags.{is_one_of, inline_tags}
use Rattle.model_page.proofs.OnLiterals.{page_on_literals}
use Rattle.model_page.specs.Elements.{is_white}
use Rattle.model_page.specs.Parts.{Ended, Words, is_shared, parts_of, source_of}
use Rattle.model_page.specs.Fit.{has_blocks_alone}
use Rattle.ve_html_tree.specs.declared.node.Node.{Node}
use Rattle.ve_classify.specs.Citations.{is_citation, cited_in}
use Rattle.ve_classify.specs.Context.{context_in}
use Rattle.ve_classify.specs.FirstPart.{first_source, part_nodes, take_parts}
use Rattle.ve_classify.specs.Groups.{joins_at}
use Rattle.ve_classify.specs.Places.{AfterParts, PartEnds}
use Rattle.ve_classify.specs.Runs.{starts_block}
use Rattle.ve_classify.specs.Standing.{rest_of}
use Rattle.ve_classify.specs.Units.{WholeRun}

abbrev attr_ : List ℕ → List ℕ → Attr
attr_ name value = record { name = name; value = value; quote = 34 }

abbrev typed : List ℕ → List Attr
typed type = attr_ (codes "typeof") type ∷ []

abbrev element : List ℕ → Forest → Forest
element name rest = Element name [] Nothing rest

-- an element that is held
abbrev held : List ℕ → Forest → Forest
held name rest = Element name (attr_ (codes "about") (codes "x") ∷ []) Nothing rest

-- ---- references

abbrev citation : Forest → Forest
citation rest =
    Element (codes "sup") (attr_ (codes "typeof") (codes "mw:Extension/ref") ∷ attr_ (codes "about") (codes "x") ∷ attr_ (codes "data-mw") (codes "m") ∷ []) Nothing rest

-- refuses the value of another attribute
the_data_mw_is_cited : cited_in (citation Nothing) ≡ Some (codes "m")
unfolding page_on_literals
the_data_mw_is_cited = refl

-- refuses the first element of a group for the group
a_group_of_two_is_not_cited : cited_in (citation (citation Nothing)) ≡ None
unfolding page_on_literals
a_group_of_two_is_not_cited = refl

-- refuses another tag for `sup`, and a reference for a transclusion since it is generated
a_reference_is_a_citation : is_citation (codes "sup") (typed (codes "mw:Extension/ref")) ≡ true
unfolding page_on_literals
a_reference_is_a_citation = refl

-- refuses whatever is generated
another_extension_is_none : is_citation (codes "sup") (typed (codes "mw:Extension/poem")) ≡ false
unfolding page_on_literals
another_extension_is_none = refl

a_transclusion_is_none : is_citation (codes "sup") (typed (codes "mw:Extension/ref mw:Transclusion")) ≡ false
unfolding page_on_literals
a_transclusion_is_none = refl

-- ---- groups

-- refuses a group of elements whose `about` differs
another_about_is_another_group : is_shared (Some (codes "x")) (Some (codes "y")) ≡ false
another_about_is_another_group = refl

-- refuses the whitespace for the element after it
the_element_after_whitespace_joins : joins_at 1 (codes "x") (Text (codes " ") (held (codes "b") Nothing)) ≡ Some 2
unfolding page_on_literals
the_element_after_whitespace_joins = refl

-- refuses the first element for the group
a_group_has_all_its_elements : forest_size (part_nodes (held (codes "b") (held (codes "i") Nothing))) ≡ 2
unfolding page_on_literals
a_group_has_all_its_elements = refl

-- ---- the open kind that a fragment fits

-- refuses the outermost kind, and the root always
the_innermost_kind_is_first : context_in (Li ∷ Div ∷ []) (Text (codes "a") Nothing) ≡ Li
unfolding page_on_literals
the_innermost_kind_is_first = refl

-- refuses a list for every structural kind
a_row_has_cells : context_in (Tr ∷ []) (element (codes "td") Nothing) ≡ Tr
unfolding page_on_literals
a_row_has_cells = refl

-- refuses texts, and elements that are held, among the items of a list
a_list_has_no_text : context_in (Ul ∷ []) (Text (codes "a") Nothing) ≡ Root
unfolding page_on_literals
a_list_has_no_text = refl

a_list_has_no_held_item : context_in (Ul ∷ []) (held (codes "li") Nothing) ≡ Root
unfolding page_on_literals
a_list_has_no_held_item = refl

-- refuses whatever is to stand in a paragraph, and every tag as one within a line
a_paragraph_has_no_heading : context_in (P ∷ []) (element (codes "h2") Nothing) ≡ Root
unfolding page_on_literals
a_paragraph_has_no_heading = refl

-- ---- fits

-- refuses a block for an inline tag that has a kind
a_line_break_stands_in_a_line : is_one_of inline_tags (codes "br") ≡ true
a_line_break_stands_in_a_line = refl

-- refuses a held element as inline content
a_held_element_is_no_text : has_blocks_alone (parts_of (held (codes "b") Nothing)) ≡ true
unfolding page_on_literals
a_held_element_is_no_text = refl

-- refuses a block for each part
a_text_begins_a_run : starts_block (Words (codes "a") Ended) ≡ false
a_text_begins_a_run = refl

-- ---- sources

-- refuses the source of what is in it
a_part_has_its_tags : first_source (parts_of (Element (codes "b") [] (Text (codes "a") Nothing) Nothing)) ≡ codes "<b>a</b>"
unfolding page_on_literals
a_part_has_its_tags = refl

abbrev letters : Forest
letters = Text (codes "ab") Nothing

abbrev with_comment : Forest
with_comment = Text (codes "a") (Remark (codes "b") Nothing)

-- the last part, of two bytes, doesn't end at the number of nodes
no_byte_is_a_number_of_nodes : (nodes : List Node) (more : List ForestNode) → PartEnds (codes "ab") nodes 0 0 letters more 1 1 → ⊥
no_byte_is_a_number_of_nodes nodes more h = let e : 1 ≡ 2 = h.byte_is in omega (arith, e)

-- a letter before a comment ends neither where the comment ends, nor after all parts
no_part_has_what_follows : (nodes : List Node) (more : List ForestNode) (end : ℕ) → PartEnds (codes "a<!--b-->") nodes 0 0 with_comment more end 9 → ⊥
no_part_has_what_follows nodes more end h = let e : 9 ≡ 1 = h.byte_is in omega (arith, e)

-- ---- runs

abbrev letter : Forest
letter = Text (codes "a") Nothing

not_of_nothing : (after : Forest) → letter ≡ after → 1 ≡ 1 + forest_size after → ⊥
not_of_nothing after is size = let e : 1 ≡ 2 = subst (λ f. 1 ≡ 1 + forest_size f) (sym is) size in omega (arith, e)

letter_not_white : (parts : ℕ) (after : Forest) → AfterParts parts letter after → 1 ≡ 1 + forest_size after → true ≡ is_white (source_of (take_parts parts (parts_of letter))) → ⊥
letter_not_white zero after steps size white = not_of_nothing after steps size
letter_not_white (suc m) after steps size white = let e : true ≡ false = white in cc

-- a letter isn't whitespace, as the first part and as a whole run
no_letter_is_white : (nodes : List Node) (more : List ForestNode) → WholeRun (codes "a") nodes 0 0 letter more 1 1 true → ⊥
no_letter_is_white nodes more h = letter_not_white h.so_far.parts h.so_far.run.after h.so_far.run.steps h.so_far.run.to_is h.so_far.white_is

abbrev bold : Forest
bold = Element (codes "b") [] letter Nothing

abbrev space_and_bold : Forest
space_and_bold = Text (codes " ") bold

nothing_left : (after : Forest) → space_and_bold ≡ after → 3 ≡ 3 + forest_size after → ⊥
nothing_left after is size = let e : 3 ≡ 6 = subst (λ f. 3 ≡ 3 + forest_size f) (sym is) size in omega (arith, e)

bold_left : (after : Forest) → bold ≡ after → 3 ≡ 3 + forest_size after → ⊥
bold_left after is size = let e : 3 ≡ 5 = subst (λ f. 3 ≡ 3 + forest_size f) (sym is) size in omega (arith, e)

bold_not_white : (parts : ℕ) (after : Forest) → AfterParts parts space_and_bold after → 3 ≡ 3 + forest_size after → true ≡ is_white (source_of (take_parts parts (parts_of space_and_bold))) → ⊥
bold_not_white zero after steps size white = nothing_left after steps size
bold_not_white (suc zero) after (next, some, split, same) size white = let rest : bold ≡ next = ap rest_of split in bold_left after (subst (λ f. bold ≡ f) same rest) size
bold_not_white (suc (suc m)) after steps size white = let e : true ≡ false = white in cc

-- a run isn't whitespace because its first part is
no_later_part_is_passed : (nodes : List Node) (more : List ForestNode) → WholeRun (codes " <b>a</b>") nodes 0 0 space_and_bold more 3 9 true → ⊥
no_later_part_is_passed nodes more h = bold_not_white h.so_far.parts h.so_far.run.after h.so_far.run.steps h.so_far.run.to_is h.so_far.white_is

short_of : (after : Forest) → 1 ≡ 1 + forest_size after → 2 ≡ 1 + length (spelling after) → ⊥
short_of Nothing size byte = let e : 2 ≡ 1 = byte in omega (arith, e)
short_of (Text text rest) size byte = omega (arith, size)
short_of (Remark text rest) size byte = omega (arith, size)
short_of (Void name attrs slash rest) size byte = omega (arith, size)
short_of (RawElement name attrs [] rest) size byte = omega (arith, size)
short_of (RawElement name attrs (b ∷ bs) rest) size byte = omega (arith, size)
short_of (Element name attrs children rest) size byte = omega (arith, size)

-- a run of two bytes doesn't end at the number of nodes
no_run_ends_at_a_number_of_nodes : (nodes : List Node) (more : List ForestNode) (white : Bool) → WholeRun (codes "ab") nodes 0 0 letters more 1 1 white → ⊥
no_run_ends_at_a_number_of_nodes nodes more white h = short_of h.so_far.run.after h.so_far.run.to_is h.so_far.run.byte_is
