-- Worked examples: what a fragment is where kinds are open, what refuses it, and how items cite
-- anew.
use Rattle.std.specs.Prelude.{◌≡◌, ℕ, false, [], ◌∷◌, ◌++◌, Some, None, Err, codes, refl}
use Rattle.std.specs.List.{repeat}
use Rattle.ve_base.specs.Empty.{empty_head}
use Rattle.ve_base.specs.declared.value.Value.TheVariants as value
use Rattle.ve_base.specs.declared.value.ValueId.{ValueId}
use Rattle.ve_kinds.specs.declared.kind.Kind.TheVariants.{P, H2, Div}
use Rattle.model_items.specs.declared.item.Item.TheVariants as item
use Rattle.model_items.specs.declared.plain_item.PlainItem.TheVariants.{Char, Opening, Closing}
use Rattle.model_spelling.specs.Faults as spelling
use Rattle.model_page.proofs.OnLiterals.{page_on_literals}
use Rattle.ve_html_tree.specs.declared.fault.HtmlFault.TheVariants as html
use Rattle.ve_read.specs.declared.fragments.FragmentFault.TheVariants as fault
use Rattle.ve_read.specs.Anew.{StandThere, id_anew, item_anew}
use Rattle.ve_read.specs.Fragments.{RefusesFragment, IsMisspelled, OverMarks, fragment_in, limit_in, paragraph_of, pieces_of}

-- ---- items

-- a heading isn't content, so it leaves the paragraph, and the text in it has no generated
-- paragraph
heading : fragment_in (P ∷ []) (codes "<h2>x</h2>") ≡ Opening H2 empty_head [] [] None false ∷ Char 120 [] ∷ Closing H2 [] ∷ []
unfolding page_on_literals
heading = refl

-- whitespace alone is a paragraph where blocks may stand, and characters in content
white_among_blocks : fragment_in [] (codes "  ") ≡ Opening P empty_head [] [] None false ∷ Char 32 [] ∷ Char 32 [] ∷ Closing P [] ∷ []
unfolding page_on_literals
white_among_blocks = refl

white_in_content : fragment_in (P ∷ []) (codes "  ") ≡ Char 32 [] ∷ Char 32 [] ∷ []
unfolding page_on_literals
white_in_content = refl

paragraph_of_two : paragraph_of (codes "ab") ≡ Opening P empty_head [] [] None false ∷ Char 97 [] ∷ Char 98 [] ∷ Closing P [] ∷ []
paragraph_of_two = refl

-- a run among blocks is a paragraph that isn't generated
run_among_blocks : pieces_of Div (codes "a<p>b</p>") ≡ Opening P empty_head [] [] None false ∷ Char 97 [] ∷ Closing P [] ∷ Opening P empty_head [] [] None false ∷ Char 98 [] ∷ Closing P [] ∷ []
unfolding page_on_literals
run_among_blocks = refl

-- ---- refusals

one_mark_too_many : RefusesFragment (fault.TooManyMarks 192) (P ∷ []) (repeat 65 (codes "<b>") ++ codes "a" ++ repeat 65 (codes "</b>"))
unfolding page_on_literals
one_mark_too_many = (refl, refl)

as_many_as_may_be : limit_in (P ∷ []) (repeat 64 (codes "<b>") ++ codes "a" ++ repeat 64 (codes "</b>")) ≡ None
unfolding page_on_literals
as_many_as_may_be = refl

unclosed : RefusesFragment (fault.Html (html.Unclosed 0)) [] (codes "<b>")
unfolding page_on_literals
unclosed = refl

-- want of memory may come where nothing is wrong, and never stands in a fault of the spelling
memory_may_come : RefusesFragment fault.Memory [] []
memory_may_come = tt

memory_is_no_misspelling : IsMisspelled (fault.Html html.Memory) (Some (spelling.Unclosed 0)) ≡ ⊥
memory_is_no_misspelling = refl

marks_are_counted : OverMarks {A = ℕ} (Err (fault.TooManyMarks 7)) (Some 7)
marks_are_counted = refl

-- ---- citing anew

abbrev at_ : ℕ → ValueId
at_ n = record { 0 = n }

-- the second value is cited where it stands there
second_anew : id_anew (at_ 5 ∷ at_ 3 ∷ []) (Some (at_ 1)) ≡ Some (at_ 3)
second_anew = refl

nothing_anew : id_anew (at_ 5 ∷ []) None ≡ None
nothing_anew = refl

opening_anew : item_anew (at_ 5 ∷ at_ 3 ∷ []) (item.Opening P false (Some (at_ 1)) None (Some (at_ 0)) None) ≡ item.Opening P false (Some (at_ 3)) None (Some (at_ 5)) None
opening_anew = refl

letter_anew : item_anew (at_ 5 ∷ []) (item.Char 97 (Some (at_ 0))) ≡ item.Char 97 (Some (at_ 5))
letter_anew = refl

-- two values, turned round after another one
turned_round : StandThere (value.White (codes " ") ∷ value.White (codes "  ") ∷ []) (value.White (codes "\n") ∷ value.White (codes "  ") ∷ value.White (codes " ") ∷ []) (at_ 2 ∷ at_ 1 ∷ [])
turned_round = refl
