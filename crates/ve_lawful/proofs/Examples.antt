-- Worked examples of the definitions.
use Rattle.std.specs.Prelude.{◌≡◌, [], ◌∷◌, None, Some, Ok, Err, false, refl}
use Rattle.ve_kinds.specs.declared.kind.Kind.{Kind}
use Rattle.ve_kinds.specs.declared.kind.Kind.TheVariants.{P, Div, Root, Section, InternalList}
use Rattle.model_items.specs.declared.item.Item.{Item}
use Rattle.model_items.specs.declared.item.Item.TheVariants.{Char, Opening, Closing}
use Rattle.model_items.specs.declared.law_fault.LawFault.TheVariants.{Unlawful}
use Rattle.model_items.specs.Law as law
use Rattle.ve_lawful.specs.Stack.{stack_of}
use Rattle.ve_lawful.specs.Uncited.{after, verdict}

top_last : stack_of (Div ∷ P ∷ Root ∷ []) 2 ≡ P ∷ Div ∷ []
top_last = refl

abbrev opening : Kind → Item
opening kind = Opening kind false None None None None

abbrev letter : Item
letter = Char 97 (Some (record { 0 = 3 }))

-- a letter stands in a paragraph, whatever its marks are
in_paragraph : after law.start (opening P ∷ letter ∷ Closing P None ∷ []) ≡ Ok law.start
in_paragraph = refl

not_in_the_root : after law.start (opening P ∷ Closing P None ∷ letter ∷ []) ≡ Err (Unlawful 2)
not_in_the_root = refl

-- a list ends with the internal list
ends : verdict (opening InternalList ∷ Closing InternalList None ∷ []) ≡ None
ends = refl

ends_early : verdict (opening P ∷ Closing P None ∷ []) ≡ Some (Unlawful 2)
ends_early = refl

not_in_a_section : verdict (opening Section ∷ opening InternalList ∷ []) ≡ Some (Unlawful 1)
not_in_a_section = refl
