-- Fragments, by their text and the kinds that are open where each is to stand, innermost first.
use Rattle.std.specs.Prelude.{◌≡◌, ℕ, Bool, false, ◌&&◌, if◌then◌else◌, All, List, [], ◌∷◌, ◌++◌, chars, map, Some, None, Option, Result, Ok, Err}
use Rattle.ve_base.specs.Empty.{empty_head}
use Rattle.ve_base.specs.declared.value.Value.{Value}
use Rattle.ve_kinds.specs.declared.kind.Kind.{Kind}
use Rattle.ve_kinds.specs.declared.kind.Kind.TheVariants.{P}
use Rattle.ve_kinds.specs.Table.{is_flow}
use Rattle.model_items.specs.declared.item.Item.{Item}
use Rattle.model_items.specs.declared.plain_item.PlainItem.{PlainItem}
use Rattle.model_items.specs.declared.plain_item.PlainItem.TheVariants.{Char, Opening, Closing}
use Rattle.model_items.specs.Plain.{plain_list, CitesWell}
use Rattle.model_change.specs.Store.{cited, fill}
use Rattle.model_spelling.specs.Faults.{ForestFault, fault_of}
use Rattle.model_spelling.specs.Parsed.{forest_of}
use Rattle.model_page.specs.Elements.{is_white}
use Rattle.model_page.specs.Fragment.{fragment_items, item_unmade, pieces_in}
use Rattle.model_page.specs.Limits.{fragment_limit}
use Rattle.model_page.specs.PageItems.{or_nothing}
use Rattle.ve_read.specs.declared.fragments.FragmentFault.{FragmentFault}
use Rattle.ve_read.specs.declared.fragments.FragmentFault.TheVariants as fault
use Rattle.ve_read.specs.Faults.{HasFault}
use Rattle.ve_read.specs.Forests.{parts_in}
use Rattle.ve_read.specs.Pages.{spelled_fault}

-- its items
abbrev pub fragment_in : List Kind → List ℕ → List PlainItem
fragment_in stack text = fragment_items stack (or_nothing (forest_of text))

-- the byte of its first annotation inside of too many marks
abbrev pub limit_in : List Kind → List ℕ → Option ℕ
limit_in stack text = fragment_limit stack (or_nothing (forest_of text))

-- It is refused for its spelling, and then for its marks, unless memory ran out.
abbrev pub RefusesFragment : FragmentFault → List Kind → List ℕ → Type 0
RefusesFragment (fault.Html f) stack text = HasFault (spelled_fault f) (fault_of text)
RefusesFragment (fault.TooManyMarks at) stack text = (fault_of text ≡ None) × (limit_in stack text ≡ Some at)
RefusesFragment fault.Memory stack text = Unit {0}

-- ---- these serve private functions

abbrev pub IsMisspelled : FragmentFault → Option ForestFault → Type 0
IsMisspelled (fault.Html f) first = HasFault (spelled_fault f) first
IsMisspelled (fault.TooManyMarks at) first = ⊥
IsMisspelled fault.Memory first = Unit {0}

abbrev pub IsOverMarks : FragmentFault → Option ℕ → Type 0
IsOverMarks (fault.Html f) limit = ⊥
IsOverMarks (fault.TooManyMarks at) limit = limit ≡ Some at
IsOverMarks fault.Memory limit = Unit {0}

-- no annotation is inside of too many marks where it was read, and else this one is
abbrev pub OverMarks : {A : Type 0} → Result A FragmentFault → Option ℕ → Type 0
OverMarks (Ok x) limit = limit ≡ None
OverMarks (Err e) limit = IsOverMarks e limit

-- the conversion of the text as the inside of a node of the kind
abbrev pub pieces_of : Kind → List ℕ → List PlainItem
pieces_of kind text = map item_unmade (pieces_in kind (parts_in text)).later.items

-- a paragraph of these characters
abbrev pub paragraph_of : List ℕ → List PlainItem
paragraph_of text = Opening P empty_head [] [] None false ∷ map (λ c. Char c []) text ++ Closing P [] ∷ []

-- it is whitespace alone where blocks may stand
abbrev pub is_blank_in : Kind → List ℕ → Bool
is_blank_in kind text = is_flow kind && is_white text

-- the conversion of the text in the open kind that it fits
abbrev pub items_in : Kind → List ℕ → List PlainItem
items_in kind text = if is_blank_in kind text then paragraph_of (chars text) else pieces_of kind text

-- These are its items there, and the values became more by just what they cite.
pub record IsReadIn (kind : Kind) (text : List ℕ) (old new : List Value) (made : List Item) : Type 0 where
  pub items : plain_list new made ≡ items_in kind text
  pub cites : All (CitesWell new) made
  pub filled : new ≡ fill old (cited (items_in kind text))
