-- A reference, its body in the internal list, and a reference to the same body there, by
-- computation.
use Rattle.std.proofs.Common.{◌≡◌, Bool, true, false, List, [], ◌∷◌, ◌++◌, refl}
use Rattle.std.specs.Prelude.{Some, None, codes}
use Rattle.ve_base.specs.declared.head.Head.{Head}
use Rattle.ve_base.specs.declared.head.Key.TheVariants.{Auto}
use Rattle.ve_base.specs.declared.head.RefKey.{RefKey}
use Rattle.ve_base.specs.Empty.{empty_head}
use Rattle.ve_kinds.specs.declared.kind.Kind.TheVariants.{P, Ref, InternalList, InternalItem}
use Rattle.model_items.specs.declared.plain_item.PlainItem.{PlainItem}
use Rattle.model_items.specs.declared.plain_item.PlainItem.TheVariants.{Char, Opening, Closing}
use Rattle.model_page.proofs.OnLiterals.{page_on_literals}
use Rattle.model_page.specs.References.{table}
use Rattle.ve_write.specs.BodyTexts.{carried_outside, notes_place, text_at, text_by}

abbrev first_key : RefKey
first_key = record { group = []; key = Auto 1 }

abbrev naming : Bool → Head
naming owner = record { tag = codes "sup"; attrs = []; raw = []; reference = Some first_key; owner = owner }

abbrev reference : Bool → List PlainItem → List PlainItem
reference owner items = Opening Ref (naming owner) [] [] None false ∷ Closing Ref [] ∷ items

-- in the body: a paragraph with a letter and the other reference, and a line feed after it
abbrev items : List PlainItem
items =
    Opening P empty_head [] [] None false ∷ reference true (Closing P [] ∷ Opening InternalList empty_head [] [] None false ∷ Opening InternalItem (naming false) [] [] None false
    ∷ Opening P empty_head [] [] None false ∷ Char 98 [] ∷ reference false (Closing P [] ∷ Closing InternalItem (10 ∷ []) ∷ Closing InternalList [] ∷ []))

list_opens : notes_place items ≡ 4
list_opens = refl

no_list : notes_place (Char 98 [] ∷ []) ≡ 1
no_list = refl

-- a reference in a body carries none
body_written : text_at items 5 ≡ codes "<p>b<sup></sup></p>" ++ 10 ∷ []
unfolding page_on_literals
body_written = refl

first_carries : text_by items (table items) 1 ≡ Some (codes "<p>b<sup></sup></p>" ++ 10 ∷ [])
unfolding page_on_literals
first_carries = refl

no_reference : text_by items (table items) 0 ≡ None
unfolding page_on_literals
no_reference = refl

other_carries_none : text_by items (table items) 8 ≡ None
unfolding page_on_literals
other_carries_none = refl

-- the one that carries it, had it stood in the internal list
inside_carries_none : carried_outside 4 (record { at = 8; key = first_key; number = 1; carrier = true; body_at = Some 5 }) ≡ None
inside_carries_none = refl

outside_carries : carried_outside 4 (record { at = 1; key = first_key; number = 1; carrier = true; body_at = Some 5 }) ≡ Some 5
outside_carries = refl
