-- How many steps are counted on an empty paragraph: a character touches the root and the paragraph,
-- which it makes longer, and its own text node.
use Rattle.std.proofs.Common.{◌≡◌, ◌+◌, false, List, [], ◌∷◌, ◌++◌, None, refl}
use Rattle.ve_base.specs.declared.head.Head.{Head}
use Rattle.ve_kinds.specs.declared.kind.Kind.TheVariants.{P}
use Rattle.model_items.specs.declared.plain_item.PlainItem.{PlainItem}
use Rattle.model_items.specs.declared.plain_item.PlainItem.TheVariants.{Char, Closing, Opening}
use Rattle.model_change.specs.Transaction.{Replace, Retain, Transaction}
use Rattle.model_change.specs.Cost.{cost_of_transaction, cost_of_transactions}
use Rattle.ve_editor.specs.Counted.{steps_besides, steps_over}

abbrev head : Head
head = record { tag = []; attrs = []; raw = []; reference = None; owner = false }

abbrev empty : List PlainItem
empty = Opening P head [] [] None false ∷ Closing P [] ∷ []

abbrev letter : List PlainItem
letter = Char 97 [] ∷ []

abbrev typing : Transaction
typing = Retain 1 ∷ Replace [] letter ∷ Retain 1 ∷ []

abbrev erasing : Transaction
erasing = Retain 1 ∷ Replace letter [] ∷ Retain 1 ∷ []

-- one transaction is made in place: three nodes
one_alone : steps_over (typing ∷ []) empty ≡ 40
one_alone = refl

-- two are made on a trial, while a page without text stands there
two_on_a_trial : steps_over (typing ∷ erasing ∷ []) empty ≡ 8 + (40 + 40)
two_on_a_trial = refl

-- where none is made nothing is counted
none_counts_nothing : steps_over [] empty ≡ 0
none_counts_nothing = refl

-- without that page
only_transactions : cost_of_transactions (typing ∷ erasing ∷ []) empty ≡ 40 + 40
only_transactions = refl

nothing_besides_one : steps_besides (erasing ∷ []) ≡ 0
nothing_besides_one = refl

-- a paragraph before it is not touched
abbrev typing_below : Transaction
typing_below = Retain 3 ∷ Replace [] letter ∷ Retain 1 ∷ []

others_are_not_counted : cost_of_transaction typing_below (empty ++ empty) ≡ 40
others_are_not_counted = refl
