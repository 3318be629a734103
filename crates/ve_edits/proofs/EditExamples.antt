-- Collected edits, the nodes that are open round an offset, and refusals, at examples.
use Rattle.std.proofs.Common.{◌≡◌, ℕ, List, [], ◌∷◌, None, Ok, Err, inl, inr, refl, false}
use Rattle.ve_kinds.specs.declared.kind.Kind.{Kind}
use Rattle.ve_kinds.specs.declared.kind.Kind.TheVariants.{Ul, Li, P}
use Rattle.model_items.specs.declared.item.Item.{Item}
use Rattle.model_items.specs.declared.item.Item.TheVariants.{Char, Opening, Closing}
use Rattle.model_items.specs.Plain.{plain_list}
use Rattle.model_change.specs.Transaction.{Retain, Transaction}
use Rattle.model_edit.specs.Causes.{BadRange}
use Rattle.model_edit.specs.Edits.{Change, transaction_of}
use Rattle.model_edit.specs.declared.build_fault.BuildFault.{BuildFault}
use Rattle.model_edit.specs.declared.build_fault.BuildFault.TheVariants as fault
use Rattle.ve_tx.specs.declared.op.Op.TheVariants as op
use Rattle.ve_edits.specs.Collected.{Collected, collected_transaction}
use Rattle.ve_edits.specs.Refused.{IsRefusal}
use Rattle.ve_edits.specs.Round.{IsOpeningRound}

abbrev letter : ℕ → Item
letter c = Char c None

abbrev opening : Kind → Item
opening kind = Opening kind false None None None None

abbrev closing : Kind → Item
closing kind = Closing kind None

-- a list with two items, the second with a letter after its paragraph's first
abbrev page : List Item
page =
    opening Ul ∷ opening Li ∷ opening P ∷ letter 97 ∷ closing P ∷ closing Li ∷ opening Li ∷ opening P ∷ letter 98 ∷ letter 99 ∷ closing P ∷ closing Li ∷ closing Ul ∷ []

-- the letter b is replaced by two others, and nothing is after it yet
abbrev one_edit : Collected
one_edit = record { at = 9; ops = []; retained = 8; removed = letter 98 ∷ []; inserted = letter 120 ∷ letter 121 ∷ [] }

one_edit_shown : collected_transaction [] one_edit (Retain 4 ∷ []) ≡ transaction_of (plain_list [] page) (Change 8 1 (plain_list [] (letter 120 ∷ letter 121 ∷ [])) ∷ [])
one_edit_shown = refl

-- the closing of the paragraph goes, too: what is pending was put down, since an item lies between
abbrev two_edits : Collected
two_edits = record {
  at = 11;
  ops = op.Retain 8 ∷ op.Replace (letter 98 ∷ []) (letter 120 ∷ []) ∷ [];
  retained = 1;
  removed = closing P ∷ [];
  inserted = [];
}

two_edits_shown :
    collected_transaction [] two_edits (Retain 2 ∷ []) ≡ transaction_of (plain_list [] page) (Change 8 1 (plain_list [] (letter 120 ∷ [])) ∷ Change 10 1 [] ∷ [])
two_edits_shown = refl

-- after the letter b the second paragraph is open, and round it the second list item, and round
-- that the list
paragraph_round : IsOpeningRound [] page 9 7
paragraph_round = record { item = opening P; kind = P; there = refl; opens = refl; openings = refl }

item_round : IsOpeningRound [] page 7 6
item_round = record { item = opening Li; kind = Li; there = refl; opens = refl; openings = refl }

list_round : IsOpeningRound [] page 6 0
list_round = record { item = opening Ul; kind = Ul; there = refl; opens = refl; openings = refl }

-- a refusal is told by the fault of its name, with its positions
told : IsRefusal (fault.BadRange 3 2) (Err (BadRange 3 2))
told = inr (BadRange 3 2, refl, refl)

not_turned_round : IsRefusal (fault.BadRange 2 3) (Err (BadRange 3 2)) → ⊥
not_turned_round (inl h) = cc
not_turned_round (inr (BadRange from to, meant, is)) = cc
not_turned_round (inr (cause, meant, is)) = cc

-- where the model doesn't refuse, only want of memory does
only_memory : (t : Transaction) (f : BuildFault) → IsRefusal f (Ok t) → f ≡ fault.Memory
only_memory t f (inl h) = h
only_memory t f (inr (cause, meant, is)) = absurd (cc)
