-- A list after splices at rising positions of it.
use Rattle.std.specs.Prelude.{ℕ, ◌+◌, ◌≤◌, List, [], ◌∷◌, All, length}
use Rattle.ve_base.specs.declared.value.Value.{Value}
use Rattle.model_items.specs.declared.item.Item.{Item}
use Rattle.model_items.specs.Plain.{CitesWell}
use Rattle.ve_items.specs.Substitution.{spliced}
use Rattle.ve_tx.specs.declared.splice.Splice.{Splice}

-- The list after these splices: the last is made first, so each position is the old list's.
abbrev pub spliced_by : List Item → List Splice → List Item
spliced_by items [] = items
spliced_by items (splice ∷ more) = spliced (spliced_by items more) splice.at splice.removed splice.items

-- The splices lie between two positions: each begins at the end of the one before, or later.
abbrev pub LieBetween : (from to : ℕ) → List Splice → Type 0
LieBetween from to [] = from ≤ to
LieBetween from to (splice ∷ more) = (from ≤ splice.at) × LieBetween (splice.at + splice.removed) to more

-- how many items come, together
abbrev pub come_count : List Splice → ℕ
come_count [] = 0
come_count (splice ∷ more) = length splice.items + come_count more

-- how many items go, together
abbrev pub gone_count : List Splice → ℕ
gone_count [] = 0
gone_count (splice ∷ more) = splice.removed + gone_count more

-- each item that comes cites values that stand in the list, and are of the sort that it asks for
abbrev pub AllCite : List Value → List Splice → Type 0
AllCite values splices = All (λ splice. All (CitesWell values) splice.items) splices
