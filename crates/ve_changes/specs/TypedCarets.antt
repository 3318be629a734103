-- Where a text ends that operations insert, whatever values their items cite.
use Rattle.std.specs.Prelude.{◌≡◌, ℕ, List, [], ◌∷◌, ◌++◌, flat_map, length}
use Rattle.ve_base.specs.declared.value.Value.{Value}
use Rattle.model_items.specs.declared.item.Item.{Item}
use Rattle.model_items.specs.Plain.{plain_list}
use Rattle.model_world.specs.Answers.{to_last_char}
use Rattle.ve_tx.specs.declared.op.Op.{Op}
use Rattle.ve_tx.specs.declared.op.Op.TheVariants.{Retain, Replace, Attribute}
use Rattle.ve_changes.specs.declared.caret.Seen.{Seen}

abbrev pub inserted_of : Op → List Item
inserted_of (Retain count) = []
inserted_of (Replace removed inserted) = inserted
inserted_of (Attribute name from to) = []

abbrev pub inserted_items : List Op → List Item
inserted_items ops = flat_map inserted_of ops

-- how many items the operations pass first
abbrev pub first_of : List Op → ℕ
first_of (Retain count ∷ ops) = count
first_of _ = 0

-- So many items were seen, and the last character is the one just before this position.
pub record HasSeen (items : List Item) (seen : Seen) : Type 0 where
  pub count : seen.count ≡ length items
  pub last : (values : List Value) → seen.last ≡ to_last_char (plain_list values items)

-- the items seen before, and then more
abbrev pub SeesMore : Seen → List Item → Seen → Type 0
SeesMore seen items next = (before : List Item) → HasSeen before seen → HasSeen (before ++ items) next
