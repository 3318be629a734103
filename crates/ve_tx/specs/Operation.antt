-- The view of a transaction, and its meaning by value.
use Rattle.std.specs.Prelude.{◌≡◌, ℕ, zero, suc, Bool, true, false, List, [], ◌∷◌, map, Option, None}
use Rattle.ve_base.specs.declared.value.Value.{Value}
use Rattle.model_items.specs.declared.item.Item.{Item}
use Rattle.model_items.specs.Plain.{plain_list}
use Rattle.model_change.specs.Attributes.{AttrChange}
use Rattle.model_change.specs.Transaction.{Transaction, is_normal}
use Rattle.model_change.specs.Transaction.{Op as ModelOp}
use Rattle.model_change.specs.Transaction as model
use Rattle.ve_tx.specs.declared.op.Op.{Op}
use Rattle.ve_tx.specs.declared.op.Op.TheVariants as op

-- an operation with the position that its attribute keeps
pub data Operation : Type 0 where
  Retain : (count : ℕ) → Operation
  Replace : (removed inserted : List Item) → Operation
  Attribute : (change : AttrChange) → Operation

abbrev pub with_position : Op → Option ℕ → Operation
with_position (op.Retain count) kept = Retain count
with_position (op.Replace removed inserted) kept = Replace removed inserted
with_position (op.Attribute name from to) kept = Attribute (record { name = name; from = from; to = to; kept = kept })

-- each operation with its position; those that have none beside them keep none
abbrev pub with_positions : List Op → List (Option ℕ) → List Operation
with_positions [] kept = []
with_positions (o ∷ ops) [] = with_position o None ∷ with_positions ops []
with_positions (o ∷ ops) (k ∷ kept) = with_position o k ∷ with_positions ops kept

-- operations that keep no position
abbrev pub unkept : List Op → List Operation
unkept = map (λ o. with_position o None)

-- without its position
abbrev pub bare : Operation → Op
bare (Retain count) = op.Retain count
bare (Replace removed inserted) = op.Replace removed inserted
bare (Attribute change) = op.Attribute change.name change.from change.to

-- an operation over the values that its items cite
abbrev pub operation_by_value : List Value → Operation → ModelOp
operation_by_value values (Retain count) = model.Retain count
operation_by_value values (Replace removed inserted) = model.Replace (plain_list values removed) (plain_list values inserted)
operation_by_value values (Attribute change) = model.Attribute change

-- a transaction over the values that its items cite
abbrev pub by_value : List Value → List Operation → Transaction
by_value values = map (operation_by_value values)

-- The normal form, whatever the values are.
abbrev pub IsNormal : List Operation → Type 0
IsNormal tx = (values : List Value) → is_normal (by_value values tx) ≡ true

abbrev pub is_setting : Op → Bool
is_setting (op.Attribute name from to) = true
is_setting (op.Retain count) = false
is_setting (op.Replace removed inserted) = false

abbrev pub kept_by : Operation → Option ℕ
kept_by (Attribute change) = change.kept
kept_by (Retain count) = None
kept_by (Replace removed inserted) = None

-- the position that operation k keeps
abbrev pub kept_at : List Operation → ℕ → Option ℕ
kept_at [] k = None
kept_at (o ∷ ops) zero = kept_by o
kept_at (o ∷ ops) (suc k) = kept_at ops k
