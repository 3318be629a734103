-- Transactions that have one effect, each over its own list of values: for private functions.
use Rattle.std.specs.Prelude.{ℕ, Bool, not, ◌&&◌, List, map, All, is_some, if◌then◌else◌, Option, None}
use Rattle.ve_base.specs.declared.value.Value.{Value}
use Rattle.ve_kinds.specs.declared.kind.Kind.{Kind}
use Rattle.model_items.specs.declared.item.Item.{Item}
use Rattle.model_items.specs.declared.item.Item.TheVariants as item
use Rattle.model_items.specs.Plain.{value_at}
use Rattle.model_change.specs.Attributes.{AttrChange}
use Rattle.ve_tx.specs.Copied.{Stands}
use Rattle.ve_tx.specs.Operation.{Operation, Retain, Replace, Attribute}

-- an item with the values that it cites
pub data Seen : Type 0 where
  Char : (ch : ℕ) (marks : Option Value) → Seen
  Opening : (kind : Kind) (generated : Bool) (head marks pre : Option Value) (origin : Option ℕ) → Seen
  Closing : (kind : Kind) (pre : Option Value) → Seen

abbrev pub seen : List Value → Item → Seen
seen values (item.Char ch marks) = Char ch (value_at values marks)
seen values (item.Opening kind generated head marks pre origin) =
    Opening kind generated (value_at values head) (value_at values marks) (value_at values pre) origin
seen values (item.Closing kind pre) = Closing kind (value_at values pre)

-- what is cited stands in the list
abbrev pub AreCited : List Value → Item → Type 0
AreCited values (item.Char ch marks) = Stands values marks
AreCited values (item.Opening kind generated head marks pre origin) = Stands values head × Stands values marks × Stands values pre
AreCited values (item.Closing kind pre) = Stands values pre

-- the position that an attribute operation keeps; none where it removes its attribute
abbrev pub settled_kept : (from to : Option (List ℕ)) → Option ℕ → Option ℕ
settled_kept from to kept = if is_some from && not (is_some to) then None else kept

abbrev pub settled : AttrChange → AttrChange
settled c = record { name = c.name; from = c.from; to = c.to; kept = settled_kept c.from c.to c.kept }

-- an operation with the values that it cites
pub data SeenOp : Type 0 where
  Retained : (count : ℕ) → SeenOp
  Replaced : (removed inserted : List Seen) → SeenOp
  Changed : (change : AttrChange) → SeenOp

abbrev pub seen_op : List Value → Operation → SeenOp
seen_op values (Retain count) = Retained count
seen_op values (Replace removed inserted) = Replaced (map (seen values) removed) (map (seen values) inserted)
seen_op values (Attribute change) = Changed (settled change)

abbrev pub OpIsCited : List Value → Operation → Type 0
OpIsCited values (Retain count) = Unit {0}
OpIsCited values (Replace removed inserted) = All (AreCited values) removed × All (AreCited values) inserted
OpIsCited values (Attribute change) = Unit {0}

abbrev pub seen_tx : List Value → List Operation → List SeenOp
seen_tx values tx = map (seen_op values) tx
