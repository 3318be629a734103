-- Values by which items may be references.
use Rattle.std.specs.Prelude.{Bool, false, is_some}
use Rattle.ve_base.specs.declared.value.Value.{Value}
use Rattle.ve_base.specs.declared.value.Value.TheVariants as value

-- the value is a head with a key: an item that cites it may be a reference, and no other may
abbrev pub may_refer : Value → Bool
may_refer (value.White text) = false
may_refer (value.Marks marks) = false
may_refer (value.Head head) = is_some head.reference
