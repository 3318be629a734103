-- A reader gives the model's value; want of memory says nothing of it.
use Rattle.std.specs.Prelude.{◌≡◌, Option, Some, None, Result, Ok, Err}
use Rattle.model_world.specs.declared.field.Field.{Field}
use Rattle.ve_json.specs.declared.fault.ValueFault.{ValueFault}
use Rattle.ve_json.specs.declared.fault.ValueFault.TheVariants as unread
use Rattle.ve_json.specs.declared.fault.BadMember.{BadMember}
use Rattle.ve_json.specs.declared.fault.BadMember.TheVariants as bad
use Rattle.ve_json.specs.declared.fault.CommandFault.{CommandFault}
use Rattle.ve_json.specs.declared.fault.CommandFault.TheVariants as fault
use Rattle.model_world.specs.declared.refusal.Refusal.TheVariants.{BadCommand}

abbrev pub IsUnread : {A : Type 0} → ValueFault → Option A → Type 0
IsUnread unread.IllFormed meant = meant ≡ None
IsUnread unread.Memory meant = Unit {0}

-- a JSON value is read as what is meant by it, if by anything
abbrev pub Reads : {A : Type 0} → Result A ValueFault → Option A → Type 0
Reads (Ok x) meant = meant ≡ Some x
Reads (Err why) meant = IsUnread why meant

abbrev pub IsBad : {A : Type 0} → BadMember → Result A Field → Type 0
IsBad (bad.Named field) meant = meant ≡ Err field
IsBad bad.Memory meant = Unit {0}

-- members are read as what is meant by them, or the first bad one is named
abbrev pub Gives : {A : Type 0} → Result A BadMember → Result A Field → Type 0
Gives (Ok x) meant = meant ≡ Ok x
Gives (Err why) meant = IsBad why meant

-- a result that is mapped
abbrev pub made_of : {A B : Type 0} → (A → B) → Result A BadMember → Result B BadMember
made_of f (Ok x) = Ok (f x)
made_of f (Err why) = Err why

-- a value that isn't well formed makes its member a bad one
abbrev pub or_bad_member : {A : Type 0} → Field → Result A ValueFault → Result A BadMember
or_bad_member field (Ok x) = Ok x
or_bad_member field (Err unread.IllFormed) = Err (bad.Named field)
or_bad_member field (Err unread.Memory) = Err bad.Memory

-- a bad member is named in the refusal of its line
abbrev pub refusal_of : BadMember → CommandFault
refusal_of (bad.Named field) = fault.Refused (BadCommand field)
refusal_of bad.Memory = fault.Memory
