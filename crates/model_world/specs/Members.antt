-- The members of a command, in order: the first that is missing or ill-formed is named.
use Rattle.std.specs.Prelude.{Option, Some, None, Result, Ok, Err}
use Rattle.serde_json.specs.Data.{Data, Members}
use Rattle.model_world.specs.declared.field.Field.{Field}
use Rattle.model_world.specs.Names.{field_name}
use Rattle.model_world.specs.Values.{member_in, member_or}

-- readers of the members of a command
abbrev pub Reader : Type 0 → Type 0
Reader A = Members → Result A Field

-- the members after one that is well formed
infixl 10 ◌>>=◌
abbrev pub ◌>>=◌ : {A B : Type 0} → Result A Field → (A → Result B Field) → Result B Field
(Ok x) >>= read = read x
(Err field) >>= read = Err field

abbrev pub or_bad : {A : Type 0} → Field → Option A → Result A Field
or_bad field None = Err field
or_bad field (Some x) = Ok x

-- a member that has to be there
abbrev pub required_member : {A : Type 0} → Field → (Data → Option A) → Reader A
required_member field read members = or_bad field (member_in (field_name field) read members)

-- a member that may be absent; `null` is not an absent one
abbrev pub optional_member : {A : Type 0} → Field → A → (Data → Option A) → Reader A
optional_member field default read members = or_bad field (member_or (field_name field) default read members)

-- a reader whose result is mapped
abbrev pub map_reader : {A B : Type 0} → (A → B) → Reader A → Reader B
map_reader f read members = do
  x ← read members
  Ok (f x)
