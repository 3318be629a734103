-- Changes with what they take from the page as it was first read: an opening with an origin is the
-- one that was read for it.
use Rattle.std.specs.Prelude.{ℕ, ◌==◌, if◌then◌else◌, List, [], ◌∷◌, map, Option, Some, None, Result, Ok, Err}
use Rattle.ve_base.specs.declared.head.Head.{Head}
use Rattle.ve_kinds.specs.declared.kind.Kind.{Kind}
use Rattle.ve_kinds.specs.Table.{is_element, kind_same}
use Rattle.model_items.specs.declared.plain_item.PlainItem.{PlainItem}
use Rattle.model_items.specs.declared.plain_item.PlainItem.TheVariants.{Char, Opening, Closing}
use Rattle.model_world.specs.declared.edit_command.OpWords.{OpWords}
use Rattle.model_world.specs.declared.edit_command.OpWords.TheVariants as op
use Rattle.model_world.specs.declared.edit_command.EditCommand.{EditCommand}
use Rattle.model_world.specs.declared.edit_command.EditCommand.TheVariants as change

-- the kind and the head of the opening that was read for an origin
abbrev pub read_for : ℕ → List PlainItem → Option (Kind × Head)
read_for n [] = None
read_for n (Opening kind head marks pre (Some origin) generated ∷ items) = if origin == n then Some (kind, head) else read_for n items
read_for n (Opening kind head marks pre None generated ∷ items) = read_for n items
read_for n (Char ch marks ∷ items) = read_for n items
read_for n (Closing kind pre ∷ items) = read_for n items

-- An element keeps its own head, and a leaf that no tag spells has that which was read. The origin
-- is bad where no opening, or one of another kind, was read for it.
abbrev pub head_for : Kind → Head → Option (Kind × Head) → Option Head
head_for kind head None = None
head_for kind head (Some first) = if kind_same kind first.0 then Some (if is_element kind then head else first.1) else None

-- the item, or its bad origin
abbrev pub item_completed : (opened : List PlainItem) → PlainItem → Result PlainItem ℕ
item_completed opened (Opening kind head marks pre (Some origin) generated) = elim (head_for kind head (read_for origin opened)) [
  | None ↦ Err origin
  | Some found ↦ Ok (Opening kind found marks pre (Some origin) generated)
]
item_completed opened (Opening kind head marks pre None generated) = Ok (Opening kind head marks pre None generated)
item_completed opened (Char ch marks) = Ok (Char ch marks)
item_completed opened (Closing kind pre) = Ok (Closing kind pre)

-- of several, the first bad origin
abbrev pub all_completed : {A : Type 0} → (A → Result A ℕ) → List A → Result (List A) ℕ
all_completed one [] = Ok []
all_completed one (x ∷ xs) = elim (one x) [
  | Err origin ↦ Err origin
  | Ok done ↦ elim (all_completed one xs) [
    | Err origin ↦ Err origin
    | Ok rest ↦ Ok (done ∷ rest)
  ]
]

abbrev pub op_completed : (opened : List PlainItem) → OpWords → Result OpWords ℕ
op_completed opened (op.Retain count) = Ok (op.Retain count)
op_completed opened (op.Remove count insert) = elim (all_completed (item_completed opened) insert) [
  | Err origin ↦ Err origin
  | Ok items ↦ Ok (op.Remove count items)
]
op_completed opened (op.Attr name to) = Ok (op.Attr name to)

-- the change, of a page that was first read as these items
abbrev pub completed : (opened : List PlainItem) → EditCommand → EditCommand
completed opened (change.Apply ops) = elim (all_completed (op_completed opened) ops) [
  | Err origin ↦ change.NoOrigin origin
  | Ok done ↦ change.Apply done
]
completed opened other = other
