-- Changes with what they take from the page as it was first read, of which an origin's row says
-- where its opening stands.
use Rattle.std.specs.Prelude.{◌≡◌, ◌<◌, ◌≤◌, ℕ, Bool, false, List, length, slice_get, All, Option, Some, None, is_some, Result, Ok, Err}
use Rattle.std.specs.List.{list_any}
use Rattle.ve_base.specs.declared.head.Head.{Head}
use Rattle.ve_base.specs.declared.value.Value.{Value}
use Rattle.ve_kinds.specs.declared.kind.Kind.{Kind}
use Rattle.model_items.specs.declared.item.Item.{Item}
use Rattle.model_items.specs.declared.plain_item.PlainItem.{PlainItem}
use Rattle.model_items.specs.declared.plain_item.PlainItem.TheVariants.{Char, Opening, Closing}
use Rattle.model_items.specs.Plain.{plain, plain_list, CitesWell}
use Rattle.model_world.specs.Completed.{head_for, read_for}
use Rattle.model_world.specs.declared.edit_command.OpWords.{OpWords}
use Rattle.model_world.specs.declared.edit_command.OpWords.TheVariants as op
use Rattle.model_world.specs.declared.edit_command.EditCommand.{EditCommand}
use Rattle.model_world.specs.declared.edit_command.EditCommand.TheVariants as change
use Rattle.ve_origin.specs.declared.origin.OriginRow.{OriginRow}
use Rattle.ve_changes.specs.declared.completion.Uncompleted.{Uncompleted}
use Rattle.ve_changes.specs.declared.completion.Uncompleted.TheVariants as not_done
use Rattle.ve_changes.specs.declared.first.FirstItems.{FirstItems}

-- ---- the page as it was first read

-- its items by value
abbrev pub first_items : FirstItems → List PlainItem
first_items first = plain_list first.store.now first.list.now.items

abbrev pub opening_of : PlainItem → Option (Kind × Head)
opening_of (Opening kind head marks pre origin generated) = Some (kind, head)
opening_of (Char ch marks) = None
opening_of (Closing kind pre) = None

-- The item where an origin's row begins is the opening that was read for it, and no opening was
-- read for an origin without a row.
pub record FindsFirst (store : List Value) (items : List Item) (rows : List OriginRow) : Type 0 where
  pub cites : All (CitesWell store) items
  pub within : (k : ℕ) (row : OriginRow) → slice_get rows k ≡ Some row → row.from < length items
  pub found : (k : ℕ) (row : OriginRow) (item : Item) → slice_get rows k ≡ Some row → slice_get items row.from ≡ Some item →
      read_for k (plain_list store items) ≡ opening_of (plain store item)
  pub others : (k : ℕ) → length rows ≤ k → read_for k (plain_list store items) ≡ None

-- ---- completed

abbrev pub IsUncompleted : {A : Type 0} → Uncompleted → Result A ℕ → Type 0
IsUncompleted (not_done.NoOrigin origin) meant = meant ≡ Err origin
IsUncompleted not_done.Memory meant = Unit {0}

-- what is meant, or its bad origin; want of memory says nothing of it
abbrev pub Completes : {A : Type 0} → Result A Uncompleted → Result A ℕ → Type 0
Completes (Ok x) meant = meant ≡ Ok x
Completes (Err why) meant = IsUncompleted why meant

-- the head of an opening, or its bad origin
abbrev pub head_completed : (opened : List PlainItem) → Kind → Head → Option ℕ → Result Head ℕ
head_completed opened kind head None = Ok head
head_completed opened kind head (Some origin) = elim (head_for kind head (read_for origin opened)) [
  | None ↦ Err origin
  | Some found ↦ Ok found
]

-- ---- what takes something from there

abbrev pub has_origin : PlainItem → Bool
has_origin (Opening kind head marks pre origin generated) = is_some origin
has_origin (Char ch marks) = false
has_origin (Closing kind pre) = false

abbrev pub inserts_first : OpWords → Bool
inserts_first (op.Remove count insert) = list_any has_origin insert
inserts_first (op.Retain count) = false
inserts_first (op.Attr name to) = false

-- it inserts an opening with an origin
abbrev pub takes_first : EditCommand → Bool
takes_first (change.Apply ops) = list_any inserts_first ops
takes_first other = false
