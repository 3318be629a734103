-- Worked examples on a paragraph: a batch of two texts, one that is refused, and typing.
use Rattle.std.proofs.Common.{◌≡◌, false, [], ◌∷◌, None, refl}
use Rattle.ve_base.specs.declared.head.Head.{Head}
use Rattle.ve_kinds.specs.declared.kind.Kind.TheVariants.{InternalList, P}
use Rattle.model_items.specs.declared.item.Item.TheVariants as item
use Rattle.model_items.specs.declared.plain_item.PlainItem.TheVariants.{Char, Closing, Opening}
use Rattle.model_site.specs.Replica.{Replica}
use Rattle.model_world.specs.declared.edit_command.EditCommand.TheVariants as change
use Rattle.model_world.specs.declared.edit_command.TextMarks.TheVariants.{Left}
use Rattle.model_world.specs.declared.refusal.Refusal.TheVariants as refusal
use Rattle.model_world.specs.Edits.{batch_on}
use Rattle.ve_tx.specs.declared.op.Op.TheVariants as op
use Rattle.ve_changes.specs.declared.faults.ChangeStop.TheVariants as one
use Rattle.ve_changes.specs.declared.batch_stop.BatchStop.TheVariants as stop
use Rattle.ve_changes.specs.Batches.{IsBatchRefused, stop_at}
use Rattle.ve_changes.specs.TypedCarets.{first_of, inserted_items}

abbrev head : Head
head = record { tag = []; attrs = []; raw = []; reference = None; owner = false }

-- `<p>a</p>` and no references, with the letter selected
abbrev letter : Replica
letter = record {
  items = Opening P head [] [] None false ∷ Char 97 [] ∷ Closing P [] ∷ Opening InternalList head [] [] None false ∷ Closing InternalList [] ∷ [];
  store = [];
  selection = record { anchor = 2; focus = 1 };
}

-- a refusal is told with its position, and memory without one
place_is_told : stop_at 1 (one.Refused (refusal.BadRange 9 12)) ≡ stop.Refused 1 (refusal.BadRange 9 12)
place_is_told = refl

memory_has_no_place : stop_at 1 one.Memory ≡ stop.Memory
memory_has_no_place = refl

-- the second change is refused on what the first one makes
second_is_refused : IsBatchRefused (batch_on letter (change.Text 1 (120 ∷ []) Left ∷ change.Remove 9 12 ∷ [])) (stop.Refused 1 (refusal.BadRange 9 12))
second_is_refused = refl

-- what operations insert, in their order, and what they pass first
in_order : inserted_items (op.Retain 3 ∷ op.Replace [] (item.Char 97 None ∷ []) ∷ op.Retain 2 ∷ op.Replace [] (item.Char 98 None ∷ []) ∷ []) ≡ item.Char 97 None ∷ item.Char 98 None ∷ []
in_order = refl

passed_first : first_of (op.Retain 3 ∷ op.Replace [] [] ∷ []) ≡ 3
passed_first = refl

none_passed : first_of (op.Replace [] [] ∷ op.Retain 3 ∷ []) ≡ 0
none_passed = refl
