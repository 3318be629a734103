-- Worked examples: what stops a draft, where memory may be wanting for it, and what a move is.
use Rattle.std.proofs.Common.{◌≡◌, true, false, [], ◌∷◌, Ok, Err, refl, arith}
use Rattle.model_items.specs.declared.plain_item.PlainItem.TheVariants.{Char}
use Rattle.model_change.specs.Transaction.{Transaction}
use Rattle.model_edit.specs.declared.build_fault.BuildFault.TheVariants as build
use Rattle.model_edit.specs.declared.table_fault.TableFault.TheVariants as table
use Rattle.model_world.specs.declared.command.Request.TheVariants as request
use Rattle.model_world.specs.declared.edit_command.EditCommand.TheVariants as change
use Rattle.model_world.specs.declared.edit_command.OpWords.TheVariants as op
use Rattle.model_world.specs.declared.edit_command.TextMarks.TheVariants.{Left}
use Rattle.model_world.specs.declared.refusal.Refusal.TheVariants as refusal
use Rattle.ve_changes.specs.declared.faults.ChangeStop.TheVariants as stop
use Rattle.ve_changes.specs.Stops.{IsRefused, build_stop, table_stop}
use Rattle.ve_changes.specs.Drafts.{MayWantDraft}
use Rattle.ve_changes.specs.Moves.{is_move, moved_by}

-- a fault keeps its numbers
range_is_kept : build_stop (build.BadRange 5 2) ≡ stop.Refused (refusal.BadRange 5 2)
range_is_kept = refl

row_is_kept : table_stop (table.BadRow 4 3) ≡ stop.Refused (refusal.BadRow 4 3)
row_is_kept = refl

memory_is_no_refusal : build_stop build.Memory ≡ stop.Memory
memory_is_no_refusal = refl

-- what is refused is what the model refuses; want of memory may come where it refuses nothing
refused_is_meant : IsRefused (stop.Refused (refusal.NotListItem 0)) (moved_by [] (request.Indent 0))
refused_is_meant = refl

memory_may_come : IsRefused {A = Transaction} stop.Memory (Ok [])
memory_may_come = tt

-- memory may be wanting for a text at an offset where one may stand, and not past the end
wanting_for_a_text : MayWantDraft (Char 97 [] ∷ []) (change.Text 0 (98 ∷ []) Left)
wanting_for_a_text = refl

none_past_the_end : MayWantDraft [] (change.Text 0 (98 ∷ []) Left) ≡ (true ≡ false)
none_past_the_end = refl

-- nor for a range that isn't there
none_for_no_range : MayWantDraft [] (change.Remove 0 1) ≡ (false ≡ true)
none_for_no_range = refl

-- nor for operations that need more items than there are; for those that need just as many it may
none_for_one_too_many : MayWantDraft [] (change.Apply (op.Retain 1 ∷ [])) → ⊥
none_for_one_too_many h = omega (arith, h (omega arith))

wanting_for_operations : MayWantDraft (Char 97 [] ∷ []) (change.Apply (op.Retain 1 ∷ []))
wanting_for_operations = λ _. refl

-- a table that isn't there, and a request that moves nothing
no_table : moved_by [] (request.RowIn 0 0) ≡ Err (refusal.NotTable 0)
no_table = refl

undo_is_no_move : is_move request.Undo ≡ false
undo_is_no_move = refl
