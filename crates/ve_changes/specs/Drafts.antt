-- The draft that a change is, and where memory may be wanting for it.
use Rattle.std.specs.Prelude.{◌≡◌, ◌<◌, ◌^◌, false, List, length, Result, Ok, IsOk, MatchResult}
use Rattle.ve_base.specs.declared.value.Value.{Value}
use Rattle.model_items.specs.declared.plain_item.PlainItem.{PlainItem}
use Rattle.model_change.specs.Transaction.{Transaction}
use Rattle.model_edit.specs.Insert.{is_bad_offset}
use Rattle.model_edit.specs.Wrap.{is_bad_wrap}
use Rattle.model_world.specs.Edits.{change_of, needs}
use Rattle.model_world.specs.declared.edit_command.EditCommand.{EditCommand}
use Rattle.model_world.specs.declared.edit_command.EditCommand.TheVariants as change
use Rattle.model_world.specs.declared.refusal.Refusal.{Refusal}
use Rattle.ve_tx.specs.declared.draft.Draft.{Draft}
use Rattle.ve_editor.specs.Edited.{IsDraftOf, drafted}
use Rattle.ve_changes.specs.declared.faults.ChangeStop.{ChangeStop}
use Rattle.ve_changes.specs.Stops.{IsRefused}

-- The draft is one over this store, and is this transaction.
pub record IsDrafted (store : List Value) (meant : Result Transaction Refusal) (d : Draft) : Type 0 where
  pub draft : IsDraftOf store d
  pub same : meant ≡ Ok (drafted store d)

-- A draft is what is meant; what stops it is the refusal that is meant, or want of memory.
abbrev pub Drafts : List Value → Result Transaction Refusal → Result Draft ChangeStop → Type 0
Drafts store meant result = MatchResult result (IsDrafted store meant) (λ why. IsRefused why meant)

-- Memory may be wanting for the draft of a change of these items. Mostly that is only where it
-- isn't refused. What puts in a text or a page, or wraps, takes memory once its offset or its range
-- is known to be right; operations, once their lengths are, or where no `usize` counts them.
abbrev pub MayWantDraft : List PlainItem → EditCommand → Type 0
MayWantDraft items (change.Text at text marks) = is_bad_offset items at ≡ false
MayWantDraft items (change.Insert at html) = is_bad_offset items at ≡ false
MayWantDraft items (change.Wrap from to plan) = is_bad_wrap items from to ≡ false
MayWantDraft items (change.Apply ops) = needs ops < 2 ^ 64 → needs ops ≡ length items
MayWantDraft items other = IsOk (change_of items other)
