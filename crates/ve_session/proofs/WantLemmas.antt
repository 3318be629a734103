-- Where an edit isn't refused, memory may be wanting for it.
use Rattle.std.proofs.Common.{◌≡◌, Bool, true, false, List, Result, Ok, Err, refl}
use Rattle.std.specs.Prelude.{IsOk, if◌then◌else◌, length}
use Rattle.std.proofs.lemmas.Bool.{eqb-true}
use Rattle.model_items.specs.declared.plain_item.PlainItem.{PlainItem}
use Rattle.model_change.specs.Transaction.{Transaction}
use Rattle.model_edit.specs.Causes.{BuildCause}
use Rattle.model_edit.specs.Insert.{is_bad_offset}
use Rattle.model_edit.specs.Wrap.{is_bad_wrap}
use Rattle.model_world.specs.Edits.{built_transaction, change_of, needs}
use Rattle.model_world.specs.declared.edit_command.EditCommand.{EditCommand}
use Rattle.model_world.specs.declared.edit_command.EditCommand.TheVariants as change
use Rattle.model_world.specs.declared.edit_command.TextMarks.TheVariants.{Left, Plain}
use Rattle.model_world.specs.declared.refusal.Refusal.{Refusal}
use Rattle.ve_changes.specs.Drafts.{MayWantDraft}

-- what a builder refuses first isn't so where it refuses nothing
isnt_so : (b : Bool) (why : BuildCause) (more : Result Transaction BuildCause) → IsOk (built_transaction (if b then Err why else more)) → b ≡ false
isnt_so true why more h = absurd (cc)
isnt_so false why more h = refl

-- a page that is put in is refused first for its offset
abbrev for_offset : Bool → Refusal → Result Transaction Refusal → Result Transaction Refusal
for_offset b why more = elim b [
  | true ↦ Err why
  | false ↦ more
]

is_fit : (b : Bool) (why : Refusal) (more : Result Transaction Refusal) → IsOk (for_offset b why more) → b ≡ false
is_fit true why more h = absurd (cc)
is_fit false why more h = refl

-- and operations for their lengths
abbrev for_lengths : Bool → Transaction → Refusal → Result Transaction Refusal
for_lengths b t why = elim b [
  | true ↦ Ok t
  | false ↦ Err why
]

are_equal : (b : Bool) (t : Transaction) (why : Refusal) → IsOk (for_lengths b t why) → b ≡ true
are_equal true t why h = refl
are_equal false t why h = absurd (cc)

pub made_wants : (items : List PlainItem) (c : EditCommand) → IsOk (change_of items c) → MayWantDraft items c
made_wants items (change.Text at text Left) h = isnt_so (is_bad_offset items at) _ _ h
made_wants items (change.Text at text Plain) h = isnt_so (is_bad_offset items at) _ _ h
made_wants items (change.Insert at html) h = is_fit (is_bad_offset items at) _ _ h
made_wants items (change.Wrap from to plan) h = isnt_so (is_bad_wrap items from to) _ _ h
made_wants items (change.Apply ops) h = λ _. eqb-true (needs ops) (length items) (are_equal _ _ _ h)
made_wants items (change.Remove from to) h = h
made_wants items (change.Split at depth) h = h
made_wants items (change.Mark from to mark) h = h
made_wants items (change.Unmark from to mark) h = h
made_wants items (change.Convert at kind) h = h
made_wants items (change.Attr at name to) h = h
made_wants items (change.NoOrigin origin) h = h
