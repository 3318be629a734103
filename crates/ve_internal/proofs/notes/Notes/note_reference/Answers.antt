use Rattle.std.proofs.Common.{refl}
use Rattle.ve_internal.proofs.NoteLemmas.{noted_reference}
use Rattle.ve_internal.proofs.notes.Notes.note_reference.Goals as goal

pub returns : goal.returns
returns c = (
  refl,
  λ refs inside has.
      noted_reference c.args.self.now _ c.args.cited c.args.owner inside refs c.in_ok-seen.seen c.in_ok-seen.ensures.0 c.in_ok-seen.ensures.1
      c.in_ok-insert.ensures.updates.0 c.in_ok-push.ensures.items has,
)
