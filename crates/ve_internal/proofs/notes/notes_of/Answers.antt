use Rattle.std.proofs.Common.{arith, subst, length, take}
use Rattle.model_items.specs.Plain.{plain_list}
use Rattle.ve_internal.specs.Noted.{HasNoted}
use Rattle.ve_internal.proofs.NoteLemmas.{pieces_on, count_before}
use Rattle.ve_internal.proofs.notes.notes_of.Goals as goal

pub loop-at-preserved : goal.loop-at-preserved
loop-at-preserved c = record {
  within = omega (arith, c.piece-piece.ensures.within, c.len-in-loop-at.ensures);
  noted =
      subst (HasNoted c.note_piece.new.self) (pieces_on c.args.store.now c.args.list.now.items c.piece-piece.result.now c.loop-at.at (length c.piece-piece.result.now) c.piece-piece.ensures.items)
      (c.in_ok-note_piece.ensures (plain_list c.args.store.now (take c.loop-at.at c.args.list.now.items)) (count_before c.args.store.now c.args.list.now.items c.loop-at.at c.loop-at.invariant.within) c.loop-at.invariant.noted);
}
