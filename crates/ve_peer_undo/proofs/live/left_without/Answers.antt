use Rattle.std.proofs.Common.{sym, ◌∙◌}
use Rattle.ve_peer_undo.proofs.CountedLemmas.{left_alike, left_in_conflict, left_unlike, same_many}
use Rattle.ve_peer_undo.proofs.live.left_without.Goals as goal

pub returns-in-Err-Conflict : goal.returns-in-Err-Conflict
returns-in-Err-Conflict c ns many =
    left_in_conflict c.args.after.now c.args.taken.now c.args.back.now c.in_ok-reversed.reversed c.in_ok-reversed.ensures.back ns many c.in-Err-Conflict.field-0 c.in-Err-Conflict.field-0-0
    c.in-Err-Conflict.field-0-1 c.in-Err-Conflict.field-0-is c.in-Err-Conflict.ensures.refused

pub returns-then-not-have_one_effect : goal.returns-then-not-have_one_effect
returns-then-not-have_one_effect c ns many =
    left_unlike c.args.after.now c.args.taken.now c.args.back.now c.in_ok-reversed.reversed c.in_ok-reversed.ensures.back ns many c.in-Ok.both c.in-Ok.ensures.joined
    (sym c.have_one_effect.ensures ∙ c.if-not-have_one_effect.true)

pub returns : goal.returns
returns c = (
  λ ns many.
      left_alike c.args.after.now c.args.taken.now c.args.back.now c.in_ok-reversed.reversed c.in_ok-reversed.ensures.back ns many c.in-Ok.both c.in-Ok.ensures.joined
      (sym c.have_one_effect.ensures ∙ c.if-not-have_one_effect.false) c.in-Ok.ensures.outlines,
  same_many c.in-Ok.both.0 c.args.after.now c.in-Ok.ensures.outlines,
  c.in-Ok.ensures.cite c.requires.after,
)
