use Rattle.std.proofs.Common.{sym, ◌∙◌, arith, rules}
use Rattle.ve_repair.proofs.ChangeLemmas.{alike, one_more_alike, not_seen}
use Rattle.ve_repair.proofs.law.is_same.Goals as goal

pub loop-n-preserved : goal.loop-n-preserved
loop-n-preserved c =
    one_more_alike c.args.one.now.stack c.args.other.now.stack c.loop-n.n c.kind.result c.kind-in-loop-n.result c.kind.ensures c.kind-in-loop-n.ensures (search rules) c.loop-n.invariant

pub returns-then-seen : goal.returns-then-seen
returns-then-seen c = λ h.
    alike c.args.one.now c.args.other.now c.depth.result c.depth-2.result c.loop-n.n c.depth.ensures.depth c.depth-2.ensures.depth (omega (arith, c.if-depth.false))
    (omega (arith, c.loop-n-test.false, c.depth-n-end.ensures.depth, c.depth.ensures.depth)) c.loop-n.invariant (sym c.seen.ensures ∙ c.if-seen.true ∙ sym h ∙ c.seen-then-seen.ensures)

pub returns-else-seen : goal.returns-else-seen
returns-else-seen c = λ h.
    alike c.args.one.now c.args.other.now c.depth.result c.depth-2.result c.loop-n.n c.depth.ensures.depth c.depth-2.ensures.depth (omega (arith, c.if-depth.false))
    (omega (arith, c.loop-n-test.false, c.depth-n-end.ensures.depth, c.depth.ensures.depth)) c.loop-n.invariant
    (sym c.seen.ensures ∙ c.if-seen.false ∙ sym (not_seen c.seen-else-seen.result h) ∙ c.seen-else-seen.ensures)
