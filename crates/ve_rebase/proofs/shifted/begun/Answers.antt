use Rattle.std.proofs.Common.{[], All, map, refl, sym, ap, subst, ◌∙◌}
use Rattle.std.proofs.lemmas.List.{take_all}
use Rattle.std.proofs.lemmas.List.Elements.{All-nil}
use Rattle.ve_rebase.specs.Shifted.{IsShifted, AreWritten, operations}
use Rattle.ve_rebase.proofs.WrittenLemmas.{begun_moves, begun_by_value, begun_next}
use Rattle.ve_rebase.proofs.shifted.begun.Goals as goal

pub loop-tx-init : goal.loop-tx-init
loop-tx-init c =
    let e = c.in_ok-all.ensures.items in
    record {
      shifted = subst (All IsShifted) (sym e) (All-nil IsShifted);
      written = subst (AreWritten []) (sym e) tt;
      kept = ap (map operations) e;
    }

pub loop-tx-preserved : goal.loop-tx-preserved
loop-tx-preserved c =
    let tx = c.tx-item.result in
    let r = begun_next c.args.txs.now c.loop-tx.tx-index tx c.loop-tx.all.items c.push.new.self.items _ c.loop-tx-test.true c.tx-item.is c.in_ok-push.ensures.items
    (begun_moves tx c.span_of-span.result c.span_of-span.ensures.span c.span_of-span.ensures.normal)
    (begun_by_value tx c.span_of-span.result c.span_of-span.ensures.span c.span_of-span.ensures.normal) refl
    c.loop-tx.invariant.shifted c.loop-tx.invariant.written c.loop-tx.invariant.kept in
    record { shifted = r.shifted; written = r.written; kept = r.kept }

pub returns-clause-shifted : goal.returns-clause-shifted
returns-clause-shifted c = c.loop-tx.invariant.shifted

pub returns-clause-written : goal.returns-clause-written
returns-clause-written c = subst (λ txs. AreWritten txs c.loop-tx.all.items) (take_all c.loop-tx.tx-index c.args.txs.now c.loop-tx-test.false) c.loop-tx.invariant.written

pub returns-clause-kept : goal.returns-clause-kept
returns-clause-kept c = c.loop-tx.invariant.kept ∙ take_all c.loop-tx.tx-index c.args.txs.now c.loop-tx-test.false
