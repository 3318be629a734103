use Rattle.std.proofs.Common.{◌≤◌, ◌+◌, map, drop, take, refl, sym, ap, ◌∙◌, subst, arith}
use Rattle.std.proofs.lemmas.List.{take_all}
use Rattle.model_site.specs.Replica.{Replica}
use Rattle.ve_tx.specs.Cites.{TxCites}
use Rattle.ve_tx.specs.Operation.{by_value}
use Rattle.model_change.specs.Cost.{cost_of_transactions}
use Rattle.ve_editor.specs.Page.{replica_of}
use Rattle.ve_editor.specs.Stays.{NumbersStayOver}
use Rattle.ve_editor.proofs.StayLemmas.{StaySoFar, stay_first, stay_more, one_more}
use Rattle.ve_editor.proofs.AdmitLemmas.{AdmittedSoFar, admitted_first, next_applies, next_lawful, admitted_next, admitted_all, one_left}
use Rattle.ve_editor.proofs.CountedLemmas.{within_all, left_within_all}
use Rattle.ve_editor.proofs.in_place.perform_others.Goals as goal

pub loop-tx-init : goal.loop-tx-init
loop-tx-init g c = record {
  so_far = subst (AdmittedSoFar c.args.values.now (replica_of (g.P.InPlace.shown c.args.target.now)) c.args.txs.now 0 (replica_of (g.P.InPlace.shown c.args.target.now))) (sym c.new-kept.ensures)
      (admitted_first c.args.values.now (replica_of (g.P.InPlace.shown c.args.target.now)) c.args.txs.now c.requires.stands);
  stays = stay_first (g.P.InPlace.shown c.args.target.now);
  starts = refl;
  counted = omega arith;
  spent = omega arith;
}

pub perform_other-requires-clause-cites : goal.perform_other-requires-clause-cites
perform_other-requires-clause-cites g c =
    subst (TxCites c.args.values.now) (sym c.tx-item.is) (c.requires.cites c.loop-tx.tx-index c.tx-item.result c.loop-tx-test.true)

pub perform_other-requires-clause-applies : goal.perform_other-requires-clause-applies
perform_other-requires-clause-applies g c =
    next_applies c.args.values.now (replica_of (g.P.InPlace.shown c.args.target.now)) c.args.txs.now c.loop-tx.tx-index (replica_of (g.P.InPlace.shown c.loop-tx.target)) c.loop-tx.kept c.tx-item.result c.loop-tx.invariant.so_far c.loop-tx-test.true c.tx-item.is

pub perform_other-requires-clause-lawful : goal.perform_other-requires-clause-lawful
perform_other-requires-clause-lawful g c =
    next_lawful c.args.values.now (replica_of (g.P.InPlace.shown c.args.target.now)) c.args.txs.now c.loop-tx.tx-index (replica_of (g.P.InPlace.shown c.loop-tx.target)) c.loop-tx.kept c.tx-item.result c.loop-tx.invariant.so_far c.loop-tx-test.true c.tx-item.is

pub loop-tx-preserved : goal.loop-tx-preserved
loop-tx-preserved g c =
    let values = c.args.values.now in
    let txs = c.args.txs.now in
    let old = g.P.InPlace.shown c.loop-tx.target in
    let t = by_value values c.tx-item.result in
    let rest = map (by_value values) (drop (c.loop-tx.tx-index + 1) txs) in
    let all = c.args.steps.now + cost_of_transactions (map (by_value values) txs) (g.P.InPlace.shown c.args.target.now).items in
    let left = one_left values (replica_of (g.P.InPlace.shown c.args.target.now)) txs c.loop-tx.tx-index (replica_of old) c.loop-tx.kept c.tx-item.result c.loop-tx.invariant.so_far c.loop-tx-test.true c.tx-item.is in
    let bound = subst (λ l. c.loop-tx.steps + cost_of_transactions (map (by_value values) l) old.items ≤ all) left c.loop-tx.invariant.spent in
    record {
      so_far = admitted_next values (replica_of (g.P.InPlace.shown c.args.target.now)) txs c.loop-tx.tx-index (replica_of old) c.loop-tx.kept c.tx-item.result c.loop-tx.invariant.so_far c.loop-tx-test.true c.tx-item.is
          (replica_of (g.P.InPlace.shown c.perform_other.new.self)) c.in_ok-own.own c.append.new.self c.in_ok-own.ensures.page c.in_ok-own.ensures.txs c.in_ok-own.ensures.cites c.in_ok-append.ensures.ok;
      stays = subst (λ l. StaySoFar l (g.P.InPlace.shown c.args.target.now) (g.P.InPlace.shown c.perform_other.new.self)) (sym (one_more values txs c.loop-tx.tx-index c.tx-item.result c.loop-tx-test.true c.tx-item.is))
          (stay_more (map (by_value values) (take c.loop-tx.tx-index txs)) t (g.P.InPlace.shown c.args.target.now) old (g.P.InPlace.shown c.perform_other.new.self) c.loop-tx.invariant.stays
          (ap (λ (r : Replica). r.items) c.in_ok-own.ensures.page) c.in_ok-own.ensures.tree c.in_ok-own.ensures.numbers);
      starts = c.perform_other.ensures.start ∙ c.loop-tx.invariant.starts;
      counted = omega (arith, c.loop-tx.invariant.counted, c.perform_other.ensures.counted);
      spent = left_within_all t t rest old.items c.loop-tx.steps c.perform_other.new.steps all refl bound c.perform_other.ensures.steps (g.P.InPlace.shown c.perform_other.new.self).items
          (ap (λ (r : Replica). r.items) c.in_ok-own.ensures.page);
    }

pub returns-in_err-own-clause-steps : goal.returns-in_err-own-clause-steps
returns-in_err-own-clause-steps g c =
    let values = c.args.values.now in
    let txs = c.args.txs.now in
    let old = g.P.InPlace.shown c.loop-tx.target in
    let t = by_value values c.tx-item.result in
    let rest = map (by_value values) (drop (c.loop-tx.tx-index + 1) txs) in
    let all = c.args.steps.now + cost_of_transactions (map (by_value values) txs) (g.P.InPlace.shown c.args.target.now).items in
    let left = one_left values (replica_of (g.P.InPlace.shown c.args.target.now)) txs c.loop-tx.tx-index (replica_of old) c.loop-tx.kept c.tx-item.result c.loop-tx.invariant.so_far c.loop-tx-test.true c.tx-item.is in
    let bound = subst (λ l. c.loop-tx.steps + cost_of_transactions (map (by_value values) l) old.items ≤ all) left c.loop-tx.invariant.spent in
    within_all t t rest old.items c.loop-tx.steps c.perform_other.new.steps all refl bound c.perform_other.ensures.steps

pub returns-in_err-append-clause-steps : goal.returns-in_err-append-clause-steps
returns-in_err-append-clause-steps g c =
    let values = c.args.values.now in
    let txs = c.args.txs.now in
    let old = g.P.InPlace.shown c.loop-tx.target in
    let t = by_value values c.tx-item.result in
    let rest = map (by_value values) (drop (c.loop-tx.tx-index + 1) txs) in
    let all = c.args.steps.now + cost_of_transactions (map (by_value values) txs) (g.P.InPlace.shown c.args.target.now).items in
    let left = one_left values (replica_of (g.P.InPlace.shown c.args.target.now)) txs c.loop-tx.tx-index (replica_of old) c.loop-tx.kept c.tx-item.result c.loop-tx.invariant.so_far c.loop-tx-test.true c.tx-item.is in
    let bound = subst (λ l. c.loop-tx.steps + cost_of_transactions (map (by_value values) l) old.items ≤ all) left c.loop-tx.invariant.spent in
    within_all t t rest old.items c.loop-tx.steps c.perform_other.new.steps all refl bound c.perform_other.ensures.steps

pub returns-clause-page : goal.returns-clause-page
returns-clause-page g c =
    (admitted_all c.args.values.now (replica_of (g.P.InPlace.shown c.args.target.now)) c.args.txs.now c.loop-tx.tx-index (replica_of (g.P.InPlace.shown c.loop-tx.target)) c.loop-tx.kept c.loop-tx.invariant.so_far c.loop-tx-test.false).0

pub returns-clause-txs : goal.returns-clause-txs
returns-clause-txs g c =
    (admitted_all c.args.values.now (replica_of (g.P.InPlace.shown c.args.target.now)) c.args.txs.now c.loop-tx.tx-index (replica_of (g.P.InPlace.shown c.loop-tx.target)) c.loop-tx.kept c.loop-tx.invariant.so_far c.loop-tx-test.false).1

pub returns-clause-cites : goal.returns-clause-cites
returns-clause-cites g c = c.loop-tx.invariant.so_far.cites

pub returns-clause-numbers : goal.returns-clause-numbers
returns-clause-numbers g c =
    let txs = c.args.txs.now in
    let r = g.P.InPlace.shown c.args.target.now in
    subst (λ l. NumbersStayOver (map (by_value c.args.values.now) l) r.items r.nodes (g.P.InPlace.shown c.loop-tx.target).nodes) (take_all c.loop-tx.tx-index txs c.loop-tx-test.false) c.loop-tx.invariant.stays.numbers
