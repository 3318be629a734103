use Rattle.std.proofs.Common.{◌≡◌, ◌≤◌, ◌<◌, ◌+◌, ◌-◌, [], length, take, drop, refl, sym, ap, ◌∙◌, subst, append-nil, arith}
use Rattle.std.proofs.lemmas.List.{drop_all, take_all}
use Rattle.model_items.specs.Law.{Lawful}
use Rattle.model_change.specs.Fault.{Applies}
use Rattle.model_change.specs.Inverse.{inverse}
use Rattle.model_change.specs.Transaction.{edited}
use Rattle.model_site.specs.Replica.{Replica, put_back, all_put_back}
use Rattle.ve_tx.specs.Cites.{TxCites}
use Rattle.ve_tx.specs.Operation.{by_value}
use Rattle.ve_tx.proofs.ValuesLemmas.{extends_on}
use Rattle.model_change.specs.Cost.{cost_of_transactions}
use Rattle.ve_editor.specs.Edited.{AllStand, reversal_over}
use Rattle.ve_editor.specs.Page.{replica_of}
use Rattle.ve_editor.specs.Stays.{NumbersStay, NumbersStayOver}
use Rattle.ve_editor.proofs.StayLemmas.{StaySoFar, stay_first, stay_more, one_more_back}
use Rattle.ve_editor.proofs.BackLemmas.{left_over, made_more, extends_back}
use Rattle.ve_editor.proofs.CountedLemmas.{within_all, left_within_all}
use Rattle.ve_editor.proofs.GrownLemmas.{by_value-extended, cites-extended}
use Rattle.ve_editor.proofs.in_place.put_all_back.Goals as goal

pub put_back-requires-clause-cites : goal.put_back-requires-clause-cites
put_back-requires-clause-cites g c =
    let txs = c.args.txs.now in
    let store = (g.P.InPlace.shown c.args.target.now).store in
    let now = (g.P.InPlace.shown c.loop-n.target).store in
    let tx = c.index-txs-txs.result in
    let k = length txs - 1 - c.loop-n.n in
    let more : c.loop-n.n < length txs = c.loop-n-test.true in
    let below : k < length txs = omega (arith, more) in
    let cites : TxCites store tx = subst (TxCites store) (sym c.index-txs-txs.is) (c.requires.cites k tx below) in
    c.in_ok-back.ensures.cites now (cites-extended store now c.loop-n.invariant.extends tx cites)

pub put_back-requires-clause-applies : goal.put_back-requires-clause-applies
put_back-requires-clause-applies g c =
    let txs = c.args.txs.now in
    let store = (g.P.InPlace.shown c.args.target.now).store in
    let now = (g.P.InPlace.shown c.loop-n.target).store in
    let tx = c.index-txs-txs.result in
    let k = length txs - 1 - c.loop-n.n in
    let more : c.loop-n.n < length txs = c.loop-n-test.true in
    let below : k < length txs = omega (arith, more) in
    let cites : TxCites store tx = subst (TxCites store) (sym c.index-txs-txs.is) (c.requires.cites k tx below) in
    let back : by_value now c.in_ok-back.back ≡ inverse (by_value store tx) = c.in_ok-back.ensures.inverse now ∙ ap inverse (by_value-extended store now c.loop-n.invariant.extends tx cites) in
    let next : length txs - c.loop-n.n ≡ k + 1 = omega (arith, more) in
    let left = subst (λ j. AllStand (reversal_over store (take j txs)) (g.P.InPlace.shown c.loop-n.target).items) next c.loop-n.invariant.left in
    let stands = subst (λ l. AllStand l (g.P.InPlace.shown c.loop-n.target).items) (left_over store txs k tx below c.index-txs-txs.is) left in
    subst (λ t. Applies t (g.P.InPlace.shown c.loop-n.target).items) (sym back) stands.0

pub put_back-requires-clause-lawful : goal.put_back-requires-clause-lawful
put_back-requires-clause-lawful g c =
    let txs = c.args.txs.now in
    let store = (g.P.InPlace.shown c.args.target.now).store in
    let now = (g.P.InPlace.shown c.loop-n.target).store in
    let tx = c.index-txs-txs.result in
    let k = length txs - 1 - c.loop-n.n in
    let more : c.loop-n.n < length txs = c.loop-n-test.true in
    let below : k < length txs = omega (arith, more) in
    let cites : TxCites store tx = subst (TxCites store) (sym c.index-txs-txs.is) (c.requires.cites k tx below) in
    let back : by_value now c.in_ok-back.back ≡ inverse (by_value store tx) = c.in_ok-back.ensures.inverse now ∙ ap inverse (by_value-extended store now c.loop-n.invariant.extends tx cites) in
    let next : length txs - c.loop-n.n ≡ k + 1 = omega (arith, more) in
    let left = subst (λ j. AllStand (reversal_over store (take j txs)) (g.P.InPlace.shown c.loop-n.target).items) next c.loop-n.invariant.left in
    let stands = subst (λ l. AllStand l (g.P.InPlace.shown c.loop-n.target).items) (left_over store txs k tx below c.index-txs-txs.is) left in
    subst (λ t. Lawful (edited t (g.P.InPlace.shown c.loop-n.target).items)) (sym back) stands.1

pub loop-n-preserved : goal.loop-n-preserved
loop-n-preserved g c =
    let txs = c.args.txs.now in
    let store = (g.P.InPlace.shown c.args.target.now).store in
    let old = g.P.InPlace.shown c.loop-n.target in
    let new = g.P.InPlace.shown c.put_back.new.self in
    let tx = c.index-txs-txs.result in
    let k = length txs - 1 - c.loop-n.n in
    let more : c.loop-n.n < length txs = c.loop-n-test.true in
    let below : k < length txs = omega (arith, more) in
    let cites : TxCites store tx = subst (TxCites store) (sym c.index-txs-txs.is) (c.requires.cites k tx below) in
    let extends = c.loop-n.invariant.extends in
    let back : by_value old.store c.in_ok-back.back ≡ inverse (by_value store tx) = c.in_ok-back.ensures.inverse old.store ∙ ap inverse (by_value-extended store old.store extends tx cites) in
    let next : length txs - c.loop-n.n ≡ k + 1 = omega (arith, more) in
    let last : k ≡ length txs - (c.loop-n.n + 1) = omega (arith, more) in
    let left = subst (λ j. AllStand (reversal_over store (take j txs)) old.items) next c.loop-n.invariant.left in
    let stands = subst (λ l. AllStand l old.items) (left_over store txs k tx below c.index-txs-txs.is) left in
    let all = c.args.steps.now + cost_of_transactions (reversal_over store txs) (g.P.InPlace.shown c.args.target.now).items in
    let bound = subst (λ l. c.loop-n.steps + cost_of_transactions l old.items ≤ all) (left_over store txs k tx below c.index-txs-txs.is)
    (subst (λ j. c.loop-n.steps + cost_of_transactions (reversal_over store (take j txs)) old.items ≤ all) next c.loop-n.invariant.spent) in
    let one : replica_of new ≡ put_back (inverse (by_value store tx)) (replica_of old) = c.in_ok-put_back.ensures.page ∙ ap (λ t. put_back t (replica_of old)) back in
    record {
      made = one ∙ ap (put_back (inverse (by_value store tx))) c.loop-n.invariant.made
          ∙ ap (λ j. put_back (inverse (by_value store tx)) (all_put_back (reversal_over store (drop j txs)) (replica_of (g.P.InPlace.shown c.args.target.now)))) next
          ∙ sym (made_more store txs k tx (replica_of (g.P.InPlace.shown c.args.target.now)) below c.index-txs-txs.is)
          ∙ ap (λ j. all_put_back (reversal_over store (drop j txs)) (replica_of (g.P.InPlace.shown c.args.target.now))) last;
      stays = subst (λ j. StaySoFar (reversal_over store (drop j txs)) (g.P.InPlace.shown c.args.target.now) new) last
          (subst (λ l. StaySoFar l (g.P.InPlace.shown c.args.target.now) new) (sym (one_more_back store txs k tx below c.index-txs-txs.is))
          (stay_more (reversal_over store (drop (k + 1) txs)) (inverse (by_value store tx)) (g.P.InPlace.shown c.args.target.now) old new
          (subst (λ j. StaySoFar (reversal_over store (drop j txs)) (g.P.InPlace.shown c.args.target.now) old) next c.loop-n.invariant.stays) (ap (λ (r : Replica). r.items) one) c.in_ok-put_back.ensures.tree
          (subst (λ t. NumbersStay t old.items old.nodes new.nodes) back c.in_ok-put_back.ensures.numbers)));
      extends = extends_on store old.store new.store extends (extends_back (inverse (by_value store tx)) (replica_of old) (replica_of new) one);
      starts = c.put_back.ensures.start ∙ c.loop-n.invariant.starts;
      counted = omega (arith, c.loop-n.invariant.counted, c.put_back.ensures.counted);
      spent = subst (λ j. c.put_back.new.steps + cost_of_transactions (reversal_over store (take j txs)) new.items ≤ all) last
          (left_within_all (inverse (by_value store tx)) (by_value old.store c.in_ok-back.back) (reversal_over store (take k txs)) old.items c.loop-n.steps c.put_back.new.steps all back bound
          c.put_back.ensures.steps new.items (ap (λ (r : Replica). r.items) one));
      left = subst (λ l. AllStand (reversal_over store (take (length txs - (c.loop-n.n + 1)) txs)) l) (sym (ap (λ (r : Replica). r.items) one))
          (subst (λ j. AllStand (reversal_over store (take j txs)) (edited (inverse (by_value store tx)) old.items)) last stands.2);
    }

pub returns-in_err-put_back-clause-steps : goal.returns-in_err-put_back-clause-steps
returns-in_err-put_back-clause-steps g c =
    let txs = c.args.txs.now in
    let store = (g.P.InPlace.shown c.args.target.now).store in
    let old = g.P.InPlace.shown c.loop-n.target in
    let tx = c.index-txs-txs.result in
    let k = length txs - 1 - c.loop-n.n in
    let more : c.loop-n.n < length txs = c.loop-n-test.true in
    let below : k < length txs = omega (arith, more) in
    let cites : TxCites store tx = subst (TxCites store) (sym c.index-txs-txs.is) (c.requires.cites k tx below) in
    let back : by_value old.store c.in_ok-back.back ≡ inverse (by_value store tx) = c.in_ok-back.ensures.inverse old.store ∙ ap inverse (by_value-extended store old.store c.loop-n.invariant.extends tx cites) in
    let next : length txs - c.loop-n.n ≡ k + 1 = omega (arith, more) in
    let all = c.args.steps.now + cost_of_transactions (reversal_over store txs) (g.P.InPlace.shown c.args.target.now).items in
    let bound = subst (λ l. c.loop-n.steps + cost_of_transactions l old.items ≤ all) (left_over store txs k tx below c.index-txs-txs.is)
    (subst (λ j. c.loop-n.steps + cost_of_transactions (reversal_over store (take j txs)) old.items ≤ all) next c.loop-n.invariant.spent) in
    within_all (inverse (by_value store tx)) (by_value old.store c.in_ok-back.back) (reversal_over store (take k txs)) old.items c.loop-n.steps c.put_back.new.steps all back bound
    c.put_back.ensures.steps

pub loop-n-init : goal.loop-n-init
loop-n-init g c =
    let txs = c.args.txs.now in
    let r = g.P.InPlace.shown c.args.target.now in
    let none : drop (length txs - 0) txs ≡ [] = drop_all (length txs - 0) txs (omega arith) in
    let all : take (length txs - 0) txs ≡ txs = take_all (length txs - 0) txs (omega arith) in
    record {
      made = ap (λ l. all_put_back (reversal_over r.store l) (replica_of r)) (sym none);
      stays = subst (λ l. StaySoFar (reversal_over r.store l) r r) (sym none) (stay_first r);
      extends = ([], sym (append-nil r.store));
      starts = refl;
      counted = omega arith;
      spent = subst (λ l. c.args.steps.now + cost_of_transactions (reversal_over r.store l) r.items ≤ c.args.steps.now + cost_of_transactions (reversal_over r.store txs) r.items) (sym all) (omega arith);
      left = subst (λ l. AllStand (reversal_over r.store l) r.items) (sym all) c.requires.stands;
    }

pub returns-clause-numbers : goal.returns-clause-numbers
returns-clause-numbers g c =
    let txs = c.args.txs.now in
    let r = g.P.InPlace.shown c.args.target.now in
    let done : length txs - c.loop-n.n ≡ 0 = omega (arith, c.loop-n-test.false) in
    subst (λ j. NumbersStayOver (reversal_over r.store (drop j txs)) r.items r.nodes (g.P.InPlace.shown c.loop-n.target).nodes) done c.loop-n.invariant.stays.numbers
