use Rattle.std.proofs.Common.{◌≡◌, ◌≤◌, ◌<◌, ◌+◌, ◌-◌, ◌++◌, length, take, drop, refl, ◌∙◌, subst, arith}
use Rattle.std.proofs.lemmas.List.{length-append}
use Rattle.model_change.specs.Cost.{cost_of_transactions}
use Rattle.ve_editor.specs.Page.{replica_of}
use Rattle.ve_site.specs.Dropped.{AreDropped, back_over}
use Rattle.ve_site.proofs.DropLemmas.{at_cites, at_counts, at_gone, at_may_go, at_uncited, gone_within, none_taken_back}
use Rattle.ve_site.proofs.pending.take_back.Goals as goal

pub loop-at-init : goal.loop-at-init
loop-at-init g c = record {
  from = c.requires.left;
  within = omega arith;
  dropped = none_taken_back (replica_of c.args.trial.now.page) (c.args.sent.now ++ c.args.unsent.now) c.args.count c.requires.stack c.requires.count;
  first = refl;
  counted = omega arith;
  spent = omega arith;
}

pub entry_in-requires : goal.entry_in-requires
entry_in-requires g c =
    let size = length-append c.args.sent.now c.args.unsent.now in
    omega (arith, size, c.requires.count, c.loop-at.invariant.within, c.loop-at-test.true)

pub revert-requires-clause-cites : goal.revert-requires-clause-cites
revert-requires-clause-cites g c =
    let all = c.args.sent.now ++ c.args.unsent.now in
    let k = c.loop-at.at - 1 in
    let next : c.loop-at.at ≡ k + 1 = omega (arith, c.loop-at-test.true) in
    let below : k < length all = omega (arith, c.requires.count, c.loop-at.invariant.within, c.loop-at-test.true) in
    at_cites (replica_of c.args.trial.now.page) (replica_of c.loop-at.trial.page) all c.loop-at.at k c.entry_in.result.now c.loop-at.invariant.dropped next below c.entry_in.ensures

pub revert-requires-clause-stands : goal.revert-requires-clause-stands
revert-requires-clause-stands g c =
    let all = c.args.sent.now ++ c.args.unsent.now in
    let k = c.loop-at.at - 1 in
    let next : c.loop-at.at ≡ k + 1 = omega (arith, c.loop-at-test.true) in
    let below : k < length all = omega (arith, c.requires.count, c.loop-at.invariant.within, c.loop-at-test.true) in
    at_may_go (replica_of c.args.trial.now.page) (replica_of c.loop-at.trial.page) all c.loop-at.at k c.entry_in.result.now c.loop-at.invariant.dropped next below c.entry_in.ensures

pub revert-requires-clause-uncited : goal.revert-requires-clause-uncited
revert-requires-clause-uncited g c =
    let all = c.args.sent.now ++ c.args.unsent.now in
    let k = c.loop-at.at - 1 in
    let next : c.loop-at.at ≡ k + 1 = omega (arith, c.loop-at-test.true) in
    let below : k < length all = omega (arith, c.requires.count, c.loop-at.invariant.within, c.loop-at-test.true) in
    at_uncited (replica_of c.args.trial.now.page) (replica_of c.loop-at.trial.page) all c.loop-at.at k c.entry_in.result.now c.loop-at.invariant.dropped next below c.entry_in.ensures

pub loop-at-preserved : goal.loop-at-preserved
loop-at-preserved g c =
    let all = c.args.sent.now ++ c.args.unsent.now in
    let k = c.loop-at.at - 1 in
    let next : c.loop-at.at ≡ k + 1 = omega (arith, c.loop-at-test.true) in
    let below : k < length all = omega (arith, c.requires.count, c.loop-at.invariant.within, c.loop-at-test.true) in
    record {
      from = omega (arith, c.loop-at-test.true);
      within = omega (arith, c.loop-at.invariant.within);
      dropped = at_gone (replica_of c.args.trial.now.page) (replica_of c.loop-at.trial.page) all c.loop-at.at k c.entry_in.result.now c.loop-at.invariant.dropped next below c.entry_in.ensures (replica_of c.revert.new.self.page)
          c.in_ok-revert.ensures.page;
      first = c.revert.ensures.first ∙ c.loop-at.invariant.first;
      counted = omega (arith, c.loop-at.invariant.counted, c.revert.ensures.counted);
      spent = at_counts (replica_of c.args.trial.now.page) (replica_of c.loop-at.trial.page) all c.loop-at.at k c.entry_in.result.now c.loop-at.invariant.dropped next below c.entry_in.ensures c.args.steps.now c.loop-at.steps
          c.revert.new.steps c.loop-at.invariant.spent c.revert.ensures.steps;
    }

pub returns-in_err-revert-clause-steps : goal.returns-in_err-revert-clause-steps
returns-in_err-revert-clause-steps g c =
    let all = c.args.sent.now ++ c.args.unsent.now in
    let k = c.loop-at.at - 1 in
    let next : c.loop-at.at ≡ k + 1 = omega (arith, c.loop-at-test.true) in
    let below : k < length all = omega (arith, c.requires.count, c.loop-at.invariant.within, c.loop-at-test.true) in
    let one = at_counts (replica_of c.args.trial.now.page) (replica_of c.loop-at.trial.page) all c.loop-at.at k c.entry_in.result.now c.loop-at.invariant.dropped next below c.entry_in.ensures c.args.steps.now c.loop-at.steps
    c.revert.new.steps c.loop-at.invariant.spent c.revert.ensures.steps in
    let more = gone_within c.args.trial.now.page.store all c.args.left k c.args.trial.now.page.items (omega (arith, c.loop-at-test.true)) in
    omega (arith, one, more)

pub returns-clause-dropped : goal.returns-clause-dropped
returns-clause-dropped g c =
    let all = c.args.sent.now ++ c.args.unsent.now in
    let same : c.loop-at.at ≡ c.args.left = omega (arith, c.loop-at.invariant.from, c.loop-at-test.false) in
    subst (λ n. AreDropped (replica_of c.args.trial.now.page) (take n all) (drop n all) (replica_of c.loop-at.trial.page)) same c.loop-at.invariant.dropped

pub returns-clause-steps : goal.returns-clause-steps
returns-clause-steps g c =
    let all = c.args.sent.now ++ c.args.unsent.now in
    let same : c.loop-at.at ≡ c.args.left = omega (arith, c.loop-at.invariant.from, c.loop-at-test.false) in
    subst (λ n. c.loop-at.steps ≤ c.args.steps.now + cost_of_transactions (back_over c.args.trial.now.page.store (drop n all)) c.args.trial.now.page.items) same c.loop-at.invariant.spent

pub returns-clause-first : goal.returns-clause-first
returns-clause-first g c = c.loop-at.invariant.first

pub returns-in_err-revert-clause-first : goal.returns-in_err-revert-clause-first
returns-in_err-revert-clause-first g c = c.revert.ensures.first ∙ c.loop-at.invariant.first
