use Rattle.std.proofs.Common.{◌≡◌, ◌≤◌, ◌<◌, ◌+◌, suc, length, get_or, ap, sym, subst, ◌∙◌, arith}
use Rattle.std.specs.Prelude.{slice_set}
use Rattle.std.proofs.lemmas.List.{length-set, set-get_or}
use Rattle.ve_rebase.specs.Shifted.{RowSoFar, with_span}
use Rattle.ve_rebase.proofs.RowLemmas.{one_shifted, one_length, row_apart}
use Rattle.ve_rebase.proofs.ShiftedLemmas.{removed_within}
use Rattle.ve_rebase.proofs.join_lists.pass_apart.Goals as goal

pub join_apart-requires-clause-first : goal.join_apart-requires-clause-first
join_apart-requires-clause-first c =
    let q = c.requires.row in
    let now = c.loop-i.committed in
    let one = get_or now c.loop-i.i c.index-committed-i.result in
    let lt : c.loop-i.i < length now = omega (arith, c.loop-i.auto.committed, c.loop-i-test.true) in
    (one_shifted q.0 now (with_span c.args.mine q.1) c.loop-i.span c.loop-i.i one (c.loop-i.invariant.row q.0 q.1 q.2) lt (ap (get_or now c.loop-i.i) c.index-committed-i.is)).fits

pub join_apart-requires-clause-second : goal.join_apart-requires-clause-second
join_apart-requires-clause-second c =
    let q = c.requires.row in
    (c.loop-i.invariant.row q.0 q.1 q.2).mine_shifted.fits

pub join_apart-requires-clause-reach : goal.join_apart-requires-clause-reach
join_apart-requires-clause-reach c =
    let q = c.requires.row in
    let now = c.loop-i.committed in
    let one = get_or now c.loop-i.i c.index-committed-i.result in
    let lt : c.loop-i.i < length now = omega (arith, c.loop-i.auto.committed, c.loop-i-test.true) in
    removed_within one.span one.tx.now
    (one_shifted q.0 now (with_span c.args.mine q.1) c.loop-i.span c.loop-i.i one (c.loop-i.invariant.row q.0 q.1 q.2) lt (ap (get_or now c.loop-i.i) c.index-committed-i.is))

pub join_apart-requires-clause-other_reach : goal.join_apart-requires-clause-other_reach
join_apart-requires-clause-other_reach c =
    let q = c.requires.row in
    removed_within c.loop-i.span c.args.mine.tx.now (c.loop-i.invariant.row q.0 q.1 q.2).mine_shifted

pub join_apart-requires-clause-lengths : goal.join_apart-requires-clause-lengths
join_apart-requires-clause-lengths c =
    let q = c.requires.row in
    let now = c.loop-i.committed in
    let one = get_or now c.loop-i.i c.index-committed-i.result in
    let lt : c.loop-i.i < length now = omega (arith, c.loop-i.auto.committed, c.loop-i-test.true) in
    one_length q.0 now (with_span c.args.mine q.1) c.loop-i.span c.loop-i.i one (c.loop-i.invariant.row q.0 q.1 q.2) lt (ap (get_or now c.loop-i.i) c.index-committed-i.is)

pub loop-i-init : goal.loop-i-init
loop-i-init c = record { within = c.requires.from; row = λ old start h. h }

pub returns-then-not-join_apart : goal.returns-then-not-join_apart
returns-then-not-join_apart c =
    let now = c.loop-i.committed in
    let one = get_or now c.loop-i.i c.index-committed-i.result in
    let kept = c.join_apart.ensures.kept c.if-not-join_apart.true in
    let same = ap (λ s. slice_set now c.loop-i.i (record { tx = one.tx; span = s })) kept.0 ∙ set-get_or now c.loop-i.i c.index-committed-i.result in
    record {
      row = λ old start h.
          subst (λ l. RowSoFar old l (with_span c.args.mine start) c.join_apart.new.b c.loop-i.i) (sym same)
          (subst (λ s. RowSoFar old now (with_span c.args.mine start) s c.loop-i.i) (sym kept.1) (c.loop-i.invariant.row old start h));
      on = c.loop-i.auto.i;
    }

pub loop-i-preserved : goal.loop-i-preserved
loop-i-preserved c =
    let now = c.loop-i.committed in
    let one = get_or now c.loop-i.i c.index-committed-i.result in
    let lt : c.loop-i.i < length now = omega (arith, c.loop-i.auto.committed, c.loop-i-test.true) in
    let next : suc c.loop-i.i ≡ c.loop-i.i + 1 = omega arith in
    let same = length-set now c.loop-i.i (record one { span = c.join_apart.new.a }) in
    record {
      within = omega (arith, same, lt);
      row = λ old start h.
          subst (RowSoFar old (slice_set now c.loop-i.i (record { tx = one.tx; span = c.join_apart.new.a })) (with_span c.args.mine start) c.join_apart.new.b) next
          (row_apart old now (with_span c.args.mine start) c.loop-i.span c.loop-i.i one (c.loop-i.invariant.row old start h) lt (ap (get_or now c.loop-i.i) c.index-committed-i.is)
          c.join_apart.new.a c.join_apart.new.b (c.join_apart.ensures.joined c.if-not-join_apart.false));
    }

pub returns : goal.returns
returns c =
    let end : c.loop-i.i ≡ length c.loop-i.committed = omega (arith, c.loop-i.auto.committed, c.loop-i.invariant.within, c.loop-i-test.false) in
    record {
      row = λ old start h.
          subst (RowSoFar old c.loop-i.committed (with_span c.args.mine start) c.loop-i.span) end (c.loop-i.invariant.row old start h);
      on = subst (λ n. c.args.from ≤ n) end c.loop-i.auto.i;
    }
