use Rattle.std.proofs.Common.{◌≡◌, ◌≤◌, ◌+◌, ◌^◌, ◌||◌, drop, sym, ap, subst, ◌∙◌}
use Rattle.model_change.specs.Join.{some_meet}
use Rattle.ve_tx.specs.Normal.{total_size}
use Rattle.ve_rebase.specs.Places.{places, passes}
use Rattle.ve_rebase.proofs.PlaceLemmas.{meets_next, room_next, same_op}
use Rattle.ve_rebase.proofs.places.attributes_meet.Goals as goal

pub returns-then-met : goal.returns-then-met
returns-then-met c =
    let ops = c.args.ops.now in
    let at = c.loop-i.at in
    let i = c.loop-i.i in
    let o = c.index-ops-i.result in
    let ds = places c.loop-i.cursor.at (drop c.loop-i.cursor.passed c.args.others.now) in
    let rest = places c.pass-met.result.0.at (drop c.pass-met.result.0.passed c.args.others.now) in
    let step = meets_next at i ops o ds rest c.pass-met.result.1 c.loop-i-test.true c.index-ops-i.is c.pass-met.ensures.met in
    sym (ap (λ b. b || some_meet (places (at + passes o) (drop (i + 1) ops)) rest) c.if-met.true) ∙ (sym step ∙ c.loop-i.invariant.so_far)

pub loop-i-preserved : goal.loop-i-preserved
loop-i-preserved c =
    let ops = c.args.ops.now in
    let at = c.loop-i.at in
    let i = c.loop-i.i in
    let o = c.index-ops-i.result in
    let ds = places c.loop-i.cursor.at (drop c.loop-i.cursor.passed c.args.others.now) in
    let rest = places c.pass-met.result.0.at (drop c.pass-met.result.0.passed c.args.others.now) in
    let step = meets_next at i ops o ds rest c.pass-met.result.1 c.loop-i-test.true c.index-ops-i.is c.pass-met.ensures.met in
    let passed : c.passes-at.result ≡ passes o =
    c.passes-at.ensures ∙ ap passes (same_op i ops o c.index-ops-i-in-loop-i.result c.loop-i-test.true c.index-ops-i.is c.index-ops-i-in-loop-i.is) in
    record {
      small = subst (λ n. at + n + total_size (drop (i + 1) ops) ≤ 2 ^ 62) (sym passed)
          (room_next at i (2 ^ 62) ops o c.loop-i-test.true c.index-ops-i.is c.loop-i.invariant.small);
      within = c.pass-met.ensures.within;
      others_small = c.pass-met.ensures.small;
      so_far = ap (λ n. some_meet (places (at + n) (drop (i + 1) ops)) rest) passed
          ∙ (sym (step ∙ ap (λ b. b || some_meet (places (at + passes o) (drop (i + 1) ops)) rest) c.if-met.false) ∙ c.loop-i.invariant.so_far);
    }
