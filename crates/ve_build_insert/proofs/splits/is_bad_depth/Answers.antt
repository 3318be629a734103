use Rattle.std.proofs.Common.{sym, ◌∙◌, arith}
use Rattle.ve_build_insert.proofs.RefusalLemmas.{any_here, any_on, any_none, depth_by}
use Rattle.ve_build_insert.proofs.splits.is_bad_depth.Goals as goal

pub returns-then-is_internal-clause-means : goal.returns-then-is_internal-clause-means
returns-then-is_internal-clause-means c =
    let stack = c.args.state.now.stack in
    let level = c.loop-level.level in
    depth_by stack c.args.depth level _ (λ none. c.if-depth-eq0.false none) (λ less. let n = c.depth.ensures.depth in let room = c.if-depth.false in omega arith) c.loop-level.invariant
    (any_here stack level c.args.depth c.kind.result c.loop-level-test.true c.kind.ensures (sym c.is_internal.ensures ∙ c.if-is_internal.true))

pub loop-level-preserved : goal.loop-level-preserved
loop-level-preserved c =
    c.loop-level.invariant
    ∙ any_on c.args.state.now.stack c.loop-level.level c.args.depth c.kind.result c.loop-level-test.true c.kind.ensures (sym c.is_internal.ensures ∙ c.if-is_internal.false)

pub returns-clause-means : goal.returns-clause-means
returns-clause-means c =
    let stack = c.args.state.now.stack in
    let level = c.loop-level.level in
    depth_by stack c.args.depth level _ (λ none. c.if-depth-eq0.false none) (λ less. let n = c.depth.ensures.depth in let room = c.if-depth.false in omega arith) c.loop-level.invariant
    (any_none stack level c.args.depth (omega (arith, c.loop-level-test.false)))
