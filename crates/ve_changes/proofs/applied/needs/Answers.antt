use Rattle.std.proofs.Common.{◌∷◌, ◌+◌, ap, ◌∙◌, sym, drop, arith}
use Rattle.std.proofs.lemmas.List.{drop_all, drop_more}
use Rattle.model_world.specs.Edits.{needs}
use Rattle.ve_changes.proofs.AppliedLemmas.{needs_next}
use Rattle.ve_changes.proofs.applied.needs.Goals as goal

pub loop-op-init : goal.loop-op-init
loop-op-init c = omega arith

pub loop-op-preserved : goal.loop-op-preserved
loop-op-preserved c =
    let ops = c.args.ops.now in
    let i = c.loop-op.op-index in
    let rest = drop (i + 1) ops in
    let one = drop_more ops i c.op-item.result c.loop-op-test.true ∙ ap (λ o. o ∷ rest) (sym c.op-item.is) in
    let e = needs_next c.loop-op.sum c.op-item.result rest (needs ops) (ap (λ l. c.loop-op.sum + needs l) (sym one) ∙ c.loop-op.invariant) in
    omega (arith, e, c.passed.ensures, c.in-Some.ensures.1)

pub returns-in_default-clause-memory : goal.returns-in_default-clause-memory
returns-in_default-clause-memory c =
    let ops = c.args.ops.now in
    let i = c.loop-op.op-index in
    let rest = drop (i + 1) ops in
    let one = drop_more ops i c.op-item.result c.loop-op-test.true ∙ ap (λ o. o ∷ rest) (sym c.op-item.is) in
    let e = needs_next c.loop-op.sum c.op-item.result rest (needs ops) (ap (λ l. c.loop-op.sum + needs l) (sym one) ∙ c.loop-op.invariant) in
    omega (arith, e, c.passed.ensures, c.in_default.ensures)

pub returns-clause-counted : goal.returns-clause-counted
returns-clause-counted c =
    let none = ap needs (drop_all c.loop-op.op-index c.args.ops.now c.loop-op-test.false) in
    omega (arith, none, c.loop-op.invariant)
