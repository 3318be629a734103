use Rattle.std.proofs.Common.{◌≡◌, ◌++◌, map, sym, ap, ◌∙◌}
use Rattle.model_change.specs.Transaction.{is_normal}
use Rattle.ve_tx.specs.Operation.{bare, with_positions}
use Rattle.ve_tx.specs.Ends.{core_of, retain_of}
use Rattle.ve_tx.proofs.NormalLemmas.{bare-with_positions}
use Rattle.ve_tx.proofs.EndsLemmas.{made_by_value, made_cites}
use Rattle.ve_tx.proofs.transaction.Transaction.with_ends.Goals as goal

pub invariant_of-result : goal.invariant_of-result
invariant_of-result c values =
    let ops = c.self.inside.ops.items in
    let made : with_positions c.in_ok-made.made.ops.items c.in_ok-made.made.kept.items ≡ retain_of c.args.first ++ (core_of ops c.args.self.now ++ retain_of c.args.last) =
    rw (← c.self.view_is, ← c.as_slice.ensures.value, ← c.as_slice-2.ensures.value) c.in_ok-made.ensures in
    let bared : ops ≡ map bare c.args.self.now = sym (bare-with_positions ops c.self.inside.kept.items) ∙ ap (map bare) c.self.view_is in
    ap is_normal (made_by_value values ops c.args.self.now (with_positions c.in_ok-made.made.ops.items c.in_ok-made.made.kept.items) c.args.first c.args.last bared made)
    ∙ c.requires.normal values

pub returns-clause-ends : goal.returns-clause-ends
returns-clause-ends c values =
    let ops = c.self.inside.ops.items in
    let made : with_positions c.in_ok-made.made.ops.items c.in_ok-made.made.kept.items ≡ retain_of c.args.first ++ (core_of ops c.args.self.now ++ retain_of c.args.last) =
    rw (← c.self.view_is, ← c.as_slice.ensures.value, ← c.as_slice-2.ensures.value) c.in_ok-made.ensures in
    let bared : ops ≡ map bare c.args.self.now = sym (bare-with_positions ops c.self.inside.kept.items) ∙ ap (map bare) c.self.view_is in
    made_by_value values ops c.args.self.now (with_positions c.in_ok-made.made.ops.items c.in_ok-made.made.kept.items) c.args.first c.args.last bared made

pub returns-clause-cites : goal.returns-clause-cites
returns-clause-cites c values cites =
    let ops = c.self.inside.ops.items in
    let made : with_positions c.in_ok-made.made.ops.items c.in_ok-made.made.kept.items ≡ retain_of c.args.first ++ (core_of ops c.args.self.now ++ retain_of c.args.last) =
    rw (← c.self.view_is, ← c.as_slice.ensures.value, ← c.as_slice-2.ensures.value) c.in_ok-made.ensures in
    made_cites values ops c.args.self.now (with_positions c.in_ok-made.made.ops.items c.in_ok-made.made.kept.items) c.args.first c.args.last made cites
