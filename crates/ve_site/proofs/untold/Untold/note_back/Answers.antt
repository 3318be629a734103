use Rattle.std.proofs.Common.{◌≡◌, ◌≤◌, ◌<◌, ◌+◌, ◌-◌, suc, List, length, drop, ap, ◌∙◌, sym, subst, arith}
use Rattle.std.proofs.lemmas.List.{drop_all}
use Rattle.model_site.specs.Untold.{Untold, max_patches, with_patches}
use Rattle.ve_tx.specs.Operation.{Operation}
use Rattle.ve_site.specs.Patches.{undone_by_all}
use Rattle.ve_site.proofs.PatchLemmas.{next_is, ops_within, tx_undone, undone_alike, with_none}
use Rattle.ve_site.proofs.untold.Untold.note_back.Goals as goal

pub loop-at-init : goal.loop-at-init
loop-at-init c =
    let u = c.args.self.now in
    let txs = c.args.txs.now in
    let within = subst (λ (x : Untold). length x.patches ≤ suc max_patches) c.self.view_is c.self.invariant.within in
    let none = drop_all (length txs) txs (omega arith) in
    record {
      noted = sym (with_none u within) ∙ ap (λ (l : List (List Operation)). with_patches (undone_by_all l) u) (sym none);
      within = omega arith;
    }

pub note_ops_back-requires : goal.note_ops_back-requires
note_ops_back-requires c = ops_within c.index-txs-at.result c.ops.result.now c.ops.ensures.ops c.ops.ensures.normal

pub loop-at-preserved : goal.loop-at-preserved
loop-at-preserved c =
    let txs = c.args.txs.now in
    let old = c.args.self.now in
    let k = c.loop-at.at - 1 in
    let tx = c.index-txs-at.result in
    let next : c.loop-at.at ≡ k + 1 = omega (arith, c.loop-at-test.true) in
    let below : k < length txs = omega (arith, c.loop-at.invariant.within, c.loop-at-test.true) in
    record {
      noted = tx_undone tx c.ops.result.now (drop k txs) (drop (k + 1) txs) old c.loop-at.self c.note_ops_back.new.self c.ops.ensures.ops (next_is k txs tx below c.index-txs-at.is)
          (c.loop-at.invariant.noted ∙ ap (λ n. with_patches (undone_by_all (drop n txs)) old) next) c.note_ops_back.ensures;
      within = omega (arith, c.loop-at.invariant.within);
    }

pub returns : goal.returns
returns c values =
    let txs = c.args.txs.now in
    let old = c.args.self.now in
    let first : c.loop-at.at ≡ 0 = omega (arith, c.loop-at-test.false) in
    c.loop-at.invariant.noted
    ∙ (ap (λ n. with_patches (undone_by_all (drop n txs)) old) first ∙ ap (λ ps. with_patches ps old) (sym (undone_alike values txs)))
