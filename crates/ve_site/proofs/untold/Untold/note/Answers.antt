use Rattle.std.proofs.Common.{◌+◌, List, drop, ap, ◌∙◌, sym, arith}
use Rattle.std.proofs.lemmas.List.{drop_all}
use Rattle.model_site.specs.Untold.{with_patches}
use Rattle.ve_tx.specs.Operation.{Operation}
use Rattle.ve_site.specs.Patches.{all_changed, changed_by_all}
use Rattle.ve_site.proofs.PatchLemmas.{changed_alike, next_is, ops_within, stays_within, tx_noted, with_none}
use Rattle.ve_site.proofs.untold.Untold.note.Goals as goal

pub note_ops-requires : goal.note_ops-requires
note_ops-requires c = ops_within c.tx-item.result c.ops.result.now c.ops.ensures.ops c.ops.ensures.normal

pub loop-tx-preserved : goal.loop-tx-preserved
loop-tx-preserved c =
    let txs = c.args.txs.now in
    let i = c.loop-tx.tx-index in
    let tx = c.tx-item.result in
    let now = c.note_ops.new.self in
    record {
      noted = tx_noted tx c.ops.result.now (drop i txs) (drop (i + 1) txs) c.loop-tx.self now (with_patches (changed_by_all txs) c.args.self.now)
          c.ops.ensures.ops (next_is i txs tx c.loop-tx-test.true c.tx-item.is) c.loop-tx.invariant.noted c.note_ops.ensures;
      within = stays_within (all_changed 0 c.ops.result.now) c.loop-tx.self now c.note_ops.ensures;
    }

pub returns : goal.returns
returns c values =
    let txs = c.args.txs.now in
    let none = drop_all c.loop-tx.tx-index txs (omega (arith, c.loop-tx-test.false)) in
    sym (with_none c.loop-tx.self c.loop-tx.invariant.within)
    ∙ (ap (λ (l : List (List Operation)). with_patches (changed_by_all l) c.loop-tx.self) (sym none)
    ∙ (c.loop-tx.invariant.noted ∙ ap (λ ps. with_patches ps c.args.self.now) (sym (changed_alike values txs))))
