use Rattle.std.proofs.Common.{◌≡◌, ◌-◌, sym, subst}
use Rattle.model_change.specs.Transaction.{Transaction}
use Rattle.model_edit.specs.Edits.{retaining}
use Rattle.ve_edits.specs.Collected.{Collected, collected_transaction, AreCited}
use Rattle.ve_edits.proofs.CollectedLemmas.{changed}
use Rattle.ve_edits.proofs.edits.Edits.change.Goals as goal

pub returns-clause-makes : goal.returns-clause-makes
returns-clause-makes c = λ values edits listed new m.
    let now = c.self.inside in
    let mid : Collected = record { at = now.at; ops = now.ops; retained = now.retained; removed = now.removed; inserted = now.inserted } in
    let W : Collected → Type 0 = λ s. (t : Transaction) → collected_transaction values s t ≡ collected_transaction values c.args.self.now (retaining (c.args.at - c.args.self.now.at) t) in
    changed values c.args.list.now.items edits c.args.self.now mid c.args.at c.args.count c.args.inserted.now c.requires.order c.requires.within
    (subst W (sym c.self.view_is) (c.in_ok-pass.ensures.means values))
    (λ cited. subst (AreCited values) (sym c.self.view_is) (c.in_ok-pass.ensures.cites values cited))
    c.copy_range.new.items c.extend.new.self c.in_ok-copy_range.ensures c.in_ok-extend.ensures.ok listed new m
