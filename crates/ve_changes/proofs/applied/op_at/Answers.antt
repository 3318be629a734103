use Rattle.std.proofs.Common.{sym, ap, drop, ◌∙◌}
use Rattle.model_change.specs.Transaction.{Replace}
use Rattle.ve_offsets.specs.Docs.{page_items}
use Rattle.ve_changes.specs.Applied.{op_on}
use Rattle.ve_changes.proofs.AppliedLemmas.{removed_cites, removed_means}
use Rattle.ve_changes.proofs.applied.op_at.Goals as goal

pub returns-in_ok-inserted-in-Remove-clause-cites : goal.returns-in_ok-inserted-in-Remove-clause-cites
returns-in_ok-inserted-in-Remove-clause-cites c = (
  removed_cites c.args.doc.store.now c.cited_items.new.new c.args.doc.list.now.items c.in_ok-removed-in-Remove.removed c.args.at c.in-Remove.count c.requires.page.cites c.in_ok-removed-in-Remove.ensures,
  c.in_ok-inserted-in-Remove.ensures.cites,
)

pub returns-in_ok-inserted-in-Remove-clause-means : goal.returns-in_ok-inserted-in-Remove-clause-means
returns-in_ok-inserted-in-Remove-clause-means c =
    let removed =
    removed_means c.args.doc.store.now c.cited_items.new.new c.args.doc.list.now.items c.in_ok-removed-in-Remove.removed c.args.at c.in-Remove.count c.requires.page.cites
    c.in_ok-removed-in-Remove.ensures in
    let inserted = c.in_ok-inserted-in-Remove.ensures.means ∙ c.as_slice.ensures in
    (λ i. Replace (removed i) (inserted i)) ∙ sym (ap (λ o. op_on o (drop c.args.at (page_items c.args.doc))) c.in-Remove.is)
