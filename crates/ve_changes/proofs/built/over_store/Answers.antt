use Rattle.ve_changes.proofs.DraftLemmas.{over_store, same_over_store}
use Rattle.ve_changes.proofs.built.over_store.Goals as goal

pub returns-clause-draft : goal.returns-clause-draft
returns-clause-draft c = over_store c.args.doc.store.now c.new-values.result c.args.tx c.new-values.ensures c.requires.cites

pub returns-clause-same : goal.returns-clause-same
returns-clause-same c = same_over_store c.args.doc.store.now c.new-values.result c.args.tx c.new-values.ensures
