use Rattle.ve_tx.specs.Spliced.{spliced_by}
use Rattle.ve_editor.proofs.CauseLemmas.{lawful_made, unlawful_made}
use Rattle.ve_editor.proofs.verdict.law_after.Goals as goal

pub returns-clause-ok : goal.returns-clause-ok
returns-clause-ok c =
    let list = c.args.doc.list.now.items in
    lawful_made c.args.doc.store.now c.args.tx.now list (spliced_by list c.args.change.now.splices.items) c.requires.made c.check_change.result c.check_change.ensures.ok

pub returns-clause-err : goal.returns-clause-err
returns-clause-err c =
    let list = c.args.doc.list.now.items in
    unlawful_made c.args.doc.store.now c.args.tx.now list (spliced_by list c.args.change.now.splices.items) c.requires.made c.check_change.result c.check_change.ensures.err
