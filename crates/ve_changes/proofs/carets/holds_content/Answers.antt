use Rattle.ve_build_shape.proofs.NodeLemmas.{holds_content}
use Rattle.ve_changes.proofs.carets.holds_content.Goals as goal

pub returns : goal.returns
returns c = holds_content c.args.doc.store.now c.args.doc.list.now.items c.args.at c.is_content.result c.is_content.ensures
