use Rattle.ve_build_shape.proofs.NodeLemmas.{holds_content}
use Rattle.ve_build_shape.proofs.nodes.holds_content.Goals as goal

pub returns : goal.returns
returns c = λ values. holds_content values c.args.doc.list.now.items c.args.o c.is_content.result c.is_content.ensures
