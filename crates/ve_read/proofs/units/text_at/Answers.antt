use Rattle.ve_read.proofs.UnitLemmas.{text_is, text_token}
use Rattle.ve_read.proofs.units.text_at.Goals as goal

pub unreachable-requires : goal.unreachable-requires
unreachable-requires c = text_token c.args.forest.now c.args.n c.node.result.now c.requires.some c.node.ensures c.in_default.not-Chars

pub returns : goal.returns
returns c = text_is c.args.forest.now c.args.n c.node.result.now c.in-Chars.text c.in-Chars.span c.node.ensures c.in-Chars.is
