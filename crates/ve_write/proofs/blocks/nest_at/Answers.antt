use Rattle.std.proofs.Common.{sym, ◌∙◌}
use Rattle.ve_write.proofs.BlockLemmas.{nests_found}
use Rattle.ve_write.proofs.blocks.nest_at.Goals as goal

pub returns-then-not-holds_blocks-clause-none : goal.returns-then-not-holds_blocks-clause-none
returns-then-not-holds_blocks-clause-none c = nests_found c.args.list.now.items c.args.at _ c.in-Opening.ensures ∙ sym c.holds_blocks.ensures ∙ c.if-not-holds_blocks.true

pub returns-in-Char-clause-none : goal.returns-in-Char-clause-none
returns-in-Char-clause-none c = nests_found c.args.list.now.items c.args.at _ c.in-Char.ensures

pub returns-in-Closing-clause-none : goal.returns-in-Closing-clause-none
returns-in-Closing-clause-none c = nests_found c.args.list.now.items c.args.at _ c.in-Closing.ensures
