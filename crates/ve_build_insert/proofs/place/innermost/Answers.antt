use Rattle.std.proofs.Common.{sym, ◌∙◌}
use Rattle.ve_edits.proofs.StackLemmas.{top_none, top_some}
use Rattle.ve_build_insert.proofs.place.innermost.Goals as goal

pub returns-then-depth-eq0 : goal.returns-then-depth-eq0
returns-then-depth-eq0 c = sym (top_none c.args.state.now.stack (sym c.depth.ensures.depth ∙ c.if-depth-eq0.true))

pub returns : goal.returns
returns c = sym (top_some c.args.state.now.stack c.kind.result c.kind.ensures)
