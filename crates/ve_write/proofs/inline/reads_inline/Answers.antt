use Rattle.ve_write.proofs.InlineLemmas.{read_is}
use Rattle.ve_write.proofs.inline.reads_inline.Goals as goal

pub returns-in-Ok : goal.returns-in-Ok
returns-in-Ok c = let found = c.in-Ok.ensures.found in read_is c.args.source.now c.in-Ok.inline found.0 found.1 found.2
