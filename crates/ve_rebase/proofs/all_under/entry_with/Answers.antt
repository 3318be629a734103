use Rattle.ve_rebase.proofs.MovedLemmas.{entry_written}
use Rattle.ve_rebase.proofs.all_under.entry_with.Goals as goal

pub returns : goal.returns
returns c = entry_written c.args.entry.now c.args.all.now c.in_ok-written.field-0 c.requires.kept c.in_ok-written.ensures.written c.in_ok-written.ensures.cite
