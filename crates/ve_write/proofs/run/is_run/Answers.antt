use Rattle.std.proofs.Common.{sym, ◌∙◌}
use Rattle.ve_write.proofs.RunLemmas.{run_done}
use Rattle.ve_write.proofs.run.is_run.Goals as goal

pub returns : goal.returns
returns c = run_done c.args.store.now c.args.list.now.items c.args.from c.loop-alloc.at c.loop-alloc.seen (sym c.ends_at.ensures ∙ c.loop-alloc-test.false) c.loop-alloc.invariant.same
