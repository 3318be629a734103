use Rattle.std.proofs.Common.{◌∙◌}
use Rattle.ve_tx.proofs.ManyLemmas.{inserted}
use Rattle.ve_tx.proofs.many.note.Goals as goal

pub returns-clause-ok : goal.returns-clause-ok
returns-clause-ok c = inserted c.args.numbers.now c.insert.new.self c.in_ok-key.key _ c.args.number (c.in_ok-key.ensures.ok ∙ c.as_str.ensures.bytes) c.in_ok-insert.ensures.entries
