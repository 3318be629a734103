use Rattle.ve_reader.proofs.ExtendLemmas.{known_store}
use Rattle.ve_reader.proofs.cite.marks_around.Goals as goal

pub returns-then-is_some-clause-store : goal.returns-then-is_some-clause-store
returns-then-is_some-clause-store c = known_store c.args.store.now c.args.marks.now c.args.known c.is_some.result c.is_some.ensures c.if-is_some.true c.requires
