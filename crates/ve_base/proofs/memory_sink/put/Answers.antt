use Rattle.std.proofs.Common.{rules}
use Rattle.std.proofs.lemmas.Slice.{drop-put_mid}
use Rattle.ve_base.proofs.memory_sink.put.Goals as goal

pub returns-clause-rest : goal.returns-clause-rest
returns-clause-rest c = drop-put_mid _ _ _ _ _ (search rules) c.requires (search rules)
