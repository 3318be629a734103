use Rattle.std.proofs.Common.{arith}
use Rattle.ve_tables.proofs.FloorLemmas.{rest_freed}
use Rattle.ve_tables.proofs.floors.free_rest.Goals as goal

pub returns : goal.returns
returns c = rest_freed c.args.free.now c.push.new.self c.args.from c.args.to (omega (arith, c.if-to-from.false)) c.in_ok-push.ensures
