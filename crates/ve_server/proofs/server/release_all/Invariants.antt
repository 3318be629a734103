use Rattle.std.proofs.Common.{◌≡◌, ◌++◌, map, take, drop}
use Rattle.ve_server.specs.Waiting.{released}
use Rattle.ve_server.proofs.server.release_all.Given as goal

abbrev pub invariant-loop-site : goal.invariant-loop-site
invariant-loop-site l = l.queues ≡ map released (take l.site l.fn.queues) ++ drop l.site l.fn.queues
