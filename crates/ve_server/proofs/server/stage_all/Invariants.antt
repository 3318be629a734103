use Rattle.std.proofs.Common.{◌≡◌}
use Rattle.ve_server.proofs.ServerLemmas.{staged_to}
use Rattle.ve_server.proofs.server.stage_all.Given as goal

abbrev pub invariant-loop-site : goal.invariant-loop-site
invariant-loop-site l = l.queues ≡ staged_to l.sender l.entries.entries l.fn.queues l.site
