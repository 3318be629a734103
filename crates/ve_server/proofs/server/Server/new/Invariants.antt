use Rattle.std.proofs.Common.{◌≡◌, [], replicate}
use Rattle.ve_server.specs.Waiting.{feeds_in}
use Rattle.ve_server.proofs.server.Server.new.Given as goal

abbrev pub invariant-loop-site : goal.invariant-loop-site
invariant-loop-site l = feeds_in l.queues.items ≡ replicate l._site []
