use Rattle.std.proofs.Common.{◌∙◌, ap}
use Rattle.ve_server.specs.Waiting.{released}
use Rattle.ve_server.proofs.ServerLemmas.{all_ready}
use Rattle.ve_server.proofs.queue.Queue.release.Goals as goal

pub returns : goal.returns
returns c = all_ready c.len-self-inside.result c.self.inside.ready c.self.inside.feeds.items (c.len-self-inside.ensures ∙ c.self.inside.feeds.ok.0) ∙ ap released c.self.view_is
