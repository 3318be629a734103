use Rattle.ve_server.proofs.TurnLemmas.{turns_serve, turns_feed, turns_take}
use Rattle.ve_server.proofs.laws.serving_is_turns.Goals as goal

pub returns-clause-serve : goal.returns-clause-serve
returns-clause-serve c = turns_serve

pub returns-clause-feed : goal.returns-clause-feed
returns-clause-feed c = turns_feed

pub returns-clause-site : goal.returns-clause-site
returns-clause-site c = turns_take
