use Rattle.std.proofs.Common.{[]}
use Rattle.ve_origin.specs.Origins.{first_read}
use Rattle.ve_session.proofs.ends.known_at.Goals as goal

pub returns-in-None : goal.returns-in-None
returns-in-None c = (c.nothing.ensures c.args.now.now.items [] (first_read [] (record { from = 0; to = 0 }) [] c.args.first.now.items [])).items
