use Rattle.ve_tables.proofs.FloorLemmas.{first_some}
use Rattle.ve_tables.proofs.floors.first_free.Goals as goal

pub returns-in-Some : goal.returns-in-Some
returns-in-Some c = first_some c.args.floors.now c.in-Some.first c.requires c.in-Some.ensures.some
