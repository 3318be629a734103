use Rattle.ve_session.proofs.WorldLemmas.{may_open}
use Rattle.ve_session.proofs.world.World.open.Goals as goal

pub open-requires : goal.open-requires
open-requires g c = record { may = may_open c.args.self.now.world c.args.text c.args.sites c.lines_lead.ensures.led c.requires.asked }
