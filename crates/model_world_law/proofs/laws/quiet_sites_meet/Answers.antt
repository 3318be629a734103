use Rattle.model_world_law.proofs.ReachLemmas.{quiet_sites_meet_after_lines}
use Rattle.model_world_law.proofs.laws.quiet_sites_meet.Goals as goal

pub returns : goal.returns
returns c = quiet_sites_meet_after_lines
