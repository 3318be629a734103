use Rattle.model_world_law.proofs.ViewLemmas.{lines_show}
use Rattle.model_world_law.proofs.laws.lines_show.Goals as goal

pub returns : goal.returns
returns c = lines_show
