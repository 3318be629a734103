use Rattle.model_script.proofs.Cuts.{script_is_its_lines}
use Rattle.model_script.proofs.laws.script_is_its_lines.Goals as goal

pub returns : goal.returns
returns c = script_is_its_lines
