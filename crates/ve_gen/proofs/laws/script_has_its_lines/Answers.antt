use Rattle.ve_gen.proofs.LineLemmas.{script_has_its_lines}
use Rattle.ve_gen.proofs.laws.script_has_its_lines.Goals as goal

pub returns : goal.returns
returns c = script_has_its_lines
