use Rattle.ve_gen.proofs.LineLemmas.{script_has_two_lines_more}
use Rattle.ve_gen.proofs.laws.script_has_two_lines_more.Goals as goal

pub returns : goal.returns
returns c = script_has_two_lines_more
