use Rattle.std.proofs.Common.{ap, arith, length}
use Rattle.ve_gen.proofs.LineLemmas.{script_has_two_lines_more}
use Rattle.ve_run.proofs.soak.sum_up.Goals as goal

pub step_lines-requires-clause-few : goal.step_lines-requires-clause-few
step_lines-requires-clause-few g c =
    omega (arith, ap length c.new-lines.ensures, script_has_two_lines_more c.args.start c.args.edits, c.ranges.edits.fits)
