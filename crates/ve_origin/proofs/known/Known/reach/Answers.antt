use Rattle.ve_origin.proofs.AlikeLemmas.{known_part}
use Rattle.ve_origin.proofs.known.Known.reach.Goals as goal

pub returns-then-run-gt0 : goal.returns-then-run-gt0
returns-then-run-gt0 c = λ items others count known le.
    known_part items others c.args.self.alike c.args.now c.args.first c.reach-run.result count known.alike c.reach-run.ensures.before c.reach-run.ensures.step c.reach-run.ensures.end le

pub returns : goal.returns
returns c = λ items others count known le.
    known_part items others c.args.self.at_end c.args.now c.args.first c.reach.result count known.at_end c.reach.ensures.before c.reach.ensures.step c.reach.ensures.end le
