use Rattle.model_site_law.proofs.StepLemmas.{own_steps_are_free, own_steps_give_back, steps_run}
use Rattle.model_site_law.proofs.laws.steps_are_free.Goals as goal

pub returns-clause-free : goal.returns-clause-free
returns-clause-free c = own_steps_are_free

pub returns-clause-runs : goal.returns-clause-runs
returns-clause-runs c = steps_run

pub returns-clause-lists : goal.returns-clause-lists
returns-clause-lists c = own_steps_give_back
