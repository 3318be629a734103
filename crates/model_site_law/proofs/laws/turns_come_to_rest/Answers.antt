use Rattle.model_site_law.proofs.QuietLemmas.{quiet_sites_meet, serving_lowers, taking_lowers}
use Rattle.model_site_law.proofs.laws.turns_come_to_rest.Goals as goal

pub returns-clause-serving : goal.returns-clause-serving
returns-clause-serving c = serving_lowers

pub returns-clause-taking : goal.returns-clause-taking
returns-clause-taking c = taking_lowers

pub returns-clause-meet : goal.returns-clause-meet
returns-clause-meet c = quiet_sites_meet
