use Rattle.model_items.proofs.laws.verdict_is_first.Goals as goal
use Rattle.model_items.proofs.LawLemmas.{verdict_is_first_offence}

pub returns : goal.returns
returns c = verdict_is_first_offence
