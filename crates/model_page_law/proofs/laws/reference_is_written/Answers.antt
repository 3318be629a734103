use Rattle.model_page_law.proofs.ReferenceLemmas.{reference_is_written, reference_has_body}
use Rattle.model_page_law.proofs.laws.reference_is_written.Goals as goal

pub returns-clause-written : goal.returns-clause-written
returns-clause-written c = reference_is_written

pub returns-clause-body : goal.returns-clause-body
returns-clause-body c = reference_has_body
