use Rattle.model_page_law.proofs.SpanCuts.{body_is_cut, spans_are_parts}
use Rattle.model_page_law.proofs.laws.spans_are_parts.Goals as goal

-- src/lib.rt:38:1
pub returns-clause-body : goal.returns-clause-body
returns-clause-body c = body_is_cut

pub returns-clause-spans : goal.returns-clause-spans
returns-clause-spans c = spans_are_parts
