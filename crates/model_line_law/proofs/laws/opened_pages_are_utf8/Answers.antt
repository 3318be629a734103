use Rattle.model_line_law.proofs.PageLemmas.{opened_is_utf8}
use Rattle.model_line_law.proofs.laws.opened_pages_are_utf8.Goals as goal

pub returns : goal.returns
returns c = opened_is_utf8
