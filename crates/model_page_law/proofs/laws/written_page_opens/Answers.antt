use Rattle.model_page_law.proofs.BodyReplaced.{body_is_replaced, written_opens, written_is_read_back}
use Rattle.model_page_law.proofs.laws.written_page_opens.Goals as goal

pub returns-clause-replaced : goal.returns-clause-replaced
returns-clause-replaced c = body_is_replaced

pub returns-clause-opens : goal.returns-clause-opens
returns-clause-opens c = written_opens

pub returns-clause-read_back : goal.returns-clause-read_back
returns-clause-read_back c = written_is_read_back
