use Rattle.model_line_law.proofs.PageLemmas.{every_item_stands, opened_items_stand, unedited_is_written_back}
use Rattle.model_line_law.proofs.laws.pages_of_lines_stand.Goals as goal

pub returns-clause-opened : goal.returns-clause-opened
returns-clause-opened c = opened_items_stand

pub returns-clause-items : goal.returns-clause-items
returns-clause-items c = every_item_stands

pub returns-clause-written : goal.returns-clause-written
returns-clause-written c = unedited_is_written_back
