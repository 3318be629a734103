use Rattle.model_edit_law.proofs.TableFineLemmas.{row_in_fine, col_in_fine, row_out_fine, col_out_fine}
use Rattle.model_edit_law.proofs.laws.tables_are_fine.Goals as goal

pub returns-clause-row_in : goal.returns-clause-row_in
returns-clause-row_in c = row_in_fine

pub returns-clause-col_in : goal.returns-clause-col_in
returns-clause-col_in c = col_in_fine

pub returns-clause-row_out : goal.returns-clause-row_out
returns-clause-row_out c = row_out_fine

pub returns-clause-col_out : goal.returns-clause-col_out
returns-clause-col_out c = col_out_fine
