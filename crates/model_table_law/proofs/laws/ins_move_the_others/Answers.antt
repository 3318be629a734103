use Rattle.model_table_law.proofs.RowInGridLemmas.{row_in_grid}
use Rattle.model_table_law.proofs.ColInGridLemmas.{col_in_grid}
use Rattle.model_table_law.proofs.laws.ins_move_the_others.Goals as goal

pub returns-clause-row : goal.returns-clause-row
returns-clause-row c = row_in_grid

pub returns-clause-column : goal.returns-clause-column
returns-clause-column c = col_in_grid
