use Rattle.model_table_law.proofs.RowOutKeepLemmas.{row_out_keeps}
use Rattle.model_table_law.proofs.ColOutKeepLemmas.{col_out_keeps}
use Rattle.model_table_law.proofs.RowInKeepLemmas.{row_in_keeps}
use Rattle.model_table_law.proofs.ColInKeepLemmas.{col_in_keeps}
use Rattle.model_table_law.proofs.RowInGridLemmas.{row_in_grid}
use Rattle.model_table_law.proofs.ColInGridLemmas.{col_in_grid}
use Rattle.model_table_law.proofs.laws.cells_keep_their_insides.Goals as goal

pub returns-clause-row_in : goal.returns-clause-row_in
returns-clause-row_in c = row_in_keeps row_in_grid

pub returns-clause-col_in : goal.returns-clause-col_in
returns-clause-col_in c = col_in_keeps col_in_grid

pub returns-clause-row_out : goal.returns-clause-row_out
returns-clause-row_out c = row_out_keeps

pub returns-clause-col_out : goal.returns-clause-col_out
returns-clause-col_out c = col_out_keeps
