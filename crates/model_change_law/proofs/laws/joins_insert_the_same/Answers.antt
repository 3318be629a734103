use Rattle.model_change_law.proofs.laws.joins_insert_the_same.Goals as goal
use Rattle.model_change_law.proofs.InsertedLemmas as law

pub returns-clause-pair : goal.returns-clause-pair
returns-clause-pair c = law.joins_insert_the_same

pub returns-clause-lists : goal.returns-clause-lists
returns-clause-lists c = law.join_lists_insert_the_same
