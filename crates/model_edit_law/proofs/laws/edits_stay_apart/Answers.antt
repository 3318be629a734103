use Rattle.model_edit_law.proofs.ApartLemmas.{edits_insert_pieces, edits_are_apart, edits_stay_apart, fine_stays_apart}
use Rattle.model_edit_law.proofs.laws.edits_stay_apart.Goals as goal

pub returns-clause-pieces : goal.returns-clause-pieces
returns-clause-pieces c = edits_insert_pieces

pub returns-clause-inserted : goal.returns-clause-inserted
returns-clause-inserted c = edits_are_apart

pub returns-clause-list : goal.returns-clause-list
returns-clause-list c = edits_stay_apart

pub returns-clause-fine : goal.returns-clause-fine
returns-clause-fine c = fine_stays_apart
