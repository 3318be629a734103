use Rattle.model_world_law.proofs.ChangeStand as law
use Rattle.model_world_law.proofs.laws.insertions_stand.Goals as goal

pub returns-clause-changes : goal.returns-clause-changes
returns-clause-changes c = law.changes_stand

pub returns-clause-moves : goal.returns-clause-moves
returns-clause-moves c = law.moves_stand

pub returns-clause-pages : goal.returns-clause-pages
returns-clause-pages c = law.pages_stand
