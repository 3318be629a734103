use Rattle.model_world_law.proofs.WrittenLemmas.{lines_are_written}
use Rattle.model_world_law.proofs.ChangeLemmas.{changes_fit, pages_are_sound}
use Rattle.model_world_law.proofs.CompletedLemmas.{completed_fit}
use Rattle.model_world_law.proofs.BuilderLemmas.{moves_fit}
use Rattle.model_world_law.proofs.laws.layers_fit.Goals as goal

pub returns-clause-lines : goal.returns-clause-lines
returns-clause-lines c = lines_are_written

pub returns-clause-completed : goal.returns-clause-completed
returns-clause-completed c = completed_fit

pub returns-clause-changes : goal.returns-clause-changes
returns-clause-changes c = changes_fit

pub returns-clause-moves : goal.returns-clause-moves
returns-clause-moves c = moves_fit

pub returns-clause-pages : goal.returns-clause-pages
returns-clause-pages c = pages_are_sound
