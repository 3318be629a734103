use Rattle.ve_tree.proofs.ShapeLemmas as law
use Rattle.ve_tree.proofs.laws.shapes_are_read.Goals as goal

pub returns : goal.returns
returns c = law.shapes_read
