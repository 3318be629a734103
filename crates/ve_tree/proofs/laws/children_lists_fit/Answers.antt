use Rattle.ve_tree.proofs.FitsLemmas as law
use Rattle.ve_tree.proofs.laws.children_lists_fit.Goals as goal

pub returns-clause-tree : goal.returns-clause-tree
returns-clause-tree c = law.tree_fits

pub returns-clause-lists : goal.returns-clause-lists
returns-clause-lists c = law.fits_are_tree
