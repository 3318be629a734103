use Rattle.ve_tree.proofs.DistinctLemmas as distinct
use Rattle.ve_tree.proofs.ReadsLemmas as law
use Rattle.ve_tree.proofs.laws.links_are_read.Goals as goal

pub returns-clause-tree : goal.returns-clause-tree
returns-clause-tree c = law.tree_is_read

pub returns-clause-one : goal.returns-clause-one
returns-clause-one c = law.one_is_read

pub returns-clause-numbering : goal.returns-clause-numbering
returns-clause-numbering c = law.one_numbering

pub returns-clause-read : goal.returns-clause-read
returns-clause-read c = distinct.read_is_tree
