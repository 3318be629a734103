use Rattle.model_items.proofs.laws.lawful_lists_are_trees.Goals as goal
use Rattle.model_items.proofs.LawfulTreeLemmas.{lawful_has_tree, tree_is_lawful}

pub returns-clause-tree : goal.returns-clause-tree
returns-clause-tree c = lawful_has_tree

pub returns-clause-list : goal.returns-clause-list
returns-clause-list c = tree_is_lawful
