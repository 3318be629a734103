use Rattle.model_items.proofs.laws.node_at_is_innermost.Goals as goal
use Rattle.model_items.proofs.NodeAtLemmas as law

pub returns-clause-found : goal.returns-clause-found
returns-clause-found c = law.found_in_tree

pub returns-clause-all : goal.returns-clause-all
returns-clause-all c = law.count_all

pub returns-clause-innermost : goal.returns-clause-innermost
returns-clause-innermost c = law.node_at_is_innermost

pub returns-clause-state : goal.returns-clause-state
returns-clause-state c = law.open_is_stack

pub returns-clause-class : goal.returns-clause-class
returns-clause-class c = law.class_is_of_top
