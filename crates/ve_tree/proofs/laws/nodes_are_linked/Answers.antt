use Rattle.ve_tree.proofs.NodesLemmas as law
use Rattle.ve_tree.proofs.laws.nodes_are_linked.Goals as goal

pub returns-clause-links : goal.returns-clause-links
returns-clause-links c = law.links_lead_to_nodes

pub returns-clause-nodes : goal.returns-clause-nodes
returns-clause-nodes c = law.nodes_are_in_tree
