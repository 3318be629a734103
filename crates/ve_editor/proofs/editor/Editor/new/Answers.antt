use Rattle.std.proofs.Common.{refl}
use Rattle.model_items.specs.Plain.{plain_list}
use Rattle.ve_editor.proofs.ReadyLemmas.{six_within, steps_within}
use Rattle.ve_editor.proofs.editor.Editor.new.Goals as goal

pub returns-in_err-tree-clause-steps : goal.returns-in_err-tree-clause-steps
returns-in_err-tree-clause-steps g c = steps_within c.args.store c.args.list.items (plain_list c.args.store c.args.list.items) _ _ refl c.build.ensures.steps

pub returns-clause-steps : goal.returns-clause-steps
returns-clause-steps g c = steps_within c.args.store c.args.list.items (plain_list c.args.store c.args.list.items) _ _ refl c.build.ensures.steps

pub returns-in_err-tree-clause-six_a_node : goal.returns-in_err-tree-clause-six_a_node
returns-in_err-tree-clause-six_a_node g c = six_within c.args.store c.args.list.items (plain_list c.args.store c.args.list.items) _ _ refl c.build.ensures.six_a_node

pub returns-clause-six_a_node : goal.returns-clause-six_a_node
returns-clause-six_a_node g c = six_within c.args.store c.args.list.items (plain_list c.args.store c.args.list.items) _ _ refl c.build.ensures.six_a_node
