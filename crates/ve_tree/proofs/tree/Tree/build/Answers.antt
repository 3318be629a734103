use Rattle.std.proofs.Common.{◌≤◌, ◌+◌, ◌*◌, ap, subst}
use Rattle.ve_tree.specs.IsTree.{unvalued}
use Rattle.ve_tree.specs.Grown.{ReadChildren, count_from}
use Rattle.ve_tree.proofs.BuildLemmas.{built_is_tree, steps_built, within_cost}
use Rattle.ve_tree.proofs.tree.Tree.build.Goals as goal

pub returns-in_err-read_children-clause-six_a_node : goal.returns-in_err-read_children-clause-six_a_node
returns-in_err-read_children-clause-six_a_node g c =
    steps_built c.args.steps.now c.make.new.steps c.set_len.new.steps c.read_children.new.steps c.args.list.now.items c.new-rest.result.left c.requires
    c.in_ok-root.ensures.step c.set_len.ensures.step
    (subst (λ items. c.read_children.new.steps + 6 * count_from items c.new-rest.result.left ≤ c.set_len.new.steps + 6 * count_from items 0) c.new-rest.ensures.items
    c.in_err-read_children.ensures.steps)

pub returns-in_err-read_children-clause-steps : goal.returns-in_err-read_children-clause-steps
returns-in_err-read_children-clause-steps g c = within_cost c.args.steps.now c.read_children.new.steps (unvalued c.args.list.now.items) (returns-in_err-read_children-clause-six_a_node g c)

pub landmarks_of-landmarks-requires : goal.landmarks_of-landmarks-requires
landmarks_of-landmarks-requires g c = record {
  items = unvalued c.args.list.now.items;
  tree = built_is_tree c.new-arena.result.slots c.make.new.self.slots c.set_len.new.self.slots c.read_children.new.arena.slots c.in_ok-root.root c.args.list.now.items c.len.result c.new-rest.result.left
      c.read_children.new.rest.left (ap (λ arena. arena.slots) c.new-arena.ensures) c.len.ensures c.new-rest.ensures.left c.in_ok-root.ensures.made c.set_len.ensures.write
      (subst (λ items. ReadChildren c.set_len.new.self.slots c.read_children.new.arena.slots c.in_ok-root.root.0 items c.read_children.new.rest.left c.new-rest.result.left) c.new-rest.ensures.items
      c.in_ok-read_children.ensures.read) c.requires;
}

pub returns-clause-tree : goal.returns-clause-tree
returns-clause-tree g c = record {
  links = built_is_tree c.new-arena.result.slots c.make.new.self.slots c.set_len.new.self.slots c.read_children.new.arena.slots c.in_ok-root.root c.args.list.now.items c.len.result c.new-rest.result.left
      c.read_children.new.rest.left (ap (λ arena. arena.slots) c.new-arena.ensures) c.len.ensures c.new-rest.ensures.left c.in_ok-root.ensures.made c.set_len.ensures.write
      (subst (λ items. ReadChildren c.set_len.new.self.slots c.read_children.new.arena.slots c.in_ok-root.root.0 items c.read_children.new.rest.left c.new-rest.result.left) c.new-rest.ensures.items
      c.in_ok-read_children.ensures.read) c.requires;
  landmarks = c.landmarks_of-landmarks.ensures;
}

pub returns-clause-six_a_node : goal.returns-clause-six_a_node
returns-clause-six_a_node g c =
    steps_built c.args.steps.now c.make.new.steps c.set_len.new.steps c.read_children.new.steps c.args.list.now.items c.new-rest.result.left c.requires
    c.in_ok-root.ensures.step c.set_len.ensures.step
    (subst (λ items. c.read_children.new.steps + 6 * count_from items c.new-rest.result.left ≤ c.set_len.new.steps + 6 * count_from items 0) c.new-rest.ensures.items
    c.in_ok-read_children.ensures.steps)

pub returns-clause-steps : goal.returns-clause-steps
returns-clause-steps g c = within_cost c.args.steps.now c.read_children.new.steps (unvalued c.args.list.now.items) (returns-clause-six_a_node g c)
