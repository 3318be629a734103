use Rattle.std.proofs.Common.{refl}
use Rattle.model_items.specs.Tree.{class_at, node_at}
use Rattle.ve_arena.specs.declared.node.NodeWhat.TheVariants as what
use Rattle.ve_tree.specs.Places.{NodePlace}
use Rattle.ve_tree.specs.IsTree.{unvalued}
use Rattle.ve_tree.proofs.ClimbLemmas.{tree_listed}
use Rattle.ve_answers.proofs.NodeLemmas.{answer_at}
use Rattle.ve_answers.proofs.place.node_within.Goals as goal

pub range_of-from-requires : goal.range_of-from-requires
range_of-from-requires c =
    let all = unvalued c.args.doc.list.now.items in
    let here = node_at all c.args.at in
    let found = c.node_at-node.ensures all c.requires.doc.links in
    let place : NodePlace = record { number = c.node_at-node.result.0; parent = found.parent; sort = what.Node here.kind; from = here.from; to = here.to } in
    record {
      node = record { items = all; tree = c.requires.doc.links; place = place; listed = found.listed; number_is = refl };
      landmarks = c.requires.doc.landmarks;
    }

pub kind_of-requires : goal.kind_of-requires
kind_of-requires c =
    let all = unvalued c.args.doc.list.now.items in
    let here = node_at all c.args.at in
    let found = c.node_at-node.ensures all c.requires.doc.links in
    let place : NodePlace = record { number = c.node_at-node.result.0; parent = found.parent; sort = what.Node here.kind; from = here.from; to = here.to } in
    record { kind = here.kind; is_kind = (tree_listed c.requires.doc.links place found.listed).sort_is }

pub returns : goal.returns
returns c =
    let all = unvalued c.args.doc.list.now.items in
    let here = node_at all c.args.at in
    let found = c.node_at-node.ensures all c.requires.doc.links in
    let place : NodePlace = record { number = c.node_at-node.result.0; parent = found.parent; sort = what.Node here.kind; from = here.from; to = here.to } in
    answer_at c.kind_of.result here.kind here.from here.to c.range_of-from.result c.class_at.result (class_at all c.args.at)
    (c.kind_of.ensures.place all c.requires.doc.links place found.listed refl)
    (c.range_of-from.ensures all c.requires.doc.links place found.listed refl)
    c.class_at.ensures
