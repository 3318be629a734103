use Rattle.std.proofs.Common.{[], refl, arith}
use Rattle.std.proofs.lemmas.List.{length-map}
use Rattle.model_items.specs.Plain.{plain}
use Rattle.model_items.specs.Tree.{node_at}
use Rattle.ve_arena.specs.declared.node.NodeWhat.TheVariants as what
use Rattle.ve_tree.specs.Places.{NodePlace}
use Rattle.ve_tree.specs.IsTree.{unvalued}
use Rattle.ve_edits.proofs.brackets.range_round.Goals as goal

pub node_at-requires : goal.node_at-requires
node_at-requires c = record { items = unvalued c.args.doc.list.now.items; tree_of = c.requires.doc; within = omega (arith, c.requires.within, length-map c.args.doc.list.now.items (plain [])) }

pub range_of-requires : goal.range_of-requires
range_of-requires c =
    let all = unvalued c.args.doc.list.now.items in
    let here = node_at all c.args.o in
    let found = c.node_at.ensures all c.requires.doc.links in
    let place : NodePlace = record { number = c.node_at.result.0; parent = found.parent; sort = what.Node here.kind; from = here.from; to = here.to } in
    record {
      node = record { items = all; tree = c.requires.doc.links; place = place; listed = found.listed; number_is = refl };
      landmarks = c.requires.doc.landmarks;
    }

pub returns : goal.returns
returns c =
    let all = unvalued c.args.doc.list.now.items in
    let here = node_at all c.args.o in
    let found = c.node_at.ensures all c.requires.doc.links in
    let place : NodePlace = record { number = c.node_at.result.0; parent = found.parent; sort = what.Node here.kind; from = here.from; to = here.to } in
    c.range_of.ensures all c.requires.doc.links place found.listed refl
