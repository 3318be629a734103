use Rattle.std.proofs.Common.{[], arith}
use Rattle.std.proofs.lemmas.List.{length-map}
use Rattle.model_items.specs.Plain.{plain}
use Rattle.ve_offsets.proofs.StateLemmas.{unvalued_state}
use Rattle.ve_offsets.proofs.WayUpLemmas.{few_opens}
use Rattle.ve_tree.specs.IsTree.{unvalued}
use Rattle.ve_offsets.proofs.state.state_within.Goals as goal

pub returns : goal.returns
returns c = unvalued_state c.args.doc.list.now.items c.args.o _ (c.enter_round.ensures c.args.o c.requires.within (λ tree. c.node_at.ensures (unvalued c.args.doc.list.now.items) tree))

pub enter_round-requires-clause-round : goal.enter_round-requires-clause-round
enter_round-requires-clause-round c = record {
  at = c.args.o;
  within = omega (arith, c.requires.within, length-map c.args.doc.list.now.items (plain []));
  round = λ tree. c.node_at.ensures (unvalued c.args.doc.list.now.items) tree;
  few = few_opens (unvalued c.args.doc.list.now.items) c.args.o c.requires.doc.links.lawful;
}
