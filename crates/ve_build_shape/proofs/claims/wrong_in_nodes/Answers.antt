use Rattle.std.proofs.Common.{◌≡◌, None, sym, ◌∙◌, arith}
use Rattle.model_items.specs.Plain.{plain_list}
use Rattle.ve_build_shape.proofs.ClaimLemmas.{node_next, node_stop, node_done}
use Rattle.ve_build_shape.proofs.claims.wrong_in_nodes.Goals as goal

pub returns-in-Some : goal.returns-in-Some
returns-in-Some c = λ values.
    node_stop (plain_list values c.args.doc.list.now.items) c.args.kinds.now c.args.nodes.now c.loop-i.i _ (omega arith) c.in-Some.place (c.in-Some.ensures values)
    ∙ c.loop-i.invariant values

pub loop-i-preserved : goal.loop-i-preserved
loop-i-preserved c = λ values.
    let none : c.wrong_in_node.result ≡ None = (cc) in
    node_next (plain_list values c.args.doc.list.now.items) c.args.kinds.now c.args.nodes.now c.loop-i.i _ (omega arith) (sym (c.wrong_in_node.ensures values) ∙ none)
    ∙ c.loop-i.invariant values

pub returns : goal.returns
returns c = λ values.
    node_done (plain_list values c.args.doc.list.now.items) c.args.kinds.now c.args.nodes.now c.loop-i.i (omega arith) ∙ c.loop-i.invariant values
