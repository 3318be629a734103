use Rattle.std.proofs.Common.{◌≡◌, None, length, refl, sym, ◌∙◌, arith}
use Rattle.model_items.specs.Plain.{plain_list}
use Rattle.ve_build_shape.proofs.ClaimLemmas.{in_node_first, in_node_last}
use Rattle.ve_build_shape.proofs.claims.wrong_in_node.Goals as goal

pub returns-in-Some : goal.returns-in-Some
returns-in-Some c = λ values. in_node_first (plain_list values c.args.doc.list.now.items) c.args.kinds.now c.args.at c.in-Some.place (c.in-Some.ensures.means values)

pub returns : goal.returns
returns c = λ values.
    let P = plain_list values c.args.doc.list.now.items in
    let none : c.wrong_opening.result ≡ None = (cc) in
    let end = c.end_of_node-end.ensures.means values in
    in_node_last P c.args.kinds.now c.args.at (length c.args.kinds.now) c.saturating_sub-last.result c.wrong_closing.result (c.wrong_closing.ensures values) refl (omega (arith, end))
    (sym (c.wrong_opening.ensures.means values) ∙ none)
