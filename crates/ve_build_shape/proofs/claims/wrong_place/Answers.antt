use Rattle.std.proofs.Common.{◌≡◌, None, length, refl, ◌∙◌, arith}
use Rattle.model_items.specs.Plain.{plain_list}
use Rattle.ve_build_shape.proofs.ClaimLemmas.{wrong_before, wrong_inside, wrong_after}
use Rattle.ve_build_shape.proofs.claims.wrong_place.Goals as goal

pub returns-in-Some : goal.returns-in-Some
returns-in-Some c = λ values.
    wrong_before (plain_list values c.args.doc.list.now.items) c.args.from c.args.to c.args.outer.now c.args.each.now c.args.nodes.now (length c.args.outer.now) refl (omega arith)
    c.in-Some.place (c.in-Some.ensures.means values)

pub returns-in-Some-wrong_in_nodes : goal.returns-in-Some-wrong_in_nodes
returns-in-Some-wrong_in_nodes c = λ values.
    let none : None ≡ c.wrong_opening.result = (cc) in
    wrong_inside (plain_list values c.args.doc.list.now.items) c.args.from c.args.to c.args.outer.now c.args.each.now c.args.nodes.now (length c.args.outer.now) refl (omega arith)
    c.in-Some-wrong_in_nodes.place (none ∙ c.wrong_opening.ensures.means values) (c.in-Some-wrong_in_nodes.ensures values)

pub returns : goal.returns
returns c = λ values.
    let none : None ≡ c.wrong_opening.result = (cc) in
    let inside : None ≡ c.wrong_in_nodes.result = (cc) in
    wrong_after (plain_list values c.args.doc.list.now.items) c.args.from c.args.to c.args.outer.now c.args.each.now c.args.nodes.now (length c.args.outer.now) refl (omega arith)
    c.wrong_closing.result (none ∙ c.wrong_opening.ensures.means values) (inside ∙ c.wrong_in_nodes.ensures values) (c.wrong_closing.ensures values)
