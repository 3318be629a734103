use Rattle.std.proofs.Common.{◌&&◌, not, sym, ap, ◌∙◌, arith}
use Rattle.std.proofs.lemmas.List.{length-map}
use Rattle.model_items.specs.Plain.{plain, plain_list}
use Rattle.ve_build_shape.specs.Nodes.{is_matched}
use Rattle.ve_build_shape.proofs.NodeLemmas.{whole_is}
use Rattle.ve_build_shape.proofs.nodes.is_whole_nodes.Goals as goal

pub returns-then-holds_content-clause-means : goal.returns-then-holds_content-clause-means
returns-then-holds_content-clause-means c = λ values.
    let P = plain_list values c.args.doc.list.now.items in
    let n = length-map c.args.doc.list.now.items (plain values) in
    sym (whole_is P c.args.from c.args.to (omega (arith, c.if-to-from.false)) (omega (arith, n, c.if-len-to.false, c.len.ensures))
    ∙ ap (λ b. not b && is_matched P c.args.from c.args.to) (sym (c.holds_content.ensures values) ∙ c.if-holds_content.true))

pub returns-clause-means : goal.returns-clause-means
returns-clause-means c = λ values.
    let P = plain_list values c.args.doc.list.now.items in
    let n = length-map c.args.doc.list.now.items (plain values) in
    c.is_matched.ensures values
    ∙ sym (whole_is P c.args.from c.args.to (omega (arith, c.if-to-from.false)) (omega (arith, n, c.if-len-to.false, c.len.ensures))
    ∙ ap (λ b. not b && is_matched P c.args.from c.args.to) (sym (c.holds_content.ensures values) ∙ c.if-holds_content.false))
