use Rattle.std.proofs.Common.{ℕ, if◌then◌else◌, Option, Some, None, [], sym, ap, ◌∙◌, arith}
use Rattle.model_items.specs.Plain.{plain, plain_list}
use Rattle.model_items.specs.declared.plain_item.PlainItem.TheVariants as plain_item
use Rattle.model_items.specs.Offsets.{partner}
use Rattle.model_edit.specs.Remove as model
use Rattle.ve_edits.proofs.BracketLemmas.{slice_get-plain, partner_after}
use Rattle.ve_build_remove.proofs.join.join_to.Goals as goal

pub returns-else-not-are_content-clause-join : goal.returns-else-not-are_content-clause-join
returns-else-not-are_content-clause-join c = λ pre values.
    let items = c.args.doc.list.now.items in
    let all = plain_list values items in
    let here = slice_get-plain values items c.args.q c.get.result c.get.ensures ∙ ap (λ y. Some (plain values y)) c.in-Opening.is in
    let J : ℕ → Option model.Join = λ n. Some (record { first = c.args.first; second = c.in-Opening.second; second_closing = n }) in
    ap J (c.partner-second_closing.ensures values)
    ∙ ap (λ b. if b then J (partner all c.args.q) else None) (sym c.if-not-are_content.false ∙ c.are_content.ensures)
    ∙ ap (λ o. model.join_by (Some (plain_item.Closing c.args.first pre)) o (partner all c.args.q)) (sym here)

pub returns-else-not-are_content-clause-after : goal.returns-else-not-are_content-clause-after
returns-else-not-are_content-clause-after c =
    let o = c.in-Opening in
    let b = partner_after [] c.args.doc.list.now.items c.args.q c.get.result o.second o.generated o.head o.marks o.pre o.origin c.get.ensures o.is in
    let e = c.partner-second_closing.ensures [] in
    omega (arith, b.0, e)

pub returns-else-not-are_content-clause-within : goal.returns-else-not-are_content-clause-within
returns-else-not-are_content-clause-within c =
    let o = c.in-Opening in
    let b = partner_after [] c.args.doc.list.now.items c.args.q c.get.result o.second o.generated o.head o.marks o.pre o.origin c.get.ensures o.is in
    let e = c.partner-second_closing.ensures [] in
    omega (arith, b.1, e)
