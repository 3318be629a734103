use Rattle.std.proofs.Common.{◌≡◌, ◌++◌, OnOk, sym, ap, ◌∙◌, subst}
use Rattle.model_items.specs.Plain.{head_in, marks_in, plain, value_at, white_in}
use Rattle.ve_json.specs.ReplyMembers.{closing_json, opening_json}
use Rattle.ve_json.specs.Runs.{bracket_json}
use Rattle.ve_json.proofs.MemberLemmas.{closing_is, opening_is}
use Rattle.ve_json.proofs.item_replies.push_bracket.Goals as goal

pub returns-in-Opening-clause-ok : goal.returns-in-Opening-clause-ok
returns-in-Opening-clause-ok c =
    let S = c.args.store.now in
    let o = c.in-Opening in
    let whole = ap (λ h. opening_json o.kind h c.marks_of.result.now c.white_of.result.now o.origin o.generated) c.head_of.ensures
    ∙ ap (λ m. opening_json o.kind (head_in (value_at S o.head)) m c.white_of.result.now o.origin o.generated) c.marks_of.ensures
    ∙ ap (λ w. opening_json o.kind (head_in (value_at S o.head)) (marks_in (value_at S o.marks)) w o.origin o.generated) c.white_of.ensures
    ∙ sym (opening_is o.kind (head_in (value_at S o.head)) (marks_in (value_at S o.marks)) (white_in (value_at S o.pre)) o.origin o.generated)
    ∙ ap (λ i. bracket_json (plain S i)) (sym o.is) in
    subst (λ s. OnOk c.push_opening.result (c.push_opening.new.out.text ≡ c.args.out.now.text ++ s)) whole c.push_opening.ensures.ok

pub returns-in-Closing-clause-ok : goal.returns-in-Closing-clause-ok
returns-in-Closing-clause-ok c =
    let S = c.args.store.now in
    let o = c.in-Closing in
    let whole = ap (closing_json o.kind) c.white_of-in-Closing.ensures
    ∙ sym (closing_is o.kind (white_in (value_at S o.pre)))
    ∙ ap (λ i. bracket_json (plain S i)) (sym o.is) in
    subst (λ s. OnOk c.push_closing.result (c.push_closing.new.out.text ≡ c.args.out.now.text ++ s)) whole c.push_closing.ensures.ok
