use Rattle.std.proofs.Common.{◌-◌, if◌then◌else◌, false, None, [], ◌∷◌, sym, ap, ◌∙◌, subst}
use Rattle.std.proofs.lemmas.List.Elements.{All-nil, All-cons}
use Rattle.model_items.specs.declared.item.Item.TheVariants as item
use Rattle.model_items.specs.Plain.{CitesWell}
use Rattle.model_edit.specs.Brackets.{opening_of}
use Rattle.model_edit.specs.Edits.{Edit, Change}
use Rattle.ve_edits.specs.Collected.{Makes}
use Rattle.ve_lists.proofs.deeper.joined.Goals as goal

pub returns-then-closes_before-clause-makes : goal.returns-then-closes_before-clause-makes
returns-then-closes_before-clause-makes c = λ values cited.
    let items = c.args.doc.list.now.items in
    let at = c.args.at in
    let m = c.in_ok-change.ensures.makes values [] cited (All-nil (CitesWell values)) (c.new-edits.ensures.makes values items) in
    let W : Edit → Type 0 = λ e. Makes values items (e ∷ []) c.change.new.self in
    subst W
    (ap (λ b. if b then Change (at - 2) 2 [] else Change (at - 1) 1 (opening_of c.args.kind [] ∷ [])) (sym (sym (c.closes_before.ensures.means values) ∙ c.if-closes_before.true))) m

pub returns-clause-makes : goal.returns-clause-makes
returns-clause-makes c = λ values cited.
    let items = c.args.doc.list.now.items in
    let at = c.args.at in
    let opening = item.Opening c.args.kind false None None None None in
    let m = c.in_ok-change-2.ensures.makes values [] cited (All-cons (CitesWell values) opening [] (tt, tt, tt) (All-nil (CitesWell values))) (c.new-edits.ensures.makes values items) in
    let W : Edit → Type 0 = λ e. Makes values items (e ∷ []) c.change-2.new.self in
    subst W
    (ap (λ b. if b then Change (at - 2) 2 [] else Change (at - 1) 1 (opening_of c.args.kind [] ∷ [])) (sym (sym (c.closes_before.ensures.means values) ∙ c.if-closes_before.false))) m
