use Rattle.std.proofs.Common.{◌≡◌, suc, ◌==◌, true, false, if◌then◌else◌, [], ◌∷◌, sym, ap, ◌∙◌, subst, arith, eq-eqb, eqb-true}
use Rattle.std.specs.Prelude.{All}
use Rattle.std.proofs.lemmas.Bool.{false_from_ne_true}
use Rattle.std.proofs.lemmas.List.Elements.{All-nil, All-cons}
use Rattle.ve_kinds.specs.declared.kind.Kind.TheVariants.{Li}
use Rattle.model_items.specs.declared.item.Item.{Item}
use Rattle.model_items.specs.Plain.{plain, CitesWell}
use Rattle.model_edit.specs.Brackets.{closing_of}
use Rattle.model_edit.specs.Edits.{Edit, Change}
use Rattle.model_edit.specs.Lists.{list_ends}
use Rattle.ve_edits.specs.Collected.{Makes}
use Rattle.ve_lists.proofs.outward.ended.Goals as goal

pub returns-then-list-at-clause-makes : goal.returns-then-list-at-clause-makes
returns-then-list-at-clause-makes c = λ values cited.
    let items = c.args.doc.list.now.items in
    let at = c.args.at in
    let from = c.args.list.from in
    let W = CitesWell values in
    let m = c.in_ok-change.ensures.makes values [] cited (All-cons W c.closing.result [] (subst W (sym c.closing.ensures) tt) (All-nil W)) (c.new-edits.ensures.makes values items) in
    let E : Edit → Type 0 = λ e. Makes values items (e ∷ []) c.change.new.self in
    let same : suc from ≡ at = let e = c.if-list-at.true in omega arith in
    let first : (suc from == at) ≡ true = eq-eqb (suc from) at same in
    subst E
    (ap (λ (x : Item). Change from 1 (plain values x ∷ [])) c.closing.ensures
    ∙ ap (λ b. if b then Change from 1 (closing_of Li ∷ []) else Change at 0 (list_ends c.args.list.kind)) (sym first)) m

pub returns-clause-makes : goal.returns-clause-makes
returns-clause-makes c = λ values cited.
    let items = c.args.doc.list.now.items in
    let at = c.args.at in
    let from = c.args.list.from in
    let W = CitesWell values in
    let ends : All W (c.closing-2.result ∷ c.closing-3.result ∷ []) =
    All-cons W c.closing-2.result (c.closing-3.result ∷ []) (subst W (sym c.closing-2.ensures) tt) (All-cons W c.closing-3.result [] (subst W (sym c.closing-3.ensures) tt) (All-nil W)) in
    let m = c.in_ok-change-2.ensures.makes values [] cited ends (c.new-edits.ensures.makes values items) in
    let E : Edit → Type 0 = λ e. Makes values items (e ∷ []) c.change-2.new.self in
    let later : (suc from == at) ≡ false = false_from_ne_true (suc from == at) (λ t. let same = eqb-true (suc from) at t in let e = c.if-list-at.false in omega arith) in
    let edit : Change at 0 (plain values c.closing-2.result ∷ plain values c.closing-3.result ∷ []) ≡ Change at 0 (list_ends c.args.list.kind) =
    λ i. Change at 0 (plain values (c.closing-2.ensures i) ∷ plain values (c.closing-3.ensures i) ∷ []) in
    subst E (edit ∙ ap (λ b. if b then Change from 1 (closing_of Li ∷ []) else Change at 0 (list_ends c.args.list.kind)) (sym later)) m
