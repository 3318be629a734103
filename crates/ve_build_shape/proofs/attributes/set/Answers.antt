use Rattle.std.proofs.Common.{◌≡◌, ◌+◌, ◌-◌, ℕ, List, [], ◌∷◌, length, Option, sym, ap, ◌∙◌, subst, arith}
use Rattle.std.proofs.lemmas.List.{length-map}
use Rattle.model_items.specs.Plain.{plain, plain_list}
use Rattle.model_change.specs.Fault.{Applies}
use Rattle.model_change.specs.Inverse.{filled}
use Rattle.model_edit.specs.Edits.{Set, transaction_of}
use Rattle.ve_edits.proofs.BracketLemmas.{slice_get-plain, cites_there}
use Rattle.ve_tx.specs.Cites.{TxCites}
use Rattle.ve_tx.specs.Operation.{Operation, by_value, unkept}
use Rattle.ve_build_shape.proofs.SettingLemmas.{setting_applies, setting_filled, setting_cites}
use Rattle.ve_build_shape.proofs.attributes.set.Goals as goal

pub present_value-requires : goal.present_value-requires
present_value-requires c = cites_there c.args.doc.store.now c.args.doc.list.now.items c.args.at c.get.result c.requires.cites c.get.ensures

pub filled-requires-clause-applies : goal.filled-requires-clause-applies
filled-requires-clause-applies c =
    let S = c.args.doc.store.now in
    let items = c.args.doc.list.now.items in
    let P = plain_list S items in
    let at = c.args.at in
    let x = c.get.result in
    let e = c.in-Ok.ensures.ok ∙ ap unkept c.in_ok-ops.ensures in
    let left : at + (c.len.result - at) ≡ length P = omega (arith, c.len.ensures, length-map items (plain S)) in
    let A : List Operation → Type 0 = λ t. Applies (by_value S t) P in
    subst A (sym e) (setting_applies S P at (c.len.result - at) (plain S x) c.args.name c.in_ok-from.from c.in_ok-to.to (slice_get-plain S items at x c.get.ensures) c.in_ok-from.ensures left (c.requires.may S))

pub returns-clause-means : goal.returns-clause-means
returns-clause-means c =
    let S = c.args.doc.store.now in
    let items = c.args.doc.list.now.items in
    let P = plain_list S items in
    let at = c.args.at in
    let x = c.get.result in
    let e = c.in-Ok.ensures.ok ∙ ap unkept c.in_ok-ops.ensures in
    let left : at + (c.len.result - at) ≡ length P = omega (arith, c.len.ensures, length-map items (plain S)) in
    c.in_ok-tx.ensures.filled
    ∙ ap (λ (t : List Operation). filled (by_value S t) P) e
    ∙ setting_filled S P at (c.len.result - at) (plain S x) c.args.name c.in_ok-from.from c.in_ok-to.to (slice_get-plain S items at x c.get.ensures) c.in_ok-from.ensures left
    ∙ ap (λ (o : Option (List ℕ)). transaction_of P (Set at c.args.name o ∷ [])) c.in_ok-to.ensures

pub returns-clause-cites : goal.returns-clause-cites
returns-clause-cites c =
    let S = c.args.doc.store.now in
    let e = c.in-Ok.ensures.ok ∙ ap unkept c.in_ok-ops.ensures in
    c.in_ok-tx.ensures.cites S (subst (TxCites S) (sym e) (setting_cites S c.args.at (c.len.result - c.args.at) c.args.name c.in_ok-from.from c.in_ok-to.to))
