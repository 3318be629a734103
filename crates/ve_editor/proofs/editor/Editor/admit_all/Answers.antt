use Rattle.std.proofs.Common.{◌≡◌, ◌≤◌, ◌+◌, length, List, All, IfOk, OnOk, map, refl, sym, ap, ◌∙◌, subst, arith}
use Rattle.std.proofs.lemmas.Bool.{eqb-false}
use Rattle.model_site.specs.Replica.{all_filled, all_performed}
use Rattle.ve_tx.specs.Cites.{TxCites}
use Rattle.ve_tx.specs.Operation.{Operation, by_value}
use Rattle.ve_editor.specs.Edited.{AllStand}
use Rattle.ve_editor.specs.Page.{LinkedPage, replica_of}
use Rattle.ve_editor.specs.Stays.{NumbersStayOver}
use Rattle.ve_editor.proofs.StayLemmas.{stay_alone, unchanged_moved}
use Rattle.ve_editor.proofs.BackLemmas.{one_only}
use Rattle.model_change.specs.Store.{brought}
use Rattle.model_change.specs.Cost.{cost_of_transactions}
use Rattle.ve_editor.proofs.CountedLemmas.{blank_within, one_within, tried_within, mapped_several}
use Rattle.ve_editor.proofs.editor.Editor.admit_all.Goals as goal

pub perform_other-requires-clause-cites : goal.perform_other-requires-clause-cites
perform_other-requires-clause-cites g c =
    let is = one_only c.args.txs.now c.index-txs-0.result c.if-txs-eq1.true c.index-txs-0.is in
    let P : List (List Operation) → Type 0 = All (TxCites c.args.values.now) in
    subst P is c.requires.cites 0 c.index-txs-0.result (omega arith)

pub perform_other-requires-clause-applies : goal.perform_other-requires-clause-applies
perform_other-requires-clause-applies g c =
    let is = one_only c.args.txs.now c.index-txs-0.result c.if-txs-eq1.true c.index-txs-0.is in
    let stands = subst (λ l. AllStand (map (by_value c.args.values.now) l) c.args.self.now.items) is c.requires.stands in
    stands.0

pub perform_other-requires-clause-lawful : goal.perform_other-requires-clause-lawful
perform_other-requires-clause-lawful g c =
    let is = one_only c.args.txs.now c.index-txs-0.result c.if-txs-eq1.true c.index-txs-0.is in
    let stands = subst (λ l. AllStand (map (by_value c.args.values.now) l) c.args.self.now.items) is c.requires.stands in
    stands.1

pub returns-then-txs-eq1-clause-page : goal.returns-then-txs-eq1-clause-page
returns-then-txs-eq1-clause-page g c =
    let is = one_only c.args.txs.now c.index-txs-0.result c.if-txs-eq1.true c.index-txs-0.is in
    let e = ap (λ l. all_performed (map (by_value c.args.values.now) l) (replica_of c.args.self.now)) (sym is) in
    subst (λ q. OnOk c.perform_other.result (replica_of c.perform_other.new.self ≡ q)) e c.perform_other.ensures.page

pub returns-then-txs-eq1-clause-txs : goal.returns-then-txs-eq1-clause-txs
returns-then-txs-eq1-clause-txs g c =
    let is = one_only c.args.txs.now c.index-txs-0.result c.if-txs-eq1.true c.index-txs-0.is in
    let e = ap (λ l. all_filled (map (by_value c.args.values.now) l) c.args.self.now.items) (sym is) in
    subst (λ q. IfOk c.perform_other.result (λ kept. map (by_value c.perform_other.new.self.store) kept ≡ q)) e c.perform_other.ensures.txs

pub returns-then-txs-eq1-clause-steps : goal.returns-then-txs-eq1-clause-steps
returns-then-txs-eq1-clause-steps g c =
    let t = by_value c.args.values.now c.index-txs-0.result in
    let is = one_only c.args.txs.now c.index-txs-0.result c.if-txs-eq1.true c.index-txs-0.is in
    one_within t t (map (by_value c.args.values.now) c.args.txs.now) c.args.self.now.items c.args.steps.now c.perform_other.new.steps refl
    (ap (λ l. map (by_value c.args.values.now) l) is) c.perform_other.ensures.steps

pub returns-then-txs-eq1-clause-numbers : goal.returns-then-txs-eq1-clause-numbers
returns-then-txs-eq1-clause-numbers g c =
    let r = c.args.self.now in
    let t = by_value c.args.values.now c.index-txs-0.result in
    let is = one_only c.args.txs.now c.index-txs-0.result c.if-txs-eq1.true c.index-txs-0.is in
    subst (λ l. OnOk c.perform_other.result (NumbersStayOver (map (by_value c.args.values.now) l) r.items r.nodes c.perform_other.new.self.nodes)) (sym is)
    (stay_alone c.perform_other.result t t (brought t r.items) r c.perform_other.new.self refl c.perform_other.ensures.page c.perform_other.ensures.tree c.perform_other.ensures.numbers)

pub all_others-editor-requires-clause-stands : goal.all_others-editor-requires-clause-stands
all_others-editor-requires-clause-stands g c =
    subst (λ (p : LinkedPage). AllStand (map (by_value c.args.values.now) c.args.txs.now) p.items) (sym c.replace.ensures.value) c.requires.stands

pub returns-clause-page : goal.returns-clause-page
returns-clause-page g c =
    let r = c.args.self.now in
    let ts = map (by_value c.args.values.now) c.args.txs.now in
    subst (λ (p : LinkedPage). OnOk c.all_others-editor.result.1 (replica_of p ≡ all_performed ts (replica_of r))) (sym c.drop.view_is)
    (subst (λ (p : LinkedPage). OnOk c.all_others-editor.result.1 (replica_of c.all_others-editor.result.0 ≡ all_performed ts (replica_of p))) c.replace.ensures.value c.all_others-editor.ensures.page)

pub returns-clause-txs : goal.returns-clause-txs
returns-clause-txs g c =
    let r = c.args.self.now in
    let ts = map (by_value c.args.values.now) c.args.txs.now in
    subst (λ (p : LinkedPage). IfOk c.all_others-editor.result.1 (λ kept. map (by_value p.store) kept ≡ all_filled ts r.items)) (sym c.drop.view_is)
    (subst (λ (p : LinkedPage). IfOk c.all_others-editor.result.1 (λ kept. map (by_value c.all_others-editor.result.0.store) kept ≡ all_filled ts p.items)) c.replace.ensures.value
    c.all_others-editor.ensures.txs)

pub returns-clause-cites : goal.returns-clause-cites
returns-clause-cites g c =
    subst (λ (p : LinkedPage). IfOk c.all_others-editor.result.1 (λ kept. All (TxCites p.store) kept)) (sym c.drop.view_is) c.all_others-editor.ensures.cites

pub returns-clause-numbers : goal.returns-clause-numbers
returns-clause-numbers g c =
    let r = c.args.self.now in
    let ts = map (by_value c.args.values.now) c.args.txs.now in
    subst (λ (p : LinkedPage). OnOk c.all_others-editor.result.1 (NumbersStayOver ts r.items r.nodes p.nodes)) (sym c.drop.view_is)
    (subst (λ (p : LinkedPage). OnOk c.all_others-editor.result.1 (NumbersStayOver ts p.items p.nodes c.all_others-editor.result.0.nodes)) c.replace.ensures.value
    c.all_others-editor.ensures.numbers)

pub returns-clause-kept : goal.returns-clause-kept
returns-clause-kept g c =
    unchanged_moved c.all_others-editor.result.1 c.args.self.now c.replace.result c.all_others-editor.result.0 _ c.replace.ensures.value c.drop.view_is c.all_others-editor.ensures.kept

pub returns-clause-steps : goal.returns-clause-steps
returns-clause-steps g c =
    let ts = map (by_value c.args.values.now) c.args.txs.now in
    let r = c.args.self.now in
    tried_within ts r.items c.args.steps.now c.blank.new.steps c.all_others-editor.new.steps (mapped_several (by_value c.args.values.now) c.args.txs.now (eqb-false (length c.args.txs.now) 0 (sym c.is_empty.ensures ∙ c.if-is_empty.false)) c.if-txs-eq1.false)
    c.blank.ensures.steps
    (subst (λ (p : LinkedPage). c.all_others-editor.new.steps ≤ c.blank.new.steps + cost_of_transactions ts p.items) c.replace.ensures.value c.all_others-editor.ensures.steps)

pub returns-in_err-blank-clause-steps : goal.returns-in_err-blank-clause-steps
returns-in_err-blank-clause-steps g c =
    let r = c.args.self.now in
    blank_within (map (by_value c.args.values.now) c.args.txs.now) r.items c.args.steps.now c.blank.new.steps
    (mapped_several (by_value c.args.values.now) c.args.txs.now (eqb-false (length c.args.txs.now) 0 (sym c.is_empty.ensures ∙ c.if-is_empty.false)) c.if-txs-eq1.false)
    c.blank.ensures.steps
