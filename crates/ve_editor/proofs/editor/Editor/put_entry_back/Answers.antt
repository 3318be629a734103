use Rattle.std.proofs.Common.{◌≡◌, ◌≤◌, ◌+◌, length, List, All, OnOk, sym, ap, ◌∙◌, subst, arith}
use Rattle.std.proofs.lemmas.Bool.{eqb-false}
use Rattle.model_items.specs.Law.{Lawful}
use Rattle.model_change.specs.Fault.{Applies}
use Rattle.model_change.specs.Transaction.{edited}
use Rattle.model_site.specs.Replica.{put_back, all_put_back}
use Rattle.ve_tx.specs.Cites.{TxCites}
use Rattle.ve_tx.specs.Operation.{Operation, by_value}
use Rattle.ve_editor.specs.Edited.{AllStand, reversal_over}
use Rattle.ve_editor.specs.Page.{LinkedPage, replica_of}
use Rattle.ve_editor.specs.Stays.{NumbersStayOver}
use Rattle.ve_editor.proofs.StayLemmas.{stay_alone, unchanged_moved}
use Rattle.ve_editor.proofs.BackLemmas.{one_only}
use Rattle.model_change.specs.Inverse.{inverse}
use Rattle.model_change.specs.Store.{changed_heads}
use Rattle.model_change.specs.Cost.{cost_of_transactions}
use Rattle.ve_editor.proofs.CountedLemmas.{blank_within, one_within, tried_within, reversal_several}
use Rattle.ve_editor.proofs.editor.Editor.put_entry_back.Goals as goal

pub put_back-requires-clause-cites : goal.put_back-requires-clause-cites
put_back-requires-clause-cites g c =
    let store = c.args.self.now.store in
    let is = one_only c.args.txs.now c.index-txs-0.result c.if-txs-eq1.true c.index-txs-0.is in
    let P : List (List Operation) → Type 0 = All (TxCites store) in
    c.in_ok-back.ensures.cites store (subst P is c.requires.cites 0 c.index-txs-0.result (omega arith))

pub put_back-requires-clause-applies : goal.put_back-requires-clause-applies
put_back-requires-clause-applies g c =
    let r = c.args.self.now in
    let is = one_only c.args.txs.now c.index-txs-0.result c.if-txs-eq1.true c.index-txs-0.is in
    let stands = subst (λ l. AllStand (reversal_over r.store l) r.items) is c.requires.stands in
    subst (λ t. Applies t r.items) (sym (c.in_ok-back.ensures.inverse r.store)) stands.0

pub put_back-requires-clause-lawful : goal.put_back-requires-clause-lawful
put_back-requires-clause-lawful g c =
    let r = c.args.self.now in
    let is = one_only c.args.txs.now c.index-txs-0.result c.if-txs-eq1.true c.index-txs-0.is in
    let stands = subst (λ l. AllStand (reversal_over r.store l) r.items) is c.requires.stands in
    subst (λ t. Lawful (edited t r.items)) (sym (c.in_ok-back.ensures.inverse r.store)) stands.1

pub returns-then-txs-eq1-clause-page : goal.returns-then-txs-eq1-clause-page
returns-then-txs-eq1-clause-page g c =
    let r = c.args.self.now in
    let is = one_only c.args.txs.now c.index-txs-0.result c.if-txs-eq1.true c.index-txs-0.is in
    let e = ap (λ t. put_back t (replica_of r)) (c.in_ok-back.ensures.inverse r.store) ∙ ap (λ l. all_put_back (reversal_over r.store l) (replica_of r)) (sym is) in
    subst (λ q. OnOk c.put_back.result (replica_of c.put_back.new.self ≡ q)) e c.put_back.ensures.page

pub returns-then-txs-eq1-clause-steps : goal.returns-then-txs-eq1-clause-steps
returns-then-txs-eq1-clause-steps g c =
    let r = c.args.self.now in
    let is = one_only c.args.txs.now c.index-txs-0.result c.if-txs-eq1.true c.index-txs-0.is in
    one_within (inverse (by_value r.store c.index-txs-0.result)) (by_value r.store c.in_ok-back.back) (reversal_over r.store c.args.txs.now) r.items c.args.steps.now c.put_back.new.steps
    (c.in_ok-back.ensures.inverse r.store) (ap (reversal_over r.store) is) c.put_back.ensures.steps

pub returns-then-txs-eq1-clause-numbers : goal.returns-then-txs-eq1-clause-numbers
returns-then-txs-eq1-clause-numbers g c =
    let r = c.args.self.now in
    let t = by_value r.store c.in_ok-back.back in
    let is = one_only c.args.txs.now c.index-txs-0.result c.if-txs-eq1.true c.index-txs-0.is in
    subst (λ l. OnOk c.put_back.result (NumbersStayOver (reversal_over r.store l) r.items r.nodes c.put_back.new.self.nodes)) (sym is)
    (stay_alone c.put_back.result t (inverse (by_value r.store c.index-txs-0.result)) (changed_heads t r.items) r c.put_back.new.self (c.in_ok-back.ensures.inverse r.store)
    c.put_back.ensures.page c.put_back.ensures.tree c.put_back.ensures.numbers)

pub all_back-editor-requires-clause-cites : goal.all_back-editor-requires-clause-cites
all_back-editor-requires-clause-cites g c = subst (λ (p : LinkedPage). All (TxCites p.store) c.args.txs.now) (sym c.replace.ensures.value) c.requires.cites

pub all_back-editor-requires-clause-stands : goal.all_back-editor-requires-clause-stands
all_back-editor-requires-clause-stands g c = subst (λ (p : LinkedPage). AllStand (reversal_over p.store c.args.txs.now) p.items) (sym c.replace.ensures.value) c.requires.stands

pub returns-clause-page : goal.returns-clause-page
returns-clause-page g c =
    let r = c.args.self.now in
    let txs = c.args.txs.now in
    subst (λ (p : LinkedPage). OnOk c.all_back-editor.result.1 (replica_of p ≡ all_put_back (reversal_over r.store txs) (replica_of r))) (sym c.drop.view_is)
    (subst (λ (p : LinkedPage). OnOk c.all_back-editor.result.1 (replica_of c.all_back-editor.result.0 ≡ all_put_back (reversal_over p.store txs) (replica_of p))) c.replace.ensures.value
    c.all_back-editor.ensures.page)

pub returns-clause-numbers : goal.returns-clause-numbers
returns-clause-numbers g c =
    let r = c.args.self.now in
    let txs = c.args.txs.now in
    subst (λ (p : LinkedPage). OnOk c.all_back-editor.result.1 (NumbersStayOver (reversal_over r.store txs) r.items r.nodes p.nodes)) (sym c.drop.view_is)
    (subst (λ (p : LinkedPage). OnOk c.all_back-editor.result.1 (NumbersStayOver (reversal_over p.store txs) p.items p.nodes c.all_back-editor.result.0.nodes)) c.replace.ensures.value
    c.all_back-editor.ensures.numbers)

pub returns-clause-kept : goal.returns-clause-kept
returns-clause-kept g c =
    unchanged_moved c.all_back-editor.result.1 c.args.self.now c.replace.result c.all_back-editor.result.0 _ c.replace.ensures.value c.drop.view_is c.all_back-editor.ensures.kept

pub returns-clause-steps : goal.returns-clause-steps
returns-clause-steps g c =
    let r = c.args.self.now in
    tried_within (reversal_over r.store c.args.txs.now) r.items c.args.steps.now c.blank.new.steps c.all_back-editor.new.steps (reversal_several (by_value r.store) c.args.txs.now (eqb-false (length c.args.txs.now) 0 (sym c.is_empty.ensures ∙ c.if-is_empty.false)) c.if-txs-eq1.false)
    c.blank.ensures.steps
    (subst (λ (p : LinkedPage). c.all_back-editor.new.steps ≤ c.blank.new.steps + cost_of_transactions (reversal_over p.store c.args.txs.now) p.items) c.replace.ensures.value c.all_back-editor.ensures.steps)

pub returns-in_err-blank-clause-steps : goal.returns-in_err-blank-clause-steps
returns-in_err-blank-clause-steps g c =
    let r = c.args.self.now in
    blank_within (reversal_over r.store c.args.txs.now) r.items c.args.steps.now c.blank.new.steps (reversal_several (by_value r.store) c.args.txs.now (eqb-false (length c.args.txs.now) 0 (sym c.is_empty.ensures ∙ c.if-is_empty.false)) c.if-txs-eq1.false)
    c.blank.ensures.steps
