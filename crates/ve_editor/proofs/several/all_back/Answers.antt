use Rattle.std.proofs.Common.{◌≤◌, ◌+◌, All, ap, ◌∙◌, subst, sym}
use Rattle.model_change.specs.Cost.{cost_of_transactions}
use Rattle.model_site.specs.Replica.{all_put_back}
use Rattle.ve_tx.specs.Cites.{TxCites}
use Rattle.ve_editor.specs.Edited.{AllStand, reversal_over}
use Rattle.ve_editor.specs.Page.{LinkedPage, replica_of}
use Rattle.ve_editor.specs.Stays.{NumbersStayOver}
use Rattle.ve_editor.specs.Trials.{Tried}
use Rattle.ve_editor.proofs.several.all_back.Goals as goal

pub put_all_back-requires-clause-cites : goal.put_all_back-requires-clause-cites
put_all_back-requires-clause-cites g c = subst (λ (t : Tried). All (TxCites t.page.store) c.args.txs.now) (sym c.in-Ok.ensures.ok) c.requires.cites

pub put_all_back-requires-clause-stands : goal.put_all_back-requires-clause-stands
put_all_back-requires-clause-stands g c =
    subst (λ (t : Tried). AllStand (reversal_over t.page.store c.args.txs.now) t.page.items) (sym c.in-Ok.ensures.ok) c.requires.stands

pub returns-in-Ok-put_all_back-clause-page : goal.returns-in-Ok-put_all_back-clause-page
returns-in-Ok-put_all_back-clause-page g c =
    ap replica_of c.keep.ensures ∙ c.in-Ok-put_all_back.ensures.page
    ∙ ap (λ (t : Tried). all_put_back (reversal_over t.page.store c.args.txs.now) (replica_of t.page)) c.in-Ok.ensures.ok

pub returns-in-Ok-put_all_back-clause-numbers : goal.returns-in-Ok-put_all_back-clause-numbers
returns-in-Ok-put_all_back-clause-numbers g c =
    let txs = c.args.txs.now in
    let e = c.args.editor in
    subst (λ (p : LinkedPage). NumbersStayOver (reversal_over e.store txs) e.items e.nodes p.nodes) (sym c.keep.ensures)
    (subst (λ (t : Tried). NumbersStayOver (reversal_over t.page.store txs) t.page.items t.page.nodes c.put_all_back.new.target.page.nodes) c.in-Ok.ensures.ok
    c.in-Ok-put_all_back.ensures.numbers)

pub returns-in-Ok-put_all_back-clause-steps : goal.returns-in-Ok-put_all_back-clause-steps
returns-in-Ok-put_all_back-clause-steps g c =
    subst (λ (t : Tried). c.put_all_back.new.steps ≤ c.args.steps.now + cost_of_transactions (reversal_over t.page.store c.args.txs.now) t.page.items) c.in-Ok.ensures.ok c.put_all_back.ensures.steps

pub returns-in-Err-put_all_back-clause-steps : goal.returns-in-Err-put_all_back-clause-steps
returns-in-Err-put_all_back-clause-steps g c =
    subst (λ (t : Tried). c.put_all_back.new.steps ≤ c.args.steps.now + cost_of_transactions (reversal_over t.page.store c.args.txs.now) t.page.items) c.in-Ok.ensures.ok c.put_all_back.ensures.steps
