use Rattle.std.proofs.Common.{◌≡◌, ◌≤◌, ◌+◌, length, sym, ap, ◌∙◌, subst}
use Rattle.std.proofs.lemmas.Result.{on_ok_weaker}
use Rattle.model_items.specs.Plain.{AreDistinct}
use Rattle.model_site.specs.Entries.{cut_back}
use Rattle.model_site.specs.Replica.{Replica, all_put_back}
use Rattle.ve_editor.specs.Edited.{IsUncited, entry_by_value, reversal_over}
use Rattle.ve_editor.specs.Page.{LinkedPage, replica_of}
use Rattle.ve_editor.specs.Stays.{NumbersStayOver}
use Rattle.ve_editor.specs.Trials.{Tried}
use Rattle.ve_editor.proofs.BackLemmas.{distinct_back, nodes_stand, reverted_is}
use Rattle.model_change.specs.Cost.{cost_of_transactions}
use Rattle.ve_editor.proofs.trial.Trial.revert.Goals as goal

pub cut_back-requires-clause-distinct : goal.cut_back-requires-clause-distinct
cut_back-requires-clause-distinct g c =
    let r = c.args.self.now.page in
    let distinct = subst (λ (t : Tried). AreDistinct t.page.store) c.self.view_is c.len-was.ensures.distinct in
    subst (λ (q : Replica). AreDistinct q.store) (sym c.in_ok-put_all_back.ensures.page) (distinct_back (reversal_over r.store c.as_slice.result.now) (replica_of r) distinct)

pub cut_back-requires-clause-uncited : goal.cut_back-requires-clause-uncited
cut_back-requires-clause-uncited g c =
    let r = c.args.self.now.page in
    let entry = c.args.entry.now in
    let was : c.len-was.result ≡ length r.store = c.len-was.ensures.count ∙ ap (λ (t : Tried). length t.page.store) c.self.view_is in
    let page = c.in_ok-put_all_back.ensures.page ∙ ap (λ l. all_put_back (reversal_over r.store l) (replica_of r)) c.as_slice.ensures in
    subst (λ (q : Replica). IsUncited (entry_by_value r.store entry) c.len-was.result q) (sym page)
    (subst (λ n. IsUncited (entry_by_value r.store entry) n (all_put_back (reversal_over r.store entry.txs) (replica_of r))) (sym was) c.requires.uncited)

pub returns-in_err-put_all_back-clause-steps : goal.returns-in_err-put_all_back-clause-steps
returns-in_err-put_all_back-clause-steps g c =
    let r = c.args.self.now.page in
    subst (λ l. c.put_all_back.new.steps ≤ c.args.steps.now + cost_of_transactions (reversal_over r.store l) r.items) c.as_slice.ensures c.put_all_back.ensures.steps

pub returns-clause-steps : goal.returns-clause-steps
returns-clause-steps g c =
    let r = c.args.self.now.page in
    subst (λ l. c.put_all_back.new.steps ≤ c.args.steps.now + cost_of_transactions (reversal_over r.store l) r.items) c.as_slice.ensures c.put_all_back.ensures.steps

pub returns-clause-page : goal.returns-clause-page
returns-clause-page g c =
    let r = c.args.self.now.page in
    let entry = c.args.entry.now in
    let was : c.len-was.result ≡ length r.store = c.len-was.ensures.count ∙ ap (λ (t : Tried). length t.page.store) c.self.view_is in
    let page = c.in_ok-put_all_back.ensures.page ∙ ap (λ l. all_put_back (reversal_over r.store l) (replica_of r)) c.as_slice.ensures in
    on_ok_weaker c.cut_back.result (λ cut. reverted_is (entry_by_value r.store entry) (replica_of r) c.put_all_back.new.target.page c.cut_back.new.self.page c.len-was.result page cut was) c.cut_back.ensures.page

pub returns-clause-numbers : goal.returns-clause-numbers
returns-clause-numbers g c =
    let r = c.args.self.now.page in
    let entry = c.args.entry.now in
    let made = c.put_all_back.new.target.page in
    let numbers = subst (λ l. NumbersStayOver (reversal_over r.store l) r.items r.nodes made.nodes) c.as_slice.ensures c.in_ok-put_all_back.ensures.numbers in
    on_ok_weaker c.cut_back.result
    (λ cut. subst (NumbersStayOver (reversal_over r.store c.args.entry.now.txs) r.items r.nodes)
    (nodes_stand made c.cut_back.new.self.page (cut_back (entry_by_value r.store c.args.entry.now) c.len-was.result made.store) cut) numbers) c.cut_back.ensures.page
