use Rattle.std.proofs.Common.{◌≡◌, None, length, sym, ap, ◌∙◌, subst}
use Rattle.std.proofs.lemmas.Result.{err_from_is_err_and}
use Rattle.model_items.specs.Plain.{plain_list}
use Rattle.model_change.specs.Fault.{Applies, apply, fault}
use Rattle.model_change.specs.Transaction.{edited}
use Rattle.model_edit.specs.Translate.{between}
use Rattle.model_site.specs.Refused.{edit_cause}
use Rattle.ve_repair.specs.Change.{LawfulAfter}
use Rattle.ve_tx.specs.Applied.{plain_after}
use Rattle.ve_tx.specs.Changed.{IsRefusal}
use Rattle.ve_tx.specs.Operation.{by_value}
use Rattle.ve_tx.specs.Spliced.{LieBetween, spliced_by}
use Rattle.ve_tx.proofs.ValuesLemmas.{list-extended}
use Rattle.ve_editor.specs.Edited.{drafted}
use Rattle.ve_editor.specs.Page.{page_of}
use Rattle.ve_editor.specs.Refusal.{IsEditRefusal, list_cause}
use Rattle.ve_editor.proofs.CauseLemmas.{refused_by_tx, refused_as, cause_of_list}
use Rattle.ve_editor.proofs.GrownLemmas as grown
use Rattle.ve_editor.proofs.GrownLemmas.{by_value-extended}
use Rattle.ve_editor.proofs.checked.checked.Goals as goal

pub change-requires-clause-list : goal.change-requires-clause-list
change-requires-clause-list c =
    grown.taken_list c.args.store.now c.args.draft.now c.requires.draft c.requires.distinct c.take_in.new.store c.in-Ok.ensures.ok c.args.list.now.items c.requires.page.cites

pub change-requires-clause-cites : goal.change-requires-clause-cites
change-requires-clause-cites c =
    grown.taken_cites c.args.store.now c.args.draft.now c.requires.draft c.requires.distinct c.take_in.new.store c.in-Ok.ensures.ok

pub returns-in-Err-change-clause-refused : goal.returns-in-Err-change-clause-refused
returns-in-Err-change-clause-refused c =
    let store = c.args.store.now in
    let items = c.args.list.now.items in
    let same = grown.over_taken store c.args.draft.now c.requires.draft c.requires.distinct c.take_in.new.store c.in-Ok.ensures.ok items c.requires.page.cites fault in
    let refused = subst (λ f. IsRefusal f c.in-Err-change.fault) same c.in-Err-change.ensures.refused in
    subst (IsEditRefusal (edit_cause (drafted store c.args.draft.now) (page_of store items (between 0 0)))) (sym c.of_transaction.ensures)
    (refused_by_tx (drafted store c.args.draft.now) (page_of store items (between 0 0)) c.in-Err-change.fault refused)

pub returns-in_err-may_become-clause-refused : goal.returns-in_err-may_become-clause-refused
returns-in_err-may_become-clause-refused c =
    let p = err_from_is_err_and c.from_residual.result c.from_residual.ensures.1 in
    let store = c.args.store.now in
    let d = c.args.draft.now in
    let items = c.args.list.now.items in
    let taken = c.take_in.new.store in
    let new = c.change.new.store in
    let change = c.in-Ok-change.change in
    let t = drafted store d in
    let r = page_of store items (between 0 0) in
    let over = grown.over_taken store d c.requires.draft c.requires.distinct taken c.in-Ok.ensures.ok items c.requires.page.cites in
    let made = grown.apply_ok t (plain_list store items) (plain_after new items change.splices.items) (sym (over apply) ∙ c.in-Ok-change.ensures.applied) in
    let filled_store = grown.new_store store d c.requires.draft c.requires.distinct taken c.in-Ok.ensures.ok items c.requires.page.cites new c.in-Ok-change.ensures.store in
    let cause = cause_of_list t r new (spliced_by items change.splices.items) made.0 made.1 filled_store in
    let refused = subst (λ l. IsEditRefusal (list_cause (spliced_by l change.splices.items) (length new)) c.in_err-may_become.field-0.0) c.in-Ok-change.ensures.items c.in_err-may_become.ensures.err in
    rw p.1
    (refused_as (edit_cause t r) (list_cause (spliced_by items change.splices.items) (length new)) p.0 cause
    (subst (IsEditRefusal (list_cause (spliced_by items change.splices.items) (length new))) (sym p.2) refused))

pub returns-in_err-may_become-clause-extends : goal.returns-in_err-may_become-clause-extends
returns-in_err-may_become-clause-extends c =
    grown.all_extends c.args.store.now c.args.draft.now c.requires.draft c.requires.distinct c.take_in.new.store c.in-Ok.ensures.ok c.args.list.now.items c.requires.page.cites
    c.change.new.store c.in-Ok-change.ensures.store

pub may_become-requires-clause-applies : goal.may_become-requires-clause-applies
may_become-requires-clause-applies c =
    let store = c.args.store.now in
    let d = c.args.draft.now in
    let items = c.args.list.now.items in
    let taken = c.take_in.new.store in
    let new = c.change.new.store in
    let over = grown.over_taken store d c.requires.draft c.requires.distinct taken c.in-Ok.ensures.ok items c.requires.page.cites in
    let made = grown.apply_ok (drafted store d) (plain_list store items) (plain_after new items c.in-Ok-change.change.splices.items) (sym (over apply) ∙ c.in-Ok-change.ensures.applied) in
    let fault_new = grown.over_new store d c.requires.draft c.requires.distinct taken c.in-Ok.ensures.ok items c.requires.page.cites new c.in-Ok-change.ensures.store fault in
    record {
      values = new;
      applies = subst (λ l. Applies (by_value new d.tx) (plain_list new l)) (sym c.in-Ok-change.ensures.items) (fault_new ∙ made.0);
    }

pub may_become-requires-clause-made : goal.may_become-requires-clause-made
may_become-requires-clause-made c =
    let store = c.args.store.now in
    let d = c.args.draft.now in
    let items = c.args.list.now.items in
    let taken = c.take_in.new.store in
    let new = c.change.new.store in
    let splices = c.in-Ok-change.change.splices.items in
    let same = c.in-Ok-change.ensures.items in
    let over = grown.over_taken store d c.requires.draft c.requires.distinct taken c.in-Ok.ensures.ok items c.requires.page.cites in
    let made = grown.apply_ok (drafted store d) (plain_list store items) (plain_after new items splices) (sym (over apply) ∙ c.in-Ok-change.ensures.applied) in
    let edited_new = grown.over_new store d c.requires.draft c.requires.distinct taken c.in-Ok.ensures.ok items c.requires.page.cites new c.in-Ok-change.ensures.store edited in
    ap (λ l. plain_after new l splices) same ∙ made.1 ∙ sym edited_new ∙ ap (λ l. edited (by_value new d.tx) (plain_list new l)) (sym same)

pub may_become-requires-clause-within : goal.may_become-requires-clause-within
may_become-requires-clause-within c =
    subst (λ l. LieBetween 0 (length l) c.in-Ok-change.change.splices.items) (sym c.in-Ok-change.ensures.items) c.in-Ok-change.ensures.within

pub returns-clause-ok : goal.returns-clause-ok
returns-clause-ok c =
    let store = c.args.store.now in
    let d = c.args.draft.now in
    let items = c.args.list.now.items in
    let taken = c.take_in.new.store in
    let new = c.change.new.store in
    let change = c.in-Ok-change.change in
    let taken_in = c.in-Ok.ensures.ok in
    let grows = c.in-Ok-change.ensures.store in
    let over = grown.over_taken store d c.requires.draft c.requires.distinct taken taken_in items c.requires.page.cites in
    let made = grown.apply_ok (drafted store d) (plain_list store items) (plain_after new items change.splices.items) (sym (over apply) ∙ c.in-Ok-change.ensures.applied) in
    let extends = grown.all_extends store d c.requires.draft c.requires.distinct taken taken_in items c.requires.page.cites new grows in
    record {
      applies = made.0;
      made = made.1;
      allowed = subst (λ l. list_cause (spliced_by l change.splices.items) (length new) ≡ None) c.in-Ok-change.ensures.items c.in_ok-may_become.ensures.ok;
      lawful = subst (LawfulAfter d.tx) c.in-Ok-change.ensures.items c.in_ok-may_become.ensures.lawful;
      within = c.in-Ok-change.ensures.within;
      come = c.in-Ok-change.ensures.cites;
      store = grown.new_store store d c.requires.draft c.requires.distinct taken taken_in items c.requires.page.cites new grows;
      tx = by_value-extended taken new (grown.new_extends store d c.requires.draft c.requires.distinct taken taken_in items c.requires.page.cites new grows) d.tx
          (grown.taken_cites store d c.requires.draft c.requires.distinct taken taken_in)
          ∙ grown.taken_tx store d c.requires.draft c.requires.distinct taken taken_in;
      tx_cites = grown.new_cites store d c.requires.draft c.requires.distinct taken taken_in items c.requires.page.cites new grows;
      list = list-extended store new extends items c.requires.page.cites;
      list_cites = grown.new_list store d c.requires.draft c.requires.distinct taken taken_in items c.requires.page.cites new grows;
    }

pub returns-clause-extends : goal.returns-clause-extends
returns-clause-extends c =
    grown.all_extends c.args.store.now c.args.draft.now c.requires.draft c.requires.distinct c.take_in.new.store c.in-Ok.ensures.ok c.args.list.now.items c.requires.page.cites
    c.change.new.store c.in-Ok-change.ensures.store
