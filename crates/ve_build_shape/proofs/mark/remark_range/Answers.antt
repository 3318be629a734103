use Rattle.std.proofs.Common.{Ok, ◌≡◌, List, refl, sym, ap, ◌∙◌, subst, arith}
use Rattle.model_items.specs.declared.plain_item.PlainItem.{PlainItem}
use Rattle.model_items.specs.Plain.{plain_list}
use Rattle.model_change.specs.Store.{fill, cited}
use Rattle.model_change.specs.Transaction.{all_inserted}
use Rattle.model_edit.specs.Edits.{Edit, transaction_of}
use Rattle.ve_edits.specs.Collected.{Makes}
use Rattle.ve_store.specs.Following.{together}
use Rattle.ve_tx.proofs.ValuesLemmas.{list-extended}
use Rattle.ve_edits.proofs.FollowingLemmas.{grows_itself, grows_on, store_extends}
use Rattle.ve_edits.proofs.BracketLemmas.{slice_get-plain, cites_there}
use Rattle.ve_build_shape.proofs.RemarkLemmas.{no_edits, no_items, one_kept, one_changed, inserts_remarked}
use Rattle.ve_build_shape.specs.Remarked.{marks_after, remark_edits, Remarks}
use Rattle.ve_build_shape.proofs.mark.remark_range.Goals as goal

pub loop-at-init : goal.loop-at-init
loop-at-init c =
    let S = c.args.doc.store.now in
    let items = c.args.doc.list.now.items in
    let P = plain_list S items in
    let V = together S c.args.new.now in
    let f = marks_after c.args.remark c.args.mark.now in
    let M : List Edit → Type 0 = λ es. Makes V items es c.new-edits.result in
    let F : List PlainItem → Type 0 = λ l. V ≡ fill V (cited l) in
    record {
      remarked = record {
        order = omega (arith, c.new-edits.ensures.at);
        grown = grows_itself c.args.new.now;
        makes = subst M (sym (no_edits f P c.args.from)) (c.new-edits.ensures.makes V items);
        filled = subst F (sym (no_items f P c.args.from)) refl;
      };
      last = tt;
    }

pub remarked-requires-clause-follows : goal.remarked-requires-clause-follows
remarked-requires-clause-follows c = c.loop-at.invariant.remarked.grown.0 ∙ c.requires.follows

pub remarked-requires-clause-cites : goal.remarked-requires-clause-cites
remarked-requires-clause-cites c = cites_there c.args.doc.store.now c.args.doc.list.now.items c.loop-at.at c.get-item.result c.requires.cites c.get-item.ensures

pub remarked-requires-clause-last : goal.remarked-requires-clause-last
remarked-requires-clause-last c = c.loop-at.invariant.last

pub change-requires-clause-order : goal.change-requires-clause-order
change-requires-clause-order c = c.loop-at.invariant.remarked.order

pub loop-at-preserved-in_default : goal.loop-at-preserved-in_default
loop-at-preserved-in_default c =
    let S = c.args.doc.store.now in
    let items = c.args.doc.list.now.items in
    let f = marks_after c.args.remark c.args.mark.now in
    let at = c.loop-at.at in
    let x = c.get-item.result in
    let new = c.remarked.new.new in
    let kept = subst (Remarks S f c.loop-at.new new x) c.in_default.is c.in_ok-other.ensures.means in
    record {
      remarked = one_kept S items f c.args.from at c.args.new.now c.loop-at.new new c.loop-at.edits x (omega arith) (slice_get-plain S items at x c.get-item.ensures) c.remarked.ensures.grows c.loop-at.invariant.remarked kept;
      last = c.in_ok-other.ensures.last;
    }

pub loop-at-preserved : goal.loop-at-preserved
loop-at-preserved c =
    let S = c.args.doc.store.now in
    let items = c.args.doc.list.now.items in
    let f = marks_after c.args.remark c.args.mark.now in
    let at = c.loop-at.at in
    let x = c.get-item.result in
    let new = c.remarked.new.new in
    let other = c.in-Some.other in
    let replaced = subst (Remarks S f c.loop-at.new new x) c.in-Some.is c.in_ok-other.ensures.means in
    let made = c.in_ok-change.ensures in
    record {
      remarked = one_changed S items f c.args.from at c.args.new.now c.loop-at.new new c.loop-at.edits x (omega arith) (slice_get-plain S items at x c.get-item.ensures) c.remarked.ensures.grows c.loop-at.invariant.remarked
          c.change.new.self other c.requires.cites made.at made.makes replaced;
      last = c.in_ok-other.ensures.last;
    }

pub returns-in_err-other-clause-grows : goal.returns-in_err-other-clause-grows
returns-in_err-other-clause-grows c = grows_on c.args.new.now c.loop-at.new c.remarked.new.new c.loop-at.invariant.remarked.grown c.remarked.ensures.grows

pub returns-in_err-change-clause-grows : goal.returns-in_err-change-clause-grows
returns-in_err-change-clause-grows c = grows_on c.args.new.now c.loop-at.new c.remarked.new.new c.loop-at.invariant.remarked.grown c.remarked.ensures.grows

pub transaction-requires : goal.transaction-requires
transaction-requires c = c.loop-at.invariant.remarked.makes.within

pub returns-clause-means : goal.returns-clause-means
returns-clause-means c =
    let S = c.args.doc.store.now in
    let items = c.args.doc.list.now.items in
    let P = plain_list S items in
    let V = together S c.loop-at.new in
    let f = marks_after c.args.remark c.args.mark.now in
    let E = remark_edits f P c.args.from c.loop-at.at in
    let e : c.loop-at.at ≡ c.args.to = omega arith in
    let tx =
    c.in_ok-tx.ensures.means V E c.loop-at.invariant.remarked.makes
    ∙ ap (λ l. transaction_of l E) (list-extended S V (store_extends S c.loop-at.new) items c.requires.cites)
    ∙ ap (λ k. transaction_of P (remark_edits f P c.args.from k)) e in
    ap Ok (sym tx)

pub returns-clause-cites : goal.returns-clause-cites
returns-clause-cites c =
    let S = c.args.doc.store.now in
    let P = plain_list S c.args.doc.list.now.items in
    c.in_ok-tx.ensures.cites (together S c.loop-at.new) (remark_edits (marks_after c.args.remark c.args.mark.now) P c.args.from c.loop-at.at) c.loop-at.invariant.remarked.makes

pub returns-clause-brings : goal.returns-clause-brings
returns-clause-brings c =
    let S = c.args.doc.store.now in
    let items = c.args.doc.list.now.items in
    let P = plain_list S items in
    let V = together S c.loop-at.new in
    let f = marks_after c.args.remark c.args.mark.now in
    let at = c.loop-at.at in
    let E = remark_edits f P c.args.from at in
    let tx = c.in_ok-tx.ensures.means V E c.loop-at.invariant.remarked.makes ∙ ap (λ l. transaction_of l E) (list-extended S V (store_extends S c.loop-at.new) items c.requires.cites) in
    c.loop-at.invariant.remarked.filled ∙ ap (λ (l : List PlainItem). fill (together S c.args.new.now) (cited l)) (sym (ap all_inserted tx ∙ inserts_remarked f P c.args.from at))

pub returns-clause-grows : goal.returns-clause-grows
returns-clause-grows c = c.loop-at.invariant.remarked.grown

pub returns-in_err-tx-clause-grows : goal.returns-in_err-tx-clause-grows
returns-in_err-tx-clause-grows c = c.loop-at.invariant.remarked.grown
