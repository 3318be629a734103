use Rattle.std.proofs.Common.{◌≡◌, ◌≤◌, ◌+◌, ◌*◌, true, sym, subst, ◌∙◌}
use Rattle.model_items.specs.Law.{Lawful}
use Rattle.model_items.specs.Plain.{plain_list}
use Rattle.model_change.specs.Fault.{fault}
use Rattle.model_change.specs.Touch.{touch}
use Rattle.model_change.specs.Transaction.{edited, is_reduced}
use Rattle.ve_tx.specs.Operation.{by_value}
use Rattle.ve_tx.proofs.ChangeLemmas.{normal-reduced}
use Rattle.ve_tx.proofs.ValuesLemmas.{extends_on, list-extended}
use Rattle.ve_editor.specs.Page.{nodes_of_tree}
use Rattle.ve_editor.proofs.OtherLemmas as other
use Rattle.ve_editor.proofs.StayLemmas.{numbers_as, numbers_stay}
use Rattle.ve_editor.proofs.perform.ready_other.Goals as goal

pub one_filled-requires-clause-list : goal.one_filled-requires-clause-list
one_filled-requires-clause-list g c =
    other.own_list c.args.values.now c.args.store.now c.recite.new.store c.args.tx.now c.in_ok-own.own c.args.list.now.items c.requires.list c.in_ok-own.ensures.filled c.in_ok-own.ensures.same

pub one_filled-requires-clause-applies : goal.one_filled-requires-clause-applies
one_filled-requires-clause-applies g c =
    let over = other.over_own c.args.values.now c.args.store.now c.recite.new.store c.args.tx.now c.in_ok-own.own c.args.list.now.items c.requires.list c.in_ok-own.ensures.filled c.in_ok-own.ensures.same in
    over fault ∙ c.requires.applies

pub returns-in_err-txs-clause-extends : goal.returns-in_err-txs-clause-extends
returns-in_err-txs-clause-extends g c =
    other.own_extends c.args.values.now c.args.store.now c.recite.new.store c.args.tx.now c.in_ok-own.own c.args.list.now.items c.requires.list c.in_ok-own.ensures.filled c.in_ok-own.ensures.same

pub ready_back-requires-clause-list : goal.ready_back-requires-clause-list
ready_back-requires-clause-list g c =
    other.own_list c.args.values.now c.args.store.now c.recite.new.store c.args.tx.now c.in_ok-own.own c.args.list.now.items c.requires.list c.in_ok-own.ensures.filled c.in_ok-own.ensures.same

pub ready_back-requires-clause-applies : goal.ready_back-requires-clause-applies
ready_back-requires-clause-applies g c =
    let over = other.over_own c.args.values.now c.args.store.now c.recite.new.store c.args.tx.now c.in_ok-own.own c.args.list.now.items c.requires.list c.in_ok-own.ensures.filled c.in_ok-own.ensures.same in
    over fault ∙ c.requires.applies

pub ready_back-requires-clause-lawful : goal.ready_back-requires-clause-lawful
ready_back-requires-clause-lawful g c =
    let over = other.over_own c.args.values.now c.args.store.now c.recite.new.store c.args.tx.now c.in_ok-own.own c.args.list.now.items c.requires.list c.in_ok-own.ensures.filled c.in_ok-own.ensures.same in
    subst Lawful (sym (over edited)) c.requires.lawful

pub returns-in_err-change-clause-extends : goal.returns-in_err-change-clause-extends
returns-in_err-change-clause-extends g c =
    extends_on c.args.store.now c.recite.new.store c.ready_back.new.store
    (other.own_extends c.args.values.now c.args.store.now c.recite.new.store c.args.tx.now c.in_ok-own.own c.args.list.now.items c.requires.list c.in_ok-own.ensures.filled c.in_ok-own.ensures.same)
    c.ready_back.ensures.extends

pub returns-clause-extends : goal.returns-clause-extends
returns-clause-extends g c =
    extends_on c.args.store.now c.recite.new.store c.ready_back.new.store
    (other.own_extends c.args.values.now c.args.store.now c.recite.new.store c.args.tx.now c.in_ok-own.own c.args.list.now.items c.requires.list c.in_ok-own.ensures.filled c.in_ok-own.ensures.same)
    c.ready_back.ensures.extends

pub returns-clause-ok : goal.returns-clause-ok
returns-clause-ok g c =
    let values = c.args.values.now in
    let store = c.args.store.now in
    let taken = c.recite.new.store in
    let items = c.args.list.now.items in
    let reduced : is_reduced (by_value values c.args.tx.now) ≡ true = normal-reduced (by_value values c.args.tx.now) (c.ops-ops.ensures.normal values) in
    let has = other.has_removed values store taken c.args.tx.now c.in_ok-own.own items c.requires.list c.in_ok-own.ensures.filled c.in_ok-own.ensures.same reduced c.requires.applies in
    other.ready_is values store taken c.args.tx.now c.in_ok-own.own items c.requires.list c.in_ok-own.ensures.filled c.in_ok-own.ensures.same (c.in_ok-own.ensures.inserted has)
    c.ready_back.new.store c.ready_back.new.list c.ready_back.new.tree (record { txs = c.in_ok-txs.txs; change = c.in_ok-change.change }) c.ready_back.ensures.items c.in_ok-change.ensures.ok
    c.in_ok-txs.ensures.txs c.in_ok-txs.ensures.cites

pub returns-in_err-change-clause-steps : goal.returns-in_err-change-clause-steps
returns-in_err-change-clause-steps g c =
    let over = other.over_own c.args.values.now c.args.store.now c.recite.new.store c.args.tx.now c.in_ok-own.own c.args.list.now.items c.requires.list c.in_ok-own.ensures.filled c.in_ok-own.ensures.same in
    subst (λ n. c.ready_back.new.steps ≤ c.args.steps.now + 8 * (n + 2)) (over touch) c.ready_back.ensures.steps

pub returns-clause-steps : goal.returns-clause-steps
returns-clause-steps g c =
    let over = other.over_own c.args.values.now c.args.store.now c.recite.new.store c.args.tx.now c.in_ok-own.own c.args.list.now.items c.requires.list c.in_ok-own.ensures.filled c.in_ok-own.ensures.same in
    subst (λ n. c.ready_back.new.steps ≤ c.args.steps.now + 8 * (n + 2)) (over touch) c.ready_back.ensures.steps

pub returns-clause-numbers : goal.returns-clause-numbers
returns-clause-numbers g c =
    let values = c.args.values.now in
    let store = c.args.store.now in
    let taken = c.recite.new.store in
    let own = c.in_ok-own.own in
    let items = c.args.list.now.items in
    let extends = other.own_extends values store taken c.args.tx.now own items c.requires.list c.in_ok-own.ensures.filled c.in_ok-own.ensures.same in
    numbers_as (by_value taken own) (by_value values c.args.tx.now) (plain_list taken items) (plain_list store items) (nodes_of_tree c.args.tree.now) (nodes_of_tree c.ready_back.new.tree)
    c.in_ok-own.ensures.same (list-extended store taken extends items c.requires.list)
    (numbers_stay taken own items c.args.tree.now c.ready_back.new.tree c.ready_back.ensures.root c.in_ok-change.ensures.numbers)
