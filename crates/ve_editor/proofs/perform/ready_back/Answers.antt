use Rattle.std.proofs.Common.{sym, ap, ◌∙◌, subst, arith}
use Rattle.model_items.specs.Plain.{plain_list}
use Rattle.model_change.specs.Store.{changed_heads, fill}
use Rattle.model_change.specs.Touch.{touch}
use Rattle.model_change.specs.Transaction.{edited}
use Rattle.ve_repair.specs.Change.{CanApply, LawfulAfter}
use Rattle.ve_repair.specs.Kept.{KeepsNumbers}
use Rattle.ve_tree.specs.IsTree.{unvalued}
use Rattle.ve_tree.specs.TreeOf.{IsTreeOf}
use Rattle.ve_tx.specs.Applied.{plain_after}
use Rattle.ve_tx.specs.Operation.{by_value}
use Rattle.ve_tx.specs.Spliced.{spliced_by}
use Rattle.ve_tx.proofs.ValuesLemmas.{extends_by_fill}
use Rattle.ve_editor.proofs.GrownLemmas.{apply_ok}
use Rattle.ve_editor.proofs.ReadyLemmas.{will_be}
use Rattle.ve_editor.proofs.RelinkLemmas.{lawful_after, made_tree, within_touch}
use Rattle.ve_editor.proofs.perform.ready_back.Goals as goal

pub prepare-requires-clause-tree : goal.prepare-requires-clause-tree
prepare-requires-clause-tree g c = subst (λ l. IsTreeOf c.args.tree.now (unvalued l)) (sym (c.note_change.ensures.items ∙ c.in-Ok.ensures.items)) c.requires.tree

pub prepare-requires-clause-applies : goal.prepare-requires-clause-applies
prepare-requires-clause-applies g c = subst (CanApply c.args.tx.now) (sym (c.note_change.ensures.items ∙ c.in-Ok.ensures.items)) (record { values = c.args.store.now; applies = c.requires.applies })

pub prepare-requires-clause-lawful : goal.prepare-requires-clause-lawful
prepare-requires-clause-lawful g c =
    subst (LawfulAfter c.args.tx.now) (sym (c.note_change.ensures.items ∙ c.in-Ok.ensures.items)) (lawful_after c.args.store.now c.args.tx.now c.args.list.now.items c.requires.lawful)

pub returns-in_ok-prepare-in-Ok-clause-extends : goal.returns-in_ok-prepare-in-Ok-clause-extends
returns-in_ok-prepare-in-Ok-clause-extends g c =
    extends_by_fill c.args.store.now c.change.new.store (changed_heads (by_value c.args.store.now c.args.tx.now) (plain_list c.args.store.now c.args.list.now.items)) c.in-Ok.ensures.store

pub returns-in_err-note_change-in-Ok-clause-extends : goal.returns-in_err-note_change-in-Ok-clause-extends
returns-in_err-note_change-in-Ok-clause-extends g c =
    extends_by_fill c.args.store.now c.change.new.store (changed_heads (by_value c.args.store.now c.args.tx.now) (plain_list c.args.store.now c.args.list.now.items)) c.in-Ok.ensures.store

pub returns-in_err-prepare-in-Ok-clause-extends : goal.returns-in_err-prepare-in-Ok-clause-extends
returns-in_err-prepare-in-Ok-clause-extends g c =
    extends_by_fill c.args.store.now c.change.new.store (changed_heads (by_value c.args.store.now c.args.tx.now) (plain_list c.args.store.now c.args.list.now.items)) c.in-Ok.ensures.store

pub returns-in_ok-prepare-in-Ok-clause-ok : goal.returns-in_ok-prepare-in-Ok-clause-ok
returns-in_ok-prepare-in-Ok-clause-ok g c =
    let old = c.args.store.now in
    let new = c.change.new.store in
    let items = c.args.list.now.items in
    let list = c.note_change.new.list in
    let change = c.in-Ok.change in
    let t = by_value old c.args.tx.now in
    let same = c.note_change.ensures.items ∙ c.in-Ok.ensures.items in
    let made = apply_ok t (plain_list old items) (plain_after new items change.splices.items) c.in-Ok.ensures.applied in
    let extends = extends_by_fill old new (changed_heads t (plain_list old items)) c.in-Ok.ensures.store in
    let tree = made_tree c.prepare.new.tree old new c.args.tx.now list.items (spliced_by list.items change.splices.items) (ap (λ l. plain_after new l change.splices.items) same ∙ made.1 ∙ ap (λ l. edited t (plain_list old l)) (sym same))
    c.in_ok-prepare-in-Ok.ensures.tree in
    record {
      change = will_be t old new list items c.prepare.new.tree change same made.1 extends c.requires.list c.in-Ok.ensures.cites c.in-Ok.ensures.within (omega (arith, c.in-Ok.ensures.room, c.note_change.ensures.spare)) tree;
      store = c.in-Ok.ensures.store ∙ ap (λ l. fill old (changed_heads t (plain_list old l))) (sym same);
    }

pub returns-in_ok-prepare-in-Ok-clause-steps : goal.returns-in_ok-prepare-in-Ok-clause-steps
returns-in_ok-prepare-in-Ok-clause-steps g c =
    let t = by_value c.args.store.now c.args.tx.now in
    within_touch c.args.store.now c.args.tx.now c.note_change.new.list.items t (plain_list c.args.store.now c.args.list.now.items) _ _
    (ap (λ l. touch t (plain_list c.args.store.now l)) (c.note_change.ensures.items ∙ c.in-Ok.ensures.items)) c.prepare.ensures.steps

pub returns-in_err-prepare-in-Ok-clause-steps : goal.returns-in_err-prepare-in-Ok-clause-steps
returns-in_err-prepare-in-Ok-clause-steps g c =
    let t = by_value c.args.store.now c.args.tx.now in
    within_touch c.args.store.now c.args.tx.now c.note_change.new.list.items t (plain_list c.args.store.now c.args.list.now.items) _ _
    (ap (λ l. touch t (plain_list c.args.store.now l)) (c.note_change.ensures.items ∙ c.in-Ok.ensures.items)) c.prepare.ensures.steps

pub returns-in_ok-prepare-in-Ok-clause-numbers : goal.returns-in_ok-prepare-in-Ok-clause-numbers
returns-in_ok-prepare-in-Ok-clause-numbers g c =
    let t = c.args.tree.now in
    subst (KeepsNumbers t.arena.slots c.prepare.new.tree.arena.slots t.root c.args.tx.now) (c.note_change.ensures.items ∙ c.in-Ok.ensures.items) c.in_ok-prepare-in-Ok.ensures.numbers
