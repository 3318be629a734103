use Rattle.std.proofs.Common.{sym, ap, ◌∙◌, subst, arith}
use Rattle.model_items.specs.Plain.{plain_list}
use Rattle.model_change.specs.Touch.{touch}
use Rattle.model_edit.specs.Translate.{between}
use Rattle.ve_repair.specs.Change.{LawfulAfter}
use Rattle.ve_repair.specs.Kept.{KeepsNumbers}
use Rattle.ve_tx.specs.Operation.{by_value}
use Rattle.ve_editor.specs.Edited.{drafted}
use Rattle.ve_editor.proofs.AllowedLemmas.{allowed_cause, may_perform, over_new}
use Rattle.ve_editor.proofs.RelinkLemmas.{within_touch}
use Rattle.ve_editor.proofs.perform.ready.Goals as goal

pub with_entry-requires-clause-lawful : goal.with_entry-requires-clause-lawful
with_entry-requires-clause-lawful g c = subst (LawfulAfter c.args.draft.now.tx) (sym (c.note_change.ensures.items ∙ c.in_ok-change.ensures.items)) c.in_ok-change.ensures.ok.lawful

pub returns-in-Ok-with_entry-clause-ok : goal.returns-in-Ok-with_entry-clause-ok
returns-in-Ok-with_entry-clause-ok g c =
    may_perform c.args.draft.now c.args.store.now c.checked.new.store c.note_change.new.list c.args.list.now.items c.with_entry.new.tree c.in_ok-change.change c.in-Ok-with_entry.ready (c.note_change.ensures.items ∙ c.in_ok-change.ensures.items)
    c.in_ok-change.ensures.ok (omega (arith, c.in_ok-change.ensures.room, c.note_change.ensures.spare)) c.in-Ok-with_entry.ensures.change c.in-Ok-with_entry.ensures.tree c.in-Ok-with_entry.ensures.txs
    (c.in-Ok-with_entry.ensures.before ∙ c.len-before.ensures.count) c.in-Ok-with_entry.ensures.after c.in-Ok-with_entry.ensures.takes_back c.in-Ok-with_entry.ensures.cites

pub returns-in-Ok-with_entry-clause-steps : goal.returns-in-Ok-with_entry-clause-steps
returns-in-Ok-with_entry-clause-steps g c =
    let d = c.args.draft.now in
    let items = c.args.list.now.items in
    let new = c.checked.new.store in
    within_touch new d.tx c.note_change.new.list.items (drafted c.args.store.now d) (plain_list c.args.store.now items) _ _
    (ap (λ l. touch (by_value new d.tx) (plain_list new l)) (c.note_change.ensures.items ∙ c.in_ok-change.ensures.items) ∙ over_new d c.args.store.now new items c.in_ok-change.change c.in_ok-change.ensures.ok touch) c.with_entry.ensures.steps

pub returns-in-Err-with_entry-clause-steps : goal.returns-in-Err-with_entry-clause-steps
returns-in-Err-with_entry-clause-steps g c =
    let d = c.args.draft.now in
    let items = c.args.list.now.items in
    let new = c.checked.new.store in
    within_touch new d.tx c.note_change.new.list.items (drafted c.args.store.now d) (plain_list c.args.store.now items) _ _
    (ap (λ l. touch (by_value new d.tx) (plain_list new l)) (c.note_change.ensures.items ∙ c.in_ok-change.ensures.items) ∙ over_new d c.args.store.now new items c.in_ok-change.change c.in_ok-change.ensures.ok touch) c.with_entry.ensures.steps

pub returns-in-Ok-with_entry-clause-numbers : goal.returns-in-Ok-with_entry-clause-numbers
returns-in-Ok-with_entry-clause-numbers g c =
    let t = c.args.tree.now in
    subst (KeepsNumbers t.arena.slots c.with_entry.new.tree.arena.slots t.root c.args.draft.now.tx) (c.note_change.ensures.items ∙ c.in_ok-change.ensures.items) c.in-Ok-with_entry.ensures.numbers

pub returns-in-Ok-with_entry-clause-steps_if_allowed : goal.returns-in-Ok-with_entry-clause-steps_if_allowed
returns-in-Ok-with_entry-clause-steps_if_allowed g c =
    λ refused. absurd (refused (allowed_cause c.args.draft.now c.args.store.now c.checked.new.store c.args.list.now.items c.in_ok-change.change (between 0 0) c.in_ok-change.ensures.ok))

pub returns-in-Err-with_entry-clause-steps_if_allowed : goal.returns-in-Err-with_entry-clause-steps_if_allowed
returns-in-Err-with_entry-clause-steps_if_allowed g c =
    λ refused. absurd (refused (allowed_cause c.args.draft.now c.args.store.now c.checked.new.store c.args.list.now.items c.in_ok-change.change (between 0 0) c.in_ok-change.ensures.ok))
