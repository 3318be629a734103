use Rattle.std.proofs.Common.{◌≡◌, length, sym, subst, arith}
use Rattle.std.specs.BTreeMap.{get_by_text}
use Rattle.ve_tx.specs.Many.{IsIndexed}
use Rattle.ve_tx.proofs.ManyLemmas.{slot_indexed, slot_attrs, slot_last, name_told, name_indexed}
use Rattle.ve_tx.proofs.many.add_slot.Goals as goal

pub returns-in_err-note-clause-indexed : goal.returns-in_err-note-clause-indexed
returns-in_err-note-clause-indexed c order i new =
    subst (λ numbers. IsIndexed c.push.new.self.items numbers order) (sym c.in_err-note.ensures.err)
    (slot_indexed c.args.slots.now.items c.push.new.self.items c.args.attr (get_by_text c.args.numbers.now) order c.in_ok-push.ensures.items i)

pub returns-in_err-note-clause-attrs : goal.returns-in_err-note-clause-attrs
returns-in_err-note-clause-attrs c order i =
    slot_attrs c.args.slots.now.items c.push.new.self.items c.args.attr (get_by_text c.args.numbers.now) order c.in_ok-push.ensures.items i

pub returns-clause-told : goal.returns-clause-told
returns-clause-told c =
    let slots = c.args.slots.now.items in
    let old = c.index.result.now in
    let number = c.len-number.result in
    let is : number ≡ length slots = omega (arith, c.len-number.ensures, c.args.slots.now.ok) in
    let same = slot_last slots c.push.new.self.items c.args.attr old number c.in_ok-push.ensures.items is c.index.ensures in
    name_told slots c.args.attr old number (get_by_text c.args.numbers.now) (get_by_text c.note.new.numbers) same is c.in_ok-note.ensures.ok

pub returns-clause-indexed : goal.returns-clause-indexed
returns-clause-indexed c order i new =
    let slots = c.args.slots.now.items in
    let old = c.index.result.now in
    let number = c.len-number.result in
    let is : number ≡ length slots = omega (arith, c.len-number.ensures, c.args.slots.now.ok) in
    let same = slot_last slots c.push.new.self.items c.args.attr old number c.in_ok-push.ensures.items is c.index.ensures in
    name_indexed slots c.push.new.self.items c.args.attr old number (get_by_text c.args.numbers.now) (get_by_text c.note.new.numbers) order c.in_ok-push.ensures.items is same c.note.ensures.spelled c.in_ok-note.ensures.ok i new

pub returns-clause-attrs : goal.returns-clause-attrs
returns-clause-attrs c order i =
    slot_attrs c.args.slots.now.items c.push.new.self.items c.args.attr (get_by_text c.args.numbers.now) order c.in_ok-push.ensures.items i
