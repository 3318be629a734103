use Rattle.std.proofs.Common.{None, slice_index_or, ◌∙◌, ap}
use Rattle.std.proofs.lemmas.Option.{slice_get-get_or}
use Rattle.ve_arena.specs.declared.slot.Note.{Note}
use Rattle.ve_arena.specs.Slots.{kept}
use Rattle.ve_arena.proofs.SettleLemmas.{settle_next, slot_there}
use Rattle.ve_arena.proofs.slot.settle.Goals as goal

abbrev nothing : Note
nothing = record { number = 0; node = None }

pub staying-node-requires : goal.staying-node-requires
staying-node-requires c =
    let notes = c.args.notes.now in
    let i = c.loop-i.i in
    slot_there c.args.back c.args.slots.now.slots c.loop-i.slots.slots notes i (slice_index_or notes i nothing) c.requires c.loop-i.invariant (slice_get-get_or notes i nothing c.loop-i-test.true)

pub settle_one-requires : goal.settle_one-requires
settle_one-requires c =
    let notes = c.args.notes.now in
    let i = c.loop-i.i in
    slot_there c.args.back c.args.slots.now.slots c.loop-i.slots.slots notes i (slice_index_or notes i nothing) c.requires c.loop-i.invariant (slice_get-get_or notes i nothing c.loop-i-test.true)

pub loop-i-preserved : goal.loop-i-preserved
loop-i-preserved c =
    let notes = c.args.notes.now in
    let i = c.loop-i.i in
    settle_next c.args.back c.args.slots.now.slots c.loop-i.slots.slots notes i (slice_index_or notes i nothing) c.requires c.loop-i.invariant (slice_get-get_or notes i nothing c.loop-i-test.true)
    c.settle_one.new.slots.slots (c.settle_one.ensures.here ∙ ap kept c.staying-node.ensures) c.settle_one.ensures.others
