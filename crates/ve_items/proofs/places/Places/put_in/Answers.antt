use Rattle.std.proofs.Common.{◌≡◌, ◌≤◌, ◌+◌, ◌-◌, length, take, drop, ap, ◌∙◌, arith, length-append, length-drop, length-take}
use Rattle.ve_items.proofs.BlockLemmas.{items_changed, put_by_front}
use Rattle.ve_items.proofs.places.Places.put_in.Goals as goal

pub returns-then-at-len : goal.returns-then-at-len
returns-then-at-len c =
    let d = c.deref_mut.result.now in
    let s = c.self.inside.first in
    let more = c.args.items.now in
    let from = s - length more in
    let k = s + c.args.at - from in
    let view = ap (λ l. drop s l) c.deref_mut.ensures.value ∙ c.self.view_is in
    let within = c.requires.within in
    let room = c.if-items-first.true in
    let among : s ≤ length d = omega (arith, c.self.invariant.1, ap length c.deref_mut.ensures.value) in
    let size : length d - s ≡ length c.args.self.now = omega (arith, length-drop s d, ap length view) in
    let count : k ≡ length more + c.args.at = omega (arith, room) in
    let part = take k (drop from d) in
    let long : length part ≡ k = omega (arith, length-take k (drop from d), length-drop from d, among, size, within, room) in
    let new : length c.put_at_end.new.places ≡ k =
    omega (arith, ap length c.put_at_end.ensures, length-append (drop (length more) part) more, length-drop (length more) part, long, count) in
    items_changed c.self.inside.places d c.put_at_end.new.places _ from k from c.deref_mut.ensures.value (omega (arith, among, size, within, room)) new
    (put_by_front d c.put_at_end.new.places c.args.self.now more s from k c.args.at view among (omega (arith, room)) count within c.put_at_end.ensures)
