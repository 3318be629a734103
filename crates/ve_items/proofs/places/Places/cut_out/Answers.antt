use Rattle.std.proofs.Common.{◌≡◌, ◌≤◌, ◌+◌, ◌-◌, length, take, drop, ap, ◌∙◌, refl, arith, length-drop}
use borrow.Rule.Slice.PartMut.{put_mid}
use Rattle.std.proofs.lemmas.List.{length-take-le, with_items_is}
use Rattle.ve_items.proofs.BlockLemmas.{items_changed, length_changed, cut_by_front, cut_by_end}
use Rattle.ve_items.proofs.places.Places.cut_out.Goals as goal

pub returns-then-at-len : goal.returns-then-at-len
returns-then-at-len c =
    let d = c.deref_mut.result.now in
    let s = c.self.inside.first in
    let many = c.args.many in
    let k = s + c.args.at + many - s in
    let view = ap (λ l. drop s l) c.deref_mut.ensures.value ∙ c.self.view_is in
    let within = c.requires in
    let among : s ≤ length d = omega (arith, c.self.invariant.1, ap length c.deref_mut.ensures.value) in
    let size : length d - s ≡ length c.args.self.now = omega (arith, length-drop s d, ap length view) in
    let count : k ≡ c.args.at + many = omega arith in
    let inside : s + k ≤ length d = omega (arith, among, size, within, count) in
    let new : length c.rotate_right.new.self ≡ k =
    c.rotate_right.ensures.len ∙ length-take-le k (drop s d) (omega (arith, length-drop s d, inside)) in
    items_changed c.self.inside.places d c.rotate_right.new.self _ s k (s + many) c.deref_mut.ensures.value inside new
    (cut_by_front d c.rotate_right.new.self c.args.self.now s k c.args.at many view among count within c.rotate_right.ensures.after)

pub returns : goal.returns
returns c =
    let d = c.deref_mut-2.result.now in
    let v = c.self.inside.places in
    let s = c.self.inside.first in
    let many = c.args.many in
    let from = s + c.args.at in
    let k = length d - from in
    let ys = c.rotate_left.new.self in
    let view = ap (λ l. drop s l) c.deref_mut-2.ensures.value ∙ c.self.view_is in
    let within = c.requires in
    let same = ap length c.deref_mut-2.ensures.value in
    let among : s ≤ length d = omega (arith, c.self.invariant.1, same) in
    let size : length d - s ≡ length c.args.self.now = omega (arith, length-drop s d, ap length view) in
    let inside : from + k ≤ length d = omega (arith, among, size, within) in
    let new : length ys ≡ k =
    c.rotate_left.ensures.len ∙ length-take-le k (drop from d) (omega (arith, length-drop from d)) in
    let all : length (put_mid from k d ys) ≡ v.len = omega (arith, length_changed d ys from k inside new, same, v.ok.0) in
    let count : c.len-2.result - many ≡ length d - many = omega (arith, c.len-2.ensures, same, v.ok.0) in
    ap (λ l. drop s l) c.truncate.ensures.items
    ∙ ap (λ l. drop s (take (c.len-2.result - many) l)) (with_items_is v (put_mid from k d ys) all)
    ∙ ap (λ n. drop s (take n (put_mid from k d ys))) count
    ∙ cut_by_end d ys c.args.self.now s from k c.args.at many view among refl refl within c.rotate_left.ensures.after
