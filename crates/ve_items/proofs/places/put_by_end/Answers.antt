use Rattle.std.proofs.Common.{◌≡◌, ◌≤◌, ◌+◌, ◌++◌, length, take, drop, rules, ◌-◌, refl, ap, ◌∙◌, arith, length-append, length-drop}
use borrow.Rule.Slice.PartMut.{put_mid}
use Rattle.std.proofs.lemmas.List.{drop-append-le, length-take-le}
use Rattle.ve_items.proofs.BlockLemmas.{items_changed, put_from_end}
use Rattle.ve_items.proofs.places.put_by_end.Goals as goal

pub returns-clause-items : goal.returns-clause-items
returns-clause-items c =
    let old = drop c.args.first c.args.places.now.items in
    let more = c.args.items.now in
    let d = c.deref_mut.result.now in
    let s = c.make_room-first.result in
    let room = c.make_room-first.new.places.items in
    let is : d ≡ room ++ more = c.deref_mut.ensures.value ∙ search rules in
    let size : length d ≡ length room + length more = ap length is ∙ length-append room more in
    let all = c.make_room-first.ensures.len in
    let within = c.requires.within in
    let among : s ≤ length room = omega (arith, all) in
    let at_most : c.args.at ≤ length old = omega (arith, length-drop c.args.first c.args.places.now.items, within) in
    let whole : drop s d ≡ old ++ more = ap (λ l. drop s l) is ∙ drop-append-le s room more among ∙ ap (λ l. l ++ more) c.make_room-first.ensures.items in
    let e : drop s (put_mid (s + c.args.at) (length d - (s + c.args.at)) d c.rotate_right.new.self) ≡ take c.args.at old ++ more ++ drop c.args.at old =
    put_from_end d c.rotate_right.new.self old more s (s + c.args.at) _ c.args.at whole (omega (arith, size, among)) refl refl at_most c.rotate_right.ensures.after in
    items_changed c.extend_from_slice.new.self d c.rotate_right.new.self _ (s + c.args.at) _ s c.deref_mut.ensures.value
    (omega (arith, size, all, within))
    (c.rotate_right.ensures.len ∙ length-take-le (length d - (s + c.args.at)) (drop (s + c.args.at) d) (omega (arith, length-drop (s + c.args.at) d)))
    e
