use Rattle.std.proofs.Common.{◌≡◌, ◌+◌, length, get_or, None, Some, [], ap, ◌∙◌, arith, sym}
use Rattle.std.proofs.lemmas.List.{get_or_read}
use Rattle.ve_items.specs.Blocks.{joined}
use Rattle.ve_tx.specs.Order.{place_of}
use Rattle.ve_tx.proofs.OrderLemmas.{no_place, homeless, home_past, not_at_home, missing, found_home, before_and_in, got, got_past}
use Rattle.ve_tx.proofs.order.position_in.Goals as goal

pub returns-then-number-homes : goal.returns-then-number-homes
returns-then-number-homes c =
    sym (no_place c.args.number (joined c.args.chunks.now) (homeless c.args.chunks.now c.args.homes.now c.args.number c.requires.home (got_past c.args.homes.now c.args.number c.if-number-homes.true)))

pub returns-then-home-chunks : goal.returns-then-home-chunks
returns-then-home-chunks c =
    let is = got c.args.homes.now c.args.number c.if-number-homes.false in
    sym (no_place c.args.number (joined c.args.chunks.now) (home_past c.args.chunks.now c.args.homes.now c.args.number _ c.requires.home is c.if-home-chunks.true))

pub returns-in_default : goal.returns-in_default
returns-in_default c =
    let home = get_or c.args.homes.now c.args.number 0 in
    let is = got c.args.homes.now c.args.number c.if-number-homes.false in
    let chunk = get_or_read c.args.chunks.now home c.index-chunks-home.result c.if-home-chunks.false c.index-chunks-home.is [] in
    let none : place_of c.args.number (get_or c.args.chunks.now home []) ≡ None = ap (place_of c.args.number) (sym (c.as_slice.ensures ∙ chunk)) ∙ sym c.in_default.ensures.place in
    sym (no_place c.args.number (joined c.args.chunks.now) (not_at_home c.args.chunks.now c.args.homes.now c.args.number home c.requires.home is (missing c.args.number (get_or c.args.chunks.now home []) none)))

pub overflow_add-result : goal.overflow_add-result
overflow_add-result c =
    let home = get_or c.args.homes.now c.args.number 0 in
    let chunk = get_or_read c.args.chunks.now home c.index-chunks-home.result c.if-home-chunks.false c.index-chunks-home.is [] in
    let size = ap length (c.as_slice.ensures ∙ chunk) in
    let within = c.in-Some.ensures.within in
    omega (arith, before_and_in c.args.chunks.now home, size, within, c.count_before.ensures, c.requires.small)

pub returns : goal.returns
returns c =
    let home = get_or c.args.homes.now c.args.number 0 in
    let is = got c.args.homes.now c.args.number c.if-number-homes.false in
    let chunk = get_or_read c.args.chunks.now home c.index-chunks-home.result c.if-home-chunks.false c.index-chunks-home.is [] in
    let place : place_of c.args.number (get_or c.args.chunks.now home []) ≡ Some c.in-Some.place = ap (place_of c.args.number) (sym (c.as_slice.ensures ∙ chunk)) ∙ sym c.in-Some.ensures.place in
    ap (λ n. Some (n + c.in-Some.place)) c.count_before.ensures
    ∙ sym (found_home c.args.number c.args.chunks.now c.args.homes.now home c.in-Some.place c.requires.home is place)
