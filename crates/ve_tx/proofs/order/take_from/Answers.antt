use Rattle.std.proofs.Common.{get_or, [], ap, ◌∙◌, sym, subst}
use Rattle.std.specs.Prelude.{slice_set}
use Rattle.std.proofs.lemmas.List.{get_or_default}
use Rattle.ve_items.specs.Blocks.{joined}
use Rattle.ve_tx.specs.Order.{without, stands, AtHome}
use Rattle.ve_tx.proofs.OrderLemmas.{homeless, home_past, without_none, taken_row, taken_stood, home_without, got, got_past}
use Rattle.ve_tx.proofs.order.take_from.Goals as goal

pub returns-then-number-homes-clause-row : goal.returns-then-number-homes-clause-row
returns-then-number-homes-clause-row c =
    sym (without_none c.args.number (joined c.args.chunks.now) (homeless c.args.chunks.now c.args.homes.now c.args.number c.requires (got_past c.args.homes.now c.args.number c.if-number-homes.true)))

pub returns-then-number-homes-clause-stood : goal.returns-then-number-homes-clause-stood
returns-then-number-homes-clause-stood c =
    sym (homeless c.args.chunks.now c.args.homes.now c.args.number c.requires (got_past c.args.homes.now c.args.number c.if-number-homes.true))

pub returns-then-home-chunks-clause-row : goal.returns-then-home-chunks-clause-row
returns-then-home-chunks-clause-row c =
    let is = got c.args.homes.now c.args.number c.if-number-homes.false in
    sym (without_none c.args.number (joined c.args.chunks.now) (home_past c.args.chunks.now c.args.homes.now c.args.number _ c.requires is c.if-home-chunks.true))

pub returns-then-home-chunks-clause-stood : goal.returns-then-home-chunks-clause-stood
returns-then-home-chunks-clause-stood c =
    let is = got c.args.homes.now c.args.number c.if-number-homes.false in
    sym (home_past c.args.chunks.now c.args.homes.now c.args.number _ c.requires is c.if-home-chunks.true)

pub returns-clause-row : goal.returns-clause-row
returns-clause-row c =
    let home = get_or c.args.homes.now c.args.number 0 in
    let is = got c.args.homes.now c.args.number c.if-number-homes.false in
    let chunk = get_or_default c.args.chunks.now home c.index-chunks-home.result [] c.if-home-chunks.false in
    ap (λ l. joined (slice_set c.args.chunks.now home l)) (c.take_out.ensures.left ∙ ap (without c.args.number) chunk)
    ∙ taken_row c.args.number c.args.chunks.now c.args.homes.now home c.requires is

pub returns-clause-stood : goal.returns-clause-stood
returns-clause-stood c =
    let home = get_or c.args.homes.now c.args.number 0 in
    let is = got c.args.homes.now c.args.number c.if-number-homes.false in
    let chunk = get_or_default c.args.chunks.now home c.index-chunks-home.result [] c.if-home-chunks.false in
    c.take_out.ensures.stood ∙ ap (stands c.args.number) chunk
    ∙ taken_stood c.args.number c.args.chunks.now c.args.homes.now home c.requires is

pub returns-clause-home : goal.returns-clause-home
returns-clause-home c =
    let home = get_or c.args.homes.now c.args.number 0 in
    let chunk = get_or_default c.args.chunks.now home c.index-chunks-home.result [] c.if-home-chunks.false in
    subst (λ l. AtHome (slice_set c.args.chunks.now home l) c.args.homes.now) (sym (c.take_out.ensures.left ∙ ap (without c.args.number) chunk))
    (home_without c.args.number c.args.chunks.now c.args.homes.now home c.requires)
