use Rattle.std.proofs.Common.{◌≡◌, length, ap, ◌∙◌, sym, subst}
use Rattle.ve_items.specs.Blocks.{joined}
use Rattle.ve_tx.specs.Order.{AtHome, AreBelow, EachOnce, all_settled}
use Rattle.ve_tx.proofs.OrderLemmas.{below_homes, all_at_home}
use Rattle.ve_tx.proofs.order.cut_anew.Goals as goal

pub settle_all-requires : goal.settle_all-requires
settle_all-requires c =
    let e : joined c.as_slice-3.result.now ≡ joined c.args.chunks.now.items = ap joined c.as_slice-3.ensures.value ∙ c.in_ok-made.ensures ∙ c.as_slice-2.ensures.value ∙ c.in_ok-row.ensures ∙ ap joined c.as_slice.ensures.value in
    subst (λ l. AreBelow l (length c.args.homes.now)) (sym e) (below_homes c.args.chunks.now.items c.args.homes.now c.requires.home)

pub returns-clause-home : goal.returns-clause-home
returns-clause-home c =
    let e : joined c.in_ok-made.made.items ≡ joined c.args.chunks.now.items = c.in_ok-made.ensures ∙ c.as_slice-2.ensures.value ∙ c.in_ok-row.ensures ∙ ap joined c.as_slice.ensures.value in
    let below = subst (λ l. AreBelow l (length c.args.homes.now)) (sym e) (below_homes c.args.chunks.now.items c.args.homes.now c.requires.home) in
    let once = subst EachOnce (sym e) c.requires.once in
    subst (λ h. AtHome c.in_ok-made.made.items h) (sym (c.settle_all.ensures ∙ ap (all_settled c.args.homes.now 0) c.as_slice-3.ensures.value))
    (all_at_home c.args.homes.now c.in_ok-made.made.items below once)
