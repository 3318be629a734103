use Rattle.std.proofs.Common.{◌≡◌, ◌-◌, length, drop, true, false, subst, sym, ◌∙◌}
use Rattle.ve_tx.specs.Order.{IsKept, AtHome, stands}
use Rattle.ve_items.specs.Blocks.{joined}
use Rattle.ve_tx.proofs.OrderLemmas.{given_back, kept_untouched, kept_taken}
use Rattle.ve_tx.proofs.order.Order.take_out.Goals as goal

pub invariant_of-self : goal.invariant_of-self
invariant_of-self c =
    let chunks = c.self.inside.chunks.items in
    let homes = c.self.inside.homes.items in
    let new = c.take_from.new.chunks in
    let back = given_back new (drop (length new) chunks) _ c.self.inside.chunks.len c.as_mut_slice.ensures.len c.take_from.auto.chunks in
    let stood : stands c.args.number (joined c.as_mut_slice.result.now) ≡ false = sym c.take_from.ensures.stood ∙ c.if-not-take_from.true in
    let home = subst (AtHome new) c.as_slice.ensures.value c.take_from.ensures.home in
    subst (λ l. IsKept l homes c.self.inside.len) (sym back)
    (kept_untouched chunks c.as_mut_slice.result.now new homes c.self.inside.len c.args.number c.self.invariant c.as_mut_slice.ensures.value home c.take_from.ensures.row stood)

pub invariant_of-self-2 : goal.invariant_of-self-2
invariant_of-self-2 c =
    let chunks = c.self.inside.chunks.items in
    let homes = c.self.inside.homes.items in
    let new = c.take_from.new.chunks in
    let back = given_back new (drop (length new) chunks) _ c.self.inside.chunks.len c.as_mut_slice.ensures.len c.take_from.auto.chunks in
    let stood : stands c.args.number (joined c.as_mut_slice.result.now) ≡ true = sym c.take_from.ensures.stood ∙ c.if-not-take_from.false in
    let home = subst (AtHome new) c.as_slice.ensures.value c.take_from.ensures.home in
    subst (λ l. IsKept l homes (c.self.inside.len - 1)) (sym back)
    (kept_taken chunks c.as_mut_slice.result.now new homes c.self.inside.len c.args.number c.self.invariant c.as_mut_slice.ensures.value home c.take_from.ensures.row stood)
