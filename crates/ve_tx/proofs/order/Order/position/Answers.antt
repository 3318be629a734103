use Rattle.ve_tx.proofs.OrderLemmas.{kept_small}
use Rattle.ve_tx.proofs.order.Order.position.Goals as goal

pub position_in-requires-clause-small : goal.position_in-requires-clause-small
position_in-requires-clause-small c =
    kept_small c.self.inside.chunks.items c.as_slice.result.now c.self.inside.homes.items c.self.inside.len c.self.invariant c.as_slice.ensures.value
