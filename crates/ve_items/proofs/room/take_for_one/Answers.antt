use Rattle.ve_items.proofs.RoomLemmas.{can_take}
use Rattle.ve_items.proofs.room.take_for_one.Goals as goal

pub returns-then-many-spare-clause-ok : goal.returns-then-many-spare-clause-ok
returns-then-many-spare-clause-ok c = can_take _ _ _ _ c.args.spare c.args.many c.requires c.if-many-spare.true
