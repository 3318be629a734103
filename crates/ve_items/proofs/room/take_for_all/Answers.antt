use Rattle.std.proofs.Common.{arith}
use Rattle.ve_items.proofs.RoomLemmas.{few_blocks}
use Rattle.ve_items.proofs.room.take_for_all.Goals as goal

pub overflow_sub-more : goal.overflow_sub-more
overflow_sub-more c = omega (arith, few_blocks c.args.table.now.blocks c.requires.rule, c.items-items.ensures, c.len.ensures.count)
