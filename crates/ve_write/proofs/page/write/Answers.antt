use Rattle.std.proofs.Common.{[]}
use Rattle.ve_write.proofs.page.write.Goals as goal

pub write_knowing-requires-clause-known : goal.write_knowing-requires-clause-known
write_knowing-requires-clause-known c = (c.nothing.ensures c.args.list.now.items [] c.args.origins.now).items
