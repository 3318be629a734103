use Rattle.std.specs.Str.{chars}
use Rattle.ve_tx.proofs.AttrsLemmas.{reserved_first, reserved_second}
use Rattle.ve_tx.proofs.attributes.is_reserved.Goals as goal

pub returns-then-spells : goal.returns-then-spells
returns-then-spells c = reserved_first c.spells.result (chars c.args.name.now) c.spells.ensures c.if-spells.true

pub returns-else-spells : goal.returns-else-spells
returns-else-spells c = reserved_second c.spells.result c.spells-else-spells.result (chars c.args.name.now) c.spells.ensures c.spells-else-spells.ensures c.if-spells.false
