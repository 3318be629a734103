use Rattle.std.proofs.lemmas.Str.{chars-nil}
use Rattle.std.specs.Prelude.{chars}
use Rattle.ve_read.proofs.BodyLemmas.{owner_done}
use Rattle.ve_read.proofs.bodies.read_owner.Goals as goal

pub returns-clause-ok : goal.returns-clause-ok
returns-clause-ok c =
    owner_done (record { at = c.args.owner.at; key = c.args.owner.key.now; html = c.args.owner.html.now }) c.args.reader.now c.open_internal.new.reader c.read_whole.new.reader c.close.new.self
    c.in_ok-head.head c.in_ok-item.item _ (chars c.in-Ok.white.now) c.requires.ready c.in_ok-head.ensures chars-nil c.in_ok-item.ensures.ok c.in_ok-item.ensures.node
    c.in-Ok.ensures.ok c.in-Ok.ensures.white c.in_ok-close.ensures
