use Rattle.std.proofs.Common.{ap, sym, subst}
use Rattle.ve_repair.specs.declared.cursor.Cursor.{Cursor}
use Rattle.ve_repair.specs.Cursors.{IsAt}
use Rattle.ve_repair.specs.Reader.{Reading}
use Rattle.ve_repair.proofs.read.ChangeReader.remove_some.Goals as goal

pub returns-clause-read : goal.returns-clause-read
returns-clause-read c = λ course h enough.
    c.in_ok-remove_passed.ensures.read course c.args.arena.now.slots c.args.most h
    (c.pass-passed.ensures course.spot (subst (λ (a : Cursor). IsAt c.args.arena.now.slots a course.spot) (sym (ap (λ (r : Reading). r.at) c.self.view_is)) h.at) enough)
