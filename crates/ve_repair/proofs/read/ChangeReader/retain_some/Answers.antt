use Rattle.std.proofs.Common.{ap, sym, subst}
use Rattle.ve_repair.specs.declared.cursor.Cursor.{Cursor}
use Rattle.ve_repair.specs.Cursors.{IsAt}
use Rattle.ve_repair.specs.Reader.{Reading}
use Rattle.ve_repair.specs.Acts.{Stay}
use Rattle.ve_repair.proofs.StoppedLemmas.{on_err, stays_part}
use Rattle.ve_repair.proofs.read.ChangeReader.retain_some.Goals as goal

pub returns-clause-read : goal.returns-clause-read
returns-clause-read g c = λ course h enough.
    c.in_ok-retain_passed.ensures.read course c.args.most h
    (c.pass-passed.ensures course.spot (subst (λ (a : Cursor). IsAt c.args.arena.now.slots a course.spot) (sym (ap (λ (r : Reading). r.at) c.self.view_is)) h.at) enough)

pub returns-in_err-retain_passed-clause-part : goal.returns-in_err-retain_passed-clause-part
returns-in_err-retain_passed-clause-part g c =
    on_err c.from_residual.result _
    (λ course h enough.
    let p = c.pass-passed.ensures course.spot (subst (λ (a : Cursor). IsAt c.args.arena.now.slots a course.spot) (sym (ap (λ (r : Reading). r.at) c.self.view_is)) h.at) enough in
    stays_part Stay course c.pass-passed.result.count c.args.most c.retain_passed.new.self.script p.few (c.in_err-retain_passed.ensures.part course c.args.most h p))
