use Rattle.std.proofs.Common.{sym, ap, subst}
use Rattle.ve_repair.specs.declared.cursor.Cursor.{Cursor}
use Rattle.ve_repair.specs.Cursors.{IsAt}
use Rattle.ve_repair.specs.Reader.{Reading}
use Rattle.ve_repair.proofs.ChangeLemmas.{on_ok}
use Rattle.ve_repair.proofs.MakeLemmas.{makes_then}
use Rattle.ve_repair.proofs.OpsLemmas.{read_out}
use Rattle.ve_repair.proofs.StoppedLemmas.{err_so, end_part}
use Rattle.ve_repair.proofs.read.ChangeReader.rest_of_run.Goals as goal

pub returns-clause-read : goal.returns-clause-read
returns-clause-read g c = on_ok c.end_run.result _ _
    (λ e course h.
    let rest = c.rest_of_text-count.ensures course.spot (subst (λ (a : Cursor). IsAt c.args.arena.now.slots a course.spot) (sym (ap (λ (r : Reading). r.at) c.self.view_is)) h.at) in
    read_out course c.retain.new.arena.slots c.end_run.new.arena.slots c.retain.new.self c.end_run.new.self c.rest_of_text-count.result (c.in_ok-retain.ensures.read course h rest.few) e rest)
    c.end_run.ensures.ends

pub returns-clause-made : goal.returns-clause-made
returns-clause-made g c =
    makes_then c.args.arena.now.slots c.retain.new.arena.slots c.end_run.new.arena.slots c.args.self.now.script c.retain.new.self.script c.end_run.new.self.script c.retain.ensures.made c.end_run.ensures.made

pub returns-clause-part : goal.returns-clause-part
returns-clause-part g c =
    err_so c.end_run.result _ _
    (λ few course h.
    let rest = c.rest_of_text-count.ensures course.spot (subst (λ (a : Cursor). IsAt c.args.arena.now.slots a course.spot) (sym (ap (λ (r : Reading). r.at) c.self.view_is)) h.at) in
    end_part course c.retain.new.arena.slots c.retain.new.self c.rest_of_text-count.result c.end_run.new.self.script (c.in_ok-retain.ensures.read course h rest.few) few rest)
    c.end_run.ensures.stopped
