use Rattle.std.proofs.Common.{ap}
use Rattle.ve_repair.specs.declared.cursor.Ahead.TheVariants.{Opening, Chars, Closing}
use Rattle.ve_repair.specs.Reader.{with_cursor}
use Rattle.ve_repair.proofs.ChangeLemmas.{on_ok}
use Rattle.ve_repair.proofs.KeptLemmas.{as_what, gone_opening, gone_chars, gone_closing}
use Rattle.ve_repair.proofs.read.ChangeReader.remove_passed.Goals as goal

pub returns-in-Opening-clause-read : goal.returns-in-Opening-clause-read
returns-in-Opening-clause-read c = on_ok c.note.result _ _
    (λ e course slots most h p.
    gone_opening course slots c.args.self.now _ c.note.new.self c.in-Opening.n c.args.passed.count most c.args.passed.at h
    (as_what slots most course.spot c.args.passed (Opening c.in-Opening.n) c.in-Opening.is p) (ap (with_cursor c.args.passed.at) c.self.view_is) e)
    c.note.ensures.reader

pub returns-in-Chars-clause-read : goal.returns-in-Chars-clause-read
returns-in-Chars-clause-read c = on_ok c.cut_text.result _ _
    (λ e course slots most h p.
    gone_chars course slots c.args.self.now _ c.cut_text.new.self c.in-Chars.n c.in-Chars.ends c.args.passed.count most c.args.passed.at h
    (as_what slots most course.spot c.args.passed (Chars c.in-Chars.n c.in-Chars.ends) c.in-Chars.is p) (ap (with_cursor c.args.passed.at) c.self.view_is) e)
    c.cut_text.ensures.reader

pub returns-in-Closing-clause-read : goal.returns-in-Closing-clause-read
returns-in-Closing-clause-read c = on_ok c.note-in-Closing.result _ _
    (λ e course slots most h p.
    gone_closing course slots c.args.self.now _ c.note-in-Closing.new.self c.args.passed.count most c.args.passed.at h
    (as_what slots most course.spot c.args.passed Closing c.in-Closing.is p) (ap (with_cursor c.args.passed.at) c.self.view_is) e)
    c.note-in-Closing.ensures.reader
