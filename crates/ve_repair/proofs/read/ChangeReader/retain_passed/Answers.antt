use Rattle.std.proofs.Common.{ap}
use Rattle.ve_repair.specs.declared.cursor.Ahead.TheVariants.{Opening, Chars, Closing}
use Rattle.ve_repair.specs.Reader.{Reading, with_cursor}
use Rattle.ve_repair.proofs.ChangeLemmas.{on_ok}
use Rattle.ve_repair.proofs.MakeLemmas.{makes_from}
use Rattle.ve_repair.proofs.KeptLemmas.{as_what, kept_opening, kept_chars, kept_closing}
use Rattle.ve_repair.proofs.StoppedLemmas.{err_so, on_err, opening_part, closing_part, chars_part}
use Rattle.ve_repair.proofs.read.ChangeReader.retain_passed.Goals as goal

pub returns-in-Opening-clause-read : goal.returns-in-Opening-clause-read
returns-in-Opening-clause-read g c = on_ok c.pass_bracket.result _ _
    (λ e course most h p.
    kept_opening course c.args.arena.now.slots c.pass_bracket.new.arena.slots c.args.self.now _ c.pass_bracket.new.self c.in-Opening.n c.args.passed.count most c.args.passed.at h
    (as_what c.args.arena.now.slots most course.spot c.args.passed (Opening c.in-Opening.n) c.in-Opening.is p) (ap (with_cursor c.args.passed.at) c.self.view_is) e)
    c.pass_bracket.ensures.ends

pub returns-in-Opening-clause-made : goal.returns-in-Opening-clause-made
returns-in-Opening-clause-made g c =
    makes_from c.args.arena.now.slots c.pass_bracket.new.arena.slots _ c.args.self.now.script c.pass_bracket.new.self.script (ap (λ (r : Reading). r.script) c.self.view_is) c.pass_bracket.ensures.made

pub returns-in-Chars-clause-read : goal.returns-in-Chars-clause-read
returns-in-Chars-clause-read g c = on_ok c.keep_text.result _ _
    (λ e course most h p.
    kept_chars course c.args.arena.now.slots c.args.self.now _ c.grow_run.new.self c.keep_text.new.self c.in-Chars.n c.in-Chars.ends c.args.passed.count most c.args.passed.at h
    (as_what c.args.arena.now.slots most course.spot c.args.passed (Chars c.in-Chars.n c.in-Chars.ends) c.in-Chars.is p) (ap (with_cursor c.args.passed.at) c.self.view_is) c.grow_run.ensures e)
    c.keep_text.ensures.reader

pub returns-in-Closing-clause-read : goal.returns-in-Closing-clause-read
returns-in-Closing-clause-read g c = on_ok c.pass_bracket-in-Closing.result _ _
    (λ e course most h p.
    kept_closing course c.args.arena.now.slots c.pass_bracket-in-Closing.new.arena.slots c.args.self.now _ c.pass_bracket-in-Closing.new.self c.args.passed.count most c.args.passed.at h
    (as_what c.args.arena.now.slots most course.spot c.args.passed Closing c.in-Closing.is p) (ap (with_cursor c.args.passed.at) c.self.view_is) e)
    c.pass_bracket-in-Closing.ensures.ends

pub returns-in-Closing-clause-made : goal.returns-in-Closing-clause-made
returns-in-Closing-clause-made g c =
    makes_from c.args.arena.now.slots c.pass_bracket-in-Closing.new.arena.slots _ c.args.self.now.script c.pass_bracket-in-Closing.new.self.script (ap (λ (r : Reading). r.script) c.self.view_is)
    c.pass_bracket-in-Closing.ensures.made

pub returns-in-Opening-clause-part : goal.returns-in-Opening-clause-part
returns-in-Opening-clause-part g c =
    err_so c.pass_bracket.result _ _
    (λ few course most h p.
    opening_part course c.args.arena.now.slots c.args.self.now _ c.in-Opening.n c.args.passed.count most c.args.passed.at c.pass_bracket.new.self.script h
    (as_what c.args.arena.now.slots most course.spot c.args.passed (Opening c.in-Opening.n) c.in-Opening.is p) (ap (with_cursor c.args.passed.at) c.self.view_is) few)
    c.pass_bracket.ensures.stopped

pub returns-in-Chars-clause-part : goal.returns-in-Chars-clause-part
returns-in-Chars-clause-part g c =
    on_err c.keep_text.result _
    (λ course most h p.
    chars_part course c.args.arena.now.slots c.args.self.now _ c.grow_run.new.self c.args.passed.count c.args.passed.count c.args.passed.at c.keep_text.new.self.script h
    (ap (with_cursor c.args.passed.at) c.self.view_is) c.grow_run.ensures c.keep_text.ensures.same)

pub returns-in-Closing-clause-part : goal.returns-in-Closing-clause-part
returns-in-Closing-clause-part g c =
    err_so c.pass_bracket-in-Closing.result _ _
    (λ few course most h p.
    closing_part course c.args.arena.now.slots c.args.self.now _ c.args.passed.count most c.args.passed.at c.pass_bracket-in-Closing.new.self.script h
    (as_what c.args.arena.now.slots most course.spot c.args.passed Closing c.in-Closing.is p) (ap (with_cursor c.args.passed.at) c.self.view_is) few)
    c.pass_bracket-in-Closing.ensures.stopped
