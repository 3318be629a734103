use Rattle.std.proofs.Common.{◌++◌}
use Rattle.model_spelling.specs.Written.{escaped}
use Rattle.ve_html_write.proofs.Escaping.{all_written, partly_written, told_of_err}
use Rattle.ve_html_write.proofs.EscapedUtf8.{escaped_utf8, more_utf8}
use Rattle.ve_html_write.proofs.escape.push_escaped.Goals as goal

pub returns-clause-ok : goal.returns-clause-ok
returns-clause-ok c = all_written c.args.in_value c.loop-at.out (c.args.out.now ++ escaped c.args.in_value c.args.bytes.now) c.args.bytes.now c.loop-at.at c.loop-at-test.false c.loop-at.invariant.whole

pub returns-in_err-push-clause-err : goal.returns-in_err-push-clause-err
returns-in_err-push-clause-err c =
    told_of_err c.from_residual.result (partly_written c.args.out.now c.loop-at.out _ _ _ _ c.in_err-push.ensures.err c.loop-at.invariant.begun.1 c.loop-at.invariant.whole)

pub returns-clause-utf8 : goal.returns-clause-utf8
returns-clause-utf8 c = λ u w. more_utf8 c.args.out.now c.loop-at.out (escaped c.args.in_value c.args.bytes.now) (returns-clause-ok c) (escaped_utf8 c.args.in_value c.args.bytes.now u) w
