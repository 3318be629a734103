use Rattle.std.proofs.Common.{sym, arith, subst}
use Rattle.ve_html_scan.specs.Shown.{Gives}
use Rattle.std.proofs.lemmas.Result.{err_from_is_err_and}
use Rattle.ve_html_scan.proofs.Lent.{between_none, between_tag, chars_fault, chars_lent}
use Rattle.ve_html_scan.proofs.scanner.token_between.Goals as goal

pub returns-then-at-bytes : goal.returns-then-at-bytes
returns-then-at-bytes c = between_none c.args.text.now c.as_bytes-bytes.result.now c.args.at c.as_bytes-bytes.ensures.value c.if-at-bytes.true

pub returns-then-bytes-at-eq60 : goal.returns-then-bytes-at-eq60
returns-then-bytes-at-eq60 c = subst (Gives c.args.text.now c.args.at c.tag_token.result) (sym (between_tag c.args.text.now c.as_bytes-bytes.result.now c.args.at c.as_bytes-bytes.ensures.value (omega (arith, c.requires)) c.if-bytes-at-eq60.true)) c.tag_token.ensures

pub returns-in_err-to : goal.returns-in_err-to
returns-in_err-to c =
    let p = err_from_is_err_and c.from_residual.result c.from_residual.ensures.1 in
    rw (p.1, p.2) (chars_fault c.args.text.now c.as_bytes-bytes.result.now c.args.at c.in_err-to.field-0.0 c.as_bytes-bytes.ensures.value (omega (arith, c.requires)) c.if-bytes-at-eq60.false c.in_err-to.ensures.read)

pub returns : goal.returns
returns c = chars_lent c.args.text.now c.as_bytes-bytes.result.now c.args.at c.in_ok-to.to c.range.result c.as_bytes-bytes.ensures.value (omega (arith, c.requires)) c.if-bytes-at-eq60.false c.in_ok-to.ensures.read c.in_ok-to.ensures.bound.0 c.in_ok-to.ensures.bound.1 c.in_ok-to.ensures.stop c.range.ensures.value
