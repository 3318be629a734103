use Rattle.std.proofs.Common.{arith}
use Rattle.ve_html_scan.proofs.Lent.{comment_lent}
use Rattle.ve_html_scan.proofs.Lent.{cut_after_dash, cut_before_close}
use Rattle.ve_html_scan.proofs.scanner.comment_token.Goals as goal

pub range-requires-clause-start_boundary : goal.range-requires-clause-start_boundary
range-requires-clause-start_boundary c = λ _. cut_after_dash c.args.text.now c.as_bytes.result.now c.args.tag c.as_bytes.ensures.value c.utf8.text c.in_ok-to.ensures.dash (omega (arith, c.in_ok-to.ensures.bound))

pub range-requires-clause-end_boundary : goal.range-requires-clause-end_boundary
range-requires-clause-end_boundary c = cut_before_close c.args.text.now c.as_bytes.result.now c.in_ok-to.to c.as_bytes.ensures.value c.in_ok-to.ensures.close (omega (arith, c.in_ok-to.ensures.bound))

pub returns : goal.returns
returns c = comment_lent c.args.text.now c.as_bytes.result.now c.args.tag c.in_ok-to.to c.range.result c.as_bytes.ensures.value c.utf8.text c.in_ok-to.ensures.read c.in_ok-to.ensures.bound.0 c.in_ok-to.ensures.bound.1 c.in_ok-to.ensures.close c.range.ensures.value
