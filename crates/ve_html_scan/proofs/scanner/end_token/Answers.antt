use Rattle.ve_html_scan.proofs.Lent.{end_lent}
use Rattle.ve_html_scan.proofs.scanner.end_token.Goals as goal

pub returns : goal.returns
returns c = end_lent c.args.text.now c.as_bytes.result.now c.args.tag c.in_ok-to.to c.range.result c.as_bytes.ensures.value c.utf8.text c.in_ok-to.ensures.read c.in_ok-to.ensures.bound.0 c.in_ok-to.ensures.bound.1 c.in_ok-to.ensures.close c.range.ensures.value
