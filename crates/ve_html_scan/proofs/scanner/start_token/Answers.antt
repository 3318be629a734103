use Rattle.std.proofs.Common.{◌∙◌}
use Rattle.std.proofs.Common.{arith}
use Rattle.ve_html_scan.proofs.Lent.{start_lent}
use Rattle.ve_html_scan.proofs.Lent.{cut_after_close, first_is}
use Rattle.ve_html_scan.proofs.scanner.start_token.Goals as goal

pub range-requires-2-clause-end_boundary : goal.range-requires-2-clause-end_boundary
range-requires-2-clause-end_boundary c = cut_after_close c.args.text.now c.as_bytes.result.now c.in_ok-places.places.to c.as_bytes.ensures.value c.utf8.text c.in_ok-places.ensures.close (omega (arith, c.in_ok-places.ensures.bound)) c.in_ok-places.ensures.bound.2

pub returns : goal.returns
returns c = start_lent c.args.text.now c.as_bytes.result.now c.args.tag c.in_ok-places.places.name_to c.in_ok-places.places.to c.in_ok-places.places.slash c.range.result c.range-2.result c.as_bytes.ensures.value c.utf8.text c.requires.room c.requires.letter
    c.in_ok-places.ensures.read c.in_ok-places.ensures.bound.0 c.in_ok-places.ensures.bound.1 c.in_ok-places.ensures.bound.2 c.in_ok-places.ensures.close c.in_ok-places.ensures.source c.range.ensures.value (c.range-2.ensures.value ∙ first_is _ _)
