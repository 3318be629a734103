use Rattle.std.proofs.Common.{◌∙◌, sym, arith}
use Rattle.std.proofs.lemmas.Result.{err_from_is_err_and}
use Rattle.ve_html_scan.proofs.Bodies.{tag_inside, all_body, whole_cuts, without_start, start_fault, without_end, between_tags, tag_cuts}
use Rattle.ve_html_scan.proofs.body.body_of.Goals as goal

pub returns-then-not-is_whole_page-clause-read : goal.returns-then-not-is_whole_page-clause-read
returns-then-not-is_whole_page-clause-read c = all_body c.args.text.now c.as_bytes-page.result.now c.as_bytes-page.ensures.value (sym c.is_whole_page.ensures ∙ c.if-not-is_whole_page.true)

pub returns-then-not-is_whole_page-clause-cuts : goal.returns-then-not-is_whole_page-clause-cuts
returns-then-not-is_whole_page-clause-cuts c = whole_cuts c.args.text.now c.as_bytes-page.result.now c.as_bytes-page.ensures.value c.utf8.text

pub returns-in-None-clause-read : goal.returns-in-None-clause-read
returns-in-None-clause-read c = without_start c.args.text.now c.as_bytes-page.result.now c.fault_at.result c.as_bytes-page.ensures.value (sym c.is_whole_page.ensures ∙ c.if-not-is_whole_page.false) c.in-None.ensures c.fault_at.ensures

pub start_tag-requires : goal.start_tag-requires
start_tag-requires c = tag_inside c.as_bytes-page.result.now c.in-Some.tag (sym c.in-Some.ensures)

pub returns-in_err-from-clause-read : goal.returns-in_err-from-clause-read
returns-in_err-from-clause-read c =
    let p = err_from_is_err_and c.from_residual.result c.from_residual.ensures.1 in
    rw (p.1, p.2) (start_fault c.args.text.now c.as_bytes-page.result.now c.in-Some.tag c.in_err-from.field-0.0 c.as_bytes-page.ensures.value (sym c.is_whole_page.ensures ∙ c.if-not-is_whole_page.false) c.in-Some.ensures c.in_err-from.ensures.read)

pub returns-in-Some-last_body_end-clause-read : goal.returns-in-Some-last_body_end-clause-read
returns-in-Some-last_body_end-clause-read c = between_tags c.args.text.now c.as_bytes-page.result.now c.in-Some.tag c.in_ok-from.field-0.to c.in-Some-last_body_end.to _ c.as_bytes-page.ensures.value (sym c.is_whole_page.ensures ∙ c.if-not-is_whole_page.false)
    c.in-Some.ensures c.in_ok-from.ensures.read c.in-Some-last_body_end.ensures

pub returns-in-Some-last_body_end-clause-cuts : goal.returns-in-Some-last_body_end-clause-cuts
returns-in-Some-last_body_end-clause-cuts c = tag_cuts c.args.text.now c.as_bytes-page.result.now c.in_ok-from.field-0.to c.in-Some-last_body_end.to c.as_bytes-page.ensures.value c.utf8.text c.in_ok-from.ensures.close
    (omega (arith, c.in_ok-from.ensures.bound.1)) c.in_ok-from.ensures.bound.2 c.in-Some-last_body_end.ensures

pub returns-in-None-last_body_end-clause-read : goal.returns-in-None-last_body_end-clause-read
returns-in-None-last_body_end-clause-read c = without_end c.args.text.now c.as_bytes-page.result.now c.in-Some.tag c.in_ok-from.field-0.to _ c.fault_at-in-None-last_body_end.result c.as_bytes-page.ensures.value (sym c.is_whole_page.ensures ∙ c.if-not-is_whole_page.false)
    c.in-Some.ensures c.in_ok-from.ensures.read c.in-None-last_body_end.ensures c.fault_at-in-None-last_body_end.ensures
