use Rattle.std.proofs.Common.{◌∙◌, sym, ap, drop, subst}
use Rattle.model_spelling.specs.declared.scan_fault.ScanFault.{ScanFault}
use Rattle.ve_html_scan.specs.declared.token.Token.TheVariants as lent
use Rattle.model_spelling.specs.Grammar.{end_text}
use Rattle.model_spelling.specs.Reading.{token_at, verbatim_end}
use Rattle.ve_html_scan.specs.Shown.{Gives, IsFound}
use Rattle.ve_html_scan.specs.Scanned.{shown_mode}
use Rattle.std.proofs.lemmas.Result.{err_from_is_err_and}
use Rattle.ve_html_scan.proofs.Lent.{at_between, at_failed, raw_fault, raw_empty, raw_lent, cut_at_close}
use Rattle.ve_html_scan.proofs.scanner.next_token.Goals as goal

pub returns-in-Failed : goal.returns-in-Failed
returns-in-Failed c = (ap (λ m. token_at (shown_mode m) c.args.at (drop c.args.at c.args.text.now)) c.in-Failed.is) ∙ at_failed _ _ _

pub returns-in-Between : goal.returns-in-Between
returns-in-Between c = subst (Gives c.args.text.now c.args.at c.token_between.result) (sym ((ap (λ m. token_at (shown_mode m) c.args.at (drop c.args.at c.args.text.now)) c.in-Between.is) ∙ at_between _ _)) c.token_between.ensures

pub returns-in_err-to-in-After : goal.returns-in_err-to-in-After
returns-in_err-to-in-After c =
    let p = err_from_is_err_and c.from_residual.result c.from_residual.ensures.1 in
    rw (p.1, p.2) ((ap (λ m. token_at (shown_mode m) c.args.at (drop c.args.at c.args.text.now)) c.in-After.is) ∙ raw_fault c.args.text.now c.as_bytes.result.now c.in-After.name.now c.as_bytes-in-After.result.now c.args.at c.in_err-to-in-After.field-0.0 c.as_bytes.ensures.value c.as_bytes-in-After.ensures.value (c.in_err-to-in-After.ensures.read ∙ ap (λ (f : ScanFault). verbatim_end (end_text c.as_bytes-in-After.result.now) f c.args.at (drop c.args.at c.as_bytes.result.now)) c.fault_at.ensures))

pub returns-then-to-at : goal.returns-then-to-at
returns-then-to-at c =
    subst (Gives c.args.text.now c.args.at c.token_between-then-to-at.result) (sym ((ap (λ m. token_at (shown_mode m) c.args.at (drop c.args.at c.args.text.now)) c.in-After.is) ∙ raw_empty c.args.text.now c.as_bytes.result.now c.in-After.name.now c.as_bytes-in-After.result.now c.args.at c.in_ok-to-in-After.to c.as_bytes.ensures.value c.as_bytes-in-After.ensures.value (c.in_ok-to-in-After.ensures.read ∙ ap (λ (f : ScanFault). verbatim_end (end_text c.as_bytes-in-After.result.now) f c.args.at (drop c.args.at c.as_bytes.result.now)) c.fault_at.ensures) c.if-to-at.true)) c.token_between-then-to-at.ensures

pub range-requires-clause-end_boundary : goal.range-requires-clause-end_boundary
range-requires-clause-end_boundary c = cut_at_close c.args.text.now c.as_bytes.result.now c.as_bytes-in-After.result.now c.in_ok-to-in-After.to c.as_bytes.ensures.value c.in_ok-to-in-After.ensures.found c.in_ok-to-in-After.ensures.bound.1

pub returns-else-to-at : goal.returns-else-to-at
returns-else-to-at c =
    subst (λ read. IsFound c.args.text.now c.args.at read (lent.Raw c.range.result (record { from = c.args.at; to = c.in_ok-to-in-After.to }))) (sym (ap (λ m. token_at (shown_mode m) c.args.at (drop c.args.at c.args.text.now)) c.in-After.is))
    (raw_lent c.args.text.now c.as_bytes.result.now c.in-After.name.now c.as_bytes-in-After.result.now c.args.at c.in_ok-to-in-After.to c.range.result c.as_bytes.ensures.value c.as_bytes-in-After.ensures.value (c.in_ok-to-in-After.ensures.read ∙ ap (λ (f : ScanFault). verbatim_end (end_text c.as_bytes-in-After.result.now) f c.args.at (drop c.args.at c.as_bytes.result.now)) c.fault_at.ensures) c.if-to-at.false c.in_ok-to-in-After.ensures.bound.0 c.in_ok-to-in-After.ensures.found c.in_ok-to-in-After.ensures.bound.1 c.range.ensures.value)
