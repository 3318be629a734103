use Rattle.std.proofs.Common.{◌∙◌, sym, arith, refl}
use Rattle.ve_html_scan.proofs.AttrIterator.{name_in, found_at, quote_told, quote_kept, step_none, step_some, cut_after_quote}
use Rattle.ve_html_scan.proofs.attr_tokens.AttrTokensIterator.next.Goals as goal
use Rattle.ve_html_scan.proofs.attr_tokens.AttrTokensIterator.next.Goals.{then-name_to-bytes-via-then-name_to-bytes, then-name_to-bytes-via-else-name_to-bytes+then-bytes-name_to-ne61}

pub returns-then-name_to-bytes-clause-steps : goal.returns-then-name_to-bytes-clause-steps
returns-then-name_to-bytes-clause-steps c = step_none c.as_bytes-bytes.result.now c.args.self.now c.as_bytes-bytes.ensures.value (λ a rest s e.
    let n = name_in c.as_bytes-bytes.result.now c.args.self.now.at c.name_end-name_to.result a rest s e c.name_end-name_to.ensures.end in
    elim c.then-name_to-bytes.branch [
      | then-name_to-bytes-via-then-name_to-bytes w ↦ absurd (omega (arith, n.0, w.if-name_to-bytes.true))
      | then-name_to-bytes-via-else-name_to-bytes+then-bytes-name_to-ne61 w ↦ absurd (w.if-bytes-name_to-ne61.true n.1)
    ])

pub returns-then-not-is_quote-clause-steps : goal.returns-then-not-is_quote-clause-steps
returns-then-not-is_quote-clause-steps c = step_none c.as_bytes-bytes.result.now c.args.self.now c.as_bytes-bytes.ensures.value (λ a rest s e.
    quote_told _ (sym c.is_quote.ensures ∙ c.if-not-is_quote.true) (quote_kept a s _ (name_in c.as_bytes-bytes.result.now c.args.self.now.at c.name_end-name_to.result a rest s e c.name_end-name_to.ensures.end).2))

pub returns-then-value_to-bytes-clause-steps : goal.returns-then-value_to-bytes-clause-steps
returns-then-value_to-bytes-clause-steps c = step_none c.as_bytes-bytes.result.now c.args.self.now c.as_bytes-bytes.ensures.value (λ a rest s e.
    absurd (omega (arith, c.if-value_to-bytes.true, (found_at c.as_bytes-bytes.result.now c.args.self.now.at c.name_end-name_to.result c.next_place_of-value_to.result _ a rest s e c.name_end-name_to.ensures.end refl c.next_place_of-value_to.ensures.end).value_in)))

pub range-requires-2-clause-start_boundary : goal.range-requires-2-clause-start_boundary
range-requires-2-clause-start_boundary c = λ _. cut_after_quote c.args.self.now.source.now c.as_bytes-bytes.result.now c.name_end-name_to.result c.as_bytes-bytes.ensures.value c.as_bytes-bytes.ensures.utf8 (omega arith) (sym c.is_quote.ensures ∙ c.if-not-is_quote.false)

pub returns-clause-steps : goal.returns-clause-steps
returns-clause-steps c = step_some c.as_bytes-bytes.result.now c.args.self.now c.name_end-name_to.result c.next_place_of-value_to.result _ c.range.result c.range-2.result c.as_bytes-bytes.ensures.value c.if-bytes-self-ne32.false
    c.name_end-name_to.ensures.end refl c.next_place_of-value_to.ensures.end c.range.ensures.value c.range-2.ensures.value
