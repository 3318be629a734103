use Rattle.std.proofs.Common.{◌≤◌, ◌^◌, ◌∙◌, [], sym, ap, subst}
use Rattle.std.proofs.lemmas.Result.{err_from_is_err_and}
use Rattle.model_change.specs.Join.{join}
use Rattle.ve_tx.specs.Operation.{by_value}
use Rattle.ve_rebase.specs.Span.{old_size}
use Rattle.ve_rebase.specs.Pair.{MayStandIn, between}
use Rattle.ve_rebase.proofs.PairLemmas.{made_so, refused_so, span_fits, both_is}
use Rattle.ve_rebase.proofs.join.pair.Goals as goal

pub returns-then-clash-clause-refused : goal.returns-then-clash-clause-refused
returns-then-clash-clause-refused c = λ values.
    refused_so (by_value values c.args.a.now) (by_value values c.args.b.now) c.span_of-span.result c.span_of-other.result
    c.range.result c.range-then-clash.result
    (c.span_of-span.ensures.span values) (c.span_of-other.ensures.span values) (sym (c.clash.ensures values) ∙ c.if-clash.true)
    c.range.ensures.start c.range.ensures.end c.range-then-clash.ensures.start c.range-then-clash.ensures.end

pub joined_first-requires-clause-first : goal.joined_first-requires-clause-first
joined_first-requires-clause-first c = span_fits (by_value [] c.args.a.now) c.span_of-span.result (c.span_of-span.ensures.span []) (c.span_of-span.ensures.normal [])

pub joined_first-requires-clause-second : goal.joined_first-requires-clause-second
joined_first-requires-clause-second c = span_fits (by_value [] c.args.b.now) c.span_of-other.result (c.span_of-other.ensures.span []) (c.span_of-other.ensures.normal [])

pub reshaped-requires-clause-stands : goal.reshaped-requires-clause-stands
reshaped-requires-clause-stands c = λ values.
    let made = made_so (by_value values c.args.a.now) (by_value values c.args.b.now) c.span_of-span.result c.span_of-other.result
    (c.span_of-span.ensures.span values) (c.span_of-other.ensures.span values) (c.span_of-span.ensures.normal values) (c.span_of-other.ensures.normal values)
    (c.requires values) (sym (c.clash.ensures values) ∙ c.if-clash.false) in
    subst (λ s. MayStandIn s (by_value values c.args.a.now)) (sym c.joined_first.ensures) made.first_stands

pub reshaped-requires-clause-small : goal.reshaped-requires-clause-small
reshaped-requires-clause-small c =
    let made = made_so (by_value [] c.args.a.now) (by_value [] c.args.b.now) c.span_of-span.result c.span_of-other.result
    (c.span_of-span.ensures.span []) (c.span_of-other.ensures.span []) (c.span_of-span.ensures.normal []) (c.span_of-other.ensures.normal [])
    (c.requires []) (sym (c.clash.ensures []) ∙ c.if-clash.false) in
    subst (λ s. old_size s ≤ 2 ^ 62) (sym c.joined_first.ensures) made.first_small

pub returns-in_err-first-clause-refused : goal.returns-in_err-first-clause-refused
returns-in_err-first-clause-refused c =
    let p = err_from_is_err_and c.from_residual.result c.from_residual.ensures.1 in
    rw (p.1, p.2) (λ values. sym (c.clash.ensures values) ∙ c.if-clash.false)

pub joined_second-requires-clause-first : goal.joined_second-requires-clause-first
joined_second-requires-clause-first c = span_fits (by_value [] c.args.a.now) c.span_of-span.result (c.span_of-span.ensures.span []) (c.span_of-span.ensures.normal [])

pub joined_second-requires-clause-second : goal.joined_second-requires-clause-second
joined_second-requires-clause-second c = span_fits (by_value [] c.args.b.now) c.span_of-other.result (c.span_of-other.ensures.span []) (c.span_of-other.ensures.normal [])

pub reshaped-requires-2-clause-stands : goal.reshaped-requires-2-clause-stands
reshaped-requires-2-clause-stands c = λ values.
    let made = made_so (by_value values c.args.a.now) (by_value values c.args.b.now) c.span_of-span.result c.span_of-other.result
    (c.span_of-span.ensures.span values) (c.span_of-other.ensures.span values) (c.span_of-span.ensures.normal values) (c.span_of-other.ensures.normal values)
    (c.requires values) (sym (c.clash.ensures values) ∙ c.if-clash.false) in
    subst (λ s. MayStandIn s (by_value values c.args.b.now)) (sym c.joined_second.ensures) made.second_stands

pub reshaped-requires-2-clause-small : goal.reshaped-requires-2-clause-small
reshaped-requires-2-clause-small c =
    let made = made_so (by_value [] c.args.a.now) (by_value [] c.args.b.now) c.span_of-span.result c.span_of-other.result
    (c.span_of-span.ensures.span []) (c.span_of-other.ensures.span []) (c.span_of-span.ensures.normal []) (c.span_of-other.ensures.normal [])
    (c.requires []) (sym (c.clash.ensures []) ∙ c.if-clash.false) in
    subst (λ s. old_size s ≤ 2 ^ 62) (sym c.joined_second.ensures) made.second_small

pub returns-in_err-second-clause-refused : goal.returns-in_err-second-clause-refused
returns-in_err-second-clause-refused c =
    let p = err_from_is_err_and c.from_residual-in_err-second.result c.from_residual-in_err-second.ensures.1 in
    rw (p.1, p.2) (λ values. sym (c.clash.ensures values) ∙ c.if-clash.false)

pub returns-clause-joined : goal.returns-clause-joined
returns-clause-joined c = λ values.
    let made = made_so (by_value values c.args.a.now) (by_value values c.args.b.now) c.span_of-span.result c.span_of-other.result
    (c.span_of-span.ensures.span values) (c.span_of-other.ensures.span values) (c.span_of-span.ensures.normal values) (c.span_of-other.ensures.normal values)
    (c.requires values) (sym (c.clash.ensures values) ∙ c.if-clash.false) in
    both_is (by_value values c.in_ok-first.first) (by_value values c.in_ok-second.second) (join (by_value values c.args.a.now) (by_value values c.args.b.now))
    (c.in_ok-first.ensures.made values ∙ ap (λ s. between s (by_value values c.args.a.now)) c.joined_first.ensures ∙ sym made.first_is)
    (c.in_ok-second.ensures.made values ∙ ap (λ s. between s (by_value values c.args.b.now)) c.joined_second.ensures ∙ sym made.second_is)

pub returns-clause-apart : goal.returns-clause-apart
returns-clause-apart c = λ values. sym (c.clash.ensures values) ∙ c.if-clash.false
