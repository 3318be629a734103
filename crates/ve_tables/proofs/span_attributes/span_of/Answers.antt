use Rattle.std.proofs.Common.{◌≡◌, ◌≤◌, List, ℕ, Some, sym, ap, ◌∙◌, subst}
use Rattle.std.specs.Str.{chars}
use Rattle.model_edit.specs.Grid.{span_in}
use Rattle.ve_tables.proofs.SpanLemmas.{value_here, value_later, span_least_in, span_most_in}
use Rattle.ve_tables.proofs.span_attributes.span_of.Goals as goal

pub returns-then-is-clause-means : goal.returns-then-is-clause-means
returns-then-is-clause-means c =
    c.spelled_span.ensures ∙ ap (λ (t : List ℕ). span_in c.args.most (Some t)) c.as_str.ensures.chars
    ∙ ap (span_in c.args.most)
    (sym (value_here (chars c.args.name.now) c.args.attrs.now c.loop-attr.attr-index c.attr-item.result c.is.result c.loop-attr-test.true c.attr-item.is c.is.ensures c.if-is.true)
    ∙ c.loop-attr.invariant)

pub loop-attr-preserved : goal.loop-attr-preserved
loop-attr-preserved c =
    sym (value_later (chars c.args.name.now) c.args.attrs.now c.loop-attr.attr-index c.attr-item.result c.is.result c.loop-attr-test.true c.attr-item.is c.is.ensures c.if-is.false)
    ∙ c.loop-attr.invariant

pub returns-then-is-clause-least : goal.returns-then-is-clause-least
returns-then-is-clause-least c = subst (λ n. 1 ≤ n) (sym c.spelled_span.ensures) (span_least_in c.args.most (Some (chars c.as_str.result.now)))

pub returns-then-is-clause-most : goal.returns-then-is-clause-most
returns-then-is-clause-most c = subst (λ n. n ≤ c.args.most) (sym c.spelled_span.ensures) (span_most_in c.args.most (Some (chars c.as_str.result.now)) c.requires.some)
