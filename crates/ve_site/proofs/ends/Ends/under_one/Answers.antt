use Rattle.std.proofs.Common.{[], min, ap, ◌∙◌, arith}
use Rattle.ve_rebase.proofs.PairLemmas.{span_fits}
use Rattle.ve_tx.specs.Operation.{by_value}
use Rattle.ve_site.proofs.EndLemmas.{span_leaves}
use Rattle.ve_site.proofs.LeastLemmas.{span_ends}
use Rattle.ve_site.proofs.ends.Ends.under_one.Goals as goal

pub overflow_add-rest : goal.overflow_add-rest
overflow_add-rest c =
    let fits = span_fits (by_value [] c.args.tx.now) c.span_of-span.result (c.span_of-span.ensures.span []) (c.span_of-span.ensures.normal []) in
    let old = fits.old in
    omega (arith, old)

pub returns : goal.returns
returns c = record {
  least = λ values. span_ends (by_value values c.args.tx.now) c.span_of-span.result c.min-prefix.result c.min-suffix.result c.args.self
      (c.span_of-span.ensures.span values) c.min-prefix.ensures (c.min-suffix.ensures ∙ ap (min c.args.self.suffix) c.saturating_sub-behind.ensures);
  within = (omega (arith, c.min-prefix.ensures), omega (arith, c.min-suffix.ensures));
  left = λ values. span_leaves (by_value values c.args.tx.now) c.span_of-span.result (record { prefix = c.min-prefix.result; suffix = c.min-suffix.result }) c.args.self
      (c.span_of-span.ensures.normal values) (c.span_of-span.ensures.span values) c.min-prefix.ensures
      (c.min-suffix.ensures ∙ ap (min c.args.self.suffix) c.saturating_sub-behind.ensures);
}
