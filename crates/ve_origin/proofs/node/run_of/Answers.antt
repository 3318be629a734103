use Rattle.std.proofs.Common.{refl, arith, inl, inr, sym, ap, ◌∙◌, ◌≡◌, ◌+◌}
use Rattle.std.specs.List.{slice_get}
use Rattle.ve_origin.proofs.node.run_of.Goals as goal

pub returns-then-equal-gt0 : goal.returns-then-equal-gt0
returns-then-equal-gt0 c = inl (
  c.if-equal-gt0.true,
  record {
    begins = refl;
    beside = refl;
    alike = record {
      here = omega (arith, c.requires.here, c.alike_after-equal.ensures.within);
      there = omega (arith, c.requires.there, c.alike_after-equal.ensures.within);
      same = c.alike_after-equal.ensures.same;
    };
    within = c.alike_after-equal.ensures.within;
    differ = c.alike_after-equal.ensures.differ;
  },
)

pub returns : goal.returns
returns c =
    let nothing : c.alike_after-equal.result ≡ 0 = omega (arith, c.if-equal-gt0.false) in
    let here : c.args.from ≡ c.args.from + c.alike_after-equal.result = omega (arith, nothing) in
    let there : c.args.place + c.alike_after-equal.result ≡ c.args.place = omega (arith, nothing) in
    inr (
      λ e. c.alike_after-equal.ensures.differ (omega (arith, nothing, c.requires.some))
          (ap (slice_get c.args.now.now.items) (sym here) ∙ e ∙ ap (slice_get c.args.first.now.items) (sym there)),
      record {
        begins = refl;
        beside = refl;
        alike = record {
          here = omega (arith, c.requires.some, c.requires.here, c.alike_after.ensures.within);
          there = omega (arith, c.requires.some, c.requires.there, c.alike_after.ensures.within);
          same = c.alike_after.ensures.same;
        };
        within = c.alike_after.ensures.within;
        differ = c.alike_after.ensures.differ;
      },
    )
