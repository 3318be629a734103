use Rattle.std.proofs.Common.{ap, refl}
use Rattle.ve_base.proofs.PartsLemmas.{equal_attr}
use Rattle.ve_base.proofs.attrs.AttrSame.same.Goals as goal

pub returns-then-same : goal.returns-then-same
returns-then-same c = (
  λ same. equal_attr c.args.self.now c.args.other.now (c.if-same.ensures.0 refl) (c.same-then-same.ensures.0 same),
  λ equal. c.same-then-same.ensures.1 (ap (λ attr. attr.value) equal),
)
