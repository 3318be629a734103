use Rattle.std.proofs.Common.{sym, ◌∙◌}
use Rattle.ve_base.proofs.attrs.AttrsSame.same.Goals as goal

pub returns : goal.returns
returns c = (
  λ same. sym c.as_slice.ensures.items ∙ c.are_same.ensures.0 same ∙ c.as_slice-2.ensures.items,
  λ equal. c.are_same.ensures.1 (c.as_slice.ensures.items ∙ equal ∙ sym c.as_slice-2.ensures.items),
)
