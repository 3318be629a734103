use Rattle.std.proofs.Common.{sym, ◌∙◌}
use Rattle.ve_classify.proofs.LineLemmas.{kind_tells}
use Rattle.ve_classify.proofs.fits.stands_in_line.Goals as goal

pub returns-in-Some : goal.returns-in-Some
returns-in-Some c = c.is_inline_leaf.ensures ∙ sym (kind_tells c.args.name.now c.in-Some.kind (sym c.kind_of_tag.ensures ∙ c.in-Some.is))
