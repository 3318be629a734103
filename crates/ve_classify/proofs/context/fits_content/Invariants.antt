use Rattle.std.proofs.Common.{◌-◌, length}
use Rattle.model_page.specs.Fragment.{fits_content}
use Rattle.model_page.specs.Parts.{parts_of}
use Rattle.ve_classify.proofs.FitSteps.{RangeOf}
use Rattle.ve_classify.proofs.context.fits_content.Given as goal

abbrev pub invariant-nodes : goal.invariant-nodes
invariant-nodes l = RangeOf l.forest 0 (length l.forest) l.n (λ f. fits_content (parts_of f))

abbrev pub decreases-nodes : goal.decreases-nodes
decreases-nodes l = length l.forest - l.n
