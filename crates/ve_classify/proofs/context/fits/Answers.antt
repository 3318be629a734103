use Rattle.model_page.specs.Fragment.{fits_content, fits_structural}
use Rattle.model_page.specs.Parts.{parts_of}
use Rattle.ve_classify.proofs.ContextLemmas.{of_all, branch_fits, white_fits, structural_fits}
use Rattle.ve_classify.proofs.context.fits.Goals as goal

pub returns-then-is_content_branch : goal.returns-then-is_content_branch
returns-then-is_content_branch c =
    branch_fits c.args.text.now c.args.forest.now c.args.kind c.is_content_branch.result c.fits_content.result c.is_content_branch.ensures c.if-is_content_branch.true
    (of_all c.args.text.now c.args.forest.now (λ f. fits_content (parts_of f)) c.fits_content.result c.fits_content.ensures)

pub returns-then-is_white : goal.returns-then-is_white
returns-then-is_white c =
    white_fits c.args.text.now c.args.forest.now c.args.kind c.is_content_branch.result c.is_flow.result c.is_white.result c.is_content_branch.ensures c.if-is_content_branch.false c.is_flow.ensures c.if-is_flow.false c.is_white.ensures c.if-is_white.true

pub returns : goal.returns
returns c =
    structural_fits c.args.text.now c.args.forest.now c.args.kind c.is_content_branch.result c.is_flow.result c.is_white.result c.fits_structural.result c.is_content_branch.ensures c.if-is_content_branch.false c.is_flow.ensures c.if-is_flow.false c.is_white.ensures c.if-is_white.false
    (of_all c.args.text.now c.args.forest.now (λ f. fits_structural c.args.kind (parts_of f)) c.fits_structural.result c.fits_structural.ensures)
