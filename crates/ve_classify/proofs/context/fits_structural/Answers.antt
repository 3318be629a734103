use Rattle.std.proofs.Common.{◌≡◌, length, sym, ◌∙◌, arith, refl, true, false, ◌&&◌}
use Rattle.model_page.specs.Fragment.{fits_structural}
use Rattle.model_page.specs.Parts.{parts_of}
use Rattle.ve_classify.proofs.FitSteps.{range_first, range_more, range_ends}
use Rattle.ve_classify.specs.Context.{token_stands}
use Rattle.ve_classify.proofs.ContextLemmas.{structural_steps}
use Rattle.ve_classify.proofs.context.fits_structural.Goals as goal

pub returns-then-not-stands_in : goal.returns-then-not-stands_in
returns-then-not-stands_in c = λ f at more s e.
    sym (range_first c.args.forest.now 0 (length c.args.forest.now) c.nodes.n (λ x. fits_structural c.args.kind (parts_of x)) (token_stands c.args.kind) (λ a b. a && b) (structural_steps c.args.kind) c.node-node.result.now c.node-node.ensures
    false (omega (arith, c.nodes-test.true, c.len-to.ensures)) (λ t h. sym c.if-not-stands_in.true ∙ c.stands_in.ensures t h) more _ (c.nodes.invariant f at more s e))

pub nodes-preserved : goal.nodes-preserved
nodes-preserved c =
    range_more c.args.forest.now 0 (length c.args.forest.now) c.nodes.n (λ x. fits_structural c.args.kind (parts_of x)) (token_stands c.args.kind) (λ a b. a && b) (structural_steps c.args.kind) c.node-node.result.now c.node-node.ensures
    true (omega (arith, c.nodes-test.true, c.len-to.ensures)) (λ t h. sym c.if-not-stands_in.false ∙ c.stands_in.ensures t h) (λ y. refl) c.nodes.invariant

pub returns : goal.returns
returns c = range_ends c.args.forest.now 0 (length c.args.forest.now) c.nodes.n (λ x. fits_structural c.args.kind (parts_of x)) true refl (omega (arith, c.nodes-test.false, c.len-to.ensures)) c.nodes.invariant
