use Rattle.std.proofs.Common.{◌≡◌, length, sym, ◌∙◌, arith, refl, true, false, ◌&&◌}
use Rattle.model_page.specs.Fragment.{fits_content}
use Rattle.model_page.specs.Parts.{parts_of}
use Rattle.ve_classify.proofs.FitSteps.{range_first, range_more, range_ends}
use Rattle.ve_classify.specs.Context.{token_inline}
use Rattle.ve_classify.proofs.ContextLemmas.{content_steps}
use Rattle.ve_classify.proofs.context.fits_content.Goals as goal

pub returns-then-not-is_inline : goal.returns-then-not-is_inline
returns-then-not-is_inline c = λ f at more s e.
    sym (range_first c.args.forest.now 0 (length c.args.forest.now) c.nodes.n (λ x. fits_content (parts_of x)) token_inline (λ a b. a && b) content_steps c.node-node.result.now c.node-node.ensures
    false (omega (arith, c.nodes-test.true, c.len-to.ensures)) (λ t h. sym c.if-not-is_inline.true ∙ c.is_inline.ensures t h) more _ (c.nodes.invariant f at more s e))

pub nodes-preserved : goal.nodes-preserved
nodes-preserved c =
    range_more c.args.forest.now 0 (length c.args.forest.now) c.nodes.n (λ x. fits_content (parts_of x)) token_inline (λ a b. a && b) content_steps c.node-node.result.now c.node-node.ensures
    true (omega (arith, c.nodes-test.true, c.len-to.ensures)) (λ t h. sym c.if-not-is_inline.false ∙ c.is_inline.ensures t h) (λ y. refl) c.nodes.invariant

pub returns : goal.returns
returns c = range_ends c.args.forest.now 0 (length c.args.forest.now) c.nodes.n (λ x. fits_content (parts_of x)) true refl (omega (arith, c.nodes-test.false, c.len-to.ensures)) c.nodes.invariant
