use Rattle.std.proofs.Common.{subst}
use Rattle.ve_classify.specs.Fits.{IsFit}
use Rattle.ve_classify.specs.declared.around.Around.TheVariants as around
use Rattle.ve_classify.specs.declared.around.Fit.TheVariants as fits
use Rattle.ve_read.proofs.LeafLemmas.{on_ok_map, whole_read, whole_stops}
use Rattle.ve_read.proofs.content_leaves.push_whole.Goals as goal

pub push_generated-requires-clause-fit : goal.push_generated-requires-clause-fit
push_generated-requires-clause-fit c = subst (λ k. IsFit c.args.forest.now c.args.n around.Content (fits.Whole k)) c.in-TransInline.is c.requires.fit

pub returns-in_default-clause-ok : goal.returns-in_default-clause-ok
returns-in_default-clause-ok c =
    on_ok_map c.push_whole_leaf.result
    (whole_read c.args.text.now c.args.forest.now c.args.n c.args.part.end c.args.part.byte c.args.kind c.args.reader.now c.requires.fit c.push_whole_leaf.new.reader c.in_default.not-TransInline)
    c.push_whole_leaf.ensures.ok

pub returns-in_default-clause-limit : goal.returns-in_default-clause-limit
returns-in_default-clause-limit c =
    whole_stops c.args.text.now c.args.forest.now c.args.n c.args.part.end c.args.part.byte c.args.kind c.args.reader.now c.requires.fit c.push_whole_leaf.result c.in_default.not-TransInline
    c.push_whole_leaf.ensures.limit
