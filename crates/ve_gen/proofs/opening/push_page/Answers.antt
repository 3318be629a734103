use Rattle.std.proofs.Common.{arith}
use Rattle.ve_gen.proofs.PageLemmas.{paragraphs_all, paragraphs_more}
use Rattle.ve_gen.proofs.opening.push_page.Goals as goal

pub loop-number-preserved : goal.loop-number-preserved
loop-number-preserved c =
    paragraphs_more c.args.out.now c.loop-number.out c.push_paragraph.new.out c.loop-number.number c.in_ok-push_paragraph.ensures c.loop-number.invariant

pub returns : goal.returns
returns c = paragraphs_all c.args.out.now c.loop-number.out c.loop-number.number c.loop-number.invariant (omega arith)
