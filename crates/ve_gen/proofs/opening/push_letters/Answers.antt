use Rattle.std.proofs.Common.{arith}
use Rattle.ve_gen.proofs.PageLemmas.{letters_all, letters_more}
use Rattle.ve_gen.proofs.opening.push_letters.Goals as goal

pub loop-letter-preserved : goal.loop-letter-preserved
loop-letter-preserved c =
    letters_more c.args.out.now c.loop-letter.out c.push_byte.new.self c.args.paragraph c.loop-letter.letter _ c.in_ok-push_byte.ensures.ok c.loop-letter.invariant (omega arith)

pub returns : goal.returns
returns c = letters_all c.args.out.now c.loop-letter.out c.args.paragraph c.loop-letter.letter c.loop-letter.invariant (omega arith)
