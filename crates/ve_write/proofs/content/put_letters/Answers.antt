use Rattle.std.proofs.Common.{◌+◌, arith}
use Rattle.ve_write.specs.Told.{known_of}
use Rattle.ve_write.proofs.ContentLemmas.{letter_in, letter_outer, letter_put}
use Rattle.ve_write.proofs.content.put_letters.Goals as goal

pub change_cited-requires-clause-marks : goal.change_cited-requires-clause-marks
change_cited-requires-clause-marks c =
    c.requires.cites (c.args.at + c.loop-count.count) _
    (letter_in c.args.page.list.now.items c.piece-piece.result.now c.args.at c.loop-count.count _ c.in-Char.ch c.in-Char.marks c.piece-piece.ensures.items (omega (arith, c.piece-piece.ensures.within, c.len-len.ensures))
    c.loop-count-test.true c.in-Char.is)

pub loop-count-preserved : goal.loop-count-preserved
loop-count-preserved c =
    let items = c.args.page.list.now.items in
    let at = c.args.at in
    let n = c.loop-count.count in
    let found = letter_in items c.piece-piece.result.now at n _ c.in-Char.ch c.in-Char.marks c.piece-piece.ensures.items (omega (arith, c.piece-piece.ensures.within, c.len-len.ensures)) c.loop-count-test.true c.in-Char.is in
    record {
      within = omega (arith, c.loop-count-test.true);
      cites = c.requires.cites (at + n) _ found;
      outer = letter_outer items at n c.in-Char.ch c.in-Char.marks found c.loop-count.invariant.outer;
      text = letter_put (known_of c.args.page) at n c.in-Char.ch c.args.opened c.loop-count.opened c.in-Char.marks c.args.out.now c.loop-count.out _ _ found c.loop-count.invariant.text
          c.in_ok-change_cited.ensures.text c.in_ok-put_letter.ensures.text;
      utf8 = λ u. c.in_ok-put_letter.ensures.utf8 (c.in_ok-change_cited.ensures.utf8 (c.loop-count.invariant.utf8 u));
    }
