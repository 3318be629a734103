use Rattle.std.proofs.Common.{◌+◌, ◌++◌, length, drop, sym, ap, ◌∙◌, arith}
use Rattle.ve_answers.specs.Words.{words_after}
use Rattle.ve_answers.proofs.WordLemmas.{piece_read}
use Rattle.ve_answers.proofs.words.push_list.Goals as goal

pub loop-at-preserved : goal.loop-at-preserved
loop-at-preserved c =
    let items = c.args.list.now.items in
    let piece = c.piece-piece.result.now in
    let at = c.loop-at.at in
    record {
      within = c.piece-piece.ensures.within;
      words = c.in_ok-count.ensures.words (drop (at + length piece) items)
          ∙ ap (λ l. c.loop-at.words ++ words_after c.loop-at.count l) (sym (piece_read items piece at c.piece-piece.ensures.items))
          ∙ c.loop-at.invariant.words;
      most = omega (arith, c.in_ok-count.ensures.most, c.loop-at.invariant.most);
    }
