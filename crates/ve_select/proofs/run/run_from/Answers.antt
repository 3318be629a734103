use Rattle.std.proofs.Common.{◌≡◌, ◌+◌, ◌<◌, ◌≤◌, ◌++◌, length, drop, sym, ap, ◌∙◌, arith, rules}
use Rattle.std.proofs.lemmas.List.{append_assoc}
use Rattle.ve_select.specs.Runs.{first_chars, chars_from}
use Rattle.ve_select.proofs.RunLemmas.{run_on, run_ends, piece_first, first_chars-within}
use Rattle.ve_select.proofs.run.run_from.Goals as goal

pub returns-then-count-piece : goal.returns-then-count-piece
returns-then-count-piece c =
    let items = c.args.list.now.items in
    let piece = c.piece-piece.result.now in
    let at = c.loop-at.at in
    let count = c.in_ok-count.ensures.count in
    let few = c.if-count-piece.true in
    let short : length (first_chars piece) < length piece = omega arith in
    let ends : chars_from items at ≡ first_chars piece =
    ap first_chars (piece_first items piece at c.piece-piece.ensures.items) ∙ run_ends piece (drop (at + length piece) items) short in
    c.in_ok-count.ensures.pushed ∙ ap (λ v. c.loop-at.text ++ v) (sym ends) ∙ c.loop-at.invariant.read

pub overflow_add-at : goal.overflow_add-at
overflow_add-at c =
    let count = c.in_ok-count.ensures.count in
    let most = first_chars-within c.piece-piece.result.now in
    let within = c.piece-piece.ensures.within in
    let fits : c.loop-at.at + c.in_ok-count.count ≤ c.len-len.result = omega arith in
    search (rules, arith)

pub loop-at-preserved : goal.loop-at-preserved
loop-at-preserved c =
    let items = c.args.list.now.items in
    let piece = c.piece-piece.result.now in
    let at = c.loop-at.at in
    let count = c.in_ok-count.ensures.count in
    let most = first_chars-within piece in
    let many = c.if-count-piece.false in
    let within = c.piece-piece.ensures.within in
    let whole : length piece ≤ length (first_chars piece) = omega arith in
    let same : c.in_ok-count.count ≡ length piece = omega arith in
    let goes_on : chars_from items at ≡ first_chars piece ++ chars_from items (at + length piece) =
    ap first_chars (piece_first items piece at c.piece-piece.ensures.items) ∙ run_on piece (drop (at + length piece) items) whole in
    record {
      within = omega arith;
      all = c.len-len.ensures;
      read =
          ap (λ v. v ++ chars_from items (at + c.in_ok-count.count)) c.in_ok-count.ensures.pushed
          ∙ append_assoc c.loop-at.text (first_chars piece) (chars_from items (at + c.in_ok-count.count))
          ∙ ap (λ n. c.loop-at.text ++ (first_chars piece ++ chars_from items (at + n))) same
          ∙ ap (λ v. c.loop-at.text ++ v) (sym goes_on) ∙ c.loop-at.invariant.read;
    }
