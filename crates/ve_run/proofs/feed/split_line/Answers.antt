use Rattle.std.proofs.Common.{◌≢◌, ◌+◌, ◌<◌, ◌∷◌, [], ℕ, List, length, take, get_or, sym, subst}
use Rattle.std.proofs.lemmas.List.{take_more}
use Rattle.model_script.specs.Lines.{IsLine}
use Rattle.model_script.proofs.Cuts.{IsLine-append}
use Rattle.ve_run.proofs.feed.split_line.Goals as goal

one_more : (piece : List ℕ) (i : ℕ) → i < length piece → IsLine (take i piece) → get_or piece i 0 ≢ 10 → IsLine (take (i + 1) piece)
one_more piece i l h other = subst IsLine (sym (take_more piece i 0 l)) (IsLine-append (take i piece) (get_or piece i 0 ∷ []) h (other, tt))

pub loop-at-preserved : goal.loop-at-preserved
loop-at-preserved c = one_more c.args.piece.now c.loop-at.at c.loop-at-test.true c.loop-at.invariant c.if-byte-eq-NEWLINE.false
