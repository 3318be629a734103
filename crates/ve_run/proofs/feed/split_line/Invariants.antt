use Rattle.std.proofs.Common.{take}
use Rattle.model_script.specs.Lines.{IsLine}
use Rattle.ve_run.proofs.feed.split_line.Given as goal

abbrev pub invariant-loop-at : goal.invariant-loop-at
invariant-loop-at l = IsLine (take l.at l.piece)
