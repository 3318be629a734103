use Rattle.std.proofs.Common.{arith}
use Rattle.ve_tree.proofs.CloseLemmas.{ends_found}
use Rattle.ve_tree.proofs.landmarks.ends_before.Goals as goal

pub returns : goal.returns
returns c = ends_found c.args.lens.now.lens c.args.place c.find-k.result.0 c.find-k.result.1 (omega (arith, c.if-place-eq0.false)) c.find-k.ensures
