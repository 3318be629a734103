use Rattle.ve_gen.specs.Generated.{drawn}
use Rattle.ve_gen.proofs.DrawLemmas.{next_is}
use Rattle.std.proofs.Common.{refl}
use Rattle.ve_gen.proofs.edits.draw.Goals as goal

pub returns-clause-state : goal.returns-clause-state
returns-clause-state c = next_is _

pub returns-clause-drawn : goal.returns-clause-drawn
unfolding drawn
returns-clause-drawn c = refl
