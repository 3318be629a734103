-- Lines by which the second of two sites undoes and redoes.
use Rattle.std.proofs.Common.{codes, inl, inr, refl}
use Rattle.std.specs.Fmt.{digits}
use Rattle.std.specs.Str.{is_utf8}
use Rattle.model_page.proofs.OnLiterals.{page_on_literals}
use Rattle.model_world_law.specs.Redone.{AsksTurn}

undoes : AsksTurn 1 (codes "{\"do\":\"undo\",\"site\":1}")
unfolding page_on_literals is_utf8 digits
undoes = inl refl

redoes : AsksTurn 1 (codes "{\"do\":\"redo\",\"site\":1}")
unfolding page_on_literals is_utf8 digits
redoes = inr refl
