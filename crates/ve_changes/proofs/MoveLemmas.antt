-- The model answers a move by performing the transaction that it is.
use Rattle.std.proofs.Common.{refl}
use Rattle.model_world.specs.declared.command.Request.TheVariants as request
use Rattle.ve_changes.specs.Moves.{MovesAreAsked}

pub moves_are_asked : MovesAreAsked
moves_are_asked a (request.RowIn at row) is = refl
moves_are_asked a (request.RowOut at row) is = refl
moves_are_asked a (request.ColIn at column) is = refl
moves_are_asked a (request.ColOut at column) is = refl
moves_are_asked a (request.Indent at) is = refl
moves_are_asked a (request.Outdent at) is = refl
moves_are_asked a _ is = cc
