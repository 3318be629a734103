use Rattle.ve_reader.proofs.EvenLemmas.{pieces_are_even, insides_are_even}
use Rattle.ve_reader.proofs.laws.pieces_are_even.Goals as goal

pub returns-clause-parts : goal.returns-clause-parts
returns-clause-parts c = pieces_are_even

pub returns-clause-insides : goal.returns-clause-insides
returns-clause-insides c = insides_are_even
