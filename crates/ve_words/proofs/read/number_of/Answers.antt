use Rattle.std.proofs.Common.{◌∙◌, ap}
use Rattle.std.specs.Prelude.{option_and_then}
use Rattle.clap.specs.Words.{found_of}
use Rattle.clap.proofs.WalkLemmas.{first_value-rows}
use Rattle.ve_words.specs.Words.{number_up_to}
use Rattle.ve_words.proofs.read.number_of.Goals as goal

pub returns-in-Some-clause-number : goal.returns-in-Some-clause-number
returns-in-Some-clause-number c = c.number_up_to.ensures.number
    ∙ ap (option_and_then (number_up_to c.args.most)) (c.in-Some.ensures ∙ first_value-rows (found_of c.args.matches.now) c.args.id.now)

pub returns-in-None-clause-number : goal.returns-in-None-clause-number
returns-in-None-clause-number c = ap (option_and_then (number_up_to c.args.most)) (c.in-None.ensures ∙ first_value-rows (found_of c.args.matches.now) c.args.id.now)
