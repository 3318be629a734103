use Rattle.ve_words.proofs.ReadLemmas.{number_read, number_refused}
use Rattle.ve_words.proofs.read.number_up_to.Goals as goal

pub returns-in_default-clause-number : goal.returns-in_default-clause-number
returns-in_default-clause-number c = number_refused c.args.most c.args.text.now (λ is. c.in_default.ensures.value.0 (is.0, is.1))

pub returns-then-number-most-clause-number : goal.returns-then-number-most-clause-number
returns-then-number-most-clause-number c = number_read c.args.most c.args.text.now c.in-Ok.number c.in-Ok.ensures.value.0 c.if-number-most.true
