use Rattle.std.proofs.Common.{◌∙◌, arith}
use Rattle.ve_gen.proofs.DecimalLemmas.{last_digit, only_digit}
use Rattle.ve_gen.proofs.edits.+push_decimal.Goals as goal
use Rattle.ve_gen.proofs.edits.+push_decimal.Goals.{then-number-ge10+in_ok-push_decimal, else-number-ge10}

pub returns : goal.returns
returns t c = elim c.if-number-ge10.branch [
  | then-number-ge10+in_ok-push_decimal w ↦
      last_digit c.push_byte.result c.args.out.now c.if-number-ge10.out c.push_byte.new.self c.args.number _ c.push_byte.ensures.ok (w.out-is ∙ w.in_ok-push_decimal.ensures) (omega arith) (omega arith) (omega arith)
  | else-number-ge10 w ↦ only_digit c.push_byte.result c.args.out.now c.if-number-ge10.out c.push_byte.new.self c.args.number _ c.push_byte.ensures.ok w.out-is (omega arith) (omega arith)
]
