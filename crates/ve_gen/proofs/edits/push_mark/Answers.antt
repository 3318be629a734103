use Rattle.ve_gen.proofs.JoinLemmas.{on_ok, five}
use Rattle.ve_gen.proofs.edits.push_mark.Goals as goal

pub returns : goal.returns
returns c = on_ok _ (five _ _ _ _ _ _ _ _ _ _ _ c.in_ok-push.ensures.ok c.in_ok-push_decimal.ensures c.in_ok-push-2.ensures.ok c.in_ok-push_decimal-2.ensures) c.push-3.ensures.ok
