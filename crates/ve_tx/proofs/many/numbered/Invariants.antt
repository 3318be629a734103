use Rattle.std.specs.BTreeMap.{get_by_text}
use Rattle.ve_tx.specs.Order.{counted}
use Rattle.ve_tx.specs.Many.{IsIndexed}
use Rattle.ve_tx.proofs.many.numbered.Given as goal

abbrev pub invariant-loop-i : goal.invariant-loop-i
invariant-loop-i l = IsIndexed l.attrs (get_by_text l.numbers) (counted 0 l.i)
