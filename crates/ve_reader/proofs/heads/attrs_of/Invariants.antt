use Rattle.ve_reader.proofs.AttrLemmas.{LeftOf}
use Rattle.ve_reader.proofs.heads.attrs_of.Given as goal

abbrev pub invariant-loop-token : goal.invariant-loop-token
invariant-loop-token l =
    (goal.iterator-loop-token).can_next l.token-iterator
    × (goal.iterator-loop-token).is_finite l.token-iterator
    × LeftOf l.fn.tokens l.token-iterator l.attrs
