use Rattle.ve_classify.proofs.ValueLemmas.{LeftOf}
use Rattle.ve_classify.proofs.values.spelled_value.Given as goal

abbrev pub invariant-loop-attr : goal.invariant-loop-attr
invariant-loop-attr l =
    (goal.iterator-loop-attr).can_next l.attr-iterator
    × (goal.iterator-loop-attr).is_finite l.attr-iterator
    × LeftOf l.fn.attrs l.attr-iterator l.name
