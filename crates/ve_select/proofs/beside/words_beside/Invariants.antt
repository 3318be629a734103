use Rattle.unicode_segmentation.specs.Word.{word_bounds}
use Rattle.unicode_segmentation.specs.Iter.{word_bounds_left}
use Rattle.ve_select.specs.Passing.{IsPassing}
use Rattle.ve_select.proofs.beside.words_beside.Given as goal

abbrev pub invariant-loop-word : goal.invariant-loop-word
invariant-loop-word l = IsPassing l.bound (word_bounds l.text) (word_bounds_left l.word-iterator) l.end l.below
