use Rattle.ve_words.proofs.RangeLemmas.{numbers_in_range}
use Rattle.ve_words.proofs.laws.numbers_are_in_range.Goals as goal

pub returns : goal.returns
returns c = numbers_in_range
