use Rattle.ve_kinds.proofs.LawLemmas.{one_class}
use Rattle.ve_kinds.proofs.laws.kinds_have_one_class.Goals as goal

pub returns : goal.returns
returns c = one_class
