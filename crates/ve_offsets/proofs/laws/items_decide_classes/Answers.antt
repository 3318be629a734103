use Rattle.ve_offsets.proofs.ClassLemmas as law
use Rattle.ve_offsets.proofs.laws.items_decide_classes.Goals as goal

pub returns : goal.returns
returns c = law.item_decides_class
