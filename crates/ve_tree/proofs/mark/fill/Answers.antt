use Rattle.std.proofs.Common.{subst}
use Rattle.ve_tree.specs.Landmarks.{HasOneMore}
use Rattle.ve_tree.proofs.LandmarkLemmas.{root_landmark}
use Rattle.ve_tree.proofs.mark.fill.Goals as goal

pub thicken-requires-clause-are : goal.thicken-requires-clause-are
thicken-requires-clause-are c =
    root_landmark c.args.arena.now.slots c.args.root c.insert.new.self (subst (λ row. HasOneMore row c.insert.new.self 0 c.args.root 0) c.requires.none c.in-Ok.ensures.ok)
