use Rattle.std.proofs.Common.{List, map, ap, ◌∙◌, sym, subst}
use Rattle.ve_tx.specs.Operation.{Operation, bare, IsNormal}
use Rattle.ve_tx.proofs.NormalLemmas.{bare-with_positions}
use Rattle.ve_tx.proofs.transaction.Transaction.ops.Goals as goal

pub returns-clause-ops : goal.returns-clause-ops
returns-clause-ops c =
    c.as_slice.ensures.value ∙ (sym (bare-with_positions c.self.inside.ops.items c.self.inside.kept.items) ∙ ap (map bare) c.self.view_is)

pub returns-clause-normal : goal.returns-clause-normal
returns-clause-normal c = let P : List Operation → Type 0 = IsNormal in subst P c.self.view_is c.self.invariant
