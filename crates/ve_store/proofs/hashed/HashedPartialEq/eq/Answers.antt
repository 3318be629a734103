use Rattle.std.proofs.Common.{sym, ◌∙◌}
use Rattle.std.proofs.lemmas.Bool.Decides.{same_from_decides}
use Rattle.model_items.specs.Same.{value_same}
use Rattle.ve_store.specs.Laws.{value_same-Decides}
use Rattle.ve_store.proofs.hashed.HashedPartialEq.eq.Goals as goal

pub returns : goal.returns
returns c =
    same_from_decides c.same.result (value_same c.args.self.now c.args.other.now)
    (λ found. sym c.self.view_is ∙ c.same.ensures.0 found ∙ c.other.view_is, λ equal. c.same.ensures.1 (c.self.view_is ∙ equal ∙ sym c.other.view_is))
    (value_same-Decides c.args.self.now c.args.other.now)
