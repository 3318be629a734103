use Rattle.std.proofs.Common.{sym, ◌∙◌}
use Rattle.std.proofs.lemmas.Bool.Decides.{same_from_decides}
use Rattle.model_items.specs.Same.{ref_key_same}
use Rattle.ve_internal.specs.Keys.{ref_key_same-Decides}
use Rattle.ve_reader.proofs.key.OwnedKeyPartialEq.eq.Goals as goal

pub returns : goal.returns
returns c =
    same_from_decides c.same.result (ref_key_same c.args.self.now c.args.other.now)
    (λ found. sym c.self.view_is ∙ c.same.ensures.0 found ∙ c.other.view_is, λ equal. c.same.ensures.1 (c.self.view_is ∙ equal ∙ sym c.other.view_is))
    (ref_key_same-Decides c.args.self.now c.args.other.now)
