use Rattle.std.proofs.Common.{sym, ◌∙◌}
use Rattle.ve_reader.proofs.OwnerLemmas.{taken, not_claimed, is_claimed, claim_free}
use Rattle.ve_reader.proofs.owners.Owners.claim.Goals as goal

pub returns-then-is_barred-clause-claim : goal.returns-then-is_barred-clause-claim
returns-then-is_barred-clause-claim c =
    not_claimed c.args.self.now c.args.reading c.key_for.result c.is_some.result c.contains_key-taken.result c.key_for.ensures c.is_some.ensures
    (c.contains_key-taken.ensures ∙ taken c.self.inside.bodies c.args.self.now c.key_for.result c.self.view_is)
    (sym c.is_barred.ensures ∙ c.if-is_barred.true)

pub returns-clause-claim : goal.returns-clause-claim
returns-clause-claim c =
    is_claimed c.args.self.now c.args.reading c.key_for.result c.is_some.result c.contains_key-taken.result c.key_for.ensures c.is_some.ensures
    (c.contains_key-taken.ensures ∙ taken c.self.inside.bodies c.args.self.now c.key_for.result c.self.view_is)
    (sym c.is_barred.ensures ∙ c.if-is_barred.false)

pub returns-clause-free : goal.returns-clause-free
returns-clause-free c =
    claim_free c.args.reading.html c.args.self.now c.key_for.result c.is_some.result c.contains_key-taken.result c.is_some.ensures
    (c.contains_key-taken.ensures ∙ taken c.self.inside.bodies c.args.self.now c.key_for.result c.self.view_is)
    (sym c.is_barred.ensures ∙ c.if-is_barred.false)
