use Rattle.std.proofs.Common.{sym, ap, ◌∙◌}
use Rattle.model_page.specs.ReferenceNodes.{auto_count}
use Rattle.ve_reader.specs.declared.owners.OwnedBody.{OwnedBody}
use Rattle.ve_reader.specs.Owned.{owner_in, owners_in, count_next}
use Rattle.ve_reader.proofs.OwnerLemmas.{owner_added, count_added}
use Rattle.ve_reader.proofs.owners.Owners.push.Goals as goal

pub returns-clause-ok : goal.returns-clause-ok
returns-clause-ok c =
    let body : OwnedBody = record { at = c.args.at; html = c.args.html } in
    ap owners_in c.in_ok-insert.ensures.entries ∙ owner_added c.self.inside.bodies c.args.self.now c.args.key body c.self.view_is c.requires

pub invariant_of-self-2 : goal.invariant_of-self-2
invariant_of-self-2 c =
    let body : OwnedBody = record { at = c.args.at; html = c.args.html } in
    let added = ap owners_in c.in_ok-insert.ensures.entries ∙ owner_added c.self.inside.bodies c.args.self.now c.args.key body c.self.view_is c.requires in
    c.in_ok-unnamed.ensures
    ∙ ap (λ n. count_next n c.args.key) (c.self.invariant ∙ ap auto_count c.self.view_is)
    ∙ sym (count_added c.args.self.now (owner_in (c.args.key, body)))
    ∙ ap auto_count (sym added)
