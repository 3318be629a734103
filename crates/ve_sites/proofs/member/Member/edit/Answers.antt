use Rattle.std.proofs.Common.{◌≡◌, ◌≤◌, ◌+◌, [], ◌∷◌, Ok, IfErr, OnOk, subst}
use Rattle.model_site.specs.Refused.{edit_cause}
use Rattle.model_site.specs.Site.{edit}
use Rattle.model_change.specs.Cost.{cost_of_transactions}
use Rattle.ve_editor.specs.Edited.{drafted}
use Rattle.ve_editor.specs.Refusal.{IsEditRefusal}
use Rattle.ve_sites.specs.Senders.{Sender}
use Rattle.ve_sites.proofs.member.Member.edit.Goals as goal

pub returns-clause-site : goal.returns-clause-site
returns-clause-site g c =
    subst (λ (x : Sender). OnOk c.edit.result (edit (drafted x.site.replica.store c.args.draft.now) x.site ≡ Ok c.edit.new.self.site)) c.self.view_is c.edit.ensures.site

pub returns-clause-refused : goal.returns-clause-refused
returns-clause-refused g c =
    subst (λ (x : Sender). IfErr c.edit.result (IsEditRefusal (edit_cause (drafted x.site.replica.store c.args.draft.now) x.site.replica))) c.self.view_is c.edit.ensures.refused

pub returns-clause-steps : goal.returns-clause-steps
returns-clause-steps g c =
    subst (λ (x : Sender). c.edit.new.steps ≤ c.args.steps.now + cost_of_transactions (drafted x.site.replica.store c.args.draft.now ∷ []) x.site.replica.items) c.self.view_is c.edit.ensures.steps
