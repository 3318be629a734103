use Rattle.std.proofs.Common.{◌++◌, ◌∷◌, [], is_ok, IsOk, if◌then◌else◌, sym, ap, ◌∙◌, subst}
use Rattle.model_site.specs.Site.{send}
use Rattle.ve_site.specs.Refusal.{IsSendRefusal}
use Rattle.ve_site.proofs.RefusalLemmas.{refusal_is, not_memory, may_send, if_wanting}
use Rattle.ve_sites.specs.Senders.{Sender}
use Rattle.ve_sites.proofs.SentLemmas.{gone}
use Rattle.ve_sites.proofs.member.Member.send.Goals as goal

pub returns-in-Some-clause-refused : goal.returns-in-Some-clause-refused
returns-in-Some-clause-refused c =
    subst (λ (x : Sender). IsSendRefusal (send x.site) c.in-Some.fault) c.self.view_is
    (refusal_is (send c.self.inside.site.site) c.in-Some.fault (sym c.send_refusal.ensures ∙ c.in-Some.is))

pub returns-in-Some-clause-memory : goal.returns-in-Some-clause-memory
returns-in-Some-clause-memory c = λ want.
    subst (λ (x : Sender). IsOk (send x.site)) c.self.view_is
    (not_memory (send c.self.inside.site.site) c.in-Some.fault (sym c.send_refusal.ensures ∙ c.in-Some.is) want)

pub returns-then-is_err-clause-memory : goal.returns-then-is_err-clause-memory
returns-then-is_err-clause-memory c = λ _.
    subst (λ (x : Sender). IsOk (send x.site)) c.self.view_is
    (may_send (send c.self.inside.site.site) c.send_refusal.result c.send_refusal.ensures c.in_default.not-Some)

pub returns-in_err-submit-clause-memory : goal.returns-in_err-submit-clause-memory
returns-in_err-submit-clause-memory c =
    if_wanting c.from_residual.result (IsOk (send c.args.self.now.site))
    (subst (λ (x : Sender). IsOk (send x.site)) c.self.view_is
    (may_send (send c.self.inside.site.site) c.send_refusal.result c.send_refusal.ensures c.in_default.not-Some))

pub returns-clause-sent : goal.returns-clause-sent
returns-clause-sent c =
    let s = c.self.inside in
    let submit = c.in_ok-submit.submit in
    gone c.args.self.now s.site c.send.new.self s.submissions.items c.push_back.new.self.items submit c.len-count.result (is_ok c.push_back.result) c.self.view_is c.in_ok-submit.ensures.sent
    c.in_ok-submit.ensures.number
    (c.push_back.ensures.items ∙ ap (λ ss. if is_ok c.push_back.result then ss ++ submit ∷ [] else ss) c.reserve.ensures.items)
    (sym c.is_ok-pushed.ensures.value ∙ c.if-prove.false) c.len-count.ensures
