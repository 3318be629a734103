use Rattle.std.proofs.Common.{◌≤◌, ◌+◌, ◌-◌, length, sym, ap, ◌∙◌, subst}
use Rattle.model_site.specs.Session.{site_after, taken_as}
use Rattle.model_site.specs.Site.{pending}
use Rattle.model_site.specs.declared.taken.Taken.TheVariants as taken
use Rattle.ve_server.specs.Fed.{feed_of}
use Rattle.ve_server.specs.declared.feed.Feed.{Feed}
use Rattle.ve_site.specs.Numbered.{with_site}
use Rattle.ve_site.specs.Taking.{MayTake, steps_of_take}
use Rattle.ve_site.proofs.site.Site.take.Goals as goal

pub take_foreign-requires : goal.take_foreign-requires
take_foreign-requires g c = record { run = subst (λ (f : Feed). MayTake (feed_of f) c.args.self.now.site) c.in-Foreign.is c.requires.may }

pub returns-in_ok-left-in-Foreign-clause-site : goal.returns-in_ok-left-in-Foreign-clause-site
returns-in_ok-left-in-Foreign-clause-site g c =
    c.in_ok-left-in-Foreign.ensures.site ∙ ap (λ (f : Feed). with_site (site_after (feed_of f) c.args.self.now.site) c.args.self.now) (sym c.in-Foreign.is)

pub returns-in_ok-left-in-Foreign-clause-taken : goal.returns-in_ok-left-in-Foreign-clause-taken
returns-in_ok-left-in-Foreign-clause-taken g c =
    let dropped = c.saturating_sub.ensures
    ∙ (ap (λ n. n - c.in_ok-left-in-Foreign.left) c.in_ok-pending-in-Foreign.ensures ∙ ap (λ n. length (pending c.args.self.now.site) - n) c.in_ok-left-in-Foreign.ensures.left) in
    ap (λ n. taken.Foreign n c.saturating_sub.result) c.len.ensures
    ∙ (ap (λ n. taken.Foreign (length c.in-Foreign.entries.entries) n) dropped
    ∙ ap (λ (f : Feed). taken_as (feed_of f) c.args.self.now.site c.take_foreign.new.self.site) (sym c.in-Foreign.is))

pub returns-in_ok-left-in-Foreign-clause-steps : goal.returns-in_ok-left-in-Foreign-clause-steps
returns-in_ok-left-in-Foreign-clause-steps g c =
    subst (λ (f : Feed). c.take_foreign.new.steps ≤ c.args.steps.now + steps_of_take (feed_of f) c.args.self.now.site) (sym c.in-Foreign.is) c.take_foreign.ensures.steps

pub returns-in_err-left-in-Foreign-clause-steps : goal.returns-in_err-left-in-Foreign-clause-steps
returns-in_err-left-in-Foreign-clause-steps g c =
    subst (λ (f : Feed). c.take_foreign.new.steps ≤ c.args.steps.now + steps_of_take (feed_of f) c.args.self.now.site) (sym c.in-Foreign.is) c.take_foreign.ensures.steps

pub returns-in_ok-acknowledge-in-Ack-clause-site : goal.returns-in_ok-acknowledge-in-Ack-clause-site
returns-in_ok-acknowledge-in-Ack-clause-site g c =
    c.in_ok-acknowledge-in-Ack.ensures.site ∙ ap (λ (f : Feed). with_site (site_after (feed_of f) c.args.self.now.site) c.args.self.now) (sym c.in-Ack.is)

pub returns-in_ok-acknowledge-in-Ack-clause-taken : goal.returns-in_ok-acknowledge-in-Ack-clause-taken
returns-in_ok-acknowledge-in-Ack-clause-taken g c = ap (λ (f : Feed). taken_as (feed_of f) c.args.self.now.site c.acknowledge.new.self.site) (sym c.in-Ack.is)
