use Rattle.std.specs.Prelude.{vec_len}
use Rattle.std.proofs.Common.{rules, arith, length, ◌≡◌, ◌≤◌, ◌+◌, List, sym, ap, ◌∙◌, subst}
use Rattle.model_site.specs.Session.{SiteFeed}
use Rattle.model_site.specs.Site.{Site}
use Rattle.ve_server.specs.Fed.{feed_of}
use Rattle.ve_site.specs.Taking.{steps_of_take}
use Rattle.ve_sites.specs.Senders.{Sender}
use Rattle.ve_sites.specs.Shared.{site_at}
use Rattle.ve_sites.specs.Turns.{steps_of_next}
use Rattle.ve_sites.proofs.PlacedLemmas.{Placed, one_place, room, site_now}
use Rattle.ve_sites.proofs.TurnLemmas.{busy_site, idle_site, may_take, next_taken, taken_stays, taken_tells, within_queues}
use Rattle.ve_sites.proofs.sites.Sites.take.Goals as goal

pub index-requires : goal.index-requires
index-requires g c =
    let s = c.self.inside in
    let long : vec_len s.members ≡ length s.members.items = search rules in
    let below = room c.args.self.now s.values s.first.items s.server s.members.items c.args.k c.self.invariant c.self.view_is c.requires.site in
    omega (arith, long, below)

pub index_mut-requires : goal.index_mut-requires
index_mut-requires g c =
    let s = c.self.inside in
    let long : vec_len s.members ≡ length s.members.items = search rules in
    let below = room c.args.self.now s.values s.first.items s.server s.members.items c.args.k c.self.invariant c.self.view_is c.requires.site in
    omega (arith, long, below)

pub next_feed-requires : goal.next_feed-requires
next_feed-requires g c =
    let s = c.self.inside in
    let v = s.values in
    let f = s.first.items in
    let v2 = s.server in
    let ms = s.members.items in
    let inside = room c.args.self.now v f v2 ms c.args.k c.self.invariant c.self.view_is c.requires.site in
    within_queues c.args.self.now v f v2 ms c.self.invariant c.self.view_is c.args.k c.index.result.now inside c.index.ensures c.number-number.result c.number-number.ensures

pub returns-in_default-clause-taken : goal.returns-in_default-clause-taken
returns-in_default-clause-taken g c =
    let s = c.self.inside in
    let v = s.values in
    let f = s.first.items in
    let v2 = s.server in
    let ms = s.members.items in
    let inside = room c.args.self.now v f v2 ms c.args.k c.self.invariant c.self.view_is c.requires.site in
    idle_site c.args.self.now v f v2 ms c.self.invariant c.self.view_is c.args.k c.index.result.now inside c.index.ensures c.number-number.result c.number-number.ensures c.in_default.ensures

pub take-requires : goal.take-requires
take-requires g c =
    let s = c.self.inside in
    let v = s.values in
    let f = s.first.items in
    let v2 = s.server in
    let ms = s.members.items in
    let inside = room c.args.self.now v f v2 ms c.args.k c.self.invariant c.self.view_is c.requires.site in
    let m = c.index_mut.result.now in
    let same : c.index.result.now ≡ m = one_place ms c.args.k c.index.result.now m inside c.index.ensures c.index_mut.ensures.value in
    let number = c.number-number.ensures ∙ ap (λ (x : Sender). x.number) same in
    record { may = may_take c.args.self.now v f v2 ms c.self.invariant c.self.view_is c.args.k m inside c.index_mut.ensures.value c.number-number.result number (feed_of c.in-Some.feed.now) c.in-Some.ensures }

pub returns-in_err-taken-clause-nothing : goal.returns-in_err-taken-clause-nothing
returns-in_err-taken-clause-nothing g c = λ none.
    let s = c.self.inside in
    let v = s.values in
    let f = s.first.items in
    let v2 = s.server in
    let ms = s.members.items in
    let inside = room c.args.self.now v f v2 ms c.args.k c.self.invariant c.self.view_is c.requires.site in
    absurd
    (busy_site c.args.self.now v f v2 ms c.self.invariant c.self.view_is c.args.k c.index.result.now inside c.index.ensures c.number-number.result c.number-number.ensures
    (feed_of c.in-Some.feed.now) c.in-Some.ensures none)

pub returns-in_err-taken-clause-steps : goal.returns-in_err-taken-clause-steps
returns-in_err-taken-clause-steps g c =
    let s = c.self.inside in
    let v = s.values in
    let f = s.first.items in
    let v2 = s.server in
    let ms = s.members.items in
    let inside = room c.args.self.now v f v2 ms c.args.k c.self.invariant c.self.view_is c.requires.site in
    let m = c.index_mut.result.now in
    let same : c.index.result.now ≡ m = one_place ms c.args.k c.index.result.now m inside c.index.ensures c.index_mut.ensures.value in
    let number = c.number-number.ensures ∙ ap (λ (x : Sender). x.number) same in
    let p : Placed c.args.self.now v f v2 ms c.args.k m = record { holds = c.self.invariant; view = c.self.view_is; inside = c.requires.site; is = c.index_mut.ensures.value } in
    let feeds = next_taken c.args.self.now v f v2 ms c.self.invariant c.self.view_is c.args.k m inside c.index_mut.ensures.value c.number-number.result number (feed_of c.in-Some.feed.now) c.in-Some.ensures in
    subst (λ (fs : List SiteFeed). c.take.new.steps ≤ c.args.steps.now + steps_of_next fs (site_at c.args.self.now c.args.k)) (sym feeds)
    (subst (λ (x : Site). c.take.new.steps ≤ c.args.steps.now + steps_of_take (feed_of c.in-Some.feed.now) x) (sym (site_now p)) c.take.ensures.steps)

pub returns-clause-steps : goal.returns-clause-steps
returns-clause-steps g c =
    let s = c.self.inside in
    let v = s.values in
    let f = s.first.items in
    let v2 = s.server in
    let ms = s.members.items in
    let inside = room c.args.self.now v f v2 ms c.args.k c.self.invariant c.self.view_is c.requires.site in
    let m = c.index_mut.result.now in
    let same : c.index.result.now ≡ m = one_place ms c.args.k c.index.result.now m inside c.index.ensures c.index_mut.ensures.value in
    let number = c.number-number.ensures ∙ ap (λ (x : Sender). x.number) same in
    let p : Placed c.args.self.now v f v2 ms c.args.k m = record { holds = c.self.invariant; view = c.self.view_is; inside = c.requires.site; is = c.index_mut.ensures.value } in
    let feeds = next_taken c.args.self.now v f v2 ms c.self.invariant c.self.view_is c.args.k m inside c.index_mut.ensures.value c.number-number.result number (feed_of c.in-Some.feed.now) c.in-Some.ensures in
    subst (λ (fs : List SiteFeed). c.take.new.steps ≤ c.args.steps.now + steps_of_next fs (site_at c.args.self.now c.args.k)) (sym feeds)
    (subst (λ (x : Site). c.take.new.steps ≤ c.args.steps.now + steps_of_take (feed_of c.in-Some.feed.now) x) (sym (site_now p)) c.take.ensures.steps)

pub invariant_of-self-2 : goal.invariant_of-self-2
invariant_of-self-2 g c =
    let s = c.self.inside in
    let v = s.values in
    let f = s.first.items in
    let v2 = s.server in
    let ms = s.members.items in
    let inside = room c.args.self.now v f v2 ms c.args.k c.self.invariant c.self.view_is c.requires.site in
    let m = c.index_mut.result.now in
    let same : c.index.result.now ≡ m = one_place ms c.args.k c.index.result.now m inside c.index.ensures c.index_mut.ensures.value in
    let number = c.number-number.ensures ∙ ap (λ (x : Sender). x.number) same in
    taken_stays c.args.self.now v f v2 ms c.self.invariant c.self.view_is c.args.k m inside c.index_mut.ensures.value c.number-number.result number (feed_of c.in-Some.feed.now) c.in-Some.ensures c.feed-gone.new.self c.take.new.self (ap (λ r. r.1) c.feed-gone.ensures) c.in_ok-taken.ensures.site

pub returns-clause-taken : goal.returns-clause-taken
returns-clause-taken g c =
    let s = c.self.inside in
    let v = s.values in
    let f = s.first.items in
    let v2 = s.server in
    let ms = s.members.items in
    let inside = room c.args.self.now v f v2 ms c.args.k c.self.invariant c.self.view_is c.requires.site in
    let m = c.index_mut.result.now in
    let same : c.index.result.now ≡ m = one_place ms c.args.k c.index.result.now m inside c.index.ensures c.index_mut.ensures.value in
    let number = c.number-number.ensures ∙ ap (λ (x : Sender). x.number) same in
    taken_tells c.args.self.now v f v2 ms c.self.invariant c.self.view_is c.args.k m inside c.index_mut.ensures.value c.number-number.result number (feed_of c.in-Some.feed.now) c.in-Some.ensures c.feed-gone.new.self c.take.new.self (ap (λ r. r.1) c.feed-gone.ensures) c.in_ok-taken.ensures.site c.in_ok-taken.taken c.in_ok-taken.ensures.taken
