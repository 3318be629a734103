use Rattle.std.proofs.Common.{◌≡◌, ◌≤◌, ◌<◌, ◌+◌, ◌++◌, ◌∷◌, [], length, ap, sym, subst, ◌∙◌}
use Rattle.std.specs.Prelude.{Ok, IsUtf8, OnOk}
use Rattle.model_world.specs.declared.command.Command.TheVariants.{Ask}
use Rattle.model_world.specs.declared.command.Request.{Request}
use Rattle.model_world.specs.declared.reply.Reply.{Reply}
use Rattle.model_world.specs.Spelled.{reply_text}
use Rattle.model_world.specs.Cost.{cost_of_command}
use Rattle.ve_session.specs.Asked.{completed_request, cost_completed, is_shown, reply_and_world, IsAnswered}
use Rattle.ve_session.specs.Opened.{lent_of, world_on, OnPage}
use Rattle.ve_session.specs.Turning.{MayTurn}
use Rattle.ve_session.proofs.CompletedLemmas.{acts_same}
use Rattle.ve_session.proofs.PageLemmas.{after_open, after_world, always, cost_within, may_turn, replied}
use Rattle.ve_sites.specs.Shared.{member_at, site_at}
use Rattle.ve_session.proofs.page.OpenPage.act.Goals as goal

pub turn-requires-clause-acts : goal.turn-requires-clause-acts
turn-requires-clause-acts g c = ap is_shown c.in_ok-request.ensures ∙ (acts_same c.args.self.now.page.items c.args.request ∙ c.requires.acts)

pub turn-requires-clause-may : goal.turn-requires-clause-may
turn-requires-clause-may g c =
    let i = c.self.inside in
    let r = c.args.request in
    let within = subst (λ (q : OnPage). c.args.k < length q.session.members) (sym c.self.view_is) c.requires.site in
    let done = c.in_ok-request.ensures ∙ ap (λ (q : OnPage). completed_request q.page.items r) (sym c.self.view_is) in
    subst (λ (x : Request). MayTurn x (site_at i.session c.args.k).replica) (sym done)
    (may_turn (lent_of i.text i.body i.rows i.session.first i.first_refs) i.session c.args.k within c.self.invariant c.every_site_holds.ensures
    c.layers_fit.ensures.lines c.layers_fit.ensures.completed c.insertions_stand.ensures.pages c.every_world_is_reached.ensures (subst IsUtf8 c.as_str-text.ensures.bytes c.as_str-text.utf8) r c.requires.asked)

pub invariant_of-self-2 : goal.invariant_of-self-2
invariant_of-self-2 g c =
    let i = c.self.inside in
    let r = c.args.request in
    let within = subst (λ (q : OnPage). c.args.k < length q.session.members) (sym c.self.view_is) c.requires.site in
    let done = c.in_ok-request.ensures ∙ ap (λ (q : OnPage). completed_request q.page.items r) (sym c.self.view_is) in
    let by = subst (λ (x : Request). IsAnswered x c.args.k i.session c.in_ok-answer.answer c.turn.new.session) done c.in_ok-answer.ensures.answer in
    after_open i.text i.body i.rows i.first_refs i.session c.args.k within c.self.invariant r c.requires.asked c.turn.new.session c.in_ok-answer.answer by

pub returns-clause-reply : goal.returns-clause-reply
returns-clause-reply g c =
    let i = c.self.inside in
    let r = c.args.request in
    let k = c.args.k in
    let within = subst (λ (q : OnPage). k < length q.session.members) (sym c.self.view_is) c.requires.site in
    let done = c.in_ok-request.ensures ∙ ap (λ (q : OnPage). completed_request q.page.items r) (sym c.self.view_is) in
    let by = subst (λ (x : Request). IsAnswered x k i.session c.in_ok-answer.answer c.turn.new.session) done c.in_ok-answer.ensures.answer in
    let told = sym (replied i.text i.body i.rows i.first_refs i.session k within c.self.invariant r c.turn.new.session c.in_ok-answer.answer by)
    ∙ ap (λ (q : OnPage). (reply_and_world (world_on q) (Ask r k)).0) c.self.view_is in
    subst (λ (x : Reply). OnOk c.reply_text.result (c.reply_text.new.out ≡ c.args.out.now ++ (reply_text x ++ 10 ∷ []))) told c.reply_text.ensures.ok

pub returns-clause-world : goal.returns-clause-world
returns-clause-world g c =
    let i = c.self.inside in
    let r = c.args.request in
    let k = c.args.k in
    let within = subst (λ (q : OnPage). k < length q.session.members) (sym c.self.view_is) c.requires.site in
    let done = c.in_ok-request.ensures ∙ ap (λ (q : OnPage). completed_request q.page.items r) (sym c.self.view_is) in
    let by = subst (λ (x : Request). IsAnswered x k i.session c.in_ok-answer.answer c.turn.new.session) done c.in_ok-answer.ensures.answer in
    always _ c.reply_text.result
    (after_world i.text i.body i.rows i.first_refs i.session k within c.self.invariant r c.requires.asked c.turn.new.session c.in_ok-answer.answer by
    ∙ ap (λ (q : OnPage). (reply_and_world (world_on q) (Ask r k)).1) c.self.view_is)

pub returns-clause-cost : goal.returns-clause-cost
returns-clause-cost g c =
    let i = c.self.inside in
    let r = c.args.request in
    let within = subst (λ (q : OnPage). c.args.k < length q.session.members) (sym c.self.view_is) c.requires.site in
    let done = c.in_ok-request.ensures ∙ ap (λ (q : OnPage). completed_request q.page.items r) (sym c.self.view_is) in
    let counted = subst (λ (x : Request). c.turn.new.steps ≤ c.args.steps.now + cost_completed i.session.session (member_at i.session c.args.k) x) done c.in_ok-answer.ensures.steps in
    always _ c.reply_text.result
    (subst (λ (q : OnPage). c.turn.new.steps ≤ c.args.steps.now + cost_of_command (world_on q) (Ok (Ask r c.args.k))) c.self.view_is
    (cost_within i.text i.body i.rows i.first_refs i.session c.args.k within c.self.invariant r c.args.steps.now c.turn.new.steps counted))
