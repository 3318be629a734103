use Rattle.std.proofs.Common.{◌≡◌, ◌++◌, ◌∷◌, [], ℕ, List, ap, subst, ◌∙◌}
use Rattle.std.specs.Prelude.{OnOk}
use Rattle.model_world.specs.declared.reply.Reply.{Reply}
use Rattle.model_world.specs.declared.reply.Reply.TheVariants as reply
use Rattle.model_world.specs.Spelled.{reply_text}
use Rattle.ve_session.specs.Opened.{world_on, IsLed, OnPage}
use Rattle.ve_session.proofs.HtmlLemmas.{opened_told}
use Rattle.ve_session.proofs.page.OpenPage.show_opened.Goals as goal

pub returns-clause-reply : goal.returns-clause-reply
returns-clause-reply c =
    let led = subst (λ (q : OnPage). IsLed (world_on q)) c.self.view_is c.self.invariant.led in
    let whole = c.as_str.ensures.bytes ∙ ap (λ (q : OnPage). q.page.page) c.self.view_is in
    let told = opened_told c.unedited_page_is_told.ensures c.args.self.now c.args.k c.as_str.result.now c.requires.site led c.requires.unedited whole in
    subst (λ (r : Reply). OnOk c.reply_text.result (c.reply_text.new.out ≡ c.args.out.now ++ (reply_text r ++ 10 ∷ [])))
    (ap (λ (t : List ℕ). reply.Page t) c.in_ok-from_str.ensures ∙ told) c.reply_text.ensures.ok
