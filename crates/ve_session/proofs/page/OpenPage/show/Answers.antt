use Rattle.std.proofs.Common.{◌≡◌, ◌<◌, ◌++◌, ◌∷◌, [], length, ap, sym, subst, ◌∙◌}
use Rattle.std.specs.Prelude.{OnOk}
use Rattle.model_world.specs.declared.command.Command.TheVariants.{Ask}
use Rattle.model_world.specs.declared.reply.Reply.{Reply}
use Rattle.model_world.specs.Spelled.{reply_text}
use Rattle.ve_session.specs.Asked.{reply_and_world}
use Rattle.ve_session.specs.Opened.{lent_of, page_on, world_on, OnPage}
use Rattle.ve_session.proofs.PageLemmas.{always, of_shown, replied, shown_world}
use Rattle.ve_session.proofs.page.OpenPage.show.Goals as goal

pub returns : goal.returns
returns c =
    let i = c.self.inside in
    let r = c.args.request.now in
    let k = c.args.k in
    let a = c.in_ok-answer.answer in
    let within = subst (λ (q : OnPage). k < length q.session.members) (sym c.self.view_is) c.requires.site in
    let page = (page_on (lent_of i.text i.body i.rows i.session.first i.first_refs) i.session.session).page in
    let by = of_shown page.items r k i.session a c.requires.shown c.in_ok-answer.ensures.answer in
    let told = sym (replied i.text i.body i.rows i.first_refs i.session k within c.self.invariant r i.session a by)
    ∙ ap (λ (q : OnPage). (reply_and_world (world_on q) (Ask r k)).0) c.self.view_is in
    let stays = subst (λ (q : OnPage). (reply_and_world (world_on q) (Ask r k)).1 ≡ world_on q) c.self.view_is
    (shown_world i.text i.body i.rows i.first_refs i.session k within c.self.invariant r a by) in
    record {
      reply = subst (λ (x : Reply). OnOk c.reply_text.result (c.reply_text.new.out ≡ c.args.out.now ++ (reply_text x ++ 10 ∷ []))) told c.reply_text.ensures.ok;
      same = always _ c.reply_text.result stays;
      err = c.reply_text.ensures.err;
    }
