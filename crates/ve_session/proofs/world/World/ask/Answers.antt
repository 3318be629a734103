use Rattle.std.proofs.Common.{◌≡◌, ◌++◌, ◌∷◌, [], ap, sym, subst}
use Rattle.std.specs.Prelude.{OnOk}
use Rattle.model_world.specs.declared.reply.Reply.{Reply}
use Rattle.model_world.specs.Spelled.{reply_text}
use Rattle.model_world.specs.World.{World}
use Rattle.ve_session.proofs.PageLemmas.{always}
use Rattle.ve_session.proofs.WorldLemmas.{site_barred}
use Rattle.ve_session.proofs.world.World.ask.Goals as goal

pub returns-in-Some-clause-reply : goal.returns-in-Some-clause-reply
returns-in-Some-clause-reply g c =
    let told = ap (λ (x : Reply × World). x.0) (site_barred c.args.self.now.world c.args.site c.args.request c.in-Some.refusal c.in-Some.ensures) in
    subst (λ (x : Reply). OnOk c.refuse.result (c.refuse.new.out ≡ c.args.out.now ++ (reply_text x ++ 10 ∷ []))) (sym told) c.refuse.ensures.ok

pub returns-in-Some-clause-world : goal.returns-in-Some-clause-world
returns-in-Some-clause-world g c =
    always _ c.refuse.result
    (ap (λ (x : Reply × World). record c.args.self.now { world = x.1 }) (sym (site_barred c.args.self.now.world c.args.site c.args.request c.in-Some.refusal c.in-Some.ensures)))
