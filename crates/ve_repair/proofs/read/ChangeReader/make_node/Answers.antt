use Rattle.std.proofs.Common.{◌≡◌, List, [], ◌∷◌, ◌++◌, sym, subst, rules}
use Rattle.ve_repair.specs.declared.script.Step.{Step}
use Rattle.ve_repair.specs.Reader.{put_step, MakesOn, IsPaid}
use Rattle.ve_repair.proofs.MakeLemmas.{makes_one, pays_one}
use Rattle.ve_repair.proofs.read.ChangeReader.make_node.Goals as goal

pub returns-clause-made : goal.returns-clause-made
returns-clause-made g c =
    let e : c.push.new.self.items ≡ c.args.self.now.script ++ put_step c.args.what c.in_ok-n.n ∷ [] = search rules in
    subst (λ (ys : List Step). MakesOn c.args.arena.now.slots c.args.self.now.script c.make.new.self.slots ys) (sym e)
    (makes_one c.args.arena.now.slots c.make.new.self.slots c.args.self.now.script c.args.what c.in_ok-n.n _ c.in_ok-n.ensures.free c.in_ok-n.ensures.made)

pub returns-clause-paid : goal.returns-clause-paid
returns-clause-paid g c =
    let e : c.push.new.self.items ≡ c.args.self.now.script ++ put_step c.args.what c.in_ok-n.n ∷ [] = search rules in
    subst (λ (ys : List Step). IsPaid c.args.steps.now c.args.self.now.script c.make.new.steps ys) (sym e)
    (subst (λ k. IsPaid c.args.steps.now c.args.self.now.script k (c.args.self.now.script ++ put_step c.args.what c.in_ok-n.n ∷ [])) (sym c.make.ensures.step)
    (pays_one c.args.steps.now c.args.self.now.script c.args.what c.in_ok-n.n))
