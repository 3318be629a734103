use Rattle.std.proofs.Common.{◌≡◌, [], ◌∷◌, ◌++◌, List, sym, subst, rules}
use Rattle.ve_repair.specs.declared.script.Step.{Step}
use Rattle.ve_repair.specs.Reader.{MakesSame}
use Rattle.ve_repair.proofs.MakeLemmas.{makes_none}
use Rattle.ve_repair.proofs.read.ChangeReader.note.Goals as goal

pub returns-clause-same : goal.returns-clause-same
returns-clause-same c =
    let e : c.push.new.self.items ≡ c.args.self.now.script ++ c.args.step ∷ [] = search rules in
    subst (λ (ys : List Step). MakesSame c.args.self.now.script ys) (sym e) (makes_none c.args.self.now.script c.args.step c.requires)
