use Rattle.std.proofs.Common.{◌≡◌, List, ℕ, rules, take, drop, length, min, sym, subst, ◌∙◌}
use Rattle.ve_base.proofs.FeedLemmas.{consumed, given_none}
use Rattle.ve_base.proofs.memory_source.NeverSourceSource.read.Goals as goal

pub returns-clause-bytes : goal.returns-clause-bytes
returns-clause-bytes c =
    let P : List ℕ → Type 0 = λ s. c.give-given.result ≡ min (length (drop c.self.inside.given s)) (length c.args.room.now) in
    let size : P c.self.inside.bytes = subst P c.as_slice.ensures c.give-given.ensures.size in
    let F : List ℕ → Type 0 = λ s. take c.give-given.result c.give-given.new.room ≡ take c.give-given.result (drop c.self.inside.given s) in
    let prefix : F c.self.inside.bytes = subst F c.as_slice.ensures c.give-given.ensures.prefix in
    (sym c.self.view_is ∙ consumed _ _ _ _ _ size prefix, λ none room. given_none _ _ _ _ size (search rules) none)
