use Rattle.std.proofs.Common.{◌≡◌, ◌<◌, ◌≤◌, List, ℕ, take, rules, length, drop, min, sym, ap, subst, ◌∙◌}
use Rattle.ve_base.proofs.FeedLemmas.{consumed, given_none, after_piece_by_counts}
use Rattle.ve_base.specs.Feed.{after_piece, next_cut}
use Rattle.ve_base.proofs.memory_source.MemSourceSource.read.Goals as goal

pub returns-clause-bytes : goal.returns-clause-bytes
returns-clause-bytes c =
    let bytes : c.as_slice.result.now ≡ c.self.inside.bytes = c.as_slice.ensures in
    let P : List ℕ → Type 0 = λ s. c.give-given.result ≡ min (length (drop c.self.inside.given s)) c.size_after-most.result in
    let size : P c.self.inside.bytes = subst P bytes c.give-given.ensures.size in
    let F : List ℕ → Type 0 = λ s. take c.give-given.result c.give-given.new.room ≡ take c.give-given.result (drop c.self.inside.given s) in
    let prefix : F c.self.inside.bytes = subst F bytes c.give-given.ensures.prefix in
    let some : 0 < length c.give-given.new.room → 0 < c.size_after-most.result = λ h. c.size_after-most.ensures.some (search rules) in
    (sym (ap (λ f. f.left) c.self.view_is) ∙ consumed _ _ _ _ _ size prefix, λ none room. given_none _ _ _ _ size (some room) none)

pub returns-clause-ok : goal.returns-clause-ok
returns-clause-ok c =
    let P : List ℕ → Type 0 = λ s. c.give-given.result ≡ min (length (drop c.self.inside.given s)) c.size_after-most.result in
    let size : P c.self.inside.bytes = subst P c.as_slice.ensures c.give-given.ensures.size in
    let G : List ℕ → Type 0 = λ s. c.size_after-most.result ≡ next_cut (drop c.self.inside.used s) (length c.args.room.now) in
    let greatest : G c.self.inside.cuts = subst G c.as_slice-cuts.ensures.items c.size_after-most.ensures.size in
    let within : c.self.inside.used ≤ length c.as_slice-cuts.result.now = search rules in
    after_piece_by_counts c.self.inside.bytes c.self.inside.cuts c.self.inside.fails c.self.inside.given c.self.inside.used c.self.inside.calls c.self.inside.faults _ _ _ _ _ _
    size greatest (ap length c.as_slice-cuts.ensures.items) (c.after_use-self-inside.ensures within) c.saturating_add-self-inside.ensures
    ∙ ap (λ feed. after_piece feed (length c.args.room.now)) c.self.view_is
