use Rattle.std.proofs.Common.{◌≤◌, ◌^◌, sym, subst, ◌∙◌}
use Rattle.ve_rebase.proofs.ShiftedLemmas.{paired_so, pair_refused}
use Rattle.ve_rebase.proofs.shifted.paired.Goals as goal

pub returns-then-conflicts-clause-refused : goal.returns-then-conflicts-clause-refused
returns-then-conflicts-clause-refused c =
    pair_refused c.args.a c.args.b c.range.result c.range-then-conflicts.result c.requires.first c.requires.second
    (λ values others. sym (c.conflicts.ensures values others) ∙ c.if-conflicts.true)
    c.range.ensures.start c.range.ensures.end c.range-then-conflicts.ensures.start c.range-then-conflicts.ensures.end

pub returns-clause-paired : goal.returns-clause-paired
returns-clause-paired c =
    paired_so c.args.a c.args.b c.joined_first-first.result c.joined_second-second.result c.requires.first c.requires.second c.requires.lengths
    c.joined_first-first.ensures c.joined_second-second.ensures
    (λ values others. sym (c.conflicts.ensures values others) ∙ c.if-conflicts.false)
    (subst (λ n. n ≤ 2 ^ 60) c.new_size.ensures c.if-new_size-gt-MAX_TOTAL_LENGTH.false)
