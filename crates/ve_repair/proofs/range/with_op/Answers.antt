use Rattle.std.proofs.Common.{◌++◌, ◌∷◌, [], sym, ◌∙◌}
use Rattle.ve_repair.proofs.RangeLemmas.{same_range, grown_range, put_in}
use Rattle.ve_repair.proofs.range.with_op.Goals as goal

pub returns-then-not-is_replace : goal.returns-then-not-is_replace
returns-then-not-is_replace c = λ before s.
    same_range before c.args.found c.args.k c.args.at c.args.new_at c.args.op.now s (sym c.is_replace.ensures ∙ c.if-not-is_replace.true)

pub returns : goal.returns
returns c = λ before s.
    put_in (before ++ (c.args.op.now ∷ [])) c.unwrap_or-start.result _ c.args.k c.args.at c.args.new_at c.taken.result c.given.result c.args.op.now
    c.unwrap_or-start.ensures c.taken.ensures c.given.ensures
    (grown_range before c.args.found c.args.k c.args.at c.args.new_at c.args.op.now s (sym c.is_replace.ensures ∙ c.if-not-is_replace.false))
