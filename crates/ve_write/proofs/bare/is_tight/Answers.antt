use Rattle.std.proofs.Common.{arith}
use Rattle.std.proofs.lemmas.List.{drop_all}
use Rattle.ve_write.proofs.BareLemmas.{tight_end, tight_char, tight_opening, tight_closing}
use Rattle.ve_write.proofs.bare.is_tight.Goals as goal

pub returns-then-at-len : goal.returns-then-at-len
returns-then-at-len c = λ values all. tight_end values c.args.list.now.items c.args.at (drop_all c.args.at c.args.list.now.items (omega (arith, c.if-at-len.true, c.len.ensures)))

pub returns-in-Char : goal.returns-in-Char
returns-in-Char c = λ values all. tight_char values c.args.list.now.items c.args.at _ _ c.in-Char.ensures

pub returns-in-Opening : goal.returns-in-Opening
returns-in-Opening c = λ values all. tight_opening values c.args.list.now.items c.args.at _ _ _ _ _ _ _ all c.in-Opening.ensures c.is_none.ensures

pub returns-in-Closing : goal.returns-in-Closing
returns-in-Closing c = λ values all. tight_closing values c.args.list.now.items c.args.at _ _ _ all c.in-Closing.ensures c.is_none-in-Closing.ensures
