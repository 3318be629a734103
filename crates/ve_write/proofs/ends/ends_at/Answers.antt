use Rattle.std.proofs.Common.{sym, ap, arith}
use Rattle.std.proofs.lemmas.List.{drop_all}
use Rattle.ve_write.specs.Siblings.{is_end}
use Rattle.ve_write.proofs.SiblingLemmas.{found_at}
use Rattle.ve_write.proofs.ends.ends_at.Goals as goal

pub returns-then-at-len : goal.returns-then-at-len
returns-then-at-len c = sym (ap is_end (drop_all c.args.at c.args.list.now.items (omega (arith, c.if-at-len.true, c.len.ensures))))

pub returns-in-Closing : goal.returns-in-Closing
returns-in-Closing c = sym (ap is_end (found_at c.args.list.now.items c.args.at _ c.in-Closing.ensures))

pub returns-in-Char : goal.returns-in-Char
returns-in-Char c = sym (ap is_end (found_at c.args.list.now.items c.args.at _ c.in-Char.ensures))

pub returns-in-Opening : goal.returns-in-Opening
returns-in-Opening c = sym (ap is_end (found_at c.args.list.now.items c.args.at _ c.in-Opening.ensures))
