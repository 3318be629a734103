use Rattle.std.proofs.Common.{arith}
use Rattle.std.proofs.lemmas.List.{drop_all}
use Rattle.ve_write.proofs.AfterLemmas.{after_list, after_closing, after_cites, no_char, no_opening}
use Rattle.ve_write.proofs.ends.after_siblings.Goals as goal

pub returns-then-end-len-clause-follows : goal.returns-then-end-len-clause-follows
returns-then-end-len-clause-follows c = after_list c.args.list.now.items c.args.end (drop_all c.args.end c.args.list.now.items (omega (arith, c.if-end-len.true, c.len.ensures)))

pub unreachable-requires : goal.unreachable-requires
unreachable-requires c = no_char c.args.list.now.items c.args.end c.get.result _ _ c.get.ensures c.in-Char.is c.requires.ends

pub unreachable-requires-in-Opening : goal.unreachable-requires-in-Opening
unreachable-requires-in-Opening c = no_opening c.args.list.now.items c.args.end c.get.result _ _ _ _ _ _ c.get.ensures c.in-Opening.is c.requires.ends

pub returns-clause-follows : goal.returns-clause-follows
returns-clause-follows c = after_closing c.args.list.now.items c.args.end c.get.result _ _ c.get.ensures c.in-Closing.is

pub returns-clause-cites : goal.returns-clause-cites
returns-clause-cites c = λ values all. after_cites values c.args.list.now.items c.args.end c.get.result _ _ all c.get.ensures c.in-Closing.is
