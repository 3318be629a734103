use Rattle.std.proofs.Common.{◌+◌, ◌≤◌, ◌∙◌, arith, rules}
use Rattle.ve_select.proofs.NextLemmas.{ahead_by, opening_within}
use Rattle.ve_select.proofs.next.next_ahead.Goals as goal

pub overflow_add-result : goal.overflow_add-result
overflow_add-result c =
    let opening = c.in-Opening in
    let more = opening_within c.args.doc.list.now.items c.args.offset c.get.result opening.kind opening.generated opening.head opening.marks opening.pre opening.origin
    c.requires.doc.links.lawful c.get.ensures opening.is in
    let len = c.len-len.ensures in
    let low : c.args.offset + 2 ≤ c.len-len.result = omega arith in
    search (rules, arith)

pub returns-in_ok-place-in-Char : goal.returns-in_ok-place-in-Char
returns-in_ok-place-in-Char c values =
    c.in_ok-place-in-Char.ensures values
    ∙ ahead_by values c.args.doc.list.now.items c.args.by c.args.offset c.get.result _ c.get.ensures c.in-Char.is

pub returns-in-Opening : goal.returns-in-Opening
returns-in-Opening c values = ahead_by values c.args.doc.list.now.items c.args.by c.args.offset c.get.result _ c.get.ensures c.in-Opening.is

pub returns-in-Closing : goal.returns-in-Closing
returns-in-Closing c values = ahead_by values c.args.doc.list.now.items c.args.by c.args.offset c.get.result _ c.get.ensures c.in-Closing.is
