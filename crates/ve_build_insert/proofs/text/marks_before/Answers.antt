use Rattle.std.proofs.Common.{◌-◌, [], sym, ◌∙◌, arith}
use Rattle.ve_build_insert.proofs.TypedLemmas.{before_char, before_opening, before_other, before_leaf, closed_within}
use Rattle.ve_build_insert.proofs.text.marks_before.Goals as goal

pub returns-then-not-is_inline_leaf : goal.returns-then-not-is_inline_leaf
returns-then-not-is_inline_leaf c =
    before_other c.args.doc.list.now.items c.args.at c.get.result (omega (arith, c.if-at-eq0.false)) c.get.ensures c.in-Closing.kind c.in-Closing.pre c.in-Closing.is
    (sym c.is_inline_leaf.ensures ∙ c.if-not-is_inline_leaf.true)

pub marks_at-requires : goal.marks_at-requires
marks_at-requires c =
    let items = c.args.doc.list.now.items in
    let within = closed_within [] items (c.args.at - 1) c.get.result c.in-Closing.kind c.in-Closing.pre c.get.ensures c.in-Closing.is in
    omega (arith, c.partner.ensures [], within)

pub returns-in-Char : goal.returns-in-Char
returns-in-Char c =
    before_char c.args.doc.list.now.items c.args.at c.get.result (omega (arith, c.if-at-eq0.false)) c.get.ensures c.in-Char.ch c.in-Char.marks c.in-Char.is

pub returns-in-Opening : goal.returns-in-Opening
returns-in-Opening c =
    let o = c.in-Opening in
    before_opening c.args.doc.list.now.items c.args.at c.get.result (omega (arith, c.if-at-eq0.false)) c.get.ensures o.kind o.generated o.head o.marks o.pre o.origin o.is

pub returns-else-not-is_inline_leaf : goal.returns-else-not-is_inline_leaf
returns-else-not-is_inline_leaf c =
    before_leaf c.args.doc.list.now.items c.args.at c.get.result (omega (arith, c.if-at-eq0.false)) c.get.ensures c.in-Closing.kind c.in-Closing.pre c.in-Closing.is
    c.partner.result c.marks_at.result (sym c.is_inline_leaf.ensures ∙ c.if-not-is_inline_leaf.false) c.partner.ensures c.marks_at.ensures
