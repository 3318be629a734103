use Rattle.std.proofs.Common.{List, ap, sym, subst, ◌∙◌, ◌≤◌, ◌+◌, ◌-◌, length, arith}
use Rattle.model_items.specs.declared.item.Item.{Item}
use Rattle.ve_origin.specs.Known.{AreKnown}
use Rattle.ve_origin.specs.Origins.{FirstRead}
use Rattle.ve_origin.proofs.AnswerLemmas.{keeps_by, keeps_not, keeps_all}
use Rattle.ve_origin.proofs.origin.Origins.kept_after.Goals as goal

pub same_node-requires-clause-known : goal.same_node-requires-clause-known
same_node-requires-clause-known c =
    subst (λ (l : List Item). AreKnown c.args.now.now.items l c.args.known) (sym (ap (λ (o : FirstRead). o.items) c.self.view_is)) c.requires.known.items

pub returns-then-len-from : goal.returns-then-len-from
returns-then-len-from c =
    keeps_by c.args.self.now c.args.k c.args.now.now.items c.args.from c.args.refs.now c.row-row.result _ c.row-row.ensures.row (λ e. cc)
    (λ u w p. let r = p.room in absurd (omega (arith, c.if-len-from.true, c.len.ensures, r, c.requires.within)))

pub returns-then-not-same_node : goal.returns-then-not-same_node
returns-then-not-same_node c =
    keeps_not c.args.self.now c.args.k c.args.now.now.items c.args.from c.args.refs.now c.row-row.result c.self.inside.first.now.items c.same_node.result c.row-row.ensures.row
    (ap (λ (o : FirstRead). o.items) c.self.view_is) c.if-not-same_node.true c.same_node.ensures.1

pub returns : goal.returns
returns c =
    let room : c.args.from + (c.row-row.result.to - c.row-row.result.from) ≤ length c.args.now.now.items = omega (arith, c.if-len-from.false, c.len.ensures, c.requires.within) in
    keeps_all c.args.self.now c.args.k c.args.now.now.items c.args.from c.args.refs.now c.row-row.result c.self.inside.first.now.items c.as_slice.result.now c.as_slice-2.result.now c.same_node.result c.all_carry_same.result
    c.row-row.ensures.row (ap (λ (o : FirstRead). o.items) c.self.view_is) c.as_slice.ensures (c.as_slice-2.ensures ∙ ap (λ (o : FirstRead). o.refs) c.self.view_is) room c.if-not-same_node.false c.same_node.ensures.0 c.all_carry_same.ensures
