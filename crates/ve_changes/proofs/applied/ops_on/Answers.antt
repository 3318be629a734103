use Rattle.std.proofs.Common.{◌∷◌, ◌+◌, length, ap, ◌∙◌, subst, sym, drop, arith}
use Rattle.std.proofs.lemmas.List.{drop_all, drop_more, length-map}
use Rattle.model_items.specs.Plain.{plain}
use Rattle.model_world.specs.Edits.{needs}
use Rattle.ve_offsets.specs.Docs.{page_items}
use Rattle.ve_store.specs.Following.{together}
use Rattle.ve_tx.specs.Searched.{SearchesIn, first_attrs}
use Rattle.ve_changes.specs.Applied.{items_passed}
use Rattle.ve_changes.proofs.AppliedLemmas.{Applying, applying_all, applying_filled, applying_next, applying_none, needs_within}
use Rattle.ve_changes.proofs.applied.ops_on.Goals as goal

pub loop-op-init : goal.loop-op-init
loop-op-init c =
    let S = c.args.doc.store.now in
    let v = together S c.args.new.now in
    let P = page_items c.args.doc in
    let ops = c.args.ops.now in (
      (c.requires.follows, c.new-search.ensures _),
      subst (Applying v v P ops ops 0) (sym c.new-made.ensures) (applying_none v P ops (c.requires.needs ∙ sym (length-map c.args.doc.list.now.items (plain S)))),
    )

pub op_at-requires-clause-within : goal.op_at-requires-clause-within
op_at-requires-clause-within c =
    let ops = c.args.ops.now in
    let i = c.loop-op.op-index in
    let rest = drop (i + 1) ops in
    let one = drop_more ops i c.op-item.result c.loop-op-test.true ∙ ap (λ o. o ∷ rest) (sym c.op-item.is) in
    let left = ap (λ l. c.loop-op.at + needs l) (sym one) ∙ c.loop-op.invariant.1.left in
    let h = needs_within c.loop-op.at c.op-item.result rest (length (page_items c.args.doc)) left in
    let same = length-map c.args.doc.list.now.items (plain c.args.doc.store.now) in
    omega (arith, h, same)

pub loop-op-preserved : goal.loop-op-preserved
loop-op-preserved c =
    let S = c.args.doc.store.now in
    let v0 = together S c.args.new.now in
    let v = together S c.loop-op.new in
    let w = together S c.op_at.new.new in
    let P = page_items c.args.doc in
    let ops = c.args.ops.now in
    let i = c.loop-op.op-index in
    let at = c.loop-op.at in
    let o = c.op-item.result in
    let made = c.loop-op.made in
    let rest = drop (i + 1) ops in
    let one = drop_more ops i o c.loop-op-test.true ∙ ap (λ x. x ∷ rest) (sym c.op-item.is) in
    let s = subst (λ l. Applying v0 v P ops l at made) one c.loop-op.invariant.1 in
    let next = applying_next v0 v w P ops rest o at made c.in_ok-next.next s c.in_ok-next.ensures.cites c.in_ok-next.ensures.means c.in_ok-next.ensures.values in (
      (c.in_ok-next.ensures.follows, subst (λ k. SearchesIn (first_attrs (drop (at + k) P)) c.search_at-search.result) (sym c.passed-at.ensures) c.search_at-search.ensures.after),
      subst (λ k. Applying v0 w P ops rest (at + k) c.push.new.self) (sym c.passed-at.ensures)
          (subst (Applying v0 w P ops rest (at + items_passed o)) (sym c.in_ok-push.ensures.ok) next),
    )

pub returns-clause-cites : goal.returns-clause-cites
returns-clause-cites c = c.loop-op.invariant.1.cites

pub returns-clause-means : goal.returns-clause-means
returns-clause-means c =
    let S = c.args.doc.store.now in
    let i = c.loop-op.op-index in
    let ops = c.args.ops.now in
    applying_all (together S c.args.new.now) (together S c.loop-op.new) (page_items c.args.doc) ops (drop i ops) c.loop-op.at c.loop-op.made c.loop-op.invariant.1 (drop_all i ops c.loop-op-test.false)

pub returns-clause-values : goal.returns-clause-values
returns-clause-values c =
    let S = c.args.doc.store.now in
    let i = c.loop-op.op-index in
    let ops = c.args.ops.now in
    applying_filled (together S c.args.new.now) (together S c.loop-op.new) (page_items c.args.doc) ops (drop i ops) c.loop-op.at c.loop-op.made c.loop-op.invariant.1 (drop_all i ops c.loop-op-test.false)

pub overflow_add-at : goal.overflow_add-at
overflow_add-at c =
    let ops = c.args.ops.now in
    let i = c.loop-op.op-index in
    let rest = drop (i + 1) ops in
    let one = drop_more ops i c.op-item.result c.loop-op-test.true ∙ ap (λ o. o ∷ rest) (sym c.op-item.is) in
    let left = ap (λ l. c.loop-op.at + needs l) (sym one) ∙ c.loop-op.invariant.1.left in
    let h = needs_within c.loop-op.at c.op-item.result rest (length (page_items c.args.doc)) left in
    let same = length-map c.args.doc.list.now.items (plain c.args.doc.store.now) in
    omega (arith, h, same, c.len-len.ensures, c.len-len.type_inv, c.passed-at.ensures)
