use Rattle.std.proofs.Common.{◌∷◌, [], ◌++◌, ap, append-nil, ◌∙◌, subst, sym, take}
use Rattle.std.proofs.lemmas.List.{take_all, take_more}
use Rattle.std.proofs.lemmas.List.Concat.{flat_map-append}
use Rattle.ve_changes.specs.TypedCarets.{HasSeen, inserted_items, inserted_of}
use Rattle.ve_changes.proofs.TypedCaretLemmas.{seen_nothing}
use Rattle.ve_changes.proofs.caret.inserted.Goals as goal

pub loop-op-init : goal.loop-op-init
loop-op-init c = seen_nothing

pub loop-op-preserved : goal.loop-op-preserved
loop-op-preserved c =
    let ops = c.args.ops.now in
    let i = c.loop-op.op-index in
    let o = c.op-item.result in
    let one = take_more ops i o c.loop-op-test.true ∙ ap (λ q. take i ops ++ q ∷ []) (sym c.op-item.is) in
    let inserts = ap inserted_items one ∙ flat_map-append inserted_of (take i ops) (o ∷ []) ∙ ap (λ l. inserted_items (take i ops) ++ l) (append-nil (inserted_of o)) in
    subst (λ l. HasSeen l c.in_ok-seen.seen) (sym inserts) (c.in_ok-seen.ensures (inserted_items (take i ops)) c.loop-op.invariant)

pub returns : goal.returns
returns c = subst (λ l. HasSeen (inserted_items l) c.loop-op.seen) (take_all c.loop-op.op-index c.args.ops.now c.loop-op-test.false) c.loop-op.invariant
