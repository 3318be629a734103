use Rattle.std.proofs.Common.{◌≡◌, ◌<◌, suc, ◌-◌, true, length, drop, sym, ap, ◌∙◌, subst, arith}
use Rattle.std.specs.Result.{is_ok}
use Rattle.ve_items.specs.Substitution.{spliced}
use Rattle.ve_tx.specs.Spliced.{spliced_by}
use Rattle.ve_tx.proofs.ChangeLemmas.{ok-holds}
use Rattle.ve_tx.proofs.SplicedLemmas.{made-room, made-next}
use Rattle.ve_editor.specs.Back.{LieInTurn}
use Rattle.ve_editor.proofs.ReturnLemmas.{turn-fits}
use Rattle.ve_editor.proofs.back.Back.put_back.Goals as goal

pub splice-requires : goal.splice-requires
splice-requires c =
    let next : c.loop-left.left ≡ suc (c.loop-left.left - 1) = omega (arith, c.loop-left-test.true) in
    let i = c.loop-left.left - 1 in
    let splices = c.self.inside.splices.items in
    let old = c.args.list.now.items in
    let below : i < length splices = omega (arith, c.loop-left.invariant.within) in
    let same : length c.loop-left.list.items ≡ length (spliced_by old (drop (suc i) splices)) = ap length c.loop-left.invariant.items ∙ ap (λ n. length (spliced_by old (drop n splices))) next in
    let fits = turn-fits old splices i c.index-splice.result.now below c.index-splice.ensures (subst (LieInTurn old) (sym c.self.view_is) c.requires.turn) in
    omega arith

pub prove-unreachable-requires : goal.prove-unreachable-requires
prove-unreachable-requires c =
    let next : c.loop-left.left ≡ suc (c.loop-left.left - 1) = omega (arith, c.loop-left-test.true) in
    let room = made-room c.args.list.now.items c.loop-left.list.items c.args.list.now.spare c.loop-left.list.spare c.loop-left.left (c.loop-left.left - 1) c.self.inside.splices.items c.index-splice.result.now
    c.loop-left.invariant next c.index-splice.ensures in
    let same : length c.as_slice.result.now ≡ length c.index-splice.result.now.items = ap length c.as_slice.ensures in
    let fits : is_ok c.splice.result ≡ true = c.splice.ensures.fits (omega arith) in
    let is = c.is_ok-spliced.ensures.value in
    let wrong = c.if-prove.true in
    cc

pub loop-left-preserved : goal.loop-left-preserved
loop-left-preserved c =
    let next : c.loop-left.left ≡ suc (c.loop-left.left - 1) = omega (arith, c.loop-left-test.true) in
    let splice = c.index-splice.result.now in
    let ok : is_ok c.splice.result ≡ true = sym c.is_ok-spliced.ensures.value ∙ c.if-prove.false in
    made-next c.args.list.now.items c.loop-left.list.items c.args.list.now.spare c.loop-left.list.spare c.loop-left.left (c.loop-left.left - 1) c.self.inside.splices.items splice
    c.loop-left.invariant next c.index-splice.ensures c.splice.new.self.items c.splice.new.self.spare
    (ok-holds _ c.splice.result ok c.splice.ensures.ok ∙ ap (λ l. spliced c.loop-left.list.items splice.at splice.removed l) c.as_slice.ensures)
    (ok-holds _ c.splice.result ok c.splice.ensures.spare ∙ ap (λ l. c.loop-left.list.spare - length l) c.as_slice.ensures)
