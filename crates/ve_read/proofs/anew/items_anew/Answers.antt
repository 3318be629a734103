use Rattle.std.proofs.Common.{◌++◌, ◌∷◌, [], map, ap, ◌∙◌, arith}
use Rattle.ve_read.specs.Anew.{item_anew}
use Rattle.ve_read.proofs.AnewLemmas.{item_next, take_whole}
use Rattle.ve_read.proofs.anew.items_anew.Goals as goal

pub loop-at-preserved : goal.loop-at-preserved
loop-at-preserved c =
    item_next c.args.ids.now c.args.list.now.items c.loop-at.at c.get.result c.loop-at.items c.push.new.self (omega (arith, c.loop-at-test.true, c.len-at-end.ensures)) c.get.ensures c.loop-at.invariant
    (c.in_ok-push.ensures.ok ∙ ap (λ x. c.loop-at.items ++ x ∷ []) c.item_anew.ensures)

pub returns : goal.returns
returns c =
    c.loop-at.invariant ∙ ap (map (item_anew c.args.ids.now)) (take_whole c.args.list.now.items c.loop-at.at (omega (arith, c.loop-at-test.false, c.len-at-end.ensures)))
