use Rattle.std.proofs.Common.{Some, sym, ap, ◌∙◌, subst, arith}
use Rattle.model_change.specs.Store.{fill}
use Rattle.ve_store.specs.Following.{together}
use Rattle.ve_read.specs.Anew.{StandThere}
use Rattle.ve_read.proofs.AnewLemmas.{none_anew, one_anew, take_whole}
use Rattle.ve_read.proofs.anew.values_anew.Goals as goal

pub loop-at-init : goal.loop-at-init
loop-at-init c = none_anew c.args.values.now c.args.store.now c.args.new.now c.new-ids.result.items c.new-ids.ensures.items

pub id_of-requires : goal.id_of-requires
id_of-requires c = c.loop-at.invariant.grows.0 ∙ c.requires.follows

pub loop-at-preserved : goal.loop-at-preserved
loop-at-preserved c =
    one_anew c.args.values.now c.args.store.now c.loop-at.at c.args.new.now c.loop-at.new c.id_of.new.self c.loop-at.ids.items c.push.new.self.items c.in_ok-value.value c.in_ok-id.id c.loop-at.invariant
    (omega (arith, c.loop-at-test.true, c.len-at-end.ensures.count)) (c.get.ensures ∙ ap (λ v. Some v) (sym c.in_ok-value.ensures)) c.in_ok-id.ensures.ok c.in_ok-id.ensures.stored c.in_ok-id.ensures.grows
    c.in_ok-push.ensures.items

pub returns-clause-stand : goal.returns-clause-stand
returns-clause-stand c =
    let whole = take_whole c.args.values.now c.loop-at.at (omega (arith, c.loop-at-test.false, c.len-at-end.ensures.count)) in
    subst (λ vs. StandThere vs (together c.args.store.now c.loop-at.new) c.loop-at.ids.items) whole c.loop-at.invariant.stand

pub returns-clause-filled : goal.returns-clause-filled
returns-clause-filled c =
    let whole = take_whole c.args.values.now c.loop-at.at (omega (arith, c.loop-at-test.false, c.len-at-end.ensures.count)) in
    c.loop-at.invariant.filled ∙ ap (fill (together c.args.store.now c.args.new.now)) whole
