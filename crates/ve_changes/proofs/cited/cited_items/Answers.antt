use Rattle.std.proofs.Common.{◌∷◌, [], ◌++◌, ◌+◌, ap, ◌∙◌, subst, sym, take}
use Rattle.std.proofs.lemmas.List.{take_all, take_more}
use Rattle.model_change.specs.Store.{cited, fill}
use Rattle.ve_store.specs.Following.{together}
use Rattle.ve_changes.proofs.CitedLemmas.{Citing, citing_next, citing_none}
use Rattle.ve_changes.proofs.cited.cited_items.Goals as goal

pub loop-item-init : goal.loop-item-init
loop-item-init c =
    let v = together c.args.store.now c.args.new.now in (
      c.requires.follows,
      subst (Citing v v []) (sym c.new-made.ensures) (citing_none v),
    )

pub loop-item-preserved : goal.loop-item-preserved
loop-item-preserved c =
    let S = c.args.store.now in
    let v0 = together S c.args.new.now in
    let w = together S c.cited_item.new.new in
    let items = c.args.items.now in
    let i = c.loop-item.item-index in
    let made = c.loop-item.made in
    let p = c.item-item.result in
    let x = c.in_ok-item.item in
    let one = take_more items i p c.loop-item-test.true ∙ ap (λ q. take i items ++ q ∷ []) (sym c.item-item.is) in
    let next = citing_next v0 (together S c.loop-item.new) w (take i items) made p x c.loop-item.invariant.1 c.in_ok-item.ensures.cites c.in_ok-item.ensures.means c.in_ok-item.ensures.values in (
      c.in_ok-item.ensures.follows,
      subst (Citing v0 w (take (i + 1) items)) (sym c.in_ok-push.ensures.ok) (subst (λ seen. Citing v0 w seen (made ++ x ∷ [])) (sym one) next),
    )

pub returns-clause-cites : goal.returns-clause-cites
returns-clause-cites c = c.loop-item.invariant.1.cites

pub returns-clause-means : goal.returns-clause-means
returns-clause-means c = c.loop-item.invariant.1.means ∙ take_all c.loop-item.item-index c.args.items.now c.loop-item-test.false

pub returns-clause-values : goal.returns-clause-values
returns-clause-values c =
    c.loop-item.invariant.1.filled
    ∙ ap (λ l. fill (together c.args.store.now c.args.new.now) (cited l)) (take_all c.loop-item.item-index c.args.items.now c.loop-item-test.false)
