use Rattle.std.proofs.Common.{sym, ◌∙◌}
use Rattle.std.proofs.lemmas.Bool.{and_parts}
use Rattle.ve_origin.proofs.BodyLemmas.{both_close, items_differ, open_items}
use Rattle.ve_origin.proofs.bodies.compare_items.Goals as goal

pub returns-then-both_close-clause-found : goal.returns-then-both_close-clause-found
returns-then-both_close-clause-found c =
    let p = and_parts _ _ (sym c.both_close.ensures ∙ c.if-both_close.true) in
    both_close c.args.depth c.args.one c.args.other p.0 p.1

pub returns-then-not-same_item-clause-found : goal.returns-then-not-same_item-clause-found
returns-then-not-same_item-clause-found c =
    items_differ c.args.depth c.args.one c.args.other (sym c.both_close.ensures ∙ c.if-both_close.false)
    (λ e. let yes = c.same_item.ensures.1 e in absurd cc)

pub returns-clause-found : goal.returns-clause-found
returns-clause-found c =
    open_items c.args.depth c.args.one c.args.other _ c.depth_after.ensures.depth (sym c.both_close.ensures ∙ c.if-both_close.false) (c.same_item.ensures.0 c.if-not-same_item.false)
