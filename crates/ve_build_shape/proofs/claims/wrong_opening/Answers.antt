use Rattle.std.proofs.Common.{sym, ◌∙◌, arith}
use Rattle.model_items.specs.Plain.{plain_list}
use Rattle.ve_build_shape.proofs.ClaimLemmas.{opening_next, opening_stop, opening_done}
use Rattle.ve_build_shape.proofs.claims.wrong_opening.Goals as goal

pub returns-then-not-begins-clause-means : goal.returns-then-not-begins-clause-means
returns-then-not-begins-clause-means c = λ values.
    let P = plain_list values c.args.doc.list.now.items in
    opening_stop P c.args.at c.loop-i.i c.args.kinds.now _ (omega arith) (sym (c.begins.ensures.means values) ∙ c.if-not-begins.true)
    ∙ c.loop-i.invariant.means values

pub loop-i-preserved : goal.loop-i-preserved
loop-i-preserved c = record {
  fits = let inside = c.begins.ensures.within c.if-not-begins.false in omega (arith, inside);
  means = λ values.
      let P = plain_list values c.args.doc.list.now.items in
      opening_next P c.args.at c.loop-i.i c.args.kinds.now _ (omega arith) (sym (c.begins.ensures.means values) ∙ c.if-not-begins.false)
      ∙ c.loop-i.invariant.means values;
}

pub returns-clause-means : goal.returns-clause-means
returns-clause-means c = λ values.
    opening_done (plain_list values c.args.doc.list.now.items) c.args.at c.loop-i.i c.args.kinds.now (omega arith) ∙ c.loop-i.invariant.means values
