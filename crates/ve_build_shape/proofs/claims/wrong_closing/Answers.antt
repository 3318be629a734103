use Rattle.std.proofs.Common.{sym, ◌∙◌, arith}
use Rattle.model_items.specs.Plain.{plain_list}
use Rattle.ve_build_shape.proofs.ClaimLemmas.{closing_next, closing_stop, closing_done}
use Rattle.ve_build_shape.proofs.claims.wrong_closing.Goals as goal

pub returns-then-not-ends_with : goal.returns-then-not-ends_with
returns-then-not-ends_with c = λ values.
    let P = plain_list values c.args.doc.list.now.items in
    closing_stop P c.args.first c.loop-left.left c.loop-left.place (omega arith) (sym (c.ends_with.ensures.means values) ∙ c.if-not-ends_with.true)
    ∙ c.loop-left.invariant.means values

pub loop-left-preserved : goal.loop-left-preserved
loop-left-preserved c = record {
  few = let few = c.loop-left.invariant.few in omega (arith, few);
  fits = let inside = c.ends_with.ensures.within c.if-not-ends_with.false in omega (arith, inside);
  means = λ values.
      let P = plain_list values c.args.doc.list.now.items in
      closing_next P c.args.first c.loop-left.left c.loop-left.place (omega arith) (sym (c.ends_with.ensures.means values) ∙ c.if-not-ends_with.false)
      ∙ c.loop-left.invariant.means values;
}

pub returns : goal.returns
returns c = λ values.
    closing_done (plain_list values c.args.doc.list.now.items) c.args.first c.loop-left.left c.loop-left.place (omega arith) ∙ c.loop-left.invariant.means values
