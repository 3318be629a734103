use Rattle.std.proofs.Common.{[], sym, ap, ◌∙◌, arith}
use Rattle.std.specs.List.{list_all}
use Rattle.std.proofs.lemmas.List.{drop_all, drop_more}
use Rattle.model_items.specs.Plain.{plain_list}
use Rattle.model_edit.specs.Insert.{outer_items}
use Rattle.ve_build_insert.specs.Placed.{item_answer}
use Rattle.ve_build_insert.proofs.PieceLemmas.{outer_fails, outer_passes, depth_rises}
use Rattle.ve_build_insert.proofs.pieces.all_outer.Goals as goal

pub returns-then-not-passes : goal.returns-then-not-passes
returns-then-not-passes c = λ values.
    let l = c.loop-item in
    sym (sym (l.invariant.rest values)
    ∙ outer_fails c.args.question l.depth c.args.pieces.now l.item-index _ (drop_more c.args.pieces.now l.item-index _ c.loop-item-test.true) values c.passes.result (c.passes.ensures values) c.if-not-passes.true)

pub loop-item-preserved : goal.loop-item-preserved
loop-item-preserved c =
    let l = c.loop-item in
    record {
      within = let rise = depth_rises l.depth _ c.opened-depth.result (c.opened-depth.ensures []) in omega (arith, l.invariant.within, rise);
      rest = λ values.
          outer_passes c.args.question l.depth c.args.pieces.now l.item-index _ (drop_more c.args.pieces.now l.item-index _ c.loop-item-test.true) values c.passes.result c.opened-depth.result
          (c.passes.ensures values) c.if-not-passes.false (c.opened-depth.ensures values)
          ∙ l.invariant.rest values;
    }

pub returns : goal.returns
returns c = λ values.
    let l = c.loop-item in
    sym (ap (λ r. list_all (item_answer c.args.question) (outer_items l.depth (plain_list values r))) (drop_all l.item-index c.args.pieces.now (omega arith)))
    ∙ l.invariant.rest values
