use Rattle.std.proofs.Common.{◌≡◌, ◌∙◌, ap, arith}
use Rattle.ve_offsets.specs.Docs.{page_items}
use Rattle.ve_tables.specs.Placed.{Placed}
use Rattle.ve_tables.proofs.GapLemmas.{gaps_row, row_more}
use Rattle.ve_tables.proofs.table.place_rows.Goals as goal

pub loop-i-preserved : goal.loop-i-preserved
loop-i-preserved c =
    let items = page_items c.args.doc in
    let begins = c.begin_row.ensures in
    let has = c.in_ok-placed.ensures.means in
    let same = c.in-Ok.ensures.same in
    let row : c.in-Ok.noted.row ≡ c.loop-i.i = ap (λ (p : Placed). p.row) same ∙ has.same ∙ ap (λ (p : Placed). p.row) begins in
    record {
      means =
          row_more items c.args.rows.now c.loop-i.i _ c.loop-i.placing.cells c.begin_row.result c.in_ok-placed.placed c.in-Ok.noted c.loop-i-test.true begins has same
          ∙ c.loop-i.invariant.means;
      row = omega (arith, row);
      gaps =
          gaps_row items c.loop-i.i _ c.loop-i.placing.cells c.begin_row.result c.in_ok-placed.placed c.in-Ok.noted c.loop-i.gaps c.note_gap.new.gaps
          (ap (λ (p : Placed). p.cells) begins) (ap (λ (p : Placed). p.row) begins) has same c.loop-i.invariant.gaps c.in-Ok.ensures.gap;
    }
