use Rattle.std.proofs.Common.{ℕ, ◌+◌, drop, sym, ap, ◌∙◌}
use Rattle.std.proofs.lemmas.List.{drop_more}
use Rattle.ve_tables.specs.Covered.{floor_of}
use Rattle.ve_tables.proofs.CoveredLemmas.{next_passed}
use Rattle.ve_tables.proofs.PartWayLemmas.{no_cell}
use Rattle.ve_tables.proofs.column_edits.lowest.Goals as goal

pub loop-cell-preserved : goal.loop-cell-preserved
loop-cell-preserved c =
    let cells = c.args.cells.now in
    let i = c.loop-cell.cell-index in
    let inside = c.loop-cell-test.true in
    record {
      means =
          ap (λ (f : ℕ). floor_of c.args.column f (drop (i + 1) cells)) c.lower-lowest.ensures
          ∙ sym (ap (floor_of c.args.column c.loop-cell.lowest) (drop_more cells i no_cell inside)) ∙ c.loop-cell.invariant.means;
      rise = (next_passed c.args.rows i cells no_cell inside c.loop-cell.invariant.rise).1;
    }
