use Rattle.std.proofs.Common.{subst}
use Rattle.ve_tables.specs.Covered.{IsGap}
use Rattle.ve_tables.specs.Floors.{IsFound}
use Rattle.ve_tables.specs.Placed.{Placed}
use Rattle.ve_tables.proofs.PlacingLemmas.{placed_settled, gap_found}
use Rattle.ve_tables.proofs.placing.Placing.end_row.Goals as goal

pub invariant_of-placing : goal.invariant_of-placing
invariant_of-placing c =
    let p = c.self.inside in
    placed_settled p.cells p.row p.end p.floors c.settle.new.floors c.self.invariant c.in_ok-settle.ensures.settled c.in_ok-settle.ensures.apart

pub returns-clause-gap : goal.returns-clause-gap
returns-clause-gap c =
    let p : Placed = record { cells = c.self.inside.cells; row = c.self.inside.row; left = c.self.inside.left; end = c.self.inside.end } in
    let gap = c.first_free-gap.result in
    let found : IsFound p.row c.self.inside.floors gap c.settle.new.floors = record {
      settled = c.in_ok-settle.ensures.settled;
      apart = c.in_ok-settle.ensures.apart;
      below = c.in_ok-settle.ensures.below;
      first = c.first_free-gap.ensures;
    } in
    subst (λ (q : Placed). IsGap q.cells q.row gap) c.self.view_is (gap_found p c.self.inside.floors c.settle.new.floors gap c.self.invariant found)
