use Rattle.std.proofs.Common.{◌≡◌, ◌≤◌, ◌↔◌, ◌-◌, drop, length}
use Rattle.ve_origin.specs.Bodies.{cited_inside}
use Rattle.ve_origin.proofs.bodies.are_same_inside.Given as goal

abbrev pub invariant-loop-here : goal.invariant-loop-here
invariant-loop-here l = record {
  here : l.here ≤ length l.now.items;
  there : l.there ≤ length l.first.items;
  bound : l.depth ≤ l.here - l.at;
  from : l.at ≤ l.here;
  rest : (cited_inside l.depth (drop l.here l.now.items) ≡ cited_inside l.depth (drop l.there l.first.items)) ↔ (cited_inside 0 (drop l.at l.now.items) ≡ cited_inside 0 (drop l.place l.first.items));
}

abbrev pub decreases-loop-here : goal.decreases-loop-here
decreases-loop-here l = length l.now.items - l.here
