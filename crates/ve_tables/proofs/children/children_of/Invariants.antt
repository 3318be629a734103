use Rattle.std.proofs.Common.{◌≡◌, ◌++◌, ◌-◌}
use Rattle.ve_offsets.specs.Docs.{page_items}
use Rattle.ve_tables.specs.Rows.{child_places}
use Rattle.ve_tables.proofs.ChildLemmas.{places_from}
use Rattle.ve_tables.proofs.children.children_of.Given as goal

abbrev pub invariant-loop-place : goal.invariant-loop-place
invariant-loop-place l = l.places ++ places_from l.kinds (page_items l.fn.doc) l.place ≡ child_places l.kinds (page_items l.fn.doc) l.at

abbrev pub decreases-loop-place : goal.decreases-loop-place
decreases-loop-place l = l.len - l.place
