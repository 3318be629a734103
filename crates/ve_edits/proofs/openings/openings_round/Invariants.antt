use Rattle.std.proofs.Common.{◌≡◌, ◌≤◌, ◌+◌, ◌++◌, List, length}
use Rattle.ve_base.specs.declared.value.Value.{Value}
use Rattle.std.specs.Prelude.{All}
use Rattle.model_items.specs.Plain.{plain_list, CitesWell}
use Rattle.model_items.specs.Offsets.{opens_at, openings_at}
use Rattle.ve_tree.specs.IsTree.{unvalued}
use Rattle.ve_edits.proofs.openings.openings_round.Given as goal

abbrev pub invariant-loop-level : goal.invariant-loop-level
invariant-loop-level l = record {
  within : l.o ≤ length l.fn.doc.list.now.items;
  left : length (opens_at (unvalued l.fn.doc.list.now.items) l.o) + l.level ≡ length (opens_at (unvalued l.fn.doc.list.now.items) l.fn.at);
  many : length l.all ≡ l.level;
  cited : (values : List Value) → All (CitesWell values) l.fn.doc.list.now.items → All (CitesWell values) l.all;
  walked : (values : List Value) →
      openings_at (plain_list values l.fn.doc.list.now.items) l.fn.at ≡ plain_list values l.all ++ openings_at (plain_list values l.fn.doc.list.now.items) l.o;
}
