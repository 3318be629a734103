use Rattle.std.proofs.Common.{◌≡◌, List, map, take}
use Rattle.std.specs.Prelude.{All}
use Rattle.ve_base.specs.declared.value.Value.{Value}
use Rattle.model_items.specs.Plain.{plain_list, CitesWell}
use Rattle.model_edit.specs.Brackets.{closing_for}
use Rattle.ve_build_insert.proofs.reopen.closings_for.Given as goal

abbrev pub invariant-loop-opening : goal.invariant-loop-opening
invariant-loop-opening l = record {
  means : (values : List Value) → plain_list values l.closings ≡ map closing_for (plain_list values (take l.opening-index l.fn.openings));
  cites : (values : List Value) → All (CitesWell values) l.fn.openings → All (CitesWell values) l.closings;
}
