use Rattle.std.proofs.Common.{◌≡◌, List}
use Rattle.ve_base.specs.declared.value.Value.{Value}
use Rattle.model_items.specs.Plain.{plain_list}
use Rattle.model_edit.specs.Insert.{levels_up}
use Rattle.ve_build_insert.specs.Placed.{framed}
use Rattle.ve_build_insert.proofs.PlaceLemmas.{left_up}
use Rattle.ve_build_insert.proofs.place.levels_up.Given as goal

abbrev pub invariant-loop-level : goal.invariant-loop-level
invariant-loop-level l = (values : List Value) →
    levels_up (framed l.fn.paragraph (plain_list values l.fn.pieces)) l.fn.state.stack
    ≡ left_up (framed l.fn.paragraph (plain_list values l.fn.pieces)) l.fn.state.stack l.level l.level
