use Rattle.std.proofs.Common.{◌≡◌, ◌++◌}
use Rattle.model_edit.specs.Insert.{text_pieces}
use Rattle.ve_json.proofs.item_members.push_text.Given as goal

abbrev pub invariant-loop-ch : goal.invariant-loop-ch
invariant-loop-ch l = l.items ≡ l.initial.items ++ text_pieces l.marks l.yielded
