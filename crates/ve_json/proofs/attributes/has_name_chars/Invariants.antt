use Rattle.std.proofs.Common.{◌≡◌, length, drop}
use Rattle.std.specs.List.{list_all}
use Rattle.std.specs.Str.{chars}
use Rattle.model_spelling.specs.Grammar.{is_name_byte}
use Rattle.ve_json.proofs.attributes.has_name_chars.Given as goal

abbrev pub invariant-loop-ch : goal.invariant-loop-ch
invariant-loop-ch l = record {
  finite : (goal.iterator-loop-ch).is_finite l.ch-iterator;
  can_next : (goal.iterator-loop-ch).can_next l.ch-iterator;
  rest : list_all is_name_byte (drop (length l.yielded) (chars l.text)) ≡ list_all is_name_byte (chars l.text);
}
