use Rattle.std.proofs.Common.{take}
use Rattle.ve_base.specs.Names.{names, NamesApart}
use Rattle.ve_tx.specs.Noted.{HaveSameNames}
use Rattle.ve_json.proofs.attributes.are_apart.Given as goal

abbrev pub invariant-loop-attr : goal.invariant-loop-attr
invariant-loop-attr l = record {
  names : HaveSameNames l.names (names (take l.attr-index l.attrs));
  apart : NamesApart (take l.attr-index l.attrs);
}
