use Rattle.std.proofs.Common.{◌≡◌, ◌++◌, length}
use Rattle.json.specs.Print.{escape}
use Rattle.ve_json.proofs.quoted.push_all_escaped.Given as goal

abbrev pub invariant-escapes : goal.invariant-escapes
invariant-escapes l = record {
  all : l.out.text ++ escape l.rest ≡ l.initial.out.text ++ escape l.bytes;
  before : l.out.before ≡ l.initial.out.before;
}

abbrev pub decreases-escapes : goal.decreases-escapes
decreases-escapes l = length l.rest
