use Rattle.std.proofs.Common.{sym, ◌∙◌}
use Rattle.ve_json.proofs.Escapes.{IsUnescaped-more}
use Rattle.ve_json.proofs.quoted.split_escaped.Goals as goal

pub loop-at-preserved : goal.loop-at-preserved
loop-at-preserved c = IsUnescaped-more c.args.bytes.now c.loop-at.at c.loop-at-test.true c.loop-at.invariant (sym c.is_escaped.ensures ∙ c.if-is_escaped.false)
