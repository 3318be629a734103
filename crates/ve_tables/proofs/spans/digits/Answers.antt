use Rattle.std.proofs.Common.{◌∙◌, ap}
use Rattle.std.specs.Prelude.{decimal}
use Rattle.std.specs.Str.{chars}
use Rattle.std.proofs.lemmas.Str.{chars-IsAscii}
use Rattle.std.proofs.lemmas.Fmt.{IsAscii-decimal}
use Rattle.ve_tables.proofs.spans.digits.Goals as goal

pub returns : goal.returns
returns c =
    c.from_string.ensures ∙ ap chars c.in_ok-spelled.ensures.ok
    ∙ chars-IsAscii (decimal c.args.number) (IsAscii-decimal c.args.number c.ranges.number.fits)
