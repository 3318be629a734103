use Rattle.std.proofs.Common.{◌++◌, codes, chars, decimal, ap, ◌∙◌, arith}
use Rattle.std.proofs.lemmas.Str.{chars-IsAscii}
use Rattle.std.proofs.lemmas.Fmt.{IsAscii-decimal}
use Rattle.ve_json.proofs.ShownLemmas.{auto_start}
use Rattle.ve_json.proofs.shown.number_text.Goals as goal

pub returns : goal.returns
returns c =
    let number = c.args.number in
    c.in_ok-push_str.ensures.ok
    ∙ ap (λ t. t ++ chars c.as_str.result.now) (c.in_ok-text.ensures ∙ auto_start)
    ∙ ap (λ s. codes "a:" ++ chars s) (c.as_str.ensures.value ∙ c.in_ok-digits.ensures.ok)
    ∙ ap (λ s. codes "a:" ++ s) (chars-IsAscii (decimal number) (IsAscii-decimal number (omega (arith, c.ranges.number.fits))))
