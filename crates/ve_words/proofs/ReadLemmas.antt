-- The reading of a value.
use Rattle.std.proofs.Common.{◌≡◌, ◌≤◌, ◌<◌, ◌^◌, ℕ, Bool, true, false, Some, None, refl, sym, ap, arith}
use Rattle.std.specs.Prelude.{if◌then◌else◌}
use Rattle.std.specs.Str.Parse.{IsNumeral, digits_value, without_leading_plus}
use Rattle.clap.specs.ValueTests.{is_unsigned_in}
use Rattle.clap.specs.Words.{IsUnsignedIn, Text}
use Rattle.clap.specs.declared.builder.value_parser.ValueParser.TheVariants as parser
use Rattle.clap.proofs.ValueTestLemmas.{Accepts-accepts, accepts-Accepts}
use Rattle.ve_words.specs.Words.{number_up_to}

pub number_read : (most : ℕ) (text : Text) (n : ℕ) → (IsNumeral 10 (without_leading_plus text) × (digits_value 10 (without_leading_plus text) < 2 ^ 64)) × (n ≡ digits_value 10 (without_leading_plus text))
    → n ≤ most → Some n ≡ number_up_to most text
number_read most text n is below =
    let within : digits_value 10 (without_leading_plus text) ≤ most = rw (← is.1) below in
    let passes = Accepts-accepts false (parser.Unsigned 0 most) text (is.0.0, is.0.1, omega arith, within) in
    rw is.1 (ap (λ b. if b then Some (digits_value 10 (without_leading_plus text)) else None) (sym passes))

pub number_refused : (most : ℕ) (text : Text) → (IsUnsignedIn 0 most text → ⊥) → None ≡ number_up_to most text
number_refused most text never = go (is_unsigned_in 0 most text) refl
  where
    go : (b : Bool) → is_unsigned_in 0 most text ≡ b → None ≡ (if b then Some (digits_value 10 (without_leading_plus text)) else None)
    go true e = absurd (never (accepts-Accepts false (parser.Unsigned 0 most) text e))
    go false e = refl
