-- A span that is written is read back.
use Rattle.std.specs.Prelude.{decimal, get_or, ◌*◌, ◌^◌, nat_le, ◌==◌}
use Rattle.std.proofs.Common.{◌≡◌, ℕ, ◌+◌, ◌-◌, ◌<◌, ◌≤◌, true, ◌&&◌, if◌then◌else◌, List, [], ◌∷◌, Some, None, refl, ap, ◌∙◌, arith}
use Rattle.std.proofs.lemmas.Bool.{and_from, le-leb, false_from_ne_true, eqb-true}
use Rattle.std.proofs.lemmas.Str.Parse.{IsDigitsTest, FoldsDigits, numerals_by_fold}
use Rattle.std.proofs.lemmas.Fmt.{digits_decimal, digits_value-decimal, first_decimal}
use Rattle.model_edit.specs.Grid.{number_after, decimal_number, span_by}

abbrev Glyphs : List ℕ → Type 0
Glyphs [] = Unit {0}
Glyphs (c ∷ ds) = (48 ≤ c) × (c ≤ 57) × Glyphs ds

abbrev folded : ℕ → List ℕ → ℕ
folded n [] = n
folded n (c ∷ ds) = folded (n * 10 + (c - 48)) ds

number_after_digits : (n : ℕ) (ds : List ℕ) → Glyphs ds → number_after n ds ≡ Some (folded n ds)
number_after_digits n [] d = refl
number_after_digits n (c ∷ ds) d =
    let test : (nat_le 48 c && nat_le c 57) ≡ true = and_from _ _ (le-leb 48 c d.0) (le-leb c 57 d.1) in
    ap (λ b. if b then number_after (n * 10 + (c - 48)) ds else None) test ∙ number_after_digits (n * 10 + (c - 48)) ds d.2

number_of_digits : (n : ℕ) (ds : List ℕ) → 48 < get_or ds 0 0 → Glyphs ds → folded 0 ds ≡ n → decimal_number ds ≡ Some n
number_of_digits n [] first d e = absurd (omega arith)
number_of_digits n (c ∷ ds) first d e =
    ap (λ b. if b then None else number_after 0 (c ∷ ds)) (false_from_ne_true (c == 48) (λ t. let z = eqb-true c 48 t in omega arith))
    ∙ number_after_digits 0 (c ∷ ds) d ∙ ap Some e

tells : IsDigitsTest Glyphs
tells = record { empty = tt; parts = λ c cs d. ((d.0, d.1), d.2); more = λ c cs k d. (k.0, k.1, d) }

folds : FoldsDigits folded
folds = record { empty = λ n. refl; more = λ n c cs k. refl }

-- what a call writes into `rowspan` or `colspan` is what the grid reads
pub number_of-decimal : (n : ℕ) → 1 ≤ n → n < 2 ^ 64 → decimal_number (decimal n) ≡ Some n
number_of-decimal n some small =
    let own = numerals_by_fold Glyphs tells folded folds in
    number_of_digits n (decimal n) (first_decimal n (omega arith) small) (digits_decimal own n small) (digits_value-decimal own n small)

pub span_written : (most n : ℕ) → 1 ≤ n → n ≤ most → most < 2 ^ 64 → span_by most (decimal_number (decimal n)) ≡ n
span_written most n some low small =
    ap (span_by most) (number_of-decimal n some (omega arith)) ∙ ap (λ b. if b then n else 1) (le-leb n most low)
