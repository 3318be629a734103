-- A number's digits, the last one after the others.
use Rattle.std.proofs.Common.{◌≡◌, ◌<◌, ◌≤◌, ℕ, ◌+◌, ◌/◌, ◌%◌, ◌^◌, List, [], ◌∷◌, ◌++◌, Result, OnOk, decimal, ap, sym, ◌∙◌, append_assoc, arith}
use Rattle.std.proofs.lemmas.Fmt.{decimal_digit, decimal_step}
use Rattle.ve_gen.proofs.JoinLemmas.{on_ok}

pub last_digit : {A E : Type 0} (r : Result A E) (o mid out : List ℕ) (n b : ℕ) → OnOk r (out ≡ mid ++ b ∷ []) → mid ≡ o ++ decimal (n / 10) → 10 ≤ n → n < 2 ^ 64 → b ≡ 48 + n % 10
    → OnOk r (out ≡ o ++ decimal n)
last_digit r o mid out n b h m more small digit =
    on_ok r (λ e. e ∙ ap (λ x. x ++ b ∷ []) m ∙ append_assoc o (decimal (n / 10)) (b ∷ []) ∙ ap (λ x. o ++ (decimal (n / 10) ++ x ∷ [])) digit ∙ ap (λ x. o ++ x) (sym (decimal_step n more small))) h

pub only_digit : {A E : Type 0} (r : Result A E) (o mid out : List ℕ) (n b : ℕ) → OnOk r (out ≡ mid ++ b ∷ []) → mid ≡ o → n < 10 → b ≡ 48 + n % 10 → OnOk r (out ≡ o ++ decimal n)
only_digit r o mid out n b h m less digit =
    let is : b ≡ 48 + n = omega arith in
    on_ok r (λ e. e ∙ ap (λ x. x ++ b ∷ []) m ∙ ap (λ x. o ++ x ∷ []) is ∙ ap (λ x. o ++ x) (sym (decimal_digit n less))) h
