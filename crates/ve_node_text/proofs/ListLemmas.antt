-- How many marks two lists begin with, once one of them ends.
use Rattle.std.proofs.Common.{◌≡◌, ℕ, ◌≤◌, List, [], ◌∷◌, length, drop, refl, ap, ◌∙◌, arith, inl, inr, ◌⊎◌}
use Rattle.std.specs.Prelude.{suc, zero}
use Rattle.std.proofs.lemmas.List.{drop_all}
use Rattle.ve_base.specs.declared.marks.Mark.{Mark}
use Rattle.model_page_write.specs.Written.{common_count}

pub none_left : (opened marks : List Mark) (n : ℕ) → (length opened ≤ n) ⊎ (length marks ≤ n) → common_count (drop n opened) (drop n marks) ≡ 0
none_left opened marks n (inl le) = ap (λ l. common_count l (drop n marks)) (drop_all n opened le)
none_left opened marks n (inr le) = ap (common_count (drop n opened)) (drop_all n marks le) ∙ none_with (drop n opened)
  where
    none_with : (opened : List Mark) → common_count opened [] ≡ 0
    none_with [] = refl
    none_with (m ∷ opened) = refl

pub le_or : (a b : ℕ) → (a ≤ b) ⊎ (b ≤ a)
le_or zero b = inl (omega arith)
le_or (suc a) zero = inr (omega arith)
le_or (suc a) (suc b) = elim (le_or a b) [
  | inl le ↦ inl (omega (arith, le))
  | inr le ↦ inr (omega (arith, le))
]
