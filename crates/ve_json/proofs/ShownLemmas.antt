-- Characters of words, and the pieces of a row.
use Rattle.std.proofs.Common.{◌≡◌, ℕ, List, [], ◌∷◌, ◌++◌, codes, chars, refl, ap, ◌∙◌, append_assoc}
use Rattle.model_page.proofs.OnLiterals.{page_on_literals}

pub named_start : chars (codes "n:") ≡ codes "n:"
unfolding page_on_literals
named_start = refl

pub auto_start : chars (codes "a:") ≡ codes "a:"
unfolding page_on_literals
auto_start = refl

-- the pieces of a reference's row, one after the other
pub row_pieces : (s a g k n c b : List ℕ) →
    ((((((((((s ++ 91 ∷ []) ++ a) ++ 44 ∷ []) ++ (g ++ 44 ∷ k)) ++ 44 ∷ []) ++ n) ++ 44 ∷ []) ++ c) ++ 44 ∷ []) ++ b) ++ 93 ∷ []
    ≡ s ++ 91 ∷ (a ++ (44 ∷ (g ++ (44 ∷ (k ++ (44 ∷ (n ++ (44 ∷ (c ++ (44 ∷ (b ++ 93 ∷ [])))))))))))
row_pieces s a g k n c b =
    let s1 = s ++ 91 ∷ [] in
    let s2 = s1 ++ a in
    let s3 = s2 ++ 44 ∷ [] in
    let s4 = s3 ++ (g ++ 44 ∷ k) in
    let s5 = s4 ++ 44 ∷ [] in
    let s6 = s5 ++ n in
    let s7 = s6 ++ 44 ∷ [] in
    let s8 = s7 ++ c in
    let s9 = s8 ++ 44 ∷ [] in
    let end = b ++ 93 ∷ [] in
    append_assoc s9 b (93 ∷ [])
    ∙ append_assoc s8 (44 ∷ []) end
    ∙ append_assoc s7 c (44 ∷ end)
    ∙ append_assoc s6 (44 ∷ []) (c ++ 44 ∷ end)
    ∙ append_assoc s5 n (44 ∷ (c ++ 44 ∷ end))
    ∙ append_assoc s4 (44 ∷ []) (n ++ 44 ∷ (c ++ 44 ∷ end))
    ∙ append_assoc s3 (g ++ 44 ∷ k) (44 ∷ (n ++ 44 ∷ (c ++ 44 ∷ end)))
    ∙ ap (λ l. s3 ++ l) (append_assoc g (44 ∷ k) (44 ∷ (n ++ 44 ∷ (c ++ 44 ∷ end))))
    ∙ append_assoc s2 (44 ∷ []) (g ++ 44 ∷ (k ++ 44 ∷ (n ++ 44 ∷ (c ++ 44 ∷ end))))
    ∙ append_assoc s1 a (44 ∷ (g ++ 44 ∷ (k ++ 44 ∷ (n ++ 44 ∷ (c ++ 44 ∷ end)))))
    ∙ append_assoc s (91 ∷ []) (a ++ 44 ∷ (g ++ 44 ∷ (k ++ 44 ∷ (n ++ 44 ∷ (c ++ 44 ∷ end)))))
