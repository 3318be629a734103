-- Counting the unmatched brackets of a range piece by piece.
use Rattle.std.proofs.Common.{◌≡◌, ◌≤◌, ◌+◌, ◌-◌, ℕ, List, [], ◌∷◌, ◌++◌, take, drop, refl, sym, ap, ◌∙◌, arith, drop-drop}
use Rattle.std.proofs.Math.Seq.{take-add}
use Rattle.model_items.specs.declared.item.Item.{Item}
use Rattle.ve_offsets.specs.Unmatched.{unmatched_with, unmatched_after}

unmatched_append : (xs ys : List Item) (counts : ℕ × ℕ) → unmatched_after counts (xs ++ ys) ≡ unmatched_after (unmatched_after counts xs) ys
unmatched_append [] ys counts = refl
unmatched_append (x ∷ xs) ys counts = unmatched_append xs ys (unmatched_with x counts)

-- a piece from a position on, and what is left of the range
pub piece_counted : (items piece : List Item) (counts : ℕ × ℕ) (at k to : ℕ) → piece ≡ take (at + k - at) (drop at items) → at + k ≤ to →
    unmatched_after (unmatched_after counts piece) (take (to - (at + k)) (drop (at + k) items)) ≡ unmatched_after counts (take (to - at) (drop at items))
piece_counted items piece counts at k to is_piece within =
    let many : at + k - at ≡ k = omega arith in
    let rest : take (to - (at + k)) (drop (at + k) items) ≡ take (to - (at + k)) (drop k (drop at items)) = ap (take (to - (at + k))) (sym (drop-drop k at items)) in
    let sum : k + (to - (at + k)) ≡ to - at = omega (arith, within) in
    (λ i. unmatched_after (unmatched_after counts ((is_piece ∙ ap (λ n. take n (drop at items)) many) i)) (rest i))
    ∙ sym (unmatched_append (take k (drop at items)) (take (to - (at + k)) (drop k (drop at items))) counts)
    ∙ ap (unmatched_after counts) (sym (take-add k (to - (at + k)) (drop at items)))
    ∙ ap (λ n. unmatched_after counts (take n (drop at items))) sum
