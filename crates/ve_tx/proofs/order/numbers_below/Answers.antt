use Rattle.std.proofs.Common.{◌≡◌, ◌+◌, ◌++◌, ◌∷◌, [], ℕ, List, suc, ap, sym, ◌∙◌, arith}
use Rattle.ve_tx.specs.Order.{counted}
use Rattle.ve_tx.proofs.OrderLemmas.{counted_more}
use Rattle.ve_tx.proofs.order.numbers_below.Goals as goal

one_more : (made so_far : List ℕ) (n : ℕ) → made ≡ so_far ++ n ∷ [] → so_far ≡ counted 0 n → made ≡ counted 0 (n + 1)
one_more made so_far n is so =
    let same : 0 + n ≡ n = omega arith in
    let next : n + 1 ≡ suc n = omega arith in
    is ∙ ap (λ l. l ++ n ∷ []) so ∙ ap (λ k. counted 0 n ++ k ∷ []) (sym same) ∙ sym (counted_more 0 n) ∙ ap (counted 0) (sym next)

pub loop-number-preserved : goal.loop-number-preserved
loop-number-preserved c = one_more _ _ c.loop-number.number c.in_ok-push.ensures.items c.loop-number.invariant
