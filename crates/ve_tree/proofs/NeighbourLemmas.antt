-- Siblings that stand between others: what their links are when others come between.
use Rattle.std.proofs.Common.{◌≡◌, ℕ, Option, Some, List, [], ◌∷◌, ◌++◌, refl, sym, subst}
use Rattle.ve_tree.specs.Links.{last_or, AreSiblings}

pub last_or-next : (start : Option ℕ) (n : ℕ) (ns : List ℕ) → last_or start (n ∷ ns) ≡ last_or (Some n) ns
last_or-next start n [] = refl
last_or-next start n (m ∷ ns) = refl

pub siblings_right : (parent before after : ℕ → Option ℕ) (p : ℕ) (start : Option ℕ) (ls rs : List ℕ) (end : Option ℕ) → AreSiblings parent before after p start (ls ++ rs) end →
    AreSiblings parent before after p (last_or start ls) rs end
siblings_right parent before after p start [] rs end s = s
siblings_right parent before after p start (n ∷ ls) rs end s =
    subst (λ s. AreSiblings parent before after p s rs end) (sym (last_or-next start n ls)) (siblings_right parent before after p (Some n) ls rs end s.3)
