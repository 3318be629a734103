-- The two unmatched positions of a join.
use Rattle.std.proofs.Common.{◌≡◌, ◌≤◌, ℕ, ◌+◌, ◌-◌, Bool, true, not, ◌&&◌, IfSome, Option, Some, None, List, [], ◌∷◌, length, filter, get_or, refl, sym, ap, ◌∙◌, subst, arith}
use Rattle.std.specs.Prelude.{nat_le, nat_lt}
use Rattle.std.proofs.lemmas.Bool.Decides.{nat_tests}
use Rattle.model_items.specs.declared.item.Item.{Item}
use Rattle.model_items.specs.Plain.{plain_list}
use Rattle.ve_base.specs.declared.value.Value.{Value}
use Rattle.model_items.specs.Offsets.{places_in, partner, is_unmatched}
use Rattle.ve_edits.proofs.SpanLemmas.{AllIn, AllIn-filter}
use Rattle.ve_build_remove.specs.declared.join.Join.{Join}

pub two : (xs : List ℕ) → length xs ≡ 2 → xs ≡ get_or xs 0 0 ∷ get_or xs 1 0 ∷ []
two [] h = absurd (omega arith)
two (a ∷ []) h = absurd (omega arith)
two (a ∷ b ∷ []) h = refl
two (a ∷ b ∷ c ∷ xs) h = absurd (omega arith)

pub pair_in : (p : ℕ → Bool) (from to : ℕ) (xs : List ℕ) → from ≤ to → xs ≡ filter p (places_in from to) → length xs ≡ 2 → AllIn p from to (get_or xs 0 0 ∷ get_or xs 1 0 ∷ [])
pair_in p from to xs order is many =
    let e : from + (to - from) ≡ to = omega arith in
    let all : AllIn p from to (filter p (places_in from to)) = subst (λ end. AllIn p from end (filter p (places_in from to))) e (AllIn-filter p from (to - from)) in
    subst (AllIn p from to) (sym is ∙ two xs many) all

outside_past : (from other to : ℕ) → not (nat_le from other && nat_lt other to) ≡ true → from ≤ other → to ≤ other
outside_past from other to h le = grind (arith, nat_tests)

pub past : (items : List Item) (from to q : ℕ) (r : Option Join) → IfSome r (λ join. q ≤ join.second_closing) → IfSome r (λ join. (values : List Value) → join.second_closing ≡ partner (plain_list values items) q) →
    is_unmatched (plain_list [] items) from to q ≡ true → from ≤ q → IfSome r (λ join. to ≤ join.second_closing)
past items from to q None after closing free low = tt
past items from to q (Some join) after closing free low =
    let e = closing [] in
    outside_past from join.second_closing to (ap (λ o. not (nat_le from o && nat_lt o to)) e ∙ free) (omega arith)
