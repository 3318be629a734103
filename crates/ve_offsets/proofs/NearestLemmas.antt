-- Going outwards from an offset.
use Rattle.std.proofs.Common.{◌≡◌, ◌≢◌, ◌≤◌, ◌<◌, ◌+◌, ◌-◌, ◌↔◌, ◌⊎◌, inl, inr, ℕ, Bool, true, false, IsTrue, List, length, sym, ◌∙◌, subst, arith}
use Rattle.std.proofs.lemmas.Bool.{cases_lt, true≢false}
use Rattle.model_items.specs.declared.item.Item.{Item}
use Rattle.ve_offsets.specs.Classes.{IsContent}
use Rattle.model_items.specs.Offsets.{distance}
use Rattle.ve_offsets.specs.Nearest.{IsNearestContent, HasNoContent, IsContentBefore, IsContentAfter}

-- nothing nearer is content
pub record NoneNearer (items : List Item) (o away : ℕ) : Type 0 where
  pub within : away ≤ length items
  pub none : (q : ℕ) → q ≤ length items → distance o q < away → ¬ IsContent items q

pub not_so : {P : Type 0} (b : Bool) → b ≡ false → (IsTrue b ↔ P) → ¬ P
not_so b e h p = true≢false (sym (h.1 p) ∙ e)

pub so : {P : Type 0} (b : Bool) → b ≡ true → (IsTrue b ↔ P) → P
so b e h = h.0 e

pub none_yet : (items : List Item) (o : ℕ) → NoneNearer items o 0
none_yet items o = record { within = omega arith; none = λ q within near content. absurd (omega (arith, near)) }

-- an offset at a distance lies before or after
sides : {P : Type 0} (o q away : ℕ) → distance o q ≡ away → (away ≤ o → q ≡ o - away → P) → (q ≡ o + away → P) → P
sides {P = P} o q away e before suffix = by_order (cases_lt o q)
  where
    by_order : (o < q) ⊎ (q ≤ o) → P
    by_order (inl lt) = suffix (omega (arith, e, lt))
    by_order (inr le) = before (omega (arith, e, le)) (omega (arith, e, le))

pub nearest_before : (items : List Item) (o away : ℕ) → o ≤ length items → NoneNearer items o away → IsContentBefore items o away → IsNearestContent items o (o - away)
nearest_before items o away within none here = record {
  within = omega (arith, within);
  content = here.content;
  nearest = λ q le content. at_least q le content;
  lowest = λ q le content same. omega (arith, same, here.order);
}
  where
    far : (m n : ℕ) → (m < n → ⊥) → n ≤ m
    far m n h = omega (arith, h)

    at_least : (q : ℕ) → q ≤ length items → IsContent items q → distance o (o - away) ≤ distance o q
    at_least q le content = omega (arith, here.order, far (distance o q) away (λ near. none.none q le near content))

pub nearest_after : (items : List Item) (o away : ℕ) → o ≤ length items → NoneNearer items o away → ¬ IsContentBefore items o away → IsContentAfter items o away →
    IsNearestContent items o (o + away)
nearest_after items o away within none not_before here = record {
  within = here.within;
  content = here.content;
  nearest = λ q le content. omega (arith, far (distance o q) away (λ near. none.none q le near content));
  lowest = λ q le content same.
      sides o q away (same ∙ omega arith)
      (λ order is. absurd (not_before (record { order = order; content = subst (IsContent items) is content })))
      (λ is. omega (arith, is));
}
  where
    far : (m n : ℕ) → (m < n → ⊥) → n ≤ m
    far m n h = omega (arith, h)

pub none_further : (items : List Item) (o away : ℕ) → away ≢ length items → NoneNearer items o away → ¬ IsContentBefore items o away → ¬ IsContentAfter items o away →
    NoneNearer items o (away + 1)
none_further items o away more none not_before not_after = record {
  within = omega (arith, none.within, more);
  none = λ q le near content. by_distance q le content (cases (distance o q) away (omega (arith, near)));
}
  where
    cases : (d a : ℕ) → d ≤ a → (d < a) ⊎ (d ≡ a)
    cases d a h = by_order (cases_lt d a)
      where
        by_order : (d < a) ⊎ (a ≤ d) → (d < a) ⊎ (d ≡ a)
        by_order (inl lt) = inl lt
        by_order (inr le) = inr (omega (arith, h, le))

    by_distance : (q : ℕ) → q ≤ length items → IsContent items q → (distance o q < away) ⊎ (distance o q ≡ away) → ⊥
    by_distance q le content (inl near) = none.none q le near content
    by_distance q le content (inr same) =
        sides o q away same
        (λ order is. not_before (record { order = order; content = subst (IsContent items) is content }))
        (λ is. not_after (record { within = omega (arith, is, le); content = subst (IsContent items) is content }))

pub none_at_all : (items : List Item) (o : ℕ) → o ≤ length items → NoneNearer items o (length items) → ¬ IsContentBefore items o (length items) → ¬ IsContentAfter items o (length items) →
    HasNoContent items
none_at_all items o within none not_before not_after q le content = by_distance (cases (distance o q) (length items) (omega (arith, within, le)))
  where
    cases : (d a : ℕ) → d ≤ a → (d < a) ⊎ (d ≡ a)
    cases d a h = by_order (cases_lt d a)
      where
        by_order : (d < a) ⊎ (a ≤ d) → (d < a) ⊎ (d ≡ a)
        by_order (inl lt) = inl lt
        by_order (inr le) = inr (omega (arith, h, le))

    by_distance : (distance o q < length items) ⊎ (distance o q ≡ length items) → ⊥
    by_distance (inl near) = none.none q le near content
    by_distance (inr same) =
        sides o q (length items) same
        (λ order is. not_before (record { order = order; content = subst (IsContent items) is content }))
        (λ is. not_after (record { within = omega (arith, is, le); content = subst (IsContent items) is content }))
