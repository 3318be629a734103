-- Whether two transactions conflict, from their spans and from their operations.
use Rattle.std.proofs.Common.{◌≡◌, ◌≤◌, ◌+◌, ◌^◌, Bool, true, false, ◌&&◌, if◌then◌else◌, List, [], map, sym, ap, ◌∙◌, arith}
use Rattle.ve_base.specs.declared.value.Value.{Value}
use Rattle.model_change.specs.Transaction.{Transaction, is_normal}
use Rattle.model_change.specs.Fault.{placed_changes}
use Rattle.model_change.specs.Join.{some_meet, overlap, conflict, both_attributes}
use Rattle.ve_tx.specs.declared.op.Op.{Op}
use Rattle.ve_tx.specs.Normal.{total_size}
use Rattle.ve_tx.specs.Operation.{Operation, bare, by_value}
use Rattle.ve_rebase.specs.declared.span.ActiveSpan.{ActiveSpan}
use Rattle.ve_rebase.specs.Span.{span_of, meet}
use Rattle.ve_rebase.specs.Places.{places}
use Rattle.ve_rebase.proofs.ReadLemmas.{total-within}
use Rattle.ve_rebase.proofs.PlaceLemmas.{met_by_value}

both_is : (a b : Transaction) (s r : ActiveSpan) (both : Bool) → s ≡ span_of a → r ≡ span_of b → both ≡ (s.attributes && r.attributes) → both ≡ both_attributes a b
both_is a b s r both e f h = h ∙ (ap (λ x. x.attributes && r.attributes) e ∙ ap (λ y. (span_of a).attributes && y.attributes) f)

by_choice : (a b : Transaction) (result both : Bool) → both ≡ both_attributes a b →
    result ≡ (if both then some_meet (placed_changes 0 a) (placed_changes 0 b) else overlap a b) → result ≡ conflict a b
by_choice a b result both e h = h ∙ ap (λ x. if x then some_meet (placed_changes 0 a) (placed_changes 0 b) else overlap a b) e

pub by_attributes : (values : List Value) (a b : List Operation) (ops others : List Op) (s r : ActiveSpan) (result both : Bool) →
    s ≡ span_of (by_value values a) → r ≡ span_of (by_value values b) → both ≡ (s.attributes && r.attributes) → both ≡ true →
    ops ≡ map bare a → others ≡ map bare b → result ≡ some_meet (places 0 ops) (places 0 others) →
    result ≡ conflict (by_value values a) (by_value values b)
by_attributes values a b ops others s r result both e f h is_both p q met =
    let x = by_value values a in
    let y = by_value values b in
    by_choice x y result both (both_is x y s r both e f h)
    (met
    ∙ (ap (λ l. some_meet (places 0 l) (places 0 others)) p
    ∙ (ap (λ l. some_meet (places 0 (map bare a)) (places 0 l)) q
    ∙ (met_by_value values 0 0 a b
    ∙ sym (ap (λ c. if c then some_meet (placed_changes 0 x) (placed_changes 0 y) else overlap x y) is_both)))))

pub by_ranges : (values : List Value) (a b : List Operation) (s r : ActiveSpan) (result both : Bool) →
    s ≡ span_of (by_value values a) → r ≡ span_of (by_value values b) → both ≡ (s.attributes && r.attributes) → both ≡ false →
    result ≡ meet s r →
    result ≡ conflict (by_value values a) (by_value values b)
by_ranges values a b s r result both e f h not_both met =
    let x = by_value values a in
    let y = by_value values b in
    by_choice x y result both (both_is x y s r both e f h)
    (met
    ∙ (ap (λ k. meet k r) e
    ∙ (ap (λ k. meet (span_of x) k) f
    ∙ sym (ap (λ c. if c then some_meet (placed_changes 0 x) (placed_changes 0 y) else overlap x y) not_both))))

pub small_ops : (tx : List Operation) (ops : List Op) → ops ≡ map bare tx → is_normal (by_value [] tx) ≡ true → 0 + total_size ops ≤ 2 ^ 62
small_ops tx ops e h =
    let w = total-within tx h in
    let same : total_size ops ≡ total_size (map bare tx) = ap total_size e in
    omega arith
