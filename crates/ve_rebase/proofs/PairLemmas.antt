-- The join of two transactions, from their spans.
use Rattle.std.proofs.Common.{◌≡◌, ◌≤◌, ℕ, zero, suc, ◌+◌, ◌-◌, ◌^◌, Bool, true, false, not, ◌&&◌, nat_le, List, [], ◌∷◌, length, map, Some, None, refl, sym, ap, subst, ◌∙◌, arith, lt-ltb, le-leb, if◌then◌else◌}
use Rattle.std.proofs.lemmas.Bool.{and_parts, and_from, leb-true}
use Rattle.std.proofs.lemmas.List.{length-append, length-map}
use Rattle.ve_base.specs.declared.value.Value.{Value}
use Rattle.model_items.specs.Plain.{plain}
use Rattle.model_change.specs.Transaction.{Retain, Replace, Attribute, Transaction, old_length, new_length, all_inserted, total_length, is_reduced, is_normal}
use Rattle.model_change.specs.Join.{first, last, core, reach, has_some, has_attribute, has_replace, retained, with_ends, is_active, is_attribute_transaction, both_attributes, overlap, some_meet, active_range, start_of, end_of, conflict, join, moved_on, with_new_end}
use Rattle.model_change.specs.Fault.{placed_changes}
use Rattle.model_change.proofs.JoinLaw.{JoinedAs, Unmet, FirstIdle, SecondIdle, FirstLeft, SecondLeft, joined_as}
use Rattle.model_change.proofs.JoinLemmas.{ends_split, old_length-with_ends, old_length-retained}
use Rattle.model_change.proofs.JoinLengths.{joins_insert}
use Rattle.model_change.proofs.JoinNormal.{reduced_from, reshaped_reduced}
use Rattle.ve_tx.specs.declared.op.Op.{Op}
use Rattle.ve_tx.specs.Operation.{Operation, bare, by_value}
use Rattle.ve_tx.specs.Operation as operation
use Rattle.ve_rebase.specs.declared.fault.RebaseFault.TheVariants.{Conflict}
use Rattle.ve_rebase.specs.declared.span.ActiveSpan.{ActiveSpan}
use Rattle.ve_rebase.specs.Span.{span_of, old_size, end, joined_first, joined_second}
use Rattle.ve_rebase.specs.Totals.{inserted_size}
use Rattle.ve_rebase.specs.Pair.{IsRefused, FitsIn, between, MayStandIn}
use Rattle.ve_rebase.proofs.SpanLemmas.{old-spans, new-spans, core-ends, spans_join, attribute-core}
use Rattle.ve_rebase.proofs.ReadLemmas.{end_within}

pub no_core : (ops : Transaction) → has_some ops ≡ false → ops ≡ []
no_core [] h = refl
no_core (op ∷ ops) h = absurd (cc)

reduced-retained : (n : ℕ) → is_reduced (retained n) ≡ true
reduced-retained zero = refl
reduced-retained (suc n) = reduced_from (Retain (suc n)) [] (lt-ltb 0 (suc n) (omega arith)) refl refl

core-retained : (n : ℕ) → core (retained n) ≡ []
core-retained zero = refl
core-retained (suc n) = refl

-- what the first is, joined: reduced, of the same middle, and no longer than both
pub record IsJoined (t other made : Transaction) : Type 0 where
  pub reduced : is_reduced made ≡ true
  pub same : core made ≡ core t
  pub old : old_length made ≤ old_length t + new_length other

kept_is : (t other : Transaction) → is_reduced t ≡ true → IsJoined t other t
kept_is t other h = record { reduced = h; same = refl; old = omega arith }

idle_is : (t other : Transaction) → is_active t ≡ false → IsJoined t other (retained (new_length other))
idle_is t other idle = record {
  reduced = reduced-retained (new_length other);
  same = core-retained (new_length other) ∙ sym (no_core (core t) idle);
  old = let e = old_length-retained (new_length other) in omega arith;
}

-- the other stands after it
new_end_is : (t other : Transaction) → is_reduced t ≡ true → is_active t ≡ true → old_length t ≡ old_length other → end_of t ≤ start_of other →
    IsJoined t other (with_new_end t other)
new_end_is t other h active one near =
    let old = old-spans t in
    let new = new-spans other in
    let far : first t + reach (core t) ≤ first other = near in
    record {
      reduced = reshaped_reduced t (first t) ((last t + new_length other) - old_length other) h active (λ lt. omega arith);
      same = core-ends t (first t) ((last t + new_length other) - old_length other) h active;
      old = let e = old_length-with_ends (first t) (core t) ((last t + new_length other) - old_length other) in omega arith;
    }

-- the other stands before it
moved_is : (t other : Transaction) → is_reduced t ≡ true → is_active t ≡ true → IsJoined t other (moved_on t other)
moved_is t other h active =
    let old = old-spans t in
    let within = end_within t h in
    record {
      reduced = reshaped_reduced t ((first t + new_length other) - old_length other) (last t) h active (λ lt. omega arith);
      same = core-ends t ((first t + new_length other) - old_length other) (last t) h active;
      old = let e = old_length-with_ends ((first t + new_length other) - old_length other) (core t) (last t) in omega arith;
    }

module _ (a b : Transaction) (h : is_reduced a ≡ true) (k : is_reduced b ≡ true) (one : old_length a ≡ old_length b) where
  pub joined_by : (r : Transaction × Transaction) → JoinedAs a b r → IsJoined a b r.0 × IsJoined b a r.1
  joined_by r (Unmet none none_too apart) = (kept_is a b h, kept_is b a k)
  joined_by r (FirstIdle idle) = (idle_is a b idle, kept_is b a k)
  joined_by r (SecondIdle idle) = (kept_is a b h, idle_is b a idle)
  joined_by r (FirstLeft active active_too near) = (new_end_is a b h active one near, moved_is b a k active_too)
  joined_by r (SecondLeft active active_too near) = (moved_is a b h active, new_end_is b a k active_too (sym one) near)

-- of a span of what is made, its middle between the ends is what is made
pub record IsMade (t made : Transaction) (s : ActiveSpan) : Type 0 where
  pub is : made ≡ between s t
  pub stands : MayStandIn s t
  pub old : old_size s ≡ old_length made

pub made_is : (t other made : Transaction) (s : ActiveSpan) → IsJoined t other made → span_of made ≡ s → length (all_inserted made) ≡ length (all_inserted t) → IsMade t made s
made_is t other made s j e inserts =
    let is : made ≡ between s t =
    sym (ends_split made j.reduced) ∙ ap (λ ops. with_ends (first made) ops (last made)) j.same ∙ ap (λ r. between r t) e in
    let old : old_size s ≡ old_length made = ap old_size (sym e) ∙ sym (old-spans made) in
    record {
      is = is;
      stands = record {
        reduced = subst (λ ops. is_reduced ops ≡ true) is j.reduced;
        total = sym (ap total_length is) ∙ omega (arith, old, inserts);
      };
      old = old;
    }

-- in normal form a transaction's lengths are within the bound
new_within : (t : Transaction) → new_length t ≤ total_length t
new_within [] = omega arith
new_within (Retain count ∷ ops) = let r = new_within ops in omega arith
new_within (Replace removed inserted ∷ ops) = let r = new_within ops in let e = length-append inserted (all_inserted ops) in omega arith
new_within (Attribute c ∷ ops) = let r = new_within ops in omega arith

pub record IsWithin (t : Transaction) : Type 0 where
  pub reduced : is_reduced t ≡ true
  pub old : old_length t ≤ 2 ^ 60
  pub new : new_length t ≤ 2 ^ 60

pub is_within : (t : Transaction) → is_normal t ≡ true → IsWithin t
is_within t h =
    let p = and_parts (is_reduced t) (nat_le (total_length t) (2 ^ 60)) h in
    let w : total_length t ≤ 2 ^ 60 = leb-true (total_length t) (2 ^ 60) p.1 in
    let n = new_within t in
    record { reduced = p.0; old = omega arith; new = omega arith }

pub span_fits : (t : Transaction) (s : ActiveSpan) → s ≡ span_of t → is_normal t ≡ true → FitsIn (2 ^ 60) s
span_fits t s e h =
    let w = is_within t h in
    let o = old-spans t in
    let n = new-spans t in
    let r = end_within t w.reduced in
    let ow = w.old in
    let nw = w.new in
    subst (FitsIn (2 ^ 60)) (sym e) (record { old = omega arith; new = omega arith; range = omega arith })

pub record AreMade (a b : Transaction) (s r : ActiveSpan) : Type 0 where
  pub first_is : (join a b).0 ≡ between (joined_first s r) a
  pub second_is : (join a b).1 ≡ between (joined_second s r) b
  pub first_stands : MayStandIn (joined_first s r) a
  pub second_stands : MayStandIn (joined_second s r) b
  pub first_small : old_size (joined_first s r) ≤ 2 ^ 62
  pub second_small : old_size (joined_second s r) ≤ 2 ^ 62

are_made : (a b : Transaction) → IsWithin a → IsWithin b → old_length a ≡ old_length b → conflict a b ≡ false → AreMade a b (span_of a) (span_of b)
are_made a b h k one apart =
    let j = joined_by a b h.reduced k.reduced one (join a b) (joined_as a b apart) in
    let e = spans_join a b h.reduced k.reduced in
    let i = joins_insert a b apart in
    let p = made_is a b (join a b).0 (joined_first (span_of a) (span_of b)) j.0 e.0 i.0 in
    let q = made_is b a (join a b).1 (joined_second (span_of a) (span_of b)) j.1 e.1 i.1 in
    let a_old = h.old in
    let a_new = h.new in
    let b_old = k.old in
    let b_new = k.new in
    record {
      first_is = p.is;
      second_is = q.is;
      first_stands = p.stands;
      second_stands = q.stands;
      first_small = let x = p.old in let y = j.0.old in omega arith;
      second_small = let x = q.old in let y = j.1.old in omega arith;
    }

pub made_so : (a b : Transaction) (s r : ActiveSpan) → s ≡ span_of a → r ≡ span_of b → is_normal a ≡ true → is_normal b ≡ true →
    old_length a ≡ old_length b → conflict a b ≡ false → AreMade a b s r
made_so a b s r e f h k one apart =
    subst (λ x. AreMade a b x r) (sym e)
    (subst (λ y. AreMade a b (span_of a) y) (sym f) (are_made a b (is_within a h) (is_within b k) one apart))

-- what a conflict says of both ranges
some_by : (ops : Transaction) → has_attribute ops ≡ true → has_some ops ≡ true
some_by [] h = absurd (cc)
some_by (op ∷ ops) h = refl

pub attributes_are_active : (t : Transaction) → is_attribute_transaction t ≡ true → is_active t ≡ true
attributes_are_active t h = some_by (core t) (sym (attribute-core t) ∙ (and_parts (has_attribute t) (not (has_replace t)) h).0)

active_by : (a b : Transaction) (both : Bool) → both_attributes a b ≡ both → (if both then some_meet (placed_changes 0 a) (placed_changes 0 b) else overlap a b) ≡ true →
    (is_active a ≡ true) × (is_active b ≡ true)
active_by a b true e h =
    let p = and_parts (is_attribute_transaction a) (is_attribute_transaction b) e in
    (attributes_are_active a p.0, attributes_are_active b p.1)
active_by a b false e h =
    and_parts (is_active a) (is_active b)
    (and_parts (is_active a && is_active b) (not (nat_le (end_of a) (start_of b)) && not (nat_le (end_of b) (start_of a))) h).0

range_is : (t : Transaction) (range : ℕ × ℕ) → range.0 ≡ (span_of t).first → range.1 ≡ end (span_of t) → is_active t ≡ true → Some range ≡ active_range t
range_is t range e f active =
    ap (λ r. Some r) (pair_is range (start_of t) (end_of t) e f) ∙ sym (ap (λ act. if act then Some (start_of t, end_of t) else None) active)
  where
    pair_is : (range : ℕ × ℕ) (s f : ℕ) → range.0 ≡ s → range.1 ≡ f → ◌≡◌ {A = ℕ × ℕ} range (s, f)
    pair_is (x, y) s f e g = cc

pub refused_so : (a b : Transaction) (s r : ActiveSpan) (range other : ℕ × ℕ) → s ≡ span_of a → r ≡ span_of b → conflict a b ≡ true →
    range.0 ≡ s.first → range.1 ≡ end s → other.0 ≡ r.first → other.1 ≡ end r →
    IsRefused a b (Conflict range other)
refused_so a b s r range other e f h range_start range_end other_start other_end =
    let p = active_by a b (both_attributes a b) refl h in (
      h,
      (
        range_is a range (range_start ∙ ap (λ k. k.first) e) (range_end ∙ ap end e) p.0,
        range_is b other (other_start ∙ ap (λ k. k.first) f) (other_end ∙ ap end f) p.1,
      ),
    )

-- how many items are inserted, by value
inserted-by_value : (values : List Value) (tx : List Operation) → inserted_size (map bare tx) ≡ length (all_inserted (by_value values tx))
inserted-by_value values [] = refl
inserted-by_value values (operation.Retain count ∷ tx) = inserted-by_value values tx
inserted-by_value values (operation.Replace removed inserted ∷ tx) =
    let r = inserted-by_value values tx in
    let e = length-append (map (plain values) inserted) (all_inserted (by_value values tx)) in
    omega (arith, length-map inserted (plain values))
inserted-by_value values (operation.Attribute c ∷ tx) = inserted-by_value values tx

-- within the bound it is in normal form
pub normal_by : (values : List Value) (tx : List Operation) (s : ActiveSpan) (ops : List Op) (old inserts : ℕ) → MayStandIn s (by_value values tx) → old ≡ old_size s →
    inserts ≡ inserted_size ops → ops ≡ map bare tx → old + inserts ≤ 2 ^ 60 → is_normal (between s (by_value values tx)) ≡ true
normal_by values tx s ops old inserts stands e f g room =
    let t = between s (by_value values tx) in
    let total = stands.total in
    let i : inserts ≡ length (all_inserted (by_value values tx)) = f ∙ ap inserted_size g ∙ inserted-by_value values tx in
    and_from (is_reduced t) (nat_le (total_length t) (2 ^ 60)) stands.reduced (le-leb (total_length t) (2 ^ 60) (omega arith))

pub both_is : (x y : Transaction) (two : Transaction × Transaction) → x ≡ two.0 → y ≡ two.1 → ◌≡◌ {A = Transaction × Transaction} (x, y) two
both_is x y (u, v) p q = ap (λ k. (k, y)) p ∙ ap (λ k. (u, k)) q
