-- The span of a transaction from what one pass counts and from its active range.
use Rattle.std.proofs.Common.{◌≡◌, ◌≤◌, ◌<◌, ℕ, ◌+◌, ◌-◌, ◌^◌, Bool, true, false, not, ◌&&◌, nat_le, List, [], ◌∷◌, map, zero-add, Option, Some, None, refl, sym, ap, ◌∙◌, arith, if◌then◌else◌}
use Rattle.std.proofs.lemmas.Bool.{and_parts, leb-true, ltb-true}
use Rattle.std.proofs.lemmas.List.{length-map}
use Rattle.ve_base.specs.declared.value.Value.{Value}
use Rattle.model_items.specs.Plain.{plain}
use Rattle.model_items.specs.Same.{text_same}
use Rattle.model_change.specs.Attributes.{AttrChange}
use Rattle.model_change.specs.Transaction.{old_length, new_length, total_length, may_precede, is_reduced, is_normal}
use Rattle.model_change.specs.Transaction as model
use Rattle.model_change.specs.Transaction.{Transaction}
use Rattle.model_change.specs.Join.{first, last, core, reach, end_retain, without_end, has_replace, has_attribute, is_active, is_attribute_transaction, active_range, start_of, end_of}
use Rattle.model_change.proofs.InverseLemmas.{reduced_parts}
use Rattle.ve_tx.specs.Normal.{total_size, are_normal, are_reduced}
use Rattle.ve_tx.specs.Operation.{Operation, Retain, Replace, Attribute, bare, by_value}
use Rattle.ve_tx.proofs.NormalLemmas.{normal-bare}
use Rattle.ve_rebase.specs.declared.span.ActiveSpan.{ActiveSpan}
use Rattle.ve_rebase.specs.declared.totals.Totals.{Totals}
use Rattle.ve_rebase.specs.Totals.{with_op, with_ops, nothing}
use Rattle.ve_rebase.specs.Span.{span_of, inert}
use Rattle.ve_rebase.proofs.SpanLemmas.{old-spans, new-spans}

-- what the pass counts, by value
module _ (values : List Value) where
  counts_old : (t : Totals) (tx : List Operation) → (with_ops t (map bare tx)).old ≡ t.old + old_length (by_value values tx)
  counts_old t [] = omega arith
  counts_old t (Retain count ∷ tx) = let r = counts_old (with_op t (bare (Retain count))) tx in omega arith
  counts_old t (Replace removed inserted ∷ tx) =
      let r = counts_old (with_op t (bare (Replace removed inserted))) tx in
      omega (arith, length-map removed (plain values))
  counts_old t (Attribute c ∷ tx) = counts_old (with_op t (bare (Attribute c))) tx

  counts_new : (t : Totals) (tx : List Operation) → (with_ops t (map bare tx)).new ≡ t.new + new_length (by_value values tx)
  counts_new t [] = omega arith
  counts_new t (Retain count ∷ tx) = let r = counts_new (with_op t (bare (Retain count))) tx in omega arith
  counts_new t (Replace removed inserted ∷ tx) =
      let r = counts_new (with_op t (bare (Replace removed inserted))) tx in
      omega (arith, length-map inserted (plain values))
  counts_new t (Attribute c ∷ tx) = counts_new (with_op t (bare (Attribute c))) tx

  counts_replace : (t : Totals) (tx : List Operation) → t.has_replace ≡ false → (with_ops t (map bare tx)).has_replace ≡ has_replace (by_value values tx)
  counts_replace t [] h = h
  counts_replace t (Retain count ∷ tx) h = counts_replace (with_op t (bare (Retain count))) tx h
  counts_replace t (Replace removed inserted ∷ tx) h = stays (with_op t (bare (Replace removed inserted))) tx refl
    where
      stays : (t : Totals) (tx : List Operation) → t.has_replace ≡ true → (with_ops t (map bare tx)).has_replace ≡ true
      stays t [] h = h
      stays t (Retain count ∷ tx) h = stays (with_op t (bare (Retain count))) tx h
      stays t (Replace removed inserted ∷ tx) h = stays (with_op t (bare (Replace removed inserted))) tx refl
      stays t (Attribute c ∷ tx) h = stays (with_op t (bare (Attribute c))) tx h
  counts_replace t (Attribute c ∷ tx) h = counts_replace (with_op t (bare (Attribute c))) tx h

  counts_attribute : (t : Totals) (tx : List Operation) → t.has_attribute ≡ false → (with_ops t (map bare tx)).has_attribute ≡ has_attribute (by_value values tx)
  counts_attribute t [] h = h
  counts_attribute t (Retain count ∷ tx) h = counts_attribute (with_op t (bare (Retain count))) tx h
  counts_attribute t (Replace removed inserted ∷ tx) h = counts_attribute (with_op t (bare (Replace removed inserted))) tx h
  counts_attribute t (Attribute c ∷ tx) h = stays (with_op t (bare (Attribute c))) tx refl
    where
      stays : (t : Totals) (tx : List Operation) → t.has_attribute ≡ true → (with_ops t (map bare tx)).has_attribute ≡ true
      stays t [] h = h
      stays t (Retain count ∷ tx) h = stays (with_op t (bare (Retain count))) tx h
      stays t (Replace removed inserted ∷ tx) h = stays (with_op t (bare (Replace removed inserted))) tx h
      stays t (Attribute c ∷ tx) h = stays (with_op t (bare (Attribute c))) tx refl

  counts_end : (t : Totals) (o : Operation) (tx : List Operation) → (with_ops t (map bare (o ∷ tx))).end ≡ end_retain (by_value values (o ∷ tx))
  counts_end t (Retain count) [] = refl
  counts_end t (Replace removed inserted) [] = refl
  counts_end t (Attribute c) [] = refl
  counts_end t (Retain count) (o ∷ tx) = counts_end (with_op t (bare (Retain count))) o tx
  counts_end t (Replace removed inserted) (o ∷ tx) = counts_end (with_op t (bare (Replace removed inserted))) o tx
  counts_end t (Attribute c) (o ∷ tx) = counts_end (with_op t (bare (Attribute c))) o tx

-- of an active transaction the last retain is the retain after all operations
end-last : (t : Transaction) → is_active t ≡ true → end_retain t ≡ last t
end-last [] h = refl
end-last (model.Retain n ∷ []) h = absurd (cc)
end-last (model.Retain n ∷ (op ∷ ops)) h = refl
end-last (model.Replace removed inserted ∷ ops) h = refl
end-last (model.Attribute c ∷ ops) h = refl

pub counts-last : (values : List Value) (tx : List Operation) → is_active (by_value values tx) ≡ true → (with_ops nothing (map bare tx)).end ≡ last (by_value values tx)
counts-last values [] h = refl
counts-last values (o ∷ tx) h = counts_end values nothing o tx ∙ end-last (by_value values (o ∷ tx)) h

-- reduced operations that are not active are one retain or none
idle_is : (t : Transaction) → is_reduced t ≡ true → is_active t ≡ false → span_of t ≡ inert (old_length t)
idle_is [] h idle = refl
idle_is (model.Retain n ∷ []) h idle = ap inert (let e : n ≡ n + 0 = omega arith in e)
idle_is (model.Retain n ∷ (model.Retain m ∷ ops)) h idle = absurd (let e = (reduced_parts (model.Retain n) (model.Retain m ∷ ops) h).1 in cc)
idle_is (model.Retain n ∷ (model.Replace removed inserted ∷ ops)) h idle = absurd (cc)
idle_is (model.Retain n ∷ (model.Attribute c ∷ ops)) h idle = absurd (cc)
idle_is (model.Replace removed inserted ∷ ops) h idle = absurd (cc)
idle_is (model.Attribute c ∷ ops) h idle = absurd (cc)

abbrev pub make : Bool → Bool → ℕ → ℕ → ℕ → ℕ → ℕ → ActiveSpan
make active attributes first reach last removed inserted =
    record { active = active; attributes = attributes; first = first; reach = reach; last = last; removed = removed; inserted = inserted }

pub total-within : (tx : List Operation) → is_normal (by_value [] tx) ≡ true → total_size (map bare tx) ≤ 2 ^ 60
total-within tx h =
    let normal : are_normal (map bare tx) ≡ true = sym (normal-bare [] tx) ∙ h in
    leb-true (total_size (map bare tx)) (2 ^ 60) (and_parts (are_reduced (map bare tx)) (nat_le (total_size (map bare tx)) (2 ^ 60)) normal).1

-- what is known of an active range
by_activity : (t : Transaction) (act : Bool) (range : ℕ × ℕ) → is_active t ≡ act → ◌≡◌ {A = Option (ℕ × ℕ)} (Some range) (if act then Some (start_of t, end_of t) else None) →
    (act ≡ true) × ((range.0 ≡ start_of t) × (range.1 ≡ end_of t))
by_activity t true range e h = let same : range ≡ (start_of t, end_of t) = cc in (refl, (ap (λ r. r.0) same, ap (λ r. r.1) same))
by_activity t false range e h = absurd (cc)

by_idleness : (t : Transaction) (act : Bool) → is_active t ≡ act → ◌≡◌ {A = Option (ℕ × ℕ)} None (if act then Some (start_of t, end_of t) else None) → is_active t ≡ false
by_idleness t true e h = absurd (cc)
by_idleness t false e h = e

pub idle_span : (values : List Value) (tx : List Operation) (counted : Totals) → counted ≡ with_ops nothing (map bare tx) → is_normal (by_value values tx) ≡ true →
    None ≡ active_range (by_value values tx) →
    make false false counted.old 0 0 0 0 ≡ span_of (by_value values tx)
idle_span values tx counted is h none =
    let t = by_value values tx in
    let reduced = (and_parts (is_reduced t) _ h).0 in
    let e : counted.old ≡ old_length t = ap (λ c. c.old) is ∙ counts_old values nothing tx ∙ zero-add (old_length t) in
    ap inert e ∙ sym (idle_is t reduced (by_idleness t (is_active t) refl none))

record IsCounted (t : Transaction) (range : ℕ × ℕ) (counted : Totals) : Type 0 where
  active : is_active t ≡ true
  kinds : (counted.has_attribute && not counted.has_replace) ≡ is_attribute_transaction t
  start : range.0 ≡ first t
  far : range.1 ≡ first t + reach (core t)
  end : counted.end ≡ last t
  old : counted.old ≡ first t + (old_length (core t) + last t)
  new : counted.new ≡ first t + (new_length (core t) + last t)

is_counted : (values : List Value) (tx : List Operation) (counted : Totals) (range : ℕ × ℕ) → counted ≡ with_ops nothing (map bare tx) →
    Some range ≡ active_range (by_value values tx) → IsCounted (by_value values tx) range counted
is_counted values tx counted range is some =
    let t = by_value values tx in
    let known = by_activity t (is_active t) range refl some in
    record {
      active = known.0;
      kinds = let p = counts_attribute values nothing tx refl in let q = counts_replace values nothing tx refl in
          ap (λ c. c.has_attribute && not c.has_replace) is ∙ (ap (λ b. b && not (with_ops nothing (map bare tx)).has_replace) p ∙ ap (λ b. has_attribute t && not b) q);
      start = known.1.0;
      far = known.1.1;
      end = ap (λ c. c.end) is ∙ counts-last values tx known.0;
      old = ap (λ c. c.old) is ∙ counts_old values nothing tx ∙ zero-add (old_length t) ∙ old-spans t;
      new = ap (λ c. c.new) is ∙ counts_new values nothing tx ∙ zero-add (new_length t) ∙ new-spans t;
    }

pub active_span : (values : List Value) (tx : List Operation) (counted : Totals) (range : ℕ × ℕ) (attributes : Bool) → counted ≡ with_ops nothing (map bare tx) →
    Some range ≡ active_range (by_value values tx) → attributes ≡ (counted.has_attribute && not counted.has_replace) →
    make true attributes range.0 (range.1 - range.0) counted.end (counted.old - range.0 - counted.end) (counted.new - range.0 - counted.end) ≡ span_of (by_value values tx)
active_span values tx counted range attributes is some which =
    let t = by_value values tx in
    let k = is_counted values tx counted range is some in
    let s = k.start in
    let f = k.far in
    let n = k.end in
    let o = k.old in
    let w = k.new in
    let e1 : true ≡ is_active t = sym k.active in
    let e2 : attributes ≡ is_attribute_transaction t = which ∙ k.kinds in
    let e4 : range.1 - range.0 ≡ reach (core t) = omega arith in
    let e6 : counted.old - range.0 - counted.end ≡ old_length (core t) = omega arith in
    let e7 : counted.new - range.0 - counted.end ≡ new_length (core t) = omega arith in
    ap (λ x. make x attributes range.0 (range.1 - range.0) counted.end (counted.old - range.0 - counted.end) (counted.new - range.0 - counted.end)) e1
    ∙ (ap (λ x. make (is_active t) x range.0 (range.1 - range.0) counted.end (counted.old - range.0 - counted.end) (counted.new - range.0 - counted.end)) e2
    ∙ (ap (λ x. make (is_active t) (is_attribute_transaction t) x (range.1 - range.0) counted.end (counted.old - range.0 - counted.end) (counted.new - range.0 - counted.end)) s
    ∙ (ap (λ x. make (is_active t) (is_attribute_transaction t) (first t) x counted.end (counted.old - range.0 - counted.end) (counted.new - range.0 - counted.end)) e4
    ∙ (ap (λ x. make (is_active t) (is_attribute_transaction t) (first t) (reach (core t)) x (counted.old - range.0 - counted.end) (counted.new - range.0 - counted.end)) n
    ∙ (ap (λ x. make (is_active t) (is_attribute_transaction t) (first t) (reach (core t)) (last t) x (counted.new - range.0 - counted.end)) e6
    ∙ ap (λ x. make (is_active t) (is_attribute_transaction t) (first t) (reach (core t)) (last t) (old_length (core t)) x) e7)))))

-- the active range lies in the old list: an attribute operation is followed by a retain

some_after : (c : AttrChange) (ops : Transaction) → may_precede (model.Attribute c) ops ≡ true → is_reduced ops ≡ true → 1 ≤ old_length ops
some_after c [] h r = absurd (cc)
some_after c (model.Retain n ∷ ops) h r = let some : 0 < n = ltb-true 0 n (reduced_parts (model.Retain n) ops r).0 in omega arith
some_after c (model.Replace removed inserted ∷ ops) h r = absurd (cc)
some_after c (model.Attribute d ∷ ops) h r =
    some_after c ops (and_parts (not (text_same c.name d.name)) (may_precede (model.Attribute c) ops) h).1 (reduced_parts (model.Attribute d) ops r).2

reach_open : (ops : Transaction) → is_reduced ops ≡ true → reach (without_end ops) ≤ old_length ops
reach_open [] r = omega arith
reach_open (model.Retain n ∷ []) r = omega arith
reach_open (model.Retain n ∷ (op ∷ ops)) r = let rest = reach_open (op ∷ ops) (reduced_parts (model.Retain n) (op ∷ ops) r).2 in omega arith
reach_open (model.Replace removed inserted ∷ ops) r = let rest = reach_open ops (reduced_parts (model.Replace removed inserted) ops r).2 in omega arith
reach_open (model.Attribute c ∷ ops) r =
    let p = reduced_parts (model.Attribute c) ops r in
    let rest = reach_open ops p.2 in
    let some = some_after c ops p.1 p.2 in
    omega arith

pub end_within : (t : Transaction) → is_reduced t ≡ true → first t + reach (core t) ≤ old_length t
end_within [] r = omega arith
end_within (model.Retain n ∷ ops) r = let rest = reach_open ops (reduced_parts (model.Retain n) ops r).2 in omega arith
end_within (model.Replace removed inserted ∷ ops) r = let rest = reach_open (model.Replace removed inserted ∷ ops) r in omega arith
end_within (model.Attribute c ∷ ops) r = let rest = reach_open (model.Attribute c ∷ ops) r in omega arith

normal_parts : (t : Transaction) → is_normal t ≡ true → (is_reduced t ≡ true) × (old_length t ≤ 2 ^ 60)
normal_parts t h =
    let p = and_parts (is_reduced t) (nat_le (total_length t) (2 ^ 60)) h in
    let w : total_length t ≤ 2 ^ 60 = leb-true (total_length t) (2 ^ 60) p.1 in
    (p.0, omega arith)

-- so no subtraction goes below 0
pub record IsRoomy (range : ℕ × ℕ) (counted : Totals) : Type 0 where
  pub order : range.0 ≤ range.1
  pub small : range.1 ≤ 2 ^ 60
  pub old : range.0 + counted.end ≤ counted.old
  pub new : range.0 + counted.end ≤ counted.new

pub is_roomy : (tx : List Operation) (counted : Totals) (range : ℕ × ℕ) → counted ≡ with_ops nothing (map bare tx) → is_normal (by_value [] tx) ≡ true →
    Some range ≡ active_range (by_value [] tx) → IsRoomy range counted
is_roomy tx counted range is h some =
    let k = is_counted [] tx counted range is some in
    let s = k.start in
    let f = k.far in
    let n = k.end in
    let o = k.old in
    let w = k.new in
    let p = normal_parts (by_value [] tx) h in
    let room : old_length (by_value [] tx) ≤ 2 ^ 60 = p.1 in
    let e = end_within (by_value [] tx) p.0 in
    record { order = omega arith; small = omega arith; old = omega arith; new = omega arith }
