-- The lengths of what joining makes of two transactions on lists of one length.
use Rattle.std.proofs.Common.{◌≡◌, ◌≤◌, ℕ, ◌+◌, ◌-◌, true, false, [], ◌∷◌, refl, sym, ap, ◌∙◌, arith}
use Rattle.model_change.specs.Transaction.{Retain, Replace, Attribute, Transaction, old_length, new_length, is_reduced}
use Rattle.model_change.specs.Join.{first, last, core, reach, retained, with_ends, has_replace, is_active, start_of, end_of, conflict, join, moved_on, with_new_end}
use Rattle.model_change.proofs.JoinLaw.{JoinedAs, Unmet, FirstIdle, SecondIdle, FirstLeft, SecondLeft, joined_as}
use Rattle.ve_rebase.specs.Span.{old_size, new_size}
use Rattle.ve_rebase.proofs.SpanLemmas.{old-spans, new-spans, span-ends, span-retained}
use Rattle.ve_rebase.proofs.PairLemmas.{no_core}

old-reach : (ops : Transaction) → old_length ops ≤ reach ops
old-reach [] = omega arith
old-reach (Retain count ∷ ops) = let h = old-reach ops in omega arith
old-reach (Replace removed inserted ∷ ops) = let h = old-reach ops in omega arith
old-reach (Attribute c ∷ ops) = let h = old-reach ops in omega arith

-- without a replace the length stays
same_length : (ops : Transaction) → has_replace ops ≡ false → new_length ops ≡ old_length ops
same_length [] h = refl
same_length (Retain count ∷ ops) h = let r = same_length ops h in omega arith
same_length (Replace removed inserted ∷ ops) h = absurd (cc)
same_length (Attribute c ∷ ops) h = same_length ops h

idle_length : (t : Transaction) → is_active t ≡ false → new_length t ≡ old_length t
idle_length t idle =
    let o = old-spans t in
    let n = new-spans t in
    let e = no_core (core t) idle in
    let i : new_length (core t) ≡ 0 = ap new_length e in
    let r : old_length (core t) ≡ 0 = ap old_length e in
    omega arith

-- a transaction's length between other ends
old_ends : (t : Transaction) (f l : ℕ) → is_reduced t ≡ true → is_active t ≡ true → old_length (with_ends f (core t) l) ≡ f + (old_length (core t) + l)
old_ends t f l h active = old-spans (with_ends f (core t) l) ∙ ap old_size (span-ends t f l h active)

new_ends : (t : Transaction) (f l : ℕ) → is_reduced t ≡ true → is_active t ≡ true → new_length (with_ends f (core t) l) ≡ f + (new_length (core t) + l)
new_ends t f l h active = new-spans (with_ends f (core t) l) ∙ ap new_size (span-ends t f l h active)

retained_lengths : (n : ℕ) → (old_length (retained n) ≡ n) × (new_length (retained n) ≡ n)
retained_lengths n =
    let s = span-retained n in
    let o : old_length (retained n) ≡ n + (0 + 0) = old-spans (retained n) ∙ ap old_size s in
    let e : new_length (retained n) ≡ n + (0 + 0) = new-spans (retained n) ∙ ap new_size s in
    (omega arith, omega arith)

-- each is on the list that the other gives, and one length comes of both, at most their lengths
-- together
pub record HasLengths (a b made made_too : Transaction) : Type 0 where
  pub first : old_length made ≡ new_length b
  pub second : old_length made_too ≡ new_length a
  pub one : new_length made ≡ new_length made_too
  pub small : new_length made ≤ new_length a + new_length b

-- one that stands wholly before another
left_lengths : (a b : Transaction) → is_reduced a ≡ true → is_reduced b ≡ true → old_length a ≡ old_length b → is_active a ≡ true → is_active b ≡ true →
    end_of a ≤ start_of b → HasLengths a b (with_new_end a b) (moved_on b a)
left_lengths a b h k one active active_too near =
    let ao = old-spans a in
    let an = new-spans a in
    let bo = old-spans b in
    let bn = new-spans b in
    let far : first a + reach (core a) ≤ first b = near in
    let r = old-reach (core a) in
    let x = old_ends a (first a) ((last a + new_length b) - old_length b) h active in
    let y = old_ends b ((first b + new_length a) - old_length a) (last b) k active_too in
    let u = new_ends a (first a) ((last a + new_length b) - old_length b) h active in
    let v = new_ends b ((first b + new_length a) - old_length a) (last b) k active_too in
    record { first = omega arith; second = omega arith; one = omega arith; small = omega arith }

right_lengths : (a b : Transaction) → is_reduced a ≡ true → is_reduced b ≡ true → old_length a ≡ old_length b → is_active a ≡ true → is_active b ≡ true →
    end_of b ≤ start_of a → HasLengths a b (moved_on a b) (with_new_end b a)
right_lengths a b h k one active active_too near =
    let r = left_lengths b a k h (sym one) active_too active near in
    let x = r.first in
    let y = r.second in
    let u = r.one in
    let v = r.small in
    record { first = omega arith; second = omega arith; one = omega arith; small = omega arith }

module _ (a b : Transaction) (h : is_reduced a ≡ true) (k : is_reduced b ≡ true) (one : old_length a ≡ old_length b) where
  lengths_by : (r : Transaction × Transaction) → JoinedAs a b r → HasLengths a b r.0 r.1
  lengths_by r (Unmet none none_too apart) =
      let x = same_length a none in
      let y = same_length b none_too in
      record { first = omega arith; second = omega arith; one = omega arith; small = omega arith }
  lengths_by r (FirstIdle idle) =
      let x = idle_length a idle in
      let n = retained_lengths (new_length b) in
      let o = n.0 in
      let e = n.1 in
      record { first = omega arith; second = omega arith; one = omega arith; small = omega arith }
  lengths_by r (SecondIdle idle) =
      let x = idle_length b idle in
      let n = retained_lengths (new_length a) in
      let o = n.0 in
      let e = n.1 in
      record { first = omega arith; second = omega arith; one = omega arith; small = omega arith }
  lengths_by r (FirstLeft active active_too near) = left_lengths a b h k one active active_too near
  lengths_by r (SecondLeft active active_too near) = right_lengths a b h k one active active_too near

pub lengths_joined : (a b : Transaction) → is_reduced a ≡ true → is_reduced b ≡ true → old_length a ≡ old_length b → conflict a b ≡ false →
    HasLengths a b (join a b).0 (join a b).1
lengths_joined a b h k one apart = lengths_by a b h k one (join a b) (joined_as a b apart)
