-- The law of joining, by the cases of `join`.
use Rattle.std.proofs.Common.{◌≡◌, ℕ, ◌≤◌, Bool, true, false, not, ◌&&◌, ◌||◌, ◌==◌, nat_le, if◌then◌else◌, List, [], ◌∷◌, ◌++◌, take, drop, refl, sym, ap, ◌∙◌, subst, arith, take-append-drop}
use Rattle.std.proofs.Math.Bool.{and_comm}
use Rattle.std.proofs.lemmas.Bool.{and_parts, not-true, not-false, leb-true}
use Rattle.model_items.specs.declared.plain_item.PlainItem.{PlainItem}
use Rattle.model_items.specs.Same.{Means, text_same}
use Rattle.model_items.proofs.SameLemmas.{Means-nat, Means-text_same}
use Rattle.model_change.specs.Attributes.{AttrChange, adds_or_removes}
use Rattle.model_change.specs.Transaction.{Transaction, new_length, edited}
use Rattle.model_change.specs.Fault.{Applies, placed_changes}
use Rattle.model_change.specs.Join.{first, last, core, has_some, is_active, end_of, start_of, has_replace, has_attribute, is_attribute_transaction, both_attributes, some_meet, overlap, conflict, retained, moved_on, with_new_end, join, meets, meets_one, Agree, JoinsAgree, ConflictIsSymmetric}
use Rattle.model_change.proofs.Fits.{parts_of_Applies, Applies_from, length-edited}
use Rattle.model_change.proofs.JoinLemmas.{HasParts, parts_of, left_agrees, Agree-swap, edited-suffix, edited-with_ends, old_length-retained, Fits-suffix}
use Rattle.model_change.proofs.PlacedLemmas.{attributes_agree}

no_core : (ops : Transaction) → has_some ops ≡ false → ops ≡ []
no_core [] h = refl
no_core (op ∷ ops) h = cc

no_replace : (t : Transaction) → is_attribute_transaction t ≡ true → has_replace t ≡ false
no_replace t h = not-true (has_replace t) (and_parts (has_attribute t) (not (has_replace t)) h).1

-- the five ways in which two transactions without conflict are joined
pub data JoinedAs (a b : Transaction) : Transaction × Transaction → Type 0 where
  Unmet : has_replace a ≡ false → has_replace b ≡ false → some_meet (placed_changes 0 a) (placed_changes 0 b) ≡ false → JoinedAs a b (a, b)
  FirstIdle : is_active a ≡ false → JoinedAs a b (retained (new_length b), b)
  SecondIdle : is_active b ≡ false → JoinedAs a b (a, retained (new_length a))
  FirstLeft : is_active a ≡ true → is_active b ≡ true → end_of a ≤ start_of b → JoinedAs a b (with_new_end a b, moved_on b a)
  SecondLeft : is_active a ≡ true → is_active b ≡ true → end_of b ≤ start_of a → JoinedAs a b (moved_on a b, with_new_end b a)

module _ (a b : Transaction) where
  by_sides : (left : Bool) → nat_le (end_of a) (start_of b) ≡ left → not left && not (nat_le (end_of b) (start_of a)) ≡ false → is_active a ≡ true → is_active b ≡ true →
      JoinedAs a b (if left then (with_new_end a b, moved_on b a) else (moved_on a b, with_new_end b a))
  by_sides true e apart active active_too = FirstLeft active active_too (leb-true (end_of a) (start_of b) e)
  by_sides false e apart active active_too =
      SecondLeft active active_too (leb-true (end_of b) (start_of a) (not-false (nat_le (end_of b) (start_of a)) apart))

  by_activity : (act act_too : Bool) → is_active a ≡ act → is_active b ≡ act_too →
      (act && act_too) && (not (nat_le (end_of a) (start_of b)) && not (nat_le (end_of b) (start_of a))) ≡ false →
      JoinedAs a b (if not act then (retained (new_length b), b)
      else (if not act_too then (a, retained (new_length a))
      else (if nat_le (end_of a) (start_of b)
      then (with_new_end a b, moved_on b a)
      else (moved_on a b, with_new_end b a))))
  by_activity false act_too e f apart = FirstIdle e
  by_activity true false e f apart = SecondIdle f
  by_activity true true e f apart = by_sides (nat_le (end_of a) (start_of b)) refl apart e f

  by_kind : (both : Bool) → both_attributes a b ≡ both →
      (if both then some_meet (placed_changes 0 a) (placed_changes 0 b) else overlap a b) ≡ false →
      JoinedAs a b (if both then (a, b)
      else (if not (is_active a) then (retained (new_length b), b)
      else (if not (is_active b) then (a, retained (new_length a))
      else (if nat_le (end_of a) (start_of b)
      then (with_new_end a b, moved_on b a)
      else (moved_on a b, with_new_end b a)))))
  by_kind true e free =
      let p = and_parts (is_attribute_transaction a) (is_attribute_transaction b) e in
      Unmet (no_replace a p.0) (no_replace b p.1) free
  by_kind false e free = by_activity (is_active a) (is_active b) refl refl free

  pub joined_as : conflict a b ≡ false → JoinedAs a b (join a b)
  joined_as free = by_kind (both_attributes a b) refl free

-- a transaction without an operation but retains changes nothing
pub inactive_keeps : (t : Transaction) (items : List PlainItem) → HasParts t items → is_active t ≡ false → edited t items ≡ items
inactive_keeps t items parts h =
    ap (λ u. edited u items) (sym parts.split)
    ∙ edited-with_ends (first t) (core t) (last t) items
    ∙ ap (λ ops. take (first t) items ++ edited ops (drop (first t) items)) (no_core (core t) h)
    ∙ take-append-drop (first t) items

inactive_agrees : (a b : Transaction) (items : List PlainItem) → HasParts a items → Applies b items → is_active a ≡ false →
    Agree a b (retained (new_length b)) b items
inactive_agrees a b items pa applies h =
    let kept = inactive_keeps a items pa h in
    let p = parts_of_Applies b items applies in
    let grown = length-edited b items p.1 (omega arith) in
    let long = old_length-retained (new_length b) in
    record {
      first_then = subst (λ l. Applies b l) (sym kept) applies;
      second_then = Applies_from (retained (new_length b)) (edited b items) (omega arith) (subst (λ P. P) (sym (Fits-suffix [] (new_length b) (edited b items))) tt);
      one_list = ap (edited b) kept ∙ sym (edited-suffix [] (new_length b) (edited b items));
    }

module _ (a b : Transaction) (items : List PlainItem) (pa : HasParts a items) (pb : HasParts b items) (applies : Applies a items) (applies_too : Applies b items) where
  agree_by : (r : Transaction × Transaction) → JoinedAs a b r → Agree a b r.0 r.1 items
  agree_by r (Unmet none none_too apart) = attributes_agree a b items none none_too apart applies applies_too
  agree_by r (FirstIdle idle) = inactive_agrees a b items pa applies_too idle
  agree_by r (SecondIdle idle) = Agree-swap b a (retained (new_length a)) a items (inactive_agrees b a items pb applies idle)
  agree_by r (FirstLeft active active_too near) = left_agrees a b items pa pb near
  agree_by r (SecondLeft active active_too near) = Agree-swap b a (with_new_end b a) (moved_on a b) items (left_agrees b a items pb pa near)

pub joins_agree : JoinsAgree
joins_agree a b items may =
    agree_by
    a
    b
    items
    (parts_of a items may.reduced may.applies)
    (parts_of b items may.reduced_too may.applies_too)
    may.applies
    may.applies_too
    (join a b)
    (joined_as a b may.apart)

-- conflict is symmetric

Means-swap : {A : Type 0} (same : A → A → Bool) → Means same → (x y : A) → same x y ≡ same y x
Means-swap same m x y = by_test (same x y) (same y x) refl refl
  where
    by_test : (b c : Bool) → same x y ≡ b → same y x ≡ c → b ≡ c
    by_test true true p q = refl
    by_test false false p q = refl
    by_test true false p q = let e = m.equal x y p in absurd (let f : same y x ≡ true = rw e (m.itself y) in cc)
    by_test false true p q = let e = m.equal y x q in absurd (let f : same x y ≡ true = rw e (m.itself x) in cc)

meets_swap : (c d : ℕ × AttrChange) → meets c d ≡ meets d c
meets_swap c d =
    rw (Means-swap (λ x y. x == y) Means-nat c.0 d.0, Means-swap text_same Means-text_same c.1.name d.1.name, and_comm (adds_or_removes c.1) (adds_or_removes d.1))

or_shuffle : (a b c d : Bool) → ((a || b) || (c || d)) ≡ ((a || c) || (b || d))
or_shuffle true b c d = refl
or_shuffle false true true d = refl
or_shuffle false true false d = refl
or_shuffle false false true d = refl
or_shuffle false false false d = refl

some_meet-nil : (cs : List (ℕ × AttrChange)) → some_meet cs [] ≡ false
some_meet-nil [] = refl
some_meet-nil (c ∷ cs) = some_meet-nil cs

some_meet-cons : (d : ℕ × AttrChange) (cs ds : List (ℕ × AttrChange)) → some_meet cs (d ∷ ds) ≡ (meets_one d cs || some_meet cs ds)
some_meet-cons d [] ds = refl
some_meet-cons d (c ∷ cs) ds =
    rw (some_meet-cons d cs ds, meets_swap c d) (or_shuffle (meets d c) (meets_one c ds) (meets_one d cs) (some_meet cs ds))

pub some_meet_swap : (cs ds : List (ℕ × AttrChange)) → some_meet cs ds ≡ some_meet ds cs
some_meet_swap cs [] = some_meet-nil cs
some_meet_swap cs (d ∷ ds) = some_meet-cons d cs ds ∙ ap (λ b. meets_one d cs || b) (some_meet_swap cs ds)

pub conflict_swap : ConflictIsSymmetric
conflict_swap a b =
    rw (
      and_comm (is_attribute_transaction a) (is_attribute_transaction b),
      some_meet_swap (placed_changes 0 a) (placed_changes 0 b),
      and_comm (is_active a) (is_active b),
      and_comm (not (nat_le (end_of a) (start_of b))) (not (nat_le (end_of b) (start_of a))),
    )
