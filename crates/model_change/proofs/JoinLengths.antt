-- How long what is joined is.
use Rattle.std.proofs.Common.{◌≡◌, ℕ, zero, suc, ◌+◌, ◌-◌, ◌^◌, ◌≤◌, false, nat_le, List, [], ◌∷◌, ◌++◌, length, refl, sym, ◌∙◌, arith, le-leb}
use Rattle.std.proofs.lemmas.Bool.{and_from}
use Rattle.std.proofs.lemmas.List.{length-append}
use Rattle.model_items.specs.declared.plain_item.PlainItem.{PlainItem}
use Rattle.model_change.specs.Transaction.{Retain, Replace, Attribute, Transaction, old_length, new_length, all_inserted, total_length, edited, is_reduced}
use Rattle.model_change.specs.Fault.{Applies}
use Rattle.model_change.specs.Join.{first, last, core, without_end, has_some, is_active, retained, with_ends, conflict, join, JoinsLengths, JoinsNormal}
use Rattle.model_change.proofs.Fits.{parts_of_Applies, gives_new_length}
use Rattle.model_change.proofs.JoinLaw.{JoinedAs, Unmet, FirstIdle, SecondIdle, FirstLeft, SecondLeft, joined_as, joins_agree}
use Rattle.model_change.proofs.JoinNormal.{joins_reduced}

-- how many items it inserts
abbrev inserts : Transaction → ℕ
inserts t = length (all_inserted t)

inserts-append : (s t : Transaction) → inserts (s ++ t) ≡ inserts s + inserts t
inserts-append [] t = omega arith
inserts-append (Retain count ∷ s) t = inserts-append s t
inserts-append (Replace removed inserted ∷ s) t =
    let a = length-append inserted (all_inserted (s ++ t)) in
    let b = length-append inserted (all_inserted s) in
    let rest = inserts-append s t in
    omega arith
inserts-append (Attribute c ∷ s) t = inserts-append s t

inserts-retained : (n : ℕ) → inserts (retained n) ≡ 0
inserts-retained zero = refl
inserts-retained (suc n) = refl

inserts-without_end : (ops : Transaction) → inserts (without_end ops) ≡ inserts ops
inserts-without_end [] = refl
inserts-without_end (Retain count ∷ []) = refl
inserts-without_end (Retain count ∷ (op ∷ ops)) = inserts-without_end (op ∷ ops)
inserts-without_end (Replace removed inserted ∷ ops) =
    let a = length-append inserted (all_inserted (without_end ops)) in
    let b = length-append inserted (all_inserted ops) in
    let rest = inserts-without_end ops in
    omega arith
inserts-without_end (Attribute c ∷ ops) = inserts-without_end ops

inserts-core : (t : Transaction) → inserts (core t) ≡ inserts t
inserts-core [] = refl
inserts-core (Retain count ∷ ops) = inserts-without_end ops
inserts-core (Replace removed inserted ∷ ops) = inserts-without_end (Replace removed inserted ∷ ops)
inserts-core (Attribute c ∷ ops) = inserts-without_end (Attribute c ∷ ops)

inserts-with_ends : (before : ℕ) (t : Transaction) (suffix : ℕ) → inserts (with_ends before (core t) suffix) ≡ inserts t
inserts-with_ends before t suffix =
    let a = inserts-append (retained before) (core t ++ retained suffix) in
    let b = inserts-append (core t) (retained suffix) in
    let c = inserts-retained before in
    let d = inserts-retained suffix in
    let e = inserts-core t in
    omega arith

-- without an operation but retains it inserts nothing
idle_inserts : (t : Transaction) → is_active t ≡ false → inserts t ≡ 0
idle_inserts t idle = sym (inserts-core t) ∙ by_core (core t) idle
  where
    by_core : (ops : Transaction) → has_some ops ≡ false → inserts ops ≡ 0
    by_core [] h = refl
    by_core (op ∷ ops) h = cc

-- what is joined inserts as much as before
module _ (a b : Transaction) where
  inserts_by : (r : Transaction × Transaction) → JoinedAs a b r → (inserts r.0 ≡ inserts a) × (inserts r.1 ≡ inserts b)
  inserts_by r (Unmet none none_too apart) = (refl, refl)
  inserts_by r (FirstIdle idle) = (inserts-retained (new_length b) ∙ sym (idle_inserts a idle), refl)
  inserts_by r (SecondIdle idle) = (refl, inserts-retained (new_length a) ∙ sym (idle_inserts b idle))
  inserts_by r (FirstLeft active active_too near) =
      (inserts-with_ends (first a) a ((last a + new_length b) - old_length b), inserts-with_ends ((first b + new_length a) - old_length a) b (last b))
  inserts_by r (SecondLeft active active_too near) =
      (inserts-with_ends ((first a + new_length b) - old_length b) a (last a), inserts-with_ends (first b) b ((last b + new_length a) - old_length a))

pub joins_insert : (a b : Transaction) → conflict a b ≡ false → (inserts (join a b).0 ≡ inserts a) × (inserts (join a b).1 ≡ inserts b)
joins_insert a b apart = inserts_by a b (join a b) (joined_as a b apart)

-- it gives no longer a list than the old one with what it inserts
new_within : (ops : Transaction) → new_length ops ≤ old_length ops + inserts ops
new_within [] = omega arith
new_within (Retain count ∷ ops) = let rest = new_within ops in omega arith
new_within (Replace removed inserted ∷ ops) =
    let rest = new_within ops in
    let a = length-append inserted (all_inserted ops) in
    omega arith
new_within (Attribute c ∷ ops) = new_within ops

pub new_length_within : (t : Transaction) (items : List PlainItem) → Applies t items → new_length t ≤ length items + inserts t
new_length_within t items applies =
    let p = parts_of_Applies t items applies in
    let n = new_within t in
    omega arith

pub total_within : (t : Transaction) (items : List PlainItem) → Applies t items → total_length t ≡ length items + inserts t
total_within t items applies = let p = parts_of_Applies t items applies in omega arith

pub joins_lengths : JoinsLengths
joins_lengths a b items may =
    let agree = joins_agree a b items may in
    let same = joins_insert a b may.apart in
    let left = total_within (join a b).0 (edited b items) agree.second_then in
    let right = total_within (join a b).1 (edited a items) agree.first_then in
    let a_is = gives_new_length a items may.applies in
    let b_is = gives_new_length b items may.applies_too in
    let one = same.0 in
    let two = same.1 in
    (omega arith, omega arith)

pub joins_normal : JoinsNormal
joins_normal a b items may room =
    let reduced = joins_reduced a b items may in
    let lengths = joins_lengths a b items may in
    let a_in = new_length_within a items may.applies in
    let b_in = new_length_within b items may.applies_too in
    let one = lengths.0 in
    let two = lengths.1 in (
      and_from (is_reduced (join a b).0) (nat_le (total_length (join a b).0) (2 ^ 60)) reduced.0 (le-leb (total_length (join a b).0) (2 ^ 60) (omega arith)),
      and_from (is_reduced (join a b).1) (nat_le (total_length (join a b).1) (2 ^ 60)) reduced.1 (le-leb (total_length (join a b).1) (2 ^ 60) (omega arith)),
    )
