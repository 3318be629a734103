-- Joined transactions are in normal form.
use Rattle.std.proofs.Common.{◌≡◌, ℕ, zero, suc, ◌+◌, ◌-◌, ◌<◌, ◌≤◌, max, true, not, ◌&&◌, List, [], ◌∷◌, ◌++◌, length, drop, refl, sym, subst, arith, lt-ltb}
use Rattle.std.proofs.lemmas.Bool.{and_parts, and_from}
use Rattle.std.proofs.lemmas.List.{length-drop}
use Rattle.model_items.specs.declared.plain_item.PlainItem.{PlainItem}
use Rattle.model_items.specs.Same.{text_same}
use Rattle.model_change.specs.Attributes.{AttrChange, item_changed}
use Rattle.model_change.specs.Transaction.{Op, Retain, Replace, Attribute, Transaction, old_length, new_length, edited, is_something, may_precede, is_reduced}
use Rattle.model_change.specs.Fault.{Applies}
use Rattle.model_change.specs.Join.{first, without_first, end_retain, without_end, last, core, has_some, is_active, reach, retained, with_ends, join, Agree, JoinsReduced}
use Rattle.model_change.proofs.Fits.{Fits, parts_of_Applies}
use Rattle.model_change.proofs.InverseLemmas.{reduced_parts}
use Rattle.model_change.proofs.JoinLemmas.{end_split, old_length-with_ends, Fits-with_ends}
use Rattle.model_change.proofs.JoinLaw.{JoinedAs, Unmet, FirstIdle, SecondIdle, FirstLeft, SecondLeft, joined_as, joins_agree}

pub reduced_from : (op : Op) (ops : Transaction) → is_something op ≡ true → may_precede op ops ≡ true → is_reduced ops ≡ true → is_reduced (op ∷ ops) ≡ true
reduced_from op ops p q r = and_from (is_something op) (may_precede op ops && is_reduced ops) p (and_from (may_precede op ops) (is_reduced ops) q r)

some_retain : (n : ℕ) → is_something (Retain (suc n)) ≡ true
some_retain n = lt-ltb 0 (suc n) (omega arith)

reduced-retained : (n : ℕ) → is_reduced (retained n) ≡ true
reduced-retained zero = refl
reduced-retained (suc n) = reduced_from (Retain (suc n)) [] (some_retain n) refl refl

-- operations that fit reach no further than the list
pub reach_within : (ops : Transaction) (items : List PlainItem) → Fits ops items → old_length ops ≤ length items → reach ops ≤ length items
reach_within [] items fits le = omega arith
reach_within (Retain n ∷ ops) items fits le =
    let cut : length (drop n items) ≡ length items - n = length-drop n items in
    let rest = reach_within ops (drop n items) fits (omega arith) in omega arith
reach_within (Replace removed inserted ∷ ops) items fits le =
    let cut : length (drop (length removed) items) ≡ length items - length removed = length-drop (length removed) items in
    let rest = reach_within ops (drop (length removed) items) fits.1 (omega arith) in omega arith
reach_within (Attribute c ∷ ops) [] fits le = absurd (let e = fits.0 in cc)
reach_within (Attribute c ∷ ops) (item ∷ items) fits le =
    let rest = reach_within ops (item_changed c item ∷ items) fits.1 le in omega arith

-- so an attribute operation at the end is followed by a retain
retains_after : (before : ℕ) (ops : Transaction) (suffix : ℕ) (items : List PlainItem) → Applies (with_ends before ops suffix) items → old_length ops < reach ops → 1 ≤ suffix
retains_after before ops suffix items applies needs =
    let p = parts_of_Applies (with_ends before ops suffix) items applies in
    let whole = old_length-with_ends before ops suffix in
    let fits : Fits ops (drop before items) = subst (λ P. P) (Fits-with_ends before ops suffix items) p.1 in
    let cut : length (drop before items) ≡ length items - before = length-drop before items in
    let within = reach_within ops (drop before items) fits (omega arith) in
    omega arith

-- another retain at the end

attribute_precedes : (c : AttrChange) (ops : Transaction) (n n' : ℕ) → (old_length ops < max 1 (reach ops) → 1 ≤ n') →
    may_precede (Attribute c) (ops ++ retained n) ≡ true → may_precede (Attribute c) (ops ++ retained n') ≡ true
attribute_precedes c [] n zero needs h = absurd (let e : 1 ≤ 0 = needs (omega arith) in omega arith)
attribute_precedes c [] n (suc n') needs h = refl
attribute_precedes c (Retain count ∷ ops) n n' needs h = refl
attribute_precedes c (Replace removed inserted ∷ ops) n n' needs h = h
attribute_precedes c (Attribute d ∷ ops) n n' needs h =
    let p = and_parts (not (text_same c.name d.name)) (may_precede (Attribute c) (ops ++ retained n)) h in
    and_from (not (text_same c.name d.name)) (may_precede (Attribute c) (ops ++ retained n')) p.0
    (attribute_precedes c ops n n' (λ lt. needs (omega arith)) p.1)

retain_precedes : (count : ℕ) (op : Op) (ops rest : Transaction) → may_precede (Retain count) (op ∷ ops) ≡ true → may_precede (Retain count) (op ∷ rest) ≡ true
retain_precedes count (Retain n) ops rest h = h
retain_precedes count (Replace removed inserted) ops rest h = refl
retain_precedes count (Attribute c) ops rest h = refl

replace_precedes : (removed inserted : List PlainItem) (ops : Transaction) (n n' : ℕ) →
    may_precede (Replace removed inserted) (ops ++ retained n) ≡ true → may_precede (Replace removed inserted) (ops ++ retained n') ≡ true
replace_precedes removed inserted [] n zero h = refl
replace_precedes removed inserted [] n (suc n') h = refl
replace_precedes removed inserted (Retain count ∷ ops) n n' h = refl
replace_precedes removed inserted (Replace other others ∷ ops) n n' h = h
replace_precedes removed inserted (Attribute c ∷ ops) n n' h = refl

end_changed : (ops : Transaction) (n n' : ℕ) → end_retain ops ≡ 0 → (old_length ops < reach ops → 1 ≤ n') →
    is_reduced (ops ++ retained n) ≡ true → is_reduced (ops ++ retained n') ≡ true
end_changed [] n n' closed needs h = reduced-retained n'
end_changed (Retain zero ∷ []) n n' closed needs h = absurd (let e = (reduced_parts (Retain zero) (retained n) h).0 in cc)
end_changed (Retain (suc k) ∷ []) n n' closed needs h = absurd (omega arith)
end_changed (Retain k ∷ (op ∷ ops)) n n' closed needs h =
    let p = reduced_parts (Retain k) (op ∷ (ops ++ retained n)) h in
    reduced_from (Retain k) (op ∷ (ops ++ retained n')) p.0 (retain_precedes k op (ops ++ retained n) (ops ++ retained n') p.1)
    (end_changed (op ∷ ops) n n' closed (λ lt. needs (omega arith)) p.2)
end_changed (Replace removed inserted ∷ ops) n n' closed needs h =
    let p = reduced_parts (Replace removed inserted) (ops ++ retained n) h in
    reduced_from (Replace removed inserted) (ops ++ retained n') p.0 (replace_precedes removed inserted ops n n' p.1)
    (end_changed ops n n' closed (λ lt. needs (omega arith)) p.2)
end_changed (Attribute c ∷ ops) n n' closed needs h =
    let p = reduced_parts (Attribute c) (ops ++ retained n) h in
    reduced_from (Attribute c) (ops ++ retained n') p.0 (attribute_precedes c ops n n' needs p.1)
    (end_changed ops n n' closed (λ lt. needs (omega arith)) p.2)

-- the middle neither begins nor ends with a retain

end_retain-without_end : (ops : Transaction) → is_reduced ops ≡ true → end_retain (without_end ops) ≡ 0
end_retain-without_end [] h = refl
end_retain-without_end (Retain n ∷ []) h = refl
end_retain-without_end (Retain n ∷ (Retain m ∷ ops)) h = absurd (let e = (reduced_parts (Retain n) (Retain m ∷ ops) h).1 in cc)
end_retain-without_end (Retain n ∷ (Replace removed inserted ∷ ops)) h = end_retain-without_end (Replace removed inserted ∷ ops) (reduced_parts (Retain n) (Replace removed inserted ∷ ops) h).2
end_retain-without_end (Retain n ∷ (Attribute c ∷ ops)) h = end_retain-without_end (Attribute c ∷ ops) (reduced_parts (Retain n) (Attribute c ∷ ops) h).2
end_retain-without_end (Replace removed inserted ∷ ops) h = end_retain-without_end ops (reduced_parts (Replace removed inserted) ops h).2
end_retain-without_end (Attribute c ∷ ops) h = end_retain-without_end ops (reduced_parts (Attribute c) ops h).2

reduced-without_first : (t : Transaction) → is_reduced t ≡ true → is_reduced (without_first t) ≡ true
reduced-without_first [] h = refl
reduced-without_first (Retain n ∷ ops) h = (reduced_parts (Retain n) ops h).2
reduced-without_first (Replace removed inserted ∷ ops) h = h
reduced-without_first (Attribute c ∷ ops) h = h

begins_apart : (t : Transaction) (n : ℕ) → is_reduced t ≡ true → may_precede (Retain n) (without_first t) ≡ true
begins_apart [] n h = refl
begins_apart (Retain k ∷ ops) n h = same_precede ops (reduced_parts (Retain k) ops h).1
  where
    same_precede : (ops : Transaction) → may_precede (Retain k) ops ≡ true → may_precede (Retain n) ops ≡ true
    same_precede [] h = refl
    same_precede (Retain m ∷ ops) h = h
    same_precede (Replace removed inserted ∷ ops) h = refl
    same_precede (Attribute c ∷ ops) h = refl
begins_apart (Replace removed inserted ∷ ops) n h = refl
begins_apart (Attribute c ∷ ops) n h = refl

middle_apart : (ops : Transaction) (n : ℕ) (rest : Transaction) → may_precede (Retain n) ops ≡ true → has_some (without_end ops) ≡ true → may_precede (Retain n) (without_end ops ++ rest) ≡ true
middle_apart [] n rest h some = cc
middle_apart (Retain k ∷ []) n rest h some = cc
middle_apart (Retain k ∷ (op ∷ ops)) n rest h some = h
middle_apart (Replace removed inserted ∷ ops) n rest h some = refl
middle_apart (Attribute c ∷ ops) n rest h some = refl

-- a transaction's middle between two other retains
pub reshaped_reduced : (t : Transaction) (before suffix : ℕ) → is_reduced t ≡ true → is_active t ≡ true → (old_length (core t) < reach (core t) → 1 ≤ suffix) →
    is_reduced (with_ends before (core t) suffix) ≡ true
reshaped_reduced t before suffix reduced active needs =
    let inner = reduced-without_first t reduced in
    let middle : is_reduced (core t ++ retained suffix) ≡ true =
    end_changed (core t) (last t) suffix (end_retain-without_end (without_first t) inner) needs
    (subst (λ ops. is_reduced ops ≡ true) (sym (end_split (without_first t) inner)) inner) in
    followed_by before middle
  where
    followed_by : (n : ℕ) → is_reduced (core t ++ retained suffix) ≡ true → is_reduced (retained n ++ (core t ++ retained suffix)) ≡ true
    followed_by zero middle = middle
    followed_by (suc n) middle = reduced_from (Retain (suc n)) (core t ++ retained suffix) (some_retain n) (middle_apart (without_first t) (suc n) (retained suffix) (begins_apart t (suc n) reduced) active) middle

module _ (a b : Transaction) (items : List PlainItem) (reduced : is_reduced a ≡ true) (reduced_too : is_reduced b ≡ true) where
  reshaped_second : (f l : ℕ) → is_active b ≡ true → Applies (with_ends f (core b) l) (edited a items) → is_reduced (with_ends f (core b) l) ≡ true
  reshaped_second f l active applies = reshaped_reduced b f l reduced_too active (retains_after f (core b) l (edited a items) applies)

  reshaped_first : (f l : ℕ) → is_active a ≡ true → Applies (with_ends f (core a) l) (edited b items) → is_reduced (with_ends f (core a) l) ≡ true
  reshaped_first f l active applies = reshaped_reduced a f l reduced active (retains_after f (core a) l (edited b items) applies)

  reduced_by : (r : Transaction × Transaction) → JoinedAs a b r → Agree a b r.0 r.1 items → (is_reduced r.0 ≡ true) × (is_reduced r.1 ≡ true)
  reduced_by r (Unmet none none_too apart) agree = (reduced, reduced_too)
  reduced_by r (FirstIdle idle) agree = (reduced-retained (new_length b), reduced_too)
  reduced_by r (SecondIdle idle) agree = (reduced, reduced-retained (new_length a))
  reduced_by r (FirstLeft active active_too near) agree = (
    reshaped_first (first a) ((last a + new_length b) - old_length b) active agree.second_then,
    reshaped_second ((first b + new_length a) - old_length a) (last b) active_too agree.first_then,
  )
  reduced_by r (SecondLeft active active_too near) agree = (
    reshaped_first ((first a + new_length b) - old_length b) (last a) active agree.second_then,
    reshaped_second (first b) ((last b + new_length a) - old_length a) active_too agree.first_then,
  )

pub joins_reduced : JoinsReduced
joins_reduced a b items may =
    reduced_by a b items may.reduced may.reduced_too (join a b) (joined_as a b may.apart) (joins_agree a b items may)
