-- Positions through a transaction, and when two texts match.
use Rattle.std.proofs.Common.{◌≡◌, ℕ, zero, suc, ◌+◌, ◌-◌, ◌<◌, ◌≤◌, Bool, true, false, nat_lt, nat_le, ◌&&◌, if◌then◌else◌, Option, Some, None, option_map, List, [], ◌∷◌, ◌++◌, length, refl, sym, ap, ◌∙◌, subst, ◌⊎◌, inl, inr, arith}
use Rattle.std.proofs.lemmas.Bool.{ltb-true, lt-ltb, leb-true, and_parts, true≢false}
use Rattle.std.proofs.lemmas.Option.{same_Some, none-some}
use Rattle.model_change.specs.Transaction.{Retain, Replace, Attribute, Transaction}
use Rattle.model_change.specs.Inverse.{attribute_ops, inverse_after, inverse}
use Rattle.model_change.specs.Attributes.{AttrChange, change_back}
use Rattle.model_change.specs.Touch.{new_place, or_next, first_retained, lies_in}

-- a position in a block of m items that stays in front of (or is) what follows
abbrev pub moved_by : ℕ → Option ℕ → Option ℕ
moved_by n o = option_map (λ p. n + p) o

data Split (m n p q : ℕ) (ops : Transaction) : Type 0 where
  beyond : (p' q' : ℕ) → p ≡ m + p' → q ≡ n + q' → new_place ops p' ≡ Some q' → Split m n p q ops

split_moved : (m n p q : ℕ) (ops : Transaction) → m ≤ p → moved_by n (new_place ops (p - m)) ≡ Some q → Split m n p q ops
split_moved m n p q ops h e = go (new_place ops (p - m)) refl e
  where
    go : (o : Option ℕ) → new_place ops (p - m) ≡ o → moved_by n o ≡ Some q → Split m n p q ops
    go None e0 e1 = absurd (none-some q e1)
    go (Some q') e0 e1 = let s = same_Some (n + q') q e1 in beyond (p - m) q' (omega (arith, h)) (sym s) e0

pub le_from_false : (p c : ℕ) → nat_lt p c ≡ false → c ≤ p
le_from_false p c h = grind (arith, h)

pub if_lt : {A : Type 0} (p c : ℕ) (x y : A) → p < c → (if nat_lt p c then x else y) ≡ x
if_lt p c x y h = ap (λ b. if b then x else y) (lt-ltb p c h)

pub if_ge : {A : Type 0} (p c : ℕ) (x y : A) → c ≤ p → (if nat_lt p c then x else y) ≡ y
if_ge p c x y h = go (nat_lt p c) refl
  where
    go : (b : Bool) → nat_lt p c ≡ b → (if b then x else y) ≡ y
    go true e = let l = ltb-true p c e in absurd (omega (arith, h, l))
    go false e = refl

-- a retained position is kept, or lies beyond
cases_retain : (c p q : ℕ) (ops : Transaction) → new_place (Retain c ∷ ops) p ≡ Some q → ((p < c) × (q ≡ p)) ⊎ Split c c p q ops
cases_retain c p q ops e = go (nat_lt p c) refl
  where
    go : (b : Bool) → nat_lt p c ≡ b → ((p < c) × (q ≡ p)) ⊎ Split c c p q ops
    go true h = let l = ltb-true p c h in inl (l, sym (same_Some p q (sym (if_lt p c (Some p) (moved_by c (new_place ops (p - c))) l) ∙ e)))
    go false h =
        let ge : c ≤ p = le_from_false p c h in
        inr (split_moved c c p q ops ge (sym (if_ge p c (Some p) (moved_by c (new_place ops (p - c))) ge) ∙ e))

cases_replace : (m n p q : ℕ) (ops : Transaction) → (if nat_lt p m then None else moved_by n (new_place ops (p - m))) ≡ Some q → Split m n p q ops
cases_replace m n p q ops e = go (nat_lt p m) refl
  where
    go : (b : Bool) → nat_lt p m ≡ b → Split m n p q ops
    go true h = absurd (none-some q (sym (if_lt p m None (moved_by n (new_place ops (p - m))) (ltb-true p m h)) ∙ e))
    go false h = let ge : m ≤ p = le_from_false p m h in split_moved m n p q ops ge (sym (if_ge p m None (moved_by n (new_place ops (p - m))) ge) ∙ e)

-- and the other way round
pub beyond_block : (m n p' q' : ℕ) (x : Option ℕ) (ops : Transaction) → new_place ops p' ≡ Some q' →
    (if nat_lt (m + p') m then x else moved_by n (new_place ops ((m + p') - m))) ≡ Some (n + q')
beyond_block m n p' q' x ops e =
    if_ge (m + p') m x (moved_by n (new_place ops ((m + p') - m))) (omega arith)
    ∙ ap (λ k. moved_by n (new_place ops k)) less ∙ ap (moved_by n) e
  where
    less : (m + p') - m ≡ p'
    less = omega arith

past_attributes : (changes : List AttrChange) (ops : Transaction) (p : ℕ) → new_place (attribute_ops changes ++ ops) p ≡ new_place ops p
past_attributes [] ops p = refl
past_attributes (c ∷ changes) ops p = past_attributes changes ops p

only_attributes : (changes : List AttrChange) (p : ℕ) → new_place (attribute_ops changes) p ≡ None
only_attributes [] p = refl
only_attributes (c ∷ changes) p = only_attributes changes p

-- a retained item's new position is, for the inverse, retained to the old one
pub place_back : (t : Transaction) (changes : List AttrChange) (p q : ℕ) → new_place t p ≡ Some q → new_place (inverse_after changes t) q ≡ Some p
place_back [] changes p q e = absurd (none-some q e)
place_back (Attribute change ∷ ops) changes p q e = place_back ops (change_back change ∷ changes) p q e
place_back (Retain c ∷ ops) changes p q e =
    past_attributes changes (Retain c ∷ inverse_after [] ops) q ∙ retained_back c ops p q (cases_retain c p q ops e) (place_back ops [])
  where
    retained_back : (c : ℕ) (ops : Transaction) (p q : ℕ) → ((p < c) × (q ≡ p)) ⊎ Split c c p q ops →
        ((p q : ℕ) → new_place ops p ≡ Some q → new_place (inverse_after [] ops) q ≡ Some p) → new_place (Retain c ∷ inverse_after [] ops) q ≡ Some p
    retained_back c ops p q (inl h) rec =
        let l : q < c = subst (λ k. k < c) (sym h.1) h.0 in
        if_lt q c (Some q) (moved_by c (new_place (inverse_after [] ops) (q - c))) l ∙ ap (λ (k : ℕ). Some k) h.1
    retained_back c ops p q (inr (beyond p' q' hp hq e')) rec =
        subst (λ k. new_place (Retain c ∷ inverse_after [] ops) k ≡ Some p) (sym hq)
        (beyond_block c c q' p' (Some (c + q')) (inverse_after [] ops) (rec p' q' e') ∙ ap (λ (k : ℕ). Some k) (sym hp))
place_back (Replace removed inserted ∷ ops) changes p q e =
    past_attributes changes (Replace inserted removed ∷ inverse_after [] ops) q
    ∙ replaced_back (cases_replace (length removed) (length inserted) p q ops e) (place_back ops [])
  where
    replaced_back : Split (length removed) (length inserted) p q ops →
        ((p q : ℕ) → new_place ops p ≡ Some q → new_place (inverse_after [] ops) q ≡ Some p) → new_place (Replace inserted removed ∷ inverse_after [] ops) q ≡ Some p
    replaced_back (beyond p' q' hp hq e') rec =
        subst (λ k. new_place (Replace inserted removed ∷ inverse_after [] ops) k ≡ Some p) (sym hq)
        (beyond_block (length inserted) (length removed) q' p' None (inverse_after [] ops) (rec p' q' e') ∙ ap (λ (k : ℕ). Some k) (sym hp))

pub place_forth : (t : Transaction) (changes : List AttrChange) (q p : ℕ) → new_place (inverse_after changes t) q ≡ Some p → new_place t p ≡ Some q
place_forth [] changes q p e = absurd (none-some p (sym (only_attributes changes q) ∙ e))
place_forth (Attribute change ∷ ops) changes q p e = place_forth ops (change_back change ∷ changes) q p e
place_forth (Retain c ∷ ops) changes q p e =
    retained_forth (cases_retain c q p (inverse_after [] ops) (sym (past_attributes changes (Retain c ∷ inverse_after [] ops) q) ∙ e)) (place_forth ops [])
  where
    retained_forth : ((q < c) × (p ≡ q)) ⊎ Split c c q p (inverse_after [] ops) →
        ((q p : ℕ) → new_place (inverse_after [] ops) q ≡ Some p → new_place ops p ≡ Some q) → new_place (Retain c ∷ ops) p ≡ Some q
    retained_forth (inl h) rec =
        let l : p < c = subst (λ k. k < c) (sym h.1) h.0 in
        if_lt p c (Some p) (moved_by c (new_place ops (p - c))) l ∙ ap (λ (k : ℕ). Some k) h.1
    retained_forth (inr (beyond q' p' hq hp e')) rec =
        subst (λ k. new_place (Retain c ∷ ops) k ≡ Some q) (sym hp)
        (beyond_block c c p' q' (Some (c + p')) ops (rec q' p' e') ∙ ap (λ (k : ℕ). Some k) (sym hq))
place_forth (Replace removed inserted ∷ ops) changes q p e =
    replaced_forth (cases_replace (length inserted) (length removed) q p (inverse_after [] ops)
    (sym (past_attributes changes (Replace inserted removed ∷ inverse_after [] ops) q) ∙ e)) (place_forth ops [])
  where
    replaced_forth : Split (length inserted) (length removed) q p (inverse_after [] ops) →
        ((q p : ℕ) → new_place (inverse_after [] ops) q ≡ Some p → new_place ops p ≡ Some q) → new_place (Replace removed inserted ∷ ops) p ≡ Some q
    replaced_forth (beyond q' p' hq hp e') rec =
        subst (λ k. new_place (Replace removed inserted ∷ ops) k ≡ Some q) (sym hp)
        (beyond_block (length removed) (length inserted) p' q' None ops (rec q' p' e') ∙ ap (λ (k : ℕ). Some k) (sym hq))

-- retained items keep their order
pub in_order : (t : Transaction) (p p' q q' : ℕ) → new_place t p ≡ Some q → new_place t p' ≡ Some q' → p < p' → q < q'
in_order [] p p' q q' e e' l = absurd (none-some q e)
in_order (Attribute change ∷ ops) p p' q q' e e' l = in_order ops p p' q q' e e' l
in_order (Retain c ∷ ops) p p' q q' e e' l = go (cases_retain c p q ops e) (cases_retain c p' q' ops e') (in_order ops)
  where
    go : ((p < c) × (q ≡ p)) ⊎ Split c c p q ops → ((p' < c) × (q' ≡ p')) ⊎ Split c c p' q' ops →
        ((p p' q q' : ℕ) → new_place ops p ≡ Some q → new_place ops p' ≡ Some q' → p < p' → q < q') → q < q'
    go (inl h) (inl h') rec = let a = h.1 in let b = h'.1 in omega (arith, a, b, l)
    go (inl h) (inr (beyond p1' q1' hp' hq' e1')) rec = let a = h.0 in let b = h.1 in omega (arith, a, b, hq')
    go (inr (beyond p1 q1 hp hq e1)) (inl h') rec = let a = h'.0 in absurd (omega (arith, a, hp, l))
    go (inr (beyond p1 q1 hp hq e1)) (inr (beyond p1' q1' hp' hq' e1')) rec =
        let r = rec p1 p1' q1 q1' e1 e1' (omega (arith, hp, hp', l)) in omega (arith, r, hq, hq')
in_order (Replace removed inserted ∷ ops) p p' q q' e e' l =
    go (cases_replace (length removed) (length inserted) p q ops e) (cases_replace (length removed) (length inserted) p' q' ops e') (in_order ops)
  where
    go : Split (length removed) (length inserted) p q ops → Split (length removed) (length inserted) p' q' ops →
        ((p p' q q' : ℕ) → new_place ops p ≡ Some q → new_place ops p' ≡ Some q' → p < p' → q < q') → q < q'
    go (beyond p1 q1 hp hq e1) (beyond p1' q1' hp' hq' e1') rec =
        let r = rec p1 p1' q1 q1' e1 e1' (omega (arith, hp, hp', l)) in omega (arith, r, hq, hq')

-- the first retained position of a range
pub record IsFirst (t : Transaction) (from count p q : ℕ) : Type 0 where
  pub after_start : from ≤ p
  pub before_end : p < from + count
  pub place : new_place t p ≡ Some q
  pub none_before : (p' : ℕ) → from ≤ p' → p' < p → new_place t p' ≡ None

pub first_is : (t : Transaction) (from count q : ℕ) → first_retained t from count ≡ Some q → (p : ℕ) × IsFirst t from count p q
first_is t from zero q e = absurd (none-some q e)
first_is t from (suc count) q e = go (new_place t from) refl e (first_is t (suc from) count q)
  where
    go : (o : Option ℕ) → new_place t from ≡ o → or_next o (first_retained t (suc from) count) ≡ Some q →
        (first_retained t (suc from) count ≡ Some q → (p : ℕ) × IsFirst t (suc from) count p q) → (p : ℕ) × IsFirst t from (suc count) p q
    go (Some q') h e' rec = (from, record { after_start = omega arith; before_end = omega arith; place = h ∙ e'; none_before = λ p' a b. absurd (omega (arith, a, b)) })
    go None h e' rec =
        let r = rec e' in
        let f = r.1 in
        let a = f.after_start in
        let b = f.before_end in
        (r.0, record { after_start = omega (arith, a); before_end = omega (arith, b); place = f.place; none_before = λ p' c d. earlier r.0 f p' c d })
      where
        earlier : (p : ℕ) → IsFirst t (suc from) count p q → (p' : ℕ) → from ≤ p' → p' < p → new_place t p' ≡ None
        earlier p f p' c d = split (nat_lt from p') refl
          where
            split : (b : Bool) → nat_lt from p' ≡ b → new_place t p' ≡ None
            split true l = let m = ltb-true from p' l in f.none_before p' (omega (arith, m)) d
            split false l = let m = le_from_false from p' l in subst (λ k. new_place t k ≡ None) (same m) h
              where
                same : p' ≤ from → from ≡ p'
                same m = omega (arith, m, c)

pub in_range : (o : Option ℕ) (from count : ℕ) → lies_in o from count ≡ true → (q : ℕ) × (o ≡ Some q) × (from ≤ q) × (q < from + count)
in_range None from count h = absurd (true≢false (sym h))
in_range (Some q) from count h =
    let p = and_parts (nat_le from q) (nat_lt q (from + count)) h in
    (q, refl, leb-true from q p.0, ltb-true q (from + count) p.1)

pub by_order : {P : Type 0} (a b : ℕ) → (a < b → P) → (b < a → P) → (a ≡ b → P) → P
by_order {P = P} a b less more same = go (nat_lt a b) refl
  where
    go : (c : Bool) → nat_lt a b ≡ c → P
    go true e = less (ltb-true a b e)
    go false e = go2 (nat_lt b a) refl
      where
        go2 : (c : Bool) → nat_lt b a ≡ c → P
        go2 true e' = more (ltb-true b a e')
        go2 false e' = let x = le_from_false a b e in let y = le_from_false b a e' in same (omega (arith, x, y))

-- Two texts match where one retained character is the first of both.
pub record SameFirst (t : Transaction) (at count at' count' : ℕ) : Type 0 where
  pub old_place : ℕ
  pub new_at : ℕ
  pub old_first : IsFirst t at count old_place new_at
  pub new_first : IsFirst (inverse t) at' count' new_at old_place

one_first : (t : Transaction) (at count at' count' p q q' p' : ℕ) → IsFirst t at count p q → IsFirst (inverse t) at' count' q' p' → at ≤ p' → at' ≤ q →
    SameFirst t at count at' count'
one_first t at count at' count' p q q' p' f1 f2 in_old in_new = record {
  old_place = p;
  new_at = q;
  old_first = f1;
  new_first = subst (λ k. IsFirst (inverse t) at' count' k p) (sym same_new) (subst (λ k. IsFirst (inverse t) at' count' q' k) (sym same_old) f2);
}
  where
    there : new_place t p' ≡ Some q'
    there = place_forth t [] q' p' f2.place

    back : new_place (inverse t) q ≡ Some p
    back = place_back t [] p q f1.place

    not_before : p' < p → ⊥
    not_before l = none-some q' (sym (f1.none_before p' in_old l) ∙ there)

    not_after : q < q' → ⊥
    not_after l = none-some p (sym (f2.none_before q in_new l) ∙ back)

    same_old : p ≡ p'
    same_old = by_order p p' (λ l. absurd (not_after (in_order t p p' q q' f1.place there l))) (λ l. absurd (not_before l)) (λ e. e)

    same_new : q ≡ q'
    same_new = same_Some q q' (sym f1.place ∙ ap (new_place t) same_old ∙ there)

pub texts_match : (t : Transaction) (at count at' count' : ℕ) →
    lies_in (first_retained t at count) at' count' && lies_in (first_retained (inverse t) at' count') at count ≡ true → SameFirst t at count at' count'
texts_match t at count at' count' h =
    let b = and_parts (lies_in (first_retained t at count) at' count') (lies_in (first_retained (inverse t) at' count') at count) h in
    let r1 = in_range (first_retained t at count) at' count' b.0 in
    let r2 = in_range (first_retained (inverse t) at' count') at count b.1 in
    let f1 = first_is t at count r1.0 r1.1 in
    let f2 = first_is (inverse t) at' count' r2.0 r2.1 in
    one_first t at count at' count' f1.0 r1.0 f2.0 r2.0 f1.1 f2.1 r2.2 r1.2

-- what is retained past a block is retained by what follows it
pub new_place_apart : (m n p q : ℕ) (ops : Transaction) → m ≤ p → (if nat_lt p m then Some p else moved_by n (new_place ops (p - m))) ≡ Some q →
    (q' : ℕ) × (new_place ops (p - m) ≡ Some q')
new_place_apart m n p q ops h e = go (new_place ops (p - m)) refl (sym (if_ge p m (Some p) (moved_by n (new_place ops (p - m))) h) ∙ e)
  where
    go : (o : Option ℕ) → new_place ops (p - m) ≡ o → moved_by n o ≡ Some q → (q' : ℕ) × (new_place ops (p - m) ≡ Some q')
    go None e0 e1 = absurd (none-some q e1)
    go (Some q') e0 e1 = (q', e0)
