-- A joined transaction's span is found from the two spans alone.
use Rattle.std.proofs.Common.{◌≡◌, ℕ, zero, suc, ◌+◌, ◌-◌, Bool, true, false, not, ◌&&◌, nat_le, List, [], ◌∷◌, ◌++◌, refl, sym, ap, ◌∙◌, arith, if◌then◌else◌}
use Rattle.model_items.specs.declared.plain_item.PlainItem.{PlainItem}
use Rattle.model_change.specs.Attributes.{AttrChange}
use Rattle.model_change.specs.Transaction.{Retain, Replace, Attribute, Op, Transaction, old_length, new_length}
use Rattle.model_change.specs.Join.{first, without_first, end_retain, without_end, last, core, reach, retained, with_ends, has_some, has_attribute, has_replace, is_active, is_attribute_transaction, both_attributes, start_of, end_of, moved_on, with_new_end}
use Rattle.model_change.specs.Transaction.{is_reduced}
use Rattle.model_change.proofs.InverseLemmas.{reduced_parts}
use Rattle.ve_rebase.specs.declared.span.ActiveSpan.{ActiveSpan}
use Rattle.ve_rebase.specs.Span.{span_of, old_size, new_size, span_between, inert}
use Rattle.ve_rebase.specs.Laws.{SpansAdd, SpansMeet, SpansJoin}

ap2 : {A B C : Type 0} {x y : A} {u v : B} (f : A → B → C) → x ≡ y → u ≡ v → f x u ≡ f y v
ap2 {A} {B} {C} {x} {y} {u} {v} f p q = ap (λ k. f k u) p ∙ ap (λ k. f y k) q

-- lengths of the parts

old-end : (ops : Transaction) → old_length ops ≡ old_length (without_end ops) + end_retain ops
old-end [] = refl
old-end (Retain n ∷ []) = omega arith
old-end (Retain n ∷ (op ∷ ops)) = let r = old-end (op ∷ ops) in omega arith
old-end (Replace removed inserted ∷ ops) = let r = old-end ops in omega arith
old-end (Attribute c ∷ ops) = old-end ops

new-end : (ops : Transaction) → new_length ops ≡ new_length (without_end ops) + end_retain ops
new-end [] = refl
new-end (Retain n ∷ []) = omega arith
new-end (Retain n ∷ (op ∷ ops)) = let r = new-end (op ∷ ops) in omega arith
new-end (Replace removed inserted ∷ ops) = let r = new-end ops in omega arith
new-end (Attribute c ∷ ops) = new-end ops

pub old-spans : (t : Transaction) → old_length t ≡ old_size (span_of t)
old-spans [] = refl
old-spans (Retain n ∷ ops) = let r = old-end ops in omega arith
old-spans (Replace removed inserted ∷ ops) = let r = old-end (Replace removed inserted ∷ ops) in omega arith
old-spans (Attribute c ∷ ops) = let r = old-end (Attribute c ∷ ops) in omega arith

pub new-spans : (t : Transaction) → new_length t ≡ new_size (span_of t)
new-spans [] = refl
new-spans (Retain n ∷ ops) = let r = new-end ops in omega arith
new-spans (Replace removed inserted ∷ ops) = let r = new-end (Replace removed inserted ∷ ops) in omega arith
new-spans (Attribute c ∷ ops) = let r = new-end (Attribute c ∷ ops) in omega arith

-- a middle keeps being the middle between other ends

-- it does not end with a retain
data IsOpen : Transaction → Type 0 where
  None : IsOpen []
  LastReplace : (removed inserted : List PlainItem) → IsOpen (Replace removed inserted ∷ [])
  LastAttribute : (c : AttrChange) → IsOpen (Attribute c ∷ [])
  More : (op next : Op) (ops : Transaction) → IsOpen (next ∷ ops) → IsOpen (op ∷ (next ∷ ops))

open_end : (ops : Transaction) (l : ℕ) → IsOpen ops → without_end (ops ++ retained l) ≡ ops
open_end ops zero None = refl
open_end ops (suc l) None = refl
open_end ops zero (LastReplace removed inserted) = refl
open_end ops (suc l) (LastReplace removed inserted) = refl
open_end ops zero (LastAttribute c) = refl
open_end ops (suc l) (LastAttribute c) = refl
open_end ops l (More (Retain n) next rest more) = ap (λ r. Retain n ∷ r) (open_end (next ∷ rest) l more)
open_end ops l (More (Replace removed inserted) next rest more) = ap (λ r. Replace removed inserted ∷ r) (open_end (next ∷ rest) l more)
open_end ops l (More (Attribute c) next rest more) = ap (λ r. Attribute c ∷ r) (open_end (next ∷ rest) l more)

open_retain : (ops : Transaction) (l : ℕ) → IsOpen ops → end_retain (ops ++ retained l) ≡ l
open_retain ops zero None = refl
open_retain ops (suc l) None = refl
open_retain ops zero (LastReplace removed inserted) = refl
open_retain ops (suc l) (LastReplace removed inserted) = refl
open_retain ops zero (LastAttribute c) = refl
open_retain ops (suc l) (LastAttribute c) = refl
open_retain ops l (More (Retain n) next rest more) = open_retain (next ∷ rest) l more
open_retain ops l (More (Replace removed inserted) next rest more) = open_retain (next ∷ rest) l more
open_retain ops l (More (Attribute c) next rest more) = open_retain (next ∷ rest) l more

-- what is left of reduced operations without their last retain does not end with one
cut_open : (ops : Transaction) → is_reduced ops ≡ true → IsOpen (without_end ops)
cut_open [] h = None
cut_open (Retain n ∷ []) h = None
cut_open (Retain n ∷ (Retain m ∷ ops)) h = absurd (let e = (reduced_parts (Retain n) (Retain m ∷ ops) h).1 in cc)
cut_open (Retain n ∷ (Replace removed inserted ∷ ops)) h = More (Retain n) (Replace removed inserted) (without_end ops) (cut_open (Replace removed inserted ∷ ops) (reduced_parts (Retain n) (Replace removed inserted ∷ ops) h).2)
cut_open (Retain n ∷ (Attribute c ∷ ops)) h = More (Retain n) (Attribute c) (without_end ops) (cut_open (Attribute c ∷ ops) (reduced_parts (Retain n) (Attribute c ∷ ops) h).2)
cut_open (Replace removed inserted ∷ ops) h = in_front (without_end ops) (cut_open ops (reduced_parts (Replace removed inserted) ops h).2)
  where
    in_front : (rest : Transaction) → IsOpen rest → IsOpen (Replace removed inserted ∷ rest)
    in_front [] o = LastReplace removed inserted
    in_front (op ∷ rest) o = More (Replace removed inserted) op rest o
cut_open (Attribute c ∷ ops) h = in_front (without_end ops) (cut_open ops (reduced_parts (Attribute c) ops h).2)
  where
    in_front : (rest : Transaction) → IsOpen rest → IsOpen (Attribute c ∷ rest)
    in_front [] o = LastAttribute c
    in_front (op ∷ rest) o = More (Attribute c) op rest o

-- it does not begin with one
data Begins : Transaction → Type 0 where
  WithReplace : (removed inserted : List PlainItem) (ops : Transaction) → Begins (Replace removed inserted ∷ ops)
  WithAttribute : (c : AttrChange) (ops : Transaction) → Begins (Attribute c ∷ ops)

-- of reduced operations the active middle
record IsMiddle (ops : Transaction) : Type 0 where
  begins : Begins ops
  is_open : IsOpen ops

middle : (t : Transaction) → is_reduced t ≡ true → is_active t ≡ true → IsMiddle (core t)
middle [] h active = absurd (cc)
middle (Retain n ∷ []) h active = absurd (cc)
middle (Retain n ∷ (Retain m ∷ ops)) h active = absurd (let e = (reduced_parts (Retain n) (Retain m ∷ ops) h).1 in cc)
middle (Retain n ∷ (Replace removed inserted ∷ ops)) h active = record { begins = WithReplace removed inserted (without_end ops); is_open = cut_open (Replace removed inserted ∷ ops) (reduced_parts (Retain n) (Replace removed inserted ∷ ops) h).2 }
middle (Retain n ∷ (Attribute c ∷ ops)) h active = record { begins = WithAttribute c (without_end ops); is_open = cut_open (Attribute c ∷ ops) (reduced_parts (Retain n) (Attribute c ∷ ops) h).2 }
middle (Replace removed inserted ∷ ops) h active = record { begins = WithReplace removed inserted (without_end ops); is_open = cut_open (Replace removed inserted ∷ ops) h }
middle (Attribute c ∷ ops) h active = record { begins = WithAttribute c (without_end ops); is_open = cut_open (Attribute c ∷ ops) h }

first_of : (f : ℕ) (ops rest : Transaction) → Begins ops → first (retained f ++ (ops ++ rest)) ≡ f
first_of zero ops rest (WithReplace removed inserted more) = refl
first_of zero ops rest (WithAttribute c more) = refl
first_of (suc f) ops rest b = refl

after_first : (f : ℕ) (ops rest : Transaction) → Begins ops → without_first (retained f ++ (ops ++ rest)) ≡ ops ++ rest
after_first zero ops rest (WithReplace removed inserted more) = refl
after_first zero ops rest (WithAttribute c more) = refl
after_first (suc f) ops rest b = refl

pub core-ends : (t : Transaction) (f l : ℕ) → is_reduced t ≡ true → is_active t ≡ true → core (with_ends f (core t) l) ≡ core t
core-ends t f l h active = let m = middle t h active in
    ap without_end (after_first f (core t) (retained l) m.begins) ∙ open_end (core t) l m.is_open

pub last-ends : (t : Transaction) (f l : ℕ) → is_reduced t ≡ true → is_active t ≡ true → last (with_ends f (core t) l) ≡ l
last-ends t f l h active = let m = middle t h active in
    ap end_retain (after_first f (core t) (retained l) m.begins) ∙ open_retain (core t) l m.is_open

pub first-ends : (t : Transaction) (f l : ℕ) → is_reduced t ≡ true → is_active t ≡ true → first (with_ends f (core t) l) ≡ f
first-ends t f l h active = first_of f (core t) (retained l) (middle t h active).begins

-- of a middle between other ends the span is the span with other ends

attribute-end : (ops : Transaction) → has_attribute ops ≡ has_attribute (without_end ops)
attribute-end [] = refl
attribute-end (Retain n ∷ []) = refl
attribute-end (Retain n ∷ (op ∷ ops)) = attribute-end (op ∷ ops)
attribute-end (Replace removed inserted ∷ ops) = attribute-end ops
attribute-end (Attribute c ∷ ops) = refl

pub attribute-core : (t : Transaction) → has_attribute t ≡ has_attribute (core t)
attribute-core [] = refl
attribute-core (Retain n ∷ ops) = attribute-end ops
attribute-core (Replace removed inserted ∷ ops) = attribute-end (Replace removed inserted ∷ ops)
attribute-core (Attribute c ∷ ops) = refl

pub attribute-ends : (t : Transaction) (f l : ℕ) → is_attribute_transaction (with_ends f (core t) l) ≡ is_attribute_transaction t
attribute-ends t f l = ap (λ r. r && not (has_replace (with_ends f (core t) l))) (some_attribute f (core t) l ∙ sym (attribute-core t)) ∙ ap (λ r. has_attribute t && not r) (some_replace f (core t) l ∙ sym (replace-core t))
  where
    attribute-suffix : (ops : Transaction) (l : ℕ) → has_attribute (ops ++ retained l) ≡ has_attribute ops
    attribute-suffix [] zero = refl
    attribute-suffix [] (suc l) = refl
    attribute-suffix (Retain n ∷ ops) l = attribute-suffix ops l
    attribute-suffix (Replace removed inserted ∷ ops) l = attribute-suffix ops l
    attribute-suffix (Attribute c ∷ ops) l = refl

    some_attribute : (f : ℕ) (ops : Transaction) (l : ℕ) → has_attribute (with_ends f ops l) ≡ has_attribute ops
    some_attribute zero ops l = attribute-suffix ops l
    some_attribute (suc f) ops l = attribute-suffix ops l

    replace-suffix : (ops : Transaction) (l : ℕ) → has_replace (ops ++ retained l) ≡ has_replace ops
    replace-suffix [] zero = refl
    replace-suffix [] (suc l) = refl
    replace-suffix (Retain n ∷ ops) l = replace-suffix ops l
    replace-suffix (Replace removed inserted ∷ ops) l = refl
    replace-suffix (Attribute c ∷ ops) l = replace-suffix ops l

    some_replace : (f : ℕ) (ops : Transaction) (l : ℕ) → has_replace (with_ends f ops l) ≡ has_replace ops
    some_replace zero ops l = replace-suffix ops l
    some_replace (suc f) ops l = replace-suffix ops l

    replace-end : (ops : Transaction) → has_replace ops ≡ has_replace (without_end ops)
    replace-end [] = refl
    replace-end (Retain n ∷ []) = refl
    replace-end (Retain n ∷ (op ∷ ops)) = replace-end (op ∷ ops)
    replace-end (Replace removed inserted ∷ ops) = refl
    replace-end (Attribute c ∷ ops) = replace-end ops

    replace-core : (t : Transaction) → has_replace t ≡ has_replace (core t)
    replace-core [] = refl
    replace-core (Retain n ∷ ops) = replace-end ops
    replace-core (Replace removed inserted ∷ ops) = refl
    replace-core (Attribute c ∷ ops) = replace-end (Attribute c ∷ ops)

of_middle : (t : Transaction) (ops : Transaction) (f l : ℕ) → core ops ≡ core t → first ops ≡ f → last ops ≡ l → is_attribute_transaction ops ≡ is_attribute_transaction t →
    span_of ops ≡ span_between (span_of t) f l
of_middle t ops f l c a b r =
    ap (λ k. record { active = has_some k; attributes = is_attribute_transaction ops; first = first ops; reach = reach k; last = last ops; removed = old_length k; inserted = new_length k }) c
    ∙ ap (λ k. record { active = is_active t; attributes = k; first = first ops; reach = reach (core t); last = last ops; removed = old_length (core t); inserted = new_length (core t) }) r
    ∙ ap (λ k. record { active = is_active t; attributes = is_attribute_transaction t; first = k; reach = reach (core t); last = last ops; removed = old_length (core t); inserted = new_length (core t) }) a
    ∙ ap (λ k. record { active = is_active t; attributes = is_attribute_transaction t; first = f; reach = reach (core t); last = k; removed = old_length (core t); inserted = new_length (core t) }) b

pub span-ends : (t : Transaction) (f l : ℕ) → is_reduced t ≡ true → is_active t ≡ true → span_of (with_ends f (core t) l) ≡ span_between (span_of t) f l
span-ends t f l h active = of_middle t (with_ends f (core t) l) f l (core-ends t f l h active) (first-ends t f l h active) (last-ends t f l h active) (attribute-ends t f l)

pub span-retained : (n : ℕ) → span_of (retained n) ≡ inert n
span-retained zero = refl
span-retained (suc n) = refl

-- so joined spans are spans of what is joined

-- what joining chooses by: both change attributes only; the first is active; the second is; the
-- first ends at the second's start or before
abbrev choose : {A : Type 0} → (both active active_too near : Bool) → (unmet first_idle second_idle left right : A) → A
choose both active active_too near unmet first_idle second_idle left right =
    if both then unmet else (if not active then first_idle else (if not active_too then second_idle else (if near then left else right)))

module _ (a b : Transaction) (h : is_reduced a ≡ true) (k : is_reduced b ≡ true) where
  first_by : (both active active_too near : Bool) → is_active a ≡ active →
      span_of (choose {A = Transaction × Transaction} both active active_too near (a, b) (retained (new_length b), b) (a, retained (new_length a)) (with_new_end a b, moved_on b a) (moved_on a b, with_new_end b a)).0
      ≡ choose {A = ActiveSpan} both active active_too near (span_of a) (inert (new_size (span_of b))) (span_of a)
      (span_between (span_of a) (first a) ((last a + new_size (span_of b)) - old_size (span_of b)))
      (span_between (span_of a) ((first a + new_size (span_of b)) - old_size (span_of b)) (last a))
  first_by true active active_too near q = refl
  first_by false false active_too near q = span-retained (new_length b) ∙ ap inert (new-spans b)
  first_by false true false near q = refl
  first_by false true true true q = span-ends a (first a) ((last a + new_length b) - old_length b) h q ∙ ap2 (λ x y. span_between (span_of a) (first a) ((last a + x) - y)) (new-spans b) (old-spans b)
  first_by false true true false q = span-ends a ((first a + new_length b) - old_length b) (last a) h q ∙ ap2 (λ x y. span_between (span_of a) ((first a + x) - y) (last a)) (new-spans b) (old-spans b)

  second_by : (both active active_too near : Bool) → is_active b ≡ active_too →
      span_of (choose {A = Transaction × Transaction} both active active_too near (a, b) (retained (new_length b), b) (a, retained (new_length a)) (with_new_end a b, moved_on b a) (moved_on a b, with_new_end b a)).1
      ≡ choose {A = ActiveSpan} both active active_too near (span_of b) (span_of b) (inert (new_size (span_of a)))
      (span_between (span_of b) ((first b + new_size (span_of a)) - old_size (span_of a)) (last b))
      (span_between (span_of b) (first b) ((last b + new_size (span_of a)) - old_size (span_of a)))
  second_by true active active_too near r = refl
  second_by false false active_too near r = refl
  second_by false true false near r = span-retained (new_length a) ∙ ap inert (new-spans a)
  second_by false true true true r = span-ends b ((first b + new_length a) - old_length a) (last b) k r ∙ ap2 (λ x y. span_between (span_of b) ((first b + x) - y) (last b)) (new-spans a) (old-spans a)
  second_by false true true false r = span-ends b (first b) ((last b + new_length a) - old_length a) k r ∙ ap2 (λ x y. span_between (span_of b) (first b) ((last b + x) - y)) (new-spans a) (old-spans a)

pub spans_join : SpansJoin
spans_join a b h k = (
  first_by a b h k (both_attributes a b) (is_active a) (is_active b) (nat_le (end_of a) (start_of b)) refl,
  second_by a b h k (both_attributes a b) (is_active a) (is_active b) (nat_le (end_of a) (start_of b)) refl,
)

pub spans_meet : SpansMeet
spans_meet a b = refl

pub spans_add : SpansAdd
spans_add t = (old-spans t, new-spans t)
