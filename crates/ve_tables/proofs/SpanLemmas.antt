-- Numbers spelled by digits, read one at a time, and the value of an attribute, found one at a
-- time.
use Rattle.std.proofs.Common.{◌≡◌, ℕ, zero, suc, ◌+◌, ◌-◌, ◌*◌, ◌<◌, ◌≤◌, Bool, true, false, ◌&&◌, ◌==◌, if◌then◌else◌, nat_lt, nat_le, List, [], ◌∷◌, length, drop, get_or, Option, Some, None, refl, sym, ap, ◌∙◌, subst, inl, inr, arith}
use Rattle.std.specs.Bool.{Decides}
use Rattle.std.proofs.lemmas.Bool.{cases_Bool, and_parts, and_from, le-leb, leb-true, false_from_ne_true, eqb-true, eqb-false}
use Rattle.std.proofs.lemmas.Bool.Decides.{same_from_decides}
use Rattle.std.proofs.lemmas.List.{at_drop_more}
use Rattle.ve_base.specs.declared.attrs.Attr.{Attr}
use Rattle.model_items.specs.Same.{text_same}
use Rattle.model_items.proofs.SameLemmas.{Means-text_same}
use Rattle.model_change.specs.Attributes.{value_of}
use Rattle.model_edit.specs.Grid.{number_after, decimal_number, span_by, span_in}

-- a number past the greatest span is none, whatever digits follow
pub past_most : (most n : ℕ) (text : List ℕ) → most < n → span_by most (number_after n text) ≡ 1
past_most most n [] past = ap (λ b. if b then n else 1) (false_from_ne_true (nat_le n most) (λ t. let l = leb-true n most t in absurd (omega arith)))
past_most most n (d ∷ text) past = by (nat_le 48 d && nat_le d 57) (past_most most (n * 10 + (d - 48)) text (omega arith))
  where
    by : (b : Bool) → span_by most (number_after (n * 10 + (d - 48)) text) ≡ 1 → span_by most (if b then number_after (n * 10 + (d - 48)) text else None) ≡ 1
    by true e = e
    by false e = refl

-- the next character is a digit
pub digit_more : (most n at ch : ℕ) (text : List ℕ) → (at < length text) × (ch ≡ get_or text at ch) → 48 ≤ ch → ch ≤ 57 →
    span_by most (number_after n (drop at text)) ≡ span_by most (number_after (n * 10 + (ch - 48)) (drop (at + 1) text))
digit_more most n at ch text turn low high =
    at_drop_more (λ (t : List ℕ). span_by most (number_after n t)) text at ch turn.0
    ∙ ap (λ d. span_by most (number_after n (d ∷ drop (at + 1) text))) (sym turn.1)
    ∙ ap (λ b. span_by most (if b then number_after (n * 10 + (ch - 48)) (drop (at + 1) text) else None)) (and_from _ _ (le-leb 48 ch low) (le-leb ch 57 high))

-- or it is none
pub no_digit : (most n at ch : ℕ) (text : List ℕ) → (at < length text) × (ch ≡ get_or text at ch) → (nat_le 48 ch && nat_le ch 57) ≡ false →
    span_by most (number_after n (drop at text)) ≡ 1
no_digit most n at ch text turn other =
    at_drop_more (λ (t : List ℕ). span_by most (number_after n t)) text at ch turn.0
    ∙ ap (λ d. span_by most (number_after n (d ∷ drop (at + 1) text))) (sym turn.1)
    ∙ ap (λ b. span_by most (if b then number_after (n * 10 + (ch - 48)) (drop (at + 1) text) else None)) other

pub below_digits : (ch : ℕ) → ch < 48 → (nat_le 48 ch && nat_le ch 57) ≡ false
below_digits ch less = ap (λ b. b && nat_le ch 57) (false_from_ne_true (nat_le 48 ch) (λ t. let l = leb-true 48 ch t in absurd (omega arith)))

pub above_digits : (ch : ℕ) → 57 < ch → (nat_le 48 ch && nat_le ch 57) ≡ false
above_digits ch more = false_from_ne_true (nat_le 48 ch && nat_le ch 57) (λ t. let p = and_parts (nat_le 48 ch) _ t in let l = leb-true ch 57 p.1 in absurd (omega arith))

-- a text that begins with a digit that isn't 0 is read as digits
pub begins_apart : (most : ℕ) (text : List ℕ) (ch : ℕ) (rest : List ℕ) → text ≡ ch ∷ rest → (ch ≡ 48 → ⊥) → span_in most (Some text) ≡ span_by most (number_after 0 text)
begins_apart most text ch rest e other =
    ap (λ (t : List ℕ). span_in most (Some t)) e
    ∙ ap (λ b. span_by most (if b then None else number_after 0 (ch ∷ rest))) (false_from_ne_true (ch == 48) (λ t. other (eqb-true ch 48 t)))
    ∙ ap (λ (t : List ℕ). span_by most (number_after 0 t)) (sym e)

-- a test of a name is the model's
name_test : (b : Bool) (one name : List ℕ) → Decides b (one ≡ name) → b ≡ text_same one name
name_test b one name d = same_from_decides b (text_same one name) d (Means-text_same.equal one name, λ same. subst (λ n. text_same one n ≡ true) same (Means-text_same.itself one))

-- the next attribute has the name
pub value_here : (name : List ℕ) (attrs : List Attr) (i : ℕ) (a : Attr) (b : Bool) → i < length attrs → a ≡ get_or attrs i a → Decides b (a.name ≡ name) → b ≡ true →
    value_of name (drop i attrs) ≡ Some a.value
value_here name attrs i a b within is d e =
    at_drop_more (value_of name) attrs i a within ∙ ap (λ (x : Attr). value_of name (x ∷ drop (i + 1) attrs)) (sym is)
    ∙ ap (λ t. if t then Some a.value else value_of name (drop (i + 1) attrs)) (sym (name_test b a.name name d) ∙ e)

-- or another one
pub value_later : (name : List ℕ) (attrs : List Attr) (i : ℕ) (a : Attr) (b : Bool) → i < length attrs → a ≡ get_or attrs i a → Decides b (a.name ≡ name) → b ≡ false →
    value_of name (drop i attrs) ≡ value_of name (drop (i + 1) attrs)
value_later name attrs i a b within is d e =
    at_drop_more (value_of name) attrs i a within ∙ ap (λ (x : Attr). value_of name (x ∷ drop (i + 1) attrs)) (sym is)
    ∙ ap (λ t. if t then Some a.value else value_of name (drop (i + 1) attrs)) (sym (name_test b a.name name d) ∙ e)

number_least : (n m : ℕ) (digits : List ℕ) → number_after n digits ≡ Some m → n ≤ m
number_least n m [] h = let e : n ≡ m = cc in omega arith
number_least n m (digit ∷ digits) h =
    elim (cases_Bool (nat_le 48 digit && nat_le digit 57)) [
      | inl yes_ ↦ (let r = number_least (n * 10 + (digit - 48)) m digits (subst (λ b. (if b then number_after (n * 10 + (digit - 48)) digits else None) ≡ Some m) yes_ h) in omega arith)
      | inr no_ ↦ absurd (let e : None ≡ Some m = subst (λ b. (if b then number_after (n * 10 + (digit - 48)) digits else None) ≡ Some m) no_ h in cc)
    ]

-- a number without a leading zero is no zero
number_some : (n : ℕ) (text : List ℕ) → decimal_number text ≡ Some n → 1 ≤ n
number_some n [] h = cc
number_some n (digit ∷ digits) h =
    elim (cases_Bool (digit == 48)) [
      | inl yes_ ↦ absurd (let e : None ≡ Some n = subst (λ b. (if b then None else number_after 0 (digit ∷ digits)) ≡ Some n) yes_ h in cc)
      | inr no_ ↦ by (subst (λ b. (if b then None else number_after 0 (digit ∷ digits)) ≡ Some n) no_ h) (eqb-false digit 48 no_)
    ]
  where
    by : number_after 0 (digit ∷ digits) ≡ Some n → (digit ≡ 48 → ⊥) → 1 ≤ n
    by e apart =
        elim (cases_Bool (nat_le 48 digit && nat_le digit 57)) [
          | inl yes_ ↦
              (let p = and_parts (nat_le 48 digit) _ yes_ in
              let l = leb-true 48 digit p.0 in
              let r = number_least (0 * 10 + (digit - 48)) n digits (subst (λ b. (if b then number_after (0 * 10 + (digit - 48)) digits else None) ≡ Some n) yes_ e) in
              elim (Rattle.std.proofs.lemmas.Bool.cases_eq digit 48) [ inl same ↦ absurd (apart same) | inr other ↦ above l r other ])
          | inr no_ ↦ absurd (let f : None ≡ Some n = subst (λ b. (if b then number_after (0 * 10 + (digit - 48)) digits else None) ≡ Some n) no_ e in cc)
        ]
      where
        above : 48 ≤ digit → 0 * 10 + (digit - 48) ≤ n → (digit ≡ 48 → ⊥) → 1 ≤ n
        above l r other = omega arith

span_least_by : (most : ℕ) (o : Option ℕ) → ((n : ℕ) → o ≡ Some n → 1 ≤ n) → 1 ≤ span_by most o
span_least_by most None h = omega arith
span_least_by most (Some n) h = let p = h n refl in elim (nat_le n most) as (λ b. 1 ≤ (if b then n else 1)) [ true ↦ p | false ↦ omega arith ]

-- no span is 0,
pub span_least_in : (most : ℕ) (o : Option (List ℕ)) → 1 ≤ span_in most o
span_least_in most None = omega arith
span_least_in most (Some text) = span_least_by most (decimal_number text) (λ n e. number_some n text e)

-- and none is over the greatest
span_most_by : (most : ℕ) (o : Option ℕ) → 1 ≤ most → span_by most o ≤ most
span_most_by most None some = some
span_most_by most (Some n) some = by (nat_le n most) refl
  where
    by : (b : Bool) → nat_le n most ≡ b → (if b then n else 1) ≤ most
    by true e = leb-true n most e
    by false e = some

pub span_most_in : (most : ℕ) (o : Option (List ℕ)) → 1 ≤ most → span_in most o ≤ most
span_most_in most None some = some
span_most_in most (Some text) some = span_most_by most (decimal_number text) some
