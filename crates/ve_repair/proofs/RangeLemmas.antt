-- The range of a transaction's changes, and that it spares what lies outside.
use Rattle.std.proofs.Common.{◌≡◌, ℕ, zero, suc, ◌+◌, ◌-◌, ◌<◌, ◌≤◌, ◌^◌, true, false, Option, Some, None, List, [], ◌∷◌, ◌++◌, length, map, take, get_or, refl, sym, ap, ◌∙◌, subst, inl, inr, arith, append_assoc, length-append}
use Rattle.std.specs.Prelude.{IfSome, IfNone}
use Rattle.std.specs.Option.{unwrap_or}
use Rattle.std.proofs.lemmas.Bool.{true≢false}
use Rattle.std.proofs.lemmas.List.{append-nil, take_all, length-map}
use Rattle.std.proofs.Math.Seq.{take-suc}
use Rattle.ve_base.specs.declared.value.Value.{Value}
use Rattle.model_items.specs.Plain.{plain, plain_list}
use Rattle.model_change.specs.Touch.{new_place}
use Rattle.ve_tx.specs.declared.op.Op.{Op}
use Rattle.ve_tx.specs.declared.op.Op.TheVariants as op
use Rattle.ve_tx.specs.Operation.{Operation, Retain, Replace, Attribute, by_value, bare}
use Rattle.ve_tx.specs.Normal.{total_size}
use Rattle.ve_tx.specs.Checked.{old_size}
use Rattle.ve_repair.specs.declared.range.ChangedRange.{ChangedRange}
use Rattle.ve_repair.specs.Change.{items_taken, items_made}
use Rattle.ve_repair.specs.Outside.{Spares}
use Rattle.ve_repair.specs.Range.{is_replace, KeepItems, all_taken, all_given, begins_with_replace, ends_with_replace, IsChangedRange, SparesOutside, FindsRange, HasSeen, BeginsBefore}
use Rattle.ve_repair.proofs.BeginningLemmas.{part}
use Rattle.ve_repair.proofs.ChangeLemmas.{old_is}
use Rattle.ve_repair.proofs.PlaceLemmas.{if_lt, beyond_block}

-- sums over operations
pub taken-append : (xs ys : List Op) → all_taken (xs ++ ys) ≡ all_taken xs + all_taken ys
taken-append [] ys = omega arith
taken-append (x ∷ xs) ys = let r = taken-append xs ys in omega (arith, r)

pub given-append : (xs ys : List Op) → all_given (xs ++ ys) ≡ all_given xs + all_given ys
given-append [] ys = omega arith
given-append (x ∷ xs) ys = let r = given-append xs ys in omega (arith, r)

taken_more : (ops : List Op) (k : ℕ) (d : Op) → k < length ops → all_taken (take k ops) + items_taken (get_or ops k d) ≤ all_taken ops
taken_more [] k d h = absurd (omega (arith, h))
taken_more (o ∷ ops) zero d h = omega arith
taken_more (o ∷ ops) (suc k) d h = let r = taken_more ops k d (omega (arith, h)) in omega (arith, r)

given_more : (ops : List Op) (k : ℕ) (d : Op) → k < length ops → all_given (take k ops) + items_made (get_or ops k d) ≤ all_given ops
given_more [] k d h = absurd (omega (arith, h))
given_more (o ∷ ops) zero d h = omega arith
given_more (o ∷ ops) (suc k) d h = let r = given_more ops k d (omega (arith, h)) in omega (arith, r)

-- without a replace as many items are made as are passed
keep_sums : (ops : List Op) → KeepItems ops → all_given ops ≡ all_taken ops
keep_sums [] k = refl
keep_sums (op.Retain count ∷ ops) k = ap (λ n. count + n) (keep_sums ops k)
keep_sums (op.Replace removed inserted ∷ ops) k = absurd k
keep_sums (op.Attribute name from to ∷ ops) k = ap (λ n. 0 + n) (keep_sums ops k)

keep_both : (xs ys : List Op) → KeepItems xs → KeepItems ys → KeepItems (xs ++ ys)
keep_both [] ys k h = h
keep_both (op.Retain count ∷ xs) ys k h = keep_both xs ys k h
keep_both (op.Replace removed inserted ∷ xs) ys k h = absurd k
keep_both (op.Attribute name from to ∷ xs) ys k h = keep_both xs ys k h

keep_one : (o : Op) → is_replace o ≡ false → KeepItems (o ∷ [])
keep_one (op.Retain count) e = tt
keep_one (op.Replace removed inserted) e = absurd (true≢false e)
keep_one (op.Attribute name from to) e = tt

begins_more : (xs ys : List Op) → begins_with_replace xs ≡ true → begins_with_replace (xs ++ ys) ≡ true
begins_more [] ys e = absurd (true≢false (sym e))
begins_more (x ∷ xs) ys e = e

ends_now : (xs : List Op) (o : Op) → is_replace o ≡ true → ends_with_replace (xs ++ (o ∷ [])) ≡ true
ends_now [] o e = e
ends_now (x ∷ []) o e = e
ends_now (x ∷ y ∷ xs) o e = ends_now (y ∷ xs) o e

taken_in_total : (ops : List Op) → all_taken ops ≤ total_size ops
taken_in_total [] = omega arith
taken_in_total (op.Retain count ∷ ops) = let r = taken_in_total ops in omega (arith, r)
taken_in_total (op.Replace removed inserted ∷ ops) = let r = taken_in_total ops in omega (arith, r)
taken_in_total (op.Attribute name from to ∷ ops) = let r = taken_in_total ops in omega (arith, r)

pub given_in_total : (ops : List Op) → all_given ops ≤ total_size ops
given_in_total [] = omega arith
given_in_total (op.Retain count ∷ ops) = let r = given_in_total ops in omega (arith, r)
given_in_total (op.Replace removed inserted ∷ ops) = let r = given_in_total ops in omega (arith, r)
given_in_total (op.Attribute name from to ∷ ops) = let r = given_in_total ops in omega (arith, r)

-- one more operation still counts within the limit
pub taken_fits : (ops : List Op) (k at : ℕ) (o : Op) → total_size ops ≤ 2 ^ 60 → k < length ops → o ≡ get_or ops k o → at ≡ all_taken (take k ops) →
    at + items_taken o < 2 ^ 64
taken_fits ops k at o fits within is e =
    let more = taken_more ops k o within in
    let all = taken_in_total ops in
    let same : items_taken o ≡ items_taken (get_or ops k o) = ap items_taken is in
    omega (arith, more, all, same, fits, e)

pub given_fits : (ops : List Op) (k at : ℕ) (o : Op) → total_size ops ≤ 2 ^ 60 → k < length ops → o ≡ get_or ops k o → at ≡ all_given (take k ops) →
    at + items_made o < 2 ^ 64
given_fits ops k at o fits within is e =
    let more = given_more ops k o within in
    let all = given_in_total ops in
    let same : items_made o ≡ items_made (get_or ops k o) = ap items_made is in
    omega (arith, more, all, same, fits, e)

pub begins_before : (ops : List Op) (found : Option ChangedRange) (k at new_at : ℕ) → HasSeen ops found k at new_at → BeginsBefore found at new_at
begins_before ops None k at new_at s =
    let sums = keep_sums ops s.finds in
    omega (arith, sums, s.at_is, s.new_at_is)
begins_before ops (Some r) k at new_at s =
    let f = s.finds in
    let sums = keep_sums f.before f.keeps_before in
    let all : all_given ops ≡ all_given f.before + all_given (f.changed ++ f.after) = ap all_given f.parts ∙ given-append f.before (f.changed ++ f.after) in
    omega (arith, sums, all, f.from_is, s.new_at_is)

-- an operation that is no replace stands behind the range, or before it
pub same_range : (ops : List Op) (found : Option ChangedRange) (k at new_at : ℕ) (o : Op) → HasSeen ops found k at new_at → is_replace o ≡ false →
    FindsRange (ops ++ (o ∷ [])) found
same_range ops None k at new_at o s e = keep_both ops (o ∷ []) s.finds (keep_one o e)
same_range ops (Some r) k at new_at o s e =
    let f = s.finds in
    record {
      before = f.before;
      changed = f.changed;
      after = f.after ++ (o ∷ []);
      parts = ap (λ l. l ++ (o ∷ [])) f.parts ∙ append_assoc f.before (f.changed ++ f.after) (o ∷ [])
          ∙ ap (λ l. f.before ++ l) (append_assoc f.changed f.after (o ∷ []));
      keeps_before = f.keeps_before;
      keeps_after = keep_both f.after (o ∷ []) f.keeps_after (keep_one o e);
      begins = f.begins;
      ends = f.ends;
      first_is = f.first_is;
      last_is = f.last_is;
      from_is = f.from_is;
      to_is = f.to_is;
      len_is = f.len_is;
    }

abbrev pub empty_range : ℕ → ℕ → ChangedRange
empty_range k at = record { first = k; last = k; from = at; to = at; len = 0 }

-- and a replace is the last of it
abbrev pub range_with : ChangedRange → ℕ → ℕ → ℕ → Op → ChangedRange
range_with start k at new_at o = record { first = start.first; last = k + 1; from = start.from; to = at + items_taken o; len = (new_at + items_made o) - start.from }

pub grown_range : (ops : List Op) (found : Option ChangedRange) (k at new_at : ℕ) (o : Op) → HasSeen ops found k at new_at → is_replace o ≡ true →
    IsChangedRange (ops ++ (o ∷ [])) (range_with (unwrap_or found (empty_range k at)) k at new_at o)
grown_range ops None k at new_at o s e =
    let sums = keep_sums ops s.finds in
    record {
      before = ops;
      changed = o ∷ [];
      after = [];
      parts = refl;
      keeps_before = s.finds;
      keeps_after = tt;
      begins = e;
      ends = e;
      first_is = s.count_is;
      last_is = omega (arith, s.count_is);
      from_is = s.at_is;
      to_is = omega (arith, s.at_is);
      len_is = omega (arith, sums, s.at_is, s.new_at_is);
    }
grown_range ops (Some r) k at new_at o s e =
    let f = s.finds in
    record {
      before = f.before;
      changed = (f.changed ++ f.after) ++ (o ∷ []);
      after = [];
      parts = ap (λ l. l ++ (o ∷ [])) f.parts ∙ append_assoc f.before (f.changed ++ f.after) (o ∷ [])
          ∙ ap (λ l. f.before ++ l) (sym (append-nil ((f.changed ++ f.after) ++ (o ∷ []))));
      keeps_before = f.keeps_before;
      keeps_after = tt;
      begins = begins_more (f.changed ++ f.after) (o ∷ []) (begins_more f.changed f.after f.begins);
      ends = ends_now (f.changed ++ f.after) o e;
      first_is = f.first_is;
      last_is =
          let all : length ops ≡ length f.before + length (f.changed ++ f.after) = ap length f.parts ∙ length-append f.before (f.changed ++ f.after) in
          let one = length-append (f.changed ++ f.after) (o ∷ []) in
          omega (arith, all, one, s.count_is);
      from_is = f.from_is;
      to_is =
          let all : all_taken ops ≡ all_taken f.before + all_taken (f.changed ++ f.after) = ap all_taken f.parts ∙ taken-append f.before (f.changed ++ f.after) in
          let one = taken-append (f.changed ++ f.after) (o ∷ []) in
          omega (arith, all, one, s.at_is);
      len_is =
          let all : all_given ops ≡ all_given f.before + all_given (f.changed ++ f.after) = ap all_given f.parts ∙ given-append f.before (f.changed ++ f.after) in
          let one = given-append (f.changed ++ f.after) (o ∷ []) in
          let sums = keep_sums f.before f.keeps_before in
          omega (arith, all, one, sums, f.from_is, s.new_at_is);
    }

-- positions behind operations, by those of what follows
module _ (values : List Value) where
  past : (tx more : List Operation) (r q : ℕ) → new_place (by_value values more) r ≡ Some q →
      new_place (by_value values (tx ++ more)) (all_taken (map bare tx) + r) ≡ Some (all_given (map bare tx) + q)
  past [] more r q e = subst (λ p. new_place (by_value values more) p ≡ Some (0 + q)) (let a : r ≡ 0 + r = omega arith in a) (e ∙ ap (λ (k : ℕ). Some k) (omega arith))
  past (Retain n ∷ tx) more r q e =
      let s = all_taken (map bare tx) in
      let g = all_given (map bare tx) in
      let t = by_value values (tx ++ more) in
      subst (λ p. new_place (by_value values (Retain n ∷ (tx ++ more))) p ≡ Some (n + g + q)) (let a : n + (s + r) ≡ n + s + r = omega arith in a)
      (beyond_block n n (s + r) (g + q) _ t (past tx more r q e) ∙ ap (λ (k : ℕ). Some k) (omega arith))
  past (Replace removed inserted ∷ tx) more r q e =
      let s = all_taken (map bare tx) in
      let g = all_given (map bare tx) in
      let t = by_value values (tx ++ more) in
      let m = length removed in
      let n = length inserted in
      let ms : length (plain_list values removed) ≡ m = length-map removed (plain values) in
      let ns : length (plain_list values inserted) ≡ n = length-map inserted (plain values) in
      subst (λ p. new_place (by_value values (Replace removed inserted ∷ (tx ++ more))) p ≡ Some (n + g + q))
      (let a : length (plain_list values removed) + (s + r) ≡ m + s + r = omega (arith, ms) in a)
      (beyond_block (length (plain_list values removed)) (length (plain_list values inserted)) (s + r) (g + q) _ t (past tx more r q e) ∙ ap (λ (k : ℕ). Some k) (omega (arith, ns)))
  past (Attribute change ∷ tx) more r q e =
      let s = all_taken (map bare tx) in
      let g = all_given (map bare tx) in
      subst (λ p. new_place (by_value values (tx ++ more)) p ≡ Some (0 + g + q)) (let a : s + r ≡ 0 + s + r = omega arith in a)
      (past tx more r q e ∙ ap (λ (k : ℕ). Some k) (omega arith))

  still : (tx more : List Operation) (p : ℕ) → KeepItems (map bare tx) → p < all_taken (map bare tx) → new_place (by_value values (tx ++ more)) p ≡ Some p
  still [] more p k h = absurd (omega (arith, h))
  still (Retain n ∷ tx) more p k h = elim (part n p) [
    | inl short ↦ if_lt p n (Some p) _ short
    | inr far ↦
        let r = far.0 in
        let sum = far.1 in
        subst (λ p. new_place (by_value values (Retain n ∷ (tx ++ more))) p ≡ Some p) (sym sum)
        (beyond_block n n r r _ (by_value values (tx ++ more)) (still tx more r k (omega (arith, h, sum))))
  ]
  still (Replace removed inserted ∷ tx) more p k h = absurd k
  still (Attribute change ∷ tx) more p k h = still tx more p k (omega (arith, h))

  spares_parts : (a b c : List Operation) (from to len count : ℕ) → KeepItems (map bare a) → KeepItems (map bare c) →
      from ≡ all_taken (map bare a) → to ≡ all_taken (map bare a) + all_taken (map bare b) → len ≡ all_given (map bare b) →
      count ≡ to + all_taken (map bare c) → Spares (by_value values (a ++ (b ++ c))) from to len count
  spares_parts a b c from to len count ka kc ef et el ec = record {
    between = omega (arith, ef, et);
    within = omega (arith, ec);
    before = λ p h. still a (b ++ c) p ka (omega (arith, h, ef));
    after = λ p q low high e. behind p q (p - to) (omega (arith, low)) (omega (arith, low, high, ec)) e;
  }
    where
      behind : (p q r : ℕ) → p ≡ to + r → r < all_taken (map bare c) → q + to ≡ p + (from + len) → new_place (by_value values (a ++ (b ++ c))) p ≡ Some q
      behind p q r e h sum =
          let here = subst (λ l. new_place (by_value values l) r ≡ Some r) (append-nil c) (still c [] r kc h) in
          let there = past a (b ++ c) (all_taken (map bare b) + r) (all_given (map bare b) + r) (past b c r r here) in
          let sums = keep_sums (map bare a) ka in
          subst (λ k. new_place (by_value values (a ++ (b ++ c))) k ≡ Some q) (omega (arith, e, et))
          (there ∙ ap (λ (k : ℕ). Some k) (omega (arith, sums, ef, et, el, e, sum)))

-- operations whose bare ones stand in two parts
record InParts (tx : List Operation) (xs ys : List Op) : Type 0 where
  left : List Operation
  right : List Operation
  is : tx ≡ left ++ right
  left_is : map bare left ≡ xs
  right_is : map bare right ≡ ys

in_parts : (tx : List Operation) (xs ys : List Op) → map bare tx ≡ xs ++ ys → InParts tx xs ys
in_parts tx [] ys e = record { left = []; right = tx; is = refl; left_is = refl; right_is = e }
in_parts [] (x ∷ xs) ys e = absurd cc
in_parts (t ∷ tx) (x ∷ xs) ys e =
    let r = in_parts tx xs ys cc in
    let one : bare t ≡ x = cc in
    record { left = t ∷ r.left; right = r.right; is = ap (λ l. t ∷ l) r.is; left_is = λ i. one i ∷ r.left_is i; right_is = r.right_is }

pub taken_is : (ops : List Op) → all_taken ops ≡ old_size ops
taken_is [] = refl
taken_is (op.Retain count ∷ ops) = ap (λ n. count + n) (taken_is ops)
taken_is (op.Replace removed inserted ∷ ops) = ap (λ n. length removed + n) (taken_is ops)
taken_is (op.Attribute name from to ∷ ops) = let r = taken_is ops in omega (arith, r)

pub spares : (ops : List Op) (r : ChangedRange) → IsChangedRange ops r → SparesOutside ops r
spares ops r f tx items values e applies =
    let p = in_parts tx f.before (f.changed ++ f.after) (e ∙ f.parts) in
    let q = in_parts p.right f.changed f.after p.right_is in
    let tx_is : tx ≡ p.left ++ (q.left ++ q.right) = p.is ∙ ap (λ l. p.left ++ l) q.is in
    let old = old_is tx items ops (sym e) (record { values = values; applies = applies }) in
    let sum : all_taken ops ≡ all_taken f.before + all_taken (f.changed ++ f.after) = ap all_taken f.parts ∙ taken-append f.before (f.changed ++ f.after) in
    let sum2 = taken-append f.changed f.after in
    let all = taken_is ops in
    subst (λ l. Spares (by_value values l) r.from r.to r.len (length items)) (sym tx_is)
    (spares_parts values p.left q.left q.right r.from r.to r.len (length items)
    (subst KeepItems (sym p.left_is) f.keeps_before) (subst KeepItems (sym q.right_is) f.keeps_after)
    (f.from_is ∙ ap all_taken (sym p.left_is))
    (f.to_is ∙ sym (λ i. all_taken (p.left_is i) + all_taken (q.left_is i)))
    (f.len_is ∙ ap all_given (sym q.left_is))
    (let same : all_taken (map bare q.right) ≡ all_taken f.after = ap all_taken q.right_is in omega (arith, old, all, sum, sum2, same, f.to_is)))

pub spares_found : (ops : List Op) (found : Option ChangedRange) → FindsRange ops found → IfSome found (SparesOutside ops)
spares_found ops None f = tt
spares_found ops (Some r) f = spares ops r f

-- by what the calls returned
pub put_in : (ops : List Op) (start start' : ChangedRange) (k at new_at m n : ℕ) (o : Op) → start ≡ start' → m ≡ items_taken o → n ≡ items_made o →
    IsChangedRange ops (range_with start' k at new_at o) →
    IsChangedRange ops (record { first = start.first; last = k + 1; from = start.from; to = at + m; len = (new_at + n) - start.from })
put_in ops start start' k at new_at m n o e em en is =
    subst (λ s. IsChangedRange ops (record { first = s.first; last = k + 1; from = s.from; to = at + m; len = (new_at + n) - s.from })) (sym e)
    (subst (λ m. IsChangedRange ops (record { first = start'.first; last = k + 1; from = start'.from; to = at + m; len = (new_at + n) - start'.from })) (sym em)
    (subst (λ n. IsChangedRange ops (record { first = start'.first; last = k + 1; from = start'.from; to = at + items_taken o; len = (new_at + n) - start'.from })) (sym en) is))

-- a loop over operations
pub seen_more : (ops : List Op) (found next : Option ChangedRange) (k at new_at m n : ℕ) (o : Op) → k < length ops → o ≡ get_or ops k o → m ≡ items_taken o →
    n ≡ items_made o →
    HasSeen (take k ops) found k at new_at → FindsRange (take k ops ++ (o ∷ [])) next → HasSeen (take (k + 1) ops) next (k + 1) (at + m) (new_at + n)
seen_more ops found next k at new_at m n o within is em en s finds =
    subst (λ l. HasSeen l next (k + 1) (at + m) (new_at + n)) (sym more) (record {
      finds = finds;
      count_is = let a = length-append (take k ops) (o ∷ []) in omega (arith, a, s.count_is);
      at_is = let a = taken-append (take k ops) (o ∷ []) in omega (arith, a, s.at_is, em);
      new_at_is = let a = given-append (take k ops) (o ∷ []) in omega (arith, a, s.new_at_is, en);
    })
  where
    more : take (k + 1) ops ≡ take k ops ++ (o ∷ [])
    more = ap (λ j. take j ops) (let e : k + 1 ≡ suc k = omega arith in e) ∙ take-suc ops k o within ∙ ap (λ x. take k ops ++ (x ∷ [])) (sym is)

pub found_all : (ops : List Op) (found : Option ChangedRange) (k at new_at : ℕ) → length ops ≤ k → HasSeen (take k ops) found k at new_at → FindsRange ops found
found_all ops found k at new_at h s = subst (λ l. FindsRange l found) (take_all k ops h) s.finds

pub if_none : (ops : List Op) (found : Option ChangedRange) → FindsRange ops found → IfNone found (KeepItems ops)
if_none ops None f = f
if_none ops (Some r) f = tt

pub if_some : (ops : List Op) (found : Option ChangedRange) → FindsRange ops found → IfSome found (IsChangedRange ops)
if_some ops None f = tt
if_some ops (Some r) f = f
