-- Passes over operations ask of a list what the model asks.
use Rattle.std.specs.Option.{option_or}
use Rattle.std.proofs.Common.{◌≡◌, ◌≤◌, ◌<◌, ℕ, zero, suc, ◌+◌, ◌-◌, ◌^◌, min, Bool, true, false, if◌then◌else◌, List, [], ◌∷◌, ◌++◌, length, take, drop, get_or, slice_get, All, Option, Some, None, refl, sym, ap, ◌∙◌, subst, arith}
use Rattle.std.proofs.lemmas.List.{length-map, length-drop, length-take, drop-drop, get_or-map, get_or-drop, drop_more}
use Rattle.std.proofs.lemmas.List.Elements.{All-head, All-tail}
use Rattle.ve_base.specs.declared.value.Value.{Value}
use Rattle.model_items.specs.declared.item.Item.{Item}
use Rattle.model_items.specs.Plain.{plain, plain_list, CitesWell, AreDistinct}
use Rattle.model_items.specs.Same.{item_same}
use Rattle.model_items.proofs.SameLemmas.{Means-item_same}
use Rattle.model_items.proofs.PlainLemmas.{plain_tells_apart}
use Rattle.model_change.specs.Attributes.{AttrChange, allows}
use Rattle.model_change.specs.Fault.{differs_at, first_allows}
use Rattle.ve_tx.specs.declared.op.Op.{Op}
use Rattle.ve_tx.specs.declared.op.Op.TheVariants as op
use Rattle.ve_tx.specs.Operation.{Operation, with_position, unkept}
use Rattle.ve_tx.specs.Cites.{OperationCites, TxCites}
use Rattle.ve_tx.specs.Checked.{DiffersFirst, mismatch_in, old_size}
use Rattle.ve_tx.specs.Normal.{total_size}

pub first_allows-at : (values : List Value) (items : List Item) (at : ℕ) (item : Item) (c : AttrChange) → slice_get items at ≡ Some item →
    first_allows c (plain_list values (drop at items)) ≡ allows c (plain values item)
first_allows-at values [] at item c h = cc
first_allows-at values (x ∷ items) zero item c h = let same : x ≡ item = cc in ap (λ y. allows c (plain values y)) same
first_allows-at values (x ∷ items) (suc at) item c h = first_allows-at values items at item c h

-- pieces of lists

take-of : {A : Type 0} (n k : ℕ) (xs : List A) → k ≤ n → take k (take n xs) ≡ take k xs
take-of n zero xs h = refl
take-of zero (suc k) xs h = absurd (omega arith)
take-of (suc n) (suc k) [] h = refl
take-of (suc n) (suc k) (x ∷ xs) h = ap (λ l. x ∷ l) (take-of n k xs (omega arith))

take-none : {A : Type 0} (k : ℕ) → let none : List A = [] in take k none ≡ none
take-none zero = refl
take-none (suc k) = refl

take-add : {A : Type 0} (m k : ℕ) (xs : List A) → take (m + k) xs ≡ take m xs ++ take k (drop m xs)
take-add zero k xs = let e : 0 + k ≡ k = omega arith in rw e refl
take-add (suc m) k [] = take-none (suc m + k) ∙ sym (take-none k)
take-add (suc m) k (x ∷ xs) = let e : suc m + k ≡ suc (m + k) = omega arith in rw e (ap (λ l. x ∷ l) (take-add m k xs))

get-take : {A : Type 0} (n k : ℕ) (xs : List A) → k < n → slice_get (take n xs) k ≡ slice_get xs k
get-take zero k xs h = absurd (omega arith)
get-take (suc n) k [] h = refl
get-take (suc n) zero (x ∷ xs) h = refl
get-take (suc n) (suc k) (x ∷ xs) h = get-take n k xs (omega arith)

get-drop : {A : Type 0} (m k : ℕ) (xs : List A) → slice_get (drop m xs) k ≡ slice_get xs (m + k)
get-drop zero k xs = let e : 0 + k ≡ k = omega arith in rw e refl
get-drop (suc m) k [] = refl
get-drop (suc m) k (x ∷ xs) = let e : suc m + k ≡ suc (m + k) = omega arith in rw e (get-drop m k xs)

-- a piece that is borrowed, and as many of the items to be removed
module _ (items removed piece : List Item) (at done : ℕ)
    (within : at + done + length piece ≤ at + length removed)
    (lent : piece ≡ take (at + done + length piece - (at + done)) (drop (at + done) items))
    (alike : take done removed ≡ take done (drop at items)) where
  lent_is : piece ≡ take (length piece) (drop done (drop at items))
  lent_is =
      let n : at + done + length piece - (at + done) ≡ length piece = omega arith in
      lent ∙ ap (λ m. take m (drop (at + done) items)) n ∙ ap (take (length piece)) (sym (drop-drop done at items))

  pub alike-more : take (done + length piece - done) (drop done removed) ≡ piece →
      take (done + length piece) removed ≡ take (done + length piece) (drop at items)
  alike-more same =
      let n : done + length piece - done ≡ length piece = omega arith in
      let here : take (length piece) (drop done removed) ≡ take (length piece) (drop done (drop at items)) =
      ap (λ m. take m (drop done removed)) (sym n) ∙ same ∙ lent_is in
      take-add done (length piece) removed ∙ ap (λ l. l ++ take (length piece) (drop done removed)) alike
      ∙ ap (λ l. take done (drop at items) ++ l) here ∙ sym (take-add done (length piece) (drop at items))

  pub differs-later : (k : ℕ) → DiffersFirst (take (done + length piece - done) (drop done removed)) piece k →
      DiffersFirst removed (drop at items) (done + k)
  differs-later k h =
      let n : done + length piece - done ≡ length piece = omega arith in
      let part : DiffersFirst (take (length piece) (drop done removed)) (take (length piece) (drop done (drop at items))) k =
      subst (λ l. DiffersFirst (take (length piece) (drop done removed)) l k) lent_is (subst (λ m. DiffersFirst (take m (drop done removed)) piece k) n h) in
      let small : k < length piece = shorter (length piece) k (drop done removed) part.0 in
      let long : length (drop done removed) ≡ length removed - done = length-drop done removed in
      let short : length (take (length piece) (drop done removed)) ≡ min (length piece) (length (drop done removed)) = length-take (length piece) (drop done removed) in
      let prefix : take k (drop done removed) ≡ take k (drop done (drop at items)) =
      sym (take-of (length piece) k (drop done removed) (omega arith)) ∙ part.1 ∙ take-of (length piece) k (drop done (drop at items)) (omega arith) in (
        omega (arith, part.0),
        take-add done k removed ∙ ap (λ l. l ++ take k (drop done removed)) alike ∙ ap (λ l. take done (drop at items) ++ l) prefix ∙ sym (take-add done k (drop at items)),
        λ same. part.2
            (get-take (length piece) k (drop done removed) small ∙ get-drop done k removed ∙ same ∙ sym (get-drop done k (drop at items))
            ∙ sym (get-take (length piece) k (drop done (drop at items)) small)),
      )
    where
      shorter : (n k : ℕ) (xs : List Item) → k < length (take n xs) → k < n
      shorter n k xs h = omega (arith, length-take n xs)

-- the first difference, by value

differs-none : (values : List Value) (at : ℕ) (one other : List Item) → take (length one) other ≡ one → differs_at at (plain_list values one) (plain_list values other) ≡ None
differs-none values at [] other h = refl
differs-none values at (x ∷ one) [] h = cc
differs-none values at (x ∷ one) (y ∷ other) h =
    let same : y ≡ x = cc in
    let rest : take (length one) other ≡ one = cc in
    let P : Item → Type 0 = λ z. item_same (plain values x) (plain values z) ≡ true in
    let test : item_same (plain values x) (plain values y) ≡ true = subst P (sym same) (Means-item_same.itself (plain values x)) in
    rw test (differs-none values (suc at) one other rest)

differs-some : (values : List Value) (at k : ℕ) (one other : List Item) → AreDistinct values → All (CitesWell values) one → All (CitesWell values) other →
    length one ≤ length other → DiffersFirst one other k → differs_at at (plain_list values one) (plain_list values other) ≡ Some (at + k)
differs-some values at k [] other distinct p q long h = absurd (let none = h.0 in omega arith)
differs-some values at k (x ∷ one) [] distinct p q long h = absurd (omega arith)
differs-some values at zero (x ∷ one) (y ∷ other) distinct p q long h =
    by_test (item_same (plain values x) (plain values y)) refl
  where
    by_test : (b : Bool) → item_same (plain values x) (plain values y) ≡ b →
        (if b then differs_at (suc at) (plain_list values one) (plain_list values other) else Some at) ≡ Some (at + 0)
    by_test true e =
        absurd (h.2 (ap Some (plain_tells_apart values x y distinct (All-head (CitesWell values) x one p) (All-head (CitesWell values) y other q)
        (Means-item_same.equal (plain values x) (plain values y) e))))
    by_test false e = let n : at ≡ at + 0 = omega arith in ap Some n
differs-some values at (suc k) (x ∷ one) (y ∷ other) distinct p q long h =
    let prefix = h.1 in
    let same : y ≡ x = cc in
    let rest : take k one ≡ take k other = cc in
    let P : Item → Type 0 = λ z. item_same (plain values x) (plain values z) ≡ true in
    let test : item_same (plain values x) (plain values y) ≡ true = subst P (sym same) (Means-item_same.itself (plain values x)) in
    let below = h.0 in
    let n : suc at + k ≡ at + suc k = omega arith in
    rw test
    (differs-some values (suc at) k one other distinct (All-tail (CitesWell values) x one p) (All-tail (CitesWell values) y other q) (omega arith) (omega arith, rest, h.2)
    ∙ ap Some n)

-- the pass over removed items

module _ (values : List Value) (items : List Item) (at : ℕ) (removed inserted : List Item) (ops : List Op) where
  pub mismatch-passed : take (length removed) (drop at items) ≡ removed →
      mismatch_in values items at (op.Replace removed inserted ∷ ops) ≡ mismatch_in values items (at + length removed) ops
  mismatch-passed h =
      let none = differs-none values at removed (drop at items) h in
      ap (λ o. option_or o (mismatch_in values items (at + length removed) ops)) none

  pub mismatch-found : (k : ℕ) → AreDistinct values → All (CitesWell values) removed → All (CitesWell values) items → at + length removed ≤ length items →
      DiffersFirst removed (drop at items) k → mismatch_in values items at (op.Replace removed inserted ∷ ops) ≡ Some (at + k)
  mismatch-found k distinct p q long h =
      let cut : length (drop at items) ≡ length items - at = length-drop at items in
      let some = differs-some values at k removed (drop at items) distinct p (All-drop at items q) (omega arith) h in
      ap (λ o. option_or o (mismatch_in values items (at + length removed) ops)) some
    where
      All-drop : (n : ℕ) (xs : List Item) → All (CitesWell values) xs → All (CitesWell values) (drop n xs)
      All-drop n xs a k d below =
          let cut : length (drop n xs) ≡ length xs - n = length-drop n xs in
          let P : Item → Type 0 = CitesWell values in
          subst P (sym (get_or-drop n xs k d)) (a (n + k) d (omega arith))

-- what an operation of a transaction cites
pub cites-at : (values : List Value) (ops : List Op) (i : ℕ) (o : Op) → i < length ops → o ≡ get_or ops i o → TxCites values (unkept ops) →
    OperationCites values (with_position o None)
cites-at values ops i o within is cites =
    let here = cites i (with_position o None) (let same : length (unkept ops) ≡ length ops = length-map ops (λ x. with_position x None) in omega arith) in
    let P : Operation → Type 0 = OperationCites values in
    subst P (get_or-map (λ x. with_position x None) ops i o (with_position o None) within ∙ ap (λ x. with_position x None) (sym is)) here

-- how far the pass over removed items has come: the cursor at its position, and what is still to be
-- asked
pub record IsWalked (items : List Item) (ops : List Op) (at i : ℕ) : Type 0 where
  pub within : at + total_size (drop i ops) ≤ 2 ^ 60
  pub fits : at + old_size (drop i ops) ≡ length items
  pub alike : (values : List Value) → AreDistinct values → All (CitesWell values) items → TxCites values (unkept ops) →
      mismatch_in values items at (drop i ops) ≡ mismatch_in values items 0 ops

abbrev old_of : Op → ℕ
old_of (op.Retain count) = count
old_of (op.Replace removed inserted) = length removed
old_of (op.Attribute name from to) = 0

module _ (items : List Item) (ops : List Op) (at i : ℕ) (o : Op) (within : i < length ops) (is : o ≡ get_or ops i o) (walked : IsWalked items ops at i) where
  rest_is : drop i ops ≡ o ∷ drop (i + 1) ops
  rest_is = drop_more ops i o within ∙ ap (λ x. x ∷ drop (i + 1) ops) (sym is)

  walked-past : (next : ℕ) (p : Op) → o ≡ p → next ≡ at + old_of p →
      ((values : List Value) → mismatch_in values items at (p ∷ drop (i + 1) ops) ≡ mismatch_in values items next (drop (i + 1) ops)) → IsWalked items ops next (i + 1)
  walked-past next p e moved passes =
      let whole : drop i ops ≡ p ∷ drop (i + 1) ops = rest_is ∙ ap (λ x. x ∷ drop (i + 1) ops) e in
      record {
        within = bound p whole moved;
        fits = sum p whole moved;
        alike = λ values distinct listed cites. sym (passes values) ∙ ap (mismatch_in values items at) (sym whole) ∙ walked.alike values distinct listed cites;
      }
    where
      bound : (q : Op) → drop i ops ≡ q ∷ drop (i + 1) ops → next ≡ at + old_of q → next + total_size (drop (i + 1) ops) ≤ 2 ^ 60
      bound (op.Retain count) w m = let t = ap total_size w in omega (arith, walked.within)
      bound (op.Replace removed inserted) w m = let t = ap total_size w in omega (arith, walked.within)
      bound (op.Attribute name from to) w m = let t = ap total_size w in omega (arith, walked.within)

      sum : (q : Op) → drop i ops ≡ q ∷ drop (i + 1) ops → next ≡ at + old_of q → next + old_size (drop (i + 1) ops) ≡ length items
      sum (op.Retain count) w m = let t = ap old_size w in omega (arith, walked.fits)
      sum (op.Replace removed inserted) w m = let t = ap old_size w in omega (arith, walked.fits)
      sum (op.Attribute name from to) w m = let t = ap old_size w in omega (arith, walked.fits)

  pub walked-retain : (next count : ℕ) → o ≡ op.Retain count → next ≡ at + count → IsWalked items ops next (i + 1)
  walked-retain next count e moved =
      walked-past next (op.Retain count) e moved (λ values. ap (λ n. mismatch_in values items n (drop (i + 1) ops)) (sym moved))

  pub walked-attribute : (name : List ℕ) (from to : Option (List ℕ)) → o ≡ op.Attribute name from to → IsWalked items ops at (i + 1)
  walked-attribute name from to e = walked-past at (op.Attribute name from to) e (omega arith) (λ values. refl)

  pub walked-replace : (next : ℕ) (removed inserted lent : List Item) → o ≡ op.Replace removed inserted → lent ≡ removed → next ≡ at + length lent →
      take (length lent) (drop at items) ≡ lent → IsWalked items ops next (i + 1)
  walked-replace next removed inserted lent e same moved here =
      let moved_on : next ≡ at + length removed = moved ∙ ap (λ l. at + length l) same in
      let there : take (length removed) (drop at items) ≡ removed = subst (λ l. take (length l) (drop at items) ≡ l) same here in
      walked-past next (op.Replace removed inserted) e moved_on
      (λ values. mismatch-passed values items at removed inserted (drop (i + 1) ops) there ∙ ap (λ n. mismatch_in values items n (drop (i + 1) ops)) (sym moved_on))

  -- the items removed here are within the list
  pub walked-long : (removed inserted lent : List Item) → o ≡ op.Replace removed inserted → lent ≡ removed → at + length lent ≤ length items
  walked-long removed inserted lent e same =
      let size = ap old_size (rest_is ∙ ap (λ x. x ∷ drop (i + 1) ops) e) in
      let long = ap length same in
      omega (arith, walked.fits)

  pub walked-found : (removed inserted lent : List Item) (k : ℕ) → o ≡ op.Replace removed inserted → lent ≡ removed → DiffersFirst lent (drop at items) k →
      (values : List Value) → AreDistinct values → All (CitesWell values) items → TxCites values (unkept ops) → Some (at + k) ≡ mismatch_in values items 0 ops
  walked-found removed inserted lent k e same differs values distinct listed cites =
      let whole : drop i ops ≡ op.Replace removed inserted ∷ drop (i + 1) ops = rest_is ∙ ap (λ x. x ∷ drop (i + 1) ops) e in
      let P : Op → Type 0 = λ x. OperationCites values (with_position x None) in
      let both = subst P e (cites-at values ops i o within is cites) in
      let long = walked-long removed inserted lent e same in
      let size = ap length same in
      sym (mismatch-found values items at removed inserted (drop (i + 1) ops) k distinct both.0 listed (omega arith) (subst (λ l. DiffersFirst l (drop at items) k) same differs))
      ∙ ap (mismatch_in values items at) (sym whole) ∙ walked.alike values distinct listed cites
