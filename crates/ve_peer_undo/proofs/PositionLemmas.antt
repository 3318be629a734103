-- The first position of a number, and the entry of that number among those that count.
use Rattle.std.proofs.Common.{◌≡◌, ◌≢◌, ◌<◌, ◌+◌, ◌==◌, ℕ, zero, suc, Bool, true, false, if◌then◌else◌, eqb-true, eq-eqb, List, [], ◌∷◌, ◌++◌, length, take, drop, get_or, Option, Some, None, option_map, refl, sym, ap, ◌∙◌, subst, arith}
use Rattle.model_change.specs.Transaction.{Transaction}
use Rattle.model_site.specs.Live.{Standing, left_without, without}
use Rattle.ve_tx.specs.declared.parcel.Parcel.{Parcel}
use Rattle.ve_tx.specs.ByValue.{parcel_by_value}
use Rattle.ve_peer_undo.specs.Counted.{counted, position_of}

-- ---- the walk over numbers

parted : (b : Bool) (o : Option ℕ) → (if b then Some 0 else option_map (λ k. suc k) o) ≡ None → (b ≡ false) × (o ≡ None)
parted true o h = cc
parted false None h = (refl, refl)
parted false (Some k) h = cc

unlike : (b : Bool) (x y : ℕ) → (x == y) ≡ b → x ≢ y → b ≡ false
unlike true x y e other = absurd (other (eqb-true x y e))
unlike false x y e other = refl

one_more : (m : ℕ) (ns : List ℕ) (i d : ℕ) → i < length ns → position_of m (take i ns) ≡ None → get_or ns i d ≢ m → position_of m (take (suc i) ns) ≡ None
one_more m [] i d l h other = absurd (omega (arith, l))
one_more m (n ∷ ns) zero d l h other = rw (unlike (n == m) n m refl other) refl
one_more m (n ∷ ns) (suc i) d l h other =
    let p = parted (n == m) (position_of m (take i ns)) h in
    rw p.0 (ap (option_map (λ k. suc k)) (one_more m ns i d (omega (arith, l)) p.1 other))

pub none_more : (m : ℕ) (ns : List ℕ) (i d : ℕ) → i < length ns → position_of m (take i ns) ≡ None → get_or ns i d ≢ m → position_of m (take (i + 1) ns) ≡ None
none_more m ns i d l h other =
    let same : i + 1 ≡ suc i = omega arith in ap (λ k. position_of m (take k ns)) same ∙ one_more m ns i d l h other

pub found_first : (m : ℕ) (ns : List ℕ) (i d : ℕ) → i < length ns → position_of m (take i ns) ≡ None → get_or ns i d ≡ m → Some i ≡ position_of m ns
found_first m [] i d l h is = absurd (omega (arith, l))
found_first m (n ∷ ns) zero d l h is = rw (eq-eqb n m is) refl
found_first m (n ∷ ns) (suc i) d l h is =
    let p = parted (n == m) (position_of m (take i ns)) h in
    rw p.0 (ap (option_map (λ k. suc k)) (found_first m ns i d (omega (arith, l)) p.1 is))

-- ---- the entry there

option_maps : {A B C : Type 0} (f : A → B) (g : B → C) (o : Option A) → option_map g (option_map f o) ≡ option_map (λ x. g (f x)) o
option_maps f g None = refl
option_maps f g (Some x) = refl

as_it_is : {A : Type 0} (o : Option A) → o ≡ option_map (λ x. x) o
as_it_is None = refl
as_it_is (Some x) = refl

some_part : (o : Option ℕ) (at : ℕ) → option_map (λ k. suc k) o ≡ Some at → (k : ℕ) × (o ≡ Some k) × (at ≡ suc k)
some_part None at h = cc
some_part (Some k) at h = (k, refl, cc)

pub position_within : (m : ℕ) (ns : List ℕ) (at : ℕ) → position_of m ns ≡ Some at → at < length ns
position_within m [] at h = cc
position_within m (n ∷ ns) at h = by_test (λ k e. position_within m ns k e) (n == m) h
  where
    by_test : ((k : ℕ) → position_of m ns ≡ Some k → k < length ns) → (b : Bool) →
        (if b then Some 0 else option_map (λ k. suc k) (position_of m ns)) ≡ Some at → at < suc (length ns)
    by_test rest true h = let e : 0 ≡ at = cc in omega (arith, e)
    by_test rest false h =
        let p = some_part (position_of m ns) at h in
        let below = rest p.0 p.1 in
        let e = p.2 in
        omega (arith, below, e)

pub without_none : (m : ℕ) (back : List Transaction) (ns : List ℕ) (ps : List Parcel) → length ns ≡ length ps → position_of m ns ≡ None →
    without m back (counted ns ps) ≡ None
without_none m back [] [] many h = refl
without_none m back [] (p ∷ ps) many h = refl
without_none m back (n ∷ ns) [] many h = absurd (omega (arith, many))
without_none m back (n ∷ ns) (p ∷ ps) many h =
    let two = parted (n == m) (position_of m ns) h in
    rw two.0 (ap (option_map (λ rest. record { number = n; txs = parcel_by_value p } ∷ rest)) (without_none m back ns ps (omega (arith, many)) two.1))

pub without_at : (m : ℕ) (back : List Transaction) (ns : List ℕ) (ps : List Parcel) (at : ℕ) (d : Parcel) → length ns ≡ length ps → position_of m ns ≡ Some at →
    without m back (counted ns ps)
    ≡ option_map (λ left. take at (counted ns ps) ++ left) (left_without back (parcel_by_value (get_or ps at d)) (counted (drop (suc at) ns) (drop (suc at) ps)))
without_at m back [] ps at d many h = cc
without_at m back (n ∷ ns) [] at d many h = absurd (omega (arith, many))
without_at m back (n ∷ ns) (p ∷ ps) at d many h = by_test (λ k e. without_at m back ns ps k d (omega (arith, many)) e) (n == m) h
  where
    s : Standing
    s = record { number = n; txs = parcel_by_value p }

    by_test : ((k : ℕ) → position_of m ns ≡ Some k → without m back (counted ns ps)
        ≡ option_map (λ left. take k (counted ns ps) ++ left) (left_without back (parcel_by_value (get_or ps k d)) (counted (drop (suc k) ns) (drop (suc k) ps)))) →
        (b : Bool) → (if b then Some 0 else option_map (λ k. suc k) (position_of m ns)) ≡ Some at →
        (if b then left_without back (parcel_by_value p) (counted ns ps) else option_map (λ rest. s ∷ rest) (without m back (counted ns ps)))
        ≡ option_map (λ left. take at (s ∷ counted ns ps) ++ left)
        (left_without back (parcel_by_value (get_or (p ∷ ps) at d)) (counted (drop (suc at) (n ∷ ns)) (drop (suc at) (p ∷ ps))))
    by_test rest true h =
        let e : 0 ≡ at = cc in
        subst (λ k. left_without back (parcel_by_value p) (counted ns ps) ≡ option_map (λ left. take k (s ∷ counted ns ps) ++ left)
        (left_without back (parcel_by_value (get_or (p ∷ ps) k d)) (counted (drop (suc k) (n ∷ ns)) (drop (suc k) (p ∷ ps))))) e (as_it_is (left_without back (parcel_by_value p) (counted ns ps)))
    by_test rest false h =
        let q = some_part (position_of m ns) at h in
        let k = q.0 in
        let more = left_without back (parcel_by_value (get_or ps k d)) (counted (drop (suc k) ns) (drop (suc k) ps)) in
        subst (λ j. option_map (λ rest. s ∷ rest) (without m back (counted ns ps)) ≡ option_map (λ left. take j (s ∷ counted ns ps) ++ left)
        (left_without back (parcel_by_value (get_or (p ∷ ps) j d)) (counted (drop (suc j) (n ∷ ns)) (drop (suc j) (p ∷ ps))))) (sym q.2)
        (ap (option_map (λ rest. s ∷ rest)) (rest k q.1)
        ∙ option_maps (λ left. take k (counted ns ps) ++ left) (λ rest. s ∷ rest) more)

pub parts_at : (ns : List ℕ) (ps : List Parcel) (at n : ℕ) (d : Parcel) → length ns ≡ length ps → at < length ns →
    counted ns ps ≡ take at (counted ns ps) ++ record { number = get_or ns at n; txs = parcel_by_value (get_or ps at d) } ∷ counted (drop (suc at) ns) (drop (suc at) ps)
parts_at [] ps at n d many l = absurd (omega (arith, l))
parts_at (x ∷ ns) [] at n d many l = absurd (omega (arith, many))
parts_at (x ∷ ns) (p ∷ ps) zero n d many l = refl
parts_at (x ∷ ns) (p ∷ ps) (suc at) n d many l = ap (λ ss. record { number = x; txs = parcel_by_value p } ∷ ss) (parts_at ns ps at n d (omega (arith, many)) (omega (arith, l)))

-- the number and its entry taken out, and others put in the place of those behind it
pub counted_left : (ns : List ℕ) (ps left : List Parcel) (at : ℕ) → length ns ≡ length ps → at < length ns →
    counted (take at ns ++ drop (suc at) ns) (take at ps ++ left) ≡ take at (counted ns ps) ++ counted (drop (suc at) ns) left
counted_left [] ps left at many l = absurd (omega (arith, l))
counted_left (x ∷ ns) [] left at many l = absurd (omega (arith, many))
counted_left (x ∷ ns) (p ∷ ps) left zero many l = refl
counted_left (x ∷ ns) (p ∷ ps) left (suc at) many l =
    ap (λ ss. record { number = x; txs = parcel_by_value p } ∷ ss) (counted_left ns ps left at (omega (arith, many)) (omega (arith, l)))
