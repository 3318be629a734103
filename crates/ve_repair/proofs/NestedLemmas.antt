-- Signs in which every closing has its opening: what is open between two parts, and how far to the
-- right it ends.
use Rattle.std.proofs.Common.{◌≡◌, ℕ, zero, suc, ◌+◌, ◌≤◌, List, [], ◌∷◌, ◌++◌, length, map, refl, sym, subst, append_assoc, append-nil, arith}
use Rattle.ve_tree.specs.Named.{Named, NoNode, NamedRun, NamedBranch}
use Rattle.ve_repair.specs.Spelled.{Sign, BeginOf, LettersOf, EndOf, token_of}
use Rattle.ve_repair.specs.Ready.{nums}
use Rattle.ve_repair.specs.Sizes.{Sized, Begun, sizes, open_after, place_after, signs_of}
use Rattle.ve_repair.specs.SizesRight.{inner_sizes, ends}
use Rattle.ve_repair.proofs.WalkedLemmas.{AllBegunBy}
use Rattle.ve_repair.proofs.CountLemmas.{times}

-- so many more close than begin, and none too many at any position
abbrev pub Nested : ℕ → List Sign → Type 0
Nested d [] = d ≡ 0
Nested d (BeginOf n kind ∷ ss) = Nested (suc d) ss
Nested d (LettersOf n count ∷ ss) = Nested d ss
Nested zero (EndOf kind ∷ ss) = ⊥
Nested (suc d) (EndOf kind ∷ ss) = Nested d ss

nested_before : (f : Named) (d : ℕ) (ss : List Sign) → Nested d ss → Nested d (signs_of f ++ ss)
nested_before NoNode d ss h = h
nested_before (NamedRun n count later) d ss h = nested_before later d ss h
nested_before (NamedBranch n kind inside later) d ss h =
    subst (Nested (suc d)) (sym (append_assoc (signs_of inside) (EndOf kind ∷ signs_of later) ss)) (nested_before inside (suc d) (EndOf kind ∷ (signs_of later ++ ss)) (nested_before later d ss h))

pub nested_forest : (f : Named) → Nested 0 (signs_of f)
nested_forest f = subst (Nested 0) (append-nil (signs_of f)) (nested_before f 0 [] refl)

-- the nodes that are open after signs: over them all stands the one that was there at first
pub record OpenOver (xs ys : List Sign) (start : List Begun) (r : Begun) (at : ℕ) : Type 0 where
  pub inner : List Begun
  pub open_is : open_after xs (start ++ r ∷ []) at ≡ inner ++ r ∷ []
  pub nested : Nested (length inner) ys

pub open_over : (xs ys : List Sign) (start : List Begun) (r : Begun) (at : ℕ) → Nested (length start) (xs ++ ys) → OpenOver xs ys start r at
open_over [] ys start r at h = record { inner = start; open_is = refl; nested = h }
open_over (BeginOf n kind ∷ xs) ys start r at h =
    let o = open_over xs ys (record { node = n; from = at } ∷ start) r (suc at) h in record { inner = o.inner; open_is = o.open_is; nested = o.nested }
open_over (LettersOf n count ∷ xs) ys start r at h = let o = open_over xs ys start r (at + count) h in record { inner = o.inner; open_is = o.open_is; nested = o.nested }
open_over (EndOf kind ∷ xs) ys [] r at h = absurd h
open_over (EndOf kind ∷ xs) ys (b ∷ start) r at h = let o = open_over xs ys start r (suc at) h in record { inner = o.inner; open_is = o.open_is; nested = o.nested }

ends-begun : (ss : List Sign) (begun : List Begun) (at d : ℕ) → Nested (length begun + d) ss → length (ends ss begun at) ≡ d
ends-begun [] begun at d h = omega (arith, h)
ends-begun (BeginOf n kind ∷ ss) begun at d h =
    ends-begun ss (record { node = n; from = at } ∷ begun) (suc at) d (subst (λ m. Nested m ss) (let e : suc (length begun + d) ≡ suc (length begun) + d = omega arith in e) h)
ends-begun (LettersOf n count ∷ ss) begun at d h = ends-begun ss begun (at + count) d h
ends-begun (EndOf kind ∷ ss) [] at zero h = absurd (subst (λ m. Nested m (EndOf kind ∷ ss)) (let e : 0 + 0 ≡ 0 = omega arith in e) h)
ends-begun (EndOf kind ∷ ss) [] at (suc d) h =
    let n : Nested d ss = subst (λ m. Nested m (EndOf kind ∷ ss)) (let e : 0 + suc d ≡ suc d = omega arith in e) h in
    let r = ends-begun ss [] (suc at) d (subst (λ m. Nested m ss) (let e : d ≡ 0 + d = omega arith in e) n) in
    omega (arith, r)
ends-begun (EndOf kind ∷ ss) (b ∷ begun) at d h =
    ends-begun ss begun (suc at) d (subst (λ m. Nested m (EndOf kind ∷ ss)) (let e : suc (length begun) + d ≡ suc (length begun + d) = omega arith in e) h)

pub ends-length : (ss : List Sign) (d : ℕ) → Nested d ss → length (ends ss [] 0) ≡ d
ends-length ss d h = ends-begun ss [] 0 d (subst (λ m. Nested m ss) (let e : d ≡ 0 + d = omega arith in e) h)

-- positions
begun_more : (bs : List Begun) (a b : ℕ) → a ≤ b → AllBegunBy bs a → AllBegunBy bs b
begun_more [] a b le h = tt
begun_more (x ∷ bs) a b le h = (omega (arith, le, h.0), begun_more bs a b le h.1)

pub begun_by : (ss : List Sign) (open_ : List Begun) (at : ℕ) → AllBegunBy open_ at → AllBegunBy (open_after ss open_ at) (place_after ss at)
begun_by [] open_ at h = h
begun_by (BeginOf n kind ∷ ss) open_ at h = begun_by ss (record { node = n; from = at } ∷ open_) (suc at) (omega arith, begun_more open_ at (suc at) (omega arith) h)
begun_by (LettersOf n count ∷ ss) open_ at h = begun_by ss open_ (at + count) (begun_more open_ at (at + count) (omega arith) h)
begun_by (EndOf kind ∷ ss) [] at h = begun_by ss [] (suc at) tt
begun_by (EndOf kind ∷ ss) (b ∷ open_) at h = begun_by ss open_ (suc at) (begun_more open_ at (suc at) (omega arith) h.1)

pub place-from : (ss : List Sign) (at : ℕ) → place_after ss at ≡ at + place_after ss 0
place-from [] at = omega arith
place-from (BeginOf n kind ∷ ss) at = let p = place-from ss (suc at) in let q = place-from ss 1 in omega (arith, p, q)
place-from (LettersOf n count ∷ ss) at = let p = place-from ss (at + count) in let q = place-from ss (0 + count) in omega (arith, p, q)
place-from (EndOf kind ∷ ss) at = let p = place-from ss (suc at) in let q = place-from ss 1 in omega (arith, p, q)

pub place-append : (xs ys : List Sign) (at : ℕ) → place_after (xs ++ ys) at ≡ place_after ys (place_after xs at)
place-append [] ys at = refl
place-append (BeginOf n kind ∷ xs) ys at = place-append xs ys (suc at)
place-append (LettersOf n count ∷ xs) ys at = place-append xs ys (at + count)
place-append (EndOf kind ∷ xs) ys at = place-append xs ys (suc at)

pub open-append : (xs ys : List Sign) (open_ : List Begun) (at : ℕ) → open_after (xs ++ ys) open_ at ≡ open_after ys (open_after xs open_ at) (place_after xs at)
open-append [] ys open_ at = refl
open-append (BeginOf n kind ∷ xs) ys open_ at = open-append xs ys (record { node = n; from = at } ∷ open_) (suc at)
open-append (LettersOf n count ∷ xs) ys open_ at = open-append xs ys open_ (at + count)
open-append (EndOf kind ∷ xs) ys [] at = open-append xs ys [] (suc at)
open-append (EndOf kind ∷ xs) ys (b ∷ open_) at = open-append xs ys open_ (suc at)

-- each node's length is read once
abbrev pub sized_nodes : List Sized → List ℕ
sized_nodes = map (λ (z : Sized). z.node)

abbrev pub begun_nodes : List Begun → List ℕ
begun_nodes = map (λ (b : Begun). b.node)

abbrev pub sign_nums : List Sign → List ℕ
sign_nums ss = nums (map token_of ss)

pub sizes-times : (q : ℕ) (ss : List Sign) (open_ : List Begun) (at : ℕ) →
    times q (sized_nodes (sizes ss open_ at)) + times q (begun_nodes (open_after ss open_ at)) ≡ times q (sign_nums ss) + times q (begun_nodes open_)
sizes-times q [] open_ at = refl
sizes-times q (BeginOf n kind ∷ ss) open_ at = let h = sizes-times q ss (record { node = n; from = at } ∷ open_) (suc at) in omega (arith, h)
sizes-times q (LettersOf n len ∷ ss) open_ at = let h = sizes-times q ss open_ (at + len) in omega (arith, h)
sizes-times q (EndOf kind ∷ ss) [] at = sizes-times q ss [] (suc at)
sizes-times q (EndOf kind ∷ ss) (b ∷ open_) at = let h = sizes-times q ss open_ (suc at) in omega (arith, h)

pub inner-times : (q : ℕ) (ss : List Sign) (begun : List Begun) (at : ℕ) → times q (sized_nodes (inner_sizes ss begun at)) ≤ times q (sign_nums ss) + times q (begun_nodes begun)
inner-times q [] begun at = omega arith
inner-times q (BeginOf n kind ∷ ss) begun at = let h = inner-times q ss (record { node = n; from = at } ∷ begun) (suc at) in omega (arith, h)
inner-times q (LettersOf n len ∷ ss) begun at = let h = inner-times q ss begun (at + len) in omega (arith, h)
inner-times q (EndOf kind ∷ ss) [] at = inner-times q ss [] (suc at)
inner-times q (EndOf kind ∷ ss) (b ∷ begun) at = let h = inner-times q ss begun (suc at) in omega (arith, h)
