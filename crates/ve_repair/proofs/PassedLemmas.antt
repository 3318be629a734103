-- Items that stay or go, some at a time.
use Rattle.std.proofs.Common.{◌≡◌, ◌≤◌, ◌+◌, ◌-◌, ℕ, zero, suc, List, [], ◌∷◌, ◌++◌, replicate, sym, ap, ◌∙◌, subst, arith, append_assoc}
use Rattle.ve_tree.proofs.WalkLemmas.{Slots}
use Rattle.ve_repair.specs.Spelled.{Sign, BeginOf, LettersOf, EndOf}
use Rattle.ve_repair.specs.Acts.{Act}
use Rattle.ve_repair.specs.Cursors.{Spot, one_past, past, items_in}
use Rattle.ve_repair.specs.Reader.{Reading}
use Rattle.ve_repair.specs.Courses.{Course, HasRead, with_acts, IsReading}
use Rattle.ve_repair.proofs.CourseLemmas.{past-add}

-- no more items are passed than so many
one_less : (os : List ℕ) (ss : List Sign) → items_in ss ≤ items_in (one_past os ss).rest + 1
one_less os [] = omega arith
one_less os (BeginOf n kind ∷ ss) = omega arith
one_less os (LettersOf n zero ∷ ss) = omega arith
one_less os (LettersOf n (suc zero) ∷ ss) = omega arith
one_less os (LettersOf n (suc (suc count)) ∷ ss) = omega arith
one_less os (EndOf kind ∷ ss) = omega arith

pub past_few : (k : ℕ) (s : Spot) → items_in s.rest ≤ items_in (past k s).rest + k
past_few zero s = omega arith
past_few (suc k) s =
    let a = one_less s.open_nodes s.rest in
    let b = past_few k (one_past s.open_nodes s.rest) in
    omega (arith, a, b)

pub replicate-add : (x : Act) (a b : ℕ) → replicate a x ++ replicate b x ≡ replicate (a + b) x
replicate-add x zero b = let e : b ≡ 0 + b = omega arith in ap (λ m. replicate m x) e
replicate-add x (suc a) b = let e : suc (a + b) ≡ suc a + b = omega arith in ap (λ l. x ∷ l) (replicate-add x a b) ∙ ap (λ m. replicate m x) e

-- two pieces of a course are one
pub acts_join : (xs ys : List Act) (a b m n : ℕ) (c : Course) → with_acts ys b n (with_acts xs a m c) ≡ with_acts (xs ++ ys) (a + b) (m + n) c
acts_join xs ys a b m n c =
    let e : (c.bound + m) + n ≡ c.bound + (m + n) = omega arith in
    λ i. record { start = c.start; acts = append_assoc c.acts xs ys i; spot = sym (past-add a b c.spot) i; bound = e i }

pub same_join : (x : Act) (a b : ℕ) (c : Course) → with_acts (replicate b x) b 0 (with_acts (replicate a x) a 0 c) ≡ with_acts (replicate (a + b) x) (a + b) 0 c
same_join x a b c = acts_join (replicate a x) (replicate b x) a b 0 0 c ∙ ap (λ l. with_acts l (a + b) 0 c) (replicate-add x a b)

-- So many items are still to be passed of those that were to be passed.
pub record Passing (x : Act) (old now : Slots) (r0 r : Reading) (count left : ℕ) : Type 0 where
  pub few : left ≤ count
  pub read : (c : Course) → HasRead c old r0 → count ≤ items_in c.spot.rest → HasRead (with_acts (replicate (count - left) x) (count - left) 0 c) now r

pub passing_on : (x : Act) (old now new : Slots) (r0 r r1 : Reading) (count left k : ℕ) → Passing x old now r0 r count left → k ≤ left →
    ((c : Course) → HasRead c now r → left ≤ items_in c.spot.rest → HasRead (with_acts (replicate k x) k 0 c) new r1) → Passing x old new r0 r1 count (left - k)
passing_on x old now new r0 r r1 count left k p few step = record {
  few = let a = p.few in omega (arith, a);
  read = λ c h enough.
      let f = p.few in
      let sum : (count - left) + k ≡ count - (left - k) = omega (arith, f, few) in
      let passed = past_few (count - left) c.spot in
      subst (λ m. HasRead (with_acts (replicate m x) m 0 c) new r1) sum
      (subst (λ (d : Course). HasRead d new r1) (same_join x (count - left) k c)
      (step (with_acts (replicate (count - left) x) (count - left) 0 c) (p.read c h enough) (omega (arith, passed, enough, f))));
}

pub passing_reads : (x : Act) (old now : Slots) (r0 r : Reading) (count left more : ℕ) → IsReading old r0 count more → Passing x old now r0 r count left → IsReading now r left more
passing_reads x old now r0 r count left more i p = record {
  course = with_acts (replicate (count - left) x) (count - left) 0 i.course;
  read = p.read i.course i.read i.enough;
  enough =
      let passed = past_few (count - left) i.course.spot in
      let enough = i.enough in
      let few = p.few in
      omega (arith, passed, enough, few);
  room = let room = i.room in omega (arith, room);
}
