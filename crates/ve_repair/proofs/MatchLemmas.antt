-- An old and a new node match exactly where their numbers are equal.
use Rattle.std.proofs.Common.{◌≡◌, ◌≢◌, ◌≤◌, ◌<◌, ◌⊎◌, inl, inr, ℕ, zero, suc, ◌+◌, true, nat_lt, ◌&&◌, Option, Some, None, List, [], ◌∷◌, map, refl, sym, ap, ◌∙◌, subst, arith}
use Rattle.std.proofs.lemmas.Bool.{true≢false, lt-ltb, le-leb}
use Rattle.std.proofs.lemmas.Option.{same_Some, none-some}
use Rattle.model_change.specs.Transaction.{Transaction}
use Rattle.model_change.specs.Inverse.{inverse}
use Rattle.model_change.specs.Touch.{NodeName, TheRoot, Opened, Text, image, match_by, lies_in, new_place, or_next, first_retained}
use Rattle.ve_tree.specs.Links.{Apart, AllApart}
use Rattle.ve_repair.specs.Spelled.{Sign, BeginOf, LettersOf, EndOf, token_of}
use Rattle.ve_repair.specs.Ready.{nums}
use Rattle.ve_repair.specs.Traced.{Stands, IsText, IsOpening, NoneAt, FirstOfBoth, KeptText, NewText, KeptOpening, NewOpening, AllTraced}
use Rattle.ve_repair.proofs.PlaceLemmas.{by_order, place_back, place_forth, in_range, texts_match}
use Rattle.ve_repair.proofs.StandLemmas.{number_in, one_at, one_numbered, not_listed, are_once, opening_number}
use Rattle.ve_repair.proofs.TracedLemmas.{OneOne}

-- a retained item has one old position
pub one_one : (t : Transaction) → OneOne (new_place t)
one_one t p x q e e' = same_Some p x (sym (place_back t [] p q e) ∙ place_back t [] x q e')

-- where no old item stands, the inverse leads nowhere
none_back : (t : Transaction) (q : ℕ) → NoneAt (new_place t) q → new_place (inverse t) q ≡ None
none_back t q h = go (new_place (inverse t) q) refl
  where
    go : (o : Option ℕ) → new_place (inverse t) q ≡ o → new_place (inverse t) q ≡ None
    go None e = e
    go (Some p) e = absurd (h p (place_forth t [] q p e))

first_found : (t : Transaction) (count from p q : ℕ) → from ≤ p → p < from + count → new_place t p ≡ Some q →
    ((x : ℕ) → from ≤ x → x < p → new_place t x ≡ None) → first_retained t from count ≡ Some q
first_found t zero from p q a b e h = absurd (omega (arith, a, b))
first_found t (suc count) from p q a b e h =
    by_order from p
    (λ l. ap (λ o. or_next o (first_retained t (suc from) count)) (h from (omega arith) l)
    ∙ first_found t count (suc from) p q (omega (arith, l)) (omega (arith, b)) e (λ x c d. h x (omega (arith, c)) d))
    (λ l. absurd (omega (arith, a, l))) (λ same. ap (λ o. or_next o (first_retained t (suc from) count)) (ap (new_place t) same ∙ e))

lies : (o : Option ℕ) (q from count : ℕ) → o ≡ Some q → from ≤ q → q < from + count → lies_in o from count ≡ true
lies o q from count e a b = ap (λ o. lies_in o from count) e ∙ ap (λ b. b && nat_lt q (from + count)) (le-leb from q a) ∙ lt-ltb q (from + count) b

-- two texts match where one item is the first of both
pub texts_same : (t : Transaction) (at count at' count' : ℕ) → FirstOfBoth (new_place t) at count at' count' →
    match_by (Text at) (first_retained t at count) count (Text at') (first_retained (inverse t) at' count') count' ≡ true
texts_same t at count at' count' f =
    ap (λ b. b && lies_in (first_retained (inverse t) at' count') at count)
    (lies (first_retained t at count) f.here at' count' (first_found t count at f.there f.here f.behind f.before f.goes f.first) f.behind' f.before')
    ∙ lies (first_retained (inverse t) at' count') f.there at count
    (first_found (inverse t) count' at' f.here f.there f.behind' f.before' (place_back t [] f.there f.here f.goes) (λ x a b. none_back t x (f.first' x a b))) f.behind f.before

pub texts_first : (t : Transaction) (at count at' count' : ℕ) →
    match_by (Text at) (first_retained t at count) count (Text at') (first_retained (inverse t) at' count') count' ≡ true →
    FirstOfBoth (new_place t) at count at' count'
texts_first t at count at' count' h =
    let s = texts_match t at count at' count' h in
    record {
      there = s.old_place;
      here = s.new_at;
      goes = s.old_first.place;
      behind = s.old_first.after_start;
      before = s.old_first.before_end;
      first = s.old_first.none_before;
      behind' = s.new_first.after_start;
      before' = s.new_first.before_end;
      first' = λ q a b p e. none-some p (sym (s.new_first.none_before q a b) ∙ place_back t [] p q e);
    }

-- what a list's signs say of a node with a name
abbrev pub IsNamed : List Sign → ℕ → ℕ → NodeName → ℕ → Type 0
IsNamed ss root n TheRoot count = n ≡ root
IsNamed ss root n (Opened at) count = IsOpening ss n at
IsNamed ss root n (Text at) count = IsText ss n at count

-- and what the trace of a list says
text_traced : (place : ℕ → Option ℕ) (old : List Sign) (numbers : List ℕ) (ss : List Sign) (from n count at : ℕ) → AllTraced place old numbers ss from →
    Stands ss from (LettersOf n count) at →
    KeptText place old n at count ⊎ NewText place old numbers n at count
text_traced place old numbers [] from n count at t h = absurd h
text_traced place old numbers (BeginOf m kind ∷ ss) from n count at t h = elim h [ inl e ↦ absurd (let d = e.0 in cc) | inr l ↦ text_traced place old numbers ss (suc from) n count at t.1 l ]
text_traced place old numbers (LettersOf m more ∷ ss) from n count at t h = elim h [
  | inl e ↦ (let a : m ≡ n = let d = e.0 in cc in let b : more ≡ count = let d = e.0 in cc in subst3 a b e.1 t.0)
  | inr l ↦ text_traced place old numbers ss (from + more) n count at t.1 l
]
  where
    subst3 : {m' n' c c' a a' : ℕ} → m' ≡ n' → c ≡ c' → a ≡ a' → KeptText place old m' a c ⊎ NewText place old numbers m' a c →
        KeptText place old n' a' c' ⊎ NewText place old numbers n' a' c'
    subst3 {m'} {n'} {c} {c'} {a} {a'} p q r h =
        subst (λ k. KeptText place old n' a' k ⊎ NewText place old numbers n' a' k) q
        (subst (λ k. KeptText place old n' k c ⊎ NewText place old numbers n' k c) r (subst (λ k. KeptText place old k a c ⊎ NewText place old numbers k a c) p h))
text_traced place old numbers (EndOf kind ∷ ss) from n count at t h = elim h [ inl e ↦ absurd (let d = e.0 in cc) | inr l ↦ text_traced place old numbers ss (suc from) n count at t l ]

opening_traced : (place : ℕ → Option ℕ) (old : List Sign) (numbers : List ℕ) (ss : List Sign) (from n at : ℕ) (s : Sign) →
    AllTraced place old numbers ss from → Stands ss from s at → opening_number s ≡ Some n →
    KeptOpening place old n at ⊎ NewOpening place numbers n at
opening_traced place old numbers [] from n at s t h is = absurd h
opening_traced place old numbers (BeginOf m kind ∷ ss) from n at s t h is = elim h [
  | inl e ↦ (let a = same_Some m n (ap opening_number e.0 ∙ is) in
      subst (λ k. KeptOpening place old n k ⊎ NewOpening place numbers n k) e.1 (subst (λ k. KeptOpening place old k from ⊎ NewOpening place numbers k from) a t.0))
  | inr l ↦ opening_traced place old numbers ss (suc from) n at s t.1 l is
]
opening_traced place old numbers (LettersOf m more ∷ ss) from n at s t h is = elim h [
  | inl e ↦ absurd (none-some n (ap opening_number e.0 ∙ is))
  | inr l ↦ opening_traced place old numbers ss (from + more) n at s t.1 l is
]
opening_traced place old numbers (EndOf kind ∷ ss) from n at s t h is = elim h [
  | inl e ↦ absurd (none-some n (ap opening_number e.0 ∙ is))
  | inr l ↦ opening_traced place old numbers ss (suc from) n at s t l is
]

same_text : (old : List Sign) (n at count at' count' : ℕ) → AllApart (nums (map token_of old)) → IsText old n at count → IsText old n at' count' →
    (at ≡ at') × (count ≡ count')
same_text old n at count at' count' all a b = (are_once old all).by_number n at count at' count' a b

no_both : (old : List Sign) (n at count at' : ℕ) → AllApart (nums (map token_of old)) → IsText old n at count → IsOpening old n at' → ⊥
no_both old n at count at' all a b =
    let same = one_numbered old 0 (LettersOf n count) (BeginOf n b.kind) at at' n all a b.stands refl refl in
    none-some n (ap opening_number same.sign)

opening_apart : (old : List Sign) (n at m : ℕ) → IsOpening old n at → Apart m (nums (map token_of old)) → n ≢ m
opening_apart old n at m i a e = not_listed old 0 (BeginOf n i.kind) at m i.stands (ap (λ (k : ℕ). Some k) e) a

text_apart : (old : List Sign) (n at count m : ℕ) → IsText old n at count → Apart m (nums (map token_of old)) → n ≢ m
text_apart old n at count m i a e = not_listed old 0 (LettersOf n count) at m i (ap (λ (k : ℕ). Some k) e) a

-- Where the new list's nodes are traced to the old one's, an old and a new node match exactly where
-- their numbers are equal.
module _ (t : Transaction) (old new : List Sign) (root : ℕ) (apart : AllApart (root ∷ nums (map token_of old))) (traced : AllTraced (new_place t) old (root ∷ nums (map token_of old)) new 0) where
  opening_of : (n at : ℕ) → IsOpening new n at → KeptOpening (new_place t) old n at ⊎ NewOpening (new_place t) (root ∷ nums (map token_of old)) n at
  opening_of n at i = opening_traced (new_place t) old (root ∷ nums (map token_of old)) new 0 n at (BeginOf n i.kind) traced i.stands refl

  text_of : (n at count : ℕ) → IsText new n at count →
      KeptText (new_place t) old n at count ⊎ NewText (new_place t) old (root ∷ nums (map token_of old)) n at count
  text_of n at count i = text_traced (new_place t) old (root ∷ nums (map token_of old)) new 0 n count at traced i

  opened_match : (o at n at' : ℕ) → IsOpening old o at → IsOpening new n at' → lies_in (new_place t at) at' 1 ≡ true → n ≡ o
  opened_match o at n at' i j h =
      let r = in_range (new_place t at) at' 1 h in
      let low = r.2 in
      let high = r.3 in
      let there : new_place t at ≡ Some at' = r.1 ∙ ap (λ (k : ℕ). Some k) (omega (arith, low, high)) in
      elim (opening_of n at' j) [
        | inl k ↦ (let place = one_one t k.at at at' k.goes there in
            let s = one_at old 0 (BeginOf n k.opening.kind) (BeginOf o i.kind) k.at at at k.opening.stands i.stands (omega (arith, place)) (omega (arith, place)) (omega arith) (omega arith) in
            same_Some n o (ap number_in s.sign))
        | inr k ↦ absurd (k.other at there)
      ]

  text_match : (o at count n at' count' : ℕ) → IsText old o at count → IsText new n at' count' →
      match_by (Text at) (first_retained t at count) count (Text at') (first_retained (inverse t) at' count') count' ≡ true → n ≡ o
  text_match o at count n at' count' i j h = elim (text_of n at' count' j) [
    | inl k ↦ one_text k (texts_first t at count at' count' h)
    | inr k ↦ absurd (k.other o at count i (texts_first t at count at' count' h))
  ]
    where
      one_text : (k : KeptText (new_place t) old n at' count') → FirstOfBoth (new_place t) at count at' count' → n ≡ o
      one_text k f =
          let g = k.same in
          let here : g.here ≡ f.here = by_order g.here f.here (λ l. absurd (f.first' g.here g.behind' l g.there g.goes)) (λ l. absurd (g.first' f.here f.behind' l f.there f.goes)) (λ e. e) in
          let there = one_one t g.there f.there f.here (g.goes ∙ ap (λ (x : ℕ). Some x) here) f.goes in
          (are_once old apart.1).by_place n k.at k.count o at count f.there k.text i
          (subst (λ x. k.at ≤ x) there g.behind) (subst (λ x. x < k.at + k.count) there g.before) f.behind f.before

  pub match_number : (name name' : NodeName) (o n count count' : ℕ) → IsNamed old root o name count → IsNamed new root n name' count' →
      match_by name (image t name count) count name' (image (inverse t) name' count') count' ≡ true → n ≡ o
  match_number TheRoot TheRoot o n count count' i j h = j ∙ sym i
  match_number TheRoot (Opened at') o n count count' i j h = absurd (true≢false (sym h))
  match_number TheRoot (Text at') o n count count' i j h = absurd (true≢false (sym h))
  match_number (Opened at) TheRoot o n count count' i j h = absurd (true≢false (sym h))
  match_number (Opened at) (Opened at') o n count count' i j h = opened_match o at n at' i j h
  match_number (Opened at) (Text at') o n count count' i j h = absurd (true≢false (sym h))
  match_number (Text at) TheRoot o n count count' i j h = absurd (true≢false (sym h))
  match_number (Text at) (Opened at') o n count count' i j h = absurd (true≢false (sym h))
  match_number (Text at) (Text at') o n count count' i j h = text_match o at count n at' count' i j h

  -- and the other way round
  opened_same : (n at at' : ℕ) → IsOpening old n at → IsOpening new n at' → lies_in (new_place t at) at' 1 ≡ true
  opened_same n at at' i j = elim (opening_of n at' j) [
    | inl k ↦ (let s = one_numbered old 0 (BeginOf n k.opening.kind) (BeginOf n i.kind) k.at at n apart.1 k.opening.stands i.stands refl refl in
        lies (new_place t at) at' at' 1 (ap (new_place t) (sym s.place) ∙ k.goes) (omega arith) (omega arith))
    | inr k ↦ absurd (opening_apart old n at n i k.fresh.1 refl)
  ]

  text_same : (n at count at' count' : ℕ) → IsText old n at count → IsText new n at' count' →
      match_by (Text at) (first_retained t at count) count (Text at') (first_retained (inverse t) at' count') count' ≡ true
  text_same n at count at' count' i j = elim (text_of n at' count' j) [
    | inl k ↦ (let s = same_text old n k.at k.count at count apart.1 k.text i in
        texts_same t at count at' count' (subst (λ c. FirstOfBoth (new_place t) at c at' count') s.1 (subst (λ a. FirstOfBoth (new_place t) a k.count at' count') s.0 k.same)))
    | inr k ↦ absurd (text_apart old n at count n i k.fresh.1 refl)
  ]

  new_not_root : (n at : ℕ) → IsOpening new n at → n ≢ root
  new_not_root n at j e = elim (opening_of n at j) [ inl k ↦ opening_apart old n k.at root k.opening apart.0 e | inr k ↦ k.fresh.0 e ]

  text_not_root : (n at count : ℕ) → IsText new n at count → n ≢ root
  text_not_root n at count j e = elim (text_of n at count j) [ inl k ↦ text_apart old n k.at k.count root k.text apart.0 e | inr k ↦ k.fresh.0 e ]

  old_text_opens : (n at count at' : ℕ) → IsText old n at count → IsOpening new n at' → ⊥
  old_text_opens n at count at' i j = elim (opening_of n at' j) [ inl k ↦ no_both old n at count k.at apart.1 i k.opening | inr k ↦ text_apart old n at count n i k.fresh.1 refl ]

  old_opening_is_text : (n at at' count' : ℕ) → IsOpening old n at → IsText new n at' count' → ⊥
  old_opening_is_text n at at' count' i j = elim (text_of n at' count' j) [ inl k ↦ no_both old n k.at k.count at apart.1 k.text i | inr k ↦ opening_apart old n at n i k.fresh.1 refl ]

  same_match : (name name' : NodeName) (n count count' : ℕ) → IsNamed old root n name count → IsNamed new root n name' count' →
      match_by name (image t name count) count name' (image (inverse t) name' count') count' ≡ true
  same_match TheRoot TheRoot n count count' i j = refl
  same_match TheRoot (Opened at') n count count' i j = absurd (new_not_root n at' j i)
  same_match TheRoot (Text at') n count count' i j = absurd (text_not_root n at' count' j i)
  same_match (Opened at) TheRoot n count count' i j = absurd (opening_apart old n at root i apart.0 j)
  same_match (Opened at) (Opened at') n count count' i j = opened_same n at at' i j
  same_match (Opened at) (Text at') n count count' i j = absurd (old_opening_is_text n at at' count' i j)
  same_match (Text at) TheRoot n count count' i j = absurd (text_apart old n at count root i apart.0 j)
  same_match (Text at) (Opened at') n count count' i j = absurd (old_text_opens n at count at' i j)
  same_match (Text at) (Text at') n count count' i j = text_same n at count at' count' i j

  pub number_match : (name name' : NodeName) (o n count count' : ℕ) → IsNamed old root o name count → IsNamed new root n name' count' → n ≡ o →
      match_by name (image t name count) count name' (image (inverse t) name' count') count' ≡ true
  number_match name name' o n count count' i j e = same_match name name' n count count' (subst (λ k. IsNamed old root k name count) (sym e) i) j
