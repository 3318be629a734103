-- Looking for a name by halves, and putting it where it belongs.
use Rattle.std.proofs.Common.{not, cond, ◌≡◌, ℕ, ◌+◌, ◌-◌, ◌<◌, ◌≤◌, Bool, true, false, ◌||◌, List, [], ◌∷◌, ◌++◌, length, get_or, refl, sym, ap, ◌∙◌, arith, inl, inr, Bor}
use Rattle.std.specs.List.{list_any, insert, HoldsAt}
use Rattle.std.specs.List.Sorted.{IsPartitionPoint}
use Rattle.std.specs.Cmp.Lexicographic.{slice_cmp}
use Rattle.std.specs.declared.cmp.Ordering.{Ordering}
use Rattle.std.specs.declared.cmp.Ordering.TheVariants.{Less, Equal, Greater}
use Rattle.std.specs.Ordering.{nat_cmp, ordering_index, ordering_reverse, is_eq}
use Rattle.std.proofs.lemmas.Bool.{cases_lt}
use borrow.Rule.Slice.PartMut.{mid_of, put_mid}
use Rattle.std.proofs.Common.{drop, take}
use Rattle.std.proofs.Math.ListN.{set, length-set}
use Rattle.std.proofs.lemmas.List.{drop-take, drop-append-le, drop_at, take_at, take_more_set, take-set-le, take-take, length-append, length-take, length-drop}
use Rattle.std.proofs.lemmas.Slice.{take-put_mid}
use Rattle.std.proofs.lemmas.Slice.Eq.{bytes_eq-Decides}
use Rattle.std.proofs.lemmas.Cmp.{nat_list_cmp_total, alike_right}
use Rattle.std.proofs.lemmas.List.Folds.{list_any_none, list_any_at}
use Rattle.std.proofs.lemmas.List.Sorted.{list_any-IsPermutation, IsPermutation-insert, IsNonDecreasingBy-insert}
use Rattle.std.proofs.lemmas.Map.Text.{is_eq-slice_cmp}
use Rattle.model_spelling.specs.Grammar.{name_same}
use Rattle.ve_kinds.specs.Tags.{is_one_of}
use Rattle.ve_html_scan.specs.Names.{texts, CanBeSearched}

-- how a name that is borrowed stands to another
abbrev pub against : List ℕ → Bor (List ℕ) → Ordering
against x n = slice_cmp nat_cmp n.now x

same_as : (a b : List ℕ) (o : Ordering) → slice_cmp nat_cmp a b ≡ o → name_same a b ≡ is_eq o
unfolding name_same
same_as a b o e = sym (is_eq-slice_cmp a b) ∙ ap is_eq e

any_lent : (p : List ℕ → Bool) (names : List (Bor (List ℕ))) → list_any p (texts names) ≡ list_any (λ (n : Bor (List ℕ)). p n.now) names
any_lent p [] = refl
any_lent p (n ∷ names) = ap (λ (r : Bool). p n.now || r) (any_lent p names)

pub not_among : (names : List (Bor (List ℕ))) (x : List ℕ) (i : ℕ) → IsPartitionPoint (λ n. against x n ≡ Less) (λ n. against x n ≡ Greater) names i → is_one_of (texts names) x ≡ false
unfolding name_same
not_among names x i parted =
    any_lent (λ n. name_same n x) names
    ∙ list_any_none (λ (n : Bor (List ℕ)). name_same n.now x) names (λ k d lt. elim (cases_lt k i) [
      | inl l ↦ same_as (get_or names k d).now x Less (parted.0 k d (omega arith) l)
      | inr g ↦ same_as (get_or names k d).now x Greater (parted.1 k d g lt)
    ])

pub is_among : (names : List (Bor (List ℕ))) (name : Bor (List ℕ)) (i : ℕ) → i < length names → HoldsAt (λ n. against name.now n ≡ Equal) names i → is_one_of (texts names) name.now ≡ true
unfolding name_same
is_among names name i lt found =
    any_lent (λ n. name_same n name.now) names
    ∙ list_any_at (λ (n : Bor (List ℕ)). name_same n.now name.now) names i name lt (same_as (get_or names i name).now name.now Equal (found name))

pub among_more : (names : List (Bor (List ℕ))) (name : Bor (List ℕ)) (i : ℕ) (x : List ℕ) → is_one_of (texts (insert names i name)) x ≡ (name_same name.now x || is_one_of (texts names) x)
unfolding name_same
among_more names name i x =
    let p : List ℕ → Bool = λ n. name_same n x in
    any_lent p (insert names i name)
    ∙ sym (list_any-IsPermutation (λ (n : Bor (List ℕ)). p n.now) (name ∷ names) (insert names i name) (IsPermutation-insert names i name))
    ∙ ap (λ (r : Bool). p name.now || r) (sym (any_lent p names))

-- ---- the order

rises_by : (a b x : List ℕ) (o : Ordering) → slice_cmp nat_cmp a b ≡ Less → slice_cmp nat_cmp b x ≡ o → ordering_index (slice_cmp nat_cmp a x) ≤ ordering_index o
rises_by a b x Less e f = omega (arith, ap ordering_index (nat_list_cmp_total.trans a b x e f))
rises_by a b x Equal e f = omega (arith, ap ordering_index (sym (alike_right nat_list_cmp_total b x a f) ∙ e))
rises_by a b x Greater e f = at_most_two (slice_cmp nat_cmp a x)
  where
    at_most_two : (o : Ordering) → ordering_index o ≤ 2
    at_most_two Less = omega arith
    at_most_two Equal = omega arith
    at_most_two Greater = omega arith

-- a name that is below another stands no higher to a third
rises : (a b x : List ℕ) → slice_cmp nat_cmp a b ≡ Less → ordering_index (slice_cmp nat_cmp a x) ≤ ordering_index (slice_cmp nat_cmp b x)
rises a b x e = rises_by a b x (slice_cmp nat_cmp b x) e refl

pub searched_more : (names : List (Bor (List ℕ))) (name : Bor (List ℕ)) (i : ℕ) → CanBeSearched names → i ≤ length names → IsPartitionPoint (λ n. against name.now n ≡ Less) (λ n. against name.now n ≡ Greater) names i → CanBeSearched (insert names i name)
searched_more names name i s le parted x =
    IsNonDecreasingBy-insert (λ (n : Bor (List ℕ)). ordering_index (against x n)) names i name (s x) le
    (λ k d lt. rises (get_or names k d).now name.now x (parted.0 k d (omega arith) lt))
    (λ k d ge lt. rises name.now (get_or names k d).now x (nat_list_cmp_total.antisymm name.now (get_or names k d).now ∙ ap ordering_reverse (parted.1 k d ge lt)))

-- ---- putting a name where it belongs

-- the names from position on in the first len, and the one after them
turned : {X : Type 0} (xs : List X) (len place : ℕ) (x : X) → place ≤ len → len < length xs → mid_of place (len + 1 - place) (set xs len x) ≡ drop place (take len xs) ++ x ∷ []
turned xs len place x le lt =
    let more_is : take (len + 1) (set xs len x) ≡ take len xs ++ x ∷ [] = take_more_set xs len x lt in
    let n : place + (len + 1 - place) ≡ len + 1 = omega arith in
    sym (drop-take place (len + 1 - place) (set xs len x))
    ∙ ap (λ (k : ℕ). drop place (take k (set xs len x))) n
    ∙ ap (drop place) more_is
    ∙ drop-append-le place (take len xs) (x ∷ []) (omega (arith, length-take len xs))

-- after the last of these has come to their prefix
pub put : {X : Type 0} (xs ys part : List X) (len place : ℕ) (x : X) → place ≤ len → len < length xs → part ≡ mid_of place (len + 1 - place) (set xs len x) → ys ≡ drop (length part - 1) part ++ take (length part - 1) part
    → take (len + 1) (put_mid place (len + 1 - place) (set xs len x) ys) ≡ insert (take len xs) place x
put xs ys part len place x le lt p e =
    let rest = drop place (take len xs) in
    let is : part ≡ rest ++ x ∷ [] = p ∙ turned xs len place x le lt in
    let n : length rest ≡ length part - 1 = omega (arith, ap length is, length-append rest (x ∷ [])) in
    let ys_is : ys ≡ x ∷ rest =
    e ∙ ap (λ (l : List _). drop (length part - 1) l ++ take (length part - 1) l) is
    ∙ ap (λ (l : List _). l ++ take (length part - 1) (rest ++ x ∷ [])) (drop_at rest (x ∷ []) (length part - 1) n)
    ∙ ap (λ (l : List _). x ∷ l) (take_at rest (x ∷ []) (length part - 1) n) in
    let long : len + 1 ≡ place + length ys = omega (arith, ap length ys_is, length-drop place (take len xs), length-take len xs) in
    take-put_mid place (len + 1 - place) (set xs len x) ys (len + 1) long (omega (arith, length-set xs len x))
    ∙ ap (λ (l : List _). l ++ ys) (take-set-le place xs len x le ∙ sym (take-take place len xs le))
    ∙ ap (λ (l : List _). take place (take len xs) ++ l) ys_is

-- ---- a name that is there already

already_by : (names : List (List ℕ)) (name x : List ℕ) (r : Bool) → is_one_of names name ≡ true → name_same name x ≡ r → is_one_of names x ≡ (r || is_one_of names x)
unfolding name_same
already_by names name x true e same = ap (is_one_of names) (sym ((bytes_eq-Decides name x).0 same)) ∙ e
already_by names name x false e same = refl

pub already : (names : List (List ℕ)) (name x : List ℕ) → is_one_of names name ≡ true → is_one_of names x ≡ (name_same name x || is_one_of names x)
already names name x e = already_by names name x (name_same name x) e refl

-- ---- what the answers say

pub was_among : (r b : Bool) → r ≡ not b → r ≡ false → b ≡ true
was_among r true e f = refl
was_among r false e f = absurd cc

pub was_not_among : (r b : Bool) → r ≡ not b → r ≡ true → b ≡ false
was_not_among r true e f = absurd cc
was_not_among r false e f = refl

pub one_longer : (r : Bool) (new old : ℕ) → new ≡ cond r (old + 1) old → r ≡ true → new ≡ old + 1
one_longer r new old e t = e ∙ rw t refl
