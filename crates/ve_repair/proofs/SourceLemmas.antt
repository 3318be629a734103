-- Every node of the new forest is traced to the old one.
use Rattle.std.proofs.Common.{◌≡◌, ◌≤◌, ◌⊎◌, inl, inr, ℕ, suc, ◌+◌, Option, Some, None, option_map, List, [], ◌∷◌, ◌++◌, replicate, refl, sym, ap, ◌∙◌, subst, arith, append-nil}
use Rattle.std.proofs.lemmas.Option.{none-some}
use Rattle.model_items.specs.declared.plain_item.PlainItem.{PlainItem}
use Rattle.ve_tree.specs.Links.{AllApart}
use Rattle.ve_tree.specs.Named.{Named, node_numbers}
use Rattle.ve_repair.specs.Tokens.{puts}
use Rattle.ve_repair.specs.Spelled.{Sign, BeginOf, LettersOf, EndOf, AllFrom}
use Rattle.ve_repair.specs.Script.{script_for, signs_for, first_reader}
use Rattle.ve_repair.specs.Acts.{Act, Stay, marks}
use Rattle.ve_repair.specs.Sizes.{signs_of, place_after}
use Rattle.ve_repair.specs.Ready.{nums}
use Rattle.ve_repair.specs.Changed.{IsChangeOf}
use Rattle.ve_repair.specs.Traced.{Stands, AllTraced, AreOnce}
use Rattle.ve_repair.specs.Moved.{act_place, Follows, Moves}
use Rattle.ve_repair.proofs.ChangedLemmas.{tokens-signs, proper_front, proper_behind}
use Rattle.ve_repair.proofs.ReadyLemmas.{nums-tokens}
use Rattle.ve_repair.proofs.StandLemmas.{size_of, are_once, stands_left, stands_right, stands_from, place_grows}
use Rattle.ve_repair.proofs.MovedLemmas.{stays, goes, stays_traced, replicate_stays}
use Rattle.ve_repair.proofs.TracedLemmas.{OneOne, SeenIs, marks_traced}

-- a sign stands in the first part, or in the second
stands_cases : (xs ys : List Sign) (from : ℕ) (s : Sign) (at : ℕ) → Stands (xs ++ ys) from s at → Stands xs from s at ⊎ Stands ys (place_after xs from) s at
stands_cases [] ys from s at h = inr h
stands_cases (BeginOf n kind ∷ xs) ys from s at h = elim h [ inl e ↦ inl (inl e) | inr l ↦ elim (stands_cases xs ys (suc from) s at l) [ inl a ↦ inl (inr a) | inr b ↦ inr b ] ]
stands_cases (LettersOf n count ∷ xs) ys from s at h = elim h [ inl e ↦ inl (inl e) | inr l ↦ elim (stands_cases xs ys (from + count) s at l) [ inl a ↦ inl (inr a) | inr b ↦ inr b ] ]
stands_cases (EndOf kind ∷ xs) ys from s at h = elim h [ inl e ↦ inl (inl e) | inr l ↦ elim (stands_cases xs ys (suc from) s at l) [ inl a ↦ inl (inr a) | inr b ↦ inr b ] ]

-- a sign ends before what follows its list begins
stands_before : (xs : List Sign) (from : ℕ) (s : Sign) (at : ℕ) → Stands xs from s at → at + size_of s ≤ place_after xs from
stands_before [] from s at h = absurd h
stands_before (BeginOf n kind ∷ xs) from s at h = elim h [
  | inl e ↦ (let r = place_grows xs (suc from) in let here = e.1 in let size = ap size_of e.0 in omega (arith, r, here, size))
  | inr l ↦ stands_before xs (suc from) s at l
]
stands_before (LettersOf n count ∷ xs) from s at h = elim h [
  | inl e ↦ (let r = place_grows xs (from + count) in let here = e.1 in let size = ap size_of e.0 in omega (arith, r, here, size))
  | inr l ↦ stands_before xs (from + count) s at l
]
stands_before (EndOf kind ∷ xs) from s at h = elim h [
  | inl e ↦ (let r = place_grows xs (suc from) in let here = e.1 in let size = ap size_of e.0 in omega (arith, r, here, size))
  | inr l ↦ stands_before xs (suc from) s at l
]

-- between two signs nothing was seen
seen_start : (place : ℕ → Option ℕ) (xs ys : List Sign) → SeenIs place (xs ++ ys) None (place_after xs 0)
seen_start place xs ys = record {
  seen_from = λ t e. absurd (none-some t e);
  seen_in = λ t at count x y text a b c e. elim (stands_cases xs ys 0 (LettersOf t count) at text) [
    | inl l ↦ (let r = stands_before xs 0 (LettersOf t count) at l in absurd (omega (arith, r, c)))
    | inr l ↦ (let r = stands_from ys (place_after xs 0) (LettersOf t count) at l in absurd (omega (arith, r, a, b)))
  ];
}

module _ (supply : ℕ → ℕ) (old : Named) (lefts ss rights : List Sign) (acts : List Act) (others : List PlainItem) (place : ℕ → Option ℕ) (numbers : List ℕ)
    (c : IsChangeOf old lefts ss rights acts others) (apart : AllApart (node_numbers old)) (moves : Moves place lefts acts rights) (inj : OneOne place)
    (made : AllFrom (puts (script_for supply (marks acts ss) (first_reader 0))) numbers) where
  abbrev all : List Sign
  all = lefts ++ (ss ++ rights)

  abbrev mid : List Sign
  mid = signs_for supply (marks acts ss) (first_reader 0)

  abbrev at : ℕ
  at = place_after lefts 0

  once : AreOnce all
  once = subst AreOnce c.signs (are_once (signs_of old) (subst AllApart (sym (nums-tokens old) ∙ ap nums (tokens-signs old)) apart))

  -- what is done behind the first part, and behind the second
  abbrev behind : List Act
  behind = acts ++ replicate (place_after rights 0) Stay

  started : Follows place (stays lefts ++ behind) 0 0
  started = record {
    ahead = λ x. ap place (omega arith) ∙ moves x ∙ ap (λ l. act_place (l ++ behind) x) (replicate_stays lefts 0 at (omega arith))
        ∙ same (act_place (stays lefts ++ behind) x);
    behind = λ x y l e. absurd (omega (arith, l));
  }
    where
      same : (o : Option ℕ) → o ≡ option_map (λ y. 0 + y) o
      same None = refl
      same (Some y) = ap (λ (k : ℕ). Some k) (omega arith)

  right_traced : (r : ℕ) → Follows place (replicate (place_after rights 0) Stay) (place_after ss at) r → AllTraced place all numbers rights r
  right_traced r f =
      subst (λ l. AllTraced place all numbers l r) (append-nil rights)
      (stays_traced place all numbers [] [] rights (place_after ss at) r (proper_behind ss rights (proper_behind lefts (ss ++ rights) c.proper))
      (λ s x i. stands_right lefts (ss ++ rights) 0 s x (stands_right ss rights at s x i))
      (subst (λ l. Follows place l (place_after ss at) r) (replicate_stays rights 0 (place_after rights 0) (omega arith)
      ∙ sym (append-nil (stays rights))) f) (λ r f. tt))

  mid_traced : (r : ℕ) → Follows place behind at r → AllTraced place all numbers (mid ++ rights) r
  mid_traced r f =
      marks_traced place all once inj numbers supply rights (marks acts ss) (first_reader 0) at r r (seen_start place lefts (ss ++ rights)) refl
      (goes place all (λ p q. AllTraced place all numbers rights q) (replicate (place_after rights 0) Stay) (place_after ss at) right_traced acts ss at r c.uses
      (λ s x i. stands_right lefts (ss ++ rights) 0 s x (stands_left ss rights at s x i)) refl f) made

  pub all_traced : AllTraced place (signs_of old) numbers (lefts ++ (mid ++ rights)) 0
  all_traced =
      subst (λ l. AllTraced place l numbers (lefts ++ (mid ++ rights)) 0) (sym c.signs)
      (stays_traced place all numbers behind (mid ++ rights) lefts 0 0 (proper_front lefts (ss ++ rights) c.proper) (λ s x i. stands_left lefts (ss ++ rights) 0 s x i) started mid_traced)
