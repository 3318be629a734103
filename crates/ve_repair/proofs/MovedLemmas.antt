-- The marks of acts stand where the items go.
use Rattle.std.proofs.Common.{◌≡◌, ◌≤◌, ◌<◌, ◌-◌, inl, inr, ℕ, zero, suc, ◌+◌, Bool, true, false, nat_lt, Option, Some, None, option_map, List, [], ◌∷◌, ◌++◌, replicate, refl, sym, ap, ◌∙◌, subst, arith, append_assoc}
use Rattle.std.proofs.lemmas.Bool.{ltb-true}
use Rattle.std.proofs.lemmas.Option.{same_Some, none-some}
use Rattle.ve_repair.specs.Spelled.{Sign, BeginOf, LettersOf, EndOf, Proper}
use Rattle.ve_repair.specs.Acts.{Act, Stay, Go, ComeLetter, ComeBegin, ComeEnd, marks, Use}
use Rattle.ve_repair.specs.Sizes.{place_after}
use Rattle.ve_repair.specs.Traced.{Stands, IsText, NoneAt, FirstOfBoth, AllTraced, Goes}
use Rattle.ve_repair.specs.Moved.{act_place, Follows}
use Rattle.ve_repair.proofs.PlaceLemmas.{by_order}
use Rattle.ve_repair.proofs.StandLemmas.{no_text, place_grows}

abbrev Places : Type 0
Places = ℕ → Option ℕ

-- one item on
moved_on : (o : Option ℕ) (q : ℕ) → option_map (λ y. q + y) (option_map suc o) ≡ option_map (λ y. suc q + y) o
moved_on None q = refl
moved_on (Some y) q = ap (λ (k : ℕ). Some k) (omega arith)

follow_stay : (place : Places) (acts : List Act) (p q : ℕ) → Follows place (Stay ∷ acts) p q → (place p ≡ Some q) × Follows place acts (suc p) (suc q)
follow_stay place acts p q f = (here, record { ahead = on; behind = before })
  where
    here : place p ≡ Some q
    here = ap place (omega arith) ∙ f.ahead 0 ∙ ap (λ (k : ℕ). Some k) (omega arith)

    on : (x : ℕ) → place (suc p + x) ≡ option_map (λ y. suc q + y) (act_place acts x)
    on x = ap place (omega arith) ∙ f.ahead (suc x) ∙ moved_on (act_place acts x) q

    before : (x y : ℕ) → x < suc p → place x ≡ Some y → y < suc q
    before x y l e = by_order x p
        (λ m. let b = f.behind x y m e in omega (arith, b)) (λ m. absurd (omega (arith, l, m)))
        (λ same. let i = same_Some y q (sym e ∙ ap place same ∙ here) in omega (arith, i))

follow_go : (place : Places) (acts : List Act) (p q : ℕ) → Follows place (Go ∷ acts) p q → (place p ≡ None) × Follows place acts (suc p) q
follow_go place acts p q f = (here, record { ahead = λ x. ap place (omega arith) ∙ f.ahead (suc x); behind = before })
  where
    here : place p ≡ None
    here = ap place (omega arith) ∙ f.ahead 0

    before : (x y : ℕ) → x < suc p → place x ≡ Some y → y < q
    before x y l e = by_order x p
        (λ m. f.behind x y m e) (λ m. absurd (omega (arith, l, m))) (λ same. absurd (none-some y (sym here ∙ ap place (sym same) ∙ e)))

-- an item that comes
come_none : (place : Places) (acts : List Act) (p q : ℕ) → ((x : ℕ) → place (p + x) ≡ option_map (λ y. suc q + y) (act_place acts x)) →
    ((x y : ℕ) → x < p → place x ≡ Some y → y < q) → NoneAt place q
come_none place acts p q ahead behind x e = go (nat_lt x p) refl
  where
    some : (o : Option ℕ) → option_map (λ y. suc q + y) o ≡ Some q → ⊥
    some None i = none-some q i
    some (Some y) i = let k = same_Some (suc q + y) q i in omega (arith, k)

    go : (b : Bool) → nat_lt x p ≡ b → ⊥
    go true h = let l = behind x q (ltb-true x p h) e in omega (arith, l)
    go false h = let l : p ≤ x = grind (arith, h) in some (act_place acts (x - p)) (sym (ahead (x - p)) ∙ ap place (omega (arith, l)) ∙ e)

follow_come : (place : Places) (acts acts' : List Act) (p q : ℕ) → ((x : ℕ) → act_place acts' x ≡ option_map suc (act_place acts x)) → Follows place acts' p q →
    NoneAt place q × Follows place acts p (suc q)
follow_come place acts acts' p q is f = (come_none place acts p q on f.behind, record { ahead = on; behind = λ x y l e. let b = f.behind x y l e in omega (arith, b) })
  where
    on : (x : ℕ) → place (p + x) ≡ option_map (λ y. suc q + y) (act_place acts x)
    on x = f.ahead x ∙ ap (option_map (λ y. q + y)) (is x) ∙ moved_on (act_place acts x) q

-- marks
module _ (place : Places) (old : List Sign) (End : ℕ → ℕ → Type 0) (more : List Act) (end : ℕ) (done : (q : ℕ) → Follows place more end q → End end q) where
  abbrev Within : List Sign → ℕ → Type 0
  Within ss p = (s : Sign) (at : ℕ) → Stands ss p s at → Stands old 0 s at

  mutual
    pub goes : (acts : List Act) (ss : List Sign) (p q : ℕ) → Use acts ss → Within ss p → place_after ss p ≡ end → Follows place (acts ++ more) p q →
        Goes place old End (marks acts ss) p q
    goes [] [] p q u w e f = subst (λ k. End k q) (sym e) (done q (subst (λ k. Follows place more k q) e f))
    goes [] (s ∷ ss) p q u w e f = absurd u
    goes (ComeLetter ∷ acts) ss p q u w e f = let g = follow_come place (acts ++ more) (ComeLetter ∷ (acts ++ more)) p q (λ x. refl) f in (g.0, goes acts ss p (suc q) u w e g.1)
    goes (ComeBegin n kind ∷ acts) ss p q u w e f = let g = follow_come place (acts ++ more) (ComeBegin n kind ∷ (acts ++ more)) p q (λ x. refl) f in (g.0, goes acts ss p (suc q) u w e g.1)
    goes (ComeEnd kind ∷ acts) ss p q u w e f = let g = follow_come place (acts ++ more) (ComeEnd kind ∷ (acts ++ more)) p q (λ x. refl) f in goes acts ss p (suc q) u w e g.1
    goes (Stay ∷ acts) [] p q u w e f = absurd u
    goes (Stay ∷ acts) (BeginOf n kind ∷ ss) p q u w e f =
        let g = follow_stay place (acts ++ more) p q f in
        let here = w (BeginOf n kind) p (inl (refl, refl)) in
        (g.0, record { kind = kind; stands = here }, no_text old (BeginOf n kind) p refl (λ t count c. absurd (cc)) here, goes acts ss (suc p) (suc q) u (λ s at i. w s at (inr i)) e g.1)
    goes (Stay ∷ acts) (EndOf kind ∷ ss) p q u w e f =
        let g = follow_stay place (acts ++ more) p q f in
        (no_text old (EndOf kind) p refl (λ t count c. absurd (cc)) (w (EndOf kind) p (inl (refl, refl))), goes acts ss (suc p) (suc q) u (λ s at i. w s at (inr i)) e g.1)
    goes (Stay ∷ acts) (LettersOf n zero ∷ ss) p q u w e f = absurd u
    goes (Stay ∷ acts) (LettersOf n (suc zero) ∷ ss) p q u w e f =
        let g = follow_stay place (acts ++ more) p q f in
        let k : p + 1 ≡ suc p = omega arith in
        let rest = goes acts ss (suc p) (suc q) u (subst (Within ss) k (λ s at i. w s at (inr i))) (ap (place_after ss) (sym k) ∙ e) g.1 in
        (g.0, record { at = p; count = 1; text = w (LettersOf n 1) p (inl (refl, refl)); behind = omega arith; before = omega arith }, rest)
    goes (Stay ∷ acts) (LettersOf n (suc (suc count)) ∷ ss) p q u w e f =
        let g = follow_stay place (acts ++ more) p q f in
        let here = w (LettersOf n (suc (suc count))) p (inl (refl, refl)) in
        let rest = goes_in acts p (suc (suc count)) n count ss (suc p) (suc q) (p + suc (suc count)) u here (omega arith) (omega arith) refl (λ s at i. w s at (inr i)) e g.1 in
        (g.0, record { at = p; count = suc (suc count); text = here; behind = omega arith; before = omega arith }, rest)
    goes (Go ∷ acts) [] p q u w e f = absurd u
    goes (Go ∷ acts) (BeginOf n kind ∷ ss) p q u w e f = let g = follow_go place (acts ++ more) p q f in (g.0, goes acts ss (suc p) q u (λ s at i. w s at (inr i)) e g.1)
    goes (Go ∷ acts) (EndOf kind ∷ ss) p q u w e f = let g = follow_go place (acts ++ more) p q f in (g.0, goes acts ss (suc p) q u (λ s at i. w s at (inr i)) e g.1)
    goes (Go ∷ acts) (LettersOf n zero ∷ ss) p q u w e f = absurd u
    goes (Go ∷ acts) (LettersOf n (suc zero) ∷ ss) p q u w e f =
        let g = follow_go place (acts ++ more) p q f in
        let k : p + 1 ≡ suc p = omega arith in
        (g.0, goes acts ss (suc p) q u (subst (Within ss) k (λ s at i. w s at (inr i))) (ap (place_after ss) (sym k) ∙ e) g.1)
    goes (Go ∷ acts) (LettersOf n (suc (suc count)) ∷ ss) p q u w e f =
        let g = follow_go place (acts ++ more) p q f in
        let here = w (LettersOf n (suc (suc count))) p (inl (refl, refl)) in
        (g.0, goes_in acts p (suc (suc count)) n count ss (suc p) q (p + suc (suc count)) u here (omega arith) (omega arith) refl (λ s at i. w s at (inr i)) e g.1)

    -- in a text of which letters are passed
    goes_in : (acts : List Act) (at all n count : ℕ) (ss : List Sign) (p q next : ℕ) → Use acts (LettersOf n (suc count) ∷ ss) → IsText old n at all → at ≤ p →
        p + suc count ≡ next →
        next ≡ at + all → Within ss next → place_after ss next ≡ end → Follows place (acts ++ more) p q →
        Goes place old End (marks acts (LettersOf n (suc count) ∷ ss)) p q
    goes_in [] at all n count ss p q next u i a b c w e f = absurd u
    goes_in (ComeLetter ∷ acts) at all n count ss p q next u i a b c w e f =
        let g = follow_come place (acts ++ more) (ComeLetter ∷ (acts ++ more)) p q (λ x. refl) f in (g.0, goes_in acts at all n count ss p (suc q) next u i a b c w e g.1)
    goes_in (ComeBegin m kind ∷ acts) at all n count ss p q next u i a b c w e f =
        let g = follow_come place (acts ++ more) (ComeBegin m kind ∷ (acts ++ more)) p q (λ x. refl) f in (g.0, goes_in acts at all n count ss p (suc q) next u i a b c w e g.1)
    goes_in (ComeEnd kind ∷ acts) at all n count ss p q next u i a b c w e f =
        let g = follow_come place (acts ++ more) (ComeEnd kind ∷ (acts ++ more)) p q (λ x. refl) f in goes_in acts at all n count ss p (suc q) next u i a b c w e g.1
    goes_in (Stay ∷ acts) at all n zero ss p q next u i a b c w e f =
        let g = follow_stay place (acts ++ more) p q f in
        let k : next ≡ suc p = omega (arith, b) in
        (g.0, record { at = at; count = all; text = i; behind = a; before = omega (arith, b, c) }, goes acts ss (suc p) (suc q) u (subst (Within ss) k w) (ap (place_after ss) (sym k) ∙ e) g.1)
    goes_in (Stay ∷ acts) at all n (suc count) ss p q next u i a b c w e f =
        let g = follow_stay place (acts ++ more) p q f in (
          g.0,
          record { at = at; count = all; text = i; behind = a; before = omega (arith, b, c) },
          goes_in acts at all n count ss (suc p) (suc q) next u i (omega (arith, a)) (omega (arith, b)) c w e g.1,
        )
    goes_in (Go ∷ acts) at all n zero ss p q next u i a b c w e f =
        let g = follow_go place (acts ++ more) p q f in
        let k : next ≡ suc p = omega (arith, b) in
        (g.0, goes acts ss (suc p) q u (subst (Within ss) k w) (ap (place_after ss) (sym k) ∙ e) g.1)
    goes_in (Go ∷ acts) at all n (suc count) ss p q next u i a b c w e f =
        let g = follow_go place (acts ++ more) p q f in (g.0, goes_in acts at all n count ss (suc p) q next u i (omega (arith, a)) (omega (arith, b)) c w e g.1)

-- items that stay, one after the other
follow_stays : (place : Places) (count : ℕ) (more : List Act) (p q : ℕ) → Follows place (replicate count Stay ++ more) p q →
    Follows place more (p + count) (q + count)
follow_stays place zero more p q f =
    let a : p ≡ p + 0 = omega arith in
    let b : q ≡ q + 0 = omega arith in
    subst (λ k. Follows place more k (q + 0)) a (subst (λ k. Follows place more p k) b f)
follow_stays place (suc count) more p q f =
    let g = follow_stays place count more (suc p) (suc q) (follow_stay place (replicate count Stay ++ more) p q f).1 in
    let a : suc p + count ≡ p + suc count = omega arith in
    let b : suc q + count ≡ q + suc count = omega arith in
    subst (λ k. Follows place more k (q + suc count)) a (subst (λ k. Follows place more (suc p + count) k) b g)

abbrev pub stays : List Sign → List Act
stays [] = []
stays (BeginOf n kind ∷ ss) = Stay ∷ stays ss
stays (LettersOf n count ∷ ss) = replicate count Stay ++ stays ss
stays (EndOf kind ∷ ss) = Stay ∷ stays ss

stay-count : (n m : ℕ) → n ≡ m → replicate n Stay ≡ replicate m Stay
stay-count n m e = ap (λ k. replicate k Stay) e

pub replicate-more : (a b : ℕ) → replicate (a + b) Stay ≡ replicate a Stay ++ replicate b Stay
replicate-more zero b = stay-count (0 + b) b (omega arith)
replicate-more (suc a) b = stay-count (suc a + b) (suc (a + b)) (omega arith) ∙ ap (λ l. Stay ∷ l) (replicate-more a b)

one_stay : (ss : List Sign) (at n : ℕ) → place_after ss (suc at) ≡ at + n → ((m : ℕ) → place_after ss (suc at) ≡ suc at + m → replicate m Stay ≡ stays ss) →
    replicate n Stay ≡ Stay ∷ stays ss
one_stay ss at n e rec =
    let low = place_grows ss (suc at) in
    stay-count n (suc (n - 1)) (omega (arith, e, low)) ∙ ap (λ l. Stay ∷ l) (rec (n - 1) (omega (arith, e, low)))

pub replicate_stays : (ss : List Sign) (at n : ℕ) → place_after ss at ≡ at + n → replicate n Stay ≡ stays ss
replicate_stays [] at n e = stay-count n 0 (omega (arith, e))
replicate_stays (BeginOf m kind ∷ ss) at n e = one_stay ss at n e (λ k d. replicate_stays ss (suc at) k d)
replicate_stays (LettersOf m count ∷ ss) at n e =
    let low = place_grows ss (at + count) in
    stay-count n (count + (n - count)) (omega (arith, e, low)) ∙ replicate-more count (n - count)
    ∙ ap (λ l. replicate count Stay ++ l) (replicate_stays ss (at + count) (n - count) (omega (arith, e, low)))
replicate_stays (EndOf kind ∷ ss) at n e = one_stay ss at n e (λ k d. replicate_stays ss (suc at) k d)

-- what stays whole is traced
module _ (place : Places) (old : List Sign) (numbers : List ℕ) (more : List Act) (rights : List Sign) where
  pub stays_traced : (ss : List Sign) (p q : ℕ) → Proper ss → ((s : Sign) (at : ℕ) → Stands ss p s at → Stands old 0 s at) →
      Follows place (stays ss ++ more) p q →
      ((r : ℕ) → Follows place more (place_after ss p) r → AllTraced place old numbers rights r) → AllTraced place old numbers (ss ++ rights) q
  stays_traced [] p q h w f done = done q f
  stays_traced (BeginOf n kind ∷ ss) p q h w f done =
      let g = follow_stay place (stays ss ++ more) p q f in
      (inl (record { at = p; opening = record { kind = kind; stands = w (BeginOf n kind) p (inl (refl, refl)) }; goes = g.0 }), stays_traced ss (suc p) (suc q) h (λ s at i. w s at (inr i)) g.1 done)
  stays_traced (LettersOf n zero ∷ ss) p q h w f done = absurd h
  stays_traced (LettersOf n (suc count) ∷ ss) p q h w f done =
      let f' = subst (λ l. Follows place l p q) (append_assoc (replicate (suc count) Stay) (stays ss) more) f in
      let g = follow_stay place (replicate count Stay ++ (stays ss ++ more)) p q f' in
      let same : FirstOfBoth place p (suc count) q (suc count) = record {
        there = p;
        here = q;
        goes = g.0;
        behind = omega arith;
        before = omega arith;
        first = λ x a b. absurd (omega (arith, a, b));
        behind' = omega arith;
        before' = omega arith;
        first' = λ x a b. absurd (omega (arith, a, b));
      } in (
        inl (record { at = p; count = suc count; text = w (LettersOf n (suc count)) p (inl (refl, refl)); same = same }),
        stays_traced ss (p + suc count) (q + suc count) h.1 (λ s at i. w s at (inr i)) (follow_stays place (suc count) (stays ss ++ more) p q f') done,
      )
  stays_traced (EndOf kind ∷ ss) p q h w f done = stays_traced ss (suc p) (suc q) h (λ s at i. w s at (inr i)) (follow_stay place (stays ss ++ more) p q f).1 done
