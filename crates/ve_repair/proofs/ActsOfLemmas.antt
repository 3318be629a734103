-- Acts that end where no text comes next are of a piece of the signs.
use Rattle.std.proofs.Common.{◌≡◌, ◌≤◌, ℕ, zero, suc, true, false, List, [], ◌∷◌, ◌++◌, drop, map, refl, ap, ◌∙◌, subst, arith}
use Rattle.ve_repair.specs.Acts.{Act, Stay, Go, ComeLetter, ComeBegin, ComeEnd, marks, Use}
use Rattle.ve_repair.specs.Charged.{open_behind}
use Rattle.ve_repair.specs.Courses.{old_count}
use Rattle.ve_repair.specs.Cursors.{Spot, spot_of, past, items_in}
use Rattle.ve_repair.specs.Script.{KeptLetter, CutLetter, NewLetter, KeptBegin, CutBegin, NewBegin, KeptEnd, CutEnd, NewEnd}
use Rattle.ve_repair.specs.Spelled.{Sign, BeginOf, LettersOf, EndOf, NoLetters, Proper, token_of}

-- the signs that the acts are of, and those behind them
pub record AreOf (acts : List Act) (os : List ℕ) (signs : List Sign) : Type 0 where
  pub ss : List Sign
  pub rights : List Sign
  pub signs_are : signs ≡ ss ++ rights
  pub uses : Use acts ss
  pub marks_are : marks acts signs ≡ marks acts ss
  pub past_is : past (old_count acts) (spot_of os signs) ≡ spot_of (open_behind (map token_of ss) os) rights

-- a letter of a text, of which more follow
abbrev InText : List Act → List ℕ → ℕ → ℕ → List Sign → Type 0
InText acts os n count signs = (ss : List Sign) × (rights : List Sign) × (signs ≡ ss ++ rights) × Use acts (LettersOf n (suc count) ∷ ss)
    × (marks acts (LettersOf n (suc count) ∷ signs) ≡ marks acts (LettersOf n (suc count) ∷ ss)) × (past (old_count acts) (spot_of os (LettersOf n (suc count) ∷ signs)) ≡ spot_of (open_behind (map token_of ss) os) rights)

in_text : (acts : List Act) (os : List ℕ) (n count : ℕ) (signs : List Sign) (r : AreOf acts os (LettersOf n (suc count) ∷ signs)) → NoLetters r.rights → InText acts os n count signs
in_text acts os n count signs r whole = go r.ss r.rights r.signs_are r.uses r.marks_are r.past_is whole
  where
    go : (ss rights : List Sign) → LettersOf n (suc count) ∷ signs ≡ ss ++ rights → Use acts ss → marks acts (LettersOf n (suc count) ∷ signs) ≡ marks acts ss →
        past (old_count acts) (spot_of os (LettersOf n (suc count) ∷ signs)) ≡ spot_of (open_behind (map token_of ss) os) rights → NoLetters rights → InText acts os n count signs
    go [] [] e u m p w = absurd (cc)
    go [] (BeginOf k kind ∷ rs) e u m p w = absurd (cc)
    go [] (LettersOf k c ∷ rs) e u m p w = absurd w
    go [] (EndOf kind ∷ rs) e u m p w = absurd (cc)
    go (BeginOf k kind ∷ ss) rights e u m p w = absurd (cc)
    go (EndOf kind ∷ ss) rights e u m p w = absurd (cc)
    go (LettersOf k c ∷ ss) rights e u m p w =
        let text : LettersOf k c ≡ LettersOf n (suc count) = cc in
        let rest : signs ≡ ss ++ rights = cc in
        (ss, rights, rest, subst (λ s. Use acts (s ∷ ss)) text u, m ∙ ap (λ s. marks acts (s ∷ ss)) text, p)

right_whole : (acts : List Act) (os : List ℕ) (signs : List Sign) (r : AreOf acts os signs) → NoLetters (past (old_count acts) (spot_of os signs)).rest → NoLetters r.rights
right_whole acts os signs r w = subst (λ (s : Spot). NoLetters s.rest) r.past_is w

-- where no text comes next behind so many items
pub are_of : (acts : List Act) (os : List ℕ) (signs : List Sign) → Proper signs → old_count acts ≤ items_in signs → NoLetters (past (old_count acts) (spot_of os signs)).rest → AreOf acts os signs
are_of [] os signs proper few w = record { ss = []; rights = signs; signs_are = refl; uses = tt; marks_are = refl; past_is = refl }
are_of (ComeLetter ∷ acts) os signs proper few w =
    let r = are_of acts os signs proper few w in
    record { ss = r.ss; rights = r.rights; signs_are = r.signs_are; uses = r.uses; marks_are = ap (λ ms. NewLetter ∷ ms) r.marks_are; past_is = r.past_is }
are_of (ComeBegin n kind ∷ acts) os signs proper few w =
    let r = are_of acts os signs proper few w in
    record { ss = r.ss; rights = r.rights; signs_are = r.signs_are; uses = r.uses; marks_are = ap (λ ms. NewBegin n kind ∷ ms) r.marks_are; past_is = r.past_is }
are_of (ComeEnd kind ∷ acts) os signs proper few w =
    let r = are_of acts os signs proper few w in
    record { ss = r.ss; rights = r.rights; signs_are = r.signs_are; uses = r.uses; marks_are = ap (λ ms. NewEnd kind ∷ ms) r.marks_are; past_is = r.past_is }
are_of (Stay ∷ acts) os [] proper few w = absurd (omega (arith, few))
are_of (Stay ∷ acts) os (BeginOf n kind ∷ signs) proper few w =
    let r = are_of acts (n ∷ os) signs proper (omega (arith, few)) w in
    record {
      ss = BeginOf n kind ∷ r.ss;
      rights = r.rights;
      signs_are = ap (λ ss. BeginOf n kind ∷ ss) r.signs_are;
      uses = r.uses;
      marks_are = ap (λ ms. KeptBegin n kind ∷ ms) r.marks_are;
      past_is = r.past_is;
    }
are_of (Stay ∷ acts) os (EndOf kind ∷ signs) proper few w =
    let r = are_of acts (drop 1 os) signs proper (omega (arith, few)) w in
    record {
      ss = EndOf kind ∷ r.ss;
      rights = r.rights;
      signs_are = ap (λ ss. EndOf kind ∷ ss) r.signs_are;
      uses = r.uses;
      marks_are = ap (λ ms. KeptEnd kind ∷ ms) r.marks_are;
      past_is = r.past_is;
    }
are_of (Stay ∷ acts) os (LettersOf n zero ∷ signs) proper few w = absurd proper
are_of (Stay ∷ acts) os (LettersOf n (suc zero) ∷ signs) proper few w =
    let r = are_of acts os signs proper.1 (omega (arith, few)) w in
    record {
      ss = LettersOf n 1 ∷ r.ss;
      rights = r.rights;
      signs_are = ap (λ ss. LettersOf n 1 ∷ ss) r.signs_are;
      uses = r.uses;
      marks_are = ap (λ ms. KeptLetter n true ∷ ms) r.marks_are;
      past_is = r.past_is;
    }
are_of (Stay ∷ acts) os (LettersOf n (suc (suc count)) ∷ signs) proper few w =
    let r = are_of acts os (LettersOf n (suc count) ∷ signs) proper (omega (arith, few)) w in
    let t = in_text acts os n count signs r (right_whole acts os (LettersOf n (suc count) ∷ signs) r w) in
    record {
      ss = LettersOf n (suc (suc count)) ∷ t.0;
      rights = t.1;
      signs_are = ap (λ ss. LettersOf n (suc (suc count)) ∷ ss) t.2;
      uses = t.3;
      marks_are = ap (λ ms. KeptLetter n false ∷ ms) t.4;
      past_is = t.5;
    }
are_of (Go ∷ acts) os [] proper few w = absurd (omega (arith, few))
are_of (Go ∷ acts) os (BeginOf n kind ∷ signs) proper few w =
    let r = are_of acts (n ∷ os) signs proper (omega (arith, few)) w in
    record {
      ss = BeginOf n kind ∷ r.ss;
      rights = r.rights;
      signs_are = ap (λ ss. BeginOf n kind ∷ ss) r.signs_are;
      uses = r.uses;
      marks_are = ap (λ ms. CutBegin n ∷ ms) r.marks_are;
      past_is = r.past_is;
    }
are_of (Go ∷ acts) os (EndOf kind ∷ signs) proper few w =
    let r = are_of acts (drop 1 os) signs proper (omega (arith, few)) w in
    record {
      ss = EndOf kind ∷ r.ss;
      rights = r.rights;
      signs_are = ap (λ ss. EndOf kind ∷ ss) r.signs_are;
      uses = r.uses;
      marks_are = ap (λ ms. CutEnd ∷ ms) r.marks_are;
      past_is = r.past_is;
    }
are_of (Go ∷ acts) os (LettersOf n zero ∷ signs) proper few w = absurd proper
are_of (Go ∷ acts) os (LettersOf n (suc zero) ∷ signs) proper few w =
    let r = are_of acts os signs proper.1 (omega (arith, few)) w in
    record {
      ss = LettersOf n 1 ∷ r.ss;
      rights = r.rights;
      signs_are = ap (λ ss. LettersOf n 1 ∷ ss) r.signs_are;
      uses = r.uses;
      marks_are = ap (λ ms. CutLetter n true ∷ ms) r.marks_are;
      past_is = r.past_is;
    }
are_of (Go ∷ acts) os (LettersOf n (suc (suc count)) ∷ signs) proper few w =
    let r = are_of acts os (LettersOf n (suc count) ∷ signs) proper (omega (arith, few)) w in
    let t = in_text acts os n count signs r (right_whole acts os (LettersOf n (suc count) ∷ signs) r w) in
    record {
      ss = LettersOf n (suc (suc count)) ∷ t.0;
      rights = t.1;
      signs_are = ap (λ ss. LettersOf n (suc (suc count)) ∷ ss) t.2;
      uses = t.3;
      marks_are = ap (λ ms. CutLetter n false ∷ ms) t.4;
      past_is = t.5;
    }
