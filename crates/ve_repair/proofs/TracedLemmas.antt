-- Each node of a new list is traced to the old list while a script is read.
use Rattle.std.proofs.Common.{◌≡◌, ◌≤◌, ◌<◌, ◌⊎◌, inl, inr, ℕ, suc, ◌+◌, Bool, true, false, Option, Some, None, List, [], ◌∷◌, ◌++◌, refl, sym, ap, ◌∙◌, subst, arith}
use Rattle.std.proofs.lemmas.Bool.{eqb-true, eq-eqb, true≢false}
use Rattle.std.proofs.lemmas.Option.{same_Some, none-some}
use Rattle.ve_repair.specs.Work.{Keep, Put, Step, Enter, Leave}
use Rattle.ve_repair.specs.Tokens.{puts}
use Rattle.ve_repair.specs.Spelled.{Sign, BeginOf, EndOf, AllFrom}
use Rattle.ve_repair.specs.Script.{Mark, KeptLetter, CutLetter, NewLetter, KeptBegin, CutBegin, NewBegin, KeptEnd, CutEnd, NewEnd, Running, NoRun, InRun, ChangeReader, is_seen, one_more, run_end, ended, kept_run, keep_step, kept_reader, cut_step, script_for, run_sign, signs_for}
use Rattle.ve_repair.proofs.PlaceLemmas.{by_order}
use Rattle.ve_repair.specs.Traced.{IsText, InText, NoText, NoneAt, NoneIn, AllGo, FirstOfBoth, KeptText, AllTraced, Goes, AreOnce}

abbrev Places : Type 0
Places = ℕ → Option ℕ

-- the first letter of a run that was retained is the first of its text, and of the run
pub record FirstIn (place : Places) (old : List Sign) (t s q : ℕ) : Type 0 where
  there : ℕ
  here : ℕ
  goes : place there ≡ Some here
  behind : s ≤ here
  before : here < q
  first : NoneIn place s here
  text_in : InText old t there
  text_first : AllGo place text_in.at there

-- or another of its text stands before it
pub record LaterIn (place : Places) (old : List Sign) (s q : ℕ) : Type 0 where
  there : ℕ
  here : ℕ
  goes : place there ≡ Some here
  behind : s ≤ here
  before : here < q
  first : NoneIn place s here
  t : ℕ
  text_in : InText old t there
  earlier : ℕ
  earlier_at : ℕ
  earlier_goes : place earlier ≡ Some earlier_at
  earlier_in : text_in.at ≤ earlier
  earlier_before : earlier < there

-- what the run that began at s says at q
abbrev RunIs : Places → List Sign → Running → ℕ → ℕ → Type 0
RunIs place old NoRun s q = s ≡ q
RunIs place old (InRun more None false) s q = (q ≡ s + suc more) × NoneIn place s q
RunIs place old (InRun more (Some t) false) s q = ⊥
RunIs place old (InRun more None true) s q = (q ≡ s + suc more) × LaterIn place old s q
RunIs place old (InRun more (Some t) true) s q = (q ≡ s + suc more) × FirstIn place old t s q

-- a retained letter of the text stands before p
pub record SeenIn (place : Places) (old : List Sign) (t p : ℕ) : Type 0 where
  earlier : ℕ
  earlier_at : ℕ
  goes : place earlier ≡ Some earlier_at
  before : earlier < p
  text_in : InText old t earlier

-- what a reader says of the text of the last retained letter
pub record SeenIs (place : Places) (old : List Sign) (seen : Option ℕ) (p : ℕ) : Type 0 where
  pub seen_from : (t : ℕ) → seen ≡ Some t → SeenIn place old t p
  pub seen_in : (t at count x y : ℕ) → IsText old t at count → at ≤ x → x < p → p < at + count → place x ≡ Some y → seen ≡ Some t

below : (y q : ℕ) → y < suc q → (y < q) ⊎ (y ≡ q)
below y q h = by_order y q (λ l. inl l) (λ g. absurd (omega (arith, h, g))) (λ e. inr e)

-- the run goes on by a letter that comes
none_more : (place : Places) (s q : ℕ) → NoneIn place s q → NoneAt place q → NoneIn place s (suc q)
none_more place s q h n y a b = elim (below y q b) [ inl l ↦ h y a l | inr e ↦ subst (NoneAt place) (sym e) n ]

none_yet : (place : Places) (s : ℕ) → NoneIn place s s
none_yet place s y a b = absurd (omega (arith, a, b))

first_more : (place : Places) (old : List Sign) (t s q : ℕ) → FirstIn place old t s q → FirstIn place old t s (suc q)
first_more place old t s q f = record {
  there = f.there;
  here = f.here;
  goes = f.goes;
  behind = f.behind;
  before = let b = f.before in omega (arith, b);
  first = f.first;
  text_in = f.text_in;
  text_first = f.text_first;
}

later_more : (place : Places) (old : List Sign) (s q : ℕ) → LaterIn place old s q → LaterIn place old s (suc q)
later_more place old s q f = record {
  there = f.there;
  here = f.here;
  goes = f.goes;
  behind = f.behind;
  before = let b = f.before in omega (arith, b);
  first = f.first;
  t = f.t;
  text_in = f.text_in;
  earlier = f.earlier;
  earlier_at = f.earlier_at;
  earlier_goes = f.earlier_goes;
  earlier_in = f.earlier_in;
  earlier_before = f.earlier_before;
}

run_more : (place : Places) (old : List Sign) (run : Running) (s q : ℕ) → NoneAt place q → RunIs place old run s q → RunIs place old (one_more run) s (suc q)
run_more place old NoRun s q n h = (omega (arith, h), none_more place s q (subst (NoneIn place s) h (none_yet place s)) n)
run_more place old (InRun more None false) s q n h = let e = h.0 in (omega (arith, e), none_more place s q h.1 n)
run_more place old (InRun more (Some t) false) s q n h = h
run_more place old (InRun more None true) s q n h = let e = h.0 in (omega (arith, e), later_more place old s q h.1)
run_more place old (InRun more (Some t) true) s q n h = let e = h.0 in (omega (arith, e), first_more place old t s q h.1)

-- and by one that is retained
not_known : (place : Places) (old : List Sign) (seen : Option ℕ) (t p q : ℕ) → SeenIs place old seen p → is_seen seen t ≡ false → place p ≡ Some q →
    (i : InText old t p) → AllGo place i.at p
not_known place old seen t p q h e g i x a b = go (place x) refl
  where
    go : (o : Option ℕ) → place x ≡ o → place x ≡ None
    go None eo = eo
    go (Some y) eo = absurd (true≢false (sym (ap (λ o. is_seen o t) (h.seen_in t i.at i.count x y i.text a b i.before eo) ∙ eq-eqb t t refl) ∙ e))

seen_some : (seen : Option ℕ) (t : ℕ) → is_seen seen t ≡ true → seen ≡ Some t
seen_some None t e = absurd (true≢false (sym e))
seen_some (Some s) t e = ap (λ (k : ℕ). Some k) (eqb-true s t e)

known_earlier : (place : Places) (old : List Sign) (once : AreOnce old) (seen : Option ℕ) (t p q s : ℕ) → SeenIs place old seen p → is_seen seen t ≡ true →
    place p ≡ Some q → InText old t p →
    s ≤ q → NoneIn place s q → LaterIn place old s (suc q)
known_earlier place old once seen t p q s h e g i low none =
    let was = h.seen_from t (seen_some seen t e) in
    let same = once.by_number t was.text_in.at was.text_in.count i.at i.count was.text_in.text i.text in
    let b = was.text_in.behind in
    record {
      there = p;
      here = q;
      goes = g;
      behind = low;
      before = omega arith;
      first = none;
      t = t;
      text_in = i;
      earlier = was.earlier;
      earlier_at = was.earlier_at;
      earlier_goes = was.goes;
      earlier_in = subst (λ a. a ≤ was.earlier) same.0 b;
      earlier_before = was.before;
    }

begun : (place : Places) (old : List Sign) (once : AreOnce old) (seen : Option ℕ) (t p q s : ℕ) (known : Bool) → SeenIs place old seen p →
    is_seen seen t ≡ known → place p ≡ Some q → InText old t p →
    (more : ℕ) → suc q ≡ s + suc more → NoneIn place s q → RunIs place old (kept_run known t (InRun more None false)) s (suc q)
begun place old once seen t p q s true h e g i more eq none = (eq, known_earlier place old once seen t p q s h e g i (omega (arith, eq)) none)
begun place old once seen t p q s false h e g i more eq none = (
  eq,
  record {
    there = p;
    here = q;
    goes = g;
    behind = omega (arith, eq);
    before = omega arith;
    first = none;
    text_in = i;
    text_first = not_known place old seen t p q h e g i;
  },
)

run_kept : (place : Places) (old : List Sign) (once : AreOnce old) (seen : Option ℕ) (t p q s : ℕ) (known : Bool) (run : Running) → SeenIs place old seen p →
    is_seen seen t ≡ known → place p ≡ Some q → InText old t p →
    RunIs place old run s q → RunIs place old (kept_run known t (one_more run)) s (suc q)
run_kept place old once seen t p q s known NoRun h e g i r = begun place old once seen t p q s known h e g i 0 (omega (arith, r)) (subst (NoneIn place s) r (none_yet place s))
run_kept place old once seen t p q s known (InRun more None false) h e g i r = let k = r.0 in begun place old once seen t p q s known h e g i (suc more) (omega (arith, k)) r.1
run_kept place old once seen t p q s known (InRun more (Some u) false) h e g i r = absurd r
run_kept place old once seen t p q s true (InRun more None true) h e g i r = let k = r.0 in (omega (arith, k), later_more place old s q r.1)
run_kept place old once seen t p q s false (InRun more None true) h e g i r = let k = r.0 in (omega (arith, k), later_more place old s q r.1)
run_kept place old once seen t p q s true (InRun more (Some u) true) h e g i r = let k = r.0 in (omega (arith, k), first_more place old u s q r.1)
run_kept place old once seen t p q s false (InRun more (Some u) true) h e g i r = let k = r.0 in (omega (arith, k), first_more place old u s q r.1)

-- what is known of the text of the last retained letter, behind an item
seen_kept : (place : Places) (old : List Sign) (once : AreOnce old) (seen : Option ℕ) (t p q : ℕ) → SeenIs place old seen p → place p ≡ Some q →
    InText old t p → SeenIs place old (Some t) (suc p)
seen_kept place old once seen t p q h g i = record {
  seen_from = λ u e. record { earlier = p; earlier_at = q; goes = g; before = omega arith; text_in = subst (λ k. InText old k p) (same_Some t u e) i };
  seen_in = λ u at count x y text a b c ex.
      ap (λ (k : ℕ). Some k) (once.by_place t i.at i.count u at count p i.text text i.behind i.before (omega (arith, a, b)) (omega (arith, c)));
}

seen_on : (place : Places) (old : List Sign) (seen : Option ℕ) (p : ℕ) → SeenIs place old seen p → ((y : ℕ) → place p ≡ Some y → NoText old p) →
    SeenIs place old seen (suc p)
seen_on place old seen p h apart = record {
  seen_from = λ t e. let w = h.seen_from t e in let b = w.before in record { earlier = w.earlier; earlier_at = w.earlier_at; goes = w.goes; before = omega (arith, b); text_in = w.text_in };
  seen_in = λ t at count x y text a b c e. elim (below x p b) [
    | inl l ↦ h.seen_in t at count x y text a l (omega (arith, c)) e
    | inr same ↦ absurd (apart y (subst (λ k. place k ≡ Some y) same e) t at count text (omega (arith, a, same)) (omega (arith, c)))
  ];
}

seen_gone : (place : Places) (old : List Sign) (seen : Option ℕ) (p : ℕ) → SeenIs place old seen p → place p ≡ None → SeenIs place old seen (suc p)
seen_gone place old seen p h g = seen_on place old seen p h (λ y e. absurd (none-some y (sym g ∙ e)))

-- a run that ends
text_kept : (place : Places) (old : List Sign) (n s q count : ℕ) → q ≡ s + count → FirstIn place old n s q → KeptText place old n s count
text_kept place old n s q count e f = record {
  at = f.text_in.at;
  count = f.text_in.count;
  text = f.text_in.text;
  same = record {
    there = f.there;
    here = f.here;
    goes = f.goes;
    behind = f.text_in.behind;
    before = f.text_in.before;
    first = f.text_first;
    behind' = f.behind;
    before' = let b = f.before in omega (arith, e, b);
    first' = f.first;
  };
}

none_fits : (place : Places) (old : List Sign) (s q count : ℕ) → q ≡ s + count → NoneIn place s q → (t at n : ℕ) → IsText old t at n →
    FirstOfBoth place at n s count → ⊥
none_fits place old s q count e none t at n text f = let b = f.before' in none f.here f.behind' (omega (arith, e, b)) f.there f.goes

-- no item of the new list was twice in the old one
abbrev pub OneOne : (ℕ → Option ℕ) → Type 0
OneOne place = (p x q : ℕ) → place p ≡ Some q → place x ≡ Some q → p ≡ x

later_fits : (place : Places) (old : List Sign) (once : AreOnce old) (s q count : ℕ) → OneOne place → q ≡ s + count → LaterIn place old s q →
    (t at n : ℕ) → IsText old t at n → FirstOfBoth place at n s count → ⊥
later_fits place old once s q count inj e l t at n text f =
    by_order f.here l.here (λ b. l.first f.here f.behind' b f.there f.goes) (λ b. f.first' l.here l.behind b l.there l.goes) (λ same. one (inj f.there l.there f.here f.goes (l.goes ∙ ap (λ (k : ℕ). Some k) (sym same))))
  where
    one : f.there ≡ l.there → ⊥
    one same =
        let a = f.behind in
        let b = f.before in
        let c = l.earlier_in in
        let d = l.earlier_before in
        let it = once.by_place t at n l.t l.text_in.at l.text_in.count f.there text l.text_in.text a b
        (subst (λ k. l.text_in.at ≤ k) (sym same) l.text_in.behind) (subst (λ k. k < l.text_in.at + l.text_in.count) (sym same) l.text_in.before) in
        let where_ = (once.by_number l.t at n l.text_in.at l.text_in.count (subst (λ k. IsText old k at n) it text) l.text_in.text).0 in
        none-some l.earlier_at (sym (f.first l.earlier (omega (arith, c, where_)) (omega (arith, d, same))) ∙ l.earlier_goes)

run_traced : (place : Places) (old : List Sign) (once : AreOnce old) (inj : OneOne place) (numbers : List ℕ) (supply : ℕ →
    ℕ) (run : Running) (made s q : ℕ) (xs : List Step) (ss rights : List Sign) →
    RunIs place old run s q → AllFrom (puts (run_end supply run made xs)) numbers → AllTraced place old numbers (ss ++ rights) q →
    AllTraced place old numbers (run_sign supply run made ss ++ rights) s
run_traced place old once inj numbers supply NoRun made s q xs ss rights h m t = subst (AllTraced place old numbers (ss ++ rights)) (sym h) t
run_traced place old once inj numbers supply (InRun more None false) made s q xs ss rights h m t =
    (inr (record { fresh = m.0; other = none_fits place old s q (suc more) h.0 h.1 }), subst (AllTraced place old numbers (ss ++ rights)) h.0 t)
run_traced place old once inj numbers supply (InRun more (Some n) false) made s q xs ss rights h m t = absurd h
run_traced place old once inj numbers supply (InRun more None true) made s q xs ss rights h m t =
    (inr (record { fresh = m.0; other = later_fits place old once s q (suc more) inj h.0 h.1 }), subst (AllTraced place old numbers (ss ++ rights)) h.0 t)
run_traced place old once inj numbers supply (InRun more (Some n) true) made s q xs ss rights h m t =
    (inl (text_kept place old n s q (suc more) h.0 h.1), subst (AllTraced place old numbers (ss ++ rights)) h.0 t)

-- what is made behind a step is made
made_end : (numbers : List ℕ) (supply : ℕ → ℕ) (run : Running) (made : ℕ) (xs : List Step) → AllFrom (puts (run_end supply run made xs)) numbers →
    AllFrom (puts xs) numbers
made_end numbers supply NoRun made xs m = m
made_end numbers supply (InRun more (Some n) any) made xs m = m
made_end numbers supply (InRun more None any) made xs m = m.1

made_keep : (numbers : List ℕ) (known : Bool) (t : ℕ) (run : Running) (xs : List Step) → AllFrom (puts (keep_step known t run xs)) numbers →
    AllFrom (puts xs) numbers
made_keep numbers true t run xs m = m
made_keep numbers false t NoRun xs m = m
made_keep numbers false t (InRun more kept true) xs m = m
made_keep numbers false t (InRun more kept false) xs m = m

made_cut : (numbers : List ℕ) (known ends : Bool) (t : ℕ) (xs : List Step) → AllFrom (puts (cut_step known ends t xs)) numbers → AllFrom (puts xs) numbers
made_cut numbers true true t xs m = m
made_cut numbers false true t xs m = m
made_cut numbers true false t xs m = m
made_cut numbers false false t xs m = m

-- the signs of a script are traced, and so is what follows them
module _ (place : Places) (old : List Sign) (once : AreOnce old) (inj : OneOne place) (numbers : List ℕ) (supply : ℕ → ℕ) (rights : List Sign) where
  abbrev End : ℕ → ℕ → Type 0
  End p q = AllTraced place old numbers rights q

  pub marks_traced : (ms : List Mark) (r : ChangeReader) (p s q : ℕ) → SeenIs place old r.seen p → RunIs place old r.run s q → Goes place old End ms p q →
      AllFrom (puts (script_for supply ms r)) numbers → AllTraced place old numbers (signs_for supply ms r ++ rights) s
  marks_traced [] r p s q h run g m = run_traced place old once inj numbers supply r.run r.made s q [] [] rights run m g
  marks_traced (KeptLetter t ends ∷ ms) r p s q h run g m =
      marks_traced ms (kept_reader t r) (suc p) s (suc q) (seen_kept place old once r.seen t p q h g.0 g.1)
      (run_kept place old once r.seen t p q s (is_seen r.seen t) r.run h refl g.0 g.1 run) g.2
      (made_keep numbers (is_seen r.seen t) t (one_more r.run) (script_for supply ms (kept_reader t r)) m)
  marks_traced (CutLetter t ends ∷ ms) r p s q h run g m =
      marks_traced ms r (suc p) s q (seen_gone place old r.seen p h g.0) run g.1 (made_cut numbers (is_seen r.seen t) ends t (script_for supply ms r) m)
  marks_traced (NewLetter ∷ ms) r p s q h run g m = marks_traced ms (record r { run = one_more r.run }) p s (suc q) h (run_more place old r.run s q g.0 run) g.1 m
  marks_traced (KeptBegin n kind ∷ ms) r p s q h run g m =
      let xs = Enter Keep n ∷ script_for supply ms (ended r) in
      let rest = marks_traced ms (ended r) (suc p) (suc q) (suc q) (seen_on place old r.seen p h (λ y e. g.2)) refl g.3 (made_end numbers supply r.run r.made xs m) in
      run_traced place old once inj numbers supply r.run r.made s q xs (BeginOf n kind ∷ signs_for supply ms (ended r)) rights run m
      (inl (record { at = p; opening = g.1; goes = g.0 }), rest)
  marks_traced (CutBegin n ∷ ms) r p s q h run g m = marks_traced ms r (suc p) s q (seen_gone place old r.seen p h g.0) run g.1 m
  marks_traced (NewBegin n kind ∷ ms) r p s q h run g m =
      let xs = Enter Put n ∷ script_for supply ms (ended r) in
      let later = made_end numbers supply r.run r.made xs m in
      let rest = marks_traced ms (ended r) p (suc q) (suc q) h refl g.1 later.1 in
      run_traced place old once inj numbers supply r.run r.made s q xs (BeginOf n kind ∷ signs_for supply ms (ended r)) rights run m
      (inr (record { fresh = later.0; other = g.0 }), rest)
  marks_traced (KeptEnd kind ∷ ms) r p s q h run g m =
      let xs = Leave Keep ∷ script_for supply ms (ended r) in
      run_traced place old once inj numbers supply r.run r.made s q xs (EndOf kind ∷ signs_for supply ms (ended r)) rights run m
      (marks_traced ms (ended r) (suc p) (suc q) (suc q) (seen_on place old r.seen p h (λ y e. g.0)) refl g.1 (made_end numbers supply r.run r.made xs m))
  marks_traced (CutEnd ∷ ms) r p s q h run g m = marks_traced ms r (suc p) s q (seen_gone place old r.seen p h g.0) run g.1 m
  marks_traced (NewEnd kind ∷ ms) r p s q h run g m =
      let xs = Leave Put ∷ script_for supply ms (ended r) in
      run_traced place old once inj numbers supply r.run r.made s q xs (EndOf kind ∷ signs_for supply ms (ended r)) rights run m
      (marks_traced ms (ended r) p (suc q) (suc q) h refl g (made_end numbers supply r.run r.made xs m))
