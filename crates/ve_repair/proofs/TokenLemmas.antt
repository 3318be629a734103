-- A script, carried out, makes the children of the old tokens those of the new ones.
use Rattle.std.proofs.Common.{◌≡◌, ◌≢◌, ℕ, List, [], ◌∷◌, ◌++◌, drop, refl, sym, ap, ◌∙◌, subst, append-nil, append_assoc}
use Rattle.ve_tree.specs.Links.{Links, Apart}
use Rattle.ve_tree.specs.Fits.{Fits}
use Rattle.ve_repair.specs.Work.{with_list, kids_of, inner, Keep, Drop, Put, Step, Enter, Leave, Text, Count, Work, stepped, CanStep, after_script, script_links, CanRun}
use Rattle.ve_repair.specs.Tokens.{Token, Begin, Letters, End, Grown, grown_by, grown, none, start, remaining, old_of, new_of, puts_of, old_side, new_side, puts, keeps, Free, work_at, ScriptRepairs}
use Rattle.ve_repair.proofs.RelinkLemmas.{by_case, apart-join}
use Rattle.ve_repair.proofs.WorkLemmas.{with_list-here, with_list-there, fits_same, fits_script}

pub grown-append : (xs ys : List Token) (g : Grown) → grown (xs ++ ys) g ≡ grown ys (grown xs g)
grown-append [] ys g = refl
grown-append (x ∷ xs) ys g = grown-append xs ys (grown_by x g)

-- more children of p come behind those that it has
with-added : (kids : ℕ → List ℕ) (p : ℕ) (ns : List ℕ) (q : ℕ) → with_list kids p (kids p ++ ns) q ≡ kids q ++ with_list none p ns q
with-added kids p ns q = by_case p q
    (λ e. subst (λ q. with_list kids p (kids p ++ ns) q ≡ kids q ++ with_list none p ns q) e
    (with_list-here kids p (kids p ++ ns) ∙ sym (ap (λ l. kids p ++ l) (with_list-here none p ns))))
    (λ h. with_list-there kids p (kids p ++ ns) q h ∙ sym (append-nil (kids q)) ∙ sym (ap (λ l. kids q ++ l) (with_list-there none p ns q h)))

mutual
  pub grown-more : (ts : List Token) (stack : List ℕ) (kids : ℕ → List ℕ) (q : ℕ) →
      (grown ts (record { stack = stack; kids = kids })).kids q ≡ kids q ++ remaining ts stack q
  grown-more [] stack kids q = sym (append-nil (kids q))
  grown-more (Begin n ∷ ts) stack kids q =
      grown-more ts (n ∷ stack) (with_list kids (inner stack) (kids (inner stack) ++ n ∷ [])) q
      ∙ ap (λ l. l ++ remaining ts (n ∷ stack) q) (with-added kids (inner stack) (n ∷ []) q)
      ∙ append_assoc (kids q) (with_list none (inner stack) (n ∷ []) q) (remaining ts (n ∷ stack) q)
      ∙ ap (λ l. kids q ++ l) (sym (grown-more ts (n ∷ stack) (with_list none (inner stack) (n ∷ [])) q))
  grown-more (Letters n ∷ ts) stack kids q =
      grown-more ts stack (with_list kids (inner stack) (kids (inner stack) ++ n ∷ [])) q
      ∙ ap (λ l. l ++ remaining ts stack q) (with-added kids (inner stack) (n ∷ []) q)
      ∙ append_assoc (kids q) (with_list none (inner stack) (n ∷ []) q) (remaining ts stack q)
      ∙ ap (λ l. kids q ++ l) (sym (grown-more ts stack (with_list none (inner stack) (n ∷ [])) q))
  grown-more (End ∷ ts) stack kids q = grown-more ts (drop 1 stack) kids q

-- what comes next
next_is : (f : ℕ → List ℕ) (p n : ℕ) (r : ℕ → List ℕ) → ((q : ℕ) → f q ≡ with_list none p (n ∷ []) q ++ r q) → f p ≡ n ∷ r p
next_is f p n r h = h p ∙ ap (λ l. l ++ r p) (with_list-here none p (n ∷ []))

can_pass : (f : ℕ → List ℕ) (p n : ℕ) (r : ℕ → List ℕ) → ((q : ℕ) → f q ≡ with_list none p (n ∷ []) q ++ r q) → f p ≡ n ∷ drop 1 (f p)
can_pass f p n r h = next_is f p n r h ∙ ap (λ l. n ∷ drop 1 l) (sym (next_is f p n r h))

pass_gives : (f : ℕ → List ℕ) (p n : ℕ) (r : ℕ → List ℕ) → ((q : ℕ) → f q ≡ with_list none p (n ∷ []) q ++ r q) → (q : ℕ) →
    with_list f p (drop 1 (f p)) q ≡ r q
pass_gives f p n r h q = by_case p q
    (λ e. subst (λ q. with_list f p (drop 1 (f p)) q ≡ r q) e (with_list-here f p (drop 1 (f p)) ∙ ap (λ l. drop 1 l) (next_is f p n r h)))
    (λ e. with_list-there f p (drop 1 (f p)) q e ∙ h q ∙ ap (λ l. l ++ r q) (with_list-there none p (n ∷ []) q e))

-- nodes that are nobody's children stay so
pub apart-with : (n m : ℕ) (f : ℕ → List ℕ) (p : ℕ) → n ≢ m → ((q : ℕ) → Apart n (f q)) → (q : ℕ) → Apart n (with_list f p (f p ++ m ∷ []) q)
apart-with n m f p ne h q = by_case p q
    (λ e. subst (λ q. Apart n (with_list f p (f p ++ m ∷ []) q)) e
    (subst (λ l. Apart n l) (sym (with_list-here f p (f p ++ m ∷ []))) (apart-join n (f p) (m ∷ []) (h p) (ne, tt))))
    (λ e. subst (λ l. Apart n l) (sym (with_list-there f p (f p ++ m ∷ []) q e)) (h q))

apart-drop : (n : ℕ) (ns : List ℕ) → Apart n ns → Apart n (drop 1 ns)
apart-drop n [] h = tt
apart-drop n (m ∷ ns) h = h.1

pub apart-passed : (n : ℕ) (f : ℕ → List ℕ) (p : ℕ) → ((q : ℕ) → Apart n (f q)) → (q : ℕ) → Apart n (with_list f p (drop 1 (f p)) q)
apart-passed n f p h q = by_case p q
    (λ e. subst (λ q. Apart n (with_list f p (drop 1 (f p)) q)) e
    (subst (λ l. Apart n l) (sym (with_list-here f p (drop 1 (f p)))) (apart-drop n (f p) (h p))))
    (λ e. subst (λ l. Apart n l) (sym (with_list-there f p (drop 1 (f p)) q e)) (h q))

free-drop : (ns : List ℕ) (done rest : ℕ → List ℕ) (o : ℕ) → Free ns done rest → Free ns done (with_list rest o (drop 1 (rest o)))
free-drop [] done rest o h = tt
free-drop (n ∷ ns) done rest o h = (h.0, h.1, apart-passed n rest o h.2, free-drop ns done rest o h.3)

free-put : (ns : List ℕ) (done rest : ℕ → List ℕ) (f m : ℕ) → Apart m ns → Free ns done rest → Free ns (with_list done f (done f ++ m ∷ [])) rest
free-put [] done rest f m a h = tt
free-put (n ∷ ns) done rest f m a h = (h.0, apart-with n m done f (λ e. a.0 (sym e)) h.1, h.2, free-put ns done rest f m a.1 h.3)

-- what comes next is none of them
next-apart : (ns : List ℕ) (done rest : ℕ → List ℕ) (o m : ℕ) (r : List ℕ) → rest o ≡ m ∷ r → Free ns done rest → Apart m ns
next-apart [] done rest o m r e h = tt
next-apart (n ∷ ns) done rest o m r e h =
    ((λ e'. (subst (λ l. Apart n l) e (h.2 o)).0 (sym e')), next-apart ns done rest o m r e h.3)

free-keep : (ns : List ℕ) (done rest : ℕ → List ℕ) (o f m : ℕ) (r : List ℕ) → rest o ≡ m ∷ r → Free ns done rest →
    Free ns (with_list done f (done f ++ m ∷ [])) (with_list rest o (drop 1 (rest o)))
free-keep ns done rest o f m r e h =
    free-put ns done (with_list rest o (drop 1 (rest o))) f m (next-apart ns done rest o m r e h) (free-drop ns done rest o h)

-- a script fits a state whose rest is that of the old tokens
record Runs (script : List Step) (right : List Token) (w : Work) : Type 0 where
  can : CanRun script w
  rest : (q : ℕ) → (after_script script w).rest q ≡ remaining right (after_script script w).old q

begins : (ts : List Token) (stack : List ℕ) (n : ℕ) (q : ℕ) → remaining (Begin n ∷ ts) stack q ≡ with_list none (inner stack) (n ∷ []) q ++ remaining ts (n ∷ stack) q
begins ts stack n q = grown-more ts (n ∷ stack) (with_list none (inner stack) (n ∷ [])) q

letters : (ts : List Token) (stack : List ℕ) (n : ℕ) (q : ℕ) → remaining (Letters n ∷ ts) stack q ≡ with_list none (inner stack) (n ∷ []) q ++ remaining ts stack q
letters ts stack n q = grown-more ts stack (with_list none (inner stack) (n ∷ [])) q

runs_with : (s : Step) (ss : List Step) (right : List Token) (w : Work) → CanStep s w → Runs ss right (stepped s w) → Runs (s ∷ ss) right w
runs_with s ss right w can runs = record { can = (can, runs.can); rest = runs.rest }

runs : (script : List Step) (right : List Token) (w : Work) → ((q : ℕ) → w.rest q ≡ remaining (old_side script right) w.old q) →
    Free (puts script) w.done w.rest → Runs script right w
runs [] right w h free = record { can = tt; rest = h }
runs (Enter Keep n ∷ ss) right w h free =
    let next : (q : ℕ) → w.rest q ≡ with_list none (inner w.old) (n ∷ []) q ++ remaining (old_side ss right) (n ∷ w.old) q = λ q. h q ∙ begins (old_side ss right) w.old n q in
    let can : w.rest (inner w.old) ≡ n ∷ drop 1 (w.rest (inner w.old)) = can_pass w.rest (inner w.old) n (remaining (old_side ss right) (n ∷ w.old)) next in
    runs_with (Enter Keep n) ss right w can
    (runs ss right (stepped (Enter Keep n) w) (pass_gives w.rest (inner w.old) n (remaining (old_side ss right) (n ∷ w.old)) next)
    (free-keep (puts ss) w.done w.rest (inner w.old) (inner w.new) n (drop 1 (w.rest (inner w.old))) can free))
runs (Enter Drop n ∷ ss) right w h free =
    let next : (q : ℕ) → w.rest q ≡ with_list none (inner w.old) (n ∷ []) q ++ remaining (old_side ss right) (n ∷ w.old) q = λ q. h q ∙ begins (old_side ss right) w.old n q in
    runs_with (Enter Drop n) ss right w (can_pass w.rest (inner w.old) n (remaining (old_side ss right) (n ∷ w.old)) next)
    (runs ss right (stepped (Enter Drop n) w) (pass_gives w.rest (inner w.old) n (remaining (old_side ss right) (n ∷ w.old)) next)
    (free-drop (puts ss) w.done w.rest (inner w.old) free))
runs (Enter Put n ∷ ss) right w h free =
    runs_with (Enter Put n) ss right w (λ q. apart-join n (w.done q) (w.rest q) (free.1 q) (free.2 q))
    (runs ss right (stepped (Enter Put n) w) h (free-put (puts ss) w.done w.rest (inner w.new) n free.0 free.3))
runs (Leave Keep ∷ ss) right w h free = runs_with (Leave Keep) ss right w tt (runs ss right (stepped (Leave Keep) w) h free)
runs (Leave Drop ∷ ss) right w h free = runs_with (Leave Drop) ss right w tt (runs ss right (stepped (Leave Drop) w) h free)
runs (Leave Put ∷ ss) right w h free = runs_with (Leave Put) ss right w tt (runs ss right (stepped (Leave Put) w) h free)
runs (Text Keep n ∷ ss) right w h free =
    let next : (q : ℕ) → w.rest q ≡ with_list none (inner w.old) (n ∷ []) q ++ remaining (old_side ss right) w.old q = λ q. h q ∙ letters (old_side ss right) w.old n q in
    let can : w.rest (inner w.old) ≡ n ∷ drop 1 (w.rest (inner w.old)) = can_pass w.rest (inner w.old) n (remaining (old_side ss right) w.old) next in
    runs_with (Text Keep n) ss right w can
    (runs ss right (stepped (Text Keep n) w) (pass_gives w.rest (inner w.old) n (remaining (old_side ss right) w.old) next)
    (free-keep (puts ss) w.done w.rest (inner w.old) (inner w.new) n (drop 1 (w.rest (inner w.old))) can free))
runs (Text Drop n ∷ ss) right w h free =
    let next : (q : ℕ) → w.rest q ≡ with_list none (inner w.old) (n ∷ []) q ++ remaining (old_side ss right) w.old q = λ q. h q ∙ letters (old_side ss right) w.old n q in
    runs_with (Text Drop n) ss right w (can_pass w.rest (inner w.old) n (remaining (old_side ss right) w.old) next)
    (runs ss right (stepped (Text Drop n) w) (pass_gives w.rest (inner w.old) n (remaining (old_side ss right) w.old) next)
    (free-drop (puts ss) w.done w.rest (inner w.old) free))
runs (Text Put n ∷ ss) right w h free =
    runs_with (Text Put n) ss right w (λ q. apart-join n (w.done q) (w.rest q) (free.1 q) (free.2 q))
    (runs ss right (stepped (Text Put n) w) h (free-put (puts ss) w.done w.rest (inner w.new) n free.0 free.3))
runs (Count n count ∷ ss) right w h free = runs_with (Count n count) ss right w tt (runs ss right (stepped (Count n count) w) h free)

-- what is done is what the new tokens give
done_grown : (script : List Step) (right : List Token) (w : Work) →
    grown (new_side script right) (record { stack = w.new; kids = w.done }) ≡ grown right (record { stack = (after_script script w).new; kids = (after_script script w).done })
done_grown [] right w = refl
done_grown (Enter Keep n ∷ ss) right w = done_grown ss right (stepped (Enter Keep n) w)
done_grown (Enter Drop n ∷ ss) right w = done_grown ss right (stepped (Enter Drop n) w)
done_grown (Enter Put n ∷ ss) right w = done_grown ss right (stepped (Enter Put n) w)
done_grown (Leave Keep ∷ ss) right w = done_grown ss right (stepped (Leave Keep) w)
done_grown (Leave Drop ∷ ss) right w = done_grown ss right (stepped (Leave Drop) w)
done_grown (Leave Put ∷ ss) right w = done_grown ss right (stepped (Leave Put) w)
done_grown (Text Keep n ∷ ss) right w = done_grown ss right (stepped (Text Keep n) w)
done_grown (Text Drop n ∷ ss) right w = done_grown ss right (stepped (Text Drop n) w)
done_grown (Text Put n ∷ ss) right w = done_grown ss right (stepped (Text Put n) w)
done_grown (Count n count ∷ ss) right w = done_grown ss right (stepped (Count n count) w)

-- what is kept
pub old_side-append : (ss us : List Step) (ts : List Token) → old_side (ss ++ us) ts ≡ old_side ss (old_side us ts)
old_side-append [] us ts = refl
old_side-append (s ∷ ss) us ts = ap (λ l. old_of s l) (old_side-append ss us ts)

pub new_side-append : (ss us : List Step) (ts : List Token) → new_side (ss ++ us) ts ≡ new_side ss (new_side us ts)
new_side-append [] us ts = refl
new_side-append (s ∷ ss) us ts = ap (λ l. new_of s l) (new_side-append ss us ts)

pub old_side-keeps : (ts us : List Token) → old_side (keeps ts) us ≡ ts ++ us
old_side-keeps [] us = refl
old_side-keeps (Begin n ∷ ts) us = ap (λ l. Begin n ∷ l) (old_side-keeps ts us)
old_side-keeps (Letters n ∷ ts) us = ap (λ l. Letters n ∷ l) (old_side-keeps ts us)
old_side-keeps (End ∷ ts) us = ap (λ l. End ∷ l) (old_side-keeps ts us)

pub new_side-keeps : (ts us : List Token) → new_side (keeps ts) us ≡ ts ++ us
new_side-keeps [] us = refl
new_side-keeps (Begin n ∷ ts) us = ap (λ l. Begin n ∷ l) (new_side-keeps ts us)
new_side-keeps (Letters n ∷ ts) us = ap (λ l. Letters n ∷ l) (new_side-keeps ts us)
new_side-keeps (End ∷ ts) us = ap (λ l. End ∷ l) (new_side-keeps ts us)

puts-keeps : (ss : List Step) (ts : List Token) → puts (ss ++ keeps ts) ≡ puts ss
puts-keeps [] [] = refl
puts-keeps [] (Begin n ∷ ts) = puts-keeps [] ts
puts-keeps [] (Letters n ∷ ts) = puts-keeps [] ts
puts-keeps [] (End ∷ ts) = puts-keeps [] ts
puts-keeps (s ∷ ss) ts = ap (λ l. puts_of s l) (puts-keeps ss ts)

old_side-whole : (ss : List Step) (ts : List Token) → old_side (ss ++ keeps ts) [] ≡ old_side ss ts
old_side-whole ss ts = old_side-append ss (keeps ts) [] ∙ ap (λ l. old_side ss l) (old_side-keeps ts [] ∙ append-nil ts)

new_side-whole : (ss : List Step) (ts : List Token) → new_side (ss ++ keeps ts) [] ≡ new_side ss ts
new_side-whole ss ts = new_side-append ss (keeps ts) [] ∙ ap (λ l. new_side ss l) (new_side-keeps ts [] ∙ append-nil ts)

-- a script that begins with the old tree, and keeps what is right of it
pub record Begun (root : ℕ) (lefts right : List Token) (script : List Step) (a : Links) : Type 0 where
  pub can : CanRun (script ++ keeps right) (work_at root lefts (old_side script right))
  pub rest : (q : ℕ) → (after_script (script ++ keeps right) (work_at root lefts (old_side script right))).rest q ≡ []
  pub kids : (q : ℕ) → (grown (lefts ++ old_side script right) (start root)).kids q ≡ kids_of (work_at root lefts (old_side script right)).done (work_at root lefts (old_side script right)).rest q
  pub fits : Fits a (kids_of (work_at root lefts (old_side script right)).done (work_at root lefts (old_side script right)).rest)
  pub puts_are : puts (script ++ keeps right) ≡ puts script

pub begun : (root : ℕ) (lefts right : List Token) (script : List Step) (a : Links) → Fits a (grown (lefts ++ old_side script right) (start root)).kids →
    Free (puts script) (work_at root lefts (old_side script right)).done (work_at root lefts (old_side script right)).rest → Begun root lefts right script a
begun root lefts right script a fits free = record {
  can = ran.can;
  rest = ran.rest;
  kids = kids;
  fits = fits_same a (grown (lefts ++ old_side script right) (start root)).kids (kids_of w.done w.rest) (λ q. sym (kids q)) fits;
  puts_are = puts-keeps script right;
}
  where
    w : Work
    w = work_at root lefts (old_side script right)

    ran : Runs (script ++ keeps right) [] w
    ran = runs (script ++ keeps right) [] w (λ q. ap (λ l. remaining l w.old q) (sym (old_side-whole script right)))
        (subst (λ l. Free l w.done w.rest) (sym (puts-keeps script right)) free)

    kids : (q : ℕ) → (grown (lefts ++ old_side script right) (start root)).kids q ≡ kids_of w.done w.rest q
    kids q = ap (λ (g : Grown). g.kids q) (grown-append lefts (old_side script right) (start root)) ∙ grown-more (old_side script right) w.old w.done q

pub script_repairs : ScriptRepairs
script_repairs root lefts right script a fits free =
    fits_same (script_links whole w a) (kids_of (after_script whole w).done (after_script whole w).rest) (grown (lefts ++ new_side script right) (start root)).kids
    (λ q.
    ap (λ (g : Grown). g.kids q) (grown-append lefts (new_side script right) (start root)
    ∙ ap (λ l. grown l (grown lefts (start root))) (sym (new_side-whole script right))
    ∙ done_grown whole [] w)
    ∙ sym (append-nil ((after_script whole w).done q))
    ∙ ap (λ l. (after_script whole w).done q ++ l) (sym (ran.rest q)))
    (fits_script whole w a ran.fits ran.can)
  where
    whole : List Step
    whole = script ++ keeps right

    w : Work
    w = work_at root lefts (old_side script right)

    ran : Begun root lefts right script a
    ran = begun root lefts right script a fits free
