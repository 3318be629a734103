-- A script keeps it true that the children of every node are those placed so far and then those not
-- passed yet.
use Rattle.std.proofs.Common.{◌≡◌, ◌≢◌, ℕ, Bool, true, false, if◌then◌else◌, Some, None, List, [], ◌∷◌, ◌++◌, drop, refl, sym, ap, ◌∙◌, subst, append_assoc, eqb}
use Rattle.std.proofs.lemmas.Bool.{eqb-true, eq-eqb}
use Rattle.ve_tree.specs.Links.{Links, last_or, AreSiblings, Apart, AllApart, Children}
use Rattle.ve_repair.specs.Relink.{unlinked, linked}
use Rattle.ve_tree.specs.Fits.{Fits}
use Rattle.ve_repair.specs.Work.{with_list, kids_of, kept, How, Keep, Drop, Put, Step, Enter, Leave, Text, Count, Work, inner, placed, opened, left, stepped, placed_links, stepped_links, CanPlace, CanStep, after_script, script_links, CanRun}
use Rattle.ve_repair.proofs.RelinkLemmas.{fits_unlinked, fits_linked, by_case, row-apart, apart-rs, row-rs}

pub with_list-here : (f : ℕ → List ℕ) (p : ℕ) (ns : List ℕ) → with_list f p ns p ≡ ns
with_list-here f p ns = ap (λ b. if b then ns else f p) (eq-eqb p p refl)

pub with_list-there : (f : ℕ → List ℕ) (p : ℕ) (ns : List ℕ) (q : ℕ) → p ≢ q → with_list f p ns q ≡ f q
with_list-there f p ns q h = go (eqb p q) refl
  where
    go : (b : Bool) → eqb p q ≡ b → (if b then ns else f q) ≡ f q
    go true e = absurd (h (eqb-true p q e))
    go false e = refl

pub fits_same : (a : Links) (kids kids' : ℕ → List ℕ) → ((q : ℕ) → kids' q ≡ kids q) → Fits a kids → Fits a kids'
fits_same a kids kids' same fits = record {
  children = λ q. subst (λ ns. Children a q ns) (sym (same q)) (fits.children q);
  apart = λ q. subst AllApart (sym (same q)) (fits.apart q);
}

-- a node is the child of one node, and once
all-apart-from : (ls : List ℕ) (n : ℕ) (rs : List ℕ) → AllApart (ls ++ n ∷ rs) → Apart n (ls ++ rs)
all-apart-from [] n rs h = h.0
all-apart-from (m ∷ ls) n rs h = (λ e. (apart-rs m ls (n ∷ rs) h.0).0 (sym e), all-apart-from ls n rs h.1)

pub nobodys : (a : Links) (kids kids' : ℕ → List ℕ) (p : ℕ) (ls : List ℕ) (n : ℕ) (rs : List ℕ) → Fits a kids → kids p ≡ ls ++ n ∷ rs →
    kids' p ≡ ls ++ rs → ((q : ℕ) → p ≢ q → kids' q ≡ kids q) → (q : ℕ) → Apart n (kids' q)
nobodys a kids kids' p ls n rs fits here here' there q = by_case p q
    (λ e. subst (λ q. Apart n (kids' q)) e
    (subst (λ ns. Apart n ns) (sym here') (all-apart-from ls n rs (subst AllApart here (fits.apart p)))))
    (λ h. subst (λ ns. Apart n ns) (sym (there q h))
    (row-apart n p q a.parent a.before a.after None (kids q) None parent_is h (fits.children q).row))
  where
    parent_is : a.parent n ≡ Some p
    parent_is = (row-rs a.parent a.before a.after p None ls (n ∷ rs) None (subst (λ ns. AreSiblings a.parent a.before a.after p None ns None) here (fits.children p).row)).0

pub fits_dropped : (a : Links) (done rest : ℕ → List ℕ) (o n : ℕ) (r : List ℕ) → Fits a (kids_of done rest) → rest o ≡ n ∷ r →
    Fits (unlinked o n a) (kids_of done (with_list rest o r))
fits_dropped a done rest o n r fits next =
    fits_unlinked a (kids_of done rest) (kids_of done (with_list rest o r)) o (done o) n r fits
    (ap (λ ns. done o ++ ns) next) (ap (λ ns. done o ++ ns) (with_list-here rest o r))
    (λ q h. ap (λ ns. done q ++ ns) (with_list-there rest o r q h))

pub fits_put : (a : Links) (done rest : ℕ → List ℕ) (f n : ℕ) → Fits a (kids_of done rest) → ((q : ℕ) → Apart n (kids_of done rest q)) →
    Fits (linked f n (last_or None (done f)) a) (kids_of (with_list done f (done f ++ n ∷ [])) rest)
fits_put a done rest f n fits free =
    fits_linked a (kids_of done rest) (kids_of (with_list done f (done f ++ n ∷ [])) rest) f (done f) n (rest f) fits refl free
    (ap (λ ns. ns ++ rest f) (with_list-here done f (done f ++ n ∷ [])) ∙ append_assoc (done f) (n ∷ []) (rest f))
    (λ q h. ap (λ ns. ns ++ rest q) (with_list-there done f (done f ++ n ∷ []) q h))

-- the bar is moved
moved_bar : (done rest : ℕ → List ℕ) (o n : ℕ) (r : List ℕ) → rest o ≡ n ∷ r → (q : ℕ) →
    kids_of (with_list done o (done o ++ n ∷ [])) (with_list rest o r) q ≡ kids_of done rest q
moved_bar done rest o n r next q = by_case o q
    (λ e. subst (λ q. kids_of (with_list done o (done o ++ n ∷ [])) (with_list rest o r) q ≡ kids_of done rest q) e
    (ap (λ ns. ns ++ with_list rest o r o) (with_list-here done o (done o ++ n ∷ []))
    ∙ ap (λ ns. (done o ++ n ∷ []) ++ ns) (with_list-here rest o r)
    ∙ append_assoc (done o) (n ∷ []) r ∙ ap (λ ns. done o ++ ns) (sym next)))
    (λ h. ap (λ ns. ns ++ with_list rest o r q) (with_list-there done o (done o ++ n ∷ []) q h)
    ∙ ap (λ ns. done q ++ ns) (with_list-there rest o r q h))

pub fits_kept : (a : Links) (done rest : ℕ → List ℕ) (o f n : ℕ) (r : List ℕ) → Fits a (kids_of done rest) → rest o ≡ n ∷ r →
    Fits (kept o f n (last_or None (done f)) a) (kids_of (with_list done f (done f ++ n ∷ [])) (with_list rest o r))
fits_kept a done rest o f n r fits next = go (eqb o f) refl
  where
    kids' : ℕ → List ℕ
    kids' = kids_of (with_list done f (done f ++ n ∷ [])) (with_list rest o r)

    go : (b : Bool) → eqb o f ≡ b → Fits (if b then a else linked f n (last_or None (done f)) (unlinked o n a)) kids'
    go true e = fits_same a (kids_of done rest) kids'
        (subst (λ f. (q : ℕ) → kids_of (with_list done f (done f ++ n ∷ [])) (with_list rest o r) q ≡ kids_of done rest q) (eqb-true o f e)
        (moved_bar done rest o n r next)) fits
    go false e = fits_put (unlinked o n a) done (with_list rest o r) f n (fits_dropped a done rest o n r fits next)
        (nobodys a (kids_of done rest) (kids_of done (with_list rest o r)) o (done o) n r fits
        (ap (λ ns. done o ++ ns) next) (ap (λ ns. done o ++ ns) (with_list-here rest o r))
        (λ q h. ap (λ ns. done q ++ ns) (with_list-there rest o r q h)))

-- a script
fits_placed : (how : How) (n : ℕ) (w : Work) (a : Links) → Fits a (kids_of w.done w.rest) → CanPlace how n w →
    Fits (placed_links how n w a) (kids_of (placed how n w).done (placed how n w).rest)
fits_placed Keep n w a fits can = fits_kept a w.done w.rest (inner w.old) (inner w.new) n (drop 1 (w.rest (inner w.old))) fits can
fits_placed Drop n w a fits can = fits_dropped a w.done w.rest (inner w.old) n (drop 1 (w.rest (inner w.old))) fits can
fits_placed Put n w a fits can = fits_put a w.done w.rest (inner w.new) n fits can

fits_opened : (how : How) (n : ℕ) (w : Work) (a : Links) → Fits a (kids_of w.done w.rest) → Fits a (kids_of (opened how n w).done (opened how n w).rest)
fits_opened Keep n w a fits = fits
fits_opened Drop n w a fits = fits
fits_opened Put n w a fits = fits

fits_left : (how : How) (w : Work) (a : Links) → Fits a (kids_of w.done w.rest) → Fits a (kids_of (left how w).done (left how w).rest)
fits_left Keep w a fits = fits
fits_left Drop w a fits = fits
fits_left Put w a fits = fits

pub fits_stepped : (s : Step) (w : Work) (a : Links) → Fits a (kids_of w.done w.rest) → CanStep s w →
    Fits (stepped_links s w a) (kids_of (stepped s w).done (stepped s w).rest)
fits_stepped (Enter how n) w a fits can = fits_opened how n (placed how n w) (placed_links how n w a) (fits_placed how n w a fits can)
fits_stepped (Leave how) w a fits can = fits_left how w a fits
fits_stepped (Text how n) w a fits can = fits_placed how n w a fits can
fits_stepped (Count n count) w a fits can = fits

pub fits_script : (script : List Step) (w : Work) (a : Links) → Fits a (kids_of w.done w.rest) → CanRun script w →
    Fits (script_links script w a) (kids_of (after_script script w).done (after_script script w).rest)
fits_script [] w a fits can = fits
fits_script (s ∷ ss) w a fits can = fits_script ss (stepped s w) (stepped_links s w a) (fits_stepped s w a fits can.0) can.1
