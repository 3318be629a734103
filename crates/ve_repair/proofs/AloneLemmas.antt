-- A node that is nobody's child, and is not put anywhere, keeps its own links to parent and
-- siblings.
use Rattle.std.proofs.Common.{◌≡◌, ◌≢◌, ℕ, Bool, true, false, if◌then◌else◌, Option, Some, None, List, [], ◌∷◌, ◌++◌, drop, refl, sym, ap, ◌∙◌, subst, eqb}
use Rattle.ve_tree.specs.Links.{Links, first_or, last_of, last_or, Apart, Children}
use Rattle.ve_tree.specs.Fits.{Fits}
use Rattle.ve_repair.specs.Relink.{set_right, set_left, right_of, unlinked, with_own, linked}
use Rattle.ve_repair.specs.Work.{with_list, kids_of, freed, inner, How, Keep, Drop, Put, Step, Enter, Leave, Text, Count, Work, placed, opened, left, stepped, placed_links, stepped_links, CanPlace, CanStep, script_links, CanRun}
use Rattle.ve_repair.specs.Tokens.{puts_of, puts, freed_all}
use Rattle.ve_repair.proofs.RelinkLemmas.{set-elsewhere, apart-ls, apart-rs, apart-join, left_of_node, right_of_node, right_of-is}
use Rattle.ve_repair.proofs.WorkLemmas.{fits_dropped, fits_stepped}
use Rattle.ve_repair.proofs.TokenLemmas.{apart-with, apart-passed}

-- the links to parent and siblings are as before
pub record Stays (x : ℕ) (a b : Links) : Type 0 where
  pub parent : b.parent x ≡ a.parent x
  pub before : b.before x ≡ a.before x
  pub after : b.after x ≡ a.after x

pub stays-refl : (x : ℕ) (a : Links) → Stays x a a
stays-refl x a = record { parent = refl; before = refl; after = refl }

pub stays-trans : (x : ℕ) (a b c : Links) → Stays x a b → Stays x b c → Stays x a c
stays-trans x a b c h g = record { parent = g.parent ∙ h.parent; before = g.before ∙ h.before; after = g.after ∙ h.after }

-- it is none that stands there
abbrev IsNot : ℕ → Option ℕ → Type 0
IsNot x None = Unit {0}
IsNot x (Some n) = n ≢ x

set_right-stays : (x p : ℕ) (left to : Option ℕ) (a : Links) → IsNot x left → Stays x a (set_right p left to a)
set_right-stays x p None to a h = record { parent = refl; before = refl; after = refl }
set_right-stays x p (Some n) to a h = record { parent = refl; before = refl; after = set-elsewhere a.after n to x h }

set_left-stays : (x p : ℕ) (right to : Option ℕ) (a : Links) → IsNot x right → Stays x a (set_left p right to a)
set_left-stays x p None to a h = record { parent = refl; before = refl; after = refl }
set_left-stays x p (Some n) to a h = record { parent = refl; before = set-elsewhere a.before n to x h; after = refl }

last-not : (x n : ℕ) (ns : List ℕ) → Apart x (n ∷ ns) → last_of n ns ≢ x
last-not x n [] h = λ e. h.0 (sym e)
last-not x n (m ∷ ms) h = last-not x m ms h.1

last_or-not : (x : ℕ) (ns : List ℕ) → Apart x ns → IsNot x (last_or None ns)
last_or-not x [] h = tt
last_or-not x (n ∷ ns) h = last-not x n ns h

first_or-not : (x : ℕ) (ns : List ℕ) → Apart x ns → IsNot x (first_or ns None)
first_or-not x [] h = tt
first_or-not x (n ∷ ns) h = λ e. h.0 (sym e)

unlinked-stays : (x : ℕ) (a : Links) (kids : ℕ → List ℕ) (p : ℕ) (ls : List ℕ) (n : ℕ) (rs : List ℕ) → Fits a kids → kids p ≡ ls ++ n ∷ rs → Apart x (kids p) →
    Stays x a (unlinked p n a)
unlinked-stays x a kids p ls n rs fits here apart =
    stays-trans x a b (set_left p (a.after n) (a.before n) b)
    (set_right-stays x p (a.before n) (a.after n) a (subst (IsNot x) (sym (left_of_node a p ls n rs c)) (last_or-not x ls (apart-ls x ls (n ∷ rs) all))))
    (set_left-stays x p (a.after n) (a.before n) b (subst (IsNot x) (sym (right_of_node a p ls n rs c)) (first_or-not x rs (apart-rs x ls (n ∷ rs) all).1)))
  where
    c : Children a p (ls ++ n ∷ rs)
    c = subst (λ ns. Children a p ns) here (fits.children p)

    all : Apart x (ls ++ n ∷ rs)
    all = subst (λ ns. Apart x ns) here apart

    b : Links
    b = set_right p (a.before n) (a.after n) a

own-stays : (x p n : ℕ) (before after : Option ℕ) (a : Links) → n ≢ x → Stays x a (with_own p n before after a)
own-stays x p n before after a h = record {
  parent = set-elsewhere a.parent n (Some p) x h;
  before = set-elsewhere a.before n before x h;
  after = set-elsewhere a.after n after x h;
}

linked-stays : (x : ℕ) (a : Links) (kids : ℕ → List ℕ) (p : ℕ) (ls : List ℕ) (n : ℕ) (rs : List ℕ) → Fits a kids → kids p ≡ ls ++ rs → Apart x (kids p) → n ≢ x →
    Stays x a (linked p n (last_or None ls) a)
linked-stays x a kids p ls n rs fits here apart ne =
    let c : Children a p (ls ++ rs) = subst (λ ns. Children a p ns) here (fits.children p) in
    let all : Apart x (ls ++ rs) = subst (λ ns. Apart x ns) here apart in
    let to : Option ℕ = right_of a p (last_or None ls) in
    let own : Links = with_own p n (last_or None ls) to a in
    let right : Links = set_right p (last_or None ls) (Some n) own in
    let not_right : IsNot x to = subst (IsNot x) (sym (right_of-is a p ls rs c)) (first_or-not x rs (apart-rs x ls rs all)) in
    stays-trans x a own (set_left p to (Some n) right) (own-stays x p n (last_or None ls) to a ne)
    (stays-trans x own right (set_left p to (Some n) right)
    (set_right-stays x p (last_or None ls) (Some n) own (last_or-not x ls (apart-ls x ls rs all)))
    (set_left-stays x p to (Some n) right not_right))

both : (x : ℕ) (done rest : ℕ → List ℕ) → ((q : ℕ) → Apart x (done q)) → ((q : ℕ) → Apart x (rest q)) → (q : ℕ) → Apart x (kids_of done rest q)
both x done rest h g q = apart-join x (done q) (rest q) (h q) (g q)

next-not : (x n : ℕ) (ns rest : List ℕ) → ns ≡ n ∷ rest → Apart x ns → n ≢ x
next-not x n ns rest e h = λ same. (subst (λ l. Apart x l) e h).0 (sym same)

-- a step
placed-stays : (x : ℕ) (how : How) (n : ℕ) (w : Work) (a : Links) → Fits a (kids_of w.done w.rest) → CanPlace how n w →
    ((q : ℕ) → Apart x (w.done q)) → ((q : ℕ) → Apart x (w.rest q)) → Apart x (puts_of (Text how n) []) → Stays x a (placed_links how n w a)
placed-stays x Drop n w a fits can done rest ne =
    unlinked-stays x a (kids_of w.done w.rest) (inner w.old) (w.done (inner w.old)) n (drop 1 (w.rest (inner w.old))) fits (ap (λ ns. w.done (inner w.old) ++ ns) can)
    (both x w.done w.rest done rest (inner w.old))
placed-stays x Put n w a fits can done rest ne =
    linked-stays x a (kids_of w.done w.rest) (inner w.new) (w.done (inner w.new)) n (w.rest (inner w.new)) fits refl
    (both x w.done w.rest done rest (inner w.new)) (λ e. ne.0 (sym e))
placed-stays x Keep n w a fits can done rest ne = go (eqb (inner w.old) (inner w.new))
  where
    o : ℕ
    o = inner w.old

    f : ℕ
    f = inner w.new

    after : ℕ → List ℕ
    after = with_list w.rest o (drop 1 (w.rest o))

    go : (b : Bool) → Stays x a (if b then a else linked f n (last_or None (w.done f)) (unlinked o n a))
    go true = stays-refl x a
    go false = stays-trans x a (unlinked o n a) (linked f n (last_or None (w.done f)) (unlinked o n a))
        (unlinked-stays x a (kids_of w.done w.rest) o (w.done o) n (drop 1 (w.rest o)) fits (ap (λ ns. w.done o ++ ns) can) (both x w.done w.rest done rest o))
        (linked-stays x (unlinked o n a) (kids_of w.done after) f (w.done f) n (after f) (fits_dropped a w.done w.rest o n (drop 1 (w.rest o)) fits can) refl
        (both x w.done after done (apart-passed x w.rest o rest) f) (next-not x n (w.rest o) (drop 1 (w.rest o)) can (rest o)))

abbrev Clear : ℕ → Work → Type 0
Clear x w = ((q : ℕ) → Apart x (w.done q)) × ((q : ℕ) → Apart x (w.rest q))

placed-clear : (x : ℕ) (how : How) (n : ℕ) (w : Work) → CanPlace how n w → Clear x w → Apart x (puts_of (Text how n) []) → Clear x (placed how n w)
placed-clear x Keep n w can h ne = (
  apart-with x n w.done (inner w.new) (λ e. next-not x n (w.rest (inner w.old)) (drop 1 (w.rest (inner w.old))) can (h.1 (inner w.old)) (sym e)) h.0,
  apart-passed x w.rest (inner w.old) h.1,
)
placed-clear x Drop n w can h ne = (h.0, apart-passed x w.rest (inner w.old) h.1)
placed-clear x Put n w can h ne = (apart-with x n w.done (inner w.new) ne.0 h.0, h.1)

opened-clear : (x : ℕ) (how : How) (n : ℕ) (w : Work) → Clear x w → Clear x (opened how n w)
opened-clear x Keep n w h = h
opened-clear x Drop n w h = h
opened-clear x Put n w h = h

left-clear : (x : ℕ) (how : How) (w : Work) → Clear x w → Clear x (left how w)
left-clear x Keep w h = h
left-clear x Drop w h = h
left-clear x Put w h = h

own-put : (x : ℕ) (s : Step) (ns : List ℕ) → Apart x (puts_of s ns) → Apart x (puts_of s [])
own-put x (Enter Keep n) ns h = tt
own-put x (Enter Drop n) ns h = tt
own-put x (Enter Put n) ns h = (h.0, tt)
own-put x (Leave how) ns h = tt
own-put x (Text Keep n) ns h = tt
own-put x (Text Drop n) ns h = tt
own-put x (Text Put n) ns h = (h.0, tt)
own-put x (Count n count) ns h = tt

other-puts : (x : ℕ) (s : Step) (ns : List ℕ) → Apart x (puts_of s ns) → Apart x ns
other-puts x (Enter Keep n) ns h = h
other-puts x (Enter Drop n) ns h = h
other-puts x (Enter Put n) ns h = h.1
other-puts x (Leave how) ns h = h
other-puts x (Text Keep n) ns h = h
other-puts x (Text Drop n) ns h = h
other-puts x (Text Put n) ns h = h.1
other-puts x (Count n count) ns h = h

enter-put : (x n : ℕ) (how : How) → Apart x (puts_of (Enter how n) []) → Apart x (puts_of (Text how n) [])
enter-put x n Keep h = tt
enter-put x n Drop h = tt
enter-put x n Put h = h

stepped-stays : (x : ℕ) (s : Step) (w : Work) (a : Links) → Fits a (kids_of w.done w.rest) → CanStep s w → Clear x w → Apart x (puts_of s []) →
    Stays x a (stepped_links s w a) × Clear x (stepped s w)
stepped-stays x (Enter how n) w a fits can h ne =
    (placed-stays x how n w a fits can h.0 h.1 (enter-put x n how ne), opened-clear x how n (placed how n w) (placed-clear x how n w can h (enter-put x n how ne)))
stepped-stays x (Leave how) w a fits can h ne = (stays-refl x a, left-clear x how w h)
stepped-stays x (Text how n) w a fits can h ne = (placed-stays x how n w a fits can h.0 h.1 ne, placed-clear x how n w can h ne)
stepped-stays x (Count n count) w a fits can h ne = (stays-refl x a, h)

pub script-stays : (x : ℕ) (script : List Step) (w : Work) (a : Links) → Fits a (kids_of w.done w.rest) → CanRun script w → Clear x w → Apart x (puts script) →
    Stays x a (script_links script w a)
script-stays x [] w a fits can h ne = stays-refl x a
script-stays x (s ∷ ss) w a fits can h ne =
    let one = stepped-stays x s w a fits can.0 h (own-put x s (puts ss) ne) in
    stays-trans x a (stepped_links s w a) (script_links ss (stepped s w) (stepped_links s w a)) one.0
    (script-stays x ss (stepped s w) (stepped_links s w a) (fits_stepped s w a fits can.0) can.1 one.1 (other-puts x s (puts ss) ne))

-- and freeing others leaves it
pub freed-stays : (x : ℕ) (ns : List ℕ) (a : Links) → Apart x ns → Stays x a (freed_all ns a)
freed-stays x [] a h = stays-refl x a
freed-stays x (n ∷ ns) a h =
    let ne : n ≢ x = λ e. h.0 (sym e) in
    stays-trans x a (freed n a) (freed_all ns (freed n a))
    (record { parent = set-elsewhere a.parent n None x ne; before = set-elsewhere a.before n None x ne; after = set-elsewhere a.after n None x ne })
    (freed-stays x ns (freed n a) h.1)
