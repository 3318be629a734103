-- Taking a node from a list of children, and putting one into it.
use Rattle.std.proofs.Common.{◌≡◌, ◌≢◌, ℕ, Bool, true, false, Option, Some, None, List, [], ◌∷◌, ◌++◌, refl, sym, ap, ◌∙◌, subst, append-nil, eqb}
use Rattle.std.proofs.lemmas.Bool.{eqb-true, eqb-false}
use Rattle.std.proofs.lemmas.Map.{update_here, update_apart}
use Rattle.ve_tree.specs.Links.{Links, first_or, last_of, last_or, AreSiblings, Apart, AllApart, Children}
use Rattle.ve_repair.specs.Relink.{link_set, LeftPart, RightPart, set_right, set_left, right_of, unlinked, with_own, linked}
use Rattle.ve_tree.specs.Fits.{Fits}

-- a write to one field at x doesn't change the others
pub set-elsewhere : (f : ℕ → Option ℕ) (x : ℕ) (to : Option ℕ) (m : ℕ) → x ≢ m → link_set f x to m ≡ f m
set-elsewhere f x to m h = update_apart f x to m (λ e. h (sym e))

pub row-parent : (x : ℕ) (to : Option ℕ) (q b a : ℕ → Option ℕ) (p : ℕ) (start : Option ℕ) (ns : List ℕ) (end : Option ℕ) →
    Apart x ns → AreSiblings q b a p start ns end → AreSiblings (link_set q x to) b a p start ns end
row-parent x to q b a p start [] end h r = tt
row-parent x to q b a p start (n ∷ ns) end h r =
    (set-elsewhere q x to n h.0 ∙ r.0, r.1, r.2, row-parent x to q b a p (Some n) ns end h.1 r.3)

pub row-before : (x : ℕ) (to : Option ℕ) (q b a : ℕ → Option ℕ) (p : ℕ) (start : Option ℕ) (ns : List ℕ) (end : Option ℕ) →
    Apart x ns → AreSiblings q b a p start ns end → AreSiblings q (link_set b x to) a p start ns end
row-before x to q b a p start [] end h r = tt
row-before x to q b a p start (n ∷ ns) end h r =
    (r.0, set-elsewhere b x to n h.0 ∙ r.1, r.2, row-before x to q b a p (Some n) ns end h.1 r.3)

pub row-after : (x : ℕ) (to : Option ℕ) (q b a : ℕ → Option ℕ) (p : ℕ) (start : Option ℕ) (ns : List ℕ) (end : Option ℕ) →
    Apart x ns → AreSiblings q b a p start ns end → AreSiblings q b (link_set a x to) p start ns end
row-after x to q b a p start [] end h r = tt
row-after x to q b a p start (n ∷ ns) end h r =
    (r.0, r.1, set-elsewhere a x to n h.0 ∙ r.2, row-after x to q b a p (Some n) ns end h.1 r.3)

-- lists in two parts
first_or-append : (ls rs : List ℕ) (end : Option ℕ) → first_or (ls ++ rs) end ≡ first_or ls (first_or rs end)
first_or-append [] rs end = refl
first_or-append (n ∷ ls) rs end = refl

pub last_of-append : (n : ℕ) (ls : List ℕ) (r : ℕ) (rs : List ℕ) → last_of n (ls ++ r ∷ rs) ≡ last_of r rs
last_of-append n [] r rs = refl
last_of-append n (m ∷ ls) r rs = last_of-append m ls r rs

pub last_or-append : (start : Option ℕ) (ls rs : List ℕ) → last_or start (ls ++ rs) ≡ last_or (last_or start ls) rs
last_or-append start [] rs = refl
last_or-append start (n ∷ ls) [] = ap (λ ns. Some (last_of n ns)) (append-nil ls)
last_or-append start (n ∷ ls) (r ∷ rs) = ap (λ (m : ℕ). Some m) (last_of-append n ls r rs)

row-ls : (q b a : ℕ → Option ℕ) (p : ℕ) (start : Option ℕ) (ls rs : List ℕ) (end : Option ℕ) →
    AreSiblings q b a p start (ls ++ rs) end → AreSiblings q b a p start ls (first_or rs end)
row-ls q b a p start [] rs end r = tt
row-ls q b a p start (n ∷ ls) rs end r =
    (r.0, r.1, r.2 ∙ first_or-append ls rs end, row-ls q b a p (Some n) ls rs end r.3)

pub row-rs : (q b a : ℕ → Option ℕ) (p : ℕ) (start : Option ℕ) (ls rs : List ℕ) (end : Option ℕ) →
    AreSiblings q b a p start (ls ++ rs) end → AreSiblings q b a p (last_or start ls) rs end
row-rs q b a p start [] rs end r = r
row-rs q b a p start (n ∷ []) rs end r = r.3
row-rs q b a p start (n ∷ m ∷ ls) rs end r = row-rs q b a p (Some n) (m ∷ ls) rs end r.3

row-join : (q b a : ℕ → Option ℕ) (p : ℕ) (start : Option ℕ) (ls rs : List ℕ) (end : Option ℕ) →
    AreSiblings q b a p start ls (first_or rs end) → AreSiblings q b a p (last_or start ls) rs end → AreSiblings q b a p start (ls ++ rs) end
row-join q b a p start [] rs end l r = r
row-join q b a p start (n ∷ []) rs end l r = (l.0, l.1, l.2, r)
row-join q b a p start (n ∷ m ∷ ls) rs end l r = (l.0, l.1, l.2, row-join q b a p (Some n) (m ∷ ls) rs end l.3 r)

left_part : (a : Links) (p : ℕ) (ls rs : List ℕ) → Children a p (ls ++ rs) → LeftPart a p ls (first_or rs None)
left_part a p ls rs c =
    record { first = c.first ∙ first_or-append ls rs None; row = row-ls a.parent a.before a.after p None ls rs None c.row }

right_part : (a : Links) (p : ℕ) (ls rs : List ℕ) → Children a p (ls ++ rs) → RightPart a p (last_or None ls) rs
right_part a p ls rs c =
    record { last = c.last ∙ last_or-append None ls rs; row = row-rs a.parent a.before a.after p None ls rs None c.row }

pub children_joined : (a : Links) (p : ℕ) (ls rs : List ℕ) → LeftPart a p ls (first_or rs None) → RightPart a p (last_or None ls) rs → Children a p (ls ++ rs)
children_joined a p ls rs l r = record {
  first = l.first ∙ sym (first_or-append ls rs None);
  last = r.last ∙ sym (last_or-append None ls rs);
  row = row-join a.parent a.before a.after p None ls rs None l.row r.row;
}

-- what is apart
pub apart-ls : (n : ℕ) (ls rs : List ℕ) → Apart n (ls ++ rs) → Apart n ls
apart-ls n [] rs h = tt
apart-ls n (m ∷ ls) rs h = (h.0, apart-ls n ls rs h.1)

pub apart-rs : (n : ℕ) (ls rs : List ℕ) → Apart n (ls ++ rs) → Apart n rs
apart-rs n [] rs h = h
apart-rs n (m ∷ ls) rs h = apart-rs n ls rs h.1

pub apart-join : (n : ℕ) (ls rs : List ℕ) → Apart n ls → Apart n rs → Apart n (ls ++ rs)
apart-join n [] rs l r = r
apart-join n (m ∷ ls) rs l r = (l.0, apart-join n ls rs l.1 r)

pub all-ls : (ls rs : List ℕ) → AllApart (ls ++ rs) → AllApart ls
all-ls [] rs h = tt
all-ls (n ∷ ls) rs h = (apart-ls n ls rs h.0, all-ls ls rs h.1)

pub all-rs : (ls rs : List ℕ) → AllApart (ls ++ rs) → AllApart rs
all-rs [] rs h = h
all-rs (n ∷ ls) rs h = all-rs ls rs h.1

-- the last of the left ones is none of the right ones, and the first of the right ones none of the
-- left ones
last-apart : (n : ℕ) (ls rs : List ℕ) → AllApart (n ∷ (ls ++ rs)) → Apart (last_of n ls) rs
last-apart n [] rs h = h.0
last-apart n (m ∷ ls) rs h = last-apart m ls rs h.1

pub first-apart : (ls : List ℕ) (r : ℕ) (rs : List ℕ) → AllApart (ls ++ r ∷ rs) → Apart r ls
first-apart [] r rs h = tt
first-apart (n ∷ ls) r rs h = (λ e. (apart-rs n ls (r ∷ rs) h.0).0 (sym e), first-apart ls r rs h.1)

pub all-without : (ls : List ℕ) (n : ℕ) (rs : List ℕ) → AllApart (ls ++ n ∷ rs) → AllApart (ls ++ rs)
all-without [] n rs h = h.1
all-without (m ∷ ls) n rs h = (apart-join m ls rs (apart-ls m ls (n ∷ rs) h.0) (apart-rs m ls (n ∷ rs) h.0).1, all-without ls n rs h.1)

all-with : (ls : List ℕ) (n : ℕ) (rs : List ℕ) → Apart n (ls ++ rs) → AllApart (ls ++ rs) → AllApart (ls ++ n ∷ rs)
all-with [] n rs h all = (h, all)
all-with (m ∷ ls) n rs h all =
    (apart-join m ls (n ∷ rs) (apart-ls m ls rs all.0) (λ e. h.0 (sym e), apart-rs m ls rs all.0), all-with ls n rs h.1 all.1)

apart-last : (n m : ℕ) (ms : List ℕ) → Apart n (m ∷ ms) → last_of m ms ≢ n
apart-last n m [] h = λ e. h.0 (sym e)
apart-last n m (k ∷ ms) h = apart-last n k ms h.1

-- the two sides of a gap under the two writes
row-retarget : (to : Option ℕ) (q b a : ℕ → Option ℕ) (p : ℕ) (start : Option ℕ) (n : ℕ) (ls : List ℕ) (end : Option ℕ) →
    AllApart (n ∷ ls) → AreSiblings q b a p start (n ∷ ls) end → AreSiblings q b (link_set a (last_of n ls) to) p start (n ∷ ls) to
row-retarget to q b a p start n [] end h r = (r.0, r.1, update_here a n to, tt)
row-retarget to q b a p start n (m ∷ ls) end h r =
    (r.0, r.1, set-elsewhere a (last_of m ls) to n (apart-last n m ls h.0) ∙ r.2, row-retarget to q b a p (Some n) m ls end h.1 r.3)

left-set_right : (a : Links) (p : ℕ) (ls : List ℕ) (end to : Option ℕ) → AllApart ls → LeftPart a p ls end → LeftPart (set_right p (last_or None ls) to a) p ls to
left-set_right a p [] end to h l = record { first = update_here a.first p to; row = tt }
left-set_right a p (n ∷ ls) end to h l =
    record { first = l.first; row = row-retarget to a.parent a.before a.after p None n ls end h l.row }

right-set_right : (a : Links) (p : ℕ) (ls rs : List ℕ) (start to : Option ℕ) → AllApart (ls ++ rs) → RightPart a p start rs →
    RightPart (set_right p (last_or None ls) to a) p start rs
right-set_right a p [] rs start to h r = record { last = r.last; row = r.row }
right-set_right a p (n ∷ ls) rs start to h r =
    record { last = r.last; row = row-after (last_of n ls) to a.parent a.before a.after p start rs None (last-apart n ls rs h) r.row }

left-set_left : (a : Links) (p : ℕ) (ls rs : List ℕ) (end to : Option ℕ) → AllApart (ls ++ rs) → LeftPart a p ls end →
    LeftPart (set_left p (first_or rs None) to a) p ls end
left-set_left a p ls [] end to h l = record { first = l.first; row = l.row }
left-set_left a p ls (r ∷ rs) end to h l =
    record { first = l.first; row = row-before r to a.parent a.before a.after p None ls end (first-apart ls r rs h) l.row }

right-set_left : (a : Links) (p : ℕ) (rs : List ℕ) (start to : Option ℕ) → AllApart rs → RightPart a p start rs →
    RightPart (set_left p (first_or rs None) to a) p to rs
right-set_left a p [] start to h r = record { last = update_here a.last p to; row = tt }
right-set_left a p (n ∷ rs) start to h r = record {
  last = r.last;
  row = (r.row.0, update_here a.before n to, r.row.2, row-before n to a.parent a.before a.after p (Some n) rs None h.0 r.row.3);
}

-- a gap is closed, or opened for one node
gap_closed : (a : Links) (p : ℕ) (ls rs : List ℕ) (start end : Option ℕ) → AllApart (ls ++ rs) → LeftPart a p ls end → RightPart a p start rs →
    Children (set_left p (first_or rs None) (last_or None ls) (set_right p (last_or None ls) (first_or rs None) a)) p (ls ++ rs)
gap_closed a p ls rs start end h l r =
    let b = set_right p (last_or None ls) (first_or rs None) a in
    children_joined (set_left p (first_or rs None) (last_or None ls) b) p ls rs
    (left-set_left b p ls rs (first_or rs None) (last_or None ls) h (left-set_right a p ls end (first_or rs None) (all-ls ls rs h) l))
    (right-set_left b p rs start (last_or None ls) (all-rs ls rs h) (right-set_right a p ls rs start (first_or rs None) h r))

-- another node's children
value_or : ℕ → Option ℕ → ℕ
value_or d None = d
value_or d (Some n) = n

some-apart : (x y p q : ℕ) (parent : ℕ → Option ℕ) → parent x ≡ Some p → parent y ≡ Some q → p ≢ q → x ≢ y
unfolding value_or
some-apart x y p q parent hx hy h e = h (ap (value_or p) (sym hx ∙ ap parent e ∙ hy))

pub row-apart : (x p q : ℕ) (parent b a : ℕ → Option ℕ) (start : Option ℕ) (ns : List ℕ) (end : Option ℕ) →
    parent x ≡ Some p → p ≢ q → AreSiblings parent b a q start ns end → Apart x ns
row-apart x p q parent b a start [] end hx h r = tt
row-apart x p q parent b a start (n ∷ ns) end hx h r =
    (some-apart x n p q parent hx r.0 h, row-apart x p q parent b a (Some n) ns end hx h r.3)

row-last-parent : (parent b a : ℕ → Option ℕ) (p : ℕ) (start : Option ℕ) (n : ℕ) (ns : List ℕ) (end : Option ℕ) →
    AreSiblings parent b a p start (n ∷ ns) end → parent (last_of n ns) ≡ Some p
row-last-parent parent b a p start n [] end r = r.0
row-last-parent parent b a p start n (m ∷ ns) end r = row-last-parent parent b a p (Some n) m ns end r.3

other-set_right : (a : Links) (p q : ℕ) (ls : List ℕ) (end to : Option ℕ) (qs : List ℕ) → p ≢ q →
    AreSiblings a.parent a.before a.after p None ls end → Children a q qs → Children (set_right p (last_or None ls) to a) q qs
other-set_right a p q [] end to qs h l c = record { first = set-elsewhere a.first p to q h ∙ c.first; last = c.last; row = c.row }
other-set_right a p q (n ∷ ls) end to qs h l c = record {
  first = c.first;
  last = c.last;
  row = row-after (last_of n ls) to a.parent a.before a.after q None qs None
      (row-apart (last_of n ls) p q a.parent a.before a.after None qs None (row-last-parent a.parent a.before a.after p None n ls end l) h c.row)
      c.row;
}

other-set_left : (a : Links) (p q : ℕ) (start : Option ℕ) (rs : List ℕ) (to : Option ℕ) (qs : List ℕ) → p ≢ q →
    AreSiblings a.parent a.before a.after p start rs None → Children a q qs → Children (set_left p (first_or rs None) to a) q qs
other-set_left a p q start [] to qs h r c = record { first = c.first; last = set-elsewhere a.last p to q h ∙ c.last; row = c.row }
other-set_left a p q start (n ∷ rs) to qs h r c = record {
  first = c.first;
  last = c.last;
  row = row-before n to a.parent a.before a.after q None qs None
      (row-apart n p q a.parent a.before a.after None qs None r.0 h c.row) c.row;
}

other-gap_closed : (a : Links) (p q : ℕ) (ls rs : List ℕ) (start end to to' : Option ℕ) (qs : List ℕ) → AllApart (ls ++ rs) → p ≢ q →
    LeftPart a p ls end → RightPart a p start rs → Children a q qs →
    Children (set_left p (first_or rs None) to' (set_right p (last_or None ls) to a)) q qs
other-gap_closed a p q ls rs start end to to' qs all h l r c =
    let b = set_right p (last_or None ls) to a in
    other-set_left b p q start rs to' qs h (right-set_right a p ls rs start to all r).row (other-set_right a p q ls end to qs h l.row c)

-- n leaves p's children
pub left_of_node : (a : Links) (p : ℕ) (ls : List ℕ) (n : ℕ) (rs : List ℕ) → Children a p (ls ++ n ∷ rs) → a.before n ≡ last_or None ls
left_of_node a p ls n rs c = (right_part a p ls (n ∷ rs) c).row.1

pub right_of_node : (a : Links) (p : ℕ) (ls : List ℕ) (n : ℕ) (rs : List ℕ) → Children a p (ls ++ n ∷ rs) → a.after n ≡ first_or rs None
right_of_node a p ls n rs c = (right_part a p ls (n ∷ rs) c).row.2

right_rest : (a : Links) (p : ℕ) (start : Option ℕ) (n : ℕ) (rs : List ℕ) → RightPart a p start (n ∷ rs) → RightPart a p (Some n) rs
right_rest a p start n [] r = record { last = r.last; row = tt }
right_rest a p start n (m ∷ rs) r = record { last = r.last; row = r.row.3 }

unlinked-is : (a : Links) (p : ℕ) (ls : List ℕ) (n : ℕ) (rs : List ℕ) → Children a p (ls ++ n ∷ rs) →
    set_left p (first_or rs None) (last_or None ls) (set_right p (last_or None ls) (first_or rs None) a) ≡ unlinked p n a
unlinked-is a p ls n rs c =
    let l = sym (left_of_node a p ls n rs c) in
    let r = sym (right_of_node a p ls n rs c) in
    λ i. set_left p (r i) (l i) (set_right p (l i) (r i) a)

-- two cases of a number
pub by_case : {P : Type 0} (p q : ℕ) → (p ≡ q → P) → (p ≢ q → P) → P
by_case {P = P} p q yes_ no_ = go (eqb p q) refl
  where
    go : (b : Bool) → eqb p q ≡ b → P
    go true e = yes_ (eqb-true p q e)
    go false e = no_ (eqb-false p q e)

pub fits_unlinked : (a : Links) (kids kids' : ℕ → List ℕ) (p : ℕ) (ls : List ℕ) (n : ℕ) (rs : List ℕ) → Fits a kids → kids p ≡ ls ++ n ∷ rs →
    kids' p ≡ ls ++ rs → ((q : ℕ) → p ≢ q → kids' q ≡ kids q) → Fits (unlinked p n a) kids'
fits_unlinked a kids kids' p ls n rs fits here here' there = record {
  children = λ q. by_case p q
      (λ e. subst (λ q. Children (unlinked p n a) q (kids' q)) e (subst (λ ns. Children (unlinked p n a) p ns) (sym here') own))
      (λ h. subst (λ ns. Children (unlinked p n a) q ns) (sym (there q h)) (other q h));
  apart = λ q. by_case p q
      (λ e. subst (λ q. AllApart (kids' q)) e (subst AllApart (sym here') all))
      (λ h. subst AllApart (sym (there q h)) (fits.apart q));
}
  where
    c : Children a p (ls ++ n ∷ rs)
    c = subst (λ ns. Children a p ns) here (fits.children p)

    all : AllApart (ls ++ rs)
    all = all-without ls n rs (subst AllApart here (fits.apart p))

    l : LeftPart a p ls (Some n)
    l = left_part a p ls (n ∷ rs) c

    r : RightPart a p (Some n) rs
    r = right_rest a p (last_or None ls) n rs (right_part a p ls (n ∷ rs) c)

    own : Children (unlinked p n a) p (ls ++ rs)
    own = subst (λ b. Children b p (ls ++ rs)) (unlinked-is a p ls n rs c) (gap_closed a p ls rs (Some n) (Some n) all l r)

    other : (q : ℕ) → p ≢ q → Children (unlinked p n a) q (kids q)
    other q h = subst (λ b. Children b q (kids q)) (unlinked-is a p ls n rs c)
        (other-gap_closed a p q ls rs (Some n) (Some n) (first_or rs None) (last_or None ls) (kids q) all h l r (fits.children q))

-- the own links of a node that is nobody's child
children-with_own : (a : Links) (p n : ℕ) (left right : Option ℕ) (q : ℕ) (qs : List ℕ) → Apart n qs → Children a q qs → Children (with_own p n left right a) q qs
children-with_own a p n left right q qs h c = record {
  first = c.first;
  last = c.last;
  row = row-after n right (link_set a.parent n (Some p)) (link_set a.before n left) a.after q None qs None h
      (row-before n left (link_set a.parent n (Some p)) a.before a.after q None qs None h
      (row-parent n (Some p) a.parent a.before a.after q None qs None h c.row));
}

pub right_of-is : (a : Links) (p : ℕ) (ls rs : List ℕ) → Children a p (ls ++ rs) → right_of a p (last_or None ls) ≡ first_or rs None
right_of-is a p [] rs c = c.first
right_of-is a p (n ∷ ls) rs c = after_last a.parent a.before a.after p None n ls (first_or rs None) (left_part a p (n ∷ ls) rs c).row
  where
    after_last : (q b a : ℕ → Option ℕ) (p : ℕ) (start : Option ℕ) (n : ℕ) (ls : List ℕ) (end : Option ℕ) → AreSiblings q b a p start (n ∷ ls) end → a (last_of n ls) ≡ end
    after_last q b a p start n [] end r = r.2
    after_last q b a p start n (m ∷ ls) end r = after_last q b a p (Some n) m ls end r.3

-- the two writes at the neighbours leave n's own links
parent-kept : (a : Links) (p : ℕ) (l r to to' : Option ℕ) (n : ℕ) → (set_left p r to' (set_right p l to a)).parent n ≡ a.parent n
parent-kept a p None None to to' n = refl
parent-kept a p None (Some r) to to' n = refl
parent-kept a p (Some l) None to to' n = refl
parent-kept a p (Some l) (Some r) to to' n = refl

before-set_right : (a : Links) (p : ℕ) (l to : Option ℕ) (n : ℕ) → (set_right p l to a).before n ≡ a.before n
before-set_right a p None to n = refl
before-set_right a p (Some l) to n = refl

after-set_left : (a : Links) (p : ℕ) (r to : Option ℕ) (n : ℕ) → (set_left p r to a).after n ≡ a.after n
after-set_left a p None to n = refl
after-set_left a p (Some r) to n = refl

before-set_left : (a : Links) (p : ℕ) (rs : List ℕ) (to : Option ℕ) (n : ℕ) → Apart n rs → (set_left p (first_or rs None) to a).before n ≡ a.before n
before-set_left a p [] to n h = refl
before-set_left a p (r ∷ rs) to n h = set-elsewhere a.before r to n (λ e. h.0 (sym e))

after-set_right : (a : Links) (p : ℕ) (ls : List ℕ) (to : Option ℕ) (n : ℕ) → Apart n ls → (set_right p (last_or None ls) to a).after n ≡ a.after n
after-set_right a p [] to n h = refl
after-set_right a p (l ∷ ls) to n h = set-elsewhere a.after (last_of l ls) to n (apart-last n l ls h)

right_more : (a : Links) (p : ℕ) (start : Option ℕ) (n : ℕ) (rs : List ℕ) → a.parent n ≡ Some p → a.before n ≡ start → a.after n ≡ first_or rs None →
    RightPart a p (Some n) rs → RightPart a p start (n ∷ rs)
right_more a p start n [] hp hb ha r = record { last = r.last; row = (hp, hb, ha, tt) }
right_more a p start n (m ∷ rs) hp hb ha r = record { last = r.last; row = (hp, hb, ha, r.row) }

-- n, nobody's child, becomes a child of p
gap_opened : (b : Links) (p n : ℕ) (ls rs : List ℕ) → Apart n (ls ++ rs) → AllApart (ls ++ rs) → Children b p (ls ++ rs) →
    b.parent n ≡ Some p → b.before n ≡ last_or None ls → b.after n ≡ first_or rs None →
    Children (set_left p (first_or rs None) (Some n) (set_right p (last_or None ls) (Some n) b)) p (ls ++ n ∷ rs)
gap_opened b p n ls rs h all c hp hb ha = children_joined d p ls (n ∷ rs) left right
  where
    e : Links
    e = set_right p (last_or None ls) (Some n) b

    d : Links
    d = set_left p (first_or rs None) (Some n) e

    left : LeftPart d p ls (Some n)
    left = left-set_left e p ls rs (Some n) (Some n) all
        (left-set_right b p ls (first_or rs None) (Some n) (all-ls ls rs all) (left_part b p ls rs c))

    right : RightPart d p (last_or None ls) (n ∷ rs)
    right = right_more d p (last_or None ls) n rs
        (parent-kept b p (last_or None ls) (first_or rs None) (Some n) (Some n) n ∙ hp)
        (before-set_left e p rs (Some n) n (apart-rs n ls rs h) ∙ before-set_right b p (last_or None ls) (Some n) n ∙ hb)
        (after-set_left e p (first_or rs None) (Some n) n ∙ after-set_right b p ls (Some n) n (apart-ls n ls rs h) ∙ ha)
        (right-set_left e p rs (last_or None ls) (Some n) (all-rs ls rs all)
        (right-set_right b p ls rs (last_or None ls) (Some n) all (right_part b p ls rs c)))

pub fits_linked : (a : Links) (kids kids' : ℕ → List ℕ) (p : ℕ) (ls : List ℕ) (n : ℕ) (rs : List ℕ) → Fits a kids → kids p ≡ ls ++ rs →
    ((q : ℕ) → Apart n (kids q)) → kids' p ≡ ls ++ n ∷ rs → ((q : ℕ) → p ≢ q → kids' q ≡ kids q) → Fits (linked p n (last_or None ls) a) kids'
fits_linked a kids kids' p ls n rs fits here free here' there =
    subst (λ to. Fits (linked_to to) kids') (sym (right_of-is a p ls rs c)) (record {
      children = λ q. by_case p q
          (λ e. subst (λ q. Children (linked_to (first_or rs None)) q (kids' q)) e (subst (λ ns. Children (linked_to (first_or rs None)) p ns) (sym here') own))
          (λ h. subst (λ ns. Children (linked_to (first_or rs None)) q ns) (sym (there q h)) (other q h));
      apart = λ q. by_case p q
          (λ e. subst (λ q. AllApart (kids' q)) e (subst AllApart (sym here') (all-with ls n rs apart all)))
          (λ h. subst AllApart (sym (there q h)) (fits.apart q));
    })
  where
    linked_to : Option ℕ → Links
    linked_to to = set_left p to (Some n) (set_right p (last_or None ls) (Some n) (with_own p n (last_or None ls) to a))

    c : Children a p (ls ++ rs)
    c = subst (λ ns. Children a p ns) here (fits.children p)

    all : AllApart (ls ++ rs)
    all = subst AllApart here (fits.apart p)

    apart : Apart n (ls ++ rs)
    apart = subst (λ ns. Apart n ns) here (free p)

    b : Links
    b = with_own p n (last_or None ls) (first_or rs None) a

    c' : Children b p (ls ++ rs)
    c' = children-with_own a p n (last_or None ls) (first_or rs None) p (ls ++ rs) apart c

    own : Children (linked_to (first_or rs None)) p (ls ++ n ∷ rs)
    own = gap_opened b p n ls rs apart all c' (update_here a.parent n (Some p)) (update_here a.before n (last_or None ls)) (update_here a.after n (first_or rs None))

    other : (q : ℕ) → p ≢ q → Children (linked_to (first_or rs None)) q (kids q)
    other q h = other-gap_closed b p q ls rs (last_or None ls) (first_or rs None) (Some n) (Some n) (kids q) all h
        (left_part b p ls rs c') (right_part b p ls rs c')
        (children-with_own a p n (last_or None ls) (first_or rs None) q (kids q) (free q) (fits.children q))
