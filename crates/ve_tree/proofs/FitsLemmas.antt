-- The tree of a list, and the children lists of its nodes.
use Rattle.std.proofs.Common.{◌≡◌, ◌≢◌, ◌⊎◌, inl, inr, ℕ, nat_eq, if◌then◌else◌, None, List, [], ◌∷◌, ◌++◌, refl, sym, ap, ◌∙◌, subst, append-nil}
use Rattle.std.proofs.lemmas.Bool.{cases_Bool, eqb-true, eqb-false, eq-eqb, ne_eqb}
use Rattle.ve_arena.specs.declared.node.NodeWhat.{NodeWhat}
use Rattle.ve_arena.specs.Arena.{slot_at}
use Rattle.ve_tree.specs.Links.{link_in, links_of, Children, Apart, AllApart}
use Rattle.ve_tree.specs.Named.{Named, NoNode, NamedRun, NamedBranch, heads, node_numbers, IsShown, Shows}
use Rattle.ve_tree.specs.Fits.{Fits, HaveKids, kids_in, kids_of, IsLabelled, AreLabelled, TreeFits, FitsAreTree}
use Rattle.ve_tree.proofs.GrownLemmas.{Slots, apart-ls, apart-rs, apart-join, all-ls, all-rs, Disjoint, disjoint-swap}

pub same_or_not : (q n : ℕ) → (q ≡ n) ⊎ (q ≢ n)
same_or_not q n =
    elim (cases_Bool (nat_eq q n)) [
      | inl same ↦ inl (eqb-true q n same)
      | inr not_same ↦ inr (eqb-false q n not_same)
    ]

-- a number stands in one of two lists at most
pub part : (ls rs : List ℕ) (q : ℕ) → AllApart (ls ++ rs) → Apart q ls ⊎ Apart q rs
part [] rs q a = inl tt
part (n ∷ ls) rs q a =
    elim (same_or_not q n) [
      | inl same ↦ inr (subst (λ m. Apart m rs) (sym same) (apart-rs n ls rs a.0))
      | inr other ↦ elim (part ls rs q a.1) [ inl none ↦ inl (other, none) | inr none ↦ inr none ]
    ]

pub disjoint_of : (ls rs : List ℕ) → AllApart (ls ++ rs) → Disjoint ls rs
disjoint_of [] rs a = tt
disjoint_of (n ∷ ls) rs a = (apart-rs n ls rs a.0, disjoint_of ls rs a.1)

pub apart_heads : (n : ℕ) (f : Named) → Apart n (node_numbers f) → Apart n (heads f)
apart_heads n NoNode a = tt
apart_heads n (NamedRun m count later) a = (a.0, apart_heads n later a.1)
apart_heads n (NamedBranch m kind inside later) a = (a.0, apart_heads n later (apart-rs n (node_numbers inside) (node_numbers later) a.1))

pub all_heads : (f : Named) → AllApart (node_numbers f) → AllApart (heads f)
all_heads NoNode a = tt
all_heads (NamedRun n count later) a = (apart_heads n later a.0, all_heads later a.1)
all_heads (NamedBranch n kind inside later) a =
    (apart_heads n later (apart-rs n (node_numbers inside) (node_numbers later) a.0), all_heads later (all-rs (node_numbers inside) (node_numbers later) a.1))

-- the children of a branch, and of another node
kids_own : (n : ℕ) (own other : List ℕ) → ◌≡◌ {A = List ℕ} (if nat_eq n n then own else other) own
kids_own n own other = ap (λ t. if t then own else other) (eq-eqb n n refl)

kids_other : (q n : ℕ) (own other : List ℕ) → q ≢ n → ◌≡◌ {A = List ℕ} (if nat_eq q n then own else other) other
kids_other q n own other ne = ap (λ t. if t then own else other) (ne_eqb q n ne)

kids_apart : (f : Named) (q : ℕ) → Apart q (node_numbers f) → kids_in f q ≡ []
kids_apart NoNode q a = refl
kids_apart (NamedRun n count later) q a = kids_apart later q a.1
kids_apart (NamedBranch n kind inside later) q a =
    kids_other q n (heads inside) (kids_in inside q ++ kids_in later q) a.0
    ∙ ap (λ l. l ++ kids_in later q) (kids_apart inside q (apart-ls q (node_numbers inside) (node_numbers later) a.1))
    ∙ kids_apart later q (apart-rs q (node_numbers inside) (node_numbers later) a.1)

-- where a number is none of those inside, or none of the later ones
kids_later : (n q : ℕ) (inside later : Named) (own : List ℕ) → q ≢ n → Apart q (node_numbers inside) → ◌≡◌ {A = List ℕ} (if nat_eq q n then own else (kids_in inside q ++ kids_in later q)) (kids_in later q)
kids_later n q inside later own ne a = kids_other q n own (kids_in inside q ++ kids_in later q) ne ∙ ap (λ l. l ++ kids_in later q) (kids_apart inside q a)

kids_inside : (n q : ℕ) (inside later : Named) (own : List ℕ) → q ≢ n → Apart q (node_numbers later) → ◌≡◌ {A = List ℕ} (if nat_eq q n then own else (kids_in inside q ++ kids_in later q)) (kids_in inside q)
kids_inside n q inside later own ne a =
    kids_other q n own (kids_in inside q ++ kids_in later q) ne ∙ ap (λ l. kids_in inside q ++ l) (kids_apart later q a) ∙ append-nil (kids_in inside q)

-- the lists have no number twice
kids_distinct : (f : Named) (q : ℕ) → AllApart (node_numbers f) → AllApart (kids_in f q)
kids_distinct NoNode q a = tt
kids_distinct (NamedRun n count later) q a = kids_distinct later q a.1
kids_distinct (NamedBranch n kind inside later) q a =
    let in_ = all-ls (node_numbers inside) (node_numbers later) a.1 in
    let after_ = all-rs (node_numbers inside) (node_numbers later) a.1 in
    elim (same_or_not q n) [
      | inl same ↦ subst (λ m. AllApart (kids_in (NamedBranch n kind inside later) m)) (sym same) (subst AllApart (sym (kids_own n (heads inside) (kids_in inside n ++ kids_in later n))) (all_heads inside in_))
      | inr ne ↦ elim (part (node_numbers inside) (node_numbers later) q a.1) [
        | inl none ↦ subst AllApart (sym (kids_later n q inside later (heads inside) ne none)) (kids_distinct later q after_)
        | inr none ↦ subst AllApart (sym (kids_inside n q inside later (heads inside) ne none)) (kids_distinct inside q in_)
      ]
    ]

-- each number is none of the forest's, or its node has its children
fit_in : (slots : Slots) (f : Named) (q : ℕ) → AllApart (node_numbers f) → Shows slots f → Apart q (node_numbers f) ⊎ Children (links_of slots) q (kids_in f q)
fit_in slots NoNode q a shown = inl tt
fit_in slots (NamedRun n count later) q a shown =
    elim (same_or_not q n) [
      | inl same ↦ inr (subst (λ m. Children (links_of slots) m (kids_in later m)) (sym same) (subst (Children (links_of slots) n) (sym (kids_apart later n a.0)) shown.0.children))
      | inr ne ↦ elim (fit_in slots later q a.1 shown.1) [ inl none ↦ inl (ne, none) | inr fits ↦ inr fits ]
    ]
fit_in slots (NamedBranch n kind inside later) q a shown =
    let in_ = all-ls (node_numbers inside) (node_numbers later) a.1 in
    let after_ = all-rs (node_numbers inside) (node_numbers later) a.1 in
    elim (same_or_not q n) [
      | inl same ↦ inr (subst (λ m. Children (links_of slots) m (kids_in (NamedBranch n kind inside later) m)) (sym same)
          (subst (Children (links_of slots) n) (sym (kids_own n (heads inside) (kids_in inside n ++ kids_in later n))) shown.0.children))
      | inr ne ↦ elim (part (node_numbers inside) (node_numbers later) q a.1) [
        | inl none ↦ elim (fit_in slots later q after_ shown.2) [
          | inl more ↦ inl (ne, apart-join q (node_numbers inside) (node_numbers later) none more)
          | inr fits ↦ inr (subst (Children (links_of slots) q) (sym (kids_later n q inside later (heads inside) ne none)) fits)
        ]
        | inr none ↦ elim (fit_in slots inside q in_ shown.1) [
          | inl more ↦ inl (ne, apart-join q (node_numbers inside) (node_numbers later) more none)
          | inr fits ↦ inr (subst (Children (links_of slots) q) (sym (kids_inside n q inside later (heads inside) ne none)) fits)
        ]
      ]
    ]

-- two choices of children lists agree on some numbers
abbrev Agree : (ℕ → List ℕ) → (ℕ → List ℕ) → List ℕ → Type 0
Agree kids others [] = Unit {0}
Agree kids others (n ∷ ns) = (others n ≡ kids n) × Agree kids others ns

agree_ls : (kids others : ℕ → List ℕ) (ls rs : List ℕ) → Agree kids others (ls ++ rs) → Agree kids others ls
agree_ls kids others [] rs h = tt
agree_ls kids others (n ∷ ls) rs h = (h.0, agree_ls kids others ls rs h.1)

agree_rs : (kids others : ℕ → List ℕ) (ls rs : List ℕ) → Agree kids others (ls ++ rs) → Agree kids others rs
agree_rs kids others [] rs h = h
agree_rs kids others (n ∷ ls) rs h = agree_rs kids others ls rs h.1

have_others : (kids others : ℕ → List ℕ) (f : Named) → Agree kids others (node_numbers f) → HaveKids kids f → HaveKids others f
have_others kids others NoNode h k = tt
have_others kids others (NamedRun n count later) h k = (h.0 ∙ k.0, have_others kids others later h.1 k.1)
have_others kids others (NamedBranch n kind inside later) h k = (
  h.0 ∙ k.0,
  have_others kids others inside (agree_ls kids others (node_numbers inside) (node_numbers later) h.1) k.1,
  have_others kids others later (agree_rs kids others (node_numbers inside) (node_numbers later) h.1) k.2,
)

agree_inside : (n : ℕ) (inside later : Named) (own ns : List ℕ) → Apart n ns → Disjoint ns (node_numbers later) →
    Agree (kids_in inside) (λ q. if nat_eq q n then own else (kids_in inside q ++ kids_in later q)) ns
agree_inside n inside later own [] a d = tt
agree_inside n inside later own (m ∷ ns) a d = (kids_inside n m inside later own (λ e. a.0 (sym e)) d.0, agree_inside n inside later own ns a.1 d.1)

agree_later : (n : ℕ) (inside later : Named) (own ns : List ℕ) → Apart n ns → Disjoint ns (node_numbers inside) →
    Agree (kids_in later) (λ q. if nat_eq q n then own else (kids_in inside q ++ kids_in later q)) ns
agree_later n inside later own [] a d = tt
agree_later n inside later own (m ∷ ns) a d = (kids_later n m inside later own (λ e. a.0 (sym e)) d.0, agree_later n inside later own ns a.1 d.1)

agree_under : (root : ℕ) (f : Named) (ns : List ℕ) → Apart root ns → Agree (kids_in f) (kids_of root f) ns
agree_under root f [] a = tt
agree_under root f (n ∷ ns) a = (kids_other n root (heads f) (kids_in f n) (λ e. a.0 (sym e)), agree_under root f ns a.1)

have_kids : (f : Named) → AllApart (node_numbers f) → HaveKids (kids_in f) f
have_kids NoNode a = tt
have_kids (NamedRun n count later) a = (kids_apart later n a.0, have_kids later a.1)
have_kids (NamedBranch n kind inside later) a =
    let apart = disjoint_of (node_numbers inside) (node_numbers later) a.1 in (
      kids_own n (heads inside) (kids_in inside n ++ kids_in later n),
      have_others (kids_in inside) (kids_in (NamedBranch n kind inside later)) inside
          (agree_inside n inside later (heads inside) (node_numbers inside) (apart-ls n (node_numbers inside) (node_numbers later) a.0) apart)
          (have_kids inside (all-ls (node_numbers inside) (node_numbers later) a.1)),
      have_others (kids_in later) (kids_in (NamedBranch n kind inside later)) later
          (agree_later n inside later (heads inside) (node_numbers later) (apart-rs n (node_numbers inside) (node_numbers later) a.0) (disjoint-swap (node_numbers inside) (node_numbers later) apart))
          (have_kids later (all-rs (node_numbers inside) (node_numbers later) a.1)),
    )

are_labelled : (slots : Slots) (f : Named) → Shows slots f → AreLabelled slots f
are_labelled slots NoNode s = tt
are_labelled slots (NamedRun n count later) s = (record { sort_is = s.0.sort_is; len_is = s.0.len_is }, are_labelled slots later s.1)
are_labelled slots (NamedBranch n kind inside later) s =
    (record { sort_is = s.0.sort_is; len_is = s.0.len_is }, are_labelled slots inside s.1, are_labelled slots later s.2)

no_children : (slots : Slots) (q : ℕ) → slot_at slots q ≡ None → Children (links_of slots) q []
no_children slots q none = record { first = ap (link_in (λ node. node.first)) none; last = ap (link_in (λ node. node.last)) none; row = tt }

pub tree_fits : TreeFits
tree_fits slots root items tree = record {
  lawful = tree.lawful;
  is_tree = tree.is_tree;
  apart = tree.apart;
  top = kids_own root.0 (heads f) (kids_in f root.0);
  inside = have_others (kids_in f) (kids_of root.0 f) f (agree_under root.0 f (node_numbers f) tree.apart.0) (have_kids f tree.apart.1);
  fits = record { children = children; apart = distinct };
  labelled = are_labelled slots f tree.shown;
  root_labelled = record { sort_is = tree.root_shown.sort_is; len_is = tree.root_shown.len_is };
  root_alone = tree.root_alone;
  only = tree.only;
}
  where
    f : Named
    f = tree.named

    children : (q : ℕ) → Children (links_of slots) q (kids_of root.0 f q)
    children q =
        elim (same_or_not q root.0) [
          | inl same ↦ subst (λ m. Children (links_of slots) m (kids_of root.0 f m)) (sym same)
              (subst (Children (links_of slots) root.0) (sym (kids_own root.0 (heads f) (kids_in f root.0))) tree.root_shown.children)
          | inr ne ↦ subst (Children (links_of slots) q) (sym (kids_other q root.0 (heads f) (kids_in f q) ne))
              (elim (fit_in slots f q tree.apart.1 tree.shown) [
                | inl none ↦ subst (Children (links_of slots) q) (sym (kids_apart f q none)) (no_children slots q (tree.only q (ne, none)))
                | inr fits ↦ fits
              ])
        ]

    distinct : (q : ℕ) → AllApart (kids_of root.0 f q)
    distinct q =
        elim (same_or_not q root.0) [
          | inl same ↦ subst (λ m. AllApart (kids_of root.0 f m)) (sym same) (subst AllApart (sym (kids_own root.0 (heads f) (kids_in f root.0))) (all_heads f tree.apart.1))
          | inr ne ↦ subst AllApart (sym (kids_other q root.0 (heads f) (kids_in f q) ne)) (kids_distinct f q tree.apart.1)
        ]

-- from children lists to what is shown
is_shown : (slots : Slots) (kids : ℕ → List ℕ) (n : ℕ) (sort : NodeWhat) (len : ℕ) (own : List ℕ) → Fits (links_of slots) kids → IsLabelled slots n sort len → kids n ≡ own →
    IsShown slots n sort len own
is_shown slots kids n sort len own fits l e =
    record { sort_is = l.sort_is; len_is = l.len_is; children = subst (Children (links_of slots) n) e (fits.children n) }

shown_of : (slots : Slots) (kids : ℕ → List ℕ) (f : Named) → Fits (links_of slots) kids → AreLabelled slots f → HaveKids kids f → Shows slots f
shown_of slots kids NoNode fits l k = tt
shown_of slots kids (NamedRun n count later) fits l k = (is_shown slots kids n _ _ _ fits l.0 k.0, shown_of slots kids later fits l.1 k.1)
shown_of slots kids (NamedBranch n kind inside later) fits l k =
    (is_shown slots kids n _ _ _ fits l.0 k.0, shown_of slots kids inside fits l.1 k.1, shown_of slots kids later fits l.2 k.2)

pub fits_are_tree : FitsAreTree
fits_are_tree slots root items named kids t = record {
  lawful = t.lawful;
  named = named;
  is_tree = t.is_tree;
  apart = t.apart;
  shown = shown_of slots kids named t.fits t.labelled t.inside;
  root_shown = is_shown slots kids root.0 _ _ _ t.fits t.root_labelled t.top;
  root_alone = t.root_alone;
  only = t.only;
}
