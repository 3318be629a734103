-- The tokens of a forest give its nodes the children that they have in it.
use Rattle.std.proofs.Common.{◌≡◌, ◌≢◌, ℕ, List, [], ◌∷◌, ◌++◌, drop, refl, sym, ap, ◌∙◌, subst, append-nil, append_assoc}
use Rattle.ve_kinds.specs.declared.kind.Kind.{Kind}
use Rattle.ve_tree.specs.Links.{Apart, AllApart}
use Rattle.ve_repair.specs.Work.{with_list, inner}
use Rattle.ve_repair.specs.Tokens.{Begin, Letters, End, Grown, grown, grown_by, none, start}
use Rattle.ve_repair.proofs.RelinkLemmas.{all-ls, all-rs, all-without, first-apart, apart-ls, apart-rs}
use Rattle.ve_repair.proofs.WorkLemmas.{with_list-here, with_list-there}
use Rattle.ve_repair.proofs.TokenLemmas.{grown-append, apart-with}
use Rattle.ve_repair.proofs.FreeLemmas.{AllGone}
use Rattle.ve_repair.specs.Spelled.{AllFrom}
use Rattle.ve_tree.specs.Named.{Named, NoNode, NamedRun, NamedBranch, heads, node_numbers}
use Rattle.ve_repair.specs.Tokens.{tokens}
use Rattle.ve_tree.specs.Fits.{HaveKids}

abbrev pub Same : (ℕ → List ℕ) → (ℕ → List ℕ) → List ℕ → Type 0
Same k' k [] = Unit {0}
Same k' k (n ∷ ns) = (k' n ≡ k n) × Same k' k ns

abbrev Disjoint : List ℕ → List ℕ → Type 0
Disjoint [] ys = Unit {0}
Disjoint (x ∷ xs) ys = Apart x ys × Disjoint xs ys

disjoint : (xs ys : List ℕ) → AllApart (xs ++ ys) → Disjoint xs ys
disjoint [] ys h = tt
disjoint (x ∷ xs) ys h = (apart-rs x xs ys h.0, disjoint xs ys h.1)

disjoint-back : (xs ys : List ℕ) → AllApart (xs ++ ys) → Disjoint ys xs
disjoint-back xs [] h = tt
disjoint-back xs (y ∷ ys) h = (first-apart xs y ys h, disjoint-back xs ys (all-without xs y ys h))

same-trans : (k'' k' k : ℕ → List ℕ) (ns : List ℕ) → Same k'' k' ns → Same k' k ns → Same k'' k ns
same-trans k'' k' k [] h g = tt
same-trans k'' k' k (n ∷ ns) h g = (h.0 ∙ g.0, same-trans k'' k' k ns h.1 g.1)

same-ls : (k' k : ℕ → List ℕ) (xs ys : List ℕ) → Same k' k (xs ++ ys) → Same k' k xs
same-ls k' k [] ys h = tt
same-ls k' k (x ∷ xs) ys h = (h.0, same-ls k' k xs ys h.1)

same-rs : (k' k : ℕ → List ℕ) (xs ys : List ℕ) → Same k' k (xs ++ ys) → Same k' k ys
same-rs k' k [] ys h = h
same-rs k' k (x ∷ xs) ys h = same-rs k' k xs ys h.1

-- what changes at p alone, or at p and a list of nodes, is the same elsewhere
same-apart : (k' k : ℕ → List ℕ) (p : ℕ) (ms ns : List ℕ) → ((q : ℕ) → p ≢ q → Apart q ms → k' q ≡ k q) → Apart p ns → Disjoint ns ms → Same k' k ns
same-apart k' k p ms [] h a d = tt
same-apart k' k p ms (n ∷ ns) h a d = (h n a.0 d.0, same-apart k' k p ms ns h a.1 d.1)

disjoint-none : (ns : List ℕ) → Disjoint ns []
disjoint-none [] = tt
disjoint-none (n ∷ ns) = (tt, disjoint-none ns)

shows-same : (k' k : ℕ → List ℕ) (f : Named) → Same k' k (node_numbers f) → HaveKids k f → HaveKids k' f
shows-same k' k NoNode s h = tt
shows-same k' k (NamedRun n count later) s h = (s.0 ∙ h.0, shows-same k' k later s.1 h.1)
shows-same k' k (NamedBranch n kind inside later) s h = (
  s.0 ∙ h.0,
  shows-same k' k inside (same-ls k' k (node_numbers inside) (node_numbers later) s.1) h.1,
  shows-same k' k later (same-rs k' k (node_numbers inside) (node_numbers later) s.1) h.2,
)

pub record Gives (f : Named) (p : ℕ) (stack : List ℕ) (kids : ℕ → List ℕ) (g : Grown) : Type 0 where
  pub stack_is : g.stack ≡ p ∷ stack
  pub top : g.kids p ≡ kids p ++ heads f
  pub others : (q : ℕ) → p ≢ q → Apart q (node_numbers f) → g.kids q ≡ kids q
  pub shows : HaveKids g.kids f

abbrev pub GivesAll : Named → Type 0
GivesAll f = (p : ℕ) (stack : List ℕ) (kids : ℕ → List ℕ) → Apart p (node_numbers f) → AllApart (node_numbers f) → Same kids none (node_numbers f) →
    Gives f p stack kids (grown (tokens f) (record { stack = p ∷ stack; kids = kids }))

gives_branch : (n : ℕ) (kind : Kind) (inside later : Named) → GivesAll inside → GivesAll later → GivesAll (NamedBranch n kind inside later)
gives_branch n kind inside later gives_inside gives_later p stack kids a all clear =
    subst (λ g. Gives (NamedBranch n kind inside later) p stack kids g) (sym whole_is) result
  where
    k1 : ℕ → List ℕ
    k1 = with_list kids p (kids p ++ n ∷ [])

    there : (q : ℕ) → p ≢ q → Apart q [] → k1 q ≡ kids q
    there q h _ = with_list-there kids p (kids p ++ n ∷ []) q h

    a_inside : Apart p (node_numbers inside)
    a_inside = apart-ls p (node_numbers inside) (node_numbers later) a.1

    a_later : Apart p (node_numbers later)
    a_later = apart-rs p (node_numbers inside) (node_numbers later) a.1

    n_inside : Apart n (node_numbers inside)
    n_inside = apart-ls n (node_numbers inside) (node_numbers later) all.0

    n_later : Apart n (node_numbers later)
    n_later = apart-rs n (node_numbers inside) (node_numbers later) all.0

    g1 : Grown
    g1 = grown (tokens inside) (record { stack = n ∷ p ∷ stack; kids = k1 })

    first : Gives inside n (p ∷ stack) k1 g1
    first = gives_inside n (p ∷ stack) k1 n_inside (all-ls (node_numbers inside) (node_numbers later) all.1)
        (same-trans k1 kids none (node_numbers inside) (same-apart k1 kids p [] (node_numbers inside) there a_inside (disjoint-none (node_numbers inside)))
        (same-ls kids none (node_numbers inside) (node_numbers later) clear.1))

    clear_later : Same g1.kids none (node_numbers later)
    clear_later =
        same-trans g1.kids k1 none (node_numbers later) (same-apart g1.kids k1 n (node_numbers inside) (node_numbers later) first.others n_later (disjoint-back (node_numbers inside) (node_numbers later) all.1))
        (same-trans k1 kids none (node_numbers later) (same-apart k1 kids p [] (node_numbers later) there a_later (disjoint-none (node_numbers later)))
        (same-rs kids none (node_numbers inside) (node_numbers later) clear.1))

    g2 : Grown
    g2 = grown (tokens later) (record { stack = p ∷ stack; kids = g1.kids })

    second : Gives later p stack g1.kids g2
    second = gives_later p stack g1.kids a_later (all-rs (node_numbers inside) (node_numbers later) all.1) clear_later

    whole_is : grown (tokens (NamedBranch n kind inside later)) (record { stack = p ∷ stack; kids = kids }) ≡ g2
    whole_is = grown-append (tokens inside) (End ∷ tokens later) (record { stack = n ∷ p ∷ stack; kids = k1 })
        ∙ ap (λ (s : List ℕ). grown (tokens later) (record { stack = drop 1 s; kids = g1.kids })) first.stack_is

    n_not_p : n ≢ p
    n_not_p e = a.0 (sym e)

    result : Gives (NamedBranch n kind inside later) p stack kids g2
    result = record {
      stack_is = second.stack_is;
      top = second.top
          ∙ ap (λ l. l ++ heads later) (first.others p n_not_p a_inside ∙ with_list-here kids p (kids p ++ n ∷ []))
          ∙ append_assoc (kids p) (n ∷ []) (heads later);
      others = λ q h ap_.
          second.others q h (apart-rs q (node_numbers inside) (node_numbers later) ap_.1)
          ∙ first.others q (λ e. ap_.0 (sym e)) (apart-ls q (node_numbers inside) (node_numbers later) ap_.1)
          ∙ there q h tt;
      shows = (
        second.others n a.0 n_later ∙ first.top ∙ ap (λ l. l ++ heads inside) (there n a.0 tt ∙ clear.0),
        shows-same g2.kids g1.kids inside
            (same-apart g2.kids g1.kids p (node_numbers later) (node_numbers inside) second.others a_inside (disjoint (node_numbers inside) (node_numbers later) all.1)) first.shows,
        second.shows,
      );
    }

pub gives : (f : Named) → GivesAll f
gives NoNode p stack kids a all clear =
    record { stack_is = refl; top = sym (append-nil (kids p)); others = λ q h a. refl; shows = tt }
gives (NamedRun n count later) p stack kids a all clear =
    let k1 : ℕ → List ℕ = with_list kids p (kids p ++ n ∷ []) in
    let there : (q : ℕ) → p ≢ q → Apart q [] → k1 q ≡ kids q = λ q h _. with_list-there kids p (kids p ++ n ∷ []) q h in
    let g = gives later p stack k1 a.1 all.1 (same-trans k1 kids none (node_numbers later) (same-apart k1 kids p [] (node_numbers later) there a.1 (disjoint-none (node_numbers later))) clear.1) in
    record {
      stack_is = g.stack_is;
      top = g.top ∙ ap (λ l. l ++ heads later) (with_list-here kids p (kids p ++ n ∷ [])) ∙ append_assoc (kids p) (n ∷ []) (heads later);
      others = λ q h ap_. g.others q h ap_.1 ∙ there q h tt;
      shows = (g.others n a.0 all.0 ∙ there n a.0 tt ∙ clear.0, g.shows);
    }
gives (NamedBranch n kind inside later) p stack kids a all clear =
    gives_branch n kind inside later (gives inside) (gives later) p stack kids a all clear

none-same : (ns : List ℕ) → Same none none ns
none-same [] = tt
none-same (n ∷ ns) = (refl, none-same ns)

-- a whole forest under the root
pub grown_shows : (root : ℕ) (f : Named) → AllApart (root ∷ node_numbers f) →
    ((grown (tokens f) (start root)).kids root ≡ heads f) × HaveKids (grown (tokens f) (start root)).kids f
grown_shows root f all =
    let g = gives f root [] none all.0 all.1 (none-same (node_numbers f)) in
    (g.top, g.shows)

-- a node that isn't in the forest has no children, and is nobody's
pub absent : (f : Named) (g : Grown) (n : ℕ) → Apart n (node_numbers f) → ((q : ℕ) → Apart n (g.kids q)) → (q : ℕ) → Apart n ((grown (tokens f) g).kids q)
absent NoNode g n h all q = all q
absent (NamedRun m count later) g n h all q = absent later (grown_by (Letters m) g) n h.1 (apart-with n m g.kids (inner g.stack) h.0 all) q
absent (NamedBranch m kind inside later) g n h all q =
    let g1 = grown_by (Begin m) g in
    subst (λ (k : Grown). Apart n (k.kids q)) (sym (grown-append (tokens inside) (End ∷ tokens later) g1))
    (absent later (grown_by End (grown (tokens inside) g1)) n (apart-rs n (node_numbers inside) (node_numbers later) h.1)
    (absent inside g1 n (apart-ls n (node_numbers inside) (node_numbers later) h.1) (apart-with n m g.kids (inner g.stack) h.0 all)) q)

-- and has none
pub kids_absent : (root : ℕ) (f : Named) → AllApart (root ∷ node_numbers f) → (q : ℕ) → root ≢ q → Apart q (node_numbers f) → (grown (tokens f) (start root)).kids q ≡ []
kids_absent root f all q ne h = (gives f root [] none all.0 all.1 (none-same (node_numbers f))).others q ne h

pub all_gone : (root : ℕ) (f : Named) → AllApart (root ∷ node_numbers f) → (ns : List ℕ) → AllFrom ns (root ∷ node_numbers f) → AllGone ns (grown (tokens f) (start root)).kids
all_gone root f all [] h = tt
all_gone root f all (n ∷ ns) h = (
  (gives f root [] none all.0 all.1 (none-same (node_numbers f))).others n (λ e. h.0.0 (sym e)) h.0.1,
  absent f (start root) n h.0.1 (λ q. tt),
  all_gone root f all ns h.1,
)
