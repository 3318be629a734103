-- The forest read from links has no number twice, so it is a tree.
use Rattle.std.proofs.Common.{◌≡◌, ◌≢◌, ◌≤◌, ◌<◌, ◌⊎◌, inl, inr, ℕ, Option, Some, None, List, [], ◌∷◌, ◌++◌, refl, sym, ap, ◌∙◌, subst, arith}
use Rattle.model_items.specs.declared.plain_item.PlainItem.{PlainItem}
use Rattle.model_items.specs.Tree.{node_count}
use Rattle.ve_arena.specs.declared.node.NodeId.{NodeId}
use Rattle.ve_tree.specs.Links.{links_of, first_or, last_or, AreSiblings, Apart, AllApart}
use Rattle.ve_tree.specs.Named.{Named, NoNode, NamedRun, NamedBranch, unnumbered, heads, node_numbers, Shows}
use Rattle.ve_tree.specs.Reads.{IsRead, IsTreeRead, ReadIsTree}
use Rattle.ve_tree.proofs.GrownLemmas.{Slots, apart-ls, apart-rs, apart-join, Disjoint, all-join}
use Rattle.ve_tree.proofs.FitsLemmas.{same_or_not}
use Rattle.ve_tree.proofs.ReadsLemmas.{last_or-cons, one_number, one_is_read}

-- the number is one of the list
abbrev In : ℕ → List ℕ → Type 0
In n [] = ⊥
In n (m ∷ ms) = (n ≡ m) ⊎ In n ms

apart_unless : (n : ℕ) (ms : List ℕ) → (In n ms → ⊥) → Apart n ms
apart_unless n [] h = tt
apart_unless n (m ∷ ms) h =
    elim (same_or_not n m) [
      | inl same ↦ absurd (h (inl same))
      | inr ne ↦ (ne, apart_unless n ms (λ i. h (inr i)))
    ]

not_in : (n : ℕ) (ms : List ℕ) → Apart n ms → In n ms → ⊥
not_in n [] a i = i
not_in n (m ∷ ms) a i = elim i [ inl same ↦ a.0 same | inr more ↦ not_in n ms a.1 more ]

in_append : (n : ℕ) (ls rs : List ℕ) → In n (ls ++ rs) → In n ls ⊎ In n rs
in_append n [] rs i = inr i
in_append n (m ∷ ls) rs i =
    elim i [
      | inl same ↦ inl (inl same)
      | inr more ↦ elim (in_append n ls rs more) [ inl left ↦ inl (inr left) | inr right ↦ inr right ]
    ]

in_left : (n : ℕ) (ls rs : List ℕ) → In n ls → In n (ls ++ rs)
in_left n [] rs i = absurd i
in_left n (m ∷ ls) rs i = elim i [ inl same ↦ inl same | inr more ↦ inr (in_left n ls rs more) ]

in_right : (n : ℕ) (ls rs : List ℕ) → In n rs → In n (ls ++ rs)
in_right n [] rs i = i
in_right n (m ∷ ls) rs i = inr (in_right n ls rs i)

pub disjoint_append : (ls rs ms : List ℕ) → Disjoint ls ms → Disjoint rs ms → Disjoint (ls ++ rs) ms
disjoint_append [] rs ms l r = r
disjoint_append (n ∷ ls) rs ms l r = (l.0, disjoint_append ls rs ms l.1 r)

-- a node's parent is p, or one of these
abbrev ParentIn : Slots → ℕ → List ℕ → ℕ → Type 0
ParentIn slots p ms x = ((links_of slots).parent x ≡ Some p) ⊎ ((y : ℕ) × In y ms × ((links_of slots).parent x ≡ Some y))

parent_of : (slots : Slots) (x n p : ℕ) → x ≡ n → (links_of slots).parent n ≡ Some p → (links_of slots).parent x ≡ Some p
parent_of slots x n p e h = ap (links_of slots).parent e ∙ h

parents_in : (slots : Slots) (f : Named) (p : ℕ) (before here : Option ℕ) → IsRead slots p before here f → (x : ℕ) → In x (node_numbers f) → ParentIn slots p (node_numbers f) x
parents_in slots NoNode p before here r x i = absurd i
parents_in slots (NamedRun n count later) p before here r x i =
    elim i [
      | inl same ↦ inl (parent_of slots x n p same r.1.parent_is)
      | inr more ↦ elim (parents_in slots later p (Some n) _ r.3 x more) [
        | inl top ↦ inl top
        | inr below ↦ inr (below.0, inr below.1, below.2)
      ]
    ]
parents_in slots (NamedBranch n kind inside later) p before here r x i =
    elim i [
      | inl same ↦ inl (parent_of slots x n p same r.1.parent_is)
      | inr more ↦ elim (in_append x (node_numbers inside) (node_numbers later) more) [
        | inl in_ ↦ elim (parents_in slots inside n None _ r.2 x in_) [
          | inl top ↦ inr (n, inl refl, top)
          | inr below ↦ inr (below.0, inr (in_left below.0 (node_numbers inside) (node_numbers later) below.1), below.2)
        ]
        | inr after_ ↦ elim (parents_in slots later p (Some n) _ r.3 x after_) [
          | inl top ↦ inl top
          | inr below ↦ inr (below.0, inr (in_right below.0 (node_numbers inside) (node_numbers later) below.1), below.2)
        ]
      ]
    ]

-- what is read from a node of a forest on
record Suffix (slots : Slots) (x most : ℕ) : Type 0 where
  forest : Named
  p : ℕ
  before : Option ℕ
  read : IsRead slots p before (Some x) forest
  parent_is : (links_of slots).parent x ≡ Some p
  before_is : (links_of slots).before x ≡ before
  small : node_count (unnumbered forest) ≤ most

wider : (slots : Slots) (x most more : ℕ) → most ≤ more → Suffix slots x most → Suffix slots x more
wider slots x most more h s =
    record { forest = s.forest; p = s.p; before = s.before; read = s.read; parent_is = s.parent_is; before_is = s.before_is; small = omega (arith, s.small, h) }

suffix_at : (slots : Slots) (f : Named) (p : ℕ) (before here : Option ℕ) → IsRead slots p before here f → (x : ℕ) → In x (node_numbers f) → Suffix slots x (node_count (unnumbered f))
suffix_at slots NoNode p before here r x i = absurd i
suffix_at slots (NamedRun n count later) p before here r x i =
    elim i [
      | inl same ↦ record {
        forest = NamedRun n count later;
        p = p;
        before = before;
        read = (ap (λ (m : ℕ). Some m) same, r.1, r.2, r.3);
        parent_is = ap (links_of slots).parent same ∙ r.1.parent_is;
        before_is = ap (links_of slots).before same ∙ r.1.before_is;
        small = omega arith;
      }
      | inr more ↦ wider slots x _ _ (omega arith) (suffix_at slots later p (Some n) _ r.3 x more)
    ]
suffix_at slots (NamedBranch n kind inside later) p before here r x i =
    elim i [
      | inl same ↦ record {
        forest = NamedBranch n kind inside later;
        p = p;
        before = before;
        read = (ap (λ (m : ℕ). Some m) same, r.1, r.2, r.3);
        parent_is = ap (links_of slots).parent same ∙ r.1.parent_is;
        before_is = ap (links_of slots).before same ∙ r.1.before_is;
        small = omega arith;
      }
      | inr more ↦ elim (in_append x (node_numbers inside) (node_numbers later) more) [
        | inl in_ ↦ wider slots x _ _ (omega arith) (suffix_at slots inside n None _ r.2 x in_)
        | inr after_ ↦ wider slots x _ _ (omega arith) (suffix_at slots later p (Some n) _ r.3 x after_)
      ]
    ]

-- from one node on one forest is read, so a smaller one isn't
not_smaller : (slots : Slots) (f : Named) (n p most : ℕ) (before : Option ℕ) → IsRead slots p before (Some n) f → (links_of slots).parent n ≡ Some p → (links_of slots).before n ≡ before →
    most < node_count (unnumbered f) → Suffix slots n most → ⊥
not_smaller slots f n p most before read parent_is before_is less s =
    let above = one_number _ s.p p s.parent_is parent_is in
    let beside = sym s.before_is ∙ before_is in
    let other = subst (λ p. IsRead slots p before (Some n) s.forest) above (subst (λ b. IsRead slots s.p b (Some n) s.forest) beside s.read) in
    let same = one_is_read slots p before (Some n) f s.forest read other in
    let size : node_count (unnumbered f) ≡ node_count (unnumbered s.forest) = ap (λ f. node_count (unnumbered f)) same in
    no_less most (node_count (unnumbered f)) (node_count (unnumbered s.forest)) less size s.small
  where
    no_less : (m a b : ℕ) → m < a → a ≡ b → b ≤ m → ⊥
    no_less m a b h e k = omega (arith, h, e, k)

-- a node under q is none of some nodes that stand under p
not_among : (slots : Slots) (n q p : ℕ) (ms : List ℕ) → (links_of slots).parent n ≡ Some q → ParentIn slots p ms n → Apart q ms → q ≢ p → ⊥
not_among slots n q p ms own h a ne =
    elim h [
      | inl top ↦ ne (one_number _ q p own top)
      | inr below ↦ not_in q ms a (subst (λ m. In m ms) (one_number _ below.0 q below.2 own) below.1)
    ]

apart_under : (slots : Slots) (g : Named) (q p : ℕ) (before here : Option ℕ) (ms : List ℕ) → IsRead slots q before here g → ((x : ℕ) → In x ms → ParentIn slots p ms x) →
    Apart q ms → q ≢ p → Apart p (node_numbers g) → Disjoint (node_numbers g) ms
apart_under slots NoNode q p before here ms r closed a ne b = tt
apart_under slots (NamedRun n count later) q p before here ms r closed a ne b =
    (apart_unless n ms (λ i. not_among slots n q p ms r.1.parent_is (closed n i) a ne), apart_under slots later q p (Some n) _ ms r.3 closed a ne b.1)
apart_under slots (NamedBranch n kind inside later) q p before here ms r closed a ne b =
    let here_ = apart_unless n ms (λ i. not_among slots n q p ms r.1.parent_is (closed n i) a ne) in (
      here_,
      disjoint_append (node_numbers inside) (node_numbers later) ms
          (apart_under slots inside n p None _ ms r.2 closed here_ (λ e. b.0 (sym e)) (apart-ls p (node_numbers inside) (node_numbers later) b.1))
          (apart_under slots later q p (Some n) _ ms r.3 closed a ne (apart-rs p (node_numbers inside) (node_numbers later) b.1)),
    )

all_distinct : (slots : Slots) (f : Named) (p : ℕ) (before here : Option ℕ) → IsRead slots p before here f → Apart p (node_numbers f) → AllApart (node_numbers f)
all_distinct slots NoNode p before here r a = tt
all_distinct slots (NamedRun n count later) p before here r a = (
  apart_unless n (node_numbers later) (λ i. not_smaller slots (NamedRun n count later) n p _ before (refl, r.1, r.2, r.3) r.1.parent_is r.1.before_is (omega arith) (suffix_at slots later p (Some n) _ r.3 n i)),
  all_distinct slots later p (Some n) _ r.3 a.1,
)
all_distinct slots (NamedBranch n kind inside later) p before here r a =
    let own : IsRead slots p before (Some n) (NamedBranch n kind inside later) = (refl, r.1, r.2, r.3) in
    let in_ = apart_unless n (node_numbers inside)
    (λ i. not_smaller slots (NamedBranch n kind inside later) n p _ before own r.1.parent_is r.1.before_is (omega arith) (suffix_at slots inside n None _ r.2 n i)) in
    let after_ = apart_unless n (node_numbers later)
    (λ i. not_smaller slots (NamedBranch n kind inside later) n p _ before own r.1.parent_is r.1.before_is (omega arith) (suffix_at slots later p (Some n) _ r.3 n i)) in (
      apart-join n (node_numbers inside) (node_numbers later) in_ after_,
      all-join (node_numbers inside) (node_numbers later)
          (all_distinct slots inside n None _ r.2 in_)
          (all_distinct slots later p (Some n) _ r.3 (apart-rs p (node_numbers inside) (node_numbers later) a.1))
          (apart_under slots inside n p None _ (node_numbers later) r.2 (parents_in slots later p (Some n) _ r.3) after_ (λ e. a.0 (sym e)) (apart-ls p (node_numbers inside) (node_numbers later) a.1)),
    )

-- siblings that are read are linked
record AreLinked (slots : Slots) (p : ℕ) (before here : Option ℕ) (f : Named) : Type 0 where
  here_is : here ≡ first_or (heads f) None
  row : AreSiblings (links_of slots).parent (links_of slots).before (links_of slots).after p before (heads f) None
  last_is : (links_of slots).last p ≡ last_or before (heads f)
  shown : Shows slots f

are_linked : (slots : Slots) (f : Named) (p : ℕ) (before here : Option ℕ) → IsRead slots p before here f → AreLinked slots p before here f
are_linked slots NoNode p before here r = record { here_is = r.0; row = tt; last_is = r.1; shown = tt }
are_linked slots (NamedRun n count later) p before here r =
    let rest = are_linked slots later p (Some n) _ r.3 in
    record {
      here_is = r.0;
      row = (r.1.parent_is, r.1.before_is, rest.here_is, rest.row);
      last_is = rest.last_is ∙ sym (last_or-cons before n (heads later));
      shown = (record { sort_is = r.1.sort_is; len_is = r.1.len_is; children = record { first = r.2.0; last = r.2.1; row = tt } }, rest.shown);
    }
are_linked slots (NamedBranch n kind inside later) p before here r =
    let in_ = are_linked slots inside n None _ r.2 in
    let rest = are_linked slots later p (Some n) _ r.3 in
    record {
      here_is = r.0;
      row = (r.1.parent_is, r.1.before_is, rest.here_is, rest.row);
      last_is = rest.last_is ∙ sym (last_or-cons before n (heads later));
      shown = (record { sort_is = r.1.sort_is; len_is = r.1.len_is; children = record { first = in_.here_is; last = in_.last_is; row = in_.row } }, in_.shown, rest.shown);
    }

-- the root and what is read under it
pub read_apart : (slots : Slots) (root : NodeId) (items : List PlainItem) (f : Named) → IsTreeRead slots root items f → AllApart (root.0 ∷ node_numbers f)
read_apart slots root items f t = let apart_root = apart_unless root.0 (node_numbers f) (λ i. has_none (parents_in slots f root.0 None _ t.read root.0 i)) in (apart_root, all_distinct slots f root.0 None _ t.read apart_root)
  where
    none_is : (y : ℕ) → (links_of slots).parent root.0 ≡ Some y → ⊥
    none_is y e = let bad : ◌≡◌ {A = Option ℕ} None (Some y) = sym t.root_alone.no_parent ∙ e in cc

    has_none : ParentIn slots root.0 (node_numbers f) root.0 → ⊥
    has_none h = elim h [ inl top ↦ none_is root.0 top | inr below ↦ none_is below.0 below.2 ]

pub read_is_tree : ReadIsTree
read_is_tree slots root items f t =
    let linked = are_linked slots f root.0 None _ t.read in
    record {
      lawful = t.lawful;
      named = f;
      is_tree = t.is_tree;
      apart = read_apart slots root items f t;
      shown = linked.shown;
      root_shown = record {
        sort_is = t.root_labelled.sort_is;
        len_is = t.root_labelled.len_is;
        children = record { first = linked.here_is; last = linked.last_is; row = linked.row };
      };
      root_alone = t.root_alone;
      only = t.only;
    }
