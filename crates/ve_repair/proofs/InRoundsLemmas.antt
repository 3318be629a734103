-- From a listed node of a tree to the nodes that it stands in, and back; the sibling before a
-- position.
use Rattle.std.proofs.Common.{◌≡◌, ◌+◌, inl, inr, ℕ, suc, Option, Some, None, List, [], ◌∷◌, ◌++◌, Contains, option_map, refl, sym, ap, ◌∙◌, subst, arith}
use Rattle.std.proofs.lemmas.List.Elements.{Contains-append_cases, Contains-append_left, Contains-append_right}
use Rattle.ve_kinds.specs.declared.kind.Kind.{Kind}
use Rattle.model_items.specs.Tree.{item_count}
use Rattle.ve_arena.specs.declared.node.NodeId.{NodeId}
use Rattle.ve_arena.specs.declared.node.NodeWhat.TheVariants as what
use Rattle.ve_arena.specs.declared.node.ArenaNode.{ArenaNode}
use Rattle.ve_arena.specs.Arena.{slot_at, IsLive}
use Rattle.ve_tree.specs.Links.{number_of, link_in, links_of, last_or, AreSiblings}
use Rattle.ve_tree.specs.Named.{Named, NoNode, NamedRun, NamedBranch, unnumbered, heads}
use Rattle.ve_tree.specs.Places.{NodePlace, node_places}
use Rattle.ve_tree.specs.Rows.{beside, Round, within, parent_in, start_in}
use Rattle.ve_tree.proofs.RowLemmas.{count-beside}
use Rattle.ve_tree.proofs.WalkLemmas.{contains-here, contains-later}
use Rattle.ve_tree.proofs.ClimbLemmas.{contains_cases}
use Rattle.ve_tree.proofs.CutLemmas.{places_beside}
use Rattle.ve_tree.proofs.BesideLemmas.{heads-beside, shows_right}
use Rattle.ve_tree.proofs.FrameLemmas.{Framed}
use Rattle.ve_tree.proofs.NeighbourLemmas.{siblings_right}
use Rattle.ve_offsets.proofs.StateLemmas.{IsNext, is_next, shown_live}
use Rattle.ve_repair.proofs.CursorLemmas.{Slots, past-run, past-branch}

-- the row begins with the node
abbrev pub BeginsWith : Named → NodePlace → Type 0
BeginsWith NoNode y = ⊥
BeginsWith (NamedRun n count later) y = (y.number ≡ n) × (y.sort ≡ what.Run) × (y.to ≡ y.from + count)
BeginsWith (NamedBranch n kind inside later) y = (y.number ≡ n) × (y.sort ≡ what.Node kind) × (y.to ≡ y.from + (item_count (unnumbered inside) + 2))

-- the node stands in the forest after siblings, inside these nodes
pub record Stands (root : ℕ) (f : Named) (y : NodePlace) : Type 0 where
  pub round : List Round
  pub done : Named
  pub row : Named
  pub whole : f ≡ within round (beside done row)
  pub parent_is : y.parent ≡ Some (parent_in root round)
  pub from_is : y.from ≡ start_in round + item_count (unnumbered done)
  pub first_is : BeginsWith row y

stands_in : (root : ℕ) (rs : List Round) (done f : Named) (p at : ℕ) (y : NodePlace) → p ≡ parent_in root rs → at ≡ start_in rs + item_count (unnumbered done) → Contains (node_places p at f) y →
    Stands root (within rs (beside done f)) y
stands_in root rs done NoNode p at y above e c = absurd (omega (arith, c.1))
stands_in root rs done (NamedRun n count later) p at y above e c =
    let one = NamedRun n count NoNode in
    elim (contains_cases _ y (node_places p (at + count) later) c) [
      | inl same ↦ subst (Stands root (within rs (beside done (NamedRun n count later)))) same
          (record { round = rs; done = done; row = NamedRun n count later; whole = refl; parent_is = ap Some above; from_is = e; first_is = (refl, refl, refl) })
      | inr there ↦ subst (λ f. Stands root f y) (sym (past-run rs done n count later))
          (stands_in root rs (beside done one) later p (at + count) y above (omega (arith, e, count-beside done one)) there)
    ]
stands_in root rs done (NamedBranch n kind inside later) p at y above e c =
    let len = item_count (unnumbered inside) + 2 in
    let one = NamedBranch n kind inside NoNode in
    elim (contains_cases _ y (node_places n (suc at) inside ++ node_places p (at + len) later) c) [
      | inl same ↦ subst (Stands root (within rs (beside done (NamedBranch n kind inside later)))) same
          (record { round = rs; done = done; row = NamedBranch n kind inside later; whole = refl; parent_is = ap Some above; from_is = e; first_is = (refl, refl, refl) })
      | inr there ↦ elim (Contains-append_cases (node_places n (suc at) inside) (node_places p (at + len) later) y there) [
        | inl in_ ↦ stands_in root (record { number = n; kind = kind; before = done; after = later } ∷ rs) NoNode inside n (suc at) y refl (omega (arith, e)) in_
        | inr after_ ↦ subst (λ f. Stands root f y) (sym (past-branch rs done n kind inside later))
            (stands_in root rs (beside done one) later p (at + len) y above (omega (arith, e, count-beside done one)) after_)
      ]
    ]

pub stands : (root : ℕ) (f : Named) (y : NodePlace) → Contains (node_places root 0 f) y → Stands root f y
stands root f y c = stands_in root [] NoNode f root 0 y refl refl c

-- what stands inside nodes is listed, and so are they
listed_beside : (f g : Named) (p at : ℕ) (y : NodePlace) → Contains (node_places p (at + item_count (unnumbered f)) g) y → Contains (node_places p at (beside f g)) y
listed_beside f g p at y c =
    subst (λ all. Contains all y) (sym (places_beside f g p at)) (Contains-append_right (node_places p at f) (node_places p (at + item_count (unnumbered f)) g) y c)

listed_within : (root : ℕ) (rs : List Round) (x : Named) (y : NodePlace) → Contains (node_places (parent_in root rs) (start_in rs) x) y → Contains (node_places root 0 (within rs x)) y
listed_within root [] x y c = c
listed_within root (r ∷ rs) x y c =
    listed_within root rs (beside r.before (NamedBranch r.number r.kind x r.after)) y
    (listed_beside r.before (NamedBranch r.number r.kind x r.after) (parent_in root rs) (start_in rs) y
    (contains-later _ y _ (Contains-append_left (node_places r.number (start_in (r ∷ rs)) x) _ y c)))

abbrev pub place_of : ℕ → Round → List Round → Named → NodePlace
place_of root r rs x =
    let from = start_in rs + item_count (unnumbered r.before) in
    record { number = r.number; parent = Some (parent_in root rs); sort = what.Node r.kind; from = from; to = from + (item_count (unnumbered x) + 2) }

pub round_listed : (root : ℕ) (r : Round) (rs : List Round) (x : Named) → Contains (node_places root 0 (within (r ∷ rs) x)) (place_of root r rs x)
round_listed root r rs x =
    listed_within root rs (beside r.before (NamedBranch r.number r.kind x r.after)) _ (listed_beside r.before (NamedBranch r.number r.kind x r.after) (parent_in root rs) (start_in rs) _ (contains-here _ _))

-- siblings from a position on
pub siblings_at : (slots : Slots) (root : ℕ) (rs : List Round) (done row : Named) (n : ℕ) (later : List ℕ) → Framed slots root rs (beside done row) → heads row ≡ n ∷ later →
    AreSiblings (links_of slots).parent (links_of slots).before (links_of slots).after (parent_in root rs) (last_or None (heads done)) (n ∷ later) None
siblings_at slots root rs done row n later f e =
    siblings_right (links_of slots).parent (links_of slots).before (links_of slots).after (parent_in root rs) None (heads done) (n ∷ later) None
    (subst (λ ns. AreSiblings (links_of slots).parent (links_of slots).before (links_of slots).after (parent_in root rs) None ns None)
    (heads-beside done row ∙ ap (λ l. heads done ++ l) e) f.inner.children.row)

-- the first node of a row, under its number
pub record FirstNode (node : ArenaNode) (y : NodePlace) (done : Named) : Type 0 where
  pub sort_is : node.what ≡ y.sort
  pub len_is : y.from + node.len ≡ y.to
  pub before_is : option_map number_of node.before ≡ last_or None (heads done)

before_link : (slots : Slots) (n : ℕ) (node : ArenaNode) (before : Option ℕ) → slot_at slots n ≡ Some node → (links_of slots).before n ≡ before → option_map number_of node.before ≡ before
before_link slots n node before here h = sym (ap (link_in (λ node. node.before)) here) ∙ h

pub first_node : (slots : Slots) (root : ℕ) (rs : List Round) (done row : Named) (y : NodePlace) (child : NodeId) (node : ArenaNode) → Framed slots root rs (beside done row) → BeginsWith row y → y.number ≡ child.0 →
    slot_at slots child.0 ≡ Some node → FirstNode node y done
first_node slots root rs done NoNode y child node f first number here = absurd first
first_node slots root rs done (NamedRun n count later) y child node f first number here =
    let k : IsNext slots node n what.Run count = is_next slots child node n _ _ _ here (sym number ∙ first.0) (shows_right slots done (NamedRun n count later) f.row).0 in
    record {
      sort_is = k.sort_is ∙ sym first.1;
      len_is = omega (arith, k.len_is, first.2);
      before_is = before_link slots n node _ k.here (siblings_at slots root rs done (NamedRun n count later) n (heads later) f refl).1;
    }
first_node slots root rs done (NamedBranch n kind inside later) y child node f first number here =
    let k : IsNext slots node n (what.Node kind) (item_count (unnumbered inside) + 2) =
    is_next slots child node n _ _ _ here (sym number ∙ first.0) (shows_right slots done (NamedBranch n kind inside later) f.row).0 in
    record {
      sort_is = k.sort_is ∙ sym first.1;
      len_is = omega (arith, k.len_is, first.2);
      before_is = before_link slots n node _ k.here (siblings_at slots root rs done (NamedBranch n kind inside later) n (heads later) f refl).1;
    }

pub first_live : (slots : Slots) (root : ℕ) (rs : List Round) (done row : Named) (y : NodePlace) (child : NodeId) → Framed slots root rs (beside done row) → BeginsWith row y → y.number ≡ child.0 → IsLive slots child
first_live slots root rs done NoNode y child f first number = absurd first
first_live slots root rs done (NamedRun n count later) y child f first number = shown_live slots child n _ _ _ (sym number ∙ first.0) (shows_right slots done (NamedRun n count later) f.row).0
first_live slots root rs done (NamedBranch n kind inside later) y child f first number =
    shown_live slots child n _ _ _ (sym number ∙ first.0) (shows_right slots done (NamedBranch n kind inside later) f.row).0

-- how siblings end
pub data Ending (f : Named) : Type 0 where
  no_sibling : f ≡ NoNode → Ending f
  with_run : (left : Named) (n count : ℕ) → f ≡ beside left (NamedRun n count NoNode) → Ending f
  with_branch : (left : Named) (n : ℕ) (kind : Kind) (inside : Named) → f ≡ beside left (NamedBranch n kind inside NoNode) → Ending f

pub ending : (f : Named) → Ending f
ending NoNode = no_sibling refl
ending (NamedRun n count later) = go (ending later)
  where
    go : Ending later → Ending (NamedRun n count later)
    go (no_sibling e) = with_run NoNode n count (ap (NamedRun n count) e)
    go (with_run left m c e) = with_run (NamedRun n count left) m c (ap (NamedRun n count) e)
    go (with_branch left m k in_ e) = with_branch (NamedRun n count left) m k in_ (ap (NamedRun n count) e)
ending (NamedBranch n kind inside later) = go (ending later)
  where
    go : Ending later → Ending (NamedBranch n kind inside later)
    go (no_sibling e) = with_branch NoNode n kind inside (ap (NamedBranch n kind inside) e)
    go (with_run left m c e) = with_run (NamedBranch n kind inside left) m c (ap (NamedBranch n kind inside) e)
    go (with_branch left m k in_ e) = with_branch (NamedBranch n kind inside left) m k in_ (ap (NamedBranch n kind inside) e)
