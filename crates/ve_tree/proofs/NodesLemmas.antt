-- In a tree the links lead to nodes, and the nodes are the tree's.
use Rattle.std.proofs.Common.{◌≡◌, ◌≢◌, ◌⊎◌, inl, inr, ℕ, suc, ◌+◌, Option, Some, None, IsSome, List, [], ◌∷◌, ◌++◌, option_map, sym, ap, ◌∙◌, subst, Contains}
use Rattle.std.proofs.lemmas.List.Elements.{Contains-append_left, Contains-append_right}
use Rattle.model_items.specs.Tree.{item_count}
use Rattle.ve_arena.specs.declared.node.NodeId.{NodeId}
use Rattle.ve_arena.specs.declared.node.ArenaNode.{ArenaNode}
use Rattle.ve_arena.specs.Arena.{slot_at}
use Rattle.ve_tree.specs.Links.{number_of, link_in, links_of, first_or, last_of, last_or, AreSiblings, Apart}
use Rattle.ve_tree.specs.Named.{Named, NoNode, NamedRun, NamedBranch, unnumbered, heads, node_numbers, Shows}
use Rattle.ve_tree.specs.Places.{NodePlace, node_places}
use Rattle.ve_tree.specs.Nodes.{LeadsToNode, LinksLead, LinksLeadToNodes, NodesAreInTree}
use Rattle.ve_tree.proofs.GrownLemmas.{apart-join}
use Rattle.ve_tree.proofs.FitsLemmas.{same_or_not}
use Rattle.ve_tree.proofs.WalkLemmas.{Slots, shown_live, contains-here, contains-later}

leads : (slots : Slots) (link to : Option ℕ) → link ≡ to → LeadsToNode slots to → LeadsToNode slots link
leads slots link to e h = subst (LeadsToNode slots) (sym e) h

-- all of these have nodes
abbrev AllLive : Slots → List ℕ → Type 0
AllLive slots [] = Unit {0}
AllLive slots (n ∷ ns) = IsSome (slot_at slots n) × AllLive slots ns

heads_live : (slots : Slots) (f : Named) → Shows slots f → AllLive slots (heads f)
heads_live slots NoNode s = tt
heads_live slots (NamedRun n count later) s = (shown_live slots n _ _ _ s.0, heads_live slots later s.1)
heads_live slots (NamedBranch n kind inside later) s = (shown_live slots n _ _ _ s.0, heads_live slots later s.2)

first_live : (slots : Slots) (ns : List ℕ) → AllLive slots ns → LeadsToNode slots (first_or ns None)
first_live slots [] h = tt
first_live slots (n ∷ ns) h = h.0

last_live : (slots : Slots) (n : ℕ) (ns : List ℕ) → IsSome (slot_at slots n) → AllLive slots ns → IsSome (slot_at slots (last_of n ns))
last_live slots n [] here h = here
last_live slots n (m ∷ ms) here h = last_live slots m ms h.0 h.1

ends_live : (slots : Slots) (ns : List ℕ) → AllLive slots ns → LeadsToNode slots (last_or None ns)
ends_live slots [] h = tt
ends_live slots (n ∷ ns) h = last_live slots n ns h.0 h.1

-- a number is none of a row of siblings and of what is inside them, or its links lead to nodes
row_leads : (slots : Slots) (f : Named) (p : ℕ) (start : Option ℕ) → AreSiblings (links_of slots).parent (links_of slots).before (links_of slots).after p start (heads f) None →
    Shows slots f → IsSome (slot_at slots p) → LeadsToNode slots start → (q : ℕ) → Apart q (node_numbers f) ⊎ LinksLead slots q
row_leads slots NoNode p start row s top before q = inl tt
row_leads slots (NamedRun n count later) p start row s top before q =
    elim (same_or_not q n) [
      | inl same ↦ inr (subst (LinksLead slots) (sym same) (record {
        parent = leads slots _ _ row.0 top;
        first = leads slots _ _ s.0.children.first tt;
        last = leads slots _ _ s.0.children.last tt;
        before = leads slots _ _ row.1 before;
        after = leads slots _ _ row.2 (first_live slots (heads later) (heads_live slots later s.1));
      }))
      | inr ne ↦ elim (row_leads slots later p (Some n) row.3 s.1 top (shown_live slots n _ _ _ s.0) q) [ inl none ↦ inl (ne, none) | inr all ↦ inr all ]
    ]
row_leads slots (NamedBranch n kind inside later) p start row s top before q =
    let here = shown_live slots n _ _ _ s.0 in
    elim (same_or_not q n) [
      | inl same ↦ inr (subst (LinksLead slots) (sym same) (record {
        parent = leads slots _ _ row.0 top;
        first = leads slots _ _ s.0.children.first (first_live slots (heads inside) (heads_live slots inside s.1));
        last = leads slots _ _ s.0.children.last (ends_live slots (heads inside) (heads_live slots inside s.1));
        before = leads slots _ _ row.1 before;
        after = leads slots _ _ row.2 (first_live slots (heads later) (heads_live slots later s.2));
      }))
      | inr ne ↦ elim (row_leads slots inside n None s.0.children.row s.1 here tt q) [
        | inr all ↦ inr all
        | inl none ↦ elim (row_leads slots later p (Some n) row.3 s.2 top here q) [
          | inr all ↦ inr all
          | inl more ↦ inl (ne, apart-join q (node_numbers inside) (node_numbers later) none more)
        ]
      ]
    ]

no_links : (slots : Slots) (q : ℕ) → slot_at slots q ≡ None → LinksLead slots q
no_links slots q none = record {
  parent = leads slots _ None (ap (link_in (λ node. node.parent)) none) tt;
  first = leads slots _ None (ap (link_in (λ node. node.first)) none) tt;
  last = leads slots _ None (ap (link_in (λ node. node.last)) none) tt;
  before = leads slots _ None (ap (link_in (λ node. node.before)) none) tt;
  after = leads slots _ None (ap (link_in (λ node. node.after)) none) tt;
}

pub links_lead_to_nodes : LinksLeadToNodes
links_lead_to_nodes slots root items n tree =
    let f = tree.named in
    let top = shown_live slots root.0 _ _ _ tree.root_shown in
    elim (same_or_not n root.0) [
      | inl same ↦ subst (LinksLead slots) (sym same) (record {
        parent = leads slots _ None tree.root_alone.no_parent tt;
        first = leads slots _ _ tree.root_shown.children.first (first_live slots (heads f) (heads_live slots f tree.shown));
        last = leads slots _ _ tree.root_shown.children.last (ends_live slots (heads f) (heads_live slots f tree.shown));
        before = leads slots _ None tree.root_alone.no_before tt;
        after = leads slots _ None tree.root_alone.no_after tt;
      })
      | inr ne ↦ elim (row_leads slots f root.0 None tree.root_shown.children.row tree.shown top tt n) [
        | inr all ↦ all
        | inl none ↦ no_links slots n (tree.only n (ne, none))
      ]
    ]

-- a number is none of a forest's, or that of a node of it
pub listed : (f : Named) (p at q : ℕ) → Apart q (node_numbers f) ⊎ ((place : NodePlace) × Contains (node_places p at f) place × (place.number ≡ q))
listed NoNode p at q = inl tt
listed (NamedRun n count later) p at q =
    elim (same_or_not q n) [
      | inl same ↦ inr (_, contains-here _ (node_places p (at + count) later), sym same)
      | inr ne ↦ elim (listed later p (at + count) q) [
        | inl none ↦ inl (ne, none)
        | inr found ↦ inr (found.0, contains-later _ found.0 (node_places p (at + count) later) found.1, found.2)
      ]
    ]
listed (NamedBranch n kind inside later) p at q =
    let len = item_count (unnumbered inside) + 2 in
    let in_ = node_places n (suc at) inside in
    let after_ = node_places p (at + len) later in
    elim (same_or_not q n) [
      | inl same ↦ inr (_, contains-here _ (in_ ++ after_), sym same)
      | inr ne ↦ elim (listed inside n (suc at) q) [
        | inr found ↦ inr (found.0, contains-later _ found.0 (in_ ++ after_) (Contains-append_left in_ after_ found.0 found.1), found.2)
        | inl none ↦ elim (listed later p (at + len) q) [
          | inr found ↦ inr (found.0, contains-later _ found.0 (in_ ++ after_) (Contains-append_right in_ after_ found.0 found.1), found.2)
          | inl more ↦ inl (ne, apart-join q (node_numbers inside) (node_numbers later) none more)
        ]
      ]
    ]

pub nodes_are_in_tree : NodesAreInTree
nodes_are_in_tree slots root n items tree live =
    elim (same_or_not n.0 root.0) [
      | inl same ↦ record { items = items; tree = tree; place = _; listed = contains-here _ (node_places root.0 0 tree.named); number_is = sym same }
      | inr ne ↦ elim (listed tree.named root.0 0 n.0) [
        | inr found ↦ record { items = items; tree = tree; place = found.0; listed = contains-later _ found.0 (node_places root.0 0 tree.named) found.1; number_is = found.2 }
        | inl none ↦ absurd (not_live (slot_at slots n.0) live (tree.only n.0 (ne, none)))
      ]
    ]
  where
    not_live : (o : Option ArenaNode) → IsSome o → o ≢ None
    not_live None l e = absurd (cc)
    not_live (Some node) l e = cc

-- the same of the link of a node that was borrowed
pub link_live : (slots : Slots) (link : ArenaNode → Option NodeId) (n m : NodeId) (node : ArenaNode) → slot_at slots n.0 ≡ Some node →
    LeadsToNode slots (link_in link (slot_at slots n.0)) → link node ≡ Some m → IsSome (slot_at slots m.0)
link_live slots link n m node here lead is = subst (LeadsToNode slots) (ap (link_in link) here ∙ ap (option_map number_of) is) lead
