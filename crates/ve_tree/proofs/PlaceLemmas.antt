-- The positions of a tree's nodes have their numbers once.
use Rattle.std.proofs.Common.{◌≡◌, ◌≢◌, ◌+◌, inl, inr, ℕ, suc, Some, List, [], ◌∷◌, ◌++◌, sym, ap, ◌∙◌, arith, Contains}
use Rattle.std.proofs.lemmas.List.Elements.{Contains-append_cases}
use Rattle.ve_kinds.specs.declared.kind.Kind.{Kind}
use Rattle.model_items.specs.declared.plain_item.PlainItem.{PlainItem}
use Rattle.model_items.specs.Tree.{item_count}
use Rattle.ve_arena.specs.declared.node.NodeId.{NodeId}
use Rattle.ve_arena.specs.declared.node.NodeWhat.TheVariants as what
use Rattle.ve_tree.specs.Links.{Apart, AllApart}
use Rattle.ve_tree.specs.Named.{Named, NoNode, NamedRun, NamedBranch, unnumbered, node_numbers}
use Rattle.ve_tree.specs.IsTree.{IsTree}
use Rattle.ve_tree.specs.Places.{NodePlace, node_places, tree_places}
use Rattle.ve_tree.proofs.GrownLemmas.{apart-ls, apart-rs, all-ls, all-rs, Disjoint}
use Rattle.ve_tree.proofs.FitsLemmas.{disjoint_of}
use Rattle.ve_tree.proofs.WalkLemmas.{Slots}
use Rattle.ve_tree.proofs.ClimbLemmas.{contains_cases}

-- a number that is none of a forest's is that of none of its positions
pub none_placed : (f : Named) (p at n : ℕ) (y : NodePlace) → Apart n (node_numbers f) → Contains (node_places p at f) y → n ≢ y.number
none_placed NoNode p at n y apart c e = absurd (omega (arith, c.1))
none_placed (NamedRun h count later) p at n y apart c e = elim (contains_cases _ y (node_places p (at + count) later) c) [
  | inl same ↦ apart.0 (e ∙ sym (ap (λ (z : NodePlace). z.number) same))
  | inr there ↦ none_placed later p (at + count) n y apart.1 there e
]
none_placed (NamedBranch h kind inside later) p at n y apart c e =
    let len = item_count (unnumbered inside) + 2 in
    elim (contains_cases _ y (node_places h (suc at) inside ++ node_places p (at + len) later) c) [
      | inl same ↦ apart.0 (e ∙ sym (ap (λ (z : NodePlace). z.number) same))
      | inr there ↦ elim (Contains-append_cases (node_places h (suc at) inside) (node_places p (at + len) later) y there) [
        | inl in_ ↦ none_placed inside h (suc at) n y (apart-ls n (node_numbers inside) (node_numbers later) apart.1) in_ e
        | inr after_ ↦ none_placed later p (at + len) n y (apart-rs n (node_numbers inside) (node_numbers later) apart.1) after_ e
      ]
    ]

-- no number is in both of two forests
apart_places : (f g : Named) (p at q at2 : ℕ) (y z : NodePlace) → Disjoint (node_numbers f) (node_numbers g) → Contains (node_places p at f) y → Contains (node_places q at2 g) z → y.number ≢ z.number
apart_places NoNode g p at q at2 y z d c k e = absurd (omega (arith, c.1))
apart_places (NamedRun h count later) g p at q at2 y z d c k e = elim (contains_cases _ y (node_places p (at + count) later) c) [
  | inl same ↦ none_placed g q at2 h z d.0 k (ap (λ (z : NodePlace). z.number) same ∙ e)
  | inr there ↦ apart_places later g p (at + count) q at2 y z d.1 there k e
]
apart_places (NamedBranch h kind inside later) g p at q at2 y z d c k e =
    let len = item_count (unnumbered inside) + 2 in
    let parts = disjoint_parts (node_numbers inside) (node_numbers later) (node_numbers g) d.1 in
    elim (contains_cases _ y (node_places h (suc at) inside ++ node_places p (at + len) later) c) [
      | inl same ↦ none_placed g q at2 h z d.0 k (ap (λ (z : NodePlace). z.number) same ∙ e)
      | inr there ↦ elim (Contains-append_cases (node_places h (suc at) inside) (node_places p (at + len) later) y there) [
        | inl in_ ↦ apart_places inside g h (suc at) q at2 y z parts.0 in_ k e
        | inr after_ ↦ apart_places later g p (at + len) q at2 y z parts.1 after_ k e
      ]
    ]
  where
    disjoint_parts : (ls rs ms : List ℕ) → Disjoint (ls ++ rs) ms → Disjoint ls ms × Disjoint rs ms
    disjoint_parts [] rs ms h = (tt, h)
    disjoint_parts (l ∷ ls) rs ms h = ((h.0, (disjoint_parts ls rs ms h.1).0), (disjoint_parts ls rs ms h.1).1)

-- a position of a branch: its own, one inside it, or one after it
abbrev Own : ℕ → ℕ → ℕ → Kind → Named → NodePlace → Type 0
Own p at h kind inside x = ◌≡◌ {A = NodePlace} (record { number = h; parent = Some p; sort = what.Node kind; from = at; to = at + (item_count (unnumbered inside) + 2) }) x

data Which (p at h : ℕ) (kind : Kind) (inside later : Named) (x : NodePlace) : Type 0 where
  Itself : Own p at h kind inside x → Which p at h kind inside later x
  Inner : Contains (node_places h (suc at) inside) x → Which p at h kind inside later x
  Later : Contains (node_places p (at + (item_count (unnumbered inside) + 2)) later) x → Which p at h kind inside later x

which : (p at h : ℕ) (kind : Kind) (inside later : Named) (x : NodePlace) → Contains (node_places p at (NamedBranch h kind inside later)) x → Which p at h kind inside later x
which p at h kind inside later x k = elim (contains_cases _ x (node_places h (suc at) inside ++ node_places p (at + (item_count (unnumbered inside) + 2)) later) k) [
  | inl same ↦ Itself same
  | inr there ↦ elim (Contains-append_cases (node_places h (suc at) inside) (node_places p (at + (item_count (unnumbered inside) + 2)) later) x there) [ inl in_ ↦ Inner in_ | inr after_ ↦ Later after_ ]
]

one_branch : (p at h : ℕ) (kind : Kind) (inside later : Named) (y z : NodePlace) → Apart h (node_numbers inside ++ node_numbers later) → AllApart (node_numbers inside ++ node_numbers later) → y.number ≡ z.number →
    (Contains (node_places h (suc at) inside) y → Contains (node_places h (suc at) inside) z → y ≡ z) →
    (Contains (node_places p (at + (item_count (unnumbered inside) + 2)) later) y → Contains (node_places p (at + (item_count (unnumbered inside) + 2)) later) z → y ≡ z) →
    Which p at h kind inside later y → Which p at h kind inside later z → y ≡ z
one_branch p at h kind inside later y z own all e ins lat (Itself a) (Itself b) = sym a ∙ b
one_branch p at h kind inside later y z own all e ins lat (Itself a) (Inner b) =
    absurd (none_placed inside h (suc at) h z (apart-ls h (node_numbers inside) (node_numbers later) own) b (ap (λ (z : NodePlace). z.number) a ∙ e))
one_branch p at h kind inside later y z own all e ins lat (Itself a) (Later b) =
    absurd (none_placed later p (at + (item_count (unnumbered inside) + 2)) h z (apart-rs h (node_numbers inside) (node_numbers later) own) b (ap (λ (z : NodePlace). z.number) a ∙ e))
one_branch p at h kind inside later y z own all e ins lat (Inner a) (Itself b) =
    absurd (none_placed inside h (suc at) h y (apart-ls h (node_numbers inside) (node_numbers later) own) a (ap (λ (z : NodePlace). z.number) b ∙ sym e))
one_branch p at h kind inside later y z own all e ins lat (Inner a) (Inner b) = ins a b
one_branch p at h kind inside later y z own all e ins lat (Inner a) (Later b) =
    absurd (apart_places inside later h (suc at) p (at + (item_count (unnumbered inside) + 2)) y z (disjoint_of (node_numbers inside) (node_numbers later) all) a b e)
one_branch p at h kind inside later y z own all e ins lat (Later a) (Itself b) =
    absurd (none_placed later p (at + (item_count (unnumbered inside) + 2)) h y (apart-rs h (node_numbers inside) (node_numbers later) own) a (ap (λ (z : NodePlace). z.number) b ∙ sym e))
one_branch p at h kind inside later y z own all e ins lat (Later a) (Inner b) =
    absurd (apart_places inside later h (suc at) p (at + (item_count (unnumbered inside) + 2)) z y (disjoint_of (node_numbers inside) (node_numbers later) all) b a (sym e))
one_branch p at h kind inside later y z own all e ins lat (Later a) (Later b) = lat a b

placed_once : (f : Named) (p at : ℕ) (y z : NodePlace) → AllApart (node_numbers f) → Contains (node_places p at f) y → Contains (node_places p at f) z → y.number ≡ z.number → y ≡ z
placed_once NoNode p at y z apart c d e = absurd (omega (arith, c.1))
placed_once (NamedRun h count later) p at y z apart c d e = elim (contains_cases _ y (node_places p (at + count) later) c) [
  | inl own ↦ elim (contains_cases _ z (node_places p (at + count) later) d) [
    | inl other ↦ sym own ∙ other
    | inr there ↦ absurd (none_placed later p (at + count) h z apart.0 there (ap (λ (z : NodePlace). z.number) own ∙ e))
  ]
  | inr here ↦ elim (contains_cases _ z (node_places p (at + count) later) d) [
    | inl other ↦ absurd (none_placed later p (at + count) h y apart.0 here (ap (λ (z : NodePlace). z.number) other ∙ sym e))
    | inr there ↦ placed_once later p (at + count) y z apart.1 here there e
  ]
]
placed_once (NamedBranch h kind inside later) p at y z apart c d e =
    one_branch p at h kind inside later y z apart.0 apart.1 e
    (λ a b. placed_once inside h (suc at) y z (all-ls (node_numbers inside) (node_numbers later) apart.1) a b e)
    (λ a b. placed_once later p (at + (item_count (unnumbered inside) + 2)) y z (all-rs (node_numbers inside) (node_numbers later) apart.1) a b e)
    (which p at h kind inside later y c) (which p at h kind inside later z d)

-- two positions of one number are one
pub one_place : {slots : Slots} {root : NodeId} {items : List PlainItem} (tree : IsTree slots root items) (y z : NodePlace) → Contains (tree_places tree) y → Contains (tree_places tree) z →
    y.number ≡ z.number → y ≡ z
one_place {root = root} tree y z c d e = elim (contains_cases _ y (node_places root.0 0 tree.named) c) [
  | inl own ↦ elim (contains_cases _ z (node_places root.0 0 tree.named) d) [
    | inl other ↦ sym own ∙ other
    | inr there ↦ absurd (none_placed tree.named root.0 0 root.0 z tree.apart.0 there (ap (λ (z : NodePlace). z.number) own ∙ e))
  ]
  | inr here ↦ elim (contains_cases _ z (node_places root.0 0 tree.named) d) [
    | inl other ↦ absurd (none_placed tree.named root.0 0 root.0 y tree.apart.0 here (ap (λ (z : NodePlace). z.number) other ∙ sym e))
    | inr there ↦ placed_once tree.named root.0 0 y z tree.apart.1 here there e
  ]
]

pub same_place : {slots : Slots} {root : NodeId} {items : List PlainItem} (tree : IsTree slots root items) (y z : NodePlace) → Contains (tree_places tree) y → Contains (tree_places tree) z →
    y.number ≡ z.number → y.from ≡ z.from
same_place tree y z c d e = ap (λ (x : NodePlace). x.from) (one_place tree y z c d e)
