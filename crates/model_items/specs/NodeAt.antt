-- The node round an offset, found in the tree, in words of the tree's nodes, and of the law's
-- state.
use Rattle.std.specs.Prelude.{◌≡◌, ℕ, suc, ◌+◌, ◌<◌, ◌≤◌, ◌⊎◌, ◌&&◌, nat_lt, if◌then◌else◌, List, [], ◌∷◌, ◌++◌, length, map, take, Contains, Ok}
use Rattle.ve_kinds.specs.declared.kind.Kind.TheVariants.{Root}
use Rattle.model_items.specs.declared.plain_item.PlainItem.{PlainItem}
use Rattle.model_items.specs.Law.{State, start, top, after, Lawful}
use Rattle.model_items.specs.Tree.{Forest, Empty, Run, Branch, item_count, tree_of, Open, opens_after, NodeExtent, node_at, class_in, class_at}

-- The search in a forest whose first item stands at a position, and which stands in the node
-- `around`: into the node that holds the offset, or past it.
abbrev pub search : NodeExtent → ℕ → Forest → ℕ → NodeExtent
search around at Empty o = around
search around at (Run count later) o = search around (at + count) later o
search around at (Branch kind inside later) o =
    if nat_lt at o && nat_lt o (at + (item_count inside + 2))
    then search (record { kind = kind; from = at; to = at + (item_count inside + 2) }) (suc at) inside o
    else search around (at + (item_count inside + 2)) later o

-- the positions of a forest's nodes, text nodes aside, in the order of their starts; its first item
-- stands at a position
abbrev pub places_from : ℕ → Forest → List NodeExtent
places_from at Empty = []
places_from at (Run count later) = places_from (at + count) later
places_from at (Branch kind inside later) =
    record { kind = kind; from = at; to = at + (item_count inside + 2) }
    ∷ (places_from (suc at) inside ++ places_from (at + (item_count inside + 2)) later)

abbrev pub root_place : List PlainItem → NodeExtent
root_place items = record { kind = Root; from = 0; to = length items }

-- the root, and then all others
abbrev pub all_places : List PlainItem → List NodeExtent
all_places items = root_place items ∷ places_from 0 (tree_of items)

-- the node's opening stands before the offset, and its closing at the offset or after it; the root
-- has none, and holds every offset
abbrev pub HoldsOffset : List PlainItem → ℕ → NodeExtent → Type 0
HoldsOffset items at p = (p ≡ root_place items) ⊎ ((p.from < at) × (at < p.to))

-- a node that holds the offset, and lies in every node that does
pub record IsInnermost (items : List PlainItem) (at : ℕ) (p : NodeExtent) : Type 0 where
  pub node : Contains (all_places items) p
  pub holds : HoldsOffset items at p
  pub within : (q : NodeExtent) → Contains (all_places items) q → HoldsOffset items at q → (q.from ≤ p.from) × (p.to ≤ q.to)

-- The items of a lawful list are all in its tree.
abbrev pub TreeHasAllItems : Type 0
TreeHasAllItems = (items : List PlainItem) → Lawful items → item_count (tree_of items) ≡ length items

-- The node at an offset is found by searching the tree.
abbrev pub NodeAtIsFound : Type 0
NodeAtIsFound = (items : List PlainItem) (at : ℕ) → Lawful items → at ≤ length items →
    node_at items at ≡ search (root_place items) 0 (tree_of items) at

abbrev pub NodeAtIsInnermost : Type 0
NodeAtIsInnermost = (items : List PlainItem) (at : ℕ) → Lawful items → at ≤ length items → IsInnermost items at (node_at items at)

-- The open nodes at an offset are the law's state there, so the class goes by the top of its stack.
abbrev pub OpenIsStack : Type 0
OpenIsStack = (items : List PlainItem) (s : State) → after start items ≡ Ok s →
    map (λ (o : Open). o.kind) (opens_after [] 0 items) ≡ s.stack

abbrev pub ClassIsOfTop : Type 0
ClassIsOfTop = (items : List PlainItem) (at : ℕ) (s : State) → after start (take at items) ≡ Ok s →
    class_at items at ≡ class_in (top s.stack)
