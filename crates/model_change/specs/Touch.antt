-- How many nodes of the tree a transaction touches: those that go, those that come, and those that
-- stay under another parent or with another length.
use Rattle.std.specs.Prelude.{◌≡◌, ℕ, zero, suc, ◌+◌, ◌-◌, Bool, true, false, not, ◌&&◌, ◌==◌, nat_lt, nat_le, if◌then◌else◌, List, [], ◌∷◌, ◌++◌, length, map, count_by, sum_by, slice_get, Option, Some, None, option_map}
use Rattle.std.specs.List.{list_any}
use Rattle.model_items.specs.declared.plain_item.PlainItem.{PlainItem}
use Rattle.model_items.specs.Tree.{Forest, Empty, Run, Branch, item_count, tree_of, number_of_nodes, shape_of}
use Rattle.model_change.specs.Transaction.{Retain, Replace, Attribute, Transaction, edited}
use Rattle.model_change.specs.Inverse.{inverse}

-- a node by the position of its opening, or of its first character
pub data NodeName : Type 0 where
  TheRoot : NodeName
  Opened : (at : ℕ) → NodeName
  Text : (at : ℕ) → NodeName

pub record Node : Type 0 where
  pub name : NodeName
  pub parent : NodeName
  -- in items, with the brackets
  pub count : ℕ

-- the nodes of a forest whose first item stands at a position
abbrev pub nodes_from : NodeName → ℕ → Forest → List Node
nodes_from parent at Empty = []
nodes_from parent at (Run count later) = record { name = Text at; parent = parent; count = count } ∷ nodes_from parent (at + count) later
nodes_from parent at (Branch kind inside later) =
    record { name = Opened at; parent = parent; count = item_count inside + 2 }
    ∷ (nodes_from (Opened at) (suc at) inside ++ nodes_from parent (at + item_count inside + 2) later)

-- all nodes in the order of their starts, the root first
abbrev pub nodes_of : List PlainItem → List Node
nodes_of items = record { name = TheRoot; parent = TheRoot; count = length items } ∷ nodes_from TheRoot 0 (tree_of items)

-- where an item of the old list stands in the new one, if it is retained
abbrev pub new_place : Transaction → ℕ → Option ℕ
new_place [] at = None
new_place (Retain count ∷ ops) at = if nat_lt at count then Some at else option_map (λ p. count + p) (new_place ops (at - count))
new_place (Replace removed inserted ∷ ops) at =
    if nat_lt at (length removed) then None else option_map (λ p. length inserted + p) (new_place ops (at - length removed))
new_place (Attribute change ∷ ops) at = new_place ops at

abbrev pub or_next : Option ℕ → Option ℕ → Option ℕ
or_next (Some p) next = Some p
or_next None next = next

-- the new position of the first retained item of a range
abbrev pub first_retained : Transaction → ℕ → ℕ → Option ℕ
first_retained t at zero = None
first_retained t at (suc count) = or_next (new_place t at) (first_retained t (suc at) count)

-- where a node's opening stands in the other list, or the first retained character of a text; none
-- for the root, which has no opening
abbrev pub image : Transaction → NodeName → ℕ → Option ℕ
image t TheRoot count = None
image t (Opened at) count = new_place t at
image t (Text at) count = first_retained t at count

-- a node with its own position, and its parent's, in the other list
pub record Seen : Type 0 where
  pub node : Node
  pub there : Option ℕ
  pub parent_there : Option ℕ

abbrev pub seen_by : Transaction → Node → Seen
seen_by t node = record { node = node; there = image t node.name node.count; parent_there = image t node.parent 0 }

abbrev pub lies_in : Option ℕ → ℕ → ℕ → Bool
lies_in None from count = false
lies_in (Some p) from count = nat_le from p && nat_lt p (from + count)

-- The roots match; two bracket nodes where the new opening is the old one, retained; two texts
-- where the first retained character of each lies in the other.
abbrev pub match_by : NodeName → Option ℕ → ℕ → NodeName → Option ℕ → ℕ → Bool
match_by TheRoot there count TheRoot there' count' = true
match_by (Opened at) there count (Opened at') there' count' = lies_in there at' 1
match_by (Text at) there count (Text at') there' count' = lies_in there at' count' && lies_in there' at count
match_by _ there count _ there' count' = false

-- an old and a new node match
abbrev pub matches : Seen → Seen → Bool
matches old new = match_by old.node.name old.there old.node.count new.node.name new.there new.node.count

-- their parents match, and their lengths are equal
abbrev pub is_alike : Seen → Seen → Bool
is_alike old new =
    match_by old.node.parent old.parent_there 0 new.node.parent new.parent_there 0 && (old.node.count == new.node.count)

abbrev pub touch_count : List Seen → List Seen → ℕ
touch_count old new =
    count_by (λ o. not (list_any (λ n. matches o n) new)) old
    + count_by (λ n. not (list_any (λ o. matches o n) old)) new
    + sum_by (λ o. count_by (λ n. matches o n && not (is_alike o n)) new) old

-- The number of touched nodes, for a transaction that applies to a lawful list and gives a lawful
-- one. They are the old nodes without a match, the new ones without a match, and the pairs that
-- match under other parents or with other lengths.
abbrev pub touch : Transaction → List PlainItem → ℕ
touch t items = touch_count (map (seen_by t) (nodes_of items)) (map (seen_by (inverse t)) (nodes_of (edited t items)))

-- All nodes are counted.
abbrev pub NodesAreCounted : Type 0
NodesAreCounted = (items : List PlainItem) → length (nodes_of items) ≡ number_of_nodes items

-- A retained item stands at its new position with the shape that it had, and the inverse leads back
-- to the old position.
pub record IsRetained (t : Transaction) (items : List PlainItem) (at to : ℕ) (old : PlainItem) : Type 0 where
  pub new : PlainItem
  pub stands : slice_get (edited t items) to ≡ Some new
  pub shape : shape_of new ≡ shape_of old
  pub back : new_place (inverse t) to ≡ Some at

abbrev pub RetainedStays : Type 0
RetainedStays = (t : Transaction) (items : List PlainItem) (at to : ℕ) (old : PlainItem) → new_place t at ≡ Some to →
    slice_get items at ≡ Some old → IsRetained t items at to old
