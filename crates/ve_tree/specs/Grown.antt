-- How a tree is built, from the end of its list to the start: what each call adds to the arena, and
-- how much of the list it has read.
use Rattle.std.specs.Prelude.{◌≡◌, ◌≢◌, ℕ, suc, ◌+◌, ◌*◌, ◌≤◌, ◌<◌, Option, Some, None, List, [], ◌∷◌, drop, option_map, slice_get}
use Rattle.ve_kinds.specs.declared.kind.Kind.{Kind}
use Rattle.model_items.specs.declared.item.Item.{Item}
use Rattle.model_items.specs.declared.item.Item.TheVariants as item
use Rattle.model_items.specs.declared.plain_item.PlainItem.{PlainItem}
use Rattle.model_items.specs.declared.plain_item.PlainItem.TheVariants.{Char, Opening, Closing}
use Rattle.model_items.specs.Tree.{Forest, Reading, reading, node_count, item_count}
use Rattle.ve_arena.specs.declared.node.NodeId.{NodeId}
use Rattle.ve_arena.specs.declared.node.NodeWhat.{NodeWhat}
use Rattle.ve_arena.specs.declared.node.ArenaNode.{ArenaNode}
use Rattle.ve_arena.specs.Arena.{slot_at, new_node, with_first, with_before}
use Rattle.ve_tree.specs.Links.{first_or, last_or, links_of, Children, Apart, AllApart}
use Rattle.ve_tree.specs.Named.{Named, unnumbered, heads, node_numbers, Shows}
use Rattle.ve_tree.specs.IsTree.{unvalued}

abbrev pub id_of : ℕ → NodeId
id_of n = record { 0 = n }

-- a node with its first and last child
abbrev pub with_both_ends : Option NodeId → Option NodeId → ArenaNode → ArenaNode
with_both_ends first last node = record node { first = first; last = last }

abbrev pub with_children : List ℕ → ArenaNode → ArenaNode
with_children ns node = with_both_ends (option_map id_of (first_or ns None)) (option_map id_of (last_or None ns)) node

-- there is a node, and it has no children
pub record IsChildless (slots : List (Option ArenaNode)) (n : ℕ) : Type 0 where
  pub node : ArenaNode
  pub here : slot_at slots n ≡ Some node
  pub no_first : node.first ≡ None
  pub no_last : node.last ≡ None

-- no number of the list has a node
abbrev pub AllVacant : List (Option ArenaNode) → List ℕ → Type 0
AllVacant slots [] = Unit {0}
AllVacant slots (n ∷ ns) = (slot_at slots n ≡ None) × AllVacant slots ns

-- The nodes of a forest were made, and made the children of p, which had none. Nothing else
-- changed.
pub record Grown (old new : List (Option ArenaNode)) (p : ℕ) (f : Named) : Type 0 where
  pub apart : AllApart (p ∷ node_numbers f)
  pub fresh : AllVacant old (node_numbers f)
  pub shown : Shows new f
  pub children : Children (links_of new) p (heads f)
  pub own : slot_at new p ≡ option_map (with_children (heads f)) (slot_at old p)
  pub others : (q : ℕ) → Apart q (p ∷ node_numbers f) → slot_at new q ≡ slot_at old q

-- the first child of what stands in a slot
abbrev pub first_in : Option ArenaNode → Option NodeId
first_in None = None
first_in (Some node) = node.first

-- p had no child, and now has n
pub record MadeOnly (old new : List (Option ArenaNode)) (n p : ℕ) (sort : NodeWhat) : Type 0 where
  pub made : slot_at new n ≡ Some (record (new_node sort) { parent = Some (id_of p) })
  pub above : slot_at new p ≡ option_map (with_both_ends (Some (id_of n)) (Some (id_of n))) (slot_at old p)
  pub others : (q : ℕ) → q ≢ n → q ≢ p → slot_at new q ≡ slot_at old q

-- the first child of p was `next`, and n now stands before it
pub record MadeBefore (old new : List (Option ArenaNode)) (n p next : ℕ) (sort : NodeWhat) : Type 0 where
  pub made : slot_at new n ≡ Some (record (new_node sort) { parent = Some (id_of p); after = Some (id_of next) })
  pub above : slot_at new p ≡ option_map (with_first (Some (id_of n))) (slot_at old p)
  pub beside : slot_at new next ≡ option_map (with_before (Some (id_of n))) (slot_at old next)
  pub others : (q : ℕ) → q ≢ n → q ≢ p → q ≢ next → slot_at new q ≡ slot_at old q

-- n is new, and is the first child of p, before what was the first one
abbrev pub MadeFirst : Option NodeId → List (Option ArenaNode) → List (Option ArenaNode) → ℕ → ℕ → NodeWhat → Type 0
MadeFirst None old new n p sort = MadeOnly old new n p sort
MadeFirst (Some next) old new n p sort = MadeBefore old new n p next.0 sort

-- the reading of the items from a position on
abbrev pub reading_from : List Item → ℕ → Reading
reading_from items at = reading (unvalued (drop at items))

-- the kinds of the closings that have no opening among the items, in order
abbrev pub closes : List PlainItem → List Kind
closes [] = []
closes (Char c marks ∷ items) = closes items
closes (Opening kind head marks pre origin generated ∷ items) = drop 1 (closes items)
closes (Closing kind pre ∷ items) = kind ∷ closes items

abbrev pub closes_from : List Item → ℕ → List Kind
closes_from items at = closes (unvalued (drop at items))

-- how many nodes end in the items that were read
abbrev pub pending_count : List Forest → ℕ
pending_count [] = 0
pending_count (f ∷ fs) = suc (node_count f + pending_count fs)

abbrev pub count_from : List Item → ℕ → ℕ
count_from items at = node_count (reading_from items at).here + pending_count (reading_from items at).outer

-- at most six steps were taken for each node that ends among the items from one position up to
-- another
abbrev pub TookSteps : List Item → (from to old new : ℕ) → Type 0
TookSteps items from to old new = new + 6 * count_from items to ≤ old + 6 * count_from items from

abbrev pub OpensNode : Item → Type 0
OpensNode (item.Char ch marks) = ⊥
OpensNode (item.Opening kind generated head marks pre origin) = Unit {0}
OpensNode (item.Closing kind pre) = ⊥

abbrev pub IsChar : Item → Type 0
IsChar (item.Char ch marks) = Unit {0}
IsChar (item.Opening kind generated head marks pre origin) = ⊥
IsChar (item.Closing kind pre) = ⊥

-- The siblings that end at `to` are read down to `from`, where their parent's opening ends or the
-- list begins, and are the children of p.
pub record ReadChildren (old new : List (Option ArenaNode)) (p : ℕ) (items : List Item) (from to : ℕ) : Type 0 where
  pub forest : Named
  pub grown : Grown old new p forest
  pub reads : reading_from items from ≡ record { here = unnumbered forest; outer = (reading_from items to).outer }
  pub count : from + item_count (unnumbered forest) ≡ to
  pub closed : closes_from items from ≡ closes_from items to
  pub ended : (m : ℕ) (x : Item) → suc m ≡ from → slice_get items m ≡ Some x → OpensNode x

-- All items from one position up to another are characters, and the one before isn't.
pub record IsRunFrom (items : List Item) (from to : ℕ) : Type 0 where
  pub order : from ≤ to
  pub characters : (m : ℕ) (x : Item) → from ≤ m → m < to → slice_get items m ≡ Some x → IsChar x
  pub begins : (m : ℕ) (x : Item) → suc m ≡ from → slice_get items m ≡ Some x → IsChar x → ⊥
