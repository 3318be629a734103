-- The links of an arena's nodes by number, and what it means that the children of a node are a
-- list.
use Rattle.std.specs.Prelude.{◌≡◌, ◌≢◌, ℕ, Option, Some, None, List, [], ◌∷◌, option_map}
use Rattle.ve_arena.specs.declared.node.NodeId.{NodeId}
use Rattle.ve_arena.specs.declared.node.ArenaNode.{ArenaNode}
use Rattle.ve_arena.specs.Arena.{slot_at}

-- the links by a node's number; None where there is no node
pub record Links : Type 0 where
  pub parent : ℕ → Option ℕ
  pub first : ℕ → Option ℕ
  pub last : ℕ → Option ℕ
  pub before : ℕ → Option ℕ
  pub after : ℕ → Option ℕ

abbrev pub number_of : NodeId → ℕ
number_of n = n.0

-- one link of what stands in a slot
abbrev pub link_in : (ArenaNode → Option NodeId) → Option ArenaNode → Option ℕ
link_in link None = None
link_in link (Some node) = option_map number_of (link node)

abbrev pub links_of : List (Option ArenaNode) → Links
links_of slots = record {
  parent = λ n. link_in (λ node. node.parent) (slot_at slots n);
  first = λ n. link_in (λ node. node.first) (slot_at slots n);
  last = λ n. link_in (λ node. node.last) (slot_at slots n);
  before = λ n. link_in (λ node. node.before) (slot_at slots n);
  after = λ n. link_in (λ node. node.after) (slot_at slots n);
}

-- the first of a list, or what follows it
abbrev pub first_or : List ℕ → Option ℕ → Option ℕ
first_or [] end = end
first_or (n ∷ ns) end = Some n

abbrev pub last_of : ℕ → List ℕ → ℕ
last_of n [] = n
last_of n (m ∷ ms) = last_of m ms

-- the last of a list, or what stands before it
abbrev pub last_or : Option ℕ → List ℕ → Option ℕ
last_or start [] = start
last_or start (n ∷ ns) = Some (last_of n ns)

-- the nodes are children of p and siblings in this order, between two neighbours
abbrev pub AreSiblings : (ℕ → Option ℕ) → (ℕ → Option ℕ) → (ℕ → Option ℕ) → ℕ → Option ℕ → List ℕ → Option ℕ → Type 0
AreSiblings parent before after p start [] end = Unit {0}
AreSiblings parent before after p start (n ∷ ns) end =
    (parent n ≡ Some p) × (before n ≡ start) × (after n ≡ first_or ns end) × AreSiblings parent before after p (Some n) ns end

-- the children of p are the list
pub record Children (links : Links) (p : ℕ) (ns : List ℕ) : Type 0 where
  pub first : links.first p ≡ first_or ns None
  pub last : links.last p ≡ last_or None ns
  pub row : AreSiblings links.parent links.before links.after p None ns None

-- the number is none of the list
abbrev pub Apart : ℕ → List ℕ → Type 0
Apart n [] = Unit {0}
Apart n (m ∷ ms) = (n ≢ m) × Apart n ms

-- the numbers are distinct
abbrev pub AllApart : List ℕ → Type 0
AllApart [] = Unit {0}
AllApart (n ∷ ns) = Apart n ns × AllApart ns
