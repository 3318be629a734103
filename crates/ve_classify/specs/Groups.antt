-- Where the group ends that begins at a node.
use Rattle.std.specs.Prelude.{◌≡◌, ℕ, ◌+◌, true, List, Option, Some, None, if◌then◌else◌}
use Rattle.model_spelling.specs.Grammar as g
use Rattle.model_spelling.specs.Forest.{Forest, Nothing, Text, Remark, Void, RawElement, Element}
use Rattle.model_spelling.specs.ForestNodes.{ForestNode, forest_size}
use Rattle.model_page.specs.Elements.{is_white, about_of}
use Rattle.model_page.specs.Parts.{Parts, Group, about_in, is_shared, parts_of}
use Rattle.ve_html_tree.specs.declared.node.Node.{Node}
use Rattle.ve_classify.specs.Standing.{Stands, has_node, rest_of, first_count}

-- Where the group of its nodes ends: whatever siblings stand at the number n, of which the first
-- part is a group.
abbrev pub IsGroupEnd : List Node → ℕ → ℕ → Type 0
IsGroupEnd nodes n end =
    (f group : Forest) (later : Parts) (at : ℕ) (more : List ForestNode) → Stands nodes n at f more → parts_of f ≡ Group group later
    → end ≡ n + forest_size group

-- ---- as the code asks

-- the number of the next of the siblings that stand at the number n
abbrev pub IsSiblingAfter : List Node → ℕ → Option ℕ → Type 0
IsSiblingAfter nodes n next =
    (f : Forest) (at : ℕ) (more : List ForestNode) → Stands nodes n at f more → has_node f ≡ true
    → next ≡ (if has_node (rest_of f) then Some (n + first_count f) else None)

-- the number of the element that joins a group of this `about`, where the siblings after the group
-- stand at the number n
abbrev pub element_joins : ℕ → List ℕ → Forest → Option ℕ
element_joins n about f = if is_shared (Some about) (about_in f) then Some n else None

abbrev pub joins_at : ℕ → List ℕ → Forest → Option ℕ
joins_at n about Nothing = None
joins_at n about (Text text rest) = if is_white text then element_joins (n + 1) about rest else None
joins_at n about (Remark text rest) = None
joins_at n about (Void name attrs slash rest) = element_joins n about (Void name attrs slash rest)
joins_at n about (RawElement name attrs text rest) = element_joins n about (RawElement name attrs text rest)
joins_at n about (Element name attrs children rest) = element_joins n about (Element name attrs children rest)

-- the next element of a group of this `about`, of which the element at the number n is one
abbrev pub IsNextInGroup : List Node → ℕ → List ℕ → Option ℕ → Type 0
IsNextInGroup nodes n about next =
    (f : Forest) (at : ℕ) (more : List ForestNode) → Stands nodes n at f more → has_node f ≡ true
    → next ≡ joins_at (n + first_count f) about (rest_of f)

-- the `about` of a start tag
abbrev pub token_about : g.Token → Option (List ℕ)
token_about (g.Start name attrs slash) = about_of attrs
token_about _ = None
