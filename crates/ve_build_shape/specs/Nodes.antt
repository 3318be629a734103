-- The nodes of a range, as they are found item by item, and what is claimed of them.
use Rattle.std.specs.Prelude.{◌≡◌, ◌<◌, ◌-◌, ℕ, zero, suc, Bool, not, nat_lt, if◌then◌else◌, List, [], ◌∷◌, ◌++◌, All, length, map, flat_map, slice_get, Option, Some, None}
use Rattle.std.specs.List.{list_any}
use Rattle.ve_kinds.specs.declared.kind.Kind.{Kind}
use Rattle.ve_base.specs.declared.value.Value.{Value}
use Rattle.model_items.specs.declared.item.Item.{Item}
use Rattle.model_items.specs.declared.plain_item.PlainItem.{PlainItem}
use Rattle.model_items.specs.declared.plain_item.PlainItem.TheVariants.{Char, Opening, Closing}
use Rattle.model_items.specs.Offsets.{is_unmatched, passes, places_in}
use Rattle.model_items.specs.Plain.{plain_list}
use Rattle.model_items.specs.Tree.{Open}
use Rattle.model_edit.specs.Brackets.{is_opening_of}
use Rattle.model_edit.specs.Wrap.{nodes_in, opening_claims, closing_claims, node_claims, first_wrong}

-- how many nodes are open after an item, or none where it closes the node that they stand in
abbrev pub depth_past : ℕ → PlainItem → Option ℕ
depth_past depth (Char c marks) = Some depth
depth_past depth (Opening kind head marks pre origin generated) = Some (suc depth)
depth_past zero (Closing kind pre) = None
depth_past (suc depth) (Closing kind pre) = Some depth

-- the position, where a node begins there that stands in none of the open ones
abbrev pub begun : (depth at : ℕ) → PlainItem → List ℕ
begun zero at (Opening kind head marks pre origin generated) = at ∷ []
begun _ at _ = []

-- each bracket of the range has its partner there
abbrev pub is_matched : List PlainItem → ℕ → ℕ → Bool
is_matched items from to = not (list_any (is_unmatched items from to) (places_in from to))

-- a node of the kind begins at the position
abbrev pub begins_kind : Kind → List PlainItem → ℕ → Bool
begins_kind kind items at = passes (is_opening_of kind) (slice_get items at)

-- The positions are those where the nodes of the range begin, over every list of values.
abbrev pub AreNodes : List Item → ℕ → ℕ → List ℕ → Type 0
AreNodes items from to places = (values : List Value) → places ≡ map (λ (node : Open). node.from) (nodes_in (plain_list values items) from to)

-- all of them are positions of the list
abbrev pub AreWithin : List Item → List ℕ → Type 0
AreWithin items places = All (λ at. at < length items) places

-- the first wrong position, where the nodes begin at these positions
abbrev pub wrong_among : List PlainItem → ℕ → ℕ → List Kind → List Kind → List ℕ → Option ℕ
wrong_among items from to outer each places =
    if nat_lt from (length outer) then Some 0
    else first_wrong
    (opening_claims items (from - length outer) outer
    ++ (flat_map (node_claims items each) places
    ++ closing_claims items (from - length outer) (length outer) to))
