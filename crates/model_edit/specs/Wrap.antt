-- Brackets replaced round a range of sibling nodes, and round each of them.
use Rattle.std.specs.Prelude.{ℕ, zero, suc, ◌+◌, ◌-◌, Bool, true, false, not, ◌&&◌, ◌||◌, ◌==◌, nat_le, nat_lt, if◌then◌else◌, List, [], ◌∷◌, ◌++◌, length, map, reverse, flat_map, slice_get, slice_range, Option, Some, None, Result, Ok, Err}
use Rattle.std.specs.List.{list_any}
use Rattle.ve_kinds.specs.declared.kind.Kind.{Kind}
use Rattle.model_items.specs.declared.plain_item.PlainItem.{PlainItem}
use Rattle.ve_kinds.specs.Table.{is_content_branch}
use Rattle.model_items.specs.Tree.{Open}
use Rattle.model_change.specs.Transaction.{Transaction}
use Rattle.model_edit.specs.Causes.{BuildCause, BadRange, NotWrapped}
use Rattle.model_edit.specs.Brackets.{opening_of, closing_of, is_opening_of, is_internal_bracket}
use Rattle.model_items.specs.Offsets.{kind_at, partner, end_of_node, siblings, is_unmatched, places_in, some_in_range, passes}
use Rattle.model_edit.specs.Edits.{Edit, Change, transaction_of}
use Rattle.model_edit.specs.declared.wrap_plan.Shape.{Shape}
use Rattle.model_edit.specs.declared.wrap_plan.WrapPlan.{WrapPlan}

-- the range is one or more whole sibling nodes under a parent that is no content branch
abbrev pub is_whole_nodes : List PlainItem → ℕ → ℕ → Bool
is_whole_nodes items from to =
    nat_lt from to && (nat_le to (length items)
    && (not (is_content_branch (kind_at items from)) && not (list_any (is_unmatched items from to) (places_in from to))))

abbrev pub is_bad_wrap : List PlainItem → ℕ → ℕ → Bool
is_bad_wrap items from to = not (is_whole_nodes items from to) || some_in_range is_internal_bracket items from to

-- a position, and whether the right bracket stands there
abbrev pub Claim : Type 0
Claim = ℕ × Bool

-- openings of the kinds stand from the position on
abbrev pub opening_claims : List PlainItem → ℕ → List Kind → List Claim
opening_claims items at [] = []
opening_claims items at (kind ∷ kinds) = (at, passes (is_opening_of kind) (slice_get items at)) ∷ opening_claims items (suc at) kinds

-- the closings of the `count` openings that begin at `first` stand from the position on, innermost
-- first
abbrev pub closing_claims : List PlainItem → (first count at : ℕ) → List Claim
closing_claims items first zero at = []
closing_claims items first (suc count) at = (at, partner items (first + count) == at) ∷ closing_claims items first count (suc at)

abbrev pub node_claims : List PlainItem → List Kind → ℕ → List Claim
node_claims items kinds at =
    opening_claims items at kinds ++ closing_claims items at (length kinds) (end_of_node items at - length kinds)

abbrev pub first_wrong : List Claim → Option ℕ
first_wrong [] = None
first_wrong ((at, true) ∷ claims) = first_wrong claims
first_wrong ((at, false) ∷ claims) = Some at

-- the nodes of the range
abbrev pub nodes_in : List PlainItem → ℕ → ℕ → List Open
nodes_in items from to = siblings 0 from (slice_range items from to)

-- the first position, in the order of the list, where the bracket that is to go does not stand
abbrev pub wrong_place : List PlainItem → ℕ → ℕ → List Kind → List Kind → Option ℕ
wrong_place items from to outer each =
    if nat_lt from (length outer) then Some 0
    else first_wrong
    (opening_claims items (from - length outer) outer
    ++ (flat_map (λ (node : Open). node_claims items each node.from) (nodes_in items from to)
    ++ closing_claims items (from - length outer) (length outer) to))

abbrev pub openings_of : List Shape → List PlainItem
openings_of shapes = map (λ (s : Shape). opening_of s.kind s.attrs) shapes

abbrev pub closings_of : List Shape → List PlainItem
closings_of shapes = reverse (map (λ (s : Shape). closing_of s.kind) shapes)

-- the first and the last `count` items of what stands between two positions are replaced
abbrev pub node_edits : (from to count : ℕ) → List Shape → List Edit
node_edits from to count shapes =
    Change from count (openings_of shapes) ∷ Change (to - count) count (closings_of shapes) ∷ []

abbrev pub wrap_edits : List PlainItem → ℕ → ℕ → WrapPlan → List Edit
wrap_edits items from to plan =
    let outer = length plan.unwrap_outer in
    Change (from - outer) outer (openings_of plan.wrap_outer)
    ∷ flat_map
    (λ (node : Open). node_edits node.from (end_of_node items node.from) (length plan.unwrap_each) plan.wrap_each)
    (nodes_in items from to)
    ++ Change to outer (closings_of plan.wrap_outer) ∷ []

abbrev pub wrapped_unless : Option ℕ → Transaction → Result Transaction BuildCause
wrapped_unless (Some at) t = Err (NotWrapped at)
wrapped_unless None t = Ok t

abbrev pub wrap : List PlainItem → ℕ → ℕ → WrapPlan → Result Transaction BuildCause
wrap items from to plan =
    if is_bad_wrap items from to then Err (BadRange from to)
    else wrapped_unless
    (wrong_place items from to plan.unwrap_outer plan.unwrap_each)
    (transaction_of items (wrap_edits items from to plan))
