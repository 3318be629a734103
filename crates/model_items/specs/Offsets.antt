-- Offsets of a list, and which brackets belong together.
use Rattle.std.specs.Prelude.{◌≡◌, ◌≤◌, ℕ, zero, suc, ◌+◌, ◌-◌, Bool, true, false, not, ◌&&◌, ◌||◌, nat_le, nat_lt, if◌then◌else◌, List, [], ◌∷◌, length, map, take, drop, filter, count_by, slice_get, slice_range, Option, Some, None}
use Rattle.std.specs.List.{range_with_len, list_any}
use Rattle.ve_kinds.specs.declared.kind.Kind.{Kind}
use Rattle.model_items.specs.declared.plain_item.PlainItem.{PlainItem}
use Rattle.model_items.specs.declared.plain_item.PlainItem.TheVariants.{Char, Opening, Closing}
use Rattle.ve_kinds.specs.Table.{is_content_branch, is_leaf}
use Rattle.model_items.specs.Law.{top}
use Rattle.model_items.specs.Tree.{Open, opens_after, length_to_close}

abbrev pub is_opening : PlainItem → Bool
is_opening (Opening kind head marks pre origin generated) = true
is_opening _ = false

abbrev pub is_closing : PlainItem → Bool
is_closing (Closing kind pre) = true
is_closing _ = false

-- of the item at a position, if there is one
abbrev pub passes : (PlainItem → Bool) → Option PlainItem → Bool
passes test None = false
passes test (Some item) = test item

-- the nodes that are open at an offset, innermost first
abbrev pub opens_at : List PlainItem → ℕ → List Open
opens_at items at = opens_after [] 0 (take at items)

-- and their openings
abbrev pub openings_after : List PlainItem → List PlainItem → List PlainItem
openings_after outer [] = outer
openings_after outer (Char c marks ∷ items) = openings_after outer items
openings_after outer (Opening kind head marks pre origin generated ∷ items) =
    openings_after (Opening kind head marks pre origin generated ∷ outer) items
openings_after outer (Closing kind pre ∷ items) = openings_after (drop 1 outer) items

abbrev pub openings_at : List PlainItem → ℕ → List PlainItem
openings_at items at = openings_after [] (take at items)

-- their kinds
abbrev pub stack_at : List PlainItem → ℕ → List Kind
stack_at items at = map (λ (node : Open). node.kind) (opens_at items at)

-- the innermost open kind, or the root
abbrev pub kind_at : List PlainItem → ℕ → Kind
kind_at items at = top (stack_at items at)

abbrev pub is_content : List PlainItem → ℕ → Bool
is_content items at = is_content_branch (kind_at items at)

abbrev pub is_inside_leaf : List PlainItem → ℕ → Bool
is_inside_leaf items at = is_leaf (kind_at items at)

abbrev pub is_structural_at : List PlainItem → ℕ → Bool
is_structural_at items at = not (is_content items at) && not (is_inside_leaf items at)

-- where the innermost open node begins
abbrev pub first_from : List Open → ℕ
first_from [] = 0
first_from (node ∷ outer) = node.from

-- the position of the other bracket of the node that the item opens or closes; a character is its
-- own
abbrev pub partner_of : Option PlainItem → List PlainItem → ℕ → ℕ
partner_of (Some (Opening kind head marks pre origin generated)) items at = at + length_to_close 0 (drop (suc at) items)
partner_of (Some (Closing kind pre)) items at = first_from (opens_at items at)
partner_of (Some (Char c marks)) items at = at
partner_of None items at = at

abbrev pub partner : List PlainItem → ℕ → ℕ
partner items at = partner_of (slice_get items at) items at

-- just past the node that opens at a position
abbrev pub end_of_node : List PlainItem → ℕ → ℕ
end_of_node items at = suc (partner items at)

-- the nodes side by side from the first item on, whose position is `at`, as far as the node goes
-- that they stand in; `depth` nodes are open already
abbrev pub siblings : (depth at : ℕ) → List PlainItem → List Open
siblings depth at [] = []
siblings depth at (Char c marks ∷ items) = siblings depth (suc at) items
siblings zero at (Opening kind head marks pre origin generated ∷ items) =
    record { kind = kind; from = at } ∷ siblings 1 (suc at) items
siblings (suc depth) at (Opening kind head marks pre origin generated ∷ items) = siblings (suc (suc depth)) (suc at) items
siblings zero at (Closing kind pre ∷ items) = []
siblings (suc depth) at (Closing kind pre ∷ items) = siblings depth (suc at) items

-- the nodes just inside the one that opens at a position
abbrev pub children : List PlainItem → ℕ → List Open
children items at = siblings 0 (suc at) (drop (suc at) items)

-- a bracket of a range is unmatched where its partner is not in the range
abbrev pub is_unmatched : List PlainItem → ℕ → ℕ → ℕ → Bool
is_unmatched items from to at = let other = partner items at in not (nat_le from other && nat_lt other to)

-- the positions of a range
abbrev pub places_in : ℕ → ℕ → List ℕ
places_in from to = range_with_len from (to - from)

abbrev pub unmatched_places : List PlainItem → ℕ → ℕ → List ℕ
unmatched_places items from to = filter (is_unmatched items from to) (places_in from to)

-- how many closings and openings of a range are unmatched
abbrev pub unmatched_counts : List PlainItem → ℕ → ℕ → ℕ × ℕ
unmatched_counts items from to =
    let all = unmatched_places items from to in (
      count_by (λ at. passes is_closing (slice_get items at)) all,
      count_by (λ at. passes is_opening (slice_get items at)) all,
    )

abbrev pub some_in_range : (PlainItem → Bool) → List PlainItem → ℕ → ℕ → Bool
some_in_range test items from to = list_any test (slice_range items from to)

-- no range of the list, or one with an end inside a leaf
abbrev pub is_bad_span : List PlainItem → ℕ → ℕ → Bool
is_bad_span items from to =
    nat_le to from || (nat_lt (length items) to || (is_inside_leaf items from || is_inside_leaf items to))

abbrev pub distance : ℕ → ℕ → ℕ
distance m n = (m - n) + (n - m)

-- the first of two where it is not farther
abbrev pub nearer : ℕ → ℕ → Option ℕ → ℕ
nearer at one None = one
nearer at one (Some other) = if nat_le (distance one at) (distance other at) then one else other

abbrev pub nearest : ℕ → List ℕ → Option ℕ
nearest at [] = None
nearest at (one ∷ others) = Some (nearer at one (nearest at others))

abbrev pub content_offsets : List PlainItem → List ℕ
content_offsets items = filter (is_content items) (places_in 0 (suc (length items)))

-- the nearest content offset, the lower of two at one distance
abbrev pub nearest_content : List PlainItem → ℕ → Option ℕ
nearest_content items at = nearest at (content_offsets items)

-- It is a content offset of the list, no other lies nearer, and of two at one distance it is the
-- lower.
pub record IsNearestContent (items : List PlainItem) (at place : ℕ) : Type 0 where
  pub within : place ≤ length items
  pub content : is_content items place ≡ true
  pub none_nearer : (other : ℕ) → other ≤ length items → is_content items other ≡ true → distance at place ≤ distance at other
  pub lowest : (other : ℕ) → other ≤ length items → is_content items other ≡ true → distance at other ≡ distance at place → place ≤ other

abbrev pub HasNoContent : List PlainItem → Type 0
HasNoContent items = (other : ℕ) → other ≤ length items → is_content items other ≡ false

-- The nearest content offset is that one, and there is none only where the list has no content
-- offset.
abbrev pub NearestIsFound : Type 0
NearestIsFound = (items : List PlainItem) (at place : ℕ) → nearest_content items at ≡ Some place → IsNearestContent items at place

abbrev pub NearestIsOnly : Type 0
NearestIsOnly = (items : List PlainItem) (at place : ℕ) → IsNearestContent items at place → nearest_content items at ≡ Some place

abbrev pub NoneIsFound : Type 0
NoneIsFound = (items : List PlainItem) (at : ℕ) → nearest_content items at ≡ None → HasNoContent items

abbrev pub NoneIsOnly : Type 0
NoneIsOnly = (items : List PlainItem) (at : ℕ) → HasNoContent items → nearest_content items at ≡ None
