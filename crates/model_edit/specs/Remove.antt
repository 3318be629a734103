-- The removal of a range.
use Rattle.std.specs.Prelude.{ℕ, ◌-◌, Bool, not, ◌&&◌, ◌||◌, if◌then◌else◌, List, [], ◌∷◌, map, filter, slice_get, Option, Some, None, Result, Ok, Err}
use Rattle.ve_kinds.specs.declared.kind.Kind.{Kind}
use Rattle.model_items.specs.declared.plain_item.PlainItem.{PlainItem}
use Rattle.model_items.specs.declared.plain_item.PlainItem.TheVariants.{Opening, Closing}
use Rattle.ve_kinds.specs.Table.{kind_same, is_content_branch}
use Rattle.model_change.specs.Transaction.{Transaction}
use Rattle.model_edit.specs.Causes.{BuildCause, BadRange}
use Rattle.model_edit.specs.Brackets.{closing_of, is_internal_bracket}
use Rattle.model_items.specs.Offsets.{is_bad_span, is_unmatched, partner, places_in, unmatched_places, some_in_range}
use Rattle.model_edit.specs.Edits.{Edit, Change, transaction_of}

abbrev pub is_bad_removal : List PlainItem → ℕ → ℕ → Bool
is_bad_removal items from to = is_bad_span items from to || some_in_range is_internal_bracket items from to

-- one branch of content is joined to another: `first` ends in the range, and `second` begins in it
-- and ends past it
pub record Join : Type 0 where
  pub first : Kind
  pub second : Kind
  pub second_closing : ℕ

abbrev pub join_by : Option PlainItem → Option PlainItem → ℕ → Option Join
join_by (Some (Closing first pre)) (Some (Opening second head marks pre' origin generated)) closing =
    if is_content_branch first && is_content_branch second
    then Some (record { first = first; second = second; second_closing = closing })
    else None
join_by _ _ closing = None

-- where a closing and an opening are all that is unmatched
abbrev pub join_at : List PlainItem → List ℕ → Option Join
join_at items (p ∷ q ∷ []) = join_by (slice_get items p) (slice_get items q) (partner items q)
join_at items _ = None

-- the second branch then ends with the first one's kind
abbrev pub closed_alike : Join → List Edit
closed_alike join =
    if kind_same join.first join.second then [] else Change join.second_closing 1 (closing_of join.first ∷ []) ∷ []

abbrev pub removal_edits : List PlainItem → ℕ → ℕ → Option Join → List Edit
removal_edits items from to (Some join) = Change from (to - from) [] ∷ closed_alike join
-- each matched item goes, and the unmatched brackets stay
removal_edits items from to None =
    map (λ at. Change at 1 []) (filter (λ at. not (is_unmatched items from to at)) (places_in from to))

abbrev pub removal : List PlainItem → ℕ → ℕ → Result Transaction BuildCause
removal items from to =
    if is_bad_removal items from to then Err (BadRange from to)
    else Ok (transaction_of items (removal_edits items from to (join_at items (unmatched_places items from to))))
