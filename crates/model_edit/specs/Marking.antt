-- Marks set or taken over a range.
use Rattle.std.specs.Prelude.{ℕ, Bool, not, ◌||◌, nat_lt, if◌then◌else◌, List, [], ◌∷◌, length, flat_map, find, slice_get, Option, Some, None, Result, Ok, Err}
use Rattle.std.specs.List.{list_any}
use Rattle.ve_base.specs.Limits.{max_marks}
use Rattle.ve_base.specs.declared.attrs.Attr.{Attr}
use Rattle.ve_base.specs.declared.marks.Mark.{Mark}
use Rattle.model_items.specs.declared.plain_item.PlainItem.{PlainItem}
use Rattle.model_items.specs.declared.plain_item.PlainItem.TheVariants.{Char, Opening, Closing}
use Rattle.model_items.specs.Same.{marks_same}
use Rattle.model_items.specs.Marks.{with_mark, without_mark}
use Rattle.model_change.specs.Attributes.{is_reserved}
use Rattle.model_change.specs.Transaction.{Transaction}
use Rattle.model_edit.specs.Causes.{BuildCause, BadRange, BadMark, TooManyMarks}
use Rattle.ve_kinds.specs.Table.{is_inline_leaf}
use Rattle.ve_kinds.specs.Tags.{annotation_tags, is_one_of}
use Rattle.model_items.specs.Offsets.{is_bad_span, places_in, passes}
use Rattle.model_edit.specs.Edits.{Edit, Change, transaction_of}

abbrev pub is_bad_mark : Mark → Bool
is_bad_mark m = not (is_one_of annotation_tags m.tag) || list_any (λ (a : Attr). is_reserved a.name) m.attrs

-- an item's marks changed, where it is a character or opens an inline leaf
abbrev pub remarked : (List Mark → List Mark) → PlainItem → PlainItem
remarked f (Char c marks) = Char c (f marks)
remarked f (Opening kind head marks pre origin generated) =
    Opening kind head (if is_inline_leaf kind then f marks else marks) pre origin generated
remarked f (Closing kind pre) = Closing kind pre

abbrev pub item_marks : PlainItem → List Mark
item_marks (Char c marks) = marks
item_marks (Opening kind head marks pre origin generated) = marks
item_marks (Closing kind pre) = []

abbrev pub remark_edit : (List Mark → List Mark) → ℕ → Option PlainItem → List Edit
remark_edit f at None = []
remark_edit f at (Some item) =
    if marks_same (item_marks (remarked f item)) (item_marks item) then [] else Change at 1 (remarked f item ∷ []) ∷ []

-- each item whose marks change is replaced
abbrev pub remark : (List Mark → List Mark) → List PlainItem → ℕ → ℕ → Transaction
remark f items from to =
    transaction_of items (flat_map (λ at. remark_edit f at (slice_get items at)) (places_in from to))

-- the item would have too many marks
abbrev pub is_full_for : Mark → PlainItem → Bool
is_full_for m item = nat_lt max_marks (length (item_marks (remarked (with_mark m) item)))

abbrev pub marked_unless : Option ℕ → Transaction → Result Transaction BuildCause
marked_unless (Some at) t = Err (TooManyMarks at)
marked_unless None t = Ok t

abbrev pub marking : List PlainItem → ℕ → ℕ → Mark → Result Transaction BuildCause
marking items from to m =
    if is_bad_span items from to then Err (BadRange from to)
    else (if is_bad_mark m then Err BadMark
    else marked_unless (find (λ at. passes (is_full_for m) (slice_get items at)) (places_in from to)) (remark (with_mark m) items from to))

abbrev pub unmarking : List PlainItem → ℕ → ℕ → Mark → Result Transaction BuildCause
unmarking items from to m =
    if is_bad_span items from to then Err (BadRange from to)
    else (if is_bad_mark m then Err BadMark else Ok (remark (without_mark m) items from to))
