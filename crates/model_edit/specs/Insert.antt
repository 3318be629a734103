-- The insertion of pieces, of text, and the split of open nodes.
use Rattle.std.specs.Prelude.{ℕ, zero, suc, ◌-◌, Bool, true, false, not, ◌&&◌, ◌||◌, ◌==◌, nat_le, nat_lt, if◌then◌else◌, List, [], ◌∷◌, ◌++◌, length, map, reverse, take, slice_get, Option, Some, None, option_map, Result, Ok, Err}
use Rattle.std.specs.List.{list_all, list_any}
use Rattle.ve_kinds.specs.declared.kind.Kind.{Kind}
use Rattle.ve_kinds.specs.declared.kind.Kind.TheVariants.{Root, P}
use Rattle.ve_base.specs.declared.marks.Mark.{Mark}
use Rattle.model_items.specs.declared.plain_item.PlainItem.{PlainItem}
use Rattle.model_items.specs.declared.plain_item.PlainItem.TheVariants.{Char, Opening, Closing}
use Rattle.ve_kinds.specs.Table.{may_hold, is_content_branch, is_inline_leaf}
use Rattle.model_change.specs.Transaction.{Transaction}
use Rattle.model_edit.specs.Causes.{BuildCause, BadOffset, NoPlace, NotContent, BadDepth}
use Rattle.model_edit.specs.Brackets.{opening_of, closing_of, closing_for, copy_of, is_internal}
use Rattle.model_items.specs.Offsets.{openings_at, stack_at, kind_at, is_content, is_inside_leaf, partner}
use Rattle.model_edit.specs.Edits.{Change, transaction_of}

-- nothing can be put there: at the end or past it, or inside a leaf
abbrev pub is_bad_offset : List PlainItem → ℕ → Bool
is_bad_offset items at = nat_le (length items) at || is_inside_leaf items at

-- the characters and openings of pieces that stand inside no other piece
abbrev pub outer_items : ℕ → List PlainItem → List PlainItem
outer_items depth [] = []
outer_items zero (Char c marks ∷ items) = Char c marks ∷ outer_items zero items
outer_items (suc depth) (Char c marks ∷ items) = outer_items (suc depth) items
outer_items zero (Opening kind head marks pre origin generated ∷ items) =
    Opening kind head marks pre origin generated ∷ outer_items 1 items
outer_items (suc depth) (Opening kind head marks pre origin generated ∷ items) = outer_items (suc (suc depth)) items
outer_items depth (Closing kind pre ∷ items) = outer_items (depth - 1) items

abbrev pub is_content_item : PlainItem → Bool
is_content_item (Char c marks) = true
is_content_item (Opening kind head marks pre origin generated) = is_inline_leaf kind
is_content_item (Closing kind pre) = false

abbrev pub is_content_pieces : List PlainItem → Bool
is_content_pieces pieces = list_all is_content_item (outer_items 0 pieces)

-- content and blocks side by side
abbrev pub is_mixed : List PlainItem → Bool
is_mixed pieces = list_any is_content_item (outer_items 0 pieces) && not (is_content_pieces pieces)

abbrev pub may_hold_item : Kind → PlainItem → Bool
may_hold_item parent (Char c marks) = is_content_branch parent
may_hold_item parent (Opening kind head marks pre origin generated) = may_hold parent kind
may_hold_item parent (Closing kind pre) = false

abbrev pub may_hold_pieces : Kind → List PlainItem → Bool
may_hold_pieces parent pieces = list_all (may_hold_item parent) (outer_items 0 pieces)

-- content outside every content branch is put into a paragraph
abbrev pub in_paragraph : Kind → List PlainItem → List PlainItem
in_paragraph parent pieces =
    if is_content_pieces pieces && not (is_content_branch parent)
    then opening_of P [] ∷ pieces ++ closing_of P ∷ []
    else pieces

-- how far out the innermost kind stands that may hold the pieces, the root past the outermost; no
-- internal list or item is left
abbrev pub levels_up : List PlainItem → List Kind → Option ℕ
levels_up pieces [] = if may_hold_pieces Root pieces then Some 0 else None
levels_up pieces (inner ∷ outer) =
    if may_hold_pieces inner pieces then Some 0
    else (if is_internal inner then None else option_map (λ j. suc j) (levels_up pieces outer))

-- open nodes, by their openings, innermost first, are closed, and after the pieces opened again
abbrev pub reopened : List PlainItem → List PlainItem → List PlainItem
reopened openings pieces = map closing_for openings ++ (pieces ++ reverse (map copy_of openings))

abbrev pub put_into : List PlainItem → ℕ → List PlainItem → Option ℕ → Result Transaction BuildCause
put_into items at pieces None = Err (NoPlace at)
put_into items at pieces (Some j) = Ok (transaction_of items (Change at 0 (reopened (take j (openings_at items at)) pieces) ∷ []))

abbrev pub insertion : List PlainItem → ℕ → List PlainItem → Result Transaction BuildCause
insertion items at pieces =
    if is_bad_offset items at then Err (BadOffset at)
    else (if is_mixed pieces then Err (NoPlace at)
    else (let placed = in_paragraph (kind_at items at) pieces in
    put_into items at placed (levels_up placed (stack_at items at))))

abbrev pub marks_of : Option PlainItem → List Mark
marks_of (Some (Char c marks)) = marks
marks_of (Some (Opening kind head marks pre origin generated)) = marks
marks_of _ = []

-- the marks of a character, or of the inline leaf that ends here
abbrev pub marks_after : Option PlainItem → List PlainItem → ℕ → List Mark
marks_after (Some (Char c marks)) items at = marks
marks_after (Some (Closing kind pre)) items at = if is_inline_leaf kind then marks_of (slice_get items (partner items at)) else []
marks_after _ items at = []

abbrev pub marks_before : List PlainItem → ℕ → List Mark
marks_before items zero = []
marks_before items (suc at) = marks_after (slice_get items at) items at

-- characters with these marks
abbrev pub text_pieces : List Mark → List ℕ → List PlainItem
text_pieces marks text = map (λ c. Char c marks) text

-- typing, with the marks of what stands to the left
abbrev pub text_insertion : List PlainItem → ℕ → List ℕ → Result Transaction BuildCause
text_insertion items at text = insertion items at (text_pieces (marks_before items at) text)

abbrev pub plain_text_insertion : List PlainItem → ℕ → List ℕ → Result Transaction BuildCause
plain_text_insertion items at text = insertion items at (text_pieces [] text)

abbrev pub is_bad_depth : List Kind → ℕ → Bool
is_bad_depth stack depth = (depth == 0) || (nat_lt (length stack) depth || list_any is_internal (take depth stack))

abbrev pub split : List PlainItem → ℕ → ℕ → Result Transaction BuildCause
split items at depth =
    if is_bad_offset items at then Err (BadOffset at)
    else (if not (is_content items at) then Err (NotContent at)
    else (if is_bad_depth (stack_at items at) depth then Err (BadDepth depth)
    else Ok (transaction_of items (Change at 0 (reopened (take depth (openings_at items at)) []) ∷ []))))
