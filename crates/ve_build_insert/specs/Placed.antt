-- Conditions on pieces, and where they may stand.
use Rattle.std.specs.Prelude.{◌≡◌, ◌<◌, ℕ, zero, suc, ◌-◌, Bool, true, false, not, if◌then◌else◌, List, [], ◌∷◌, ◌++◌, length, All, Option, None, option_map, Result}
use Rattle.ve_base.specs.declared.value.Value.{Value}
use Rattle.ve_kinds.specs.declared.kind.Kind.{Kind}
use Rattle.ve_kinds.specs.declared.kind.Kind.TheVariants.{P}
use Rattle.model_items.specs.declared.item.Item.{Item}
use Rattle.model_items.specs.declared.plain_item.PlainItem.{PlainItem}
use Rattle.model_items.specs.declared.plain_item.PlainItem.TheVariants.{Char, Opening, Closing}
use Rattle.model_items.specs.Law.{State, top}
use Rattle.model_items.specs.Plain.{plain_list, CitesWell}
use Rattle.model_edit.specs.Brackets.{opening_of, closing_of}
use Rattle.model_edit.specs.Insert.{is_content_item, may_hold_item, is_mixed, in_paragraph, levels_up, is_bad_offset, insertion}
use Rattle.model_change.specs.Transaction.{Transaction}
use Rattle.model_edit.specs.Causes.{BuildCause}
use Rattle.ve_offsets.specs.declared.doc.Doc.{Doc}
use Rattle.ve_offsets.specs.Docs.{page_items}
use Rattle.ve_offsets.specs.States.{IsStateAt}
use Rattle.ve_store.specs.Following.{Following, together}
use Rattle.ve_build_insert.specs.declared.pieces.Question.{Question}
use Rattle.ve_build_insert.specs.declared.pieces.Question.TheVariants.{IsContent, IsBlock, IsHeldBy}
use Rattle.ve_build_insert.specs.declared.place.Place.{Place}

-- the answer that an item gives
abbrev pub item_answer : Question → PlainItem → Bool
item_answer IsContent = is_content_item
item_answer IsBlock = λ item. not (is_content_item item)
item_answer (IsHeldBy parent) = may_hold_item parent

-- how many pieces are open after an item
abbrev pub depth_after : ℕ → PlainItem → ℕ
depth_after depth (Char c marks) = depth
depth_after depth (Opening kind head marks pre origin generated) = suc depth
depth_after depth (Closing kind pre) = depth - 1

-- An item that stands in another piece isn't asked, nor is a closing.
abbrev pub passes_outer : Question → ℕ → PlainItem → Bool
passes_outer question (suc depth) item = true
passes_outer question zero (Closing kind pre) = true
passes_outer question zero (Char c marks) = item_answer question (Char c marks)
passes_outer question zero (Opening kind head marks pre origin generated) = item_answer question (Opening kind head marks pre origin generated)

-- the pieces, in a paragraph where they are to stand in one
abbrev pub framed : Bool → List PlainItem → List PlainItem
framed paragraph pieces = if paragraph then opening_of P [] ∷ pieces ++ closing_of P ∷ [] else pieces

-- the items are these, over every list of values
abbrev pub IsPlaced : Bool → List Item → List Item → Type 0
IsPlaced paragraph pieces items = (values : List Value) → plain_list values items ≡ framed paragraph (plain_list values pieces)

-- and they cite nothing but what the pieces do
abbrev pub CitesAsPieces : List Item → List Item → Type 0
CitesAsPieces pieces items = (values : List Value) → All (CitesWell values) pieces → All (CitesWell values) items

-- Something may be put at the offset, and the items before it lead to the state.
pub record IsOpenAt (items : List Item) (at : ℕ) (state : State) : Type 0 where
  pub within : at < length items
  pub leads : IsStateAt items at state
  pub good : (values : List Value) → is_bad_offset (plain_list values items) at ≡ false

-- the pieces as they stand where these kinds are open, and how many of the nodes they leave
abbrev pub placement : List Kind → List PlainItem → Option (List PlainItem × ℕ)
placement stack pieces =
    if is_mixed pieces then None
    else (let items = in_paragraph (top stack) pieces in
    option_map (λ levels. (items, levels)) (levels_up items stack))

-- the pieces at their place
abbrev pub placed_at : List PlainItem → Place → List PlainItem × ℕ
placed_at pieces place = (framed place.paragraph pieces, place.levels)

-- That is the placement, over every list of values.
abbrev pub ArePlaced : List Kind → List Item → Option Place → Type 0
ArePlaced stack pieces found = (values : List Value) → option_map (placed_at (plain_list values pieces)) found ≡ placement stack (plain_list values pieces)

-- the meaning of inserting pieces into a page, where they are read with what follows its store
abbrev pub insertion_meant : Doc → Following → ℕ → List Item → Result Transaction BuildCause
insertion_meant doc new at pieces = insertion (page_items doc) at (plain_list (together doc.store.now new) pieces)
