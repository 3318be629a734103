-- Where offsets and selections stand after a change, in words of the items round them.
use Rattle.std.specs.Prelude.{◌≡◌, ℕ, suc, ◌+◌, ◌<◌, ◌≤◌, min, max, Bool, ◌&&◌, nat_le, nat_lt, List, length, Some}
use Rattle.model_items.specs.declared.plain_item.PlainItem.{PlainItem}
use Rattle.model_change.specs.Transaction.{Transaction, old_length, new_length, edited}
use Rattle.model_change.specs.Fault.{Applies}
use Rattle.model_change.specs.Join.{start_of, end_of}
use Rattle.model_change.specs.Touch.{new_place}
use Rattle.model_edit.specs.declared.selection.Bias.{Bias}
use Rattle.model_edit.specs.declared.selection.Bias.TheVariants.{Left, Right}
use Rattle.model_edit.specs.declared.selection.Selection.{Selection}
use Rattle.model_edit.specs.Translate.{translate, translate_range, moved_selection}

-- An offset leads to one of the new list.
abbrev pub OffsetsStayWithin : Type 0
OffsetsStayWithin = (t : Transaction) (items : List PlainItem) (offset : ℕ) (bias : Bias) → Applies t items →
    translate t offset bias ≤ length (edited t items)

-- Offsets keep their order, whichever side each keeps to.
pub record KeptInOrder (t : Transaction) (low high : ℕ) : Type 0 where
  pub sides : translate t low Left ≤ translate t low Right
  pub apart : low < high → translate t low Right ≤ translate t high Left
  pub alike : (bias : Bias) → low ≤ high → translate t low bias ≤ translate t high bias

abbrev pub OffsetsKeepOrder : Type 0
OffsetsKeepOrder = (t : Transaction) (low high : ℕ) → KeptInOrder t low high

-- Beside a retained item an offset stays beside it: just before it one that keeps to the right,
-- just after it one that keeps to the left.
abbrev pub OffsetsKeepNeighbours : Type 0
OffsetsKeepNeighbours = (t : Transaction) (at to : ℕ) → new_place t at ≡ Some to →
    (translate t at Right ≡ to) × (translate t (suc at) Left ≡ suc to)

-- Before the active range an offset stays, and after it it moves by the difference of the lengths.
-- At an end of the range it does so on the outer side.
pub record StaysOutside (t : Transaction) (offset : ℕ) : Type 0 where
  pub before : offset < start_of t → (bias : Bias) → translate t offset bias ≡ offset
  pub past : end_of t < offset → offset ≤ old_length t → (bias : Bias) → translate t offset bias + old_length t ≡ offset + new_length t
  pub at_start : offset ≡ start_of t → translate t offset Left ≡ offset
  pub at_end : offset ≡ end_of t → offset ≤ old_length t → translate t offset Right + old_length t ≡ offset + new_length t

abbrev pub OffsetsOutsideStay : Type 0
OffsetsOutsideStay = (t : Transaction) (offset : ℕ) → StaysOutside t offset

-- the item at a position stands between the two ends
abbrev pub selects : Selection → ℕ → Bool
selects s at = nat_le (min s.anchor s.focus) at && nat_lt at (max s.anchor s.focus)

-- A retained item is selected exactly where it was.
abbrev pub SelectionKeepsItems : Type 0
SelectionKeepsItems = (t : Transaction) (s : Selection) (at to : ℕ) → new_place t at ≡ Some to →
    selects (translate_range t s) to ≡ selects s at

-- A selection never turns round, and a caret stays one, also where ends move out of leaves.
pub record KeepsDirection (old new : Selection) : Type 0 where
  pub forward : old.anchor ≤ old.focus → new.anchor ≤ new.focus
  pub backward : old.focus ≤ old.anchor → new.focus ≤ new.anchor

abbrev pub SelectionKeepsDirection : Type 0
SelectionKeepsDirection = (t : Transaction) (new : List PlainItem) (s : Selection) →
    KeepsDirection s (translate_range t s) × KeepsDirection s (moved_selection t new s)
