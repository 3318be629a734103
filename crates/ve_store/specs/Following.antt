-- Values that are to follow a store.
use Rattle.std.specs.Prelude.{◌≡◌, ℕ, List, ◌++◌, false, [], ◌∷◌, Option, IfSome, length, take}
use Rattle.std.specs.List.{list_any, position_or_len}
use Rattle.ve_base.specs.declared.marks.Mark.{Mark}
use Rattle.ve_base.specs.declared.value.Value.{Value}
use Rattle.ve_base.specs.declared.value.Value.TheVariants as value
use Rattle.ve_base.specs.declared.value.ValueId.{ValueId}
use Rattle.model_items.specs.Plain.{marks_in, value_at}
use Rattle.model_items.specs.Same.{mark_same, value_same}
use Rattle.model_items.specs.Marks.{without_mark}

pub record Following : Type 0 where
  -- the length of the store
  pub after : ℕ
  pub values : List Value

-- the same store, and the same values first
abbrev pub Grows : Following → Following → Type 0
Grows old new = (new.after ≡ old.after) × (take (length old.values) new.values ≡ old.values)

-- the values of the store, and after them those that follow
abbrev pub together : List Value → Following → List Value
together store new = store ++ new.values

-- the marks that an item cites
abbrev pub marks_at : List Value → Option ValueId → List Mark
marks_at values marks = marks_in (value_at values marks)

-- the marks that an item cites, in the store or in what follows it
abbrev pub marks_cited : List Value → Following → Option ValueId → List Mark
marks_cited store new marks = marks_at (together store new) marks

-- the cited number, if there is one, is the first position where the value stands, or else the end
abbrev pub IsFirstPlace : List Value → Value → Option ValueId → Type 0
IsFirstPlace values v id = IfSome id (λ place. place.0 ≡ position_or_len (value_same v) values)

-- the first position of an item's marks with one more, where that is new among them
abbrev pub IsPlaceMarked : List Value → Option ValueId → Mark → Option ValueId → Type 0
IsPlaceMarked values marks mark id =
    list_any (mark_same mark) (marks_at values marks) ≡ false → IsFirstPlace values (value.Marks (marks_at values marks ++ mark ∷ [])) id

-- the first position of an item's marks without one
abbrev pub IsPlaceUnmarked : List Value → Option ValueId → Mark → Option ValueId → Type 0
IsPlaceUnmarked values marks mark id = IsFirstPlace values (value.Marks (without_mark mark (marks_at values marks))) id
