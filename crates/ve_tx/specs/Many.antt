-- Attributes in slots, a map of their names, and the numbers of slots in an order.
use Rattle.std.specs.Prelude.{◌≡◌, ◌<◌, ◌≤◌, ℕ, if◌then◌else◌, List, [], ◌∷◌, length, map, get_or, Option, Some}
use Rattle.std.specs.List.{AllByRecursion}
use Rattle.std.specs.Str.{chars, encode_utf8_all}
use Rattle.ve_base.specs.declared.attrs.Attr.{Attr}
use Rattle.model_items.specs.Same.{text_same}
use Rattle.ve_tx.specs.Order.{EachOnce}

-- the attribute in a slot
abbrev pub slot_at : List Attr → ℕ → Attr
slot_at slots number = get_or slots number (record { name = []; value = [] })

-- the attributes in these slots, in the order of the numbers
abbrev pub ordered : List Attr → List ℕ → List Attr
ordered slots order = map (slot_at slots) order

-- the name in a slot, in UTF-8
abbrev pub bytes_at : List Attr → ℕ → List ℕ
bytes_at slots number = encode_utf8_all (slot_at slots number).name

-- there is such a slot, and its name is spelled so
abbrev pub HasName : List Attr → ℕ → List ℕ → Type 0
HasName slots number bytes = (number < length slots) × ((slot_at slots number).name ≡ chars bytes)

-- what a map has under bytes
abbrev pub Numbers : Type 0
Numbers = List ℕ → Option ℕ

-- a map has this number under these bytes, and under others what it had before
abbrev pub Notes : (before : Numbers) (name : List ℕ) (number : ℕ) (after : Numbers) → Type 0
Notes before name number after =
    (bytes : List ℕ) → after bytes ≡ (if text_same bytes name then Some number else before bytes)

-- the map has the numbers of the order under their slots' names; it may have more names
pub record IsIndexed (slots : List Attr) (numbers : Numbers) (order : List ℕ) : Type 0 where
  pub within : AllByRecursion (λ n. n < length slots) order
  pub told : AllByRecursion (λ n. numbers (bytes_at slots n) ≡ Some n) order
  -- whatever name it has is that of the slot
  pub known : (bytes : List ℕ) (n : ℕ) → numbers bytes ≡ Some n → HasName slots n bytes
  pub once : EachOnce order
  pub few : length order ≤ length slots
