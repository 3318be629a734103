-- Where a transaction applies to a list, and the first cause where it does not.
use Rattle.std.specs.Option.{option_or}
use Rattle.std.specs.Prelude.{◌≡◌, ◌≢◌, ℕ, suc, ◌+◌, Bool, true, false, ◌==◌, if◌then◌else◌, List, [], ◌∷◌, ◌++◌, length, drop, All, slice_get, Option, Some, None, Result, Ok, Err, option_map}
use Rattle.model_items.specs.declared.plain_item.PlainItem.{PlainItem}
use Rattle.model_items.specs.Same.{item_same}
use Rattle.model_change.specs.declared.tx_fault.TxFault.{TxFault}
use Rattle.model_change.specs.declared.tx_fault.TxFault.TheVariants.{BadLength, Mismatch, BadAttr, Memory}
use Rattle.model_change.specs.Attributes.{AttrChange, item_changed, allows, AllNamesApart}
use Rattle.model_change.specs.Transaction.{Retain, Replace, Attribute, Transaction, old_length, new_length, on_first, edited, is_reduced, InsertedApart}

-- the first position where the items do not begin with those removed
abbrev pub differs_at : ℕ → List PlainItem → List PlainItem → Option ℕ
differs_at at [] items = None
differs_at at (one ∷ removed) [] = Some at
differs_at at (one ∷ removed) (item ∷ items) = if item_same one item then differs_at (suc at) removed items else Some at

-- the first position where an item that is to be removed is not the list's; `at` is the position of
-- the first operation
abbrev pub mismatch_at : ℕ → Transaction → List PlainItem → Option ℕ
mismatch_at at [] items = None
mismatch_at at (Retain count ∷ ops) items = mismatch_at (at + count) ops (drop count items)
mismatch_at at (Replace removed inserted ∷ ops) items =
    option_or (differs_at at removed items) (mismatch_at (at + length removed) ops (drop (length removed) items))
mismatch_at at (Attribute change ∷ ops) items = mismatch_at at ops (on_first (item_changed change) items)

abbrev pub first_allows : AttrChange → List PlainItem → Bool
first_allows change [] = false
first_allows change (item ∷ items) = allows change item

-- the first position where an attribute operation is not allowed, those before it at that position
-- being done
abbrev pub bad_attribute_at : ℕ → Transaction → List PlainItem → Option ℕ
bad_attribute_at at [] items = None
bad_attribute_at at (Retain count ∷ ops) items = bad_attribute_at (at + count) ops (drop count items)
bad_attribute_at at (Replace removed inserted ∷ ops) items = bad_attribute_at (at + length removed) ops (drop (length removed) items)
bad_attribute_at at (Attribute change ∷ ops) items =
    if first_allows change items then bad_attribute_at at ops (on_first (item_changed change) items) else Some at

-- why the transaction does not apply, if it does not, each cause by the name it is given: lengths
-- come first, then what differs, then attributes
abbrev pub fault_as : {F : Type 0} → (bad_length : ℕ → ℕ → F) (mismatch bad_attribute : ℕ → F) → Transaction → List PlainItem → Option F
fault_as bad_length mismatch bad_attribute t items =
    if old_length t == length items
    then option_or (option_map mismatch (mismatch_at 0 t items)) (option_map bad_attribute (bad_attribute_at 0 t items))
    else Some (bad_length (length items) (old_length t))

abbrev pub fault : Transaction → List PlainItem → Option TxFault
fault t items = fault_as (λ has needs. BadLength has needs) (λ at. Mismatch at) (λ at. BadAttr at) t items

abbrev pub apply_unless : Option TxFault → List PlainItem → Result (List PlainItem) TxFault
apply_unless None new = Ok new
apply_unless (Some f) new = Err f

abbrev pub apply : Transaction → List PlainItem → Result (List PlainItem) TxFault
apply t items = apply_unless (fault t items) (edited t items)

abbrev pub Applies : Transaction → List PlainItem → Type 0
Applies t items = fault t items ≡ None

-- each item that is removed, with its position in the old list
abbrev pub placed_removed : ℕ → List PlainItem → List (ℕ × PlainItem)
placed_removed at [] = []
placed_removed at (item ∷ items) = (at, item) ∷ placed_removed (suc at) items

abbrev pub removals : ℕ → Transaction → List (ℕ × PlainItem)
removals at [] = []
removals at (Retain count ∷ ops) = removals (at + count) ops
removals at (Replace removed inserted ∷ ops) = placed_removed at removed ++ removals (at + length removed) ops
removals at (Attribute change ∷ ops) = removals at ops

-- the attribute operations with their positions in the old list
abbrev pub placed_changes : ℕ → Transaction → List (ℕ × AttrChange)
placed_changes at [] = []
placed_changes at (Retain count ∷ ops) = placed_changes (at + count) ops
placed_changes at (Replace removed inserted ∷ ops) = placed_changes (at + length removed) ops
placed_changes at (Attribute change ∷ ops) = (at, change) ∷ placed_changes at ops

-- the item is the list's at its position
abbrev pub StandsAt : List PlainItem → ℕ × PlainItem → Type 0
StandsAt items (at, item) = slice_get items at ≡ Some item

-- the list has an item at the position that allows the change
abbrev pub MayChange : List PlainItem → ℕ × AttrChange → Type 0
MayChange items (at, change) = (item : PlainItem) × (slice_get items at ≡ Some item) × (allows change item ≡ true)

-- the first of the placed that fails, with its position
pub record FirstAt {A : Type 0} (Holds : ℕ × A → Type 0) (placed : List (ℕ × A)) (at : ℕ) : Type 0 where
  pub prefix : List (ℕ × A)
  pub one : A
  pub suffix : List (ℕ × A)
  pub parts : placed ≡ prefix ++ ((at, one) ∷ suffix)
  pub fine : All Holds prefix
  pub fails : ¬ Holds (at, one)

-- A cause, in words of positions in the old list alone.
abbrev pub IsFault : Transaction → List PlainItem → Option TxFault → Type 0
IsFault t items (Some (BadLength has needs)) = (has ≡ length items) × (needs ≡ old_length t) × (has ≢ needs)
IsFault t items (Some (Mismatch at)) = (old_length t ≡ length items) × FirstAt (StandsAt items) (removals 0 t) at
IsFault t items (Some (BadAttr at)) =
    (old_length t ≡ length items) × All (StandsAt items) (removals 0 t) × FirstAt (MayChange items) (placed_changes 0 t) at
IsFault t items (Some Memory) = ⊥
IsFault t items None = (old_length t ≡ length items) × All (StandsAt items) (removals 0 t) × All (MayChange items) (placed_changes 0 t)

-- The cause that is given is this one. For `Mismatch`, every removed item before it is the list's,
-- and at its position the list's item differs. For `BadAttr`, every removed item is the list's, and
-- it is the first attribute operation that is not allowed.
abbrev pub FaultIsFirst : Type 0
FaultIsFirst = (t : Transaction) (items : List PlainItem) → is_reduced t ≡ true → IsFault t items (fault t items)

-- And no other cause is.
abbrev pub FaultIsOnly : Type 0
FaultIsOnly = (t : Transaction) (items : List PlainItem) (why : Option TxFault) → is_reduced t ≡ true → IsFault t items why →
    fault t items ≡ why

-- The list that a transaction gives has its new length.
abbrev pub GivesNewLength : Type 0
GivesNewLength = (t : Transaction) (items : List PlainItem) → Applies t items → length (edited t items) ≡ new_length t

-- Names stay apart.
abbrev pub NamesStayApart : Type 0
NamesStayApart = (t : Transaction) (items : List PlainItem) → Applies t items → InsertedApart t → AllNamesApart items →
    AllNamesApart (edited t items)
