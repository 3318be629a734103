-- A change of a list as edits at rising positions, and the one transaction in normal form that
-- makes it.
use Rattle.std.specs.Prelude.{ℕ, zero, suc, ◌+◌, ◌-◌, ◌≤◌, ◌≡◌, Bool, true, false, not, ◌&&◌, List, [], ◌∷◌, ◌++◌, length, take, drop, Option, None}
use Rattle.model_items.specs.declared.plain_item.PlainItem.{PlainItem}
use Rattle.model_items.specs.declared.plain_item.PlainItem.TheVariants.{Opening}
use Rattle.ve_kinds.specs.Table.{is_element}
use Rattle.model_change.specs.Attributes.{AttrChange, value_of, change_filled, item_changed, is_reserved}
use Rattle.model_change.specs.Transaction.{Retain, Replace, Attribute, Transaction, on_first}

pub data Edit : Type 0 where
  -- `count` items from a position on are replaced
  Change : (at count : ℕ) (inserted : List PlainItem) → Edit
  -- an attribute of the opening at a position is set, or removed
  Set : (at : ℕ) (name : List ℕ) (to : Option (List ℕ)) → Edit

-- a transaction after n retained items
abbrev pub retaining : ℕ → Transaction → Transaction
retaining zero t = t
retaining (suc n) [] = Retain (suc n) ∷ []
retaining (suc n) (Retain count ∷ ops) = Retain (suc n + count) ∷ ops
retaining (suc n) (Replace removed inserted ∷ ops) = Retain (suc n) ∷ Replace removed inserted ∷ ops
retaining (suc n) (Attribute change ∷ ops) = Retain (suc n) ∷ Attribute change ∷ ops

-- neighbouring replaces are one
abbrev pub merged : List PlainItem → List PlainItem → Transaction → Transaction
merged removed inserted [] = Replace removed inserted ∷ []
merged removed inserted (Replace next others ∷ ops) = Replace (removed ++ next) (inserted ++ others) ∷ ops
merged removed inserted (Retain count ∷ ops) = Replace removed inserted ∷ Retain count ∷ ops
merged removed inserted (Attribute change ∷ ops) = Replace removed inserted ∷ Attribute change ∷ ops

-- a transaction after a replace, unless that does nothing
abbrev pub replacing : List PlainItem → List PlainItem → Transaction → Transaction
replacing [] [] t = t
replacing [] (one ∷ inserted) t = merged [] (one ∷ inserted) t
replacing (one ∷ removed) inserted t = merged (one ∷ removed) inserted t

abbrev pub present_value : List ℕ → List PlainItem → Option (List ℕ)
present_value name (Opening kind head marks pre origin generated ∷ items) = value_of name head.attrs
present_value name _ = None

-- the operation that sets an attribute of the first item
abbrev pub setting : List ℕ → Option (List ℕ) → List PlainItem → AttrChange
setting name to [] = record { name = name; from = None; to = to; kept = None }
setting name to (item ∷ items) =
    change_filled (record { name = name; from = present_value name (item ∷ items); to = to; kept = None }) item

-- over the items from the position `at` on
abbrev pub transaction_from : ℕ → List PlainItem → List Edit → Transaction
transaction_from at items [] = retaining (length items) []
transaction_from at items (Change place count inserted ∷ edits) =
    let rest = drop (place - at) items in
    retaining (place - at) (replacing (take count rest) inserted (transaction_from (place + count) (drop count rest) edits))
transaction_from at items (Set place name to ∷ edits) =
    let rest = drop (place - at) items in
    retaining (place - at) (Attribute (setting name to rest) ∷ transaction_from place rest edits)

abbrev pub transaction_of : List PlainItem → List Edit → Transaction
transaction_of items edits = transaction_from 0 items edits

-- the list after the edits
abbrev pub substituted_from : ℕ → List PlainItem → List Edit → List PlainItem
substituted_from at items [] = items
substituted_from at items (Change place count inserted ∷ edits) =
    let rest = drop (place - at) items in
    take (place - at) items ++ (inserted ++ substituted_from (place + count) (drop count rest) edits)
substituted_from at items (Set place name to ∷ edits) =
    let rest = drop (place - at) items in
    take (place - at) items ++ substituted_from place (on_first (item_changed (setting name to rest)) rest) edits

abbrev pub substituted : List PlainItem → List Edit → List PlainItem
substituted items edits = substituted_from 0 items edits

-- the edits stand at rising positions up to `end`, and past each opening of which an attribute is
-- set
abbrev pub InOrder : (at end : ℕ) → List Edit → Type 0
InOrder at end [] = at ≤ end
InOrder at end (Change place count inserted ∷ edits) = (at ≤ place) × InOrder (place + count) end edits
InOrder at end (Set place name to ∷ edits) = (at ≤ place) × InOrder (suc place) end edits

-- an element opens here, and the name may be set
abbrev pub may_set : List ℕ → List PlainItem → Bool
may_set name (Opening kind head marks pre origin generated ∷ items) = is_element kind && not (is_reserved name)
may_set name _ = false

abbrev pub MaySet : ℕ → List PlainItem → List Edit → Type 0
MaySet at items [] = Unit {0}
MaySet at items (Change place count inserted ∷ edits) = MaySet (place + count) (drop count (drop (place - at) items)) edits
MaySet at items (Set place name to ∷ edits) = (may_set name (drop (place - at) items) ≡ true) × MaySet place (drop (place - at) items) edits
