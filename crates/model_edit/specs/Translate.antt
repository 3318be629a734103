-- Where offsets and selections stand after a change.
use Rattle.std.specs.Prelude.{ℕ, suc, ◌+◌, ◌-◌, min, Bool, ◌==◌, nat_le, nat_lt, if◌then◌else◌, List, [], ◌∷◌, length}
use Rattle.model_items.specs.declared.plain_item.PlainItem.{PlainItem}
use Rattle.model_change.specs.Transaction.{Retain, Replace, Attribute, Transaction}
use Rattle.model_items.specs.Offsets.{is_inside_leaf}
use Rattle.model_edit.specs.declared.selection.Bias.{Bias}
use Rattle.model_edit.specs.declared.selection.Bias.TheVariants.{Left, Right}
use Rattle.model_edit.specs.declared.selection.Selection.{Selection}

-- an insertion at a position counts as before the offset
abbrev pub is_before : Bias → (place offset : ℕ) → Bool
is_before Left place offset = nat_lt place offset
is_before Right place offset = nat_le place offset

-- the items of the new list that come from old items before the offset, or were inserted before it;
-- `at` old items are after
abbrev pub items_before : Bias → (offset at : ℕ) → Transaction → ℕ
items_before bias offset at [] = 0
items_before bias offset at (Retain count ∷ ops) = min count (offset - at) + items_before bias offset (at + count) ops
items_before bias offset at (Replace removed inserted ∷ ops) =
    (if is_before bias at offset then length inserted else 0) + items_before bias offset (at + length removed) ops
items_before bias offset at (Attribute change ∷ ops) = items_before bias offset at ops

abbrev pub translate : Transaction → ℕ → Bias → ℕ
translate t offset bias = items_before bias offset 0 t

abbrev pub between : ℕ → ℕ → Selection
between anchor focus = record { anchor = anchor; focus = focus }

-- the lower end keeps to the right of what is inserted there, and the higher to the left; a caret
-- keeps to the left
abbrev pub translate_range : Transaction → Selection → Selection
translate_range t s =
    if s.anchor == s.focus then between (translate t s.anchor Left) (translate t s.focus Left)
    else (if nat_lt s.anchor s.focus then between (translate t s.anchor Right) (translate t s.focus Left)
    else between (translate t s.anchor Left) (translate t s.focus Right))

-- past the closing of the leaf that it stands inside, if it does
abbrev pub past_leaf : List PlainItem → ℕ → ℕ
past_leaf items at = if is_inside_leaf items at then suc at else at

-- a site's selection in the new list
abbrev pub moved_selection : Transaction → List PlainItem → Selection → Selection
moved_selection t new s = let r = translate_range t s in between (past_leaf new r.anchor) (past_leaf new r.focus)
