-- A join as the code keeps it, and the edits of a removal.
use Rattle.std.specs.Prelude.{◌≡◌, ℕ, List, Option, option_map, slice_get}
use Rattle.ve_base.specs.declared.value.Value.{Value}
use Rattle.model_items.specs.declared.item.Item.{Item}
use Rattle.model_items.specs.declared.plain_item.PlainItem.{PlainItem}
use Rattle.model_items.specs.Offsets.{partner, unmatched_places}
use Rattle.model_items.specs.Plain.{plain_list}
use Rattle.model_edit.specs.Edits.{Edit}
use Rattle.model_edit.specs.Remove as model
use Rattle.ve_build_remove.specs.declared.join.Join.{Join}

-- the join of the model
abbrev pub join_of : Join → model.Join
join_of join = record { first = join.first; second = join.second; second_closing = join.second_closing }

-- the join of the branch that one item closes, which is given over each list of values, to the
-- branch that the item at q opens
abbrev pub IsJoinTo : List Item → (List Value → Option PlainItem) → ℕ → Option Join → Type 0
IsJoinTo items first q join =
    (values : List Value) →
    option_map join_of join ≡ model.join_by (first values) (slice_get (plain_list values items) q) (partner (plain_list values items) q)

-- the item at a position, by value
abbrev pub item_at : List Item → ℕ → List Value → Option PlainItem
item_at items p values = slice_get (plain_list values items) p

-- the edits that remove a range which may be removed
abbrev pub edits_between : (from to : ℕ) → List PlainItem → List Edit
edits_between from to items = model.removal_edits items from to (model.join_at items (unmatched_places items from to))
