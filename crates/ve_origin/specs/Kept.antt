-- Which nodes are kept.
use Rattle.std.specs.Prelude.{◌≡◌, ◌<◌, ◌≤◌, ℕ, zero, suc, Bool, true, false, List, [], ◌∷◌, length, take, drop}
use Rattle.std.specs.List.{list_any, slice_range}
use Rattle.ve_kinds.specs.declared.kind.Kind.TheVariants.{InternalList}
use Rattle.ve_kinds.specs.Table.{kind_same}
use Rattle.model_items.specs.declared.plain_item.PlainItem.{PlainItem}
use Rattle.model_items.specs.declared.plain_item.PlainItem.TheVariants.{Char, Opening, Closing}
use Rattle.model_page_write.specs.Nodes.{Carried, carried_items}
use Rattle.model_page_write.specs.Written.{is_empty}
use Rattle.model_page_write.specs.PageText.{node_from, node_with}

abbrev pub opens_notes : PlainItem → Bool
opens_notes (Char c marks) = false
opens_notes (Closing kind pre) = false
opens_notes (Opening kind head marks pre origin generated) = kind_same kind InternalList

-- the last item closes the node that is open, where so many more are open in it, and none before it
-- does
abbrev pub closes_last : ℕ → List PlainItem → Bool
closes_last depth [] = false
closes_last zero (Closing kind pre ∷ items) = is_empty items
closes_last (suc depth) (Closing kind pre ∷ items) = closes_last depth items
closes_last depth (Char c marks ∷ items) = closes_last depth items
closes_last depth (Opening kind head marks pre origin generated ∷ items) = closes_last (suc depth) items

-- the node that begins at a position
abbrev pub first_node : List Carried → List Carried
first_node [] = []
first_node (c ∷ cs) = c ∷ node_from cs 0

abbrev pub node_at : List Carried → ℕ → List Carried
node_at items at = first_node (drop at items)

-- The node of the origin k in the list that was first read is the range of these positions: it ends
-- with its closing, and stands before the internal list.
pub record IsNodeRange (items : List PlainItem) (k from to : ℕ) : Type 0 where
  pub some : from < to
  pub within : to ≤ length items
  pub is : node_with k (carried_items items) ≡ slice_range (carried_items items) from to
  pub closes : closes_last 0 (slice_range items (suc from) to) ≡ true
  pub outside : list_any opens_notes (take to items) ≡ false
