-- The result of passing a piece of a list, wherever the piece stands.
use Rattle.std.specs.Prelude.{◌≡◌, ◌+◌, ℕ, true, List, drop, slice_get, Some}
use Rattle.model_items.specs.declared.item.Item.{Item}
use Rattle.ve_write.specs.Siblings.{View, ending_at, is_end}
use Rattle.ve_write.specs.declared.ends.Passed.{Passed}

-- the rest after the nodes round the first position, where so many more nodes are open at the
-- second
abbrev pub Inside : List Item → ℕ → ℕ → ℕ → Type 0
Inside items from depth at = (v : View) → drop depth (ending_at v items at).outer ≡ (ending_at v items from).outer

-- the items of a piece stand in a list, from a position on
abbrev pub StandsAt : List Item → List Item → ℕ → Type 0
StandsAt items piece at = (n : ℕ) (item : Item) → slice_get piece n ≡ Some item → slice_get items (at + n) ≡ Some item

-- in every list where a piece stands, with so many nodes open before it: how many are open where
-- its items are passed
abbrev pub Passes : List Item → ℕ → Passed → Type 0
Passes piece depth passed = (items : List Item) (from at : ℕ) → StandsAt items piece at → Inside items from depth at → Inside items from passed.depth (at + passed.count)

-- no node is open there, and in every list where the piece stands siblings end there
pub record IsClosed (piece : List Item) (passed : Passed) : Type 0 where
  pub none : passed.depth ≡ 0
  pub ends : (items : List Item) (at : ℕ) → StandsAt items piece at → is_end (drop (at + passed.count) items) ≡ true
