-- The siblings that the items from a position on make up, whatever values they cite and whatever
-- bodies references carry.
use Rattle.std.specs.Prelude.{◌≡◌, ℕ, Bool, true, false, List, [], ◌∷◌, drop, slice_get, Option, Some}
use Rattle.ve_base.specs.declared.value.Value.{Value}
use Rattle.model_items.specs.declared.item.Item.{Item}
use Rattle.model_items.specs.declared.item.Item.TheVariants.{Char, Opening, Closing}
use Rattle.model_items.specs.Plain.{plain_list, CitesWell}
use Rattle.model_page.specs.References.{Body}
use Rattle.model_page_write.specs.Nodes.{Carried, Empty, NodesEnding, carried_from, nodes_ending}

-- each item cites values of the right sorts
abbrev pub AllCite : List Value → List Item → Type 0
AllCite values items = (at : ℕ) (item : Item) → slice_get items at ≡ Some item → CitesWell values item

-- the parent closes here, or the list ends
abbrev pub is_end : List Item → Bool
is_end [] = true
is_end (Char ch marks ∷ items) = false
is_end (Opening kind generated head marks pre origin ∷ items) = false
is_end (Closing kind pre ∷ items) = true

-- the values that are cited, and the body that the reference at each position carries
pub record View : Type 0 where
  pub values : List Value
  pub bodies : ℕ → Option Body

-- the items from a position on, with what they carry
abbrev pub carried_at : View → List Item → ℕ → List Carried
carried_at v items at = carried_from v.bodies at (plain_list v.values (drop at items))

-- the siblings that begin at a position, and what follows each node that they stand in
unfoldable pub ending_at : View → List Item → ℕ → NodesEnding
ending_at v items at = nodes_ending (carried_at v items at)

-- The siblings that begin at one position end at another.
abbrev pub Ends : List Item → ℕ → ℕ → Type 0
Ends items from to = (v : View) → ending_at v items to ≡ record { here = Empty; outer = (ending_at v items from).outer }

-- The rest after the nodes round two positions is the same: they are among the same siblings.
abbrev pub SameOuter : List Item → ℕ → ℕ → Type 0
SameOuter items from to = (v : View) → (ending_at v items to).outer ≡ (ending_at v items from).outer
