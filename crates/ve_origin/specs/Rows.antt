-- The rows of the tables of references, and the bodies that they say are carried.
use Rattle.std.specs.Prelude.{◌≡◌, ◌≤◌, ◌<◌, ℕ, ◌+◌, ◌-◌, ◌==◌, if◌then◌else◌, List, find, slice_get, Option, Some, None, Bool, IsTrue, ◌↔◌}
use Rattle.model_items.specs.declared.item.Item.{Item}
use Rattle.model_page.specs.declared.ref_table.RefRow.{RefRow}
use Rattle.ve_origin.specs.declared.carried.Side.{Side}
use Rattle.ve_origin.specs.Bodies.{AreSameBodies}

-- each row stands after those of lower positions
abbrev pub RowsRise : List RefRow → Type 0
RowsRise rows = (i j : ℕ) (r s : RefRow) → slice_get rows i ≡ Some r → slice_get rows j ≡ Some s → i < j → r.at < s.at

-- where the internal item opens whose body a reference carries, if it stands outside the internal
-- list
abbrev pub carried_place : Option RefRow → Option ℕ
carried_place None = None
carried_place (Some r) = if r.carrier then r.body_at else None

abbrev pub carried_at : List RefRow → ℕ → Option ℕ
carried_at rows at = carried_place (find (λ r. r.at == at) rows)

-- a list, its references and the position of a node in it
pub record NodeIn : Type 0 where
  pub items : List Item
  pub refs : List RefRow
  pub from : ℕ

-- Each reference among so many items of the one node carries the body that the reference at its
-- position in the other node carries.
abbrev pub AllCarrySame : NodeIn → NodeIn → ℕ → Type 0
AllCarrySame now first count =
    (k : ℕ) (r : RefRow) → slice_get now.refs k ≡ Some r → now.from ≤ r.at → r.at < now.from + count →
    AreSameBodies now.items first.items (carried_place (Some r)) (carried_at first.refs (first.from + (r.at - now.from)))

abbrev pub node_in : Side → NodeIn
node_in side = record { items = side.list.now.items; refs = side.refs.now; from = side.from }

-- the answer for two nodes, where both tables rise
abbrev pub TellsCarried : Side → Side → ℕ → Bool → Type 0
TellsCarried now first count told =
    RowsRise now.refs.now → RowsRise first.refs.now → IsTrue told ↔ AllCarrySame (node_in now) (node_in first) count
