-- Brackets that are put round nodes, and the edits that put them there.
use Rattle.std.specs.Prelude.{◌≡◌, ◌≤◌, ◌+◌, ◌-◌, ℕ, List, [], ◌∷◌, ◌++◌, All, length, flat_map}
use Rattle.ve_base.specs.declared.value.Value.{Value}
use Rattle.model_items.specs.declared.item.Item.{Item}
use Rattle.model_items.specs.declared.plain_item.PlainItem.{PlainItem}
use Rattle.model_items.specs.Offsets.{end_of_node}
use Rattle.model_items.specs.Plain.{plain_list, CitesWell}
use Rattle.model_edit.specs.Edits.{Edit, Change, transaction_of}
use Rattle.model_edit.specs.Wrap.{openings_of, closings_of, node_edits}
use Rattle.model_edit.specs.declared.wrap_plan.Shape.{Shape}
use Rattle.model_edit.specs.declared.wrap_plan.WrapPlan.{WrapPlan}
use Rattle.ve_store.specs.Following.{Following, Grows, together}
use Rattle.ve_tx.specs.Cites.{TxCites}
use Rattle.ve_tx.specs.Operation.{Operation, by_value}
use Rattle.ve_offsets.specs.declared.doc.Doc.{Doc}
use Rattle.ve_offsets.specs.Docs.{page_items}
use Rattle.ve_edits.specs.Collected.{Collected, Makes}
use Rattle.ve_edits.specs.Filled.{IsFilledFor}
use Rattle.ve_build_shape.specs.declared.shapes.Brackets.{Brackets}

-- The items are the openings of the shapes, and the values that they cite have come after the first
-- ones.
pub record AreOpenings (store : List Value) (start new : Following) (shapes : List Shape) (items : List Item) : Type 0 where
  pub grown : Grows start new
  pub means : plain_list (together store new) items ≡ openings_of shapes
  pub cites : All (CitesWell (together store new)) items
  pub filled : IsFilledFor store start new (openings_of shapes)

-- the closings of the shapes, the innermost first, over every list of values
abbrev pub AreClosings : List Shape → List Item → Type 0
AreClosings shapes items = (values : List Value) → plain_list values items ≡ closings_of shapes

-- They are the brackets of the shapes.
pub record AreBrackets (values : List Value) (shapes : List Shape) (brackets : Brackets) : Type 0 where
  pub openings : plain_list values brackets.openings ≡ openings_of shapes
  pub closings : plain_list values brackets.closings ≡ closings_of shapes
  pub openings_cite : All (CitesWell values) brackets.openings
  pub closings_cite : All (CitesWell values) brackets.closings

-- These edits are collected next.
abbrev pub Collects : List Value → List Item → List Edit → (old new : Collected) → Type 0
Collects values items edits old new = (done : List Edit) → Makes values items done old → Makes values items (done ++ edits) new

-- the edits of the nodes that begin at these positions
abbrev pub nodes_edits : List PlainItem → ℕ → List Shape → List ℕ → List Edit
nodes_edits items count shapes places = flat_map (λ at. node_edits at (end_of_node items at) count shapes) places

-- Over every list of values that the page's items cite, the brackets are put in the place of so
-- many that each node begins and ends with.
abbrev pub PutsRound : List Item → (count : ℕ) → Brackets → List ℕ → (old new : Collected) → Type 0
PutsRound items count brackets places old new =
    (values : List Value) (shapes : List Shape) → All (CitesWell values) items → AreBrackets values shapes brackets →
    Collects values items (nodes_edits (plain_list values items) count shapes places) old new

-- From a position on the nodes stand one after the other, each with room for so many brackets at
-- either end.
abbrev pub HaveRoom : List PlainItem → (count at end : ℕ) → List ℕ → Type 0
HaveRoom items count at end [] = at ≤ end
HaveRoom items count at end (place ∷ places) =
    (at ≤ place) × (place + count ≤ end_of_node items place - count) × HaveRoom items count (end_of_node items place) end places

-- the edits of a wrap whose nodes begin at these positions
abbrev pub edits_round : List PlainItem → ℕ → ℕ → WrapPlan → List ℕ → List Edit
edits_round items from to plan places =
    let outer = length plan.unwrap_outer in
    Change (from - outer) outer (openings_of plan.wrap_outer)
    ∷ nodes_edits items (length plan.unwrap_each) plan.wrap_each places
    ++ Change to outer (closings_of plan.wrap_outer) ∷ []

-- The transaction is that of those edits, over every list of values that the page's items and the
-- brackets cite, and cites only what it holds.
pub record IsRound (items : List Item) (from to : ℕ) (plan : WrapPlan) (places : List ℕ) (outer each : Brackets) (tx : List Operation) : Type 0 where
  pub means : (values : List Value) → All (CitesWell values) items → AreBrackets values plan.wrap_outer outer → AreBrackets values plan.wrap_each each →
      by_value values tx ≡ transaction_of (plain_list values items) (edits_round (plain_list values items) from to plan places)
  pub cites : (values : List Value) → All (CitesWell values) items → AreBrackets values plan.wrap_outer outer → AreBrackets values plan.wrap_each each →
      TxCites values tx

-- the positions stand before the range and after it where the outer brackets go, and between them
-- the nodes
pub record Fits (items : List PlainItem) (from to : ℕ) (plan : WrapPlan) (places : List ℕ) : Type 0 where
  pub before : length plan.unwrap_outer ≤ from
  pub nodes : HaveRoom items (length plan.unwrap_each) from to places
  pub after : to + length plan.unwrap_outer ≤ length items

-- the transaction is, by value, that of those edits of a page
abbrev pub PutsAll : Doc → (from to : ℕ) → WrapPlan → List ℕ → Following → List Operation → Type 0
PutsAll doc from to plan places new tx =
    let items = page_items doc in by_value (together doc.store.now new) tx ≡ transaction_of items (edits_round items from to plan places)
