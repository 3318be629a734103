-- The tree of a list of items, with all that its items say and the bodies that its references
-- carry.
use Rattle.std.specs.Prelude.{ℕ, suc, ◌==◌, Bool, List, [], ◌∷◌, ◌++◌, map, drop, find, Option, None, option_and_then}
use Rattle.ve_kinds.specs.declared.kind.Kind.{Kind}
use Rattle.ve_base.specs.declared.marks.Mark.{Mark}
use Rattle.ve_base.specs.declared.head.Head.{Head}
use Rattle.model_items.specs.declared.plain_item.PlainItem.{PlainItem}
use Rattle.model_items.specs.declared.plain_item.PlainItem.TheVariants.{Char, Opening, Closing}
use Rattle.model_page.specs.References.{refs_of, Body, carried_by}

-- an item, and the body that it carries, where it is a reference that carries one
pub record Carried : Type 0 where
  pub item : PlainItem
  pub body : Option Body

-- the body that the item at this position carries
abbrev pub body_carried : List PlainItem → ℕ → Option Body
body_carried items at = option_and_then (carried_by items) (find (λ r. r.at == at) (refs_of items))

abbrev pub carried_from : (ℕ → Option Body) → ℕ → List PlainItem → List Carried
carried_from bodies at [] = []
carried_from bodies at (Char c marks ∷ items) = record { item = Char c marks; body = None } ∷ carried_from bodies (suc at) items
carried_from bodies at (Closing kind pre ∷ items) = record { item = Closing kind pre; body = None } ∷ carried_from bodies (suc at) items
carried_from bodies at (Opening kind head marks pre origin generated ∷ items) =
    record { item = Opening kind head marks pre origin generated; body = bodies at } ∷ carried_from bodies (suc at) items

-- the items of a list with what they carry
abbrev pub carried_items : List PlainItem → List Carried
carried_items items = carried_from (body_carried items) 0 items

-- items of a body, where references carry nothing
abbrev pub carrying_nothing : List PlainItem → List Carried
carrying_nothing items = map (λ item. record { item = item; body = None }) items

-- the opening of a node, and the body that it carries
pub record Start : Type 0 where
  pub kind : Kind
  pub head : Head
  pub marks : List Mark
  pub pre : List ℕ
  pub origin : Option ℕ
  pub generated : Bool
  pub body : Option Body

-- Sibling nodes in order: a character, or a node with what is in it and the whitespace before its
-- closing.
pub data Nodes : Type 0 where
  Empty : Nodes
  Letter : ℕ → List Mark → Nodes → Nodes
  Node : Start → Nodes → List ℕ → Nodes → Nodes

-- an outer level: the whitespace before its closing, and the nodes after this
pub record Outer : Type 0 where
  pub pre : List ℕ
  pub later : Nodes

-- The nodes of a list's end: the siblings that its items begin with, and then, from the inside out,
-- what follows each node which they close.
pub record NodesEnding : Type 0 where
  pub here : Nodes
  pub outer : List Outer

abbrev pub first_outer : List Outer → Outer
first_outer [] = record { pre = []; later = Empty }
first_outer (o ∷ outer) = o

abbrev pub nodes_ending_with : Option Body → PlainItem → NodesEnding → NodesEnding
nodes_ending_with body (Char c marks) e = record { here = Letter c marks e.here; outer = e.outer }
nodes_ending_with body (Closing kind pre) e = record { here = Empty; outer = record { pre = pre; later = e.here } ∷ e.outer }
nodes_ending_with body (Opening kind head marks pre origin generated) e =
    let start : Start = record { kind = kind; head = head; marks = marks; pre = pre; origin = origin; generated = generated; body = body } in
    record { here = Node start e.here (first_outer e.outer).pre (first_outer e.outer).later; outer = drop 1 e.outer }

abbrev pub nodes_ending : List Carried → NodesEnding
nodes_ending [] = record { here = Empty; outer = [] }
nodes_ending (c ∷ cs) = nodes_ending_with c.body c.item (nodes_ending cs)

abbrev pub carried_nodes : List Carried → Nodes
carried_nodes items = (nodes_ending items).here

abbrev pub start_item : Start → Carried
start_item s = record { item = Opening s.kind s.head s.marks s.pre s.origin s.generated; body = s.body }

-- the items of the nodes
abbrev pub node_list_items : Nodes → List Carried
node_list_items Empty = []
node_list_items (Letter c marks later) = record { item = Char c marks; body = None } ∷ node_list_items later
node_list_items (Node start inside pre later) =
    start_item start ∷ node_list_items inside ++ record { item = Closing start.kind pre; body = None } ∷ node_list_items later

abbrev pub node_items : Start → Nodes → List ℕ → List Carried
node_items start inside pre = node_list_items (Node start inside pre Empty)
