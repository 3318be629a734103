-- Nodes that stay keep their numbers.
use Rattle.std.specs.Prelude.{◌≡◌, Contains, List, [], ◌∷◌}
use Rattle.model_items.specs.declared.plain_item.PlainItem.{PlainItem}
use Rattle.model_change.specs.Transaction.{Transaction, edited}
use Rattle.ve_repair.specs.Kept.{Match}
use Rattle.ve_tree.specs.IsTree.{IsTree}
use Rattle.ve_tree.specs.Places.{NodePlace, tree_places}
use Rattle.ve_repair.specs.Repaired.{SameNodes}
use Rattle.ve_editor.specs.Page.{LinkedPage, Nodes, replica_of}

-- A node of a list and a node of the list that a transaction makes of it, which match as the model
-- says, have one number.
abbrev pub NumbersStay : Transaction → List PlainItem → Nodes → Nodes → Type 0
NumbersStay t items old new =
    (was : IsTree old.slots old.root items) (is : IsTree new.slots new.root (edited t items))
    (o n : NodePlace) → Contains (tree_places was) o → Contains (tree_places is) n → Match t o n → n.number ≡ o.number

-- After the first of several transactions there is a tree of the list that it makes, in which
-- numbers stay, and from there on what is asked of the others holds.
pub record StayFirst (t : Transaction) (items : List PlainItem) (old : Nodes) (Later : Nodes → Type 0) : Type 0 where
  pub next : Nodes
  pub tree : IsTree next.slots next.root (edited t items)
  pub numbers : NumbersStay t items old next
  pub later : Later next

-- Numbers stay over each of several transactions, one after the other.
abbrev pub NumbersStayOver : List Transaction → List PlainItem → Nodes → Nodes → Type 0
NumbersStayOver [] items old new = new ≡ old
NumbersStayOver (t ∷ ts) items old new = StayFirst t items old (λ next. NumbersStayOver ts (edited t items) next new)

-- A page after a refusal: as it was, with each node under its number.
pub record IsUnchanged (old new : LinkedPage) : Type 0 where
  pub page : replica_of new ≡ replica_of old
  pub nodes : SameNodes old.nodes.slots new.nodes.slots
  pub root : new.nodes.root ≡ old.nodes.root
