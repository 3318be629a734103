-- A change of a page that needs no more memory. For private functions.
use Rattle.std.specs.Prelude.{◌≡◌, ◌≤◌, None, List, [], ◌∷◌, All, length, map}
use Rattle.ve_base.specs.declared.value.Value.{Value}
use Rattle.model_items.specs.Plain.{plain_list, CitesWell}
use Rattle.model_change.specs.Fault.{Applies}
use Rattle.model_change.specs.Inverse.{filled}
use Rattle.model_change.specs.Store.{brought, changed_heads, fill}
use Rattle.model_change.specs.Transaction.{Transaction, edited}
use Rattle.model_items.specs.declared.item.Item.{Item}
use Rattle.ve_items.specs.ItemList.{ItemList}
use Rattle.ve_repair.specs.Change.{LawfulAfter}
use Rattle.ve_tree.specs.IsTree.{unvalued}
use Rattle.ve_tree.specs.TreeOf.{IsTreeOf}
use Rattle.ve_tree.specs.declared.tree.Tree.{Tree}
use Rattle.ve_tx.specs.Applied.{plain_after}
use Rattle.ve_tx.specs.Cites.{TxCites}
use Rattle.ve_tx.specs.Operation.{by_value}
use Rattle.ve_tx.specs.Spliced.{AllCite, LieBetween, come_count, spliced_by}
use Rattle.ve_tx.specs.declared.change.Change.{Change}
use Rattle.ve_tx.specs.declared.draft.Draft.{Draft}
use Rattle.ve_editor.specs.declared.perform.Admitting.{Admitting}
use Rattle.ve_editor.specs.declared.perform.Performing.{Performing}
use Rattle.ve_editor.specs.Edited.{drafted, entry_by_value, EntryCites}
use Rattle.ve_editor.specs.Refusal.{list_cause}

-- the splices of the change are the list's, and the list has room for it
pub record FitsInto (list : ItemList) (change : Change) : Type 0 where
  pub within : LieBetween 0 (length list.items) change.splices.items
  pub room : come_count change.splices.items ≤ list.spare

-- Over the new values the list will be what the transaction makes of it over the old ones, and its
-- items will cite them well. The tree is already that of the list as it will be.
pub record WillBe (t : Transaction) (old new : List Value) (list : ItemList) (linked : Tree) (change : Change) : Type 0 where
  pub items : plain_after new list.items change.splices.items ≡ edited t (plain_list old list.items)
  pub cites : All (CitesWell new) (spliced_by list.items change.splices.items)
  pub fits : FitsInto list change
  pub tree : IsTreeOf linked (unvalued (spliced_by list.items change.splices.items))

-- The draft applies, and its new list is allowed. Over the new values it means what it does over the
-- old ones, and this is its change.
pub record IsAllowed (d : Draft) (old new : List Value) (items : List Item) (change : Change) : Type 0 where
  pub applies : Applies (drafted old d) (plain_list old items)
  pub made : plain_after new items change.splices.items ≡ edited (drafted old d) (plain_list old items)
  pub allowed : list_cause (spliced_by items change.splices.items) (length new) ≡ None
  pub lawful : LawfulAfter d.tx items
  pub within : LieBetween 0 (length items) change.splices.items
  pub come : AllCite new change.splices.items
  pub store : new ≡ fill old (brought (drafted old d) (plain_list old items))
  pub tx : by_value new d.tx ≡ drafted old d
  pub tx_cites : TxCites new d.tx
  pub list : plain_list new items ≡ plain_list old items
  pub list_cites : All (CitesWell new) items

-- the draft applies, its new list is allowed, and its change is ready, as is its entry
pub record MayPerform (d : Draft) (old new : List Value) (list : ItemList) (linked : Tree) (performing : Performing) : Type 0 where
  pub applies : Applies (drafted old d) (plain_list old list.items)
  pub allowed : list_cause (spliced_by list.items performing.change.splices.items) (length new) ≡ None
  pub change : WillBe (drafted old d) old new list linked performing.change
  pub store : new ≡ fill old (brought (drafted old d) (plain_list old list.items))
  pub txs : (entry_by_value new performing.entry).txs ≡ filled (drafted old d) (plain_list old list.items) ∷ []
  pub store_before : performing.entry.store_before ≡ length old
  pub store_after : performing.entry.store_after ≡ length new
  pub takes_back : performing.entry.takes_back ≡ None
  pub cites : EntryCites new performing.entry

-- a transaction of a reversal is ready, and the store has the heads that it changes
pub record IsReadyBack (t : Transaction) (old new : List Value) (list : ItemList) (linked : Tree) (back : Change) : Type 0 where
  pub change : WillBe t old new list linked back
  pub store : new ≡ fill old (changed_heads t (plain_list old list.items))

-- a transaction of another is ready, as an entry keeps it, and the store has what it brings
pub record IsReadyOther (t : Transaction) (old new : List Value) (list : ItemList) (linked : Tree) (admitting : Admitting) : Type 0 where
  pub change : WillBe t old new list linked admitting.change
  pub store : new ≡ fill old (brought t (plain_list old list.items))
  pub txs : map (by_value new) admitting.txs ≡ filled t (plain_list old list.items) ∷ []
  pub cites : All (TxCites new) admitting.txs
