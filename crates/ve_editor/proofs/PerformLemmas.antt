-- A change that was made, as what the model makes of the page.
use Rattle.std.proofs.Common.{◌≡◌, List, [], ◌∷◌, None, length, ap, ◌∙◌, subst}
use Rattle.ve_base.specs.declared.value.Value.{Value}
use Rattle.model_items.specs.declared.item.Item.{Item}
use Rattle.model_items.specs.Plain.{plain_list}
use Rattle.model_change.specs.Fault.{Applies}
use Rattle.model_change.specs.Inverse.{filled}
use Rattle.model_change.specs.Store.{brought, changed_heads, fill}
use Rattle.model_change.specs.Transaction.{Transaction, edited}
use Rattle.model_edit.specs.declared.selection.Selection.{Selection}
use Rattle.model_edit.specs.Translate.{moved_selection}
use Rattle.model_site.specs.Entries.{entry_of}
use Rattle.model_site.specs.Refused.{edit_cause}
use Rattle.model_site.specs.Replica.{changed_by, performed, put_back}
use Rattle.ve_items.specs.ItemList.{ItemList}
use Rattle.ve_tree.specs.declared.tree.Tree.{Tree}
use Rattle.ve_tx.specs.Spliced.{spliced_by}
use Rattle.ve_tx.specs.declared.change.Change.{Change}
use Rattle.ve_tx.specs.declared.draft.Draft.{Draft}
use Rattle.ve_editor.specs.declared.perform.Admitting.{Admitting}
use Rattle.ve_editor.specs.declared.perform.Performing.{Performing}
use Rattle.ve_editor.specs.Edited.{drafted, entry_by_value}
use Rattle.ve_editor.specs.Page.{page_of}
use Rattle.ve_editor.specs.Prepared.{WillBe, MayPerform, IsReadyBack, IsReadyOther}
use Rattle.ve_editor.proofs.CauseLemmas.{cause_of_list}

-- a change of the list, made
changed_is : (t : Transaction) (store new values : List Value) (items committed : List Item) (selected moved : Selection) (list : ItemList) (linked : Tree) (change : Change) →
    WillBe t store new list linked change → list.items ≡ items → committed ≡ spliced_by list.items change.splices.items → new ≡ fill store values →
    moved ≡ moved_selection t (plain_list new committed) selected → page_of new committed moved ≡ changed_by t values (page_of store items selected)
changed_is t store new values items committed selected moved list linked change will same made grown selects =
    let e = ap (plain_list new) made ∙ will.items ∙ ap (λ l. edited t (plain_list store l)) same in
    let s = selects ∙ ap (λ l. moved_selection t l selected) e in
    λ i. record { items = e i; store = grown i; selection = s i }

module _ (d : Draft) (store new : List Value) (items : List Item) (selected : Selection) (list : ItemList) (linked : Tree) (p : Performing) (may : MayPerform d store new list linked p) (same : list.items ≡ items) where
  grown : new ≡ fill store (brought (drafted store d) (plain_list store items))
  grown = may.store ∙ ap (λ l. fill store (brought (drafted store d) (plain_list store l))) same

  pub performed_is : (committed : List Item) (moved : Selection) → committed ≡ spliced_by list.items p.change.splices.items →
      moved ≡ moved_selection (drafted store d) (plain_list new committed) selected → page_of new committed moved ≡ performed (drafted store d) (page_of store items selected)
  performed_is committed moved made selects =
      changed_is (drafted store d) store new (brought (drafted store d) (plain_list store items)) items committed selected moved list linked p.change may.change same made grown selects

  pub allowed_is : edit_cause (drafted store d) (page_of store items selected) ≡ None
  allowed_is =
      cause_of_list (drafted store d) (page_of store items selected) new (spliced_by list.items p.change.splices.items) (subst (λ l. Applies (drafted store d) (plain_list store l)) same may.applies)
      (may.change.items ∙ ap (λ l. edited (drafted store d) (plain_list store l)) same) grown
      ∙ may.allowed

  pub entry_is : entry_by_value new p.entry ≡ entry_of (drafted store d ∷ []) (page_of store items selected)
  entry_is =
      let txs = may.txs ∙ ap (λ l. filled (drafted store d) (plain_list store l) ∷ []) same in
      let after = may.store_after ∙ ap length grown in
      λ i. record { txs = txs i; store_before = may.store_before i; store_after = after i; takes_back = may.takes_back i }

pub put_back_is : (t : Transaction) (store new : List Value) (items committed : List Item) (selected moved : Selection) (list : ItemList) (linked : Tree) (change : Change) →
    IsReadyBack t store new list linked change → list.items ≡ items → committed ≡ spliced_by list.items change.splices.items →
    moved ≡ moved_selection t (plain_list new committed) selected → page_of new committed moved ≡ put_back t (page_of store items selected)
put_back_is t store new items committed selected moved list linked change ready same made selects =
    changed_is t store new (changed_heads t (plain_list store items)) items committed selected moved list linked change ready.change same made
    (ready.store ∙ ap (λ l. fill store (changed_heads t (plain_list store l))) same) selects

pub other_is : (t : Transaction) (store new : List Value) (items committed : List Item) (selected moved : Selection) (list : ItemList) (linked : Tree) (a : Admitting) →
    IsReadyOther t store new list linked a → list.items ≡ items → committed ≡ spliced_by list.items a.change.splices.items →
    moved ≡ moved_selection t (plain_list new committed) selected → page_of new committed moved ≡ performed t (page_of store items selected)
other_is t store new items committed selected moved list linked a ready same made selects =
    changed_is t store new (brought t (plain_list store items)) items committed selected moved list linked a.change ready.change same made
    (ready.store ∙ ap (λ l. fill store (brought t (plain_list store l))) same) selects
