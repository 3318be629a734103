-- A change that is allowed, made ready with an entry.
use Rattle.std.proofs.Common.{◌≡◌, ◌≤◌, List, [], ◌∷◌, None, length, map, All, sym, ap, ◌∙◌, subst}
use Rattle.ve_base.specs.declared.value.Value.{Value}
use Rattle.model_items.specs.declared.item.Item.{Item}
use Rattle.model_items.specs.declared.plain_item.PlainItem.{PlainItem}
use Rattle.model_items.specs.Plain.{plain_list}
use Rattle.model_change.specs.Inverse.{filled}
use Rattle.model_change.specs.Transaction.{Transaction, edited}
use Rattle.model_edit.specs.declared.selection.Selection.{Selection}
use Rattle.model_site.specs.Refused.{edit_cause}
use Rattle.ve_items.specs.ItemList.{ItemList}
use Rattle.ve_repair.specs.Repaired.{IsTreeOfAfter}
use Rattle.ve_tree.specs.declared.tree.Tree.{Tree}
use Rattle.ve_tx.specs.Applied.{filled_on}
use Rattle.ve_tx.specs.Cites.{TxCites}
use Rattle.ve_tx.specs.Operation.{by_value}
use Rattle.ve_tx.specs.Spliced.{come_count, spliced_by}
use Rattle.ve_tx.specs.declared.change.Change.{Change}
use Rattle.ve_tx.specs.declared.draft.Draft.{Draft}
use Rattle.ve_tx.proofs.SplicedLemmas.{spliced-cites}
use Rattle.ve_editor.specs.declared.perform.Performing.{Performing}
use Rattle.ve_editor.specs.Edited.{drafted}
use Rattle.ve_editor.specs.Page.{page_of}
use Rattle.ve_editor.specs.Prepared.{IsAllowed, MayPerform}
use Rattle.ve_editor.proofs.CauseLemmas.{cause_of_list}
use Rattle.ve_editor.proofs.RelinkLemmas.{made_tree}

module _ (d : Draft) (old new : List Value) (items : List Item) (change : Change) (allowed : IsAllowed d old new items change) where
  -- what is said of the transaction and the list over the new values holds of the draft and the page
  pub over_new : {A : Type 0} (f : Transaction → List PlainItem → A) → f (by_value new d.tx) (plain_list new items) ≡ f (drafted old d) (plain_list old items)
  over_new f = ap (λ t. f t (plain_list new items)) allowed.tx ∙ ap (f (drafted old d)) allowed.list

  pub made_new : plain_list new (spliced_by items change.splices.items) ≡ edited (by_value new d.tx) (plain_list new items)
  made_new = allowed.made ∙ sym (over_new edited)

-- no cause refuses it
pub allowed_cause : (d : Draft) (old new : List Value) (items : List Item) (change : Change) (selected : Selection) → IsAllowed d old new items change →
    edit_cause (drafted old d) (page_of old items selected) ≡ None
allowed_cause d old new items change selected allowed =
    cause_of_list (drafted old d) (page_of old items selected) new (spliced_by items change.splices.items) allowed.applies allowed.made allowed.store ∙ allowed.allowed

-- the list is known under two names
pub allowed_as : (d : Draft) (old new : List Value) (items others : List Item) (change : Change) → others ≡ items → IsAllowed d old new items change → IsAllowed d old new others change
allowed_as d old new items others change same allowed = subst (λ l. IsAllowed d old new l change) (sym same) allowed

pub may_perform : (d : Draft) (old new : List Value) (list : ItemList) (items : List Item) (linked : Tree) (change : Change) (p : Performing) → list.items ≡ items →
    IsAllowed d old new items change → come_count change.splices.items ≤ list.spare → p.change ≡ change → IsTreeOfAfter linked d.tx list.items →
    map (by_value new) p.entry.txs ≡ filled_on new d.tx list.items ∷ [] → p.entry.store_before ≡ length old → p.entry.store_after ≡ length new → p.entry.takes_back ≡ None → All (TxCites new) p.entry.txs →
    MayPerform d old new list linked p
may_perform d old new list items linked change p same allowed room is tree txs before after takes_back cites =
    let a = subst (IsAllowed d old new list.items) (sym is) (allowed_as d old new items list.items change same allowed) in
    let splices = p.change.splices.items in
    record {
      applies = a.applies;
      allowed = a.allowed;
      change = record {
        items = a.made;
        cites = spliced-cites new list.items splices a.list_cites a.come;
        fits = record { within = a.within; room = subst (λ (c : Change). come_count c.splices.items ≤ list.spare) (sym is) room };
        tree = made_tree linked new new d.tx list.items (spliced_by list.items splices) (made_new d old new list.items p.change a) tree;
      };
      store = a.store;
      txs = txs ∙ ap (λ f. f ∷ []) (over_new d old new list.items p.change a filled);
      store_before = before;
      store_after = after;
      takes_back = takes_back;
      cites = cites;
    }
