-- A change that is made ready, as what the model makes of the page.
use Rattle.std.proofs.Common.{◌≡◌, ◌≤◌, ◌+◌, ◌*◌, ℕ, List, [], ◌∷◌, length, All, sym, ap, ◌∙◌, subst, arith}
use Rattle.std.proofs.lemmas.List.Elements.{All-nil, All-cons}
use Rattle.ve_base.specs.declared.value.Value.{Value}
use Rattle.model_items.specs.declared.item.Item.{Item}
use Rattle.model_items.specs.declared.plain_item.PlainItem.{PlainItem}
use Rattle.model_items.specs.Plain.{plain_list, CitesWell}
use Rattle.model_items.specs.Law.{Lawful}
use Rattle.model_items.specs.Tree.{node_count, tree_of}
use Rattle.model_items.proofs.OnlyLemmas.{tree_reads_no_values}
use Rattle.model_items.proofs.VerdictLemmas.{verdict_reads_no_values}
use Rattle.model_change.specs.Transaction.{Transaction, edited}
use Rattle.ve_items.specs.ItemList.{ItemList}
use Rattle.ve_tree.specs.IsTree.{unvalued}
use Rattle.model_items.specs.Cost.{cost_of_tree}
use Rattle.ve_tree.specs.TreeOf.{IsTreeOf}
use Rattle.ve_tx.specs.Applied.{plain_after}
use Rattle.ve_tx.specs.Cites.{TxCites}
use Rattle.ve_tx.specs.Making.{Extends}
use Rattle.ve_tx.specs.Operation.{Operation}
use Rattle.ve_tx.specs.declared.change.Change.{Change}
use Rattle.ve_tx.specs.Spliced.{AllCite, LieBetween, come_count, spliced_by}
use Rattle.ve_tx.proofs.SplicedLemmas.{spliced-cites}
use Rattle.ve_tx.proofs.ValuesLemmas.{all-extended}
use Rattle.ve_tree.specs.declared.tree.Tree.{Tree}
use Rattle.ve_editor.specs.Prepared.{WillBe}

-- the law and the tree read no value
pub lawful_unvalued : (values : List Value) (items : List Item) (made : List PlainItem) → plain_list values items ≡ made → Lawful made → Lawful (unvalued items)
lawful_unvalued values items made e lawful = verdict_reads_no_values [] values items ∙ subst Lawful (sym e) lawful

pub steps_unvalued : (values : List Value) (items : List Item) (made : List PlainItem) → plain_list values items ≡ made → cost_of_tree (unvalued items) ≡ cost_of_tree made
steps_unvalued values items made e = ap (λ f. 8 * (node_count f + 2)) (tree_reads_no_values [] values items) ∙ ap cost_of_tree e

-- a bound on steps that a callee keeps
pub steps_within : (values : List Value) (items : List Item) (made : List PlainItem) (old new : ℕ) → plain_list values items ≡ made →
    new ≤ old + cost_of_tree (unvalued items) → new ≤ old + cost_of_tree made
steps_within values items made old new e h = subst (λ n. new ≤ old + n) (steps_unvalued values items made e) h

pub six_within : (values : List Value) (items : List Item) (made : List PlainItem) (old new : ℕ) → plain_list values items ≡ made →
    new ≤ old + (6 * node_count (tree_of (unvalued items)) + 2) → new ≤ old + (6 * node_count (tree_of made) + 2)
six_within values items made old new e h =
    subst (λ l. new ≤ old + (6 * node_count (tree_of l) + 2)) e (subst (λ f. new ≤ old + (6 * node_count f + 2)) (tree_reads_no_values [] values items) h)

pub will_be : (t : Transaction) (old new : List Value) (list : ItemList) (items : List Item) (linked : Tree) (change : Change) →
    list.items ≡ items → plain_after new items change.splices.items ≡ edited t (plain_list old items) → Extends old new →
    All (CitesWell old) items → AllCite new change.splices.items → LieBetween 0 (length items) change.splices.items → come_count change.splices.items ≤ list.spare →
    IsTreeOf linked (unvalued (spliced_by list.items change.splices.items)) → WillBe t old new list linked change
will_be t old new list items linked change same made extends cited made_cited within room tree = record {
  items = ap (λ l. plain_after new l change.splices.items) same ∙ made ∙ ap (λ l. edited t (plain_list old l)) (sym same);
  cites = subst (λ l. All (CitesWell new) (spliced_by l change.splices.items)) (sym same)
      (spliced-cites new items change.splices.items (all-extended old new extends items cited) made_cited);
  fits = record { within = subst (λ l. LieBetween 0 (length l) change.splices.items) (sym same) within; room = room };
  tree = tree;
}

-- a list of one transaction
pub one_cites : (values : List Value) (tx : List Operation) → TxCites values tx → All (TxCites values) (tx ∷ [])
one_cites values tx h = All-cons (TxCites values) tx [] h (All-nil (TxCites values))
