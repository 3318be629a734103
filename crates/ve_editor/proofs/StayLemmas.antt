-- Nodes that stay keep their numbers, over one transaction and over several.
use Rattle.std.specs.Prelude.{OnOk, OnErr}
use Rattle.std.proofs.Common.{◌≡◌, ◌<◌, ℕ, ◌+◌, List, [], ◌∷◌, ◌++◌, length, map, take, drop, get_or, All, Result, Ok, Err, refl, sym, ap, ◌∙◌, subst}
use Rattle.std.proofs.lemmas.List.{map-append, drop_more, take_more}
use Rattle.std.proofs.Math.Seq.{take-append_seam}
use Rattle.ve_base.specs.declared.value.Value.{Value}
use Rattle.model_items.specs.declared.item.Item.{Item}
use Rattle.model_items.specs.declared.plain_item.PlainItem.{PlainItem}
use Rattle.model_items.specs.Plain.{plain_list, CitesWell}
use Rattle.model_change.specs.Inverse.{inverse}
use Rattle.model_change.specs.Transaction.{Transaction, edited}
use Rattle.model_edit.specs.declared.selection.Selection.{Selection}
use Rattle.model_site.specs.Replica.{Replica, changed_by}
use Rattle.ve_arena.specs.Arena.{slot_at}
use Rattle.ve_items.specs.ItemList.{ItemList}
use Rattle.ve_repair.specs.Kept.{KeepsNumbers}
use Rattle.ve_repair.specs.Repaired.{SameNodes}
use Rattle.ve_tree.specs.IsTree.{IsTree, unvalued}
use Rattle.ve_tree.specs.TreeOf.{IsTreeOf}
use Rattle.ve_tree.specs.declared.tree.Tree.{Tree}
use Rattle.ve_tree.proofs.ShapeLemmas.{shapes_read}
use Rattle.ve_tx.specs.Making.{Extends}
use Rattle.ve_tx.specs.Operation.{Operation, by_value}
use Rattle.ve_tx.specs.Spliced.{spliced_by}
use Rattle.ve_tx.specs.declared.change.Change.{Change}
use Rattle.ve_tx.specs.declared.draft.Draft.{Draft}
use Rattle.ve_tx.proofs.ValuesLemmas.{list-extended}
use Rattle.ve_editor.specs.Edited.{drafted, drafted_values, reversal_over}
use Rattle.ve_editor.specs.Page.{LinkedPage, Nodes, linked_page, nodes_of_tree, page_of, replica_of}
use Rattle.ve_editor.specs.Prepared.{WillBe}
use Rattle.ve_editor.specs.Stays.{IsUnchanged, NumbersStay, NumbersStayOver}
use Rattle.ve_editor.proofs.RelinkLemmas.{list_alike}

-- ---- one transaction

-- what a repair says for every list of values, over these
pub numbers_stay : (values : List Value) (tx : List Operation) (items : List Item) (old new : Tree) → new.root ≡ old.root →
    KeepsNumbers old.arena.slots new.arena.slots old.root tx items → NumbersStay (by_value values tx) (plain_list values items) (nodes_of_tree old) (nodes_of_tree new)
numbers_stay values tx items old new e keeps =
    subst (λ r. NumbersStay (by_value values tx) (plain_list values items) (nodes_of_tree old) (record { slots = new.arena.slots; root = r })) (sym e) (keeps values)

-- a draft's items cite values after the store's; those of the page don't
pub numbers_drafted : (store : List Value) (d : Draft) (items : List Item) → All (CitesWell store) items → (old new : Tree) → new.root ≡ old.root →
    KeepsNumbers old.arena.slots new.arena.slots old.root d.tx items → NumbersStay (drafted store d) (plain_list store items) (nodes_of_tree old) (nodes_of_tree new)
numbers_drafted store d items cites old new e keeps =
    subst (λ l. NumbersStay (drafted store d) l (nodes_of_tree old) (nodes_of_tree new)) (list-extended store (drafted_values store d) (d.values.values, refl) items cites)
    (numbers_stay (drafted_values store d) d.tx items old new e keeps)

-- a transaction and a list that are known under other names
pub numbers_as : (t u : Transaction) (items others : List PlainItem) (old new : Nodes) → t ≡ u → items ≡ others → NumbersStay t items old new → NumbersStay u others old new
numbers_as t u items others old new e f stay = subst (λ l. NumbersStay u l old new) f (subst (λ s. NumbersStay s items old new) e stay)

-- ---- the tree of a list by value

pub tree_by_value : (store : List Value) (items : List Item) (linked : Tree) → IsTreeOf linked (unvalued items) → IsTree linked.arena.slots linked.root (plain_list store items)
tree_by_value store items linked tree = (shapes_read linked (unvalued items) (plain_list store items) tree (list_alike [] store items)).links

-- that of the list that a change made
pub committed_tree : (t : Transaction) (old new : List Value) (list : ItemList) (linked : Tree) (change : Change) (committed : List Item) → WillBe t old new list linked change →
    committed ≡ spliced_by list.items change.splices.items → IsTree linked.arena.slots linked.root (plain_list new committed)
committed_tree t old new list linked change committed will made =
    tree_by_value new committed linked (subst (λ l. IsTreeOf linked (unvalued l)) (sym made) will.tree)

-- ---- several transactions

-- the list that they make, one after the other
abbrev pub list_after : List Transaction → List PlainItem → List PlainItem
list_after [] items = items
list_after (t ∷ ts) items = list_after ts (edited t items)

-- some of them, and then the others
pub stay_over : (ts us : List Transaction) (items : List PlainItem) (old now new : Nodes) → NumbersStayOver ts items old now → NumbersStayOver us (list_after ts items) now new →
    NumbersStayOver (ts ++ us) items old new
stay_over [] us items old now new same later = subst (λ n. NumbersStayOver us items n new) same later
stay_over (t ∷ ts) us items old now new first later = record {
  next = first.next;
  tree = first.tree;
  numbers = first.numbers;
  later = stay_over ts us (edited t items) first.next now new first.later later;
}

made-append : (ts : List Transaction) (t : Transaction) (items : List PlainItem) → list_after (ts ++ t ∷ []) items ≡ edited t (list_after ts items)
made-append [] t items = refl
made-append (u ∷ ts) t items = made-append ts t (edited u items)

-- After some of them: the list is the one that they make, and numbers stay over each.
pub record StaySoFar (ts : List Transaction) (old now : LinkedPage) : Type 0 where
  pub items : now.items ≡ list_after ts old.items
  pub numbers : NumbersStayOver ts old.items old.nodes now.nodes

pub stay_first : (page : LinkedPage) → StaySoFar [] page page
stay_first page = record { items = refl; numbers = refl }

pub stay_more : (ts : List Transaction) (t : Transaction) (old now new : LinkedPage) → StaySoFar ts old now → new.items ≡ edited t now.items →
    IsTree new.nodes.slots new.nodes.root new.items → NumbersStay t now.items now.nodes new.nodes → StaySoFar (ts ++ t ∷ []) old new
stay_more ts t old now new so_far made tree stay = record {
  items = made ∙ ap (edited t) so_far.items ∙ sym (made-append ts t old.items);
  numbers = stay_over ts (t ∷ []) old.items old.nodes now.nodes new.nodes so_far.numbers (record {
    next = new.nodes;
    tree = subst (IsTree new.nodes.slots new.nodes.root) (made ∙ ap (edited t) so_far.items) tree;
    numbers = subst (λ l. NumbersStay t l now.nodes new.nodes) so_far.items stay;
    later = refl;
  });
}

-- one alone
pub stay_one : (t : Transaction) (old new : LinkedPage) → new.items ≡ edited t old.items → IsTree new.nodes.slots new.nodes.root new.items →
    NumbersStay t old.items old.nodes new.nodes → NumbersStayOver (t ∷ []) old.items old.nodes new.nodes
stay_one t old new made tree stay = (stay_more [] t old old new (stay_first old) made tree stay).numbers

-- where a call that makes it may fail; it is known under two names
pub stay_alone : {A E : Type 0} (result : Result A E) (t u : Transaction) (values : List Value) (old new : LinkedPage) → t ≡ u → OnOk result (replica_of new ≡ changed_by t values (replica_of old)) →
    OnOk result (IsTree new.nodes.slots new.nodes.root new.items) → OnOk result (NumbersStay t old.items old.nodes new.nodes) →
    OnOk result (NumbersStayOver (u ∷ []) old.items old.nodes new.nodes)
stay_alone (Ok x) t u values old new e page tree stay =
    subst (λ s. NumbersStayOver (s ∷ []) old.items old.nodes new.nodes) e (stay_one t old new (ap (λ (r : Replica). r.items) page) tree stay)
stay_alone (Err x) t u values old new e page tree stay = tt

-- those that were made, with one more: of a list in its order, and of a reversal from its end
pub one_more : (values : List Value) (txs : List (List Operation)) (k : ℕ) (tx : List Operation) → k < length txs → tx ≡ get_or txs k tx →
    map (by_value values) (take (k + 1) txs) ≡ map (by_value values) (take k txs) ++ by_value values tx ∷ []
one_more values txs k tx below is =
    ap (map (by_value values)) (take_more txs k tx below ∙ ap (λ t. take k txs ++ t ∷ []) (sym is)) ∙ map-append (by_value values) (take k txs) (tx ∷ [])

pub one_more_back : (store : List Value) (txs : List (List Operation)) (k : ℕ) (tx : List Operation) → k < length txs → tx ≡ get_or txs k tx →
    reversal_over store (drop k txs) ≡ reversal_over store (drop (k + 1) txs) ++ inverse (by_value store tx) ∷ []
one_more_back store txs k tx below is = ap (reversal_over store) (drop_more txs k tx below ∙ ap (λ t. t ∷ drop (k + 1) txs) (sym is))

-- ---- refusals

pub unchanged_as : (old new : LinkedPage) → new ≡ old → IsUnchanged old new
unchanged_as old new e = record {
  page = ap replica_of e;
  nodes = λ q. ap (λ (p : LinkedPage). slot_at p.nodes.slots q) e;
  root = ap (λ (p : LinkedPage). p.nodes.root) e;
}

-- the page was moved out and back, under other names
pub unchanged_moved : {A E : Type 0} (result : Result A E) (old moved back new : LinkedPage) → moved ≡ old → new ≡ back → OnErr result (back ≡ moved) → OnErr result (IsUnchanged old new)
unchanged_moved (Ok x) old moved back new was is same = tt
unchanged_moved (Err x) old moved back new was is same = unchanged_as old new (is ∙ same ∙ was)

-- the store had taken values, which are cut off again
pub unchanged_cut : (old : LinkedPage) (store new cut : List Value) (n : ℕ) (items list : List Item) (selected : Selection) (was is : Tree) →
    linked_page (page_of store items selected) (nodes_of_tree was) ≡ old → Extends store new → n ≡ length store → cut ≡ take n new → list ≡ items → SameNodes was.arena.slots is.arena.slots → is.root ≡ was.root →
    IsUnchanged old (linked_page (page_of cut list selected) (nodes_of_tree is))
unchanged_cut old store new cut n items list selected was is view extends count cuts same nodes root =
    let whole : cut ≡ store = cuts ∙ ap (λ k. take k new) count ∙ ap (take (length store)) extends.1 ∙ take-append_seam store extends.0 in
    record {
      page = (λ i. record { items = plain_list (whole i) (same i); store = whole i; selection = selected }) ∙ ap replica_of view;
      nodes = subst (λ (p : LinkedPage). SameNodes p.nodes.slots is.arena.slots) view nodes;
      root = root ∙ ap (λ (p : LinkedPage). p.nodes.root) view;
    }
