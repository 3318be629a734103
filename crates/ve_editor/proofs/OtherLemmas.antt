-- A transaction of another, over the values that it brings and over the store that takes them.
use Rattle.std.proofs.Common.{◌≡◌, ℕ, zero, suc, true, List, [], ◌∷◌, ◌++◌, map, All, Contains, Option, Some, None, slice_get, refl, sym, ap, ◌∙◌, subst, inl, inr, arith}
use Rattle.std.proofs.lemmas.List.Elements.{All-nil, All-cons, All-head, All-tail, Contains-append_cases}
use Rattle.std.proofs.lemmas.Option.{slice_get_within, get_or_from_slice_get}
use Rattle.ve_base.specs.declared.value.Value.{Value}
use Rattle.ve_base.specs.declared.value.Value.TheVariants as value
use Rattle.ve_base.specs.declared.value.ValueId.{ValueId}
use Rattle.model_items.specs.declared.item.Item.{Item}
use Rattle.model_items.specs.declared.item.Item.TheVariants as item
use Rattle.model_items.specs.declared.plain_item.PlainItem.{PlainItem}
use Rattle.model_items.specs.Plain.{plain, plain_list, value_at, head_in, marks_in, white_in, CitesHead, CitesMarks, CitesWhite, CitesWell}
use Rattle.model_change.specs.Fault.{Applies}
use Rattle.model_change.specs.Inverse.{filled}
use Rattle.model_change.specs.Store.{changed_heads, cited, cited_by, fill, head_cited, marks_cited, white_cited}
use Rattle.model_change.specs.Transaction.{Transaction, all_inserted, edited, is_reduced}
use Rattle.model_change.proofs.StoreLemmas.{contains_none}
use Rattle.ve_editor.proofs.RemovedLemmas.{removed_held}
use Rattle.ve_items.specs.ItemList.{ItemList}
use Rattle.ve_tree.specs.declared.tree.Tree.{Tree}
use Rattle.ve_tx.specs.Applied.{filled_on}
use Rattle.ve_tx.specs.Cites.{TxCites}
use Rattle.ve_tx.specs.Making.{Extends}
use Rattle.ve_tx.specs.Operation.{Operation, by_value}
use Rattle.ve_tx.specs.Parcel.{transaction_cited_in}
use Rattle.ve_tx.specs.Taken.{HasRemoved}
use Rattle.ve_tx.proofs.ValuesLemmas as values_lemmas
use Rattle.ve_tx.proofs.ValuesLemmas.{extends_by_fill, list-extended, all-extended}
use Rattle.ve_editor.specs.declared.perform.Admitting.{Admitting}
use Rattle.ve_editor.specs.Prepared.{IsReadyBack, IsReadyOther}
use Rattle.ve_editor.proofs.CutLemmas.{head_once, marks_once, white_once}
use Rattle.ve_editor.proofs.GrownLemmas.{by_value-extended, cites-extended}

-- ---- what items cite is in the store

at_place : (store : List Value) (i : ℕ) (v w : Value) → slice_get store i ≡ Some v → Contains (v ∷ []) w → Contains store w
at_place store i v w here within = subst (Contains store) (only within) (i, slice_get_within store i v here, get_or_from_slice_get store i v v here)
  where
    only : Contains (v ∷ []) w → v ≡ w
    only (zero, below, e) = e
    only (suc k, below, e) = absurd (let none : ⊥ = omega arith in none)

head_there : (store : List Value) (id : Option ValueId) (v : Value) → CitesHead store id → Contains (head_cited (head_in (value_at store id))) v → Contains store v
head_there store None v p within = absurd (contains_none v within)
head_there store (Some id) v p within =
    let one : head_cited (head_in (value_at store (Some id))) ≡ value.Head p.0 ∷ [] = ap (λ w. head_cited (head_in w)) p.1 ∙ head_once p.0 p.2 in
    at_place store id.0 (value.Head p.0) v p.1 (subst (λ l. Contains l v) one within)

marks_there : (store : List Value) (id : Option ValueId) (v : Value) → CitesMarks store id → Contains (marks_cited (marks_in (value_at store id))) v → Contains store v
marks_there store None v p within = absurd (contains_none v within)
marks_there store (Some id) v p within =
    let one : marks_cited (marks_in (value_at store (Some id))) ≡ value.Marks p.0 ∷ [] = ap (λ w. marks_cited (marks_in w)) p.1 ∙ marks_once p.0 p.2 in
    at_place store id.0 (value.Marks p.0) v p.1 (subst (λ l. Contains l v) one within)

white_there : (store : List Value) (id : Option ValueId) (v : Value) → CitesWhite store id → Contains (white_cited (white_in (value_at store id))) v → Contains store v
white_there store None v p within = absurd (contains_none v within)
white_there store (Some id) v p within =
    let one : white_cited (white_in (value_at store (Some id))) ≡ value.White p.0 ∷ [] = ap (λ w. white_cited (white_in w)) p.1 ∙ white_once p.0 p.2 in
    at_place store id.0 (value.White p.0) v p.1 (subst (λ l. Contains l v) one within)

item_there : (store : List Value) (x : Item) (v : Value) → CitesWell store x → Contains (cited_by (plain store x)) v → Contains store v
item_there store (item.Char ch marks) v p within = marks_there store marks v p within
item_there store (item.Opening kind generated head marks pre origin) v p within =
    let a = head_cited (head_in (value_at store head)) in
    let b = marks_cited (marks_in (value_at store marks)) in
    let c = white_cited (white_in (value_at store pre)) in
    elim (Contains-append_cases a (b ++ c) v within) [
      | inl first ↦ head_there store head v p.0 first
      | inr rest ↦ elim (Contains-append_cases b c v rest) [ inl second ↦ marks_there store marks v p.1 second | inr third ↦ white_there store pre v p.2 third ]
    ]
item_there store (item.Closing kind pre) v p within = white_there store pre v p within

pub cited_there : (store : List Value) (xs : List Item) → All (CitesWell store) xs → (v : Value) → Contains (cited (plain_list store xs)) v → Contains store v
cited_there store [] a v within = absurd (contains_none v within)
cited_there store (x ∷ xs) a v within =
    elim (Contains-append_cases (cited_by (plain store x)) (cited (plain_list store xs)) v within) [
      | inl first ↦ item_there store x v (All-head (CitesWell store) x xs a) first
      | inr rest ↦ cited_there store xs (All-tail (CitesWell store) x xs a) v rest
    ]

-- ---- transactions over a store that goes on

pub all_by_value-extended : (old new : List Value) → Extends old new → (txs : List (List Operation)) → All (TxCites old) txs → map (by_value new) txs ≡ map (by_value old) txs
all_by_value-extended old new e [] a = refl
all_by_value-extended old new e (tx ∷ txs) a =
    let here = by_value-extended old new e tx (All-head (TxCites old) tx txs a) in
    let rest = all_by_value-extended old new e txs (All-tail (TxCites old) tx txs a) in
    λ i. here i ∷ rest i

pub all_cites-extended : (old new : List Value) → Extends old new → (txs : List (List Operation)) → All (TxCites old) txs → All (TxCites new) txs
all_cites-extended old new e [] a = All-nil (TxCites new)
all_cites-extended old new e (tx ∷ txs) a =
    All-cons (TxCites new) tx txs (cites-extended old new e tx (All-head (TxCites old) tx txs a)) (all_cites-extended old new e txs (All-tail (TxCites old) tx txs a))

-- ---- one transaction

module _ (values store taken : List Value) (tx own : List Operation) (items : List Item) (well : All (CitesWell store) items)
    (grows : taken ≡ fill store (transaction_cited_in values tx)) (same : by_value taken own ≡ by_value values tx) where
  pub own_extends : Extends store taken
  own_extends = extends_by_fill store taken (transaction_cited_in values tx) grows

  pub own_list : All (CitesWell taken) items
  own_list = all-extended store taken own_extends items well

  pub over_own : {A : Type 0} (f : Transaction → List PlainItem → A) → f (by_value taken own) (plain_list taken items) ≡ f (by_value values tx) (plain_list store items)
  over_own f = ap (λ t. f t (plain_list taken items)) same ∙ ap (f (by_value values tx)) (list-extended store taken own_extends items well)

  pub has_removed : is_reduced (by_value values tx) ≡ true → Applies (by_value values tx) (plain_list store items) → HasRemoved values store tx
  has_removed reduced applies v within = removed_held store (by_value values tx) (plain_list store items) reduced applies (cited_there store items well) v within

  over_in : {A : Type 0} (l : List Item) → l ≡ items → (f : Transaction → List PlainItem → A) → f (by_value taken own) (plain_list taken l) ≡ f (by_value values tx) (plain_list store l)
  over_in l is f = ap (λ m. f (by_value taken own) (plain_list taken m)) is ∙ over_own f ∙ ap (λ m. f (by_value values tx) (plain_list store m)) (sym is)

  pub ready_is : (inserts : taken ≡ fill store (cited (all_inserted (by_value values tx)))) (new : List Value) (list : ItemList) (linked : Tree) (a : Admitting) → list.items ≡ items →
      IsReadyBack (by_value taken own) taken new list linked a.change → map (by_value taken) a.txs ≡ filled_on taken own items ∷ [] → All (TxCites taken) a.txs →
      IsReadyOther (by_value values tx) store new list linked a
  ready_is inserts new list linked a is ready txs cites =
      let t = by_value values tx in
      let grown = extends_by_fill taken new (changed_heads (by_value taken own) (plain_list taken list.items)) ready.store in
      record {
        change = record { items = ready.change.items ∙ over_in list.items is edited; cites = ready.change.cites; fits = ready.change.fits; tree = ready.change.tree };
        store = ready.store ∙ over_in list.items is (λ u l. fill taken (changed_heads u l))
            ∙ values_lemmas.filled_on store taken (cited (all_inserted t)) (changed_heads t (plain_list store list.items)) inserts;
        txs = all_by_value-extended taken new grown a.txs cites ∙ txs ∙ ap (λ f. f ∷ []) (over_own filled) ∙ ap (λ l. filled t (plain_list store l) ∷ []) (sym is);
        cites = all_cites-extended taken new grown a.txs cites;
      }
