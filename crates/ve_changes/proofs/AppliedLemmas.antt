-- Operations as a line writes them, as the operations of a transaction.
use Rattle.std.proofs.Common.{◌≡◌, ◌≢◌, ◌≤◌, ℕ, zero, suc, ◌+◌, ◌-◌, ◌==◌, Bool, true, false, Option, None, List, [], ◌∷◌, ◌++◌, All, length, take, drop, Result, Ok, Err, refl, sym, ap, ◌∙◌, subst, append-nil, append_assoc, arith}
use Rattle.std.specs.Prelude.{slice_range}
use Rattle.std.proofs.lemmas.Bool.{eq-eqb, ne_eqb}
use Rattle.std.proofs.lemmas.List.{map-append, drop-drop, drop-map}
use Rattle.std.proofs.lemmas.List.Concat.{flat_map-append}
use Rattle.std.proofs.lemmas.List.Elements.{All-nil, All-cons, All-append, All-take, All-drop}
use Rattle.ve_base.specs.declared.attrs.Attr.{Attr}
use Rattle.ve_base.specs.declared.value.Value.{Value}
use Rattle.model_items.specs.declared.item.Item.{Item}
use Rattle.model_items.specs.Plain.{plain, plain_list, CitesWell}
use Rattle.model_items.specs.declared.plain_item.PlainItem.{PlainItem}
use Rattle.model_items.specs.declared.plain_item.PlainItem.TheVariants.{Char, Opening, Closing}
use Rattle.model_change.specs.Attributes.{value_of}
use Rattle.model_change.specs.Store.{cited, cited_by, fill}
use Rattle.model_change.specs.Transaction.{Retain, Replace, Attribute, Transaction, all_inserted}
use Rattle.model_edit.specs.Edits.{present_value}
use Rattle.model_world.specs.declared.edit_command.OpWords.{OpWords}
use Rattle.model_world.specs.declared.edit_command.OpWords.TheVariants as words
use Rattle.model_world.specs.declared.refusal.Refusal.{Refusal}
use Rattle.model_world.specs.declared.refusal.Refusal.TheVariants as refusal
use Rattle.model_world.specs.Edits.{needs, ops_on, transaction_of_ops}
use Rattle.ve_store.specs.Following.{Following, together}
use Rattle.ve_tx.specs.declared.op.Op.{Op as CitedOp}
use Rattle.ve_tx.specs.declared.lookup.Search.{Search}
use Rattle.ve_tx.specs.Searched.{SearchesIn, first_attrs}
use Rattle.ve_tx.specs.Cites.{OperationCites, TxCites}
use Rattle.ve_tx.specs.Operation.{Operation, by_value, operation_by_value, unkept, with_position}
use Rattle.ve_tx.proofs.ValuesLemmas.{extends_by_fill, filled_on, all-extended, list-extended}
use Rattle.ve_editor.proofs.GrownLemmas.{by_value-extended, cites-extended}
use Rattle.ve_changes.specs.Applied.{items_passed, op_on, inserted_by}
use Rattle.ve_changes.specs.Drafts.{IsDrafted}

-- ---- the value that an attribute has

-- it is that of the first item's attributes
value_first : (name : List ℕ) (items : List PlainItem) → value_of name (first_attrs items) ≡ present_value name items
value_first name [] = refl
value_first name (Opening kind head marks pre origin generated ∷ items) = refl
value_first name (Char ch marks ∷ items) = refl
value_first name (Closing kind pre ∷ items) = refl

attrs_there : (store : List Value) (items : List Item) (at : ℕ) → first_attrs (plain_list store (drop at items)) ≡ first_attrs (drop at (plain_list store items))
attrs_there store items at = ap first_attrs (sym (drop-map (plain store) at items))

-- the attributes that are borrowed of the list are searched as those of the page
pub searches_lent : (store : List Value) (items : List Item) (at : ℕ) (attrs : List Attr) (search : Search) → attrs ≡ first_attrs (plain_list store (drop at items)) →
    SearchesIn (first_attrs (drop at (plain_list store items))) search → SearchesIn attrs search
searches_lent store items at attrs search lent fits = subst (λ (l : List Attr). SearchesIn l search) (sym (lent ∙ attrs_there store items at)) fits

pub searches_page : (store : List Value) (items : List Item) (at : ℕ) (attrs : List Attr) (search : Search) → attrs ≡ first_attrs (plain_list store (drop at items)) →
    SearchesIn attrs search → SearchesIn (first_attrs (drop at (plain_list store items))) search
searches_page store items at attrs search lent fits = subst (λ (l : List Attr). SearchesIn l search) (lent ∙ attrs_there store items at) fits

-- an attribute's operation passes nothing
pub searches_on : (items : List PlainItem) (at : ℕ) (o : OpWords) (name : List ℕ) (to : Option (List ℕ)) (search : Search) → o ≡ words.Attr name to →
    SearchesIn (first_attrs (drop at items)) search → SearchesIn (first_attrs (drop (at + items_passed o) items)) search
searches_on items at o name to search e fits =
    let none : items_passed o ≡ 0 = ap items_passed e in
    let here : at ≡ at + items_passed o = omega (arith, none) in
    subst (λ n. SearchesIn (first_attrs (drop n items)) search) here fits

pub value_there : (store : List Value) (items : List Item) (at : ℕ) (attrs : List Attr) (name : List ℕ) → attrs ≡ first_attrs (plain_list store (drop at items)) →
    value_of name attrs ≡ present_value name (drop at (plain_list store items))
value_there store items at attrs name lent = ap (value_of name) (lent ∙ attrs_there store items at) ∙ value_first name (drop at (plain_list store items))

-- ---- the items that one removes

plain_take : (store : List Value) (n : ℕ) (items : List Item) → plain_list store (take n items) ≡ take n (plain_list store items)
plain_take store zero items = refl
plain_take store (suc n) [] = refl
plain_take store (suc n) (x ∷ items) = ap (λ l. plain store x ∷ l) (plain_take store n items)

plain_drop : (store : List Value) (n : ℕ) (items : List Item) → plain_list store (drop n items) ≡ drop n (plain_list store items)
plain_drop store zero items = refl
plain_drop store (suc n) [] = refl
plain_drop store (suc n) (x ∷ items) = plain_drop store n items

module _ (store : List Value) (new : Following) (items removed : List Item) (at count : ℕ) (listed : All (CitesWell store) items) (is : removed ≡ slice_range items at (at + count)) where
  part : removed ≡ take count (drop at items)
  part = is ∙ ap (λ n. take n (drop at items)) (let e : (at + count) - at ≡ count = omega arith in e)

  cites_part : All (CitesWell store) removed
  cites_part = subst (All (CitesWell store)) (sym part) (All-take (CitesWell store) count (drop at items) (All-drop (CitesWell store) at items listed))

  pub removed_cites : All (CitesWell (together store new)) removed
  removed_cites = all-extended store (together store new) (new.values, refl) removed cites_part

  pub removed_means : plain_list (together store new) removed ≡ take count (drop at (plain_list store items))
  removed_means =
      list-extended store (together store new) (new.values, refl) removed cites_part ∙ ap (plain_list store) part
      ∙ plain_take store count (drop at items) ∙ ap (take count) (plain_drop store at items)

-- ---- one operation after the other

first_on : (o : OpWords) (ops : List OpWords) (items : List PlainItem) → ops_on (o ∷ ops) items ≡ op_on o items ∷ ops_on ops (drop (items_passed o) items)
first_on (words.Retain count) ops items = refl
first_on (words.Remove count insert) ops items = refl
first_on (words.Attr name to) ops items = refl

first_needs : (o : OpWords) (ops : List OpWords) → needs (o ∷ ops) ≡ items_passed o + needs ops
first_needs (words.Retain count) ops = refl
first_needs (words.Remove count insert) ops = refl
first_needs (words.Attr name to) ops = omega arith

first_inserts : (o : OpWords) (items : List PlainItem) → all_inserted (op_on o items ∷ []) ≡ inserted_by o
first_inserts (words.Retain count) items = refl
first_inserts (words.Remove count insert) items = append-nil insert
first_inserts (words.Attr name to) items = refl

inserted-append : (s t : Transaction) → all_inserted (s ++ t) ≡ all_inserted s ++ all_inserted t
inserted-append [] t = refl
inserted-append (Retain count ∷ s) t = inserted-append s t
inserted-append (Replace removed inserted ∷ s) t = ap (λ l. inserted ++ l) (inserted-append s t) ∙ sym (append_assoc inserted (all_inserted s) (all_inserted t))
inserted-append (Attribute change ∷ s) t = inserted-append s t

-- so far a sum and what is left of it are the whole
pub needs_next : (sum : ℕ) (o : OpWords) (ops : List OpWords) (whole : ℕ) → sum + needs (o ∷ ops) ≡ whole → (sum + items_passed o) + needs ops ≡ whole
needs_next sum o ops whole e = let first = first_needs o ops in omega (arith, e, first)

pub needs_within : (at : ℕ) (o : OpWords) (ops : List OpWords) (whole : ℕ) → at + needs (o ∷ ops) ≡ whole → at + items_passed o ≤ whole
needs_within at o ops whole e = let first = first_needs o ops in omega (arith, e, first)

-- Of the operations on these items those before `rest` are made, over values that have grown by
-- what they insert.
pub record Applying (v0 v : List Value) (items : List PlainItem) (ops rest : List OpWords) (at : ℕ) (made : List CitedOp) : Type 0 where
  pub cites : TxCites v (unkept made)
  pub means : ops_on ops items ≡ by_value v (unkept made) ++ ops_on rest (drop at items)
  pub filled : v ≡ fill v0 (cited (all_inserted (by_value v (unkept made))))
  pub left : at + needs rest ≡ length items

pub applying_none : (v : List Value) (items : List PlainItem) (ops : List OpWords) → needs ops ≡ length items → Applying v v items ops ops 0 []
applying_none v items ops e = record { cites = All-nil (OperationCites v); means = refl; filled = refl; left = omega (arith, e) }

module _ (v0 v w : List Value) (items : List PlainItem) (ops rest : List OpWords) (o : OpWords) (at : ℕ) (made : List CitedOp) (m : CitedOp)
    (so_far : Applying v0 v items ops (o ∷ rest) at made) (c : OperationCites w (with_position m None)) (e : operation_by_value w (with_position m None) ≡ op_on o (drop at items))
    (f : w ≡ fill v (cited (inserted_by o))) where
  abbrev one : Operation
  one = with_position m None

  same : by_value w (unkept made) ≡ by_value v (unkept made)
  same = by_value-extended v w (extends_by_fill v w (cited (inserted_by o)) f) (unkept made) so_far.cites

  longer : unkept (made ++ m ∷ []) ≡ unkept made ++ one ∷ []
  longer = map-append (λ (p : CitedOp). with_position p None) made (m ∷ [])

  made_is : by_value w (unkept (made ++ m ∷ [])) ≡ by_value v (unkept made) ++ op_on o (drop at items) ∷ []
  made_is =
      ap (by_value w) longer ∙ map-append (operation_by_value w) (unkept made) (one ∷ [])
      ∙ ap (λ t. t ++ operation_by_value w one ∷ []) same ∙ ap (λ x. by_value v (unkept made) ++ x ∷ []) e

  on : ops_on (o ∷ rest) (drop at items) ≡ op_on o (drop at items) ∷ ops_on rest (drop (at + items_passed o) items)
  on = first_on o rest (drop at items) ∙ ap (λ l. op_on o (drop at items) ∷ ops_on rest l) (drop-drop (items_passed o) at items)

  inserts : all_inserted (by_value v (unkept made)) ++ inserted_by o ≡ all_inserted (by_value w (unkept (made ++ m ∷ [])))
  inserts =
      ap (λ l. all_inserted (by_value v (unkept made)) ++ l) (sym (first_inserts o (drop at items)))
      ∙ sym (inserted-append (by_value v (unkept made)) (op_on o (drop at items) ∷ [])) ∙ ap all_inserted (sym made_is)

  pub applying_next : Applying v0 w items ops rest (at + items_passed o) (made ++ m ∷ [])
  applying_next = record {
    cites = subst (TxCites w) (sym longer)
        (All-append (OperationCites w) (unkept made) (one ∷ []) (cites-extended v w (extends_by_fill v w (cited (inserted_by o)) f) (unkept made) so_far.cites)
        (All-cons (OperationCites w) one [] c (All-nil (OperationCites w))));
    means =
        so_far.means ∙ ap (λ l. by_value v (unkept made) ++ l) on
        ∙ sym (append_assoc (by_value v (unkept made)) (op_on o (drop at items) ∷ []) (ops_on rest (drop (at + items_passed o) items)))
        ∙ ap (λ l. l ++ ops_on rest (drop (at + items_passed o) items)) (sym made_is);
    filled =
        f ∙ filled_on v0 v (cited (all_inserted (by_value v (unkept made)))) (cited (inserted_by o)) so_far.filled
        ∙ ap (fill v0) (sym (flat_map-append cited_by (all_inserted (by_value v (unkept made))) (inserted_by o)))
        ∙ ap (λ l. fill v0 (cited l)) inserts;
    left = needs_next at o rest (length items) so_far.left;
  }

-- ---- all of them

pub applying_all : (v0 v : List Value) (items : List PlainItem) (ops rest : List OpWords) (at : ℕ) (made : List CitedOp) → Applying v0 v items ops rest at made → rest ≡ [] →
    by_value v (unkept made) ≡ ops_on ops items
applying_all v0 v items ops rest at made a e = sym (a.means ∙ ap (λ l. by_value v (unkept made) ++ ops_on l (drop at items)) e ∙ append-nil (by_value v (unkept made)))

pub applying_filled : (v0 v : List Value) (items : List PlainItem) (ops rest : List OpWords) (at : ℕ) (made : List CitedOp) → Applying v0 v items ops rest at made → rest ≡ [] →
    v ≡ fill v0 (cited (all_inserted (ops_on ops items)))
applying_filled v0 v items ops rest at made a e = a.filled ∙ ap (λ t. fill v0 (cited (all_inserted t))) (applying_all v0 v items ops rest at made a e)

-- ---- the draft

by_lengths : (items : List PlainItem) (ops : List OpWords) (b : Bool) → b ≡ true → (elim b as (λ _. Result Transaction Refusal) [
  | true ↦ Ok (ops_on ops items)
  | false ↦ Err (refusal.BadLength (length items) (needs ops))
]) ≡ Ok (ops_on ops items)
by_lengths items ops true e = refl
by_lengths items ops false e = cc

not_by_lengths : (items : List PlainItem) (ops : List OpWords) (b : Bool) → b ≡ false → (elim b as (λ _. Result Transaction Refusal) [
  | true ↦ Ok (ops_on ops items)
  | false ↦ Err (refusal.BadLength (length items) (needs ops))
]) ≡ Err (refusal.BadLength (length items) (needs ops))
not_by_lengths items ops true e = cc
not_by_lengths items ops false e = refl

pub bad_length : (items : List PlainItem) (ops : List OpWords) (has need : ℕ) → has ≡ length items → need ≡ needs ops → need ≢ has →
    transaction_of_ops items ops ≡ Err (refusal.BadLength has need)
bad_length items ops has need h n differ =
    not_by_lengths items ops (needs ops == length items) (ne_eqb (needs ops) (length items) (λ e. differ (n ∙ e ∙ sym h)))
    ∙ ap (λ l. Err (refusal.BadLength l (needs ops))) (sym h) ∙ ap (λ l. Err (refusal.BadLength has l)) (sym n)

pub applied_is : (store : List Value) (first new : Following) (items : List PlainItem) (ops : List OpWords) (tx : List Operation) →
    first ≡ record { after = length store; values = [] } → new.after ≡ length store → TxCites (together store new) tx →
    by_value (together store new) tx ≡ ops_on ops items → together store new ≡ fill (together store first) (cited (all_inserted (ops_on ops items))) →
    needs ops ≡ length items → IsDrafted store (transaction_of_ops items ops) (record { tx = tx; values = new })
applied_is store first new items ops tx is follows cites means filled lengths =
    record {
      draft = record {
        follows = follows;
        cites = cites;
        filled =
            filled ∙ ap (λ (n : Following). fill (together store n) (cited (all_inserted (ops_on ops items)))) is
            ∙ ap (λ l. fill l (cited (all_inserted (ops_on ops items)))) (append-nil store)
            ∙ ap (λ t. fill store (cited (all_inserted t))) (sym means);
      };
      same = by_lengths items ops (needs ops == length items) (eq-eqb (needs ops) (length items) lengths) ∙ ap Ok (sym means);
    }
