-- How an attribute operation comes after what is collected.
use Rattle.std.proofs.Common.{◌≡◌, ◌≤◌, ℕ, zero, suc, ◌+◌, ◌-◌, Option, Some, None, List, [], ◌∷◌, ◌++◌, length, drop, slice_get, refl, sym, ap, ◌∙◌, subst, arith, append_assoc, drop-drop}
use Rattle.std.specs.Prelude.{All}
use Rattle.std.proofs.lemmas.List.{map-append}
use Rattle.std.proofs.lemmas.List.Elements.{All-nil, All-cons, All-append}
use Rattle.std.proofs.lemmas.Option.{slice_get_within}
use Rattle.ve_base.specs.declared.value.Value.{Value}
use Rattle.model_items.specs.declared.item.Item.{Item}
use Rattle.model_items.specs.declared.plain_item.PlainItem.{PlainItem}
use Rattle.model_items.specs.declared.plain_item.PlainItem.TheVariants.{Char, Opening, Closing}
use Rattle.model_items.specs.Plain.{plain, plain_list, CitesWell}
use Rattle.model_change.specs.Attributes.{AttrChange, position_kept}
use Rattle.model_change.specs.Transaction.{Attribute, Transaction}
use Rattle.model_edit.specs.Edits.{Edit, Set, retaining, replacing, present_value, setting, transaction_from, transaction_of}
use Rattle.ve_tx.specs.declared.op.Op.{Op}
use Rattle.ve_tx.specs.declared.op.Op.TheVariants as op
use Rattle.ve_tx.specs.Cites.{OperationCites, TxCites}
use Rattle.ve_tx.specs.Operation.{Operation, operation_by_value, by_value, unkept, with_position}
use Rattle.ve_edits.specs.Collected.{Collected, collected_transaction, AreCited, Makes}
use Rattle.ve_edits.proofs.BracketLemmas.{slice_get-plain}

-- before an attribute operation what is pending may be put down
settled_before : (n : ℕ) (r i : List PlainItem) (c : AttrChange) (t : Transaction) → retaining n (replacing r i (Attribute c ∷ t)) ≡ retaining n (replacing r i []) ++ Attribute c ∷ t
settled_before zero [] [] c t = refl
settled_before zero [] (o ∷ is) c t = refl
settled_before zero (x ∷ xs) i c t = refl
settled_before (suc n) [] [] c t = refl
settled_before (suc n) [] (o ∷ is) c t = refl
settled_before (suc n) (x ∷ xs) i c t = refl

-- a list from an item on
cut : (items : List PlainItem) (at : ℕ) (x : PlainItem) → slice_get items at ≡ Some x → drop at items ≡ x ∷ drop (suc at) items
cut [] at x h = absurd (cc)
cut (y ∷ items) zero x h = let same : y ≡ x = cc in ap (λ y. y ∷ items) same
cut (y ∷ items) (suc at) x h = cut items at x h

-- an item's value reads nothing after it
alone : (name : List ℕ) (x : PlainItem) (items : List PlainItem) → present_value name (x ∷ items) ≡ present_value name (x ∷ [])
alone name (Char c marks) items = refl
alone name (Opening kind head marks pre origin generated) items = refl
alone name (Closing kind pre) items = refl

-- an attribute that is set keeps no position
set_keeps : (from : Option (List ℕ)) (to name : List ℕ) (x : PlainItem) → position_kept from (Some to) name None x ≡ None
set_keeps None to name x = refl
set_keeps (Some old) to name x = refl

setting_is : (name : List ℕ) (from : Option (List ℕ)) (to : List ℕ) (x : PlainItem) (items : List PlainItem) → from ≡ present_value name (x ∷ []) →
    setting name (Some to) (x ∷ items) ≡ record { name = name; from = from; to = Some to; kept = None }
setting_is name from to x items is =
    let same : present_value name (x ∷ items) ≡ from = alone name x items ∙ sym is in
    let change : Option (List ℕ) → Option ℕ → AttrChange = λ f k. record { name = name; from = f; to = Some to; kept = k } in
    ap (λ f. change f (position_kept f (Some to) name None x)) same ∙ ap (change from) (set_keeps from to name x)

-- One attribute more is set: the position is passed to, what is pending is put down, and the
-- operation comes after it.
module _ (store : List Value) (items : List Item) (edits : List Edit) (old mid : Collected) (place : ℕ) (x : Item) (name : List ℕ) (from : Option (List ℕ)) (to : List ℕ)
    (order : old.at ≤ place) (there : slice_get items place ≡ Some x) (present : from ≡ present_value name (plain store x ∷ []))
    (means : (t : Transaction) → collected_transaction store mid t ≡ collected_transaction store old (retaining (place - old.at) t)) where
  abbrev change : AttrChange
  change = record { name = name; from = from; to = Some to; kept = None }

  -- what the operation comes before
  rest_is : drop (place - old.at) (drop old.at (plain_list store items)) ≡ plain store x ∷ drop (suc place) (plain_list store items)
  rest_is =
      let e : old.at + (place - old.at) ≡ place = omega arith in
      drop-drop (place - old.at) old.at (plain_list store items) ∙ ap (λ n. drop n (plain_list store items)) e
      ∙ cut (plain_list store items) place (plain store x) (slice_get-plain store items place x there)

  pub set_after : (put ops : List Op) (after : Collected) → by_value store (unkept put) ≡ collected_transaction store mid [] → ops ≡ put ++ op.Attribute name from (Some to) ∷ [] →
      TxCites store (unkept put) → after ≡ record { at = place; ops = ops; retained = 0; removed = []; inserted = [] } →
      Makes store items edits old → Makes store items (edits ++ Set place name (Some to) ∷ []) after
  set_after put ops after down whole cited is m =
      let C = OperationCites store in
      let here = with_position (op.Attribute name from (Some to)) None in
      let P = plain_list store items in
      let M : Collected → Type 0 = Makes store items (edits ++ Set place name (Some to) ∷ []) in
      let listed : unkept ops ≡ unkept put ++ here ∷ [] = ap unkept whole ∙ map-append (λ (o : Op). with_position o None) put (op.Attribute name from (Some to) ∷ []) in
      let meant : by_value store (unkept ops) ≡ collected_transaction store mid [] ++ Attribute change ∷ [] =
      ap (by_value store) listed ∙ map-append (operation_by_value store) (unkept put) (here ∷ []) ∙ ap (λ (t : Transaction). t ++ Attribute change ∷ []) down in
      let inside = slice_get_within items place x there in
      subst M (sym is) (record {
        within = omega arith;
        means = λ more.
            let rest = drop (place - old.at) (drop old.at P) in
            let t = transaction_from place (drop place P) more in
            let later : rest ≡ drop place P = rest_is ∙ sym (cut P place (plain store x) (slice_get-plain store items place x there)) in
            let base = by_value store (unkept mid.ops) in
            let pending = retaining mid.retained (replacing (plain_list store mid.removed) (plain_list store mid.inserted) []) in
            ap (transaction_of P) (append_assoc edits (Set place name (Some to) ∷ []) more)
            ∙ m.means (Set place name (Some to) ∷ more)
            ∙ sym (means (Attribute (setting name (Some to) rest) ∷ transaction_from place rest more))
            ∙ ap (λ r. collected_transaction store mid (Attribute (setting name (Some to) r) ∷ transaction_from place rest more)) rest_is
            ∙ ap (λ s. collected_transaction store mid (Attribute s ∷ transaction_from place rest more)) (setting_is name from to (plain store x) (drop (suc place) P) present)
            ∙ ap (λ r. collected_transaction store mid (Attribute change ∷ transaction_from place r more)) later
            ∙ ap (λ (v : Transaction). base ++ v) (settled_before mid.retained (plain_list store mid.removed) (plain_list store mid.inserted) change t)
            ∙ sym (append_assoc base pending (Attribute change ∷ t))
            ∙ sym (append_assoc (base ++ pending) (Attribute change ∷ []) t)
            ∙ ap (λ (v : Transaction). v ++ t) (sym meant);
        cited = record {
          ops = subst (TxCites store) (sym listed) (All-append C (unkept put) (here ∷ []) cited (All-cons C here [] tt (All-nil C)));
          removed = All-nil (CitesWell store);
          inserted = All-nil (CitesWell store);
        };
      })
