-- The operations that set an attribute apply, and with the position that they keep they are the
-- model's transaction.
use Rattle.std.proofs.Common.{◌≡◌, ◌-◌, ℕ, zero, suc, ◌+◌, Bool, true, false, not, ◌&&◌, ◌==◌, if◌then◌else◌, List, [], ◌∷◌, length, drop, slice_get, Option, Some, None, option_map, Result, Ok, Err, refl, sym, ap, ◌∙◌, arith, eq-eqb}
use Rattle.std.specs.Option.{option_or}
use Rattle.std.proofs.lemmas.Bool.{and_parts}
use Rattle.std.proofs.lemmas.List.Elements.{All-nil, All-cons}
use Rattle.ve_base.specs.declared.value.Value.{Value}
use Rattle.ve_kinds.specs.Table.{is_element}
use Rattle.model_items.specs.declared.plain_item.PlainItem.{PlainItem}
use Rattle.model_items.specs.declared.plain_item.PlainItem.TheVariants.{Char, Opening, Closing}
use Rattle.model_items.specs.Same.{text_same, option_same}
use Rattle.model_items.proofs.SameLemmas.{Means-text_same, Means-option_same}
use Rattle.model_change.specs.Attributes.{AttrChange, value_of, is_reserved, allows, change_filled}
use Rattle.model_change.specs.Fault.{Applies, fault, mismatch_at, bad_attribute_at, first_allows}
use Rattle.model_change.specs.Inverse.{filled, first_filled}
use Rattle.model_change.specs.Transaction.{Retain, Attribute, Transaction, old_length}
use Rattle.model_change.specs.declared.tx_fault.TxFault.TheVariants as cause
use Rattle.model_edit.specs.Causes.{BuildCause, NotOpening, BadAttr}
use Rattle.model_edit.specs.Convert.{opens_kind, attribute}
use Rattle.model_items.specs.Offsets.{passes}
use Rattle.model_edit.specs.Edits.{Set, retaining, present_value, setting, may_set, transaction_of}
use Rattle.ve_tx.specs.Cites.{OperationCites, TxCites}
use Rattle.ve_tx.specs.Operation.{by_value, unkept, with_position}
use Rattle.ve_tx.specs.declared.op.Op.TheVariants as op
use Rattle.ve_build_shape.specs.Setting.{setting_ops}

pub cut : (items : List PlainItem) (at : ℕ) (x : PlainItem) → slice_get items at ≡ Some x → drop at items ≡ x ∷ drop (suc at) items
cut [] at x h = absurd (cc)
cut (y ∷ items) zero x h = let same : y ≡ x = cc in ap (λ y. y ∷ items) same
cut (y ∷ items) (suc at) x h = cut items at x h

cut_length : (items : List PlainItem) (at : ℕ) (x : PlainItem) → slice_get items at ≡ Some x → length items ≡ at + suc (length (drop (suc at) items))
cut_length [] at x h = absurd (cc)
cut_length (y ∷ items) zero x h = omega arith
cut_length (y ∷ items) (suc at) x h = let r = cut_length items at x h in omega (arith, r)

-- the operations by value
abbrev by_itself : ℕ → ℕ → AttrChange → Transaction
by_itself zero rest c = Attribute c ∷ Retain rest ∷ []
by_itself (suc n) rest c = Retain (suc n) ∷ Attribute c ∷ Retain rest ∷ []

plain_ops : (values : List Value) (at rest : ℕ) (name : List ℕ) (from to : Option (List ℕ)) →
    by_value values (unkept (setting_ops at rest name from to)) ≡ by_itself at rest (record { name = name; from = from; to = to; kept = None })
plain_ops values zero rest name from to = refl
plain_ops values (suc n) rest name from to = refl

and_from : (a b : Bool) → a ≡ true → b ≡ true → (a && b) ≡ true
and_from a b p q = ap (λ x. x && b) p ∙ q

allowed : (x : PlainItem) (items : List PlainItem) (name : List ℕ) (to : Option (List ℕ)) → may_set name (x ∷ items) ≡ true →
    allows (record { name = name; from = present_value name (x ∷ items); to = to; kept = None }) x ≡ true
allowed (Char c marks) items name to may = absurd (cc)
allowed (Closing kind pre) items name to may = absurd (cc)
allowed (Opening kind head marks pre origin generated) items name to may =
    let p = and_parts (is_element kind) (not (is_reserved name)) may in
    let v = value_of name head.attrs in
    and_from (is_element kind) (option_same text_same v v && not (is_reserved name)) p.0
    (and_from (option_same text_same v v) (not (is_reserved name)) ((Means-option_same text_same Means-text_same).itself v) p.1)

no_fault : (t : Transaction) (items : List PlainItem) → (old_length t == length items) ≡ true → mismatch_at 0 t items ≡ None → bad_attribute_at 0 t items ≡ None → fault t items ≡ None
no_fault t items l m b =
    ap (λ v. if v then option_or (option_map (λ at. cause.Mismatch at) (mismatch_at 0 t items)) (option_map (λ at. cause.BadAttr at) (bad_attribute_at 0 t items)) else Some (cause.BadLength (length items) (old_length t))) l
    ∙ ap (λ o. option_or (option_map (λ at. cause.Mismatch at) o) (option_map (λ at. cause.BadAttr at) (bad_attribute_at 0 t items))) m
    ∙ ap (λ o. option_map (λ at. cause.BadAttr at) o) b

by_itself_applies : (items : List PlainItem) (at rest : ℕ) (c : AttrChange) → at + rest ≡ length items → first_allows c (drop at items) ≡ true → fault (by_itself at rest c) items ≡ None
by_itself_applies items zero rest c whole may =
    no_fault (Attribute c ∷ Retain rest ∷ []) items (eq-eqb (rest + 0) (length items) (omega (arith, whole))) refl (ap (λ b. if b then None else Some 0) may)
by_itself_applies items (suc n) rest c whole may =
    no_fault (Retain (suc n) ∷ Attribute c ∷ Retain rest ∷ []) items (eq-eqb (suc n + (rest + 0)) (length items) (omega (arith, whole))) refl (ap (λ b. if b then None else Some (0 + suc n)) may)

by_itself_filled : (items : List PlainItem) (at rest : ℕ) (c : AttrChange) → filled (by_itself at rest c) items ≡ retaining at (Attribute (first_filled c (drop at items)) ∷ Retain rest ∷ [])
by_itself_filled items zero rest c = refl
by_itself_filled items (suc n) rest c = refl

-- how the model answers
module _ (items : List PlainItem) (at : ℕ) (name : List ℕ) (to : Option (List ℕ)) where
  abbrev answer : Bool → Bool → Result Transaction BuildCause
  answer opens reserved = if opens then (if reserved then Err (BadAttr at) else Ok (transaction_of items (Set at name to ∷ []))) else Err (NotOpening at)

  pub not_opening : passes (opens_kind is_element) (slice_get items at) ≡ false → attribute items at name to ≡ Err (NotOpening at)
  not_opening h = ap (λ b. answer b (is_reserved name)) h

  pub bad_attr : passes (opens_kind is_element) (slice_get items at) ≡ true → is_reserved name ≡ true → attribute items at name to ≡ Err (BadAttr at)
  bad_attr h g = ap (λ b. answer b (is_reserved name)) h ∙ ap (λ b. answer true b) g

  pub attribute_given : passes (opens_kind is_element) (slice_get items at) ≡ true → is_reserved name ≡ false → attribute items at name to ≡ Ok (transaction_of items (Set at name to ∷ []))
  attribute_given h g = ap (λ b. answer b (is_reserved name)) h ∙ ap (λ b. answer true b) g

-- it cites nothing
pub setting_cites : (values : List Value) (at rest : ℕ) (name : List ℕ) (from to : Option (List ℕ)) → TxCites values (unkept (setting_ops at rest name from to))
setting_cites values zero rest name from to =
    let C = OperationCites values in
    All-cons C (with_position (op.Attribute name from to) None) (with_position (op.Retain rest) None ∷ []) tt (All-cons C (with_position (op.Retain rest) None) [] tt (All-nil C))
setting_cites values (suc n) rest name from to =
    let C = OperationCites values in
    All-cons C (with_position (op.Retain (suc n)) None) (with_position (op.Attribute name from to) None ∷ with_position (op.Retain rest) None ∷ []) tt
    (All-cons C (with_position (op.Attribute name from to) None) (with_position (op.Retain rest) None ∷ []) tt (All-cons C (with_position (op.Retain rest) None) [] tt (All-nil C)))

-- an element that opens at a position
pub may_from : (items : List PlainItem) (at : ℕ) (name : List ℕ) → passes (opens_kind is_element) (slice_get items at) ≡ true → is_reserved name ≡ false → may_set name (drop at items) ≡ true
may_from [] at name opens free = absurd (cc)
may_from (Char c marks ∷ items) zero name opens free = absurd (cc)
may_from (Closing kind pre ∷ items) zero name opens free = absurd (cc)
may_from (Opening kind head marks pre origin generated ∷ items) zero name opens free = and_from (is_element kind) (not (is_reserved name)) opens (ap not free)
may_from (x ∷ items) (suc at) name opens free = may_from items at name opens free

-- what the model's transaction is, where an item stands at the position
model_is : (items : List PlainItem) (at : ℕ) (x : PlainItem) (more : List PlainItem) (name : List ℕ) (to : Option (List ℕ)) → drop at items ≡ x ∷ more →
    transaction_of items (Set at name to ∷ []) ≡ retaining at (Attribute (setting name to (x ∷ more)) ∷ Retain (suc (length more)) ∷ [])
model_is items at x more name to there =
    let e : at - 0 ≡ at = omega arith in
    ap (λ k. retaining k (Attribute (setting name to (drop k items)) ∷ retaining (length (drop k items)) [])) e
    ∙ ap (λ l. retaining at (Attribute (setting name to l) ∷ retaining (length l) [])) there

module _ (values : List Value) (items : List PlainItem) (at rest : ℕ) (x : PlainItem) (name : List ℕ) (from to : Option (List ℕ))
    (there : slice_get items at ≡ Some x) (present : from ≡ present_value name (x ∷ [])) (left : at + rest ≡ length items) where
  -- an item's value reads nothing after it
  alone : (x : PlainItem) (items : List PlainItem) → present_value name (x ∷ []) ≡ present_value name (x ∷ items)
  alone (Char c marks) items = refl
  alone (Opening kind head marks pre origin generated) items = refl
  alone (Closing kind pre) items = refl

  from_is : from ≡ present_value name (x ∷ drop (suc at) items)
  from_is = present ∙ alone x (drop (suc at) items)

  pub setting_applies : may_set name (drop at items) ≡ true → Applies (by_value values (unkept (setting_ops at rest name from to))) items
  setting_applies may =
      let c : AttrChange = record { name = name; from = from; to = to; kept = None } in
      let first : first_allows c (drop at items) ≡ true =
      ap (first_allows c) (cut items at x there)
      ∙ ap (λ f. allows (record { name = name; from = f; to = to; kept = None }) x) from_is
      ∙ allowed x (drop (suc at) items) name to (ap (may_set name) (sym (cut items at x there)) ∙ may) in
      ap (λ t. fault t items) (plain_ops values at rest name from to) ∙ by_itself_applies items at rest c left first

  pub setting_filled : filled (by_value values (unkept (setting_ops at rest name from to))) items ≡ transaction_of items (Set at name to ∷ [])
  setting_filled =
      let c : AttrChange = record { name = name; from = from; to = to; kept = None } in
      let n : rest ≡ suc (length (drop (suc at) items)) = let w = cut_length items at x there in omega (arith, left, w) in
      ap (λ t. filled t items) (plain_ops values at rest name from to)
      ∙ by_itself_filled items at rest c
      ∙ ap (λ l. retaining at (Attribute (first_filled c l) ∷ Retain rest ∷ [])) (cut items at x there)
      ∙ ap (λ f. retaining at (Attribute (change_filled (record { name = name; from = f; to = to; kept = None }) x) ∷ Retain rest ∷ [])) from_is
      ∙ ap (λ k. retaining at (Attribute (setting name to (x ∷ drop (suc at) items)) ∷ Retain k ∷ [])) n
      ∙ sym (model_is items at x (drop (suc at) items) name to (cut items at x there))
