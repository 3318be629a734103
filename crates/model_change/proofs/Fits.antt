-- Transactions that apply, by cases on their operations; and the length of the list that each
-- gives.
use Rattle.std.specs.Option.{option_or}
use Rattle.std.specs.Prelude.{option_map}
use Rattle.std.proofs.Common.{◌≡◌, ℕ, suc, ◌+◌, ◌-◌, ◌≤◌, Bool, true, false, ◌==◌, if◌then◌else◌, eqb-true, eq-eqb, List, [], ◌∷◌, ◌++◌, length, take, drop, Option, Some, None, refl, sym, ap, ◌∙◌, arith}
use Rattle.std.proofs.lemmas.List.{length-append, length-take, length-drop}
use Rattle.model_items.specs.declared.plain_item.PlainItem.{PlainItem}
use Rattle.model_items.specs.Same.{item_same}
use Rattle.model_items.proofs.SameLemmas.{Means-item_same}
use Rattle.model_change.specs.declared.tx_fault.TxFault.{TxFault}
use Rattle.model_change.specs.declared.tx_fault.TxFault.TheVariants.{BadLength, Mismatch, BadAttr}
use Rattle.model_change.specs.Attributes.{item_changed}
use Rattle.model_change.specs.Transaction.{Retain, Replace, Attribute, Transaction, old_length, new_length, on_first, edited}
use Rattle.model_change.specs.Fault.{differs_at, mismatch_at, first_allows, bad_attribute_at, Applies, GivesNewLength}

-- each removed item is there, and each attribute operation is allowed
abbrev pub Fits : Transaction → List PlainItem → Type 0
Fits [] items = Unit {0}
Fits (Retain count ∷ ops) items = Fits ops (drop count items)
Fits (Replace removed inserted ∷ ops) items = (items ≡ removed ++ drop (length removed) items) × Fits ops (drop (length removed) items)
Fits (Attribute change ∷ ops) items = (first_allows change items ≡ true) × Fits ops (on_first (item_changed change) items)

or_else-none : {A : Type 0} (o p : Option A) → option_or o p ≡ None → (o ≡ None) × (p ≡ None)
or_else-none None p h = (refl, h)
or_else-none (Some x) p h = cc

or_else-none_from : {A : Type 0} (o p : Option A) → o ≡ None → p ≡ None → option_or o p ≡ None
or_else-none_from o p e f = rw e f

-- the choice that ended in `None` took the first way
if_none : {A : Type 0} (b : Bool) (o : Option A) (x : A) → (if b then o else Some x) ≡ None → (b ≡ true) × (o ≡ None)
if_none true o x h = (refl, h)
if_none false o x h = cc

begins_from : (at : ℕ) (removed items : List PlainItem) → differs_at at removed items ≡ None → items ≡ removed ++ drop (length removed) items
begins_from at [] items h = refl
begins_from at (one ∷ removed) [] h = cc
begins_from at (one ∷ removed) (item ∷ items) h =
    let p = if_none (item_same one item) (differs_at (suc at) removed items) at h in
    let e = Means-item_same.equal one item p.0 in
    let f = begins_from (suc at) removed items p.1 in
    λ i. sym e i ∷ f i

begins_to : (at : ℕ) (removed rest : List PlainItem) → differs_at at removed (removed ++ rest) ≡ None
begins_to at [] rest = refl
begins_to at (one ∷ removed) rest = rw (Means-item_same.itself one) (begins_to (suc at) removed rest)

Fits_from : (ops : Transaction) (at : ℕ) (items : List PlainItem) → mismatch_at at ops items ≡ None → bad_attribute_at at ops items ≡ None → Fits ops items
Fits_from [] at items p q = tt
Fits_from (Retain count ∷ ops) at items p q = Fits_from ops (at + count) (drop count items) p q
Fits_from (Replace removed inserted ∷ ops) at items p q =
    let both = or_else-none (differs_at at removed items) _ p in
    (begins_from at removed items both.0, Fits_from ops (at + length removed) (drop (length removed) items) both.1 q)
Fits_from (Attribute change ∷ ops) at items p q =
    let both = if_none (first_allows change items) _ at q in
    (both.0, Fits_from ops at (on_first (item_changed change) items) p both.1)

mismatch_from : (ops : Transaction) (at : ℕ) (items : List PlainItem) → Fits ops items → mismatch_at at ops items ≡ None
mismatch_from [] at items fits = refl
mismatch_from (Retain count ∷ ops) at items fits = mismatch_from ops (at + count) (drop count items) fits
mismatch_from (Replace removed inserted ∷ ops) at items fits =
    or_else-none_from (differs_at at removed items) _
    (ap (differs_at at removed) fits.0 ∙ begins_to at removed (drop (length removed) items))
    (mismatch_from ops (at + length removed) (drop (length removed) items) fits.1)
mismatch_from (Attribute change ∷ ops) at items fits = mismatch_from ops at (on_first (item_changed change) items) fits.1

bad_attribute_from : (ops : Transaction) (at : ℕ) (items : List PlainItem) → Fits ops items → bad_attribute_at at ops items ≡ None
bad_attribute_from [] at items fits = refl
bad_attribute_from (Retain count ∷ ops) at items fits = bad_attribute_from ops (at + count) (drop count items) fits
bad_attribute_from (Replace removed inserted ∷ ops) at items fits = bad_attribute_from ops (at + length removed) (drop (length removed) items) fits.1
bad_attribute_from (Attribute change ∷ ops) at items fits =
    ap (λ b. if b then bad_attribute_at at ops (on_first (item_changed change) items) else Some at) fits.0
    ∙ bad_attribute_from ops at (on_first (item_changed change) items) fits.1

-- a transaction applies exactly where its length is the list's and it fits
pub parts_of_Applies : (t : Transaction) (items : List PlainItem) → Applies t items → (old_length t ≡ length items) × Fits t items
parts_of_Applies t items h =
    let p = if_none (old_length t == length items) _ (BadLength (length items) (old_length t)) h in
    let q = or_else-none (option_map (λ at. Mismatch at) (mismatch_at 0 t items)) _ p.1 in (
      eqb-true (old_length t) (length items) p.0,
      Fits_from t 0 items (fault_by-none (λ at. Mismatch at) (mismatch_at 0 t items) q.0) (fault_by-none (λ at. BadAttr at) (bad_attribute_at 0 t items) q.1),
    )
  where
    fault_by-none : (named : ℕ → TxFault) (o : Option ℕ) → option_map named o ≡ None → o ≡ None
    fault_by-none named None h = refl
    fault_by-none named (Some at) h = cc

pub Applies_from : (t : Transaction) (items : List PlainItem) → old_length t ≡ length items → Fits t items → Applies t items
Applies_from t items e fits =
    let same : (old_length t == length items) ≡ true = eq-eqb (old_length t) (length items) e in
    rw (same, mismatch_from t 0 items fits, bad_attribute_from t 0 items fits)

pub length-on_first : (f : PlainItem → PlainItem) (items : List PlainItem) → length (on_first f items) ≡ length items
length-on_first f [] = refl
length-on_first f (item ∷ items) = refl

pub length-edited : (ops : Transaction) (items : List PlainItem) → Fits ops items → old_length ops ≤ length items →
    length (edited ops items) + old_length ops ≡ length items + new_length ops
length-edited [] items fits le = refl
length-edited (Retain count ∷ ops) items fits le =
    let cut : length (drop count items) ≡ length items - count = length-drop count items in
    let rest = length-edited ops (drop count items) fits (omega arith) in
    rw (length-append (take count items) (edited ops (drop count items)), length-take count items) (omega arith)
length-edited (Replace removed inserted ∷ ops) items fits le =
    let cut : length (drop (length removed) items) ≡ length items - length removed = length-drop (length removed) items in
    let rest = length-edited ops (drop (length removed) items) fits.1 (omega arith) in
    rw (length-append inserted (edited ops (drop (length removed) items))) (omega arith)
length-edited (Attribute change ∷ ops) items fits le =
    let same = length-on_first (item_changed change) items in
    let rest = length-edited ops (on_first (item_changed change) items) fits.1 (omega arith) in
    omega arith

pub gives_new_length : GivesNewLength
gives_new_length t items applies =
    let p = parts_of_Applies t items applies in
    let e = length-edited t items p.1 (omega arith) in
    omega arith
