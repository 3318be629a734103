-- Where no value may make an item a reference, no item is one.
use Rattle.std.proofs.Common.{◌≡◌, ℕ, zero, suc, ◌+◌, ◌≤◌, Bool, true, false, List, [], ◌∷◌, ◌++◌, length, drop, refl, sym, ap, ◌∙◌, Option, Some, None}
use Rattle.std.specs.Prelude.{◌||◌, is_some, if◌then◌else◌, map}
use Rattle.std.specs.List.{list_any, slice_get}
use Rattle.std.proofs.lemmas.List.{drop_all}
use Rattle.ve_base.specs.declared.head.RefKey.{RefKey}
use Rattle.ve_base.specs.declared.value.Value.{Value}
use Rattle.ve_base.specs.declared.value.Value.TheVariants as value
use Rattle.ve_base.specs.declared.value.ValueId.{ValueId}
use Rattle.ve_kinds.specs.declared.kind.Kind.TheVariants.{Ref, InternalList}
use Rattle.ve_kinds.specs.Table.{kind_same}
use Rattle.model_items.specs.declared.item.Item.{Item}
use Rattle.model_items.specs.declared.item.Item.TheVariants.{Char, Opening, Closing}
use Rattle.model_items.specs.Plain.{head_in, plain_list, value_at}
use Rattle.model_page.specs.References.{RefAt, ref_at, ref_row, refs_from, table}
use Rattle.ve_write.specs.Referring.{may_refer}
use Rattle.ve_write.proofs.SiblingLemmas.{found_at}

-- ---- a walk over the values

pub one_refers : (values : List Value) (at : ℕ) (v : Value) → slice_get values at ≡ Some v → may_refer v ≡ true → list_any may_refer (drop at values) ≡ list_any may_refer values → true ≡ list_any may_refer values
one_refers values at v found refers so = sym (ap (λ b. b || list_any may_refer (drop (at + 1) values)) refers) ∙ sym (ap (list_any may_refer) (found_at values at v found)) ∙ so

pub none_yet : (values : List Value) (at : ℕ) (v : Value) → slice_get values at ≡ Some v → may_refer v ≡ false → list_any may_refer (drop at values) ≡ list_any may_refer values →
    list_any may_refer (drop (at + 1) values) ≡ list_any may_refer values
none_yet values at v found refers so = sym (ap (λ b. b || list_any may_refer (drop (at + 1) values)) refers) ∙ sym (ap (list_any may_refer) (found_at values at v found)) ∙ so

pub none_refers : (values : List Value) (at : ℕ) → length values ≤ at → list_any may_refer (drop at values) ≡ list_any may_refer values → false ≡ list_any may_refer values
none_refers values at all so = sym (ap (list_any may_refer) (drop_all at values all)) ∙ so

-- ---- what items cite

first_false : (a b : Bool) → (a || b) ≡ false → a ≡ false
first_false false b h = refl
first_false true b h = cc

rest_false : (a b : Bool) → (a || b) ≡ false → b ≡ false
rest_false false b h = h
rest_false true b h = cc

no_some : {A : Type 0} (o : Option A) → is_some o ≡ false → o ≡ None
no_some None h = refl
no_some (Some x) h = cc

-- the key of a head
abbrev key_in : Option Value → Option RefKey
key_in v = (head_in v).reference

no_key : (v : Value) → may_refer v ≡ false → key_in (Some v) ≡ None
no_key (value.White text) h = refl
no_key (value.Marks marks) h = refl
no_key (value.Head head) h = no_some head.reference h

none_at : (values : List Value) (n : ℕ) → list_any may_refer values ≡ false → key_in (slice_get values n) ≡ None
none_at [] n h = refl
none_at (v ∷ values) zero h = no_key v (first_false (may_refer v) (list_any may_refer values) h)
none_at (v ∷ values) (suc n) h = none_at values n (rest_false (may_refer v) (list_any may_refer values) h)

none_cited : (values : List Value) (id : Option ValueId) → list_any may_refer values ≡ false → key_in (value_at values id) ≡ None
none_cited values None h = refl
none_cited values (Some id) h = none_at values id.0 h

-- ---- the table

no_ref : (b : Bool) (at : ℕ) (inside owner : Bool) (refs : List RefAt) → (if b then ref_at at inside owner None else []) ++ refs ≡ refs
no_ref true at inside owner refs = refl
no_ref false at inside owner refs = refl

no_refs : (values : List Value) (at : ℕ) (inside : Bool) (items : List Item) → list_any may_refer values ≡ false → refs_from at inside (plain_list values items) ≡ []
no_refs values at inside [] h = refl
no_refs values at inside (Char ch marks ∷ items) h = no_refs values (suc at) inside items h
no_refs values at inside (Closing kind pre ∷ items) h = no_refs values (suc at) inside items h
no_refs values at inside (Opening kind generated head marks pre origin ∷ items) h =
    let owner = (head_in (value_at values head)).owner in
    let later = refs_from (suc at) (inside || kind_same kind InternalList) (plain_list values items) in
    ap (λ (key : Option RefKey). (if kind_same kind Ref then ref_at at inside owner key else []) ++ later) (none_cited values head h)
    ∙ no_ref (kind_same kind Ref) at inside owner later
    ∙ no_refs values (suc at) (inside || kind_same kind InternalList) items h

pub empty_table : (values : List Value) (items : List Item) → list_any may_refer values ≡ false → [] ≡ table (plain_list values items)
empty_table values items h = sym (ap (map (ref_row (plain_list values items))) (no_refs values 0 false items h))
