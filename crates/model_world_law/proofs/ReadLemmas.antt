-- Values that a line writes: names of attributes are apart, and operations are in normal form.
use Rattle.std.proofs.Common.{◌≡◌, ℕ, zero, suc, ◌<◌, Bool, true, false, not, if◌then◌else◌, List, [], ◌∷◌, length, Option, Some, None, Result, Ok, Err, refl, sym, ◌∙◌, subst, arith}
use Rattle.std.specs.Prelude.{codes, slice_index_or, option_and_then, option_map}
use Rattle.std.specs.List.{list_any}
use Rattle.std.proofs.lemmas.Bool.{and_parts, or_parts}
use Rattle.serde_json.specs.Data.{Data, null, boolean, number, string, array, object, Members}
use Rattle.serde_json.specs.Find.{get_member, as_array, as_object}
use Rattle.ve_kinds.specs.declared.kind.Kind.{Kind}
use Rattle.ve_kinds.specs.Table.{is_element}
use Rattle.ve_base.specs.declared.attrs.Attr.{Attr}
use Rattle.ve_base.specs.declared.marks.Mark as base
use Rattle.ve_base.specs.Names.{names, NamesApart}
use Rattle.model_items.specs.declared.plain_item.PlainItem.{PlainItem}
use Rattle.model_items.specs.declared.plain_item.PlainItem.TheVariants.{Closing}
use Rattle.model_items.specs.Same.{text_same}
use Rattle.model_items.proofs.SameLemmas.{Means-text_same}
use Rattle.model_change.specs.Attributes.{NamesApartIn, AllNamesApart}
use Rattle.model_edit.specs.declared.wrap_plan.Shape.{Shape}
use Rattle.model_world.specs.declared.edit_command.OpWords.{OpWords}
use Rattle.model_world.specs.declared.edit_command.OpWords.TheVariants as op
use Rattle.model_world.specs.Values.{such_that, number_in, text_in, text_or_null_in, list_in, json_values, all_read, pair_in, member_in, read_or, member_or}
use Rattle.model_world.specs.Attributes.{name_in, attr_in, attrs_in, are_allowed, are_apart, are_free, allowed_attrs_in, free_attrs_in, marks_in, kind_in, branch_in, shape_in, shapes_in}
use Rattle.model_edit.specs.Insert.{text_pieces}
use Rattle.model_world.specs.ItemWords.{white_in, may_open, Provenance, provenance_in, opening_attrs_in, opening_with, opening_in, may_close, closing_in, bracket_in, marked_text_in, items_in, all_items_in, one_list}
use Rattle.model_world.specs.Operations.{removal_in, setting_in, op_by, op_in, words_are_normal, ops_in}
use Rattle.model_world_law.specs.Fit.{OpsApart}
use Rattle.model_edit_law.specs.ApartLaws.{ShapesApart}
use Rattle.model_edit_law.proofs.ApartLemmas.{AllNamesApart-append as apart-append}
use Rattle.model_world_law.proofs.MadeLemmas.{apart-chars}

-- ---- what holds of whatever is read

-- of a value that is there
abbrev pub Of : {A : Type 0} → (A → Type 0) → Option A → Type 0
Of P None = Unit {0}
Of P (Some x) = P x

abbrev pub OfOk : {A E : Type 0} → (A → Type 0) → Result A E → Type 0
OfOk P (Ok x) = P x
OfOk P (Err e) = Unit {0}

pub Of-then : {A B : Type 0} (P : B → Type 0) (f : A → Option B) (o : Option A) → ((x : A) → Of P (f x)) → Of P (option_and_then f o)
Of-then P f None h = tt
Of-then P f (Some x) h = h x

pub Of-then_with : {A B : Type 0} (Q : A → Type 0) (P : B → Type 0) (f : A → Option B) (o : Option A) → Of Q o → ((x : A) → Q x → Of P (f x)) → Of P (option_and_then f o)
Of-then_with Q P f None q h = tt
Of-then_with Q P f (Some x) q h = h x q

pub Of-map : {A B : Type 0} (Q : A → Type 0) (P : B → Type 0) (f : A → B) (o : Option A) → Of Q o → ((x : A) → Q x → P (f x)) → Of P (option_map f o)
Of-map Q P f None q h = tt
Of-map Q P f (Some x) q h = h x q

pub Of-such_that : {A : Type 0} (P : A → Type 0) (test : A → Bool) (o : Option A) → Of (λ x. test x ≡ true → P x) o → Of P (such_that test o)
Of-such_that P test None h = tt
Of-such_that P test (Some x) h = by (test x) h
  where
    by : (b : Bool) → (b ≡ true → P x) → Of P (if b then Some x else None)
    by true h = h refl
    by false h = tt

-- a test only leaves out
pub Of-passing : {A : Type 0} (P : A → Type 0) (test : A → Bool) (o : Option A) → Of P o → Of P (such_that test o)
Of-passing P test None h = tt
Of-passing P test (Some x) h = by (test x)
  where
    by : (b : Bool) → Of P (if b then Some x else None)
    by true = h
    by false = tt

pub Of-always : {A : Type 0} (P : A → Type 0) (o : Option A) → ((x : A) → P x) → Of P o
Of-always P None h = tt
Of-always P (Some x) h = h x

pub Of-choice : {A : Type 0} (P : A → Type 0) (b : Bool) (o p : Option A) → Of P o → Of P p → Of P (if b then o else p)
Of-choice P true o p h k = h
Of-choice P false o p h k = k

-- of each element
abbrev pub Each : {A : Type 0} → (A → Type 0) → List A → Type 0
Each P [] = Unit {0}
Each P (x ∷ xs) = P x × Each P xs

pub Of-all_read : {A : Type 0} (P : A → Type 0) (read : Data → Option A) → ((json : Data) → Of P (read json)) → (values : List Data) → Of (Each P) (all_read read values)
Of-all_read P read h [] = tt
Of-all_read P read h (json ∷ more) =
    Of-then_with P (Each P) (λ x. option_map (λ xs. x ∷ xs) (all_read read more)) (read json) (h json)
    (λ x p. Of-map (Each P) (Each P) (λ xs. x ∷ xs) (all_read read more) (Of-all_read P read h more) (λ xs q. (p, q)))

pub Of-list_in : {A : Type 0} (P : A → Type 0) (read : Data → Option A) → ((json : Data) → Of P (read json)) → (json : Data) → Of (Each P) (list_in read json)
Of-list_in P read h json = Of-then (Each P) (λ items. all_read read (json_values items)) (as_array json) (λ items. Of-all_read P read h (json_values items))

pub Of-member_in : {A : Type 0} (P : A → Type 0) (name : List ℕ) (read : Data → Option A) (ms : Members) → ((json : Data) → Of P (read json)) → Of P (member_in name read ms)
Of-member_in P name read ms h = Of-then P read (get_member name ms) h

pub Of-member_or : {A : Type 0} (P : A → Type 0) (name : List ℕ) (default : A) (read : Data → Option A) (ms : Members) → P default → ((json : Data) → Of P (read json)) → Of P (member_or name default read ms)
Of-member_or P name default read ms d h = by (get_member name ms)
  where
    by : (o : Option Data) → Of P (read_or default read o)
    by None = d
    by (Some json) = h json

-- ---- attributes

pub absent : (name : List ℕ) (attrs : List Attr) → list_any (λ (b : Attr). text_same name b.name) attrs ≡ false → (k : ℕ) → k < length (names attrs) → slice_index_or (names attrs) k name ≡ name → ⊥
absent name [] h k below e = omega arith
absent name (a ∷ attrs) h zero below e =
    let one : text_same name a.name ≡ false = (or_parts (text_same name a.name) (list_any (λ (b : Attr). text_same name b.name) attrs) h).0 in
    let two : text_same name a.name ≡ true = subst (λ m. text_same m a.name ≡ true) e (Means-text_same.itself a.name) in
    absurd (let f : false ≡ true = sym one ∙ two in cc)
absent name (a ∷ attrs) h (suc k) below e = absent name attrs (or_parts (text_same name a.name) (list_any (λ (b : Attr). text_same name b.name) attrs) h).1 k (omega arith) e

pub not_true : (b : Bool) → not b ≡ true → b ≡ false
not_true true h = cc
not_true false h = refl

pub apart : (attrs : List Attr) → are_apart attrs ≡ true → NamesApart attrs
apart [] h = tt
apart (a ∷ attrs) h =
    let p = and_parts (not (list_any (λ (b : Attr). text_same a.name b.name) attrs)) (are_apart attrs) h in
    ((λ c. absent a.name attrs (not_true (list_any (λ (b : Attr). text_same a.name b.name) attrs) p.0) c.0 c.1 c.2), apart attrs p.1)

pub attrs_apart : (json : Data) → Of NamesApart (attrs_in json)
attrs_apart json = Of-such_that NamesApart are_apart (list_in attr_in json) (Of-always (λ attrs. are_apart attrs ≡ true → NamesApart attrs) (list_in attr_in json) apart)

allowed_attrs_apart : (exact : Bool) (json : Data) → Of NamesApart (allowed_attrs_in exact json)
allowed_attrs_apart exact json = Of-passing NamesApart (are_allowed exact) (attrs_in json) (attrs_apart json)

pub free_attrs_apart : (json : Data) → Of NamesApart (free_attrs_in json)
free_attrs_apart json = Of-passing NamesApart are_free (attrs_in json) (attrs_apart json)

-- ---- shapes

abbrev pub ShapeApart : Shape → Type 0
ShapeApart s = NamesApart s.attrs

pub shape_apart : (json : Data) → Of ShapeApart (shape_in json)
shape_apart json =
    Of-then ShapeApart _ (as_object json) (λ ms.
    Of-then ShapeApart _ (member_in (codes "kind") branch_in ms) (λ kind.
    Of-then_with NamesApart ShapeApart _ (member_or (codes "attrs") [] free_attrs_in ms) (Of-member_or NamesApart (codes "attrs") [] free_attrs_in ms tt free_attrs_apart) (λ attrs p. p)))

pub each_shape : (shapes : List Shape) → Each ShapeApart shapes → ShapesApart shapes
each_shape [] p = tt
each_shape (s ∷ shapes) p = (p.0, each_shape shapes p.1)

pub Of-weaken : {A : Type 0} (Q P : A → Type 0) (o : Option A) → Of Q o → ((x : A) → Q x → P x) → Of P o
Of-weaken Q P None q h = tt
Of-weaken Q P (Some x) q h = h x q

pub shapes_apart : (json : Data) → Of ShapesApart (shapes_in json)
shapes_apart json = Of-weaken (Each ShapeApart) ShapesApart (shapes_in json) (Of-list_in ShapeApart shape_in shape_apart json) each_shape

-- ---- items

pub opening_with_apart : (kind : Kind) (attrs : List Attr) (marks : List base.Mark) (pre : List ℕ) (from : Provenance) → NamesApart attrs → Of NamesApartIn (opening_with kind attrs marks pre from)
opening_with_apart kind attrs marks pre from p = Of-choice NamesApartIn (may_open kind marks pre) _ None p tt

opening_attrs_apart : (exact : Bool) (ms : Members) (kind : Kind) → Of NamesApart (opening_attrs_in exact ms kind)
opening_attrs_apart exact ms kind =
    Of-choice NamesApart (is_element kind) (member_or (codes "attrs") [] (allowed_attrs_in exact) ms) (Some [])
    (Of-member_or NamesApart (codes "attrs") [] (allowed_attrs_in exact) ms tt (allowed_attrs_apart exact)) tt

pub opening_apart : (exact : Bool) (ms : Members) (kind : Kind) → Of NamesApartIn (opening_in exact ms kind)
opening_apart exact ms kind =
    Of-then_with NamesApart NamesApartIn _ (opening_attrs_in exact ms kind) (opening_attrs_apart exact ms kind) (λ attrs p.
    Of-then NamesApartIn _ (member_or (codes "marks") [] (marks_in exact) ms) (λ marks.
    Of-then NamesApartIn _ (member_or (codes "pre") [] white_in ms) (λ pre.
    Of-then NamesApartIn _ (provenance_in exact ms kind) (λ from.
    opening_with_apart kind attrs marks pre from p))))

pub closing_apart : (ms : Members) (kind : Kind) → Of NamesApartIn (closing_in ms kind)
closing_apart ms kind = Of-then NamesApartIn _ (member_or (codes "pre") [] white_in ms) (λ pre. Of-choice NamesApartIn (may_close kind pre) (Some (Closing kind pre)) None tt tt)

pub bracket_apart : (exact : Bool) (ms : Members) (opened closed : Option Data) → Of NamesApartIn (bracket_in exact ms opened closed)
bracket_apart exact ms (Some opened) closed = Of-then NamesApartIn (opening_in exact ms) (kind_in exact opened) (opening_apart exact ms)
bracket_apart exact ms None closed = Of-then NamesApartIn (closing_in ms) (option_and_then (kind_in exact) closed) (closing_apart ms)

pub marked_apart : (exact : Bool) (json : Data) → Of AllNamesApart (marked_text_in exact json)
marked_apart exact json =
    Of-then AllNamesApart _ (pair_in json) (λ pair.
    Of-then AllNamesApart _ (text_in pair.0) (λ text.
    Of-then AllNamesApart _ (marks_in exact pair.1) (λ marks. apart-chars marks text)))

pub items_apart : (exact : Bool) (json : Data) → Of AllNamesApart (items_in exact json)
items_apart exact null = tt
items_apart exact (boolean b) = tt
items_apart exact (number n) = tt
items_apart exact (string bytes) = Of-map (λ text. Unit {0}) AllNamesApart (text_pieces []) (text_in (string bytes)) (Of-always (λ text. Unit {0}) (text_in (string bytes)) (λ text. tt)) (λ text u. apart-chars [] text)
items_apart exact (array items) = marked_apart exact (array items)
items_apart exact (object ms) =
    let bracket = bracket_in exact ms (get_member (codes "open") ms) (get_member (codes "close") ms) in
    Of-map NamesApartIn AllNamesApart (λ one. one ∷ []) bracket (bracket_apart exact ms (get_member (codes "open") ms) (get_member (codes "close") ms)) (λ one p. (p, tt))

pub one_list_apart : (lists : List (List PlainItem)) → Each AllNamesApart lists → AllNamesApart (one_list lists)
one_list_apart [] p = tt
one_list_apart (xs ∷ more) p = apart-append xs (one_list more) p.0 (one_list_apart more p.1)

pub all_items_apart : (exact : Bool) (json : Data) → Of AllNamesApart (all_items_in exact json)
all_items_apart exact json = Of-map (Each AllNamesApart) AllNamesApart one_list (list_in (items_in exact) json) (Of-list_in AllNamesApart (items_in exact) (items_apart exact) json) one_list_apart

-- ---- operations

abbrev pub OpApart : OpWords → Type 0
OpApart o = OpsApart (o ∷ [])

pub removal_apart : (exact : Bool) (ms : Members) (counted : Data) → Of OpApart (removal_in exact ms counted)
removal_apart exact ms counted =
    Of-then OpApart _ (number_in counted) (λ count.
    Of-then_with AllNamesApart OpApart _ (member_in (codes "insert") (all_items_in exact) ms) (Of-member_in AllNamesApart (codes "insert") (all_items_in exact) ms (all_items_apart exact)) (λ insert p. (p, tt)))

pub setting_apart : (ms : Members) → Of OpApart (setting_in ms)
setting_apart ms = Of-then OpApart _ (member_in (codes "attr") name_in ms) (λ name. Of-then OpApart _ (member_in (codes "to") text_or_null_in ms) (λ to. tt))

pub op_apart : (exact : Bool) (ms : Members) (retained removed : Option Data) → Of OpApart (op_by exact ms retained removed)
op_apart exact ms (Some retained) removed = Of-map (λ n. Unit {0}) OpApart (λ count. op.Retain count) (number_in retained) (Of-always (λ n. Unit {0}) (number_in retained) (λ n. tt)) (λ n u. tt)
op_apart exact ms None (Some removed) = removal_apart exact ms removed
op_apart exact ms None None = setting_apart ms

pub op_in_apart : (exact : Bool) (json : Data) → Of OpApart (op_in exact json)
op_in_apart exact json = Of-then OpApart _ (as_object json) (λ ms. op_apart exact ms (get_member (codes "retain") ms) (get_member (codes "remove") ms))

pub each_op : (ops : List OpWords) → Each OpApart ops → OpsApart ops
each_op [] p = tt
each_op (op.Retain count ∷ ops) p = each_op ops p.1
each_op (op.Remove count insert ∷ ops) p = ((p.0).0, each_op ops p.1)
each_op (op.Attr name to ∷ ops) p = each_op ops p.1

abbrev pub OpsWritten : List OpWords → Type 0
OpsWritten ops = (words_are_normal ops ≡ true) × OpsApart ops

pub ops_written : (exact : Bool) (json : Data) → Of OpsWritten (ops_in exact json)
ops_written exact json =
    Of-such_that OpsWritten words_are_normal (list_in (op_in exact) json)
    (Of-weaken (Each OpApart) (λ ops. words_are_normal ops ≡ true → OpsWritten ops) (list_in (op_in exact) json) (Of-list_in OpApart (op_in exact) (op_in_apart exact) json) (λ ops p normal. (normal, each_op ops p)))
