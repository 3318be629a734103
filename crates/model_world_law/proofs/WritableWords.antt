-- Values that are read from UTF-8 strings, a line can write: attributes, marks, items and operations.
use Rattle.std.proofs.Common.{◌≡◌, ℕ, Bool, true, false, not, ◌&&◌, ◌||◌, if◌then◌else◌, List, [], ◌∷◌, Option, Some, None, Ordering, IsUtf8, refl, ap, ◌∙◌}
use Rattle.std.specs.Prelude.{chars, codes, encode_utf8_all, nat_le, nat_lt, option_and_then, option_map}
use Rattle.std.specs.List.{AllByRecursion, list_all, list_any}
use Rattle.std.specs.Ordering.{match_ordering, nat_cmp}
use Rattle.std.specs.declared.cmp.Ordering.TheVariants.{Equal, Greater, Less}
use Rattle.std.specs.Cmp.Lexicographic.{slice_cmp}
use Rattle.std.specs.Str.{all_scalars}
use Rattle.std.proofs.lemmas.Bool.{and_from, and_parts}
use Rattle.std.proofs.lemmas.Str.{encodes-chars, scalars-chars}
use Rattle.serde_json.specs.Data.{Data, Items, Members, array, boolean, item, member, no_items, no_members, null, number, object, string}
use Rattle.serde_json.specs.Find.{as_bool, as_object, get_member}
use Rattle.ve_base.specs.Limits.{max_marks}
use Rattle.ve_base.specs.declared.attrs.Attr.{Attr}
use Rattle.ve_base.specs.declared.marks.Mark as base
use Rattle.ve_kinds.specs.declared.kind.Kind.{Kind}
use Rattle.ve_kinds.specs.declared.kind.Kind.TheVariants as variant
use Rattle.ve_kinds.specs.Table.{is_element, kind_same}
use Rattle.model_items.specs.declared.plain_item.PlainItem.{PlainItem}
use Rattle.model_items.specs.declared.plain_item.PlainItem.TheVariants.{Closing, Opening}
use Rattle.model_edit.specs.Insert.{text_pieces}
use Rattle.model_edit.specs.declared.wrap_plan.Shape.{Shape}
use Rattle.model_page.specs.Elements.{is_white}
use Rattle.model_page.specs.Tags.{is_annotation_tag}
use Rattle.model_page_law.specs.Strings.{AllInItems, AllInMembers, AllStrings}
use Rattle.model_site_law.specs.ItemLaws.{AttrsPass, attr_of}
use Rattle.model_spelling.specs.Grammar.{is_attr_name, is_barred}
use Rattle.model_world.specs.Attributes.{allowed_attrs_in, are_allowed, are_apart, are_free, attr_in, attrs_in, branch_in, free_attrs_in, is_mark, kind_in, mark_in, marks_in, name_in, shape_in, shapes_in}
use Rattle.model_world.specs.ItemWords.{Provenance, all_items_in, bracket_in, closing_in, items_in, marked_text_in, may_close, may_come, may_open, one_list, opening_attrs_in, opening_in, opening_with, provenance_in, white_in}
use Rattle.model_world.specs.Operations.{op_by, op_in, ops_in, removal_in, setting_in, words_are_normal}
use Rattle.model_world.specs.Values.{all_read, digits_in, json_values, list_in, member_in, member_or, number_in, pair_in, read_or, some_number_in, source_in, such_that, text_in, text_or_null_in, two_of}
use Rattle.model_world.specs.declared.edit_command.OpWords.{OpWords}
use Rattle.model_world.specs.declared.edit_command.OpWords.TheVariants as op
use Rattle.model_world_law.specs.ShownLaws.{plain_head}
use Rattle.model_world_law.specs.Writable.{OpsAreWritable, ShapesAreWritable, are_marks, is_attr, is_head_attr, is_origin, is_spelled_mark, is_text, is_whitespace, is_writable_mark}
use Rattle.model_world_law.proofs.ReadLemmas.{Each, Of, Of-always, Of-map, Of-passing, Of-such_that, Of-then, Of-then_with, Of-weaken}
use Rattle.model_world_law.proofs.WritableEdits.{write-append}
use Rattle.model_world_law.proofs.WritableLemmas.{AllWrite, Writes, allowed_heads, closing_passes, free_heads, heads_allowed, opening_writes, pieces_write, plain}

-- all strings in it are UTF-8
abbrev pub Plain : Data → Type 0
Plain json = AllStrings IsUtf8 json

abbrev pub PlainIn : Members → Type 0
PlainIn ms = AllInMembers IsUtf8 ms

abbrev Holds : {A : Type 0} → (A → Bool) → A → Type 0
Holds test x = test x ≡ true

-- ---- values

found_by : (o : Ordering) (e : Data) (later : Option Data) → Plain e → Of Plain later → Of Plain (match_ordering o later (Some e) later)
found_by Less e later u v = v
found_by Equal e later u v = u
found_by Greater e later u v = v

pub found : (name : List ℕ) (ms : Members) → PlainIn ms → Of Plain (get_member name ms)
found name no_members u = tt
found name (member l e ms) u = found_by (slice_cmp nat_cmp name l) e (get_member name ms) u.1 (found name ms u.2)

pub in_member : {A : Type 0} (P : A → Type 0) (name : List ℕ) (read : Data → Option A) (ms : Members) → PlainIn ms → ((json : Data) → Plain json → Of P (read json)) → Of P (member_in name read ms)
in_member P name read ms u h = Of-then_with Plain P read (get_member name ms) (found name ms u) h

pub or_member : {A : Type 0} (P : A → Type 0) (name : List ℕ) (default : A) (read : Data → Option A) (ms : Members) → PlainIn ms → P default → ((json : Data) → Plain json → Of P (read json)) →
    Of P (member_or name default read ms)
or_member P name default read ms u d h = by (get_member name ms) (found name ms u)
  where
    by : (o : Option Data) → Of Plain o → Of P (read_or default read o)
    by None v = d
    by (Some json) v = h json v

each_read : {A : Type 0} (P : A → Type 0) (read : Data → Option A) → ((json : Data) → Plain json → Of P (read json)) → (items : Items) → AllInItems IsUtf8 items → Of (Each P) (all_read read (json_values items))
each_read P read h no_items u = tt
each_read P read h (item json items) u =
    Of-then_with P (Each P) (λ x. option_map (λ xs. x ∷ xs) (all_read read (json_values items))) (read json) (h json u.0)
    (λ x p. Of-map (Each P) (Each P) (λ xs. x ∷ xs) (all_read read (json_values items)) (each_read P read h items u.1) (λ xs q. (p, q)))

pub in_list : {A : Type 0} (P : A → Type 0) (read : Data → Option A) → ((json : Data) → Plain json → Of P (read json)) → (json : Data) → Plain json → Of (Each P) (list_in read json)
in_list P read h null u = tt
in_list P read h (boolean b) u = tt
in_list P read h (number n) u = tt
in_list P read h (string s) u = tt
in_list P read h (array items) u = each_read P read h items u
in_list P read h (object ms) u = tt

abbrev PlainPair : Data × Data → Type 0
PlainPair pair = Plain pair.0 × Plain pair.1

two : (items : Items) → AllInItems IsUtf8 items → Of PlainPair (two_of (json_values items))
two no_items u = tt
two (item one no_items) u = tt
two (item one (item other no_items)) u = (u.0, u.1.0)
two (item one (item other (item more items))) u = tt

in_pair : (json : Data) → Plain json → Of PlainPair (pair_in json)
in_pair null u = tt
in_pair (boolean b) u = tt
in_pair (number n) u = tt
in_pair (string s) u = tt
in_pair (array items) u = two items u
in_pair (object ms) u = tt

-- ---- texts

string_text : (s : List ℕ) → IsUtf8 s → Of (Holds is_text) (option_map chars (such_that (λ bytes. not (list_any is_barred bytes)) (Some s)))
string_text s u = by (not (list_any is_barred s)) refl
  where
    by : (b : Bool) → not (list_any is_barred s) ≡ b → Of (Holds is_text) (option_map chars (if b then Some s else None))
    by false e = tt
    by true e =
        and_from (all_scalars (chars s)) (not (list_any is_barred (encode_utf8_all (chars s)))) (scalars-chars s u) (ap (λ bs. not (list_any is_barred bs)) (encodes-chars s u) ∙ e)

pub text_is : (json : Data) → Plain json → Of (Holds is_text) (text_in json)
text_is null u = tt
text_is (boolean b) u = tt
text_is (number n) u = tt
text_is (string s) u = string_text s u
text_is (array items) u = tt
text_is (object ms) u = tt

pub source_is : (json : Data) → Plain json → Of (Holds all_scalars) (source_in json)
source_is null u = tt
source_is (boolean b) u = tt
source_is (number n) u = tt
source_is (string s) u = scalars-chars s u
source_is (array items) u = tt
source_is (object ms) u = tt

abbrev pub TextOrNone : List ℕ → Option (List ℕ) → Type 0
TextOrNone name to = AttrsPass is_attr (attr_of name to)

abbrev pub NameIs : List ℕ → Type 0
NameIs name = (is_text name && is_attr_name name) ≡ true

pub name_is : (json : Data) → Plain json → Of NameIs (name_in json)
name_is json u =
    Of-such_that NameIs is_attr_name (text_in json)
    (Of-weaken (Holds is_text) (λ name. is_attr_name name ≡ true → NameIs name) (text_in json) (text_is json u) (λ name t h. and_from (is_text name) (is_attr_name name) t h))

pub text_or_null_is : (name : List ℕ) → NameIs name → (json : Data) → Plain json → Of (TextOrNone name) (text_or_null_in json)
text_or_null_is name n null u = tt
text_or_null_is name n (boolean b) u = tt
text_or_null_is name n (number m) u = tt
text_or_null_is name n (string s) u =
    Of-map (Holds is_text) (TextOrNone name) (λ text. Some text) (text_in (string s)) (text_is (string s) u) (λ text t. (and_from (is_text name && is_attr_name name) (is_text text) n t, tt))
text_or_null_is name n (array items) u = tt
text_or_null_is name n (object ms) u = tt

-- ---- attributes

attr_in_is : (json : Data) → Plain json → Of (Holds is_attr) (attr_in json)
attr_in_is json u =
    Of-then_with PlainPair (Holds is_attr) _ (pair_in json) (in_pair json u) (λ pair p.
    Of-then_with NameIs (Holds is_attr) _ (name_in pair.0) (name_is pair.0 p.0) (λ name n.
    Of-then_with (Holds is_text) (Holds is_attr) _ (text_in pair.1) (text_is pair.1 p.1) (λ value t. and_from (is_text name && is_attr_name name) (is_text value) n t)))

each_holds : {A : Type 0} (test : A → Bool) (xs : List A) → Each (Holds test) xs → list_all test xs ≡ true
each_holds test [] p = refl
each_holds test (x ∷ xs) p = and_from (test x) (list_all test xs) p.0 (each_holds test xs p.1)

abbrev pub Attributes : List Attr → Type 0
Attributes attrs = (list_all is_attr attrs ≡ true) × (are_apart attrs ≡ true)

pub attrs_in_are : (json : Data) → Plain json → Of Attributes (attrs_in json)
attrs_in_are json u =
    Of-such_that Attributes are_apart (list_in attr_in json)
    (Of-weaken (Each (Holds is_attr)) (λ attrs. are_apart attrs ≡ true → Attributes attrs) (list_in attr_in json) (in_list (Holds is_attr) attr_in attr_in_is json u)
    (λ attrs p h. (each_holds is_attr attrs p, h)))

abbrev Heads : List Attr → Type 0
Heads attrs = list_all is_head_attr attrs ≡ true

allowed_are : (exact : Bool) (json : Data) → Plain json → Of Heads (allowed_attrs_in exact json)
allowed_are exact json u =
    Of-such_that Heads (are_allowed exact) (attrs_in json)
    (Of-weaken Attributes (λ attrs. are_allowed exact attrs ≡ true → Heads attrs) (attrs_in json) (attrs_in_are json u) (λ attrs p h. allowed_heads exact attrs p.0 h))

-- ---- marks

pub spelled : (tag : List ℕ) (attrs : List Attr) → is_text tag ≡ true → Attributes attrs → is_spelled_mark (record { tag = tag; attrs = attrs }) ≡ true
spelled tag attrs t p = and_from (is_text tag && list_all is_attr attrs) (are_apart attrs) (and_from (is_text tag) (list_all is_attr attrs) t p.0) p.1

mark_writes : (exact : Bool) (tag : List ℕ) (attrs : List Attr) → is_text tag ≡ true → Attributes attrs → is_mark exact (record { tag = tag; attrs = attrs }) ≡ true →
    is_writable_mark (record { tag = tag; attrs = attrs }) ≡ true
mark_writes exact tag attrs t p h =
    let q = and_parts (is_annotation_tag tag) (are_allowed exact attrs) h in
    and_from (is_spelled_mark (record { tag = tag; attrs = attrs })) (is_mark true (record { tag = tag; attrs = attrs })) (spelled tag attrs t p)
    (and_from (is_annotation_tag tag) (are_allowed true attrs) q.0 (heads_allowed attrs (allowed_heads exact attrs p.0 q.1)))

mark_is : (exact : Bool) (json : Data) → Plain json → Of (Holds is_writable_mark) (mark_in exact json)
mark_is exact json u =
    Of-then_with PlainPair (Holds is_writable_mark) _ (pair_in json) (in_pair json u) (λ pair p.
    Of-then_with (Holds is_text) (Holds is_writable_mark) _ (text_in pair.0) (text_is pair.0 p.0) (λ tag t.
    Of-then_with Attributes (Holds is_writable_mark) _ (attrs_in pair.1) (attrs_in_are pair.1 p.1) (λ attrs a.
    Of-such_that (Holds is_writable_mark) (is_mark exact) (Some (record { tag = tag; attrs = attrs })) (λ h. mark_writes exact tag attrs t a h))))

marks_are : (exact : Bool) (json : Data) → Plain json → Of (Holds are_marks) (marks_in exact json)
marks_are exact json u =
    Of-passing (Holds are_marks) (λ marks. nat_le (Rattle.std.specs.Prelude.length marks) max_marks) (list_in (mark_in exact) json)
    (Of-weaken (Each (Holds is_writable_mark)) (Holds are_marks) (list_in (mark_in exact) json) (in_list (Holds is_writable_mark) (mark_in exact) (mark_is exact) json u) (λ marks p. each_holds is_writable_mark marks p))

-- ---- brackets

white_is : (json : Data) → Plain json → Of (Holds is_whitespace) (white_in json)
white_is json u =
    Of-such_that (Holds is_whitespace) is_white (text_in json)
    (Of-weaken (Holds is_text) (λ pre. is_white pre ≡ true → Holds is_whitespace pre) (text_in json) (text_is json u) (λ pre t h. and_from (is_text pre) (is_white pre) t h))

origin_is : (json : Data) → Of (Holds is_origin) (some_number_in json)
origin_is json =
    let Below : ℕ → Type 0 = λ n. nat_lt n 4294967296 ≡ true in
    Of-map Below (Holds is_origin) (λ n. Some n) (number_in json)
    (Of-such_that Below (λ n. nat_lt n 4294967296) (digits_in json) (Of-always (λ n. nat_lt n 4294967296 ≡ true → Below n) (digits_in json) (λ n h. h))) (λ n h. h)

abbrev ComesWell : Kind → Provenance → Type 0
ComesWell kind from = (is_origin from.origin ≡ true) × ((not from.generated || kind_same kind variant.P) ≡ true)

provenance_is : (exact : Bool) (ms : Members) (kind : Kind) → PlainIn ms → Of (ComesWell kind) (provenance_in exact ms kind)
provenance_is false ms kind u = (refl, refl)
provenance_is true ms kind u =
    Of-then (ComesWell kind) _ (member_or (codes "gen") false as_bool ms) (λ generated.
    Of-then_with (Holds is_origin) (ComesWell kind) _ (member_or (codes "origin") None some_number_in ms) (or_member (Holds is_origin) (codes "origin") None some_number_in ms u refl (λ json v. origin_is json)) (λ origin o.
    Of-such_that (ComesWell kind) (may_come kind) (Some (record { origin = origin; generated = generated }))
    (λ h. (o, (and_parts (not generated || kind_same kind variant.P) _ h).0))))

opening_attrs_are : (exact : Bool) (ms : Members) (kind : Kind) → PlainIn ms → Of Heads (opening_attrs_in exact ms kind)
opening_attrs_are exact ms kind u = by (is_element kind)
  where
    by : (b : Bool) → Of Heads (if b then member_or (codes "attrs") [] (allowed_attrs_in exact) ms else Some [])
    by true = or_member Heads (codes "attrs") [] (allowed_attrs_in exact) ms u refl (allowed_are exact)
    by false = refl

opening_with_is : (kind : Kind) (attrs : List Attr) (marks : List base.Mark) (pre : List ℕ) (from : Provenance) → Heads attrs → are_marks marks ≡ true → is_whitespace pre ≡ true → ComesWell kind from →
    Of Writes (opening_with kind attrs marks pre from)
opening_with_is kind attrs marks pre from a m w c = by (may_open kind marks pre) refl
  where
    by : (b : Bool) → may_open kind marks pre ≡ b → Of Writes (if b then Some (Opening kind (plain_head attrs) marks pre from.origin from.generated) else None)
    by false e = tt
    by true e = opening_writes kind (plain_head attrs) marks pre from.origin from.generated m (λ outer. record { own = λ f. plain attrs a; white = w; may = e; known = c.0; made = c.1 })

opening_is : (exact : Bool) (ms : Members) → PlainIn ms → (kind : Kind) → Of Writes (opening_in exact ms kind)
opening_is exact ms u kind =
    Of-then_with Heads Writes _ (opening_attrs_in exact ms kind) (opening_attrs_are exact ms kind u) (λ attrs a.
    Of-then_with (Holds are_marks) Writes _ (member_or (codes "marks") [] (marks_in exact) ms) (or_member (Holds are_marks) (codes "marks") [] (marks_in exact) ms u refl (marks_are exact)) (λ marks m.
    Of-then_with (Holds is_whitespace) Writes _ (member_or (codes "pre") [] white_in ms) (or_member (Holds is_whitespace) (codes "pre") [] white_in ms u refl white_is) (λ pre w.
    Of-then_with (ComesWell kind) Writes _ (provenance_in exact ms kind) (provenance_is exact ms kind u) (λ from c.
    opening_with_is kind attrs marks pre from a m w c))))

closing_is : (ms : Members) → PlainIn ms → (kind : Kind) → Of Writes (closing_in ms kind)
closing_is ms u kind =
    Of-then_with (Holds is_whitespace) Writes _ (member_or (codes "pre") [] white_in ms) (or_member (Holds is_whitespace) (codes "pre") [] white_in ms u refl white_is) (λ pre w. by pre w (may_close kind pre) refl)
  where
    by : (pre : List ℕ) → is_whitespace pre ≡ true → (b : Bool) → may_close kind pre ≡ b → Of Writes (if b then Some (Closing kind pre) else None)
    by pre w false e = tt
    by pre w true e = closing_passes kind pre w e

bracket_is : (exact : Bool) (ms : Members) → PlainIn ms → (opened closed : Option Data) → Of Writes (bracket_in exact ms opened closed)
bracket_is exact ms u (Some opened) closed = Of-then Writes (opening_in exact ms) (kind_in exact opened) (opening_is exact ms u)
bracket_is exact ms u None closed = Of-then Writes (closing_in ms) (option_and_then (kind_in exact) closed) (closing_is ms u)

-- ---- items

marked_is : (exact : Bool) (json : Data) → Plain json → Of AllWrite (marked_text_in exact json)
marked_is exact json u =
    Of-then_with PlainPair AllWrite _ (pair_in json) (in_pair json u) (λ pair p.
    Of-then_with (Holds is_text) AllWrite _ (text_in pair.0) (text_is pair.0 p.0) (λ text t.
    Of-then_with (Holds are_marks) AllWrite _ (marks_in exact pair.1) (marks_are exact pair.1 p.1) (λ marks m. pieces_write marks text m t)))

items_are : (exact : Bool) (json : Data) → Plain json → Of AllWrite (items_in exact json)
items_are exact null u = tt
items_are exact (boolean b) u = tt
items_are exact (number n) u = tt
items_are exact (string s) u = Of-map (Holds is_text) AllWrite (text_pieces []) (text_in (string s)) (text_is (string s) u) (λ text t. pieces_write [] text refl t)
items_are exact (array items) u = marked_is exact (array items) u
items_are exact (object ms) u =
    let bracket = bracket_in exact ms (get_member (codes "open") ms) (get_member (codes "close") ms) in
    Of-map Writes AllWrite (λ one. one ∷ []) bracket (bracket_is exact ms u (get_member (codes "open") ms) (get_member (codes "close") ms)) (λ one p. (p, tt))

one_list_writes : (lists : List (List PlainItem)) → Each AllWrite lists → AllWrite (one_list lists)
one_list_writes [] p = tt
one_list_writes (xs ∷ more) p = write-append xs (one_list more) p.0 (one_list_writes more p.1)

all_items_are : (exact : Bool) (json : Data) → Plain json → Of AllWrite (all_items_in exact json)
all_items_are exact json u = Of-map (Each AllWrite) AllWrite one_list (list_in (items_in exact) json) (in_list AllWrite (items_in exact) (items_are exact) json u) one_list_writes

-- ---- operations

abbrev OpIs : OpWords → Type 0
OpIs o = OpsAreWritable (o ∷ [])

removal_is : (exact : Bool) (ms : Members) → PlainIn ms → (counted : Data) → Of OpIs (removal_in exact ms counted)
removal_is exact ms u counted =
    Of-then OpIs _ (number_in counted) (λ count.
    Of-then_with AllWrite OpIs _ (member_in (codes "insert") (all_items_in exact) ms) (in_member AllWrite (codes "insert") (all_items_in exact) ms u (all_items_are exact)) (λ insert p. (p, tt)))

setting_is : (ms : Members) → PlainIn ms → Of OpIs (setting_in ms)
setting_is ms u =
    Of-then_with NameIs OpIs _ (member_in (codes "attr") name_in ms) (in_member NameIs (codes "attr") name_in ms u name_is) (λ name n.
    Of-then_with (TextOrNone name) OpIs _ (member_in (codes "to") text_or_null_in ms) (in_member (TextOrNone name) (codes "to") text_or_null_in ms u (text_or_null_is name n)) (λ to t. (t, tt)))

op_is : (exact : Bool) (ms : Members) → PlainIn ms → (retained removed : Option Data) → Of OpIs (op_by exact ms retained removed)
op_is exact ms u (Some retained) removed = Of-map (λ n. Unit {0}) OpIs (λ count. op.Retain count) (number_in retained) (Of-always (λ n. Unit {0}) (number_in retained) (λ n. tt)) (λ n v. tt)
op_is exact ms u None (Some removed) = removal_is exact ms u removed
op_is exact ms u None None = setting_is ms u

pub object_is : {A : Type 0} (P : A → Type 0) (read : Members → Option A) → ((ms : Members) → PlainIn ms → Of P (read ms)) → (json : Data) → Plain json → Of P (option_and_then read (as_object json))
object_is P read h null u = tt
object_is P read h (boolean b) u = tt
object_is P read h (number n) u = tt
object_is P read h (string s) u = tt
object_is P read h (array items) u = tt
object_is P read h (object ms) u = h ms u

op_in_is : (exact : Bool) (json : Data) → Plain json → Of OpIs (op_in exact json)
op_in_is exact json u = object_is OpIs _ (λ ms v. op_is exact ms v (get_member (codes "retain") ms) (get_member (codes "remove") ms)) json u

each_op : (ops : List OpWords) → Each OpIs ops → OpsAreWritable ops
each_op [] p = tt
each_op (op.Retain count ∷ ops) p = each_op ops p.1
each_op (op.Remove count insert ∷ ops) p = ((p.0).0, each_op ops p.1)
each_op (op.Attr name to ∷ ops) p = ((p.0).0, each_op ops p.1)

pub ops_are : (exact : Bool) (json : Data) → Plain json → Of OpsAreWritable (ops_in exact json)
ops_are exact json u =
    Of-passing OpsAreWritable words_are_normal (list_in (op_in exact) json)
    (Of-weaken (Each OpIs) OpsAreWritable (list_in (op_in exact) json) (in_list OpIs (op_in exact) (op_in_is exact) json u) each_op)

-- ---- shapes

abbrev ShapeIs : Shape → Type 0
ShapeIs s = Heads s.attrs

free_are : (json : Data) → Plain json → Of Heads (free_attrs_in json)
free_are json u =
    Of-such_that Heads are_free (attrs_in json)
    (Of-weaken Attributes (λ attrs. are_free attrs ≡ true → Heads attrs) (attrs_in json) (attrs_in_are json u) (λ attrs p h. free_heads attrs p.0 h))

shape_is : (json : Data) → Plain json → Of ShapeIs (shape_in json)
shape_is json u = object_is ShapeIs _ (λ ms v.
    Of-then ShapeIs _ (member_in (codes "kind") branch_in ms) (λ kind.
    Of-then_with Heads ShapeIs _ (member_or (codes "attrs") [] free_attrs_in ms) (or_member Heads (codes "attrs") [] free_attrs_in ms v refl free_are) (λ attrs p. p))) json u

each_shape : (shapes : List Shape) → Each ShapeIs shapes → ShapesAreWritable shapes
each_shape [] p = tt
each_shape (s ∷ shapes) p = (p.0, each_shape shapes p.1)

pub shapes_are : (json : Data) → Plain json → Of ShapesAreWritable (shapes_in json)
shapes_are json u = Of-weaken (Each ShapeIs) ShapesAreWritable (shapes_in json) (in_list ShapeIs shape_in shape_is json u) each_shape
