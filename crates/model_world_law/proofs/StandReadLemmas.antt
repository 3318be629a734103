-- Items that a line writes: each is a character, an element, or another leaf with an origin, and has
-- at most 64 marks. The nodes that a wrap puts in are elements.
use Rattle.std.specs.Prelude.{codes, is_some, nat_le, option_and_then}
use Rattle.std.proofs.Common.{◌≡◌, ℕ, Bool, true, false, not, ◌&&◌, ◌||◌, List, [], ◌∷◌, ◌++◌, length, Option, Some, None, refl, ap, ◌∙◌}
use Rattle.std.proofs.lemmas.Bool.{and_from, and_parts}
use Rattle.serde_json.specs.Data.{Data, Members, array, boolean, null, number, object, string}
use Rattle.serde_json.specs.Find.{as_bool, as_object, as_str, get_member}
use Rattle.ve_kinds.specs.declared.kind.Kind.{Kind}
use Rattle.ve_kinds.specs.declared.kind.Kind.TheVariants.{P}
use Rattle.ve_kinds.specs.Table.{is_element, kind_same}
use Rattle.ve_kinds.specs.Tags.{kind_of_tag}
use Rattle.ve_base.specs.Limits.{max_marks}
use Rattle.ve_base.specs.declared.attrs.Attr.{Attr}
use Rattle.ve_base.specs.declared.head.Head.{Head}
use Rattle.ve_base.specs.declared.marks.Mark.{Mark}
use Rattle.model_items.specs.declared.plain_item.PlainItem.{PlainItem}
use Rattle.model_items.specs.declared.plain_item.PlainItem.TheVariants.{Closing, Opening}
use Rattle.model_edit.specs.Insert.{text_pieces}
use Rattle.model_edit.specs.declared.wrap_plan.Shape.{Shape}
use Rattle.model_page.specs.Editable.{item_refers}
use Rattle.model_page_law.proofs.KindFits.{element_of_tag}
use Rattle.model_page_law.proofs.MadeRefers.{element-other, other_refers as refers_of}
use Rattle.model_site_law.specs.ItemLaws.{AllPass}
use Rattle.model_world.specs.Attributes.{branch_in, element_in, free_attrs_in, kind_in, mark_in, marks_in, name_in, shape_in, shapes_in}
use Rattle.model_world.specs.ItemWords.{all_items_in, bracket_in, closing_in, items_in, marked_text_in, may_close, may_come, may_open, one_list, opening_attrs_in, opening_in, opening_with, Provenance, provenance_in, white_in}
use Rattle.model_world.specs.Operations.{op_by, op_in, ops_in, removal_in, setting_in, words_are_normal}
use Rattle.model_world.specs.Values.{list_in, member_in, member_or, number_in, pair_in, some_number_in, text_in, text_or_null_in}
use Rattle.model_world.specs.declared.edit_command.OpWords.{OpWords}
use Rattle.model_world.specs.declared.edit_command.OpWords.TheVariants as op
use Rattle.model_world_law.specs.Standing.{OpsRead, ShapesOfElements, has_few_marks, has_its_origin, may_be_read}
use Rattle.model_world_law.proofs.ReadLemmas.{Each, Of, Of-always, Of-choice, Of-list_in, Of-map, Of-member_in, Of-member_or, Of-passing, Of-such_that, Of-then, Of-then_with, Of-weaken}

-- ---- marks and kinds

abbrev Few : List Mark → Type 0
Few marks = nat_le (length marks) max_marks ≡ true

marks_few : (exact : Bool) (json : Data) → Of Few (marks_in exact json)
marks_few exact json =
    Of-such_that Few (λ marks. nat_le (length marks) max_marks) (list_in (mark_in exact) json)
    (Of-always (λ (marks : List Mark). nat_le (length marks) max_marks ≡ true → Few marks) (list_in (mark_in exact) json) (λ marks h. h))

abbrev Element : Kind → Type 0
Element kind = is_element kind ≡ true

tag_is_element : (name : List ℕ) → Of Element (kind_of_tag name)
tag_is_element name = by (kind_of_tag name) refl
  where
    by : (o : Option Kind) → kind_of_tag name ≡ o → Of Element o
    by None e = tt
    by (Some kind) e = element_of_tag name kind e

is_element_in : (json : Data) → Of Element (element_in json)
is_element_in json = Of-then Element kind_of_tag (as_str json) tag_is_element

is_branch_in : (json : Data) → Of Element (branch_in json)
is_branch_in json = Of-passing Element _ (element_in json) (is_element_in json)

-- ---- shapes

abbrev IsShape : Shape → Type 0
IsShape s = is_element s.kind ≡ true

shape_of_element : (json : Data) → Of IsShape (shape_in json)
shape_of_element json =
    Of-then IsShape _ (as_object json) (λ ms.
    Of-then_with Element IsShape _ (member_in (codes "kind") branch_in ms) (Of-member_in Element (codes "kind") branch_in ms is_branch_in) (λ kind p.
    Of-then IsShape _ (member_or (codes "attrs") [] free_attrs_in ms) (λ attrs. p)))

each_shape : (shapes : List Shape) → Each IsShape shapes → ShapesOfElements shapes
each_shape [] p = tt
each_shape (s ∷ shapes) p = (p.0, each_shape shapes p.1)

pub shapes_of_elements : (json : Data) → Of ShapesOfElements (shapes_in json)
shapes_of_elements json = Of-weaken (Each IsShape) ShapesOfElements (shapes_in json) (Of-list_in IsShape shape_in shape_of_element json) each_shape

-- ---- items

-- an element may stand with any head; any other leaf is read with an origin
abbrev IsRead : PlainItem → Type 0
IsRead item = may_be_read item ≡ true

abbrev AllRead : List PlainItem → Type 0
AllRead items = AllPass may_be_read items

read-append : (xs ys : List PlainItem) → AllRead xs → AllRead ys → AllRead (xs ++ ys)
read-append [] ys p q = q
read-append (x ∷ xs) ys p q = (p.0, read-append xs ys p.1 q)

text_read : (marks : List Mark) (text : List ℕ) → Few marks → AllRead (text_pieces marks text)
text_read marks [] few = tt
text_read marks (c ∷ text) few = (few, text_read marks text few)

either_true : (b c : Bool) → c ≡ true → (b || c) ≡ true
either_true true c h = refl
either_true false c h = h

abbrev Comes : Kind → Option ℕ → Type 0
Comes kind origin = (is_element kind || is_some origin) ≡ true

bracket_read : (kind : Kind) (head : Head) (marks : List Mark) (pre : List ℕ) (origin : Option ℕ) (generated : Bool) → Comes kind origin → Few marks → IsRead (Opening kind head marks pre origin generated)
bracket_read kind head marks pre origin generated comes few = by (is_element kind) refl comes
  where
    item : PlainItem
    item = Opening kind head marks pre origin generated

    by : (b : Bool) → is_element kind ≡ b → (b || is_some origin) ≡ true → IsRead item
    by true e comes =
        let refers : item_refers item ≡ true = refers_of kind (element-other kind e) head in
        and_from (item_refers item || has_its_origin item) (has_few_marks item) (ap (λ b. b || has_its_origin item) refers) few
    by false e comes =
        let own : has_its_origin item ≡ true = ap (λ b. not b && is_some origin) e ∙ comes in
        and_from (item_refers item || has_its_origin item) (has_few_marks item) (either_true (item_refers item) (has_its_origin item) own) few

opening_with_read : (kind : Kind) (attrs : List Attr) (marks : List Mark) (pre : List ℕ) (from : Provenance) → Comes kind from.origin → Few marks → Of IsRead (opening_with kind attrs marks pre from)
opening_with_read kind attrs marks pre from comes few =
    Of-choice IsRead (may_open kind marks pre) _ None
    (bracket_read kind (record { tag = []; attrs = attrs; raw = []; reference = None; owner = false }) marks pre from.origin from.generated comes few) tt

-- of what is not exact, the kind is that of an element
abbrev KindFor : (exact : Bool) → Kind → Type 0
KindFor true kind = Unit {0}
KindFor false kind = Element kind

kind_is_for : (exact : Bool) (json : Data) → Of (KindFor exact) (kind_in exact json)
kind_is_for true json = Of-always (KindFor true) (kind_in true json) (λ kind. tt)
kind_is_for false json = is_element_in json

provenance_comes : (exact : Bool) (ms : Members) (kind : Kind) → KindFor exact kind → Of (λ from. Comes kind from.origin) (provenance_in exact ms kind)
provenance_comes false ms kind p = ap (λ b. b || false) p
provenance_comes true ms kind p =
    Of-then (λ from. Comes kind from.origin) _ (member_or (codes "gen") false as_bool ms) (λ generated.
    Of-then (λ from. Comes kind from.origin) _ (member_or (codes "origin") None some_number_in ms) (λ origin.
    Of-such_that (λ from. Comes kind from.origin) (may_come kind) (Some (record { origin = origin; generated = generated }))
    (λ h. (and_parts (not generated || kind_same kind P) (is_element kind || is_some origin) h).1)))

opening_in_read : (exact : Bool) (ms : Members) (kind : Kind) → KindFor exact kind → Of IsRead (opening_in exact ms kind)
opening_in_read exact ms kind p =
    Of-then IsRead _ (opening_attrs_in exact ms kind) (λ attrs.
    Of-then_with Few IsRead _ (member_or (codes "marks") [] (marks_in exact) ms) (Of-member_or Few (codes "marks") [] (marks_in exact) ms refl (marks_few exact)) (λ marks few.
    Of-then IsRead _ (member_or (codes "pre") [] white_in ms) (λ pre.
    Of-then_with (λ from. Comes kind from.origin) IsRead _ (provenance_in exact ms kind) (provenance_comes exact ms kind p) (λ from comes.
    opening_with_read kind attrs marks pre from comes few))))

closing_in_read : (ms : Members) (kind : Kind) → Of IsRead (closing_in ms kind)
closing_in_read ms kind = Of-then IsRead _ (member_or (codes "pre") [] white_in ms) (λ pre. Of-choice IsRead (may_close kind pre) (Some (Closing kind pre)) None refl tt)

bracket_in_read : (exact : Bool) (ms : Members) (opened closed : Option Data) → Of IsRead (bracket_in exact ms opened closed)
bracket_in_read exact ms (Some opened) closed = Of-then_with (KindFor exact) IsRead (opening_in exact ms) (kind_in exact opened) (kind_is_for exact opened) (opening_in_read exact ms)
bracket_in_read exact ms None closed = Of-then IsRead (closing_in ms) (option_and_then (kind_in exact) closed) (closing_in_read ms)

marked_read : (exact : Bool) (json : Data) → Of AllRead (marked_text_in exact json)
marked_read exact json =
    Of-then AllRead _ (pair_in json) (λ pair.
    Of-then AllRead _ (text_in pair.0) (λ text.
    Of-then_with Few AllRead _ (marks_in exact pair.1) (marks_few exact pair.1) (λ marks few. text_read marks text few)))

items_read : (exact : Bool) (json : Data) → Of AllRead (items_in exact json)
items_read exact null = tt
items_read exact (boolean b) = tt
items_read exact (number n) = tt
items_read exact (string bytes) =
    Of-map (λ text. Unit {0}) AllRead (text_pieces []) (text_in (string bytes)) (Of-always (λ text. Unit {0}) (text_in (string bytes)) (λ text. tt)) (λ text u. text_read [] text refl)
items_read exact (array items) = marked_read exact (array items)
items_read exact (object ms) =
    let bracket = bracket_in exact ms (get_member (codes "open") ms) (get_member (codes "close") ms) in
    Of-map IsRead AllRead (λ one. one ∷ []) bracket (bracket_in_read exact ms (get_member (codes "open") ms) (get_member (codes "close") ms)) (λ one p. (p, tt))

one_list_read : (lists : List (List PlainItem)) → Each AllRead lists → AllRead (one_list lists)
one_list_read [] p = tt
one_list_read (xs ∷ more) p = read-append xs (one_list more) p.0 (one_list_read more p.1)

all_items_read : (exact : Bool) (json : Data) → Of AllRead (all_items_in exact json)
all_items_read exact json = Of-map (Each AllRead) AllRead one_list (list_in (items_in exact) json) (Of-list_in AllRead (items_in exact) (items_read exact) json) one_list_read

-- ---- operations

abbrev OpRead : OpWords → Type 0
OpRead o = OpsRead (o ∷ [])

removal_read : (exact : Bool) (ms : Members) (counted : Data) → Of OpRead (removal_in exact ms counted)
removal_read exact ms counted =
    Of-then OpRead _ (number_in counted) (λ count.
    Of-then_with AllRead OpRead _ (member_in (codes "insert") (all_items_in exact) ms) (Of-member_in AllRead (codes "insert") (all_items_in exact) ms (all_items_read exact)) (λ insert p. (p, tt)))

setting_read : (ms : Members) → Of OpRead (setting_in ms)
setting_read ms = Of-then OpRead _ (member_in (codes "attr") name_in ms) (λ name. Of-then OpRead _ (member_in (codes "to") text_or_null_in ms) (λ to. tt))

op_read : (exact : Bool) (ms : Members) (retained removed : Option Data) → Of OpRead (op_by exact ms retained removed)
op_read exact ms (Some retained) removed =
    Of-map (λ n. Unit {0}) OpRead (λ count. op.Retain count) (number_in retained) (Of-always (λ n. Unit {0}) (number_in retained) (λ n. tt)) (λ n u. tt)
op_read exact ms None (Some removed) = removal_read exact ms removed
op_read exact ms None None = setting_read ms

op_in_read : (exact : Bool) (json : Data) → Of OpRead (op_in exact json)
op_in_read exact json = Of-then OpRead _ (as_object json) (λ ms. op_read exact ms (get_member (codes "retain") ms) (get_member (codes "remove") ms))

each_op : (ops : List OpWords) → Each OpRead ops → OpsRead ops
each_op [] p = tt
each_op (op.Retain count ∷ ops) p = each_op ops p.1
each_op (op.Remove count insert ∷ ops) p = ((p.0).0, each_op ops p.1)
each_op (op.Attr name to ∷ ops) p = each_op ops p.1

pub ops_read : (exact : Bool) (json : Data) → Of OpsRead (ops_in exact json)
ops_read exact json =
    Of-passing OpsRead words_are_normal (list_in (op_in exact) json)
    (Of-weaken (Each OpRead) OpsRead (list_in (op_in exact) json) (Of-list_in OpRead (op_in exact) (op_in_read exact) json) each_op)
