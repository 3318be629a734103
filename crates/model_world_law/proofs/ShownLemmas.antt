-- Items that a line can write are shown so that they are read back.
use Rattle.std.proofs.Common.{◌≡◌, ℕ, Bool, true, false, not, nat_le, if◌then◌else◌, List, [], ◌∷◌, length, map, Option, Some, None, refl, ap, ◌∙◌}
use Rattle.std.specs.Prelude.{chars, codes, encode_utf8_all, option_map, option_and_then}
use Rattle.std.specs.List.{AllByRecursion}
use Rattle.std.proofs.lemmas.Str.{chars-encodes}
use Rattle.ve_base.specs.Limits.{max_marks}
use Rattle.serde_json.specs.Data.{Data, Members}
use Rattle.serde_json.specs.Find.{get_member}
use Rattle.model_spelling.specs.Grammar.{is_attr_name}
use Rattle.model_page.proofs.OnLiterals.{page_on_literals}
use Rattle.ve_kinds.specs.declared.kind.Kind.{Kind}
use Rattle.ve_kinds.specs.declared.kind.Kind.TheVariants.{Root, P, H1, H2, H3, H4, H5, H6, Pre, Section, Li, Dt, Dd, Blockquote, Div, Td, Th, Caption, InternalItem, Ul, Ol, Dl, Table, Thead, Tbody, Tfoot, Tr, InternalList, TransBlock, AlienBlock, Br, Img, Ref, TransInline, AlienInline}
use Rattle.ve_kinds.specs.Table.{is_element}
use Rattle.ve_base.specs.declared.attrs.Attr.{Attr}
use Rattle.ve_base.specs.declared.marks.Mark.{Mark}
use Rattle.model_world.specs.Names.{kind_name}
use Rattle.model_world.specs.Values.{such_that, text_in, json_values, all_read, list_in}
use Rattle.model_world.specs.Attributes.{name_in, attr_in, are_apart, attrs_in, are_allowed, allowed_attrs_in, is_mark, mark_in, marks_in, element_in}
use Rattle.model_world.specs.Shown.{json_items, json_list, json_text, attr_shown, attrs_shown, mark_shown, marks_shown, opening_shown, closing_shown}
use Rattle.model_world_law.specs.ShownLaws.{IsText, IsAttr, AreAttrs, IsMark, AreMarks, plain_head}

-- ---- texts and lists

pub passes : {A : Type 0} (test : A → Bool) (x : A) → test x ≡ true → such_that test (Some x) ≡ Some x
passes test x h = ap (λ b. if b then Some x else None) h

pub text_back : (text : List ℕ) → IsText text → text_in (json_text text) ≡ Some text
text_back text t =
    ap (λ b. option_map chars (if not b then Some (encode_utf8_all text) else None)) t.free ∙ ap (λ cs. Some cs) (chars-encodes text t.scalars)

pub listed_back : (values : List Data) → json_values (json_items values) ≡ values
listed_back [] = refl
listed_back (one ∷ more) = ap (λ r. one ∷ r) (listed_back more)

all_back : {A : Type 0} (Can : A → Type 0) (show : A → Data) (read : Data → Option A) → ((x : A) → Can x → read (show x) ≡ Some x) → (xs : List A) → AllByRecursion Can xs →
    all_read read (map show xs) ≡ Some xs
all_back Can show read h [] p = refl
all_back Can show read h (x ∷ xs) p =
    ap (λ o. option_and_then (λ y. option_map (λ ys. y ∷ ys) (all_read read (map show xs))) o) (h x p.0)
    ∙ ap (λ o. option_map (λ ys. x ∷ ys) o) (all_back Can show read h xs p.1)

list_back : {A : Type 0} (Can : A → Type 0) (show : A → Data) (read : Data → Option A) → ((x : A) → Can x → read (show x) ≡ Some x) → (xs : List A) → AllByRecursion Can xs →
    list_in read (json_list (map show xs)) ≡ Some xs
list_back Can show read h xs p = ap (all_read read) (listed_back (map show xs)) ∙ all_back Can show read h xs p

-- ---- attributes, marks and kinds

name_back : (a : Attr) → IsAttr a → name_in (json_text a.name) ≡ Some a.name
name_back a p = ap (such_that is_attr_name) (text_back a.name p.name) ∙ passes is_attr_name a.name p.named

attr_back : (a : Attr) → IsAttr a → attr_in (attr_shown a) ≡ Some a
attr_back a p =
    ap (λ o. option_and_then (λ name. option_and_then (λ value. Some (record { name = name; value = value })) (text_in (json_text a.value))) o) (name_back a p)
    ∙ ap (λ o. option_and_then (λ value. Some (record { name = a.name; value = value })) o) (text_back a.value p.value)

attrs_back : (attrs : List Attr) → AreAttrs attrs → attrs_in (attrs_shown attrs) ≡ Some attrs
attrs_back attrs p = ap (such_that are_apart) (list_back IsAttr attr_shown attr_in attr_back attrs p.each) ∙ passes are_apart attrs p.apart

pub allowed_back : (exact : Bool) (attrs : List Attr) → AreAttrs attrs → are_allowed exact attrs ≡ true → allowed_attrs_in exact (attrs_shown attrs) ≡ Some attrs
allowed_back exact attrs p f = ap (such_that (are_allowed exact)) (attrs_back attrs p) ∙ passes (are_allowed exact) attrs f

mark_back : (exact : Bool) (m : Mark) → IsMark exact m → mark_in exact (mark_shown m) ≡ Some m
mark_back exact m p =
    ap (λ o. option_and_then (λ tag. option_and_then (λ attrs. such_that (is_mark exact) (Some (record { tag = tag; attrs = attrs }))) (attrs_in (attrs_shown m.attrs))) o) (text_back m.tag p.tag)
    ∙ ap (λ o. option_and_then (λ attrs. such_that (is_mark exact) (Some (record { tag = m.tag; attrs = attrs }))) o) (attrs_back m.attrs p.attrs)
    ∙ passes (is_mark exact) m p.mark

pub marks_back : (exact : Bool) (marks : List Mark) → AreMarks exact marks → marks_in exact (marks_shown marks) ≡ Some marks
marks_back exact marks p =
    ap (such_that (λ ms. nat_le (length ms) max_marks)) (list_back (IsMark exact) mark_shown (mark_in exact) (mark_back exact) marks p.each)
    ∙ passes (λ ms. nat_le (length ms) max_marks) marks p.few

pub kind_back : (k : Kind) → is_element k ≡ true → element_in (json_text (kind_name k)) ≡ Some k
unfolding page_on_literals
kind_back Root e = cc
kind_back P e = refl
kind_back H1 e = refl
kind_back H2 e = refl
kind_back H3 e = refl
kind_back H4 e = refl
kind_back H5 e = refl
kind_back H6 e = refl
kind_back Pre e = refl
kind_back Section e = refl
kind_back Li e = refl
kind_back Dt e = refl
kind_back Dd e = refl
kind_back Blockquote e = refl
kind_back Div e = refl
kind_back Td e = refl
kind_back Th e = refl
kind_back Caption e = refl
kind_back InternalItem e = cc
kind_back Ul e = refl
kind_back Ol e = refl
kind_back Dl e = refl
kind_back Table e = refl
kind_back Thead e = refl
kind_back Tbody e = refl
kind_back Tfoot e = refl
kind_back Tr e = refl
kind_back InternalList e = cc
kind_back TransBlock e = cc
kind_back AlienBlock e = cc
kind_back Br e = refl
kind_back Img e = refl
kind_back Ref e = cc
kind_back TransInline e = cc
kind_back AlienInline e = cc

-- ---- members

abbrev pub if_some : {A : Type 0} → (List A → Data) → List A → Option Data
if_some show [] = None
if_some show (x ∷ xs) = Some (show (x ∷ xs))

abbrev pub opened : Kind → List Attr → List Mark → List ℕ → Members
opened kind attrs marks pre = opening_shown kind (plain_head attrs) marks pre None false

pub open_at : (kind : Kind) (attrs : List Attr) (marks : List Mark) (pre : List ℕ) → get_member (codes "open") (opened kind attrs marks pre) ≡ Some (json_text (kind_name kind))
unfolding page_on_literals
open_at kind [] [] [] = refl
open_at kind [] [] (c ∷ pre) = refl
open_at kind [] (m ∷ marks) [] = refl
open_at kind [] (m ∷ marks) (c ∷ pre) = refl
open_at kind (a ∷ attrs) [] [] = refl
open_at kind (a ∷ attrs) [] (c ∷ pre) = refl
open_at kind (a ∷ attrs) (m ∷ marks) [] = refl
open_at kind (a ∷ attrs) (m ∷ marks) (c ∷ pre) = refl

pub attrs_at : (kind : Kind) (attrs : List Attr) (marks : List Mark) (pre : List ℕ) → get_member (codes "attrs") (opened kind attrs marks pre) ≡ if_some attrs_shown attrs
unfolding page_on_literals
attrs_at kind [] [] [] = refl
attrs_at kind [] [] (c ∷ pre) = refl
attrs_at kind [] (m ∷ marks) [] = refl
attrs_at kind [] (m ∷ marks) (c ∷ pre) = refl
attrs_at kind (a ∷ attrs) [] [] = refl
attrs_at kind (a ∷ attrs) [] (c ∷ pre) = refl
attrs_at kind (a ∷ attrs) (m ∷ marks) [] = refl
attrs_at kind (a ∷ attrs) (m ∷ marks) (c ∷ pre) = refl

pub marks_at : (kind : Kind) (attrs : List Attr) (marks : List Mark) (pre : List ℕ) → get_member (codes "marks") (opened kind attrs marks pre) ≡ if_some marks_shown marks
unfolding page_on_literals
marks_at kind [] [] [] = refl
marks_at kind [] [] (c ∷ pre) = refl
marks_at kind [] (m ∷ marks) [] = refl
marks_at kind [] (m ∷ marks) (c ∷ pre) = refl
marks_at kind (a ∷ attrs) [] [] = refl
marks_at kind (a ∷ attrs) [] (c ∷ pre) = refl
marks_at kind (a ∷ attrs) (m ∷ marks) [] = refl
marks_at kind (a ∷ attrs) (m ∷ marks) (c ∷ pre) = refl

pub pre_at : (kind : Kind) (attrs : List Attr) (marks : List Mark) (pre : List ℕ) → get_member (codes "pre") (opened kind attrs marks pre) ≡ if_some json_text pre
unfolding page_on_literals
pre_at kind [] [] [] = refl
pre_at kind [] [] (c ∷ pre) = refl
pre_at kind [] (m ∷ marks) [] = refl
pre_at kind [] (m ∷ marks) (c ∷ pre) = refl
pre_at kind (a ∷ attrs) [] [] = refl
pre_at kind (a ∷ attrs) [] (c ∷ pre) = refl
pre_at kind (a ∷ attrs) (m ∷ marks) [] = refl
pre_at kind (a ∷ attrs) (m ∷ marks) (c ∷ pre) = refl

pub close_at : (kind : Kind) (pre : List ℕ) → get_member (codes "close") (closing_shown kind pre) ≡ Some (json_text (kind_name kind))
unfolding page_on_literals
close_at kind [] = refl
close_at kind (c ∷ pre) = refl

pub no_open_at : (kind : Kind) (pre : List ℕ) → get_member (codes "open") (closing_shown kind pre) ≡ None
unfolding page_on_literals
no_open_at kind [] = refl
no_open_at kind (c ∷ pre) = refl

pub closed_pre_at : (kind : Kind) (pre : List ℕ) → get_member (codes "pre") (closing_shown kind pre) ≡ if_some json_text pre
unfolding page_on_literals
closed_pre_at kind [] = refl
closed_pre_at kind (c ∷ pre) = refl
