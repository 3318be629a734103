-- Runs and brackets are read back one by one, and so the whole list.
use Rattle.std.proofs.Common.{◌≡◌, ℕ, Bool, true, false, ◌||◌, if◌then◌else◌, List, [], ◌∷◌, ◌++◌, Option, Some, None, refl, sym, ap, ◌∙◌, subst}
use Rattle.std.specs.Prelude.{codes, encode_utf8_all, option_map, option_and_then}
use Rattle.std.specs.List.{AllByRecursion, list_any}
use Rattle.std.specs.Str.{all_scalars}
use Rattle.std.proofs.lemmas.Bool.{and_parts, and_from}
use Rattle.std.proofs.lemmas.List.Folds.{list_any-append}
use Rattle.std.proofs.lemmas.Str.{encodes-append}
use Rattle.serde_json.specs.Data.{Data, object}
use Rattle.serde_json.specs.Find.{get_member}
use Rattle.model_spelling.specs.Grammar.{is_barred}
use Rattle.ve_kinds.specs.declared.kind.Kind.{Kind}
use Rattle.ve_kinds.specs.Table.{is_element}
use Rattle.ve_base.specs.declared.attrs.Attr.{Attr}
use Rattle.ve_base.specs.declared.marks.Mark.{Mark}
use Rattle.model_items.specs.declared.plain_item.PlainItem.{PlainItem}
use Rattle.model_items.specs.declared.plain_item.PlainItem.TheVariants.{Char, Opening, Closing}
use Rattle.model_items.specs.Same.{marks_same}
use Rattle.model_items.proofs.SameLemmas.{Means-marks_same}
use Rattle.model_page.specs.Elements.{is_white}
use Rattle.model_world.specs.Values.{such_that, all_read, read_or, member_or}
use Rattle.model_world.specs.Attributes.{are_allowed, are_free, allowed_attrs_in, marks_in, element_in}
use Rattle.model_edit.specs.Insert.{text_pieces}
use Rattle.model_world.specs.ItemWords.{white_in, may_open, provenance_in, opening_with, opening_in, may_close, closing_in, bracket_in, items_in, one_list}
use Rattle.model_world.specs.Shown.{json_text, attrs_shown, marks_shown, opening_shown, closing_shown, run_shown, Shown, Together, Apart, all_shown, char_shown, as_shown}
use Rattle.model_world_law.specs.ShownLaws.{IsText, AreAttrs, AreMarks, IsWhite, plain_head, CanWrite, ShownIsRead}
use Rattle.model_world_law.proofs.ShownLemmas.{passes, text_back, listed_back, allowed_back, marks_back, kind_back, if_some, opened, open_at, attrs_at, marks_at, pre_at, close_at, no_open_at, closed_pre_at}

-- ---- what is left out is empty

pub attrs_or : (exact : Bool) (attrs : List Attr) → AreAttrs attrs → are_allowed exact attrs ≡ true → read_or [] (allowed_attrs_in exact) (if_some attrs_shown attrs) ≡ Some attrs
attrs_or exact [] p f = refl
attrs_or exact (a ∷ attrs) p f = allowed_back exact (a ∷ attrs) p f

pub marks_or : (exact : Bool) (marks : List Mark) → AreMarks exact marks → read_or [] (marks_in exact) (if_some marks_shown marks) ≡ Some marks
marks_or exact [] p = refl
marks_or exact (m ∷ marks) p = marks_back exact (m ∷ marks) p

white_back : (pre : List ℕ) → IsWhite pre → white_in (json_text pre) ≡ Some pre
white_back pre p = ap (such_that is_white) (text_back pre p.text) ∙ passes is_white pre p.white

pub white_or : (pre : List ℕ) → IsWhite pre → read_or [] white_in (if_some json_text pre) ≡ Some pre
white_or [] p = refl
white_or (c ∷ pre) p = white_back (c ∷ pre) p

-- ---- brackets

opening_back : (kind : Kind) (attrs : List Attr) (marks : List Mark) (pre : List ℕ) → is_element kind ≡ true → AreAttrs attrs → are_free attrs ≡ true → AreMarks false marks → IsWhite pre →
    may_open kind marks pre ≡ true → items_in false (object (opened kind attrs marks pre)) ≡ Some (Opening kind (plain_head attrs) marks pre None false ∷ [])
opening_back kind attrs marks pre e given free ms white may =
    let members = opened kind attrs marks pre in
    let last : List Attr → List Mark → Option (List ℕ) → Option PlainItem = λ xs ys o. option_and_then (λ p. option_and_then (λ q. opening_with kind xs ys p q) (provenance_in false members kind)) o in
    let inner : List Attr → Option (List Mark) → Option PlainItem = λ xs o. option_and_then (λ ys. last xs ys (member_or (codes "pre") [] white_in members)) o in
    let outer : Option (List Attr) → Option PlainItem = λ o. option_and_then (λ xs. inner xs (member_or (codes "marks") [] (marks_in false) members)) o in
    let one : opening_in false members kind ≡ Some (Opening kind (plain_head attrs) marks pre None false) =
    ap outer
    (ap (λ b. if b then member_or (codes "attrs") [] (allowed_attrs_in false) members else Some []) e
    ∙ ap (read_or [] (allowed_attrs_in false)) (attrs_at kind attrs marks pre)
    ∙ attrs_or false attrs given free)
    ∙ ap (inner attrs) (ap (read_or [] (marks_in false)) (marks_at kind attrs marks pre) ∙ marks_or false marks ms)
    ∙ ap (last attrs marks) (ap (read_or [] white_in) (pre_at kind attrs marks pre) ∙ white_or pre white)
    ∙ ap (λ b. if b then Some (Opening kind (plain_head attrs) marks pre None false) else None) may in
    ap (λ o. option_map (λ x. x ∷ []) (bracket_in false members o (get_member (codes "close") members))) (open_at kind attrs marks pre)
    ∙ ap (λ o. option_map (λ x. x ∷ []) (option_and_then (opening_in false members) o)) (kind_back kind e)
    ∙ ap (λ o. option_map (λ x. x ∷ []) o) one

closing_back : (kind : Kind) (pre : List ℕ) → is_element kind ≡ true → IsWhite pre → may_close kind pre ≡ true → items_in false (object (closing_shown kind pre)) ≡ Some (Closing kind pre ∷ [])
closing_back kind pre e white may =
    let members = closing_shown kind pre in
    let one : closing_in members kind ≡ Some (Closing kind pre) =
    ap (λ o. option_and_then (λ p. if may_close kind p then Some (Closing kind p) else None) o) (ap (read_or [] white_in) (closed_pre_at kind pre) ∙ white_or pre white)
    ∙ ap (λ b. if b then Some (Closing kind pre) else None) may in
    ap (λ o. option_map (λ x. x ∷ []) (bracket_in false members o (get_member (codes "close") members))) (no_open_at kind pre)
    ∙ ap (λ o. option_map (λ x. x ∷ []) (option_and_then (closing_in members) (option_and_then element_in o))) (close_at kind pre)
    ∙ ap (λ o. option_map (λ x. x ∷ []) (option_and_then (closing_in members) o)) (kind_back kind e)
    ∙ ap (λ o. option_map (λ x. x ∷ []) o) one

-- ---- runs

run_back : (exact : Bool) (marks : List Mark) (text : List ℕ) → AreMarks exact marks → IsText text → items_in exact (run_shown marks text) ≡ Some (text_pieces marks text)
run_back exact [] text ms t = ap (option_map (text_pieces [])) (text_back text t)
run_back exact (m ∷ marks) text ms t =
    let inner : List ℕ → Option (List Mark) → Option (List PlainItem) = λ cs o. option_and_then (λ ns. Some (text_pieces ns cs)) o in
    ap (λ o. option_and_then (λ cs. inner cs (marks_in exact (marks_shown (m ∷ marks)))) o) (text_back text t)
    ∙ ap (inner text) (marks_back exact (m ∷ marks) ms)

any_append : (xs ys : List ℕ) → list_any is_barred xs ≡ false → list_any is_barred ys ≡ false → list_any is_barred (xs ++ ys) ≡ false
any_append xs ys p q = list_any-append is_barred xs ys ∙ (λ i. p i || q i)

longer : (c : ℕ) (text : List ℕ) → IsText (c ∷ []) → IsText text → IsText (c ∷ text)
longer c text one more = record {
  scalars = and_from _ (all_scalars text) (and_parts _ true one.scalars).0 more.scalars;
  free = ap (list_any is_barred) (encodes-append (c ∷ []) text) ∙ any_append (encode_utf8_all (c ∷ [])) (encode_utf8_all text) one.free more.free;
}

-- ---- the list

-- values that are read as these items
pub record Backs (exact : Bool) (values : List Data) (items : List PlainItem) : Type 0 where
  pub lists : List (List PlainItem)
  pub are : all_read (items_in exact) values ≡ Some lists
  pub whole : items ≡ one_list lists

pub one_back : (exact : Bool) (json : Data) (more : List Data) (xs items : List PlainItem) → items_in exact json ≡ Some xs → Backs exact more items → Backs exact (json ∷ more) (xs ++ items)
one_back exact json more xs items h b = record {
  lists = xs ∷ b.lists;
  are = ap (λ o. option_and_then (λ y. option_map (λ ys. y ∷ ys) (all_read (items_in exact) more)) o) h ∙ ap (λ o. option_map (λ ys. xs ∷ ys) o) b.are;
  whole = ap (λ r. xs ++ r) b.whole;
}

-- a run and what follows it
pub record RunBacks (exact : Bool) (marks : List Mark) (text : List ℕ) (later : List Data) (items : List PlainItem) : Type 0 where
  pub marked : AreMarks exact marks
  pub text_is : IsText text
  pub suffix : List PlainItem
  pub rest : Backs exact later suffix
  pub parts : items ≡ text_pieces marks text ++ suffix

abbrev pub Back : (exact : Bool) → Shown → List PlainItem → Type 0
Back exact (Together marks text later) items = RunBacks exact marks text later items
Back exact (Apart later) items = Backs exact later items

pub all_back : (exact : Bool) (s : Shown) (items : List PlainItem) → Back exact s items → Backs exact (all_shown s) items
all_back exact (Apart later) items b = b
all_back exact (Together marks text later) items b =
    subst (Backs exact (run_shown marks text ∷ later)) (sym b.parts)
    (one_back exact (run_shown marks text) later (text_pieces marks text) b.suffix (run_back exact marks text b.marked b.text_is) b.rest)

pub char_back : (exact : Bool) (c : ℕ) (marks : List Mark) (s : Shown) (items : List PlainItem) → IsText (c ∷ []) → AreMarks exact marks → Back exact s items →
    Back exact (char_shown c marks s) (Char c marks ∷ items)
char_back exact c marks (Apart later) items one ms b = record { marked = ms; text_is = one; suffix = items; rest = b; parts = refl }
char_back exact c marks (Together others text later) items one ms b = by (marks_same marks others) refl
  where
    by : (same : Bool) → marks_same marks others ≡ same →
        Back exact (if same then Together others (c ∷ text) later else Together marks (c ∷ []) (run_shown others text ∷ later)) (Char c marks ∷ items)
    by true e =
        let equal : marks ≡ others = Means-marks_same.equal marks others e in
        record { marked = b.marked; text_is = longer c text one b.text_is; suffix = b.suffix; rest = b.rest; parts = λ i. Char c (equal i) ∷ b.parts i }
    by false e = record { marked = ms; text_is = one; suffix = items; rest = all_back exact (Together others text later) items b; parts = refl }

shown_back : (items : List PlainItem) → AllByRecursion CanWrite items → Back false (as_shown items) items
shown_back [] p = record { lists = []; are = refl; whole = refl }
shown_back (Char c marks ∷ items) p = char_back false c marks (as_shown items) items (p.0).0 (p.0).1 (shown_back items p.1)
shown_back (Opening kind head marks pre origin generated ∷ items) p =
    let w = p.0 in
    let same : object (opened kind head.attrs marks pre) ≡ object (opening_shown kind head marks pre origin generated) = λ i. object (opening_shown kind (sym w.1 i) marks pre (sym w.7 i) (sym w.8 i)) in
    let item : ◌≡◌ {A = List PlainItem} (Opening kind (plain_head head.attrs) marks pre None false ∷ []) (Opening kind head marks pre origin generated ∷ []) = λ i. Opening kind (sym w.1 i) marks pre (sym w.7 i) (sym w.8 i) ∷ [] in
    let read : items_in false (object (opening_shown kind head marks pre origin generated)) ≡ Some (Opening kind head marks pre origin generated ∷ []) =
    ap (items_in false) (sym same) ∙ opening_back kind head.attrs marks pre w.0 w.2 w.3 w.4 w.5 w.6 ∙ ap (λ xs. Some xs) item in
    one_back false (object (opening_shown kind head marks pre origin generated)) (all_shown (as_shown items)) (Opening kind head marks pre origin generated ∷ []) items read (all_back false (as_shown items) items (shown_back items p.1))
shown_back (Closing kind pre ∷ items) p =
    let w = p.0 in
    one_back false (object (closing_shown kind pre)) (all_shown (as_shown items)) (Closing kind pre ∷ []) items (closing_back kind pre w.0 w.1 w.2) (all_back false (as_shown items) items (shown_back items p.1))

pub shown_is_read : ShownIsRead
shown_is_read items p =
    let b = all_back false (as_shown items) items (shown_back items p) in
    ap (λ values. option_map one_list (all_read (items_in false) values)) (listed_back (all_shown (as_shown items)))
    ∙ ap (option_map one_list) b.are
    ∙ ap (λ xs. Some xs) (sym b.whole)
