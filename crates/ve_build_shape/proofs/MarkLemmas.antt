-- The marks of one item with a mark more, or one less, and the number that the item then cites.
use Rattle.std.proofs.Common.{◌≡◌, ◌≤◌, ◌<◌, ℕ, zero, suc, Bool, true, false, not, ◌&&◌, ◌||◌, cond, if◌then◌else◌, nat_lt, List, [], ◌∷◌, ◌++◌, length, slice_get, Contains, Option, Some, None, refl, sym, ap, ◌∙◌, arith, true≢false, append_assoc}
use Rattle.std.specs.List.{list_all}
use Rattle.std.specs.Str.{IsAscii, chars, encode_utf8_all, bytes_eq}
use Rattle.std.proofs.lemmas.Bool.{and_parts, ltb-true, false_from_ne_true}
use Rattle.std.proofs.lemmas.Bool.Decides.{same_from_decides}
use Rattle.std.proofs.lemmas.Option.{slice_get_within, get_or_from_slice_get}
use Rattle.std.proofs.lemmas.Slice.Eq.{bytes_eq-Decides}
use Rattle.std.proofs.lemmas.Str.{chars-IsAscii, encodes-IsAscii}
use Rattle.std.proofs.lemmas.Str.Ascii.{IsAscii-nil}
use Rattle.ve_base.specs.Empty.{empty_head}
use Rattle.ve_base.specs.declared.marks.Mark.{Mark}
use Rattle.ve_base.specs.declared.value.Value.{Value}
use Rattle.ve_base.specs.declared.value.Value.TheVariants as value
use Rattle.ve_base.specs.declared.value.ValueId.{ValueId}
use Rattle.ve_kinds.specs.Table.{is_inline_leaf}
use Rattle.ve_kinds.specs.Tags.{is_one_of, annotation_tags}
use Rattle.model_items.specs.declared.item.Item.{Item}
use Rattle.model_items.specs.declared.item.Item.TheVariants as item
use Rattle.model_items.specs.declared.plain_item.PlainItem.{PlainItem}
use Rattle.model_items.specs.declared.plain_item.PlainItem.TheVariants.{Char, Opening, Closing}
use Rattle.model_items.specs.Marks.{has_mark, with_mark, without_mark}
use Rattle.model_items.specs.Plain.{plain, value_at, head_in, marks_in, white_in, CitesHead, CitesMarks, CitesWhite, CitesWell}
use Rattle.model_items.specs.Same.{mark_same, marks_same, head_same}
use Rattle.model_items.proofs.SameLemmas.{Means-marks_same, Means-head_same}
use Rattle.model_change.specs.Store.{admitted, fill, white_cited, marks_cited, head_cited, cited_by}
use Rattle.model_edit.specs.Marking.{remarked, item_marks}
use Rattle.ve_store.specs.Following.{marks_at}
use Rattle.ve_store.specs.Marked.{with_marks, values_marked, values_unmarked}
use Rattle.ve_store.proofs.StoreLemmas.{admitted_there, admitted_before}
use Rattle.ve_tx.specs.Making.{Extends}
use Rattle.ve_tx.proofs.ValuesLemmas.{filled_on}
use Rattle.model_edit.specs.Insert.{is_content_item}
use Rattle.ve_build_shape.specs.Remarked.{keeps_marks}

-- ---- a tag is compared by its bytes, and the tags of marks are ASCII

low : List ℕ → Bool
low [] = true
low (b ∷ bs) = nat_lt b 128 && low bs

IsAscii-low : (bs : List ℕ) → low bs ≡ true → IsAscii bs
unfolding low
IsAscii-low [] h i = IsAscii-nil i
IsAscii-low (b ∷ bs) h zero = ltb-true _ _ (and_parts (nat_lt b 128) (low bs) h).0
IsAscii-low (b ∷ bs) h (suc i) = IsAscii-low bs (and_parts (nat_lt b 128) (low bs) h).1 i

one_same : (name bytes text : List ℕ) → IsAscii name → chars bytes ≡ text → bytes ≡ encode_utf8_all text → bytes_eq name bytes ≡ bytes_eq name text
one_same name bytes text ascii read spelled =
    let d = bytes_eq-Decides name bytes in
    let e = bytes_eq-Decides name text in
    same_from_decides (bytes_eq name bytes) (bytes_eq name text)
    (λ same. sym (chars-IsAscii name ascii) ∙ ap chars (d.0 same) ∙ read, λ same. d.1 (sym (encodes-IsAscii name ascii) ∙ ap encode_utf8_all same ∙ sym spelled))
    e

any_same : (names : List (List ℕ)) (bytes text : List ℕ) → list_all low names ≡ true → chars bytes ≡ text → bytes ≡ encode_utf8_all text → is_one_of names bytes ≡ is_one_of names text
any_same [] bytes text ascii read spelled = refl
any_same (name ∷ names) bytes text ascii read spelled =
    let p = and_parts (low name) (list_all low names) ascii in
    let here = one_same name bytes text (IsAscii-low name p.0) read spelled in
    let rest = any_same names bytes text p.1 read spelled in
    ap (λ b. b || is_one_of names bytes) here ∙ ap (λ b. bytes_eq name text || b) rest

pub annotation_same : (bytes text : List ℕ) → chars bytes ≡ text → bytes ≡ encode_utf8_all text → is_one_of annotation_tags bytes ≡ is_one_of annotation_tags text
unfolding low
annotation_same bytes text read spelled = any_same annotation_tags bytes text refl read spelled

-- ---- marks that stay

and-false : (b : Bool) → (b && false) ≡ false
and-false true = refl
and-false false = refl

longer : (marks : List Mark) (m : Mark) → marks_same (marks ++ m ∷ []) marks ≡ false
longer [] m = refl
longer (one ∷ marks) m = ap (λ b. mark_same one one && b) (longer marks m) ∙ and-false (mark_same one one)

pub set_keeps : (m : Mark) (marks : List Mark) → marks_same (with_mark m marks) marks ≡ has_mark m marks
set_keeps m marks = by (has_mark m marks)
  where
    by : (b : Bool) → marks_same (if b then marks else marks ++ m ∷ []) marks ≡ b
    by true = Means-marks_same.itself marks
    by false = longer marks m

none_out : (m : Mark) (marks : List Mark) → has_mark m marks ≡ false → without_mark m marks ≡ marks
none_out m [] h = refl
none_out m (one ∷ marks) h = by (mark_same m one) h (none_out m marks)
  where
    by : (b : Bool) → (b || has_mark m marks) ≡ false → (has_mark m marks ≡ false → without_mark m marks ≡ marks) →
        cond (not b) (one ∷ without_mark m marks) (without_mark m marks) ≡ one ∷ marks
    by true h rest = absurd (true≢false h)
    by false h rest = ap (λ l. one ∷ l) (rest h)

shorter : (m : Mark) (marks : List Mark) → length (without_mark m marks) ≤ length marks
shorter m [] = omega arith
shorter m (one ∷ marks) = by (mark_same m one) (shorter m marks)
  where
    by : (b : Bool) → length (without_mark m marks) ≤ length marks → length (cond (not b) (one ∷ without_mark m marks) (without_mark m marks)) ≤ length (one ∷ marks)
    by true h = omega (arith, h)
    by false h = omega (arith, h)

some_out : (m : Mark) (marks : List Mark) → has_mark m marks ≡ true → length (without_mark m marks) < length marks
some_out m [] h = absurd (true≢false (sym h))
some_out m (one ∷ marks) h = by (mark_same m one) h (shorter m marks) (some_out m marks)
  where
    by : (b : Bool) → (b || has_mark m marks) ≡ true → length (without_mark m marks) ≤ length marks →
        (has_mark m marks ≡ true → length (without_mark m marks) < length marks) →
        length (cond (not b) (one ∷ without_mark m marks) (without_mark m marks)) < length (one ∷ marks)
    by true h less rest = omega (arith, less)
    by false h less rest = let r = rest h in omega (arith, r)

pub take_off_keeps : (m : Mark) (marks : List Mark) → marks_same (without_mark m marks) marks ≡ not (has_mark m marks)
take_off_keeps m marks = by (has_mark m marks) (none_out m marks) (some_out m marks)
  where
    by : (b : Bool) → (b ≡ false → without_mark m marks ≡ marks) → (b ≡ true → length (without_mark m marks) < length marks) → marks_same (without_mark m marks) marks ≡ not b
    by true none some =
        false_from_ne_true (marks_same (without_mark m marks) marks) (λ same.
        let e : length (without_mark m marks) ≡ length marks = ap (λ (l : List Mark). length l) (Means-marks_same.equal (without_mark m marks) marks same) in
        let less = some refl in
        omega (arith, e, less))
    by false none some = let same = none refl in ap (λ l. marks_same l marks) same ∙ Means-marks_same.itself marks

-- the marks of an item after it
pub marks-remarked : (f : List Mark → List Mark) (p : PlainItem) → item_marks (remarked f p) ≡ (if is_content_item p then f (item_marks p) else item_marks p)
marks-remarked f (Char c marks) = refl
marks-remarked f (Opening kind head marks pre origin generated) = refl
marks-remarked f (Closing kind pre) = refl

pub never_marked : (f : List Mark → List Mark) (p : PlainItem) → is_content_item p ≡ false → keeps_marks f p ≡ true
never_marked f p may =
    ap (λ l. marks_same l (item_marks p)) (marks-remarked f p ∙ ap (λ b. if b then f (item_marks p) else item_marks p) may) ∙ Means-marks_same.itself (item_marks p)

pub may_keep : (f : List Mark → List Mark) (p : PlainItem) → is_content_item p ≡ true → keeps_marks f p ≡ marks_same (f (item_marks p)) (item_marks p)
may_keep f p may = ap (λ l. marks_same l (item_marks p)) (marks-remarked f p ∙ ap (λ b. if b then f (item_marks p) else item_marks p) may)

-- the marks that it gets are read off the item
pub same_remarked : (f : List Mark → List Mark) (marks : List Mark) (p : PlainItem) → marks ≡ f (item_marks p) → remarked (λ old. marks) p ≡ remarked f p
same_remarked f marks (Char c old) h = ap (λ l. Char c l) h
same_remarked f marks (Opening kind head old pre origin generated) h = ap (λ l. Opening kind head (if is_inline_leaf kind then l else old) pre origin generated) h
same_remarked f marks (Closing kind pre) h = refl

-- ---- what is cited already adds nothing

contains_at : (values : List Value) (i : ℕ) (v : Value) → slice_get values i ≡ Some v → Contains values v
contains_at values i v h = (i, slice_get_within values i v h, get_or_from_slice_get values i v v h)

pub marks_there : (values : List Value) (id : Option ValueId) → CitesMarks values id → fill values (marks_cited (marks_at values id)) ≡ values
marks_there values None h = refl
marks_there values (Some id) h = by h.0 h.1 h.2
  where
    by : (marks : List Mark) → slice_get values id.0 ≡ Some (value.Marks marks) → (marks ≡ [] → ⊥) → fill values (marks_cited (marks_at values (Some id))) ≡ values
    by [] at some = absurd (some refl)
    by (m ∷ ms) at some =
        ap (λ o. fill values (marks_cited (marks_in o))) at ∙ sym (admitted_there values (value.Marks (m ∷ ms)) (contains_at values id.0 (value.Marks (m ∷ ms)) at))

white_there : (values more : List Value) (id : Option ValueId) → CitesWhite values id → fill (values ++ more) (white_cited (white_in (value_at values id))) ≡ values ++ more
white_there values more None h = refl
white_there values more (Some id) h = by h.0 h.1 h.2
  where
    by : (text : List ℕ) → slice_get values id.0 ≡ Some (value.White text) → (text ≡ [] → ⊥) → fill (values ++ more) (white_cited (white_in (value_at values (Some id)))) ≡ values ++ more
    by [] at some = absurd (some refl)
    by (c ∷ cs) at some =
        ap (λ o. fill (values ++ more) (white_cited (white_in o))) at ∙ sym (admitted_before values more (value.White (c ∷ cs)) (contains_at values id.0 (value.White (c ∷ cs)) at))

head_there : (values : List Value) (id : Option ValueId) → CitesHead values id → fill values (head_cited (head_in (value_at values id))) ≡ values
head_there values None h = ap (λ b. fill values (if b then [] else value.Head empty_head ∷ [])) (Means-head_same.itself empty_head)
head_there values (Some id) h =
    ap (λ o. fill values (head_cited (head_in o))) h.1 ∙ by (head_same h.0 empty_head)
  where
    by : (b : Bool) → fill values (if b then [] else value.Head h.0 ∷ []) ≡ values
    by true = refl
    by false = sym (admitted_there values (value.Head h.0) (contains_at values id.0 (value.Head h.0) h.1))

-- the marks that an item cites afterwards, as they are put in
snoc_cited : (marks : List Mark) (m : Mark) → marks_cited (marks ++ m ∷ []) ≡ value.Marks (marks ++ m ∷ []) ∷ []
snoc_cited [] m = refl
snoc_cited (one ∷ marks) m = refl

pub marked_fills : (values new : List Value) (id : Option ValueId) (m : Mark) → CitesMarks values id → new ≡ values_marked values (marks_at values id) m →
    new ≡ fill values (marks_cited (with_mark m (marks_at values id)))
marked_fills values new id m cites is = is ∙ by (has_mark m (marks_at values id))
  where
    by : (b : Bool) → (if b then values else admitted values (value.Marks (marks_at values id ++ m ∷ []))) ≡ fill values (marks_cited (if b then marks_at values id else marks_at values id ++ m ∷ []))
    by true = sym (marks_there values id cites)
    by false = sym (ap (fill values) (snoc_cited (marks_at values id) m))

pub unmarked_fills : (values new : List Value) (id : Option ValueId) (m : Mark) → new ≡ values_unmarked values (marks_at values id) m →
    new ≡ fill values (marks_cited (without_mark m (marks_at values id)))
unmarked_fills values new id m is = is ∙ by (without_mark m (marks_at values id))
  where
    by : (marks : List Mark) → with_marks values marks ≡ fill values (marks_cited marks)
    by [] = refl
    by (one ∷ marks) = refl

-- an item whose head and whitespace are cited already brings its marks alone
module _ (old new : List Value) (f : List Mark → List Mark) (extends : Extends old new) where
  pub item_fills : (x : Item) → CitesWell old x → is_content_item (plain old x) ≡ true → new ≡ fill old (marks_cited (f (item_marks (plain old x)))) →
      new ≡ fill old (cited_by (remarked f (plain old x)))
  item_fills (item.Char ch marks) cites may is = is
  item_fills (item.Opening kind generated head marks pre origin) cites may is =
      let M = marks_at old marks in
      let H = head_cited (head_in (value_at old head)) in
      let W = white_cited (white_in (value_at old pre)) in
      let one : old ≡ fill old H = sym (head_there old head cites.0) in
      let two : new ≡ fill old (H ++ marks_cited (f M)) = is ∙ filled_on old old H (marks_cited (f M)) one in
      let last : fill new W ≡ new = ap (λ l. fill l W) extends.1 ∙ white_there old extends.0 pre cites.2 ∙ sym extends.1 in
      let three : fill new W ≡ fill old ((H ++ marks_cited (f M)) ++ W) = filled_on old new (H ++ marks_cited (f M)) W two in
      let parts : (b : Bool) → b ≡ true → (H ++ marks_cited (f M)) ++ W ≡ H ++ (marks_cited (if b then f M else M) ++ W) =
      λ b is_true. append_assoc H (marks_cited (f M)) W ∙ ap (λ b. H ++ (marks_cited (if b then f M else M) ++ W)) (sym is_true) in
      sym last ∙ three ∙ ap (fill old) (parts (is_inline_leaf kind) may)
  item_fills (item.Closing kind pre) cites may is = absurd (true≢false (sym may))
