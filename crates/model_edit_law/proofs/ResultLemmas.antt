-- The result of each edit of a list.
use Rattle.std.specs.Prelude.{filter, filter_map, flat_map, slice_get, slice_range}
use Rattle.std.specs.List.{cons_option, range_with_len, enumerate_from}
use Rattle.std.proofs.Common.{◌≡◌, inl, inr, ℕ, zero, suc, ◌+◌, ◌-◌, ◌<◌, ◌≤◌, Bool, true, false, cond, not, ◌&&◌, if◌then◌else◌, nat_le, List, [], ◌∷◌, ◌++◌, length, map, take, drop, Option, Some, None, Ok, refl, sym, ap, ◌∙◌, subst, arith}
use Rattle.std.proofs.lemmas.Bool.{cases_Bool, and_parts, or_parts, leb-false}
use Rattle.std.proofs.lemmas.List.{append_assoc, append-nil, length-append, length-drop, length-take-le, take-append-drop}
use Rattle.ve_kinds.specs.declared.kind.Kind.{Kind}
use Rattle.ve_kinds.specs.Table.{is_content_branch, is_element, kind_same}
use Rattle.ve_base.specs.declared.marks.Mark.{Mark}
use Rattle.model_items.specs.declared.plain_item.PlainItem.{PlainItem}
use Rattle.model_items.specs.declared.plain_item.PlainItem.TheVariants.{Char, Opening, Closing}
use Rattle.model_items.specs.Law.{Lawful}
use Rattle.model_items.specs.Marks.{with_mark, without_mark}
use Rattle.model_items.specs.Offsets.{is_bad_span, is_content, is_unmatched, kind_at, openings_at, partner, passes, places_in, stack_at, unmatched_places}
use Rattle.model_items.specs.Same.{marks_same}
use Rattle.model_items.proofs.LawLemmas.{Ok-same}
use Rattle.model_items.proofs.SameLemmas.{Means-marks_same}
use Rattle.model_change.specs.Attributes.{is_reserved, item_changed}
use Rattle.model_change.specs.Transaction.{Transaction, edited, on_first}
use Rattle.model_edit.specs.Brackets.{closing_of}
use Rattle.model_edit.specs.Causes.{BuildCause, TableCause}
use Rattle.model_edit.specs.Convert.{converted, opens_kind}
use Rattle.model_edit.specs.Edits.{Change, Edit, InOrder, Set, setting, substituted, substituted_from, transaction_of}
use Rattle.model_edit.specs.Insert.{in_paragraph, insertion, is_bad_depth, is_bad_offset, is_content_pieces, is_mixed, levels_up, may_hold_item, outer_items, put_into, reopened, text_pieces}
use Rattle.model_edit.specs.Lists.{begin_after, end_before, indent_edits}
use Rattle.model_edit.specs.Marking.{is_bad_mark, item_marks, remark, remark_edit, remarked}
use Rattle.model_edit.specs.Remove.{Join, is_bad_removal, join_at, removal_edits}
use Rattle.model_edit.specs.Tables.{cell_removed, column_edits, row_in_edits, row_removed, set_rows, spans_row}
use Rattle.model_edit.specs.Grid.{Grid, covers_column, grid, table_rows}
use Rattle.model_edit.specs.declared.grid_cell.GridCell.{GridCell}
use Rattle.model_edit.specs.Wrap.{wrap_edits}
use Rattle.model_edit_law.specs.ResultLaws.{AttributeSets, ColInPuts, ColOutTakes, ConvertConverts, IndentIndents, InsertionPuts, IsPut, MarkingMarks, OutdentOutdents, RemovalTakes, RowInPuts, RowOutTakes, SplitParts, TypingPuts, UnmarkingUnmarks, WrapWraps, remarked_range, replaced_at, unmatched_items, without_range}
use Rattle.model_edit_law.proofs.BracketLemmas.{node_parts, slice_get-within}
use Rattle.model_edit_law.proofs.EditLemmas.{drop-whole, edited-two, take-whole}
use Rattle.model_edit_law.proofs.FineLemmas.{edits_substitute}
use Rattle.model_edit_law.proofs.IndentLemmas.{indent_order}
use Rattle.model_edit_law.proofs.InsertLemmas.{edited-put}
use Rattle.model_edit_law.proofs.OrderLemmas.{InOrder-Rising, Rising, Rising-each, Rising-filter, Rising-within}
use Rattle.model_edit_law.proofs.OutdentLemmas.{outdent_order}
use Rattle.model_edit_law.proofs.RemoveLemmas.{removal_rises}
use Rattle.model_edit_law.proofs.ShapeLemmas.{from_place, if_ok_else, if_ok_then, marked_is, opening_there, remark_rises, span_fits}
use Rattle.model_edit_law.proofs.TableFineLemmas.{InOrder-within, all_row_edits, col_out_order, drop_twice, fault_or_is, grid_given, row_in_order, row_out_order}
use Rattle.model_edit_law.proofs.TableGrowLemmas.{skip_first}
use Rattle.model_edit_law.proofs.TablePlaceLemmas.{Chain-filter, cell_at, cell_kinds, grid_stands}
use Rattle.model_edit_law.proofs.WrapLemmas.{wrap_rises}

-- ---- one range replaced, and two

plus-zero : (n : ℕ) → n + 0 ≡ n
plus-zero n = omega arith

minus-zero : (n : ℕ) → n - 0 ≡ n
minus-zero n = omega arith

one_replaced : (items new : List PlainItem) (at count : ℕ) → at + count ≤ length items →
    edited (transaction_of items (Change at count new ∷ [])) items ≡ replaced_at at count new items
one_replaced items new at count high =
    edits_substitute items (Change at count new ∷ []) (omega arith, high)
    ∙ ap (λ n. take n items ++ (new ++ drop count (drop n items))) (minus-zero at)
    ∙ ap (λ rest. take at items ++ (new ++ rest)) (drop_twice count at (at + count) items refl)

-- where the parts of the list are known
replaced_part : (a m c new items : List PlainItem) (at count : ℕ) → items ≡ a ++ (m ++ c) → at ≡ length a → count ≡ length m →
    replaced_at at count new items ≡ a ++ (new ++ c)
replaced_part a m c new items at count whole e f =
    let n : at + count ≡ length (a ++ m) = omega (arith, length-append a m) in
    let first : take at items ≡ a = ap (λ k. take k items) e ∙ ap (take (length a)) whole ∙ take-whole a (m ++ c) in
    let rest : drop (at + count) items ≡ c =
    ap (λ k. drop k items) n ∙ ap (drop (length (a ++ m))) (whole ∙ sym (append_assoc a m c)) ∙ drop-whole (a ++ m) c in
    (λ i. first i ++ (new ++ rest i))

two_replaced : (items new1 new2 : List PlainItem) (at1 count1 at2 count2 : ℕ) → at1 + count1 ≤ at2 → at2 + count2 ≤ length items →
    edited (transaction_of items (Change at1 count1 new1 ∷ Change at2 count2 new2 ∷ [])) items
    ≡ replaced_at at1 count1 new1 (replaced_at at2 count2 new2 items)
two_replaced items new1 new2 at1 count1 at2 count2 low high =
    let a = take at1 items in
    let r1 = drop at1 items in
    let m = take count1 r1 in
    let r2 = drop count1 r1 in
    let b = take (at2 - (at1 + count1)) r2 in
    let r3 = drop (at2 - (at1 + count1)) r2 in
    let n = take count2 r3 in
    let c = drop count2 r3 in
    let whole3 : r3 ≡ n ++ c = sym (take-append-drop count2 r3) in
    let whole2 : r2 ≡ b ++ (n ++ c) = sym (take-append-drop (at2 - (at1 + count1)) r2) ∙ ap (λ v. b ++ v) whole3 in
    let whole1 : r1 ≡ m ++ (b ++ (n ++ c)) = sym (take-append-drop count1 r1) ∙ ap (λ v. m ++ v) whole2 in
    let whole : items ≡ a ++ (m ++ (b ++ (n ++ c))) = sym (take-append-drop at1 items) ∙ ap (λ v. a ++ v) whole1 in
    let l1 : length r1 ≡ length items - at1 = length-drop at1 items in
    let l2 : length r2 ≡ length r1 - count1 = length-drop count1 r1 in
    let l3 : length r3 ≡ length r2 - (at2 - (at1 + count1)) = length-drop (at2 - (at1 + count1)) r2 in
    let la : length a ≡ at1 = length-take-le at1 items (omega arith) in
    let lm : length m ≡ count1 = length-take-le count1 r1 (omega arith) in
    let lb : length b ≡ at2 - (at1 + count1) = length-take-le (at2 - (at1 + count1)) r2 (omega arith) in
    let ln : length n ≡ count2 = length-take-le count2 r3 (omega arith) in
    let prefix = a ++ (m ++ b) in
    let lp : at2 ≡ length prefix = omega (arith, length-append a (m ++ b), length-append m b) in
    let parts : items ≡ prefix ++ (n ++ c) = whole ∙ sym (append_assoc a (m ++ b) (n ++ c) ∙ ap (λ v. a ++ v) (append_assoc m b (n ++ c))) in
    let second : replaced_at at2 count2 new2 items ≡ a ++ (m ++ (b ++ (new2 ++ c))) =
    replaced_part prefix n c new2 items at2 count2 parts lp (sym ln)
    ∙ append_assoc a (m ++ b) (new2 ++ c) ∙ ap (λ v. a ++ v) (append_assoc m b (new2 ++ c)) in
    (edited-two a m b n c new1 new2 items at1 count1 at2 count2 whole (sym la) (sym lm) (omega arith) (sym ln)).0
    ∙ sym (replaced_part a m (b ++ (new2 ++ c)) new1 (replaced_at at2 count2 new2 items) at1 count1 second (sym la) (sym lm))

-- edits that stand in order, of a transaction that was made of them
made_of : (items : List PlainItem) (edits : List Edit) (t : Transaction) → InOrder 0 (length items) edits → transaction_of items edits ≡ t →
    edited t items ≡ substituted items edits
made_of items edits t order same = ap (λ v. edited v items) (sym same) ∙ edits_substitute items edits order

-- ---- insertion, typing and split

inside_list : (items : List PlainItem) (at : ℕ) → is_bad_offset items at ≡ false → at ≤ length items
inside_list items at h = let within = leb-false (length items) at (or_parts (nat_le (length items) at) _ h).0 in omega arith

put : (items : List PlainItem) (at : ℕ) (new : List PlainItem) → at ≤ length items →
    edited (transaction_of items (Change at 0 new ∷ [])) items ≡ replaced_at at 0 new items
put items at new within = edited-put items at new within ∙ ap (λ n. take at items ++ (new ++ drop n items)) (sym (plus-zero at))

pub insertion_puts : InsertionPuts
insertion_puts items at pieces t h =
    let p = if_ok_else (is_bad_offset items at) _ _ t h in
    let q = if_ok_else (is_mixed pieces) _ _ t p.1 in
    let placed = in_paragraph (kind_at items at) pieces in
    by_level placed (levels_up placed (stack_at items at)) refl (inside_list items at p.0) q.1
  where
    by_level : (placed : List PlainItem) (o : Option ℕ) → levels_up placed (stack_at items at) ≡ o → at ≤ length items → put_into items at placed o ≡ Ok t → IsPut items at placed (edited t items)
    by_level placed None e within h = cc
    by_level placed (Some j) e within h =
        let new = reopened (take j (openings_at items at)) placed in
        record { levels = j; out = e; list = ap (λ v. edited v items) (sym (Ok-same {E = BuildCause} _ t h)) ∙ put items at new within }

-- text is content at every position
text_is_content : (marks : List Mark) (text : List ℕ) → is_content_pieces (text_pieces marks text) ≡ true
text_is_content marks [] = refl
text_is_content marks (c ∷ text) = text_is_content marks text

text_is_held : (k : Kind) (marks : List Mark) (text : List ℕ) → is_content_branch k ≡ true →
    Rattle.model_edit.specs.Insert.may_hold_pieces k (text_pieces marks text) ≡ true
text_is_held k marks [] h = refl
text_is_held k marks (c ∷ text) h = rw h (text_is_held k marks text h)

pub typing_puts : TypingPuts
typing_puts items at marks text t content h =
    let pieces = text_pieces marks text in
    let p = insertion_puts items at pieces t h in
    let same : in_paragraph (kind_at items at) pieces ≡ pieces = rw (text_is_content marks text, content) refl in
    let none : p.levels ≡ 0 = no_levels (stack_at items at) content (ap (λ v. levels_up v (stack_at items at)) (sym same) ∙ p.out) in
    p.list ∙ (λ i. replaced_at at 0 (reopened (take (none i) (openings_at items at)) (same i)) items)
    ∙ ap (λ v. take at items ++ (v ++ drop (at + 0) items)) (append-nil pieces)
  where
    no_levels : {j : ℕ} (stack : List Kind) → is_content_branch (Rattle.model_items.specs.Law.top stack) ≡ true → levels_up (text_pieces marks text) stack ≡ Some j → j ≡ 0
    no_levels [] h e = cc
    no_levels {j = j} (k ∷ outer) h e =
        let first : levels_up (text_pieces marks text) (k ∷ outer) ≡ Some 0 = rw (text_is_held k marks text h) refl in
        let both : ◌≡◌ {A = Option ℕ} (Some 0) (Some j) = sym first ∙ e in
        cc

pub split_parts : SplitParts
split_parts items at depth t h =
    let p = if_ok_else (is_bad_offset items at) _ _ t h in
    let q = if_ok_else (not (is_content items at)) _ _ t p.1 in
    let r = if_ok_else (is_bad_depth (stack_at items at) depth) _ _ t q.1 in
    ap (λ v. edited v items) (sym (Ok-same {E = BuildCause} _ t r.1))
    ∙ put items at (reopened (take depth (openings_at items at)) []) (inside_list items at p.0)

-- ---- removal

take_more : (a b n : ℕ) (xs : List PlainItem) → a + b ≡ n → take n xs ≡ take a xs ++ take b (drop a xs)
take_more zero b n xs e = let z : n ≡ b = omega arith in ap (λ k. take k xs) z
take_more (suc a) b zero xs e = absurd (omega arith)
take_more (suc a) b (suc n) [] e = none b
  where
    none : (b : ℕ) → ◌≡◌ {A = List PlainItem} [] (take b [])
    none zero = refl
    none (suc b) = refl
take_more (suc a) b (suc n) (x ∷ xs) e = ap (λ v. x ∷ v) (take_more a b n xs (omega arith))

-- a walk over the positions of a range, of which the list is known
some_at : (whole : List PlainItem) (at : ℕ) (x : PlainItem) (rest : List PlainItem) → drop at whole ≡ x ∷ rest → slice_get whole at ≡ Some x
some_at [] zero x rest h = cc
some_at [] (suc at) x rest h = cc
some_at (y ∷ whole) zero x rest h = let e : y ≡ x = cc in ap (λ v. Some v) e
some_at (y ∷ whole) (suc at) x rest h = some_at whole at x rest h

next_drop : (whole : List PlainItem) (at : ℕ) (x : PlainItem) (rest : List PlainItem) → drop at whole ≡ x ∷ rest → drop (at + 1) whole ≡ rest
next_drop whole at x rest h = sym (drop_twice 1 at (at + 1) whole refl) ∙ ap (drop 1) h

taken_singly : (whole : List PlainItem) (p : ℕ → Bool) (at count : ℕ) (items : List PlainItem) → drop at whole ≡ items → count ≤ length items →
    substituted_from at items (map (λ n. Change n 1 []) (filter (λ n. not (p n)) (range_with_len at count)))
    ≡ filter_map (slice_get whole) (filter p (range_with_len at count)) ++ drop count items
taken_singly whole p at zero items e low = refl
taken_singly whole p at (suc count) [] e low = absurd (omega arith)
taken_singly whole p at (suc count) (x ∷ rest) e low =
    let later = map (λ n. Change n 1 []) (filter (λ n. not (p n)) (range_with_len (at + 1) count)) in
    let kept = filter p (range_with_len (at + 1) count) in
    let next = taken_singly whole p (at + 1) count rest (next_drop whole at x rest e) (omega arith) in
    let order : InOrder (suc at) ((at + 1) + count) later =
    InOrder-Rising (suc at) ((at + 1) + count) later (Rising-within (at + 1) (suc at) ((at + 1) + count) ((at + 1) + count) later (omega arith) (omega arith) (Rising-filter (λ n. not (p n)) (at + 1) count)) in
    let S : Bool → Type 0 = λ b. substituted_from at (x ∷ rest) (map (λ n. Change n 1 []) (cond (not b) (at ∷ filter (λ n. not (p n)) (range_with_len (at + 1) count)) (filter (λ n. not (p n)) (range_with_len (at + 1) count))))
    ≡ filter_map (slice_get whole) (cond b (at ∷ kept) kept) ++ drop count rest in
    let one : suc at ≡ at + 1 = omega arith in
    let none : at - at ≡ 0 = omega arith in
    elim (cases_Bool (p at)) [
      | inl yes_ ↦ subst S (sym yes_)
          (skip_first later at ((at + 1) + count) x rest order
          ∙ ap (λ n. x ∷ substituted_from n rest later) one
          ∙ ap (λ v. x ∷ v) next
          ∙ ap (λ o. cons_option o (filter_map (slice_get whole) kept) ++ drop count rest) (sym (some_at whole at x rest e)))
      | inr no_ ↦ subst S (sym no_)
          (ap (λ n. take n (x ∷ rest) ++ substituted_from (at + 1) (drop 1 (drop n (x ∷ rest))) later) none ∙ next)
    ]

-- what stands in the list before and after a range that is walked over
around_range : (items : List PlainItem) (from count : ℕ) (edits : List Edit) (new : List PlainItem) → Rising from (from + count) edits → from + count ≤ length items →
    substituted_from from (drop from items) edits ≡ new ++ drop count (drop from items) →
    substituted items edits ≡ replaced_at from count new items
around_range items from count edits new rise high h =
    substituted_later items 0 from (from + count) edits rise (omega arith) (omega arith)
    ∙ (λ i. take (minus-zero from i) items ++ substituted_from from (drop (minus-zero from i) items) edits)
    ∙ ap (λ v. take from items ++ v) (h ∙ ap (λ v. new ++ v) (drop_twice count from (from + count) items refl))
  where
    substituted_later : (list : List PlainItem) (low at end : ℕ) (edits : List Edit) → Rising at end edits → low ≤ at → at - low ≤ length list →
        substituted_from low list edits ≡ take (at - low) list ++ substituted_from at (drop (at - low) list) edits
    substituted_later list low at end [] r l h = sym (take-append-drop (at - low) list)
    substituted_later list low at end (Change place count inserted ∷ edits) r l h =
        let first = r.0 in
        let n : place - low ≡ (at - low) + (place - at) = omega arith in
        let two : drop (place - at) (drop (at - low) list) ≡ drop (place - low) list = drop_twice (place - at) (at - low) (place - low) list (sym n) in
        ap (λ v. v ++ (inserted ++ substituted_from (place + count) (drop count (drop (place - low) list)) edits)) (take_more (at - low) (place - at) (place - low) list (sym n))
        ∙ append_assoc (take (at - low) list) (take (place - at) (drop (at - low) list)) (inserted ++ substituted_from (place + count) (drop count (drop (place - low) list)) edits)
        ∙ ap (λ v. take (at - low) list ++ (take (place - at) (drop (at - low) list) ++ (inserted ++ substituted_from (place + count) (drop count v) edits))) (sym two)
    substituted_later list low at end (Set place name to ∷ edits) r l h = absurd r

pub removal_takes : RemovalTakes
removal_takes items from to t lawful h =
    let p = if_ok_else (is_bad_removal items from to) _ _ t h in
    let s = span_fits items from to (or_parts (is_bad_span items from to) _ p.0).0 in
    let low = s.0 in
    let high = s.1 in
    let o = join_at items (unmatched_places items from to) in
    ap (λ v. edited v items) (sym (Ok-same {E = BuildCause} _ t p.1))
    ∙ by_join o low high (removal_rises items from to lawful p.0)
  where
    alike : (join : Join) (b : Bool) → from < to → to ≤ length items → Rising 0 (length items) (Change from (to - from) [] ∷ (if b then [] else Change join.second_closing 1 (closing_of join.first ∷ []) ∷ [])) →
        edited (transaction_of items (Change from (to - from) [] ∷ (if b then [] else Change join.second_closing 1 (closing_of join.first ∷ []) ∷ []))) items
        ≡ replaced_at from (to - from) [] (if b then items else replaced_at join.second_closing 1 (closing_of join.first ∷ []) items)
    alike join true low high r = one_replaced items [] from (to - from) (omega arith)
    alike join false low high r =
        let a = r.1.0 in
        let b = r.1.1 in
        two_replaced items [] (closing_of join.first ∷ []) from (to - from) join.second_closing 1 a b

    by_join : (o : Option Join) → from < to → to ≤ length items → Rising 0 (length items) (removal_edits items from to o) →
        edited (transaction_of items (removal_edits items from to o)) items ≡ without_range items from to o
    by_join None low high r =
        let count = to - from in
        let edits = removal_edits items from to None in
        let long : length (drop from items) ≡ length items - from = length-drop from items in
        edits_substitute items edits (InOrder-Rising 0 (length items) edits r)
        ∙ around_range items from count edits (unmatched_items items from to) (Rising-filter (λ at. not (is_unmatched items from to at)) from count) (omega arith)
        (taken_singly items (is_unmatched items from to) from count (drop from items) refl (omega arith))
    by_join (Some join) low high r = alike join (kind_same join.first join.second) low high r

-- ---- marks

unremarked : (f : List Mark → List Mark) (item : PlainItem) → marks_same (item_marks (remarked f item)) (item_marks item) ≡ true → remarked f item ≡ item
unremarked f (Char c marks) h = ap (λ m. Char c m) (Means-marks_same.equal (f marks) marks h)
unremarked f (Opening kind head marks pre origin generated) h =
    ap (λ m. Opening kind head m pre origin generated) (Means-marks_same.equal _ marks h)
unremarked f (Closing kind pre) h = refl

remarked_singly : (f : List Mark → List Mark) (whole : List PlainItem) (at count : ℕ) (items : List PlainItem) → drop at whole ≡ items → count ≤ length items →
    substituted_from at items (flat_map (λ n. remark_edit f n (slice_get whole n)) (range_with_len at count)) ≡ map (remarked f) (take count items) ++ drop count items
remarked_singly f whole at zero items e low = refl
remarked_singly f whole at (suc count) [] e low = absurd (omega arith)
remarked_singly f whole at (suc count) (x ∷ rest) e low =
    let g : ℕ → List Edit = λ n. remark_edit f n (slice_get whole n) in
    let later = flat_map g (range_with_len (at + 1) count) in
    let next = remarked_singly f whole (at + 1) count rest (next_drop whole at x rest e) (omega arith) in
    let order : InOrder (suc at) ((at + 1) + count) later =
    InOrder-Rising (suc at) ((at + 1) + count) later (Rising-within (at + 1) (suc at) ((at + 1) + count) ((at + 1) + count) later (omega arith) (omega arith)
    (Rising-each g (λ n. remark_rises f n (slice_get whole n)) (at + 1) count)) in
    let one : suc at ≡ at + 1 = omega arith in
    let none : at - at ≡ 0 = omega arith in
    let S : Bool → Type 0 = λ b. substituted_from at (x ∷ rest) ((if b then [] else Change at 1 (remarked f x ∷ []) ∷ []) ++ later) ≡ remarked f x ∷ (map (remarked f) (take count rest) ++ drop count rest) in
    ap (λ o. substituted_from at (x ∷ rest) (remark_edit f at o ++ later)) (some_at whole at x rest e)
    ∙ elim (cases_Bool (marks_same (item_marks (remarked f x)) (item_marks x))) [
      | inl yes_ ↦ subst S (sym yes_)
          (skip_first later at ((at + 1) + count) x rest order
          ∙ ap (λ n. x ∷ substituted_from n rest later) one
          ∙ (λ i. sym (unremarked f x yes_) i ∷ next i))
      | inr no_ ↦ subst S (sym no_)
          (ap (λ n. take n (x ∷ rest) ++ (remarked f x ∷ substituted_from (at + 1) (drop 1 (drop n (x ∷ rest))) later)) none ∙ ap (λ v. remarked f x ∷ v) next)
    ]

remarks : (f : List Mark → List Mark) (items : List PlainItem) (from to : ℕ) → is_bad_span items from to ≡ false → edited (remark f items from to) items ≡ remarked_range f from to items
remarks f items from to h =
    let s = span_fits items from to h in
    let low = s.0 in
    let high = s.1 in
    let count = to - from in
    let edits = flat_map (λ n. remark_edit f n (slice_get items n)) (places_in from to) in
    let rise : Rising from (from + count) edits = Rising-each (λ n. remark_edit f n (slice_get items n)) (λ n. remark_rises f n (slice_get items n)) from count in
    let long : length (drop from items) ≡ length items - from = length-drop from items in
    edits_substitute items edits (InOrder-Rising 0 (length items) edits (Rising-within from 0 (from + count) (length items) edits (omega arith) (omega arith) rise))
    ∙ around_range items from count edits (map (remarked f) (slice_range items from to)) rise (omega arith)
    (remarked_singly f items from count (drop from items) refl (omega arith))

pub marking_marks : MarkingMarks
marking_marks items from to m t h =
    let p = if_ok_else (is_bad_span items from to) _ _ t h in
    let q = if_ok_else (is_bad_mark m) _ _ t p.1 in
    ap (λ v. edited v items) (sym (marked_is _ _ t q.1)) ∙ remarks (with_mark m) items from to p.0

pub unmarking_unmarks : UnmarkingUnmarks
unmarking_unmarks items from to m t h =
    let p = if_ok_else (is_bad_span items from to) _ _ t h in
    let q = if_ok_else (is_bad_mark m) _ _ t p.1 in
    ap (λ v. edited v items) (sym (Ok-same {E = BuildCause} _ t q.1)) ∙ remarks (without_mark m) items from to p.0

-- ---- kinds and attributes

pub convert_converts : ConvertConverts
convert_converts items at kind t lawful h =
    let p = if_ok_then (passes (opens_kind is_content_branch) (slice_get items at) && is_content_branch kind) _ _ t h in
    let x = opening_there is_content_branch (slice_get items at) (and_parts _ _ p.0).0 in
    let n = node_parts items at x.0 x.1 x.2 x.3 x.4 x.5 lawful x.6 in
    let far = n.its_partner in
    let within = n.within in
    ap (λ v. edited v items) (sym (Ok-same {E = BuildCause} _ t p.1))
    ∙ two_replaced items (converted kind (slice_get items at)) (closing_of kind ∷ []) at 1 (partner items at) 1 (omega arith) (omega arith)

pub attribute_sets : AttributeSets
attribute_sets items at name to t h =
    let p = if_ok_then (passes (opens_kind is_element) (slice_get items at)) _ _ t h in
    let q = if_ok_else (is_reserved name) _ _ t p.1 in
    let x = opening_there is_element (slice_get items at) p.0 in
    let item = Opening x.0 x.1 x.2 x.3 x.4 x.5 in
    let within = slice_get-within items at item x.6 in
    let f = item_changed (setting name to (drop at items)) in
    let here : drop at items ≡ item ∷ drop (suc at) items = from_place items at item x.6 in
    let more : suc at ≡ at + 1 = omega arith in
    ap (λ v. edited v items) (sym (Ok-same {E = BuildCause} _ t q.1))
    ∙ edits_substitute items (Set at name to ∷ []) (omega arith, omega arith)
    ∙ ap (λ n. take n items ++ on_first (item_changed (setting name to (drop n items))) (drop n items)) (minus-zero at)
    ∙ ap (λ v. take at items ++ on_first f v) here
    ∙ ap (λ n. take at items ++ (f item ∷ drop n items)) more
    ∙ ap (λ v. take at items ++ (map f (take 1 v) ++ drop (at + 1) items)) (sym here)

-- ---- wraps, list items and tables

pub wrap_wraps : WrapWraps
wrap_wraps items from to plan t lawful h =
    let r = wrap_rises items from to plan t lawful h in
    made_of items (wrap_edits items from to plan) t (InOrder-Rising 0 (length items) (wrap_edits items from to plan) r.0) r.1

pub indent_indents : IndentIndents
indent_indents items at t lawful h =
    let r = indent_order items at t lawful h in
    made_of items (indent_edits items at (kind_at items at)) t r.0 r.1

pub outdent_outdents : OutdentOutdents
outdent_outdents items at list outer t lawful opens h =
    let r = outdent_order items at list outer t lawful opens h in
    made_of items (end_before at list ∷ begin_after items (partner items at) list ∷ []) t r.0 r.1

pub row_in_puts : RowInPuts
row_in_puts items at row g t lawful grid_is h =
    let p = grid_given (grid items at) _ t h in
    let same : p.0 ≡ g = Ok-same {E = TableCause} p.0 g (sym p.1 ∙ grid_is) in
    let made = fault_or_is _ (transaction_of items (row_in_edits items (table_rows items at) row p.0)) t p.2 in
    made_of items (row_in_edits items (table_rows items at) row g) t (row_in_order items at row g (grid_stands items at g lawful grid_is))
    (subst (λ v. transaction_of items (row_in_edits items (table_rows items at) row v) ≡ t) same made)

pub col_in_puts : ColInPuts
col_in_puts items at column g t lawful grid_is h =
    let p = grid_given (grid items at) _ t h in
    let same : p.0 ≡ g = Ok-same {E = TableCause} p.0 g (sym p.1 ∙ grid_is) in
    let rows = table_rows items at in
    let made = fault_or_is _ (transaction_of items (flat_map (column_edits items column p.0) (enumerate_from 0 rows))) t p.2 in
    let s = grid_stands items at g lawful grid_is in
    let within = (s.table).within in
    let edits = flat_map (column_edits items column g) (enumerate_from 0 rows) in
    let all = all_row_edits items at column g s rows 0 (suc at) (partner items at) (λ n r e. let z : n ≡ 0 + n = omega arith in subst (λ m. slice_get rows m ≡ Some r) z e) s.rows in
    made_of items edits t (InOrder-within (suc at) 0 (partner items at) (length items) edits (omega arith) (omega arith) all.order)
    (subst (λ v. transaction_of items (flat_map (column_edits items column v) (enumerate_from 0 rows)) ≡ t) same made)

pub row_out_takes : RowOutTakes
row_out_takes items at row g t lawful grid_is h =
    let p = grid_given (grid items at) _ t h in
    let same : p.0 ≡ g = Ok-same {E = TableCause} p.0 g (sym p.1 ∙ grid_is) in
    let edits : Grid → List Edit = λ v. map (λ (c : GridCell). set_rows (c.rows - 1) c) (filter (spans_row row) v.cells) ++ row_removed items (slice_get (table_rows items at) row) in
    let made = fault_or_is _ (transaction_of items (edits p.0)) t p.2 in
    made_of items (edits g) t (row_out_order items at row g (grid_stands items at g lawful grid_is) (slice_get (table_rows items at) row) refl)
    (subst (λ v. transaction_of items (edits v) ≡ t) same made)

pub col_out_takes : ColOutTakes
col_out_takes items at column g t lawful grid_is h =
    let p = grid_given (grid items at) _ t h in
    let same : p.0 ≡ g = Ok-same {E = TableCause} p.0 g (sym p.1 ∙ grid_is) in
    let edits : Grid → List Edit = λ v. map (cell_removed items) (filter (λ (c : GridCell). covers_column c column) v.cells) in
    let made = fault_or_is _ (transaction_of items (edits p.0)) t p.2 in
    let s = grid_stands items at g lawful grid_is in
    let within = (s.table).within in
    let test : GridCell → Bool = λ c. covers_column c column in
    let chain = Chain-filter cell_at items cell_kinds test (suc at) (partner items at) g.cells (s.cells).chain in
    made_of items (edits g) t
    (InOrder-within (suc at) 0 (partner items at) (length items) (edits g) (omega arith) (omega arith) (col_out_order items (filter test g.cells) (suc at) (partner items at) chain))
    (subst (λ v. transaction_of items (edits v) ≡ t) same made)
