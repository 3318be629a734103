-- The nodes of a range.
use Rattle.std.proofs.Common.{◌≡◌, ◌≢◌, ◌≤◌, ◌<◌, ℕ, zero, suc, ◌+◌, ◌-◌, Bool, true, false, not, cond, ◌&&◌, ◌||◌, ◌==◌, if◌then◌else◌, nat_le, nat_lt, IsTrue, ◌↔◌, List, [], ◌∷◌, ◌++◌, length, map, filter, take, drop, slice_get, All, Option, Some, None, refl, sym, ap, ◌∙◌, subst, arith, append_assoc, append-nil, true≢false, length-drop}
use Rattle.std.specs.Prelude.{count_by}
use Rattle.std.specs.List.{range_with_len, list_any}
use Rattle.std.proofs.lemmas.Bool.{and_parts, or_parts, leb-true, eqb-true, not-true, not-false, false_from_ne_true}
use Rattle.std.proofs.lemmas.Bool.Decides.{nat_tests}
use Rattle.std.proofs.lemmas.List.{length-map, length-take-le}
use Rattle.std.proofs.lemmas.List.Elements.{All-nil, All-cons}
use Rattle.std.proofs.lemmas.List.Sums.{sum_by-cons}
use Rattle.ve_base.specs.declared.value.Value.{Value}
use Rattle.ve_kinds.specs.declared.kind.Kind.{Kind}
use Rattle.ve_kinds.specs.Table.{is_content_branch, is_leaf}
use Rattle.model_items.specs.declared.item.Item.{Item}
use Rattle.model_items.specs.declared.item.Item.TheVariants as item
use Rattle.model_items.specs.declared.plain_item.PlainItem.{PlainItem}
use Rattle.model_items.specs.declared.plain_item.PlainItem.TheVariants.{Char, Opening, Closing}
use Rattle.model_items.specs.declared.offset_class.OffsetClass.{OffsetClass}
use Rattle.model_items.specs.declared.offset_class.OffsetClass.TheVariants.{Content, Structural, Inside}
use Rattle.model_items.specs.Law.{start, finish, top, step, after, Lawful}
use Rattle.model_items.specs.Offsets.{is_closing, is_opening, passes, opens_at, stack_at, kind_at, is_content, first_from, partner, is_unmatched, places_in, siblings, unmatched_counts}
use Rattle.model_items.specs.Plain.{plain, plain_list}
use Rattle.model_items.specs.Tree.{Open, opens_with, opens_after, class_at, node_at, place_with}
use Rattle.model_items.proofs.LawLemmas.{if_ok, after_parts, joined-ok, closed_before, after_from_Lawful}
use Rattle.model_edit_law.proofs.BracketLemmas.{slice_get-split, stack_at-after}
use Rattle.model_edit.specs.Wrap.{nodes_in, is_whole_nodes, is_bad_wrap}
use Rattle.ve_tree.specs.IsTree.{unvalued}
use Rattle.ve_edits.proofs.BracketLemmas.{opens_at-plain, partner-Char, partner-Closing, partner-Opening}
use Rattle.ve_edits.proofs.RoundLemmas.{item_there}
use Rattle.ve_edits.proofs.SpanLemmas.{range_first}
use Rattle.ve_build_shape.specs.Nodes.{depth_past, begun, is_matched}

abbrev pub node_starts : List Open → List ℕ
node_starts nodes = map (λ (node : Open). node.from) nodes

-- ---- content

abbrev is_content_class : OffsetClass → Bool
is_content_class Content = true
is_content_class Inside = false
is_content_class Structural = false

content_is : (content leaf : Bool) → content ≡ is_content_class (if content then Content else (if leaf then Inside else Structural))
content_is true leaf = refl
content_is false true = refl
content_is false false = refl

kind_round : (values : List Value) (items : List Item) (o : ℕ) → kind_at (plain_list values items) o ≡ (node_at (unvalued items) o).kind
kind_round values items o =
    ap (λ opens. top (map (λ (node : Open). node.kind) opens)) (opens_at-plain values items o) ∙ by (opens_at (unvalued items) o) (drop o (unvalued items))
  where
    by : (opens : List Open) (rest : List PlainItem) → top (map (λ (node : Open). node.kind) opens) ≡ (place_with opens o rest).kind
    by [] rest = refl
    by (inner ∷ outer) rest = refl

decided : (b : Bool) (class : OffsetClass) → (IsTrue b ↔ (class ≡ Content)) → b ≡ is_content_class class
decided b Content h = h.1 refl
decided true Inside h = let wrong = h.0 refl in absurd (cc)
decided false Inside h = refl
decided true Structural h = let wrong = h.0 refl in absurd (cc)
decided false Structural h = refl

pub holds_content : (values : List Value) (items : List Item) (o : ℕ) (b : Bool) → (IsTrue b ↔ (class_at (unvalued items) o ≡ Content)) → b ≡ is_content (plain_list values items) o
holds_content values items o b h =
    let k = (node_at (unvalued items) o).kind in
    decided b (class_at (unvalued items) o) h ∙ sym (content_is (is_content_branch k) (is_leaf k)) ∙ sym (ap is_content_branch (kind_round values items o))

-- ---- brackets whose partners are in the range

there_is : (items : List PlainItem) (at : ℕ) → at < length items → (x : PlainItem) × (slice_get items at ≡ Some x)
there_is [] at h = absurd (omega arith)
there_is (y ∷ items) zero h = (y, refl)
there_is (y ∷ items) (suc at) h = there_is items at (omega arith)

and-false : (b : Bool) → (b && false) ≡ false
and-false true = refl
and-false false = refl

module _ (items : List PlainItem) (from to : ℕ) (within : to ≤ length items) where
  abbrev none_counted : List ℕ → Bool
  none_counted all =
      (count_by (λ at. passes is_closing (slice_get items at)) all == 0) && (count_by (λ at. passes is_opening (slice_get items at)) all == 0)

  -- one position more is counted
  one_counted : (at : ℕ) (rest : List ℕ) →
      none_counted (at ∷ rest)
      ≡ ((cond (passes is_closing (slice_get items at)) 1 0 + count_by (λ at. passes is_closing (slice_get items at)) rest == 0)
      && (cond (passes is_opening (slice_get items at)) 1 0 + count_by (λ at. passes is_opening (slice_get items at)) rest == 0))
  one_counted at rest =
      let c = sum_by-cons (λ at. cond (passes is_closing (slice_get items at)) 1 0) at rest in
      let o = sum_by-cons (λ at. cond (passes is_opening (slice_get items at)) 1 0) at rest in
      ap (λ n. (n == 0) && (count_by (λ at. passes is_opening (slice_get items at)) (at ∷ rest) == 0)) c
      ∙ ap (λ n. (cond (passes is_closing (slice_get items at)) 1 0 + count_by (λ at. passes is_closing (slice_get items at)) rest == 0) && (n == 0)) o

  counted : (at : ℕ) (rest : List ℕ) (x : PlainItem) → slice_get items at ≡ Some x → from ≤ at → at < to → is_unmatched items from to at ≡ true →
      none_counted (at ∷ rest) ≡ false
  counted at rest (Char c marks) there low high h =
      let same : partner items at ≡ at = ap (λ o. Rattle.model_items.specs.Offsets.partner_of o items at) there in
      let wrong : is_unmatched items from to at ≡ false = ap (λ n. not (nat_le from n && nat_lt n to)) same ∙ inside in
      absurd (true≢false (sym h ∙ wrong))
    where
      inside : not (nat_le from at && nat_lt at to) ≡ false
      inside = grind (arith, nat_tests)
  counted at rest (Opening kind head marks pre origin generated) there low high h =
      let c = count_by (λ at. passes is_closing (slice_get items at)) rest in
      let o = count_by (λ at. passes is_opening (slice_get items at)) rest in
      let more : (1 + o == 0) ≡ false = grind (arith, nat_tests) in
      one_counted at rest
      ∙ ap (λ (p : Option PlainItem). (cond (passes is_closing p) 1 0 + c == 0) && (cond (passes is_opening p) 1 0 + o == 0)) there
      ∙ ap (λ b. (0 + c == 0) && b) more ∙ and-false (0 + c == 0)
  counted at rest (Closing kind pre) there low high h =
      let c = count_by (λ at. passes is_closing (slice_get items at)) rest in
      let o = count_by (λ at. passes is_opening (slice_get items at)) rest in
      let more : (1 + c == 0) ≡ false = grind (arith, nat_tests) in
      one_counted at rest
      ∙ ap (λ (p : Option PlainItem). (cond (passes is_closing p) 1 0 + c == 0) && (cond (passes is_opening p) 1 0 + o == 0)) there
      ∙ ap (λ b. b && (0 + o == 0)) more

  none_by_counts : (a n : ℕ) → from ≤ a → a + n ≤ to →
      none_counted (filter (is_unmatched items from to) (range_with_len a n)) ≡ not (list_any (is_unmatched items from to) (range_with_len a n))
  none_by_counts a zero low high = refl
  none_by_counts a (suc n) low high =
      by (is_unmatched items from to a) refl (none_by_counts (a + 1) n (omega arith) (omega arith))
    where
      by : (b : Bool) → is_unmatched items from to a ≡ b →
          none_counted (filter (is_unmatched items from to) (range_with_len (a + 1) n)) ≡ not (list_any (is_unmatched items from to) (range_with_len (a + 1) n)) →
          none_counted (filter (is_unmatched items from to) (range_with_len a (suc n))) ≡ not (list_any (is_unmatched items from to) (range_with_len a (suc n)))
      by true e rest =
          let there = there_is items a (omega arith) in
          ap (λ b. none_counted (cond b (a ∷ filter (is_unmatched items from to) (range_with_len (a + 1) n)) (filter (is_unmatched items from to) (range_with_len (a + 1) n)))) e
          ∙ counted a (filter (is_unmatched items from to) (range_with_len (a + 1) n)) there.0 there.1 low (omega arith) e
          ∙ sym (ap (λ b. not (b || list_any (is_unmatched items from to) (range_with_len (a + 1) n))) e)
      by false e rest =
          ap (λ b. none_counted (cond b (a ∷ filter (is_unmatched items from to) (range_with_len (a + 1) n)) (filter (is_unmatched items from to) (range_with_len (a + 1) n)))) e
          ∙ rest
          ∙ sym (ap (λ b. not (b || list_any (is_unmatched items from to) (range_with_len (a + 1) n))) e)

-- partners read no values
partner_same : (values : List Value) (items : List Item) (at : ℕ) → at < length items → partner (plain_list values items) at ≡ partner (unvalued items) at
partner_same values items at less = let there = item_there items at less in by there.0 there.0 refl there.1
  where
    by : (x y : Item) → x ≡ y → slice_get items at ≡ Some x → partner (plain_list values items) at ≡ partner (unvalued items) at
    by x (item.Char ch marks) is h = partner-Char values items at x ch marks h is ∙ sym (partner-Char [] items at x ch marks h is)
    by x (item.Closing kind pre) is h = partner-Closing values items at x kind pre h is ∙ sym (partner-Closing [] items at x kind pre h is)
    by x (item.Opening kind generated head marks pre origin) is h =
        let one = partner-Opening values items at x kind generated head marks pre origin h is in
        let other = partner-Opening [] items at x kind generated head marks pre origin h is in
        omega (arith, one, other)

any_same : (values : List Value) (items : List Item) (from to a n : ℕ) → a + n ≤ length items →
    list_any (is_unmatched (unvalued items) from to) (range_with_len a n) ≡ list_any (is_unmatched (plain_list values items) from to) (range_with_len a n)
any_same values items from to a zero high = refl
any_same values items from to a (suc n) high =
    let here = ap (λ n. not (nat_le from n && nat_lt n to)) (sym (partner_same values items a (omega arith))) in
    ap (λ b. b || list_any (is_unmatched (unvalued items) from to) (range_with_len (a + 1) n)) here
    ∙ ap (λ b. is_unmatched (plain_list values items) from to a || b) (any_same values items from to (a + 1) n (omega arith))

matched_by_counts : (values : List Value) (items : List Item) (from to : ℕ) (counts : ℕ × ℕ) → from ≤ to → to ≤ length items → counts ≡ unmatched_counts (unvalued items) from to →
    ((counts.0 == 0) && (counts.1 == 0)) ≡ is_matched (plain_list values items) from to
matched_by_counts values items from to counts order within is =
    ap (λ (p : ℕ × ℕ). (p.0 == 0) && (p.1 == 0)) is
    ∙ none_by_counts (unvalued items) from to (omega (arith, length-map items (plain []))) from (to - from) (omega arith) (omega arith)
    ∙ ap not (any_same values items from to from (to - from) (omega arith))

module _ (values : List Value) (items : List Item) (from to : ℕ) (counts : ℕ × ℕ) (order : from ≤ to) (within : to ≤ length items) (is : counts ≡ unmatched_counts (unvalued items) from to) where
  pub matched_then : counts.0 ≡ 0 → (counts.1 == 0) ≡ is_matched (plain_list values items) from to
  matched_then none = sym (ap (λ n. (n == 0) && (counts.1 == 0)) none) ∙ matched_by_counts values items from to counts order within is

  pub matched_else : (counts.0 ≡ 0 → ⊥) → (counts.0 == 0) ≡ is_matched (plain_list values items) from to
  matched_else some =
      let no : (counts.0 == 0) ≡ false = false_from_ne_true (counts.0 == 0) (λ e. some (eqb-true counts.0 0 e)) in
      no ∙ sym (ap (λ b. b && (counts.1 == 0)) no) ∙ matched_by_counts values items from to counts order within is

pub no_depth : (o : Option ℕ) → ((deeper : ℕ) → o ≡ Some deeper → ⊥) → o ≡ None
no_depth None h = refl
no_depth (Some deeper) h = absurd (h deeper refl)

-- ---- the nodes, item by item

starts_step : (depth deeper at : ℕ) (x : PlainItem) (xs : List PlainItem) → depth_past depth x ≡ Some deeper →
    node_starts (siblings depth at (x ∷ xs)) ≡ begun depth at x ++ node_starts (siblings deeper (suc at) xs)
starts_step zero deeper at (Char c marks) xs h = let e : 0 ≡ deeper = cc in ap (λ d. node_starts (siblings d (suc at) xs)) e
starts_step (suc depth) deeper at (Char c marks) xs h = let e : suc depth ≡ deeper = cc in ap (λ d. node_starts (siblings d (suc at) xs)) e
starts_step zero deeper at (Opening kind head marks pre origin generated) xs h = let e : 1 ≡ deeper = cc in ap (λ d. at ∷ node_starts (siblings d (suc at) xs)) e
starts_step (suc depth) deeper at (Opening kind head marks pre origin generated) xs h =
    let e : suc (suc depth) ≡ deeper = cc in ap (λ d. node_starts (siblings d (suc at) xs)) e
starts_step zero deeper at (Closing kind pre) xs h = absurd (cc)
starts_step (suc depth) deeper at (Closing kind pre) xs h = let e : depth ≡ deeper = cc in ap (λ d. node_starts (siblings d (suc at) xs)) e

starts_end : (depth at : ℕ) (x : PlainItem) (xs : List PlainItem) → depth_past depth x ≡ None → node_starts (siblings depth at (x ∷ xs)) ≡ []
starts_end depth at (Char c marks) xs h = absurd (cc)
starts_end depth at (Opening kind head marks pre origin generated) xs h = absurd (cc)
starts_end zero at (Closing kind pre) xs h = refl
starts_end (suc depth) at (Closing kind pre) xs h = absurd (cc)

-- the positions of the nodes from a position of a range on
abbrev pub starts_from : List PlainItem → (depth at to : ℕ) → List ℕ
starts_from items depth at to = node_starts (siblings depth at (take (to - at) (drop at items)))

pub nodes_more : (items : List PlainItem) (depth deeper at to : ℕ) (x : PlainItem) (nodes more : List ℕ) → at < to → slice_get items at ≡ Some x → depth_past depth x ≡ Some deeper →
    more ≡ nodes ++ begun depth at x → more ++ starts_from items deeper (at + 1) to ≡ nodes ++ starts_from items depth at to
nodes_more items depth deeper at to x nodes more less there goes noted =
    let rest = take (to - (at + 1)) (drop (at + 1) items) in
    let e : at + 1 ≡ suc at = omega arith in
    ap (λ l. l ++ starts_from items deeper (at + 1) to) noted
    ∙ append_assoc nodes (begun depth at x) (starts_from items deeper (at + 1) to)
    ∙ ap (λ n. nodes ++ (begun depth at x ++ node_starts (siblings deeper n rest))) e
    ∙ ap (λ l. nodes ++ l) (sym (starts_step depth deeper at x rest goes))
    ∙ ap (λ l. nodes ++ node_starts (siblings depth at l)) (sym (range_first items at to x less there))

pub nodes_stop : (items : List PlainItem) (depth at to : ℕ) (x : PlainItem) (nodes : List ℕ) → at < to → slice_get items at ≡ Some x → depth_past depth x ≡ None →
    nodes ≡ nodes ++ starts_from items depth at to
nodes_stop items depth at to x nodes less there ends =
    sym (append-nil nodes)
    ∙ ap (λ l. nodes ++ l) (sym (starts_end depth at x (take (to - (at + 1)) (drop (at + 1) items)) ends))
    ∙ ap (λ l. nodes ++ node_starts (siblings depth at l)) (sym (range_first items at to x less there))

pub nodes_done : (items : List PlainItem) (depth at to : ℕ) (nodes : List ℕ) → to ≤ at → nodes ≡ nodes ++ starts_from items depth at to
nodes_done items depth at to nodes past =
    let n : 0 ≡ to - at = omega arith in
    sym (append-nil nodes) ∙ ap (λ k. nodes ++ node_starts (siblings depth at (take k (drop at items)))) n

-- they are positions of the range
starts_within : (end depth at : ℕ) (xs : List PlainItem) → at + length xs ≤ end → All (λ n. n < end) (node_starts (siblings depth at xs))
starts_within end depth at [] h = All-nil (λ n. n < end)
starts_within end depth at (Char c marks ∷ xs) h = starts_within end depth (suc at) xs (omega arith)
starts_within end zero at (Opening kind head marks pre origin generated ∷ xs) h =
    All-cons (λ n. n < end) at (node_starts (siblings 1 (suc at) xs)) (omega arith) (starts_within end 1 (suc at) xs (omega arith))
starts_within end (suc depth) at (Opening kind head marks pre origin generated ∷ xs) h = starts_within end (suc (suc depth)) (suc at) xs (omega arith)
starts_within end zero at (Closing kind pre ∷ xs) h = All-nil (λ n. n < end)
starts_within end (suc depth) at (Closing kind pre ∷ xs) h = starts_within end depth (suc at) xs (omega arith)

pub nodes_within : (values : List Value) (items : List Item) (from to : ℕ) (nodes : List ℕ) → from ≤ to → to ≤ length items → nodes ≡ node_starts (nodes_in (plain_list values items) from to) →
    All (λ at. at < length items) nodes
nodes_within values items from to nodes order within is =
    let P = plain_list values items in
    let n = length-map items (plain values) in
    let some : length (take (to - from) (drop from P)) ≡ to - from = length-take-le (to - from) (drop from P) (omega (arith, length-drop from P, n)) in
    subst (All (λ at. at < length items)) (sym is) (starts_within (length items) 0 from (take (to - from) (drop from P)) (omega (arith, some)))

-- ---- there is a node

-- each open node begins before the position
abbrev Below : ℕ → List Open → Type 0
Below at [] = Unit {0}
Below at (node ∷ outer) = (node.from < at) × Below at outer

below_more : (at : ℕ) (opens : List Open) → Below at opens → Below (suc at) opens
below_more at [] h = tt
below_more at (node ∷ outer) h = let first = h.0 in (omega arith, below_more at outer h.1)

below_with : (at : ℕ) (x : PlainItem) (opens : List Open) → Below at opens → Below (suc at) (opens_with x at opens)
below_with at (Char c marks) opens h = below_more at opens h
below_with at (Opening kind head marks pre origin generated) opens h = (omega arith, below_more at opens h)
below_with at (Closing kind pre) [] h = tt
below_with at (Closing kind pre) (node ∷ outer) h = below_more at outer h.1

below_after : (items : List PlainItem) (at end : ℕ) (opens : List Open) → Below at opens → end ≡ at + length items → Below end (opens_after opens at items)
below_after [] at end opens h e = let same : at ≡ end = omega arith in subst (λ n. Below n opens) same h
below_after (x ∷ items) at end opens h e = below_after items (suc at) end (opens_with x at opens) (below_with at x opens h) (omega arith)

first_below : (at : ℕ) (opens : List Open) (kind : Kind) (kinds : List Kind) → Below at opens → map (λ (node : Open). node.kind) opens ≡ kind ∷ kinds → first_from opens < at
first_below at [] kind kinds h e = absurd (cc)
first_below at (node ∷ outer) kind kinds h e = h.0

begins_one : (items : List PlainItem) (from to : ℕ) (x : PlainItem) (rest : List PlainItem) → Lawful items → from < to → to ≤ length items → slice_get items from ≡ Some x →
    is_content items from ≡ false → is_unmatched items from to from ≡ false → node_starts (siblings 0 from (x ∷ rest)) ≢ []
begins_one items from to (Opening kind head marks pre origin generated) rest lawful less within there outside matched = λ none. absurd (cc)
begins_one items from to (Char c marks) rest lawful less within there outside matched =
    let x = Char c marks in
    let s = slice_get-split items from x there in
    let p = after_parts (take from items) (x ∷ drop (suc from) items) start finish (ap (after start) (sym s.0) ∙ after_from_Lawful items lawful) in
    let q = joined-ok 1 (step p.0 x) (λ next. after next (drop (suc from) items)) finish p.2 in
    let may = (if_ok (is_content_branch (top (p.0).stack)) _ _ q.0 q.1).0 in
    let holds : is_content items from ≡ true = ap (λ stack. is_content_branch (top stack)) (stack_at-after items from p.0 p.1) ∙ may in
    absurd (true≢false (sym holds ∙ outside))
begins_one items from to (Closing kind pre) rest lawful less within there outside matched =
    let x = Closing kind pre in
    let s = slice_get-split items from x there in
    let p = after_parts (take from items) (x ∷ drop (suc from) items) start finish (ap (after start) (sym s.0) ∙ after_from_Lawful items lawful) in
    let q = joined-ok 1 (step p.0 x) (λ next. after next (drop (suc from) items)) finish p.2 in
    let stack = stack_at-after items from p.0 p.1 ∙ (closed_before (p.0).stack (p.0).seen kind q.0 q.1).0 in
    let low = first_below from (opens_at items from) kind (q.0).stack (below_after (take from items) 0 from [] tt (omega (arith, s.1))) stack in
    let other : partner items from ≡ first_from (opens_at items from) = ap (λ o. Rattle.model_items.specs.Offsets.partner_of o items from) there in
    let in_range = and_parts (nat_le from (partner items from)) (nat_lt (partner items from) to) (not-false _ matched) in
    let high = leb-true from (partner items from) in_range.0 in
    absurd (omega (arith, low, other, high))

-- In a lawful list a range of whole nodes that stand in no branch of content has one.
pub some_node : (items : List PlainItem) (from to : ℕ) → Lawful items → from < to → to ≤ length items → is_content items from ≡ false → is_matched items from to ≡ true → node_starts (nodes_in items from to) ≢ []
some_node items from to lawful less within outside matched =
    let there = there_is items from (omega arith) in
    let rest = take (to - (from + 1)) (drop (from + 1) items) in
    let n : to - from ≡ suc (to - (from + 1)) = omega arith in
    let all : list_any (is_unmatched items from to) (range_with_len from (suc (to - (from + 1)))) ≡ false =
    ap (λ k. list_any (is_unmatched items from to) (range_with_len from k)) (sym n) ∙ not-true _ matched in
    let first = (or_parts (is_unmatched items from to from) _ all).0 in
    subst (λ (l : List PlainItem). node_starts (siblings 0 from l) ≢ []) (sym (range_first items from to there.0 less there.1))
    (begins_one items from to there.0 rest lawful less within there.1 outside first)

-- ---- which ranges may be wrapped

pub whole_is : (items : List PlainItem) (from to : ℕ) → from < to → to ≤ length items → is_whole_nodes items from to ≡ (not (is_content items from) && is_matched items from to)
whole_is items from to less within =
    let one : nat_lt from to ≡ true = grind (arith, nat_tests) in
    let two : nat_le to (length items) ≡ true = grind (arith, nat_tests) in
    let rest = not (is_content items from) && is_matched items from to in
    ap (λ b. b && (nat_le to (length items) && rest)) one ∙ ap (λ b. b && rest) two

-- what is known of a range that may be wrapped
pub good_parts : (items : List PlainItem) (from to : ℕ) → is_bad_wrap items from to ≡ false → (is_content items from ≡ false) × (is_matched items from to ≡ true)
good_parts items from to h =
    let bad = or_parts (not (is_whole_nodes items from to)) _ h in
    let whole = and_parts (nat_lt from to) _ (not-false _ bad.0) in
    let inside = and_parts (nat_le to (length items)) _ whole.1 in
    let parts = and_parts (not (is_content items from)) _ inside.1 in
    (not-true _ parts.0, parts.1)
