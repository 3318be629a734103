-- A removal leaves a lawful list lawful.
use Rattle.std.specs.Prelude.{filter, slice_get}
use Rattle.std.specs.List.{range_with_len, list_any}
use Rattle.std.proofs.Common.{◌≡◌, inl, inr, ℕ, suc, ◌+◌, ◌-◌, ◌<◌, ◌≤◌, Bool, true, false, cond, not, ◌&&◌, if◌then◌else◌, nat_lt, nat_le, List, [], ◌∷◌, ◌++◌, length, map, take, drop, Option, Some, None, Ok, Err, refl, sym, ap, ◌∙◌, subst, arith, zero-add, length-append, length-drop}
use Rattle.std.proofs.lemmas.Bool.{or_parts, and_parts, leb-false, ltb-false, cases_Bool}
use Rattle.std.proofs.lemmas.List.{take-append-drop, append_assoc, length-take-le}
use Rattle.ve_kinds.specs.declared.kind.Kind.{Kind}
use Rattle.ve_base.specs.declared.head.Head.{Head}
use Rattle.ve_base.specs.declared.marks.Mark.{Mark}
use Rattle.model_items.specs.declared.plain_item.PlainItem.{PlainItem}
use Rattle.model_items.specs.declared.plain_item.PlainItem.TheVariants.{Char, Opening, Closing}
use Rattle.ve_kinds.specs.Table.{kind_same, is_content_branch}
use Rattle.model_items.proofs.SameLemmas.{Means-kind_same}
use Rattle.model_items.specs.declared.law_fault.LawFault.{LawFault}
use Rattle.model_items.specs.declared.law_fault.LawFault.TheVariants.{Unlawful}
use Rattle.model_items.specs.Law.{State, start, finish, step, outcome_then, after, Lawful}
use Rattle.model_items.proofs.LawLemmas.{Ok-same, joined-ok, after_parts, after_whole, after_from_Lawful, piece_fits, closed_before}
use Rattle.model_items.specs.Tree.{Open, opens_after, length_to_close}
use Rattle.model_change.specs.Transaction.{Transaction, edited}
use Rattle.model_edit.specs.Causes.{BuildCause}
use Rattle.model_edit.specs.Brackets.{closing_of, is_internal_bracket}
use Rattle.model_items.specs.Offsets.{is_bad_span, partner, is_unmatched, unmatched_places}
use Rattle.model_edit.specs.Edits.{Edit, Change, Set, transaction_of, substituted_from}
use Rattle.model_edit_law.proofs.OrderLemmas.{Rising, Rising-within, Rising-filter, InOrder-Rising}
use Rattle.model_edit_law.proofs.EditLemmas.{edited-transaction_from, edited-two, take-whole, drop-whole}
use Rattle.model_edit_law.proofs.BracketLemmas.{state_of, fits-after, kinds_after, Closes, closes, slice_get-at, partner-opening, HoldsSame-itself}
use Rattle.model_edit_law.proofs.NodeLemmas.{opened_state, HoldsSame-content, content_not_first}
use Rattle.model_edit.specs.Remove.{is_bad_removal, Join, join_by, join_at, removal_edits, removal}
use Rattle.model_edit_law.proofs.RemoveLemmas.{if_ok_else}
use Rattle.model_edit_law.proofs.RemoveKeptLemmas.{Stay, place_of, item_of, stays, stays_lead, through_none, first_stay, last_internal, picked, Both, Outer, walk}

-- edits from a later position on leave the first item
skip_one : (edits : List Edit) (at end : ℕ) (x : PlainItem) (items : List PlainItem) → Rising (at + 1) end edits →
    substituted_from at (x ∷ items) edits ≡ x ∷ substituted_from (at + 1) items edits
skip_one [] at end x items h = refl
skip_one (Change place count inserted ∷ edits) at end x items h =
    let low = h.0 in
    let e : place - at ≡ suc (place - (at + 1)) = omega arith in
    ap (λ n. take n (x ∷ items) ++ (inserted ++ substituted_from (place + count) (drop count (drop n (x ∷ items))) edits)) e
skip_one (Set place name to ∷ edits) at end x items h = absurd h

skip_all : (prefix : List PlainItem) (edits : List Edit) (at here end : ℕ) (items : List PlainItem) → here ≡ at + length prefix → Rising here end edits →
    substituted_from at (prefix ++ items) edits ≡ prefix ++ substituted_from here items edits
skip_all [] edits at here end items e h = let z : at ≡ here = omega arith in ap (λ n. substituted_from n items edits) z
skip_all (x ∷ prefix) edits at here end items e h =
    skip_one edits at end x (prefix ++ items) (Rising-within here (at + 1) end end edits (omega arith) (omega arith) h)
    ∙ ap (λ v. x ∷ v) (skip_all prefix edits (at + 1) here end items (omega arith) h)

-- what is not removed one by one
picked_stays : (u : ℕ → Bool) (items rest : List PlainItem) (at : ℕ) →
    substituted_from at (items ++ rest) (map (λ n. Change n 1 []) (filter (λ n. not (u n)) (range_with_len at (length items)))) ≡ picked u at items ++ rest
picked_stays u [] rest at = refl
picked_stays u (x ∷ items) rest at =
    let E = filter (λ n. not (u n)) (range_with_len (at + 1) (length items)) in
    let L = items ++ rest in
    let G = picked u (at + 1) items in
    let later = picked_stays u items rest (at + 1) in
    let P : Bool → Type 0 = λ b. substituted_from at (x ∷ L) (map (λ n. Change n 1 []) (cond (not b) (at ∷ E) E)) ≡ cond b (x ∷ G) G ++ rest in
    elim (cases_Bool (u at)) [
      | inl yes_ ↦ subst P (sym yes_)
          (skip_one (map (λ n. Change n 1 []) E) at (at + 1 + length items) x L (Rising-filter (λ n. not (u n)) (at + 1) (length items)) ∙ ap (λ v. x ∷ v) later)
      | inr no_ ↦ subst P (sym no_)
          (let z : at - at ≡ 0 = omega arith in
          ap (λ n. take n (x ∷ L) ++ ([] ++ substituted_from (at + 1) (drop 1 (drop n (x ∷ L))) (map (λ n. Change n 1 []) E))) z ∙ later)
    ]

-- nodes that opened before a position
abbrev Before : ℕ → List Open → Type 0
Before at [] = Unit {0}
Before at (n ∷ nodes) = (n.from < at) × Before at nodes

Before-later : (at at' : ℕ) (nodes : List Open) → at ≤ at' → Before at nodes → Before at' nodes
Before-later at at' [] h b = tt
Before-later at at' (n ∷ nodes) h b = let f = b.0 in (omega arith, Before-later at at' nodes h b.1)

Before-after : (items : List PlainItem) (nodes : List Open) (at end : ℕ) → end ≡ at + length items → Before at nodes → Before end (opens_after nodes at items)
Before-after [] nodes at end e b = Before-later at end nodes (omega arith) b
Before-after (Char c marks ∷ items) nodes at end e b = Before-after items nodes (suc at) end (omega arith) (Before-later at (suc at) nodes (omega arith) b)
Before-after (Opening kind head marks pre origin generated ∷ items) nodes at end e b =
    Before-after items (record { kind = kind; from = at } ∷ nodes) (suc at) end (omega arith) (omega arith, Before-later at (suc at) nodes (omega arith) b)
Before-after (Closing kind pre ∷ items) nodes at end e b =
    Before-after items (drop 1 nodes) (suc at) end (omega arith) (fewer nodes b)
  where
    fewer : (nodes : List Open) → Before at nodes → Before (suc at) (drop 1 nodes)
    fewer [] b = tt
    fewer (n ∷ nodes) b = Before-later at (suc at) nodes (omega arith) b.1

Outer-Before : (whole : List PlainItem) (y : PlainItem) (rest : List PlainItem) (from to : ℕ) (c : ℕ → Bool) (nodes : List Open) → Before from nodes → Outer whole y rest from to c nodes
Outer-Before whole y rest from to c [] b = tt
Outer-Before whole y rest from to c (n ∷ nodes) b = (inl b.0, Outer-Before whole y rest from to (λ d. c (suc d)) nodes b.1)

-- a lawful list in three parts, of which the second is a range that may be removed
record Parts (items : List PlainItem) (from to : ℕ) : Type 0 where
  pub prefix : List PlainItem
  pub range : List PlainItem
  pub next : PlainItem
  pub suffix : List PlainItem
  pub whole : items ≡ prefix ++ (range ++ next ∷ suffix)
  pub begins : from ≡ length prefix
  pub ends : to ≡ from + length range
  pub free : list_any is_internal_bracket range ≡ false
  pub before : State
  pub later : State
  pub reached : after start prefix ≡ Ok before
  pub through : after before range ≡ Ok later
  pub last : after later (next ∷ suffix) ≡ Ok finish

parts_of : (items : List PlainItem) (from to : ℕ) → Lawful items → from < to → to ≤ length items → list_any is_internal_bracket (take (to - from) (drop from items)) ≡ false → Parts items from to
parts_of items from to lawful low high free =
    split (drop (to - from) (drop from items)) refl
  where
    length_prefix : length (take from items) ≡ from
    length_prefix = length-take-le from items (omega arith)

    length_range : length (take (to - from) (drop from items)) ≡ to - from
    length_range = length-take-le (to - from) (drop from items) (omega (arith, length-drop from items))

    none : (s : State) (range : List PlainItem) → 0 < length range → after start (take from items) ≡ Ok s → after s range ≡ Ok finish → list_any is_internal_bracket range ≡ false → ⊥
    none s [] h g r f = absurd (omega arith)
    none s (x ∷ range) h g r f = last_internal x range s (fits-after (take from items) start s g refl) f r

    split : (suffix : List PlainItem) → drop (to - from) (drop from items) ≡ suffix → Parts items from to
    split suffix e =
        let prefix = take from items in
        let range = take (to - from) (drop from items) in
        let w : items ≡ prefix ++ (range ++ suffix) =
        sym (take-append-drop from items) ∙ ap (λ v. prefix ++ v) (sym (take-append-drop (to - from) (drop from items)) ∙ ap (λ v. range ++ v) e) in
        let p = after_parts prefix (range ++ suffix) start finish (ap (after start) (sym w) ∙ after_from_Lawful items lawful) in
        let q = after_parts range suffix p.0 finish p.2 in
        by suffix w p.0 q.0 p.1 q.1 q.2
      where
        by : (suffix : List PlainItem) → items ≡ take from items ++ (take (to - from) (drop from items) ++ suffix) → (s t : State) → after start (take from items) ≡ Ok s →
            after s (take (to - from) (drop from items)) ≡ Ok t → after t suffix ≡ Ok finish → Parts items from to
        by [] w s t g r l =
            absurd (none s (take (to - from) (drop from items)) (let e = length_range in omega arith) g (r ∙ l) free)
        by (y ∷ suffix) w s t g r l =
            record {
              prefix = take from items;
              range = take (to - from) (drop from items);
              next = y;
              suffix = suffix;
              whole = w;
              begins = sym length_prefix;
              ends = (let e = length_range in omega arith);
              free = free;
              before = s;
              later = t;
              reached = g;
              through = r;
              last = l;
            }

-- the walk over the whole range
range_walk : (items : List PlainItem) (from to : ℕ) (p : Parts items from to) → Both (is_unmatched items from to) from p.range (stays 0 from p.range)
range_walk items from to p =
    walk items p.next p.suffix from to p.range p.prefix from [] (opens_after [] 0 p.prefix) p.before p.later
    (record {
      parts = p.whole;
      here = p.begins;
      ends = p.ends;
      low = omega arith;
      opens = refl;
      range = tt;
      others = Outer-Before items p.next p.suffix from to _ (opens_after [] 0 p.prefix) (Before-after p.prefix [] 0 from (p.begins ∙ sym (zero-add (length p.prefix))) tt);
      kinds = kinds_after p.prefix 0 [] start p.before p.reached refl;
      leads = p.through;
    })
    refl

stay_leads : (items : List PlainItem) (from to : ℕ) (p : Parts items from to) → after p.before (map item_of (stays 0 from p.range)) ≡ Ok p.later
stay_leads items from to p = stays_lead p.range from [] (p.before).stack (p.before).seen p.later refl p.free p.through

parts_lawful : (items : List PlainItem) (from to : ℕ) (p : Parts items from to) → Lawful items → Lawful (p.prefix ++ (p.range ++ p.next ∷ p.suffix))
parts_lawful items from to p lawful = subst Lawful p.whole lawful

-- the matched items go one by one
matched_lawful : (items : List PlainItem) (from to : ℕ) (p : Parts items from to) → Lawful items →
    Lawful (edited (transaction_of items (removal_edits items from to None)) items)
matched_lawful items from to p lawful =
    let u = is_unmatched items from to in
    let Z = p.next ∷ p.suffix in
    let kept = map item_of (stays 0 from p.range) in
    let f : ℕ → Bool = λ at. not (u at) in
    let edits : List Edit = map (λ at. Change at 1 []) (filter f (range_with_len from (to - from))) in
    let edits' : List Edit = map (λ at. Change at 1 []) (filter f (range_with_len from (length p.range))) in
    let ends = p.ends in
    let begins = p.begins in
    let count : to - from ≡ length p.range = omega arith in
    let same : edits ≡ edits' = ap (λ (n : ℕ). map (λ at. Change at 1 []) (filter f (range_with_len from n))) count in
    let lengths : length items ≡ length p.prefix + (length p.range + suc (length p.suffix)) =
    ap length p.whole ∙ omega (arith, length-append p.prefix (p.range ++ Z), length-append p.range Z) in
    let rise' : Rising from (from + length p.range) edits' = Rising-filter f from (length p.range) in
    let rise : Rising 0 (0 + length items) edits' = Rising-within from 0 (from + length p.range) (0 + length items) edits' (omega arith) (omega arith) rise' in
    let gives : edited (transaction_of items edits) items ≡ p.prefix ++ (kept ++ Z) =
    ap (λ v. edited (transaction_of items v) items) same
    ∙ edited-transaction_from 0 items edits' (InOrder-Rising 0 (0 + length items) edits' rise)
    ∙ ap (λ v. substituted_from 0 v edits') p.whole
    ∙ skip_all p.prefix edits' 0 from (from + length p.range) (p.range ++ Z) (omega arith) rise'
    ∙ ap (λ v. p.prefix ++ v) (picked_stays u p.range Z from ∙ ap (λ v. v ++ Z) (range_walk items from to p).1) in
    subst Lawful (sym gives)
    (piece_fits p.prefix p.range Z kept p.before p.later (parts_lawful items from to p lawful) p.reached p.through (stay_leads items from to p))

-- what a join tells
record Joining (first second : Option PlainItem) (closing : ℕ) (j : Join) : Type 0 where
  pub pre : List ℕ
  pub head : Head
  pub marks : List Mark
  pub pre' : List ℕ
  pub origin : Option ℕ
  pub generated : Bool
  pub ends : first ≡ Some (Closing j.first pre)
  pub begins : second ≡ Some (Opening j.second head marks pre' origin generated)
  pub at : j.second_closing ≡ closing
  pub content : is_content_branch j.first ≡ true
  pub content' : is_content_branch j.second ≡ true

joining : (first second : Option PlainItem) (closing : ℕ) (j : Join) → join_by first second closing ≡ Some j → Joining first second closing j
joining (Some (Closing k pre)) (Some (Opening l head marks pre' origin generated)) closing j h = chosen (is_content_branch k && is_content_branch l) refl h
  where
    J : Join
    J = record { first = k; second = l; second_closing = closing }

    some_same : {x y : Join} → ◌≡◌ {A = Option Join} (Some x) (Some y) → x ≡ y
    some_same h = cc

    chosen : (b : Bool) → (is_content_branch k && is_content_branch l) ≡ b → (if b then Some (record { first = k; second = l; second_closing = closing }) else None) ≡ Some j →
        Joining (Some (Closing k pre)) (Some (Opening l head marks pre' origin generated)) closing j
    chosen true e h =
        let c = and_parts (is_content_branch k) _ e in
        subst (Joining (Some (Closing k pre)) (Some (Opening l head marks pre' origin generated)) closing) (some_same h)
        (record { pre = pre; head = head; marks = marks; pre' = pre'; origin = origin; generated = generated; ends = refl; begins = refl; at = refl; content = c.0; content' = c.1 })
    chosen false e h = cc
joining None second closing j h = cc
joining (Some (Char c marks)) second closing j h = cc
joining (Some (Opening k head marks pre origin generated)) second closing j h = cc
joining (Some (Closing k pre)) None closing j h = cc
joining (Some (Closing k pre)) (Some (Char c marks)) closing j h = cc
joining (Some (Closing k pre)) (Some (Closing l pre')) closing j h = cc

some_item : {x y : PlainItem} → ◌≡◌ {A = Option PlainItem} (Some x) (Some y) → x ≡ y
some_item h = cc

-- the two states round a range of which a closing and an opening stay, and where the second branch
-- ends
record Meeting (items : List PlainItem) (from to : ℕ) (p : Parts items from to) (j : Join) : Type 0 where
  pub base : List Kind
  pub before : p.before ≡ state_of (j.first ∷ base) (p.before).seen
  pub later : p.later ≡ state_of (j.second ∷ base) (p.before).seen
  pub content : is_content_branch j.first ≡ true
  pub content' : is_content_branch j.second ≡ true
  pub closed : Closes [] base j.second (p.next ∷ p.suffix)
  pub ends : j.second_closing ≡ to + length closed.inside

meeting : (items : List PlainItem) (from to : ℕ) (p : Parts items from to) (j : Join) (all : List Stay) → stays 0 from p.range ≡ all → join_at items (map place_of all) ≡ Some j →
    Meeting items from to p j
meeting items from to p j [] e h = cc
meeting items from to p j (a ∷ []) e h = cc
meeting items from to p j (a ∷ b ∷ c ∷ all) e h = cc
meeting items from to p j (a ∷ b ∷ []) e h =
    let Z = p.next ∷ p.suffix in
    let r = joining (slice_get items a.place) (slice_get items b.place) (partner items b.place) j h in
    let f = first_stay p.range 0 from a (b ∷ []) refl e in
    let g = first_stay f.suffix 0 (a.place + 1) b [] refl f.next in
    let begins = p.begins in
    let af = f.stands in
    let bg = g.stands in
    -- the list, cut before each of the two
    let cut1 : items ≡ (p.prefix ++ f.prefix) ++ a.item ∷ (f.suffix ++ Z) =
    p.whole ∙ ap (λ v. p.prefix ++ (v ++ Z)) f.whole ∙ ap (λ v. p.prefix ++ v) (append_assoc f.prefix (a.item ∷ f.suffix) Z)
    ∙ sym (append_assoc p.prefix f.prefix (a.item ∷ (f.suffix ++ Z))) in
    let prefix2 = (p.prefix ++ f.prefix) ++ a.item ∷ g.prefix in
    let cut2 : items ≡ prefix2 ++ b.item ∷ (g.suffix ++ Z) =
    cut1 ∙ ap (λ v. (p.prefix ++ f.prefix) ++ a.item ∷ v) (ap (λ v. v ++ Z) g.whole ∙ append_assoc g.prefix (b.item ∷ g.suffix) Z)
    ∙ sym (append_assoc (p.prefix ++ f.prefix) (a.item ∷ g.prefix) (b.item ∷ (g.suffix ++ Z))) in
    let l1 : a.place ≡ length (p.prefix ++ f.prefix) = omega (arith, length-append p.prefix f.prefix) in
    let l2 : b.place ≡ length prefix2 = omega (arith, length-append (p.prefix ++ f.prefix) (a.item ∷ g.prefix), length-append p.prefix f.prefix) in
    let at1 : slice_get items a.place ≡ Some a.item = (λ i. slice_get (cut1 i) (l1 i)) ∙ slice_get-at (p.prefix ++ f.prefix) a.item (f.suffix ++ Z) in
    let at2 : slice_get items b.place ≡ Some b.item = (λ i. slice_get (cut2 i) (l2 i)) ∙ slice_get-at prefix2 b.item (g.suffix ++ Z) in
    let ia : a.item ≡ Closing j.first r.pre = some_item (sym at1 ∙ r.ends) in
    let x = Opening j.second r.head r.marks r.pre' r.origin r.generated in
    let ib : b.item ≡ x = some_item (sym at2 ∙ r.begins) in
    -- the states
    let leads : after p.before (Closing j.first r.pre ∷ x ∷ []) ≡ Ok p.later =
    (λ i. after p.before (sym ia i ∷ sym ib i ∷ [])) ∙ ap (λ v. after p.before (map item_of v)) (sym e) ∙ stay_leads items from to p in
    let u = joined-ok 1 (step p.before (Closing j.first r.pre)) (λ next. after next (x ∷ [])) p.later leads in
    let v = joined-ok 1 (step u.0 x) (λ next. after next []) p.later u.2 in
    let cb = closed_before (p.before).stack (p.before).seen j.first u.0 u.1 in
    let os = opened_state u.0 v.0 j.second (content_not_first j.second r.content') v.1 in
    let lat : p.later ≡ state_of (j.second ∷ (u.0).stack) (p.before).seen =
    sym (Ok-same {E = LawFault} v.0 p.later v.2) ∙ os.2 ∙ ap (state_of (j.second ∷ (u.0).stack)) (sym cb.1) in
    let c = closes Z [] (u.0).stack j.second p.later (ap (λ (s : State). s.stack) lat) p.last in
    -- where the second branch ends
    let n1 = partner-opening prefix2 j.second r.head r.marks r.pre' r.origin r.generated (g.suffix ++ Z) in
    let n2 : partner items b.place ≡ length prefix2 + length_to_close 0 (g.suffix ++ Z) =
    (λ i. partner ((cut2 ∙ ap (λ y. prefix2 ++ y ∷ (g.suffix ++ Z)) ib) i) (l2 i)) ∙ n1 in
    let n3 = through_none g.suffix 0 (b.place + 1) 0 Z refl g.next in
    let n4 : length_to_close 0 Z ≡ suc (length c.inside) = ap (length_to_close 0) c.whole ∙ c.ends c.rest in
    let n5 : length_to_close (0 + 0) (g.suffix ++ Z) ≡ length_to_close 0 (g.suffix ++ Z) = refl in
    let n6 : length p.range ≡ length f.prefix + suc (length g.prefix + suc (length g.suffix)) =
    ap length f.whole ∙ length-append f.prefix (a.item ∷ f.suffix) ∙ ap (λ y. length f.prefix + suc y) (ap length g.whole ∙ length-append g.prefix (b.item ∷ g.suffix)) in
    let n7 = p.ends in
    let n8 = r.at in
    record {
      base = (u.0).stack;
      before = (λ i. state_of (cb.0 i) (p.before).seen);
      later = lat;
      content = r.content;
      content' = r.content';
      closed = c;
      ends = omega arith;
    }

-- one branch is joined to another
joined_alike : (items : List PlainItem) (from to : ℕ) (p : Parts items from to) (j : Join) → Lawful items → Meeting items from to p j → j.first ≡ j.second →
    Lawful (edited (transaction_of items (Change from (to - from) [] ∷ [])) items)
joined_alike items from to p j lawful m same =
    let Z = p.next ∷ p.suffix in
    let ends = p.ends in
    let begins = p.begins in
    let lengths : length items ≡ length p.prefix + (length p.range + suc (length p.suffix)) =
    ap length p.whole ∙ omega (arith, length-append p.prefix (p.range ++ Z), length-append p.range Z) in
    let skip : from - 0 ≡ length p.prefix = omega arith in
    let count : to - from ≡ length p.range = omega arith in
    let rest : drop (from - 0) items ≡ p.range ++ Z = (λ i. drop (skip i) (p.whole i)) ∙ drop-whole p.prefix (p.range ++ Z) in
    let left : take (from - 0) items ≡ p.prefix = (λ i. take (skip i) (p.whole i)) ∙ take-whole p.prefix (p.range ++ Z) in
    let right : drop (to - from) (drop (from - 0) items) ≡ Z = (λ i. drop (count i) (rest i)) ∙ drop-whole p.range Z in
    let gives : edited (transaction_of items (Change from (to - from) [] ∷ [])) items ≡ p.prefix ++ Z =
    edited-transaction_from 0 items (Change from (to - from) [] ∷ []) (omega arith, omega arith) ∙ (λ i. left i ++ ([] ++ right i)) in
    let states : p.before ≡ p.later = m.before ∙ ap (λ k. state_of (k ∷ m.base) (p.before).seen) same ∙ sym m.later in
    subst Lawful (sym gives)
    (piece_fits p.prefix p.range Z [] p.before p.later (parts_lawful items from to p lawful) p.reached p.through (ap Ok states))

-- and its end gets the kind of the first
joined_changed : (items : List PlainItem) (from to : ℕ) (p : Parts items from to) (j : Join) → Lawful items → Meeting items from to p j →
    Lawful (edited (transaction_of items (Change from (to - from) [] ∷ Change j.second_closing 1 (closing_of j.first ∷ []) ∷ [])) items)
joined_changed items from to p j lawful m =
    let Z = p.next ∷ p.suffix in
    let c = m.closed in
    let old = Closing j.second c.pre in
    let new = closing_of j.first in
    let ends = p.ends in
    let begins = p.begins in
    let place = m.ends in
    let five : items ≡ p.prefix ++ (p.range ++ (c.inside ++ ((old ∷ []) ++ c.rest))) = p.whole ∙ ap (λ v. p.prefix ++ (p.range ++ v)) c.whole in
    let two = edited-two p.prefix p.range c.inside (old ∷ []) c.rest [] (new ∷ []) items from (to - from) j.second_closing 1 five begins (omega arith) (omega arith) refl in
    let seen = (p.before).seen in
    let a = state_of (j.first ∷ m.base) seen in
    let b = state_of (j.second ∷ m.base) seen in
    let u = state_of m.base seen in
    let closes_with : (k : Kind) (pre : List ℕ) → after (state_of (k ∷ m.base) seen) (Closing k pre ∷ []) ≡ Ok u =
    λ k pre. ap (λ b. outcome_then 1 (if b then Ok u else Err (Unlawful 0)) (λ next. Ok next)) (Means-kind_same.itself k) in
    let old_inside : after p.later c.inside ≡ Ok b = ap (λ v. after v c.inside) m.later ∙ c.kept j.second m.base seen (HoldsSame-itself j.second) (omega arith) in
    let new_inside : after p.before c.inside ≡ Ok a = ap (λ v. after v c.inside) m.before ∙ c.kept j.first m.base seen (HoldsSame-content j.second j.first m.content' m.content) (omega arith) in
    let old_end : after p.later (c.inside ++ old ∷ []) ≡ Ok u = after_whole c.inside (old ∷ []) p.later b u old_inside (closes_with j.second c.pre) in
    let new_end : after p.before (c.inside ++ new ∷ []) ≡ Ok u = after_whole c.inside (new ∷ []) p.before a u new_inside (closes_with j.first []) in
    let old_all : after p.before (p.range ++ (c.inside ++ old ∷ [])) ≡ Ok u = after_whole p.range (c.inside ++ old ∷ []) p.before p.later u p.through old_end in
    let was : items ≡ p.prefix ++ ((p.range ++ (c.inside ++ old ∷ [])) ++ c.rest) =
    five ∙ ap (λ v. p.prefix ++ v) (ap (λ v. p.range ++ v) (sym (append_assoc c.inside (old ∷ []) c.rest)) ∙ sym (append_assoc p.range (c.inside ++ old ∷ []) c.rest)) in
    let gives : edited (transaction_of items (Change from (to - from) [] ∷ Change j.second_closing 1 (new ∷ []) ∷ [])) items ≡ p.prefix ++ ((c.inside ++ new ∷ []) ++ c.rest) =
    two.0 ∙ ap (λ v. p.prefix ++ v) (sym (append_assoc c.inside (new ∷ []) c.rest)) in
    subst Lawful (sym gives)
    (piece_fits p.prefix (p.range ++ (c.inside ++ old ∷ [])) c.rest (c.inside ++ new ∷ []) p.before u (subst Lawful was lawful) p.reached old_all new_end)

join_lawful : (items : List PlainItem) (from to : ℕ) (p : Parts items from to) (j : Join) → Lawful items → Meeting items from to p j →
    Lawful (edited (transaction_of items (removal_edits items from to (Some j))) items)
join_lawful items from to p j lawful m =
    let P : Bool → Type 0 = λ b. Lawful (edited (transaction_of items (Change from (to - from) [] ∷ (if b then [] else Change j.second_closing 1 (closing_of j.first ∷ []) ∷ []))) items) in
    elim (cases_Bool (kind_same j.first j.second)) [
      | inl same ↦ subst P (sym same) (joined_alike items from to p j lawful m (Means-kind_same.equal j.first j.second same))
      | inr other ↦ subst P (sym other) (joined_changed items from to p j lawful m)
    ]

pub removal_lawful : (items : List PlainItem) (from to : ℕ) (t : Transaction) → Lawful items → removal items from to ≡ Ok t → Lawful (edited t items)
removal_lawful items from to t lawful h =
    let q = if_ok_else (is_bad_removal items from to) _ _ t h in
    let bad = or_parts (is_bad_span items from to) _ q.0 in
    let a = or_parts (nat_le to from) _ bad.0 in
    let b = or_parts (nat_lt (length items) to) _ a.1 in
    let low = leb-false to from a.0 in
    let high = ltb-false (length items) to b.0 in
    let p = parts_of items from to lawful (omega arith) (omega arith) bad.1 in
    let ends = p.ends in
    let count : length p.range ≡ to - from = omega arith in
    let u = is_unmatched items from to in
    let ns : map place_of (stays 0 from p.range) ≡ unmatched_places items from to =
    sym (range_walk items from to p).0 ∙ ap (λ n. filter u (range_with_len from n)) count in
    let made = Ok-same {E = BuildCause} (transaction_of items (removal_edits items from to (join_at items (unmatched_places items from to)))) t q.1 in
    subst (λ v. Lawful (edited v items)) made (by p (join_at items (unmatched_places items from to)) (ap (join_at items) ns))
  where
    by : (p : Parts items from to) (o : Option Join) → join_at items (map place_of (stays 0 from p.range)) ≡ o → Lawful (edited (transaction_of items (removal_edits items from to o)) items)
    by p None e = matched_lawful items from to p lawful
    by p (Some j) e = join_lawful items from to p j lawful (meeting items from to p j (stays 0 from p.range) refl e)
