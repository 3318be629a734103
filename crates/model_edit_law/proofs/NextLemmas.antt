-- A caret stays in its content branch, and stops only at its ends.
use Rattle.std.specs.Prelude.{slice_get}
use Rattle.std.proofs.Common.{◌≡◌, ℕ, zero, suc, ◌+◌, ◌-◌, ◌≤◌, Bool, true, false, ◌||◌, List, [], ◌∷◌, ◌++◌, length, map, reverse, take, drop, Option, Some, None, option_map, Ok, refl, sym, ap, ◌∙◌, subst, arith, take-add, take-append-drop, length-append, length-drop}
use Rattle.std.proofs.lemmas.Bool.{and_parts}
use Rattle.std.proofs.lemmas.Grind.{reverse_onto}
use Rattle.std.proofs.lemmas.List.{reverse-append, reverse-reverse, length-reverse, length-take-le}
use Rattle.ve_kinds.specs.declared.kind.Kind.{Kind}
use Rattle.ve_kinds.specs.declared.kind.Kind.TheVariants.{TransBlock, AlienBlock, Br, Img, Ref, TransInline, AlienInline}
use Rattle.ve_kinds.specs.Table.{may_hold, block_leaves, is_among, is_content_branch, is_leaf, is_inline_leaf}
use Rattle.ve_kinds.proofs.LawLemmas.{leaves_are_empty}
use Rattle.model_items.specs.declared.plain_item.PlainItem.{PlainItem}
use Rattle.model_items.specs.declared.plain_item.PlainItem.TheVariants.{Char, Opening, Closing}
use Rattle.model_items.specs.declared.law_fault.LawFault.{LawFault}
use Rattle.model_items.specs.Law.{State, start, finish, top, may_open, step, outcome_then, after, Lawful}
use Rattle.model_items.specs.Tree.{Open, opens_with, opens_after}
use Rattle.model_items.proofs.LawLemmas.{if_ok, Ok-same, opened_before, closed_before, joined-ok, after_parts, after_whole, after_from_Lawful}
use Rattle.model_edit.specs.declared.selection.By.{By}
use Rattle.model_edit.specs.declared.selection.Dir.{Dir}
use Rattle.model_edit.specs.declared.selection.Dir.TheVariants.{Back, Ahead}
use Rattle.model_items.specs.Offsets.{opens_at, is_content, is_opening, is_closing, passes}
use Rattle.model_edit.specs.Next.{first_run, run_before, run_from, boundaries, last_below, first_above, boundary_at, next_ahead, next_back, cutting, next}
use Rattle.model_edit_law.specs.NextLaws.{IsFarther, IsEnd, CaretGoes, CaretStaysInBranch, CaretStopsAtEnds}
use Rattle.model_edit_law.proofs.BracketLemmas.{fits, fits-after, stack_at-after, slice_get-within}
use Rattle.model_edit_law.proofs.NodeLemmas.{content_list}
use Rattle.model_edit_law.proofs.ShapeLemmas.{from_place}
use Rattle.model_edit_law.proofs.CutLemmas.{cuts, above_fits, above_is, below_fits, below_is}

-- characters leave the open nodes as they are

abbrev AllChars : List PlainItem → Type 0
AllChars [] = Unit {0}
AllChars (Char c marks ∷ items) = AllChars items
AllChars (Opening kind head marks pre origin generated ∷ items) = ⊥
AllChars (Closing kind pre ∷ items) = ⊥

opens_after-append : (xs ys : List PlainItem) (nodes : List Open) (at : ℕ) → opens_after nodes at (xs ++ ys) ≡ opens_after (opens_after nodes at xs) (at + length xs) ys
opens_after-append [] ys nodes at = ap (λ n. opens_after nodes n ys) (omega arith)
opens_after-append (x ∷ xs) ys nodes at =
    opens_after-append xs ys (opens_with x at nodes) (suc at) ∙ ap (λ n. opens_after (opens_after (opens_with x at nodes) (suc at) xs) n ys) (omega arith)

opens_after-chars : (items : List PlainItem) (nodes : List Open) (at : ℕ) → AllChars items → opens_after nodes at items ≡ nodes
opens_after-chars [] nodes at h = refl
opens_after-chars (Char c marks ∷ items) nodes at h = opens_after-chars items nodes (suc at) h
opens_after-chars (Opening kind head marks pre origin generated ∷ items) nodes at h = absurd h
opens_after-chars (Closing kind pre ∷ items) nodes at h = absurd h

opens_at-on : (items : List PlainItem) (at count : ℕ) → opens_at items (at + count) ≡ opens_after (opens_at items at) (0 + length (take at items)) (take count (drop at items))
opens_at-on items at count = ap (opens_after [] 0) (take-add at count items) ∙ opens_after-append (take at items) (take count (drop at items)) [] 0

run_is_chars : (count : ℕ) (items : List PlainItem) → count ≤ length (first_run items) → AllChars (take count items)
run_is_chars zero items h = tt
run_is_chars (suc count) [] h = absurd (omega arith)
run_is_chars (suc count) (Char c marks ∷ items) h = run_is_chars count items (omega arith)
run_is_chars (suc count) (Opening kind head marks pre origin generated ∷ items) h = absurd (omega arith)
run_is_chars (suc count) (Closing kind pre ∷ items) h = absurd (omega arith)

run_within : (items : List PlainItem) → length (first_run items) ≤ length items
run_within [] = omega arith
run_within (Char c marks ∷ items) = let rest = run_within items in omega arith
run_within (Opening kind head marks pre origin generated ∷ items) = omega arith
run_within (Closing kind pre ∷ items) = omega arith

prefix_is_chars : (xs ys : List PlainItem) → length xs ≤ length (first_run (xs ++ ys)) → AllChars xs
prefix_is_chars [] ys h = tt
prefix_is_chars (Char c marks ∷ xs) ys h = prefix_is_chars xs ys (omega arith)
prefix_is_chars (Opening kind head marks pre origin generated ∷ xs) ys h = absurd (omega arith)
prefix_is_chars (Closing kind pre ∷ xs) ys h = absurd (omega arith)

AllChars-append : (xs ys : List PlainItem) → AllChars xs → AllChars ys → AllChars (xs ++ ys)
AllChars-append [] ys p q = q
AllChars-append (Char c marks ∷ xs) ys p q = AllChars-append xs ys p q
AllChars-append (Opening kind head marks pre origin generated ∷ xs) ys p q = absurd p
AllChars-append (Closing kind pre ∷ xs) ys p q = absurd p

AllChars-reverse : (xs : List PlainItem) → AllChars xs → AllChars (reverse xs)
AllChars-reverse [] p = tt
AllChars-reverse (Char c marks ∷ xs) p = subst AllChars (sym (reverse_onto xs (Char c marks) [])) (AllChars-append (reverse xs) (Char c marks ∷ []) (AllChars-reverse xs p) tt)
AllChars-reverse (Opening kind head marks pre origin generated ∷ xs) p = absurd p
AllChars-reverse (Closing kind pre ∷ xs) p = absurd p

-- the run before an offset
length-run_before : (items : List PlainItem) (at : ℕ) → at ≤ length items → length (run_before items at) ≤ at
length-run_before items at h =
    let a = run_within (reverse (take at items)) in
    let b = length-reverse (take at items) in
    let c = length-take-le at items h in
    let d = length-reverse (first_run (reverse (take at items))) in
    omega arith

run_back : (items : List PlainItem) (to count : ℕ) → to + count ≤ length items → count ≤ length (run_before items (to + count)) → opens_at items to ≡ opens_at items (to + count)
run_back items to count within h =
    let piece = take count (drop to items) in
    let parts : take (to + count) items ≡ take to items ++ piece = take-add to count items in
    let back : reverse (take (to + count) items) ≡ reverse piece ++ reverse (take to items) = ap reverse parts ∙ reverse-append (take to items) piece in
    let long : length piece ≡ count = length-take-le count (drop to items) (omega (arith, length-drop to items)) in
    let long' = length-reverse piece in
    let run = length-reverse (first_run (reverse (take (to + count) items))) in
    let same : length (first_run (reverse (take (to + count) items))) ≡ length (first_run (reverse piece ++ reverse (take to items))) = ap (λ v. length (first_run v)) back in
    let turned = prefix_is_chars (reverse piece) (reverse (take to items)) (omega arith) in
    let chars = subst AllChars (reverse-reverse piece) (AllChars-reverse (reverse piece) turned) in
    sym (opens_at-on items to count ∙ opens_after-chars piece (opens_at items to) (0 + length (take to items)) chars)

-- the states of a lawful list

record At (items : List PlainItem) (n : ℕ) : Type 0 where
  state : State
  reached : after start (take n items) ≡ Ok state
  rest : after state (drop n items) ≡ Ok finish

state_at : (items : List PlainItem) (n : ℕ) → Lawful items → At items n
state_at items n lawful =
    let p = after_parts (take n items) (drop n items) start finish (ap (after start) (take-append-drop n items) ∙ after_from_Lawful items lawful) in
    record { state = p.0; reached = p.1; rest = p.2 }

-- each open kind may stand in the one round it
inner_held : (items : List PlainItem) (n : ℕ) (s : State) (k : Kind) (outer : List Kind) → after start (take n items) ≡ Ok s → s.stack ≡ k ∷ outer → may_hold (top outer) k ≡ true
inner_held items n s k outer h e =
    let f : fits s.seen (k ∷ outer) ≡ true = subst (λ st. fits s.seen st ≡ true) e (fits-after (take n items) start s h refl) in
    (and_parts (may_hold (top outer) k) _ (and_parts _ _ f).0).0

-- one item further
record Next (items : List PlainItem) (n : ℕ) (s : State) (x : PlainItem) : Type 0 where
  state : State
  stepped : step s x ≡ Ok state
  reached : after start (take (suc n) items) ≡ Ok state
  rest : after state (drop (suc n) items) ≡ Ok finish

next_state : (items : List PlainItem) (n : ℕ) (x : PlainItem) → slice_get items n ≡ Some x → (a : At items n) → Next items n a.state x
next_state items n x h a =
    let here = from_place items n x h in
    let p = joined-ok 1 (step a.state x) (λ next. after next (drop (suc n) items)) finish (ap (after a.state) (sym here) ∙ a.rest) in
    let one : after a.state (x ∷ []) ≡ Ok p.0 = ap (λ r. outcome_then 1 r (λ next. Ok next)) p.1 in
    let one_past : suc n ≡ n + 1 = omega arith in
    let prefix : take (suc n) items ≡ take n items ++ x ∷ [] =
    ap (λ k. take k items) one_past ∙ take-add n 1 items ∙ ap (λ v. take n items ++ take 1 v) here in
    record {
      state = p.0;
      stepped = p.1;
      reached = ap (after start) prefix ∙ after_whole (take n items) (x ∷ []) start a.state p.0 a.reached one;
      rest = p.2;
    }

-- kinds

content_holds_leaves : (k child : Kind) → is_content_branch k ≡ true → may_hold k child ≡ true → is_leaf child ≡ true
content_holds_leaves k child h held =
    let inline : is_inline_leaf child ≡ true = ap (λ l. is_among l child) (sym (content_list k h)) ∙ held in
    ap (λ b. is_among block_leaves child || b) inline ∙ or_true (is_among block_leaves child)
  where
    or_true : (b : Bool) → (b || true) ≡ true
    or_true true = refl
    or_true false = refl

leaf_has_no_text : (k : Kind) → is_leaf k ≡ true → is_content_branch k ≡ false
leaf_has_no_text TransBlock h = refl
leaf_has_no_text AlienBlock h = refl
leaf_has_no_text Br h = refl
leaf_has_no_text Img h = refl
leaf_has_no_text Ref h = refl
leaf_has_no_text TransInline h = refl
leaf_has_no_text AlienInline h = refl
leaf_has_no_text _ h = cc

-- leaves are passed whole

content_at : (items : List PlainItem) (n : ℕ) (s : State) → after start (take n items) ≡ Ok s → is_content items n ≡ true → is_content_branch (top s.stack) ≡ true
content_at items n s h content = ap (λ st. is_content_branch (top st)) (sym (stack_at-after items n s h)) ∙ content

none_after : (items : List PlainItem) (n : ℕ) → slice_get items n ≡ None → drop n items ≡ []
none_after [] zero h = refl
none_after [] (suc n) h = refl
none_after (x ∷ items) zero h = cc
none_after (x ∷ items) (suc n) h = none_after items n h

abbrev IsLike : (PlainItem → Bool) → List PlainItem → ℕ → Type 0
IsLike test items n = (x : PlainItem) × (slice_get items n ≡ Some x) × (test x ≡ true)

-- in a leaf stands nothing but its closing
leaf_closes : (items : List PlainItem) (n : ℕ) (k : Kind) (outer : List Kind) → (a : At items n) → a.state.stack ≡ k ∷ outer → is_leaf k ≡ true → IsLike is_closing items n
leaf_closes items n k outer a stack leaf = by_item (slice_get items n) refl
  where
    by_item : (o : Option PlainItem) → slice_get items n ≡ o → IsLike is_closing items n
    by_item None e =
        let over : a.state ≡ finish = Ok-same {E = LawFault} a.state finish (ap (after a.state) (sym (none_after items n e)) ∙ a.rest) in
        absurd (let none : k ∷ outer ≡ [] = sym stack ∙ ap (λ (v : State). v.stack) over in cc)
    by_item (Some (Char c marks)) e =
        let next = next_state items n (Char c marks) e a in
        let text = (if_ok (is_content_branch (top a.state.stack)) _ _ next.state next.stepped).0 in
        let text_in : is_content_branch k ≡ true = ap (λ st. is_content_branch (top st)) (sym stack) ∙ text in
        absurd (let no : true ≡ false = sym text_in ∙ leaf_has_no_text k leaf in cc)
    by_item (Some (Opening kind head marks pre origin generated)) e =
        let next = next_state items n (Opening kind head marks pre origin generated) e a in
        let held = (and_parts (may_hold (top a.state.stack) kind) _ (if_ok (may_open a.state kind) _ _ next.state next.stepped).0).0 in
        let held_in : may_hold k kind ≡ true = ap (λ st. may_hold (top st) kind) (sym stack) ∙ held in
        absurd (let no : true ≡ false = sym held_in ∙ leaves_are_empty k kind leaf in cc)
    by_item (Some (Closing kind pre)) e = (Closing kind pre, e, refl)

-- and nothing but its opening stands before that
leaf_opens : (items : List PlainItem) (n : ℕ) (k : Kind) (outer : List Kind) → Lawful items → n ≤ length items → (a : At items n) → a.state.stack ≡ k ∷ outer → is_leaf k ≡ true →
    (m : ℕ) × (n ≡ suc m) × IsLike is_opening items m
leaf_opens items zero k outer lawful within a stack leaf =
    let first : start ≡ a.state = Ok-same {E = LawFault} start a.state a.reached in
    absurd (let none : [] ≡ k ∷ outer = ap (λ (v : State). v.stack) first ∙ stack in cc)
leaf_opens items (suc m) k outer lawful within a stack leaf = by_item (slice_get items m) refl
  where
    before : At items m
    before = state_at items m lawful

    by_item : (o : Option PlainItem) → slice_get items m ≡ o → (l : ℕ) × (suc m ≡ suc l) × IsLike is_opening items l
    by_item None e = absurd (let long = ap length (none_after items m e) in let none : ⊥ = omega (arith, length-drop m items) in none)
    by_item (Some (Opening kind head marks pre origin generated)) e = (m, refl, (Opening kind head marks pre origin generated, e, refl))
    by_item (Some (Char c marks)) e =
        let next = next_state items m (Char c marks) e before in
        let same : next.state ≡ a.state = Ok-same {E = LawFault} next.state a.state (sym next.reached ∙ a.reached) in
        let p = if_ok (is_content_branch (top before.state.stack)) _ _ next.state next.stepped in
        let alike : before.state ≡ a.state = Ok-same {E = LawFault} before.state next.state p.1 ∙ same in
        let text : is_content_branch k ≡ true = ap (λ st. is_content_branch (top st)) (sym (ap (λ (v : State). v.stack) alike ∙ stack)) ∙ p.0 in
        absurd (let no : true ≡ false = sym text ∙ leaf_has_no_text k leaf in cc)
    by_item (Some (Closing kind pre)) e =
        let next = next_state items m (Closing kind pre) e before in
        let same : next.state ≡ a.state = Ok-same {E = LawFault} next.state a.state (sym next.reached ∙ a.reached) in
        let under = (closed_before before.state.stack before.state.seen kind next.state next.stepped).0 in
        let held = inner_held items m before.state kind next.state.stack before.reached under in
        let held_in : may_hold k kind ≡ true = ap (λ st. may_hold (top st) kind) (sym (ap (λ (v : State). v.stack) same ∙ stack)) ∙ held in
        absurd (let no : true ≡ false = sym held_in ∙ leaves_are_empty k kind leaf in cc)

over_leaf : (x y : PlainItem) (nodes : List Open) (at : ℕ) → is_opening x ≡ true → is_closing y ≡ true → opens_after nodes at (x ∷ y ∷ []) ≡ nodes
over_leaf (Opening kind head marks pre origin generated) (Closing k pre') nodes at p q = refl
over_leaf (Opening kind head marks pre origin generated) (Char c marks') nodes at p q = cc
over_leaf (Opening kind head marks pre origin generated) (Opening k head' marks' pre' origin' generated') nodes at p q = cc
over_leaf (Char c marks) y nodes at p q = cc
over_leaf (Closing kind pre) y nodes at p q = cc

leaf_passed : (items : List PlainItem) (at : ℕ) → IsLike is_opening items at → IsLike is_closing items (suc at) → opens_at items (at + 2) ≡ opens_at items at
leaf_passed items at x y =
    let pair : take 2 (drop at items) ≡ x.0 ∷ y.0 ∷ [] = ap (take 2) (from_place items at x.0 x.1 ∙ ap (λ v. x.0 ∷ v) (from_place items (suc at) y.0 y.1)) in
    opens_at-on items at 2 ∙ ap (opens_after (opens_at items at) (0 + length (take at items))) pair
    ∙ over_leaf x.0 y.0 (opens_at items at) (0 + length (take at items)) x.2 y.2

-- where a caret goes

mapped : (start : ℕ) (o : Option ℕ) (to : ℕ) → option_map (λ n. start + n) o ≡ Some to → (n : ℕ) × (o ≡ Some n) × (start + n ≡ to)
mapped start None to h = cc
mapped start (Some n) to h = (n, refl, (let e : start + n ≡ to = cc in e))

mapped_none : (start : ℕ) (o : Option ℕ) → option_map (λ n. start + n) o ≡ None → o ≡ None
mapped_none start None h = refl
mapped_none start (Some n) h = cc

still_content : (items : List PlainItem) (at to : ℕ) → opens_at items to ≡ opens_at items at → is_content items at ≡ true → is_content items to ≡ true
still_content items at to e content = ap (λ nodes. is_content_branch (top (map (λ (n : Open). n.kind) nodes))) e ∙ content

goes : (dir : Dir) (items : List PlainItem) (at to : ℕ) → is_content items at ≡ true → IsFarther dir at to → to ≤ length items → opens_at items to ≡ opens_at items at → CaretGoes dir items at to
goes dir items at to content far within branch = record { farther = far; within = within; branch = branch; content = still_content items at to branch content }

char_ahead : (items : List PlainItem) (at to : ℕ) (by : By) → at ≤ length items → is_content items at ≡ true → boundary_at Ahead (cutting by) items at ≡ Some to → CaretGoes Ahead items at to
char_ahead items at to by within content h =
    let before = run_before items at in
    let suffix = run_from items at in
    let m = mapped (at - length before) (first_above (length before) (boundaries (cutting by) (before ++ suffix))) to h in
    let fit = above_fits (cutting by) (before ++ suffix) (length before) m.0 (cuts by (before ++ suffix)) m.1 in
    let low = fit.0 in
    let high = fit.1 in
    let short = length-run_before items at within in
    let sum = m.2 in
    let count = m.0 - length before in
    let e : at + count ≡ to = omega arith in
    let room : count ≤ length suffix = omega (arith, length-append before suffix) in
    let inside = run_within (drop at items) in
    let same : opens_at items (at + count) ≡ opens_at items at =
    opens_at-on items at count ∙ opens_after-chars (take count (drop at items)) (opens_at items at) (0 + length (take at items)) (run_is_chars count (drop at items) room) in
    goes Ahead items at to content (omega arith) (omega (arith, length-drop at items)) (subst (λ n. opens_at items n ≡ opens_at items at) e same)

char_back : (items : List PlainItem) (at to : ℕ) (by : By) → at ≤ length items → is_content items at ≡ true → boundary_at Back (cutting by) items at ≡ Some to → CaretGoes Back items at to
char_back items at to by within content h =
    let before = run_before items at in
    let suffix = run_from items at in
    let m = mapped (at - length before) (last_below (length before) (boundaries (cutting by) (before ++ suffix))) to h in
    let low = below_fits (length before) m.0 (boundaries (cutting by) (before ++ suffix)) m.1 in
    let short = length-run_before items at within in
    let sum = m.2 in
    let count = length before - m.0 in
    let e : to + count ≡ at = omega arith in
    let room : count ≤ length before = omega arith in
    let same = run_back items to count (omega arith) (subst (λ n. count ≤ length (run_before items n)) (sym e) room) in
    goes Back items at to content (omega arith) (omega arith) (subst (λ n. opens_at items to ≡ opens_at items n) e same)

leaf_ahead : (items : List PlainItem) (at to : ℕ) (kind : Kind) (x : PlainItem) → Lawful items → is_content items at ≡ true → slice_get items at ≡ Some x → is_opening x ≡ true →
    ((s t : State) → step s x ≡ Ok t → (may_hold (top s.stack) kind ≡ true) × (kind ∷ s.stack ≡ t.stack)) → at + 2 ≡ to → CaretGoes Ahead items at to
leaf_ahead items at to kind x lawful content here opens steps e =
    let a = state_at items at lawful in
    let next = next_state items at x here a in
    let p = steps a.state next.state next.stepped in
    let leaf = content_holds_leaves (top a.state.stack) kind (content_at items at a.state a.reached content) p.0 in
    let closing = leaf_closes items (suc at) kind a.state.stack (record { state = next.state; reached = next.reached; rest = next.rest }) (sym p.1) leaf in
    let inside = slice_get-within items (suc at) closing.0 closing.1 in
    goes Ahead items at to content (omega arith) (omega arith) (subst (λ n. opens_at items n ≡ opens_at items at) e (leaf_passed items at (x, here, opens) closing))

leaf_back : (items : List PlainItem) (m to : ℕ) (kind : Kind) (pre : List ℕ) → Lawful items → is_content items (suc m) ≡ true → slice_get items m ≡ Some (Closing kind pre) → suc m - 2 ≡ to → CaretGoes Back items (suc m) to
leaf_back items m to kind pre lawful content here e =
    let a = state_at items m lawful in
    let next = next_state items m (Closing kind pre) here a in
    let stack = (closed_before a.state.stack a.state.seen kind next.state next.stepped).0 in
    let held = inner_held items m a.state kind next.state.stack a.reached stack in
    let leaf = content_holds_leaves (top next.state.stack) kind (content_at items (suc m) next.state next.reached content) held in
    let within = slice_get-within items m (Closing kind pre) here in
    let opening = leaf_opens items m kind next.state.stack lawful (omega arith) a stack leaf in
    let l = opening.0 in
    let after_l = opening.1 in
    let there : l ≡ to = omega arith in
    let closing : IsLike is_closing items (suc l) = subst (λ n. IsLike is_closing items n) after_l (Closing kind pre, here, refl) in
    let past : l + 2 ≡ suc m = omega arith in
    let same : opens_at items l ≡ opens_at items (suc m) = subst (λ n. opens_at items l ≡ opens_at items n) past (sym (leaf_passed items l opening.2 closing)) in
    goes Back items (suc m) to content (omega arith) (omega arith) (subst (λ n. opens_at items n ≡ opens_at items (suc m)) there same)

ahead_stays : (items : List PlainItem) (at to : ℕ) (by : By) → Lawful items → is_content items at ≡ true → next items at Ahead by ≡ Some to → CaretGoes Ahead items at to
ahead_stays items at to by lawful content h = by_item (slice_get items at) refl h
  where
    by_item : (o : Option PlainItem) → slice_get items at ≡ o → next_ahead o (cutting by) items at ≡ Some to → CaretGoes Ahead items at to
    by_item None e h = cc
    by_item (Some (Char c marks)) e h = let within = slice_get-within items at (Char c marks) e in char_ahead items at to by (omega arith) content h
    by_item (Some (Opening kind head marks pre origin generated)) e h =
        leaf_ahead items at to kind (Opening kind head marks pre origin generated) lawful content e refl
        (λ s t stepped. ((and_parts (may_hold (top s.stack) kind) _ (if_ok (may_open s kind) _ _ t stepped).0).0, (opened_before s t kind stepped).0))
        (let same : at + 2 ≡ to = cc in same)
    by_item (Some (Closing kind pre)) e h = cc

back_stays : (items : List PlainItem) (at to : ℕ) (by : By) → Lawful items → is_content items at ≡ true → next items at Back by ≡ Some to → CaretGoes Back items at to
back_stays items zero to by lawful content h = absurd (let no : false ≡ true = content in cc)
back_stays items (suc m) to by lawful content h =
    let here : suc m - 1 ≡ m = omega arith in
    by_item (slice_get items m) refl (ap (λ n. next_back (slice_get items n) (cutting by) items (suc m)) (sym here) ∙ h)
  where
    by_item : (o : Option PlainItem) → slice_get items m ≡ o → next_back o (cutting by) items (suc m) ≡ Some to → CaretGoes Back items (suc m) to
    by_item None e h = cc
    by_item (Some (Char c marks)) e h = let within = slice_get-within items m (Char c marks) e in char_back items (suc m) to by (omega arith) content h
    by_item (Some (Opening kind head marks pre origin generated)) e h = cc
    by_item (Some (Closing kind pre)) e h = leaf_back items m to kind pre lawful content e (let same : suc m - 2 ≡ to = cc in same)

pub caret_stays_in_branch : CaretStaysInBranch
caret_stays_in_branch items at to Ahead by = ahead_stays items at to by
caret_stays_in_branch items at to Back by = back_stays items at to by

-- where it stops

-- content does not end with the list
content_goes_on : (items : List PlainItem) (at : ℕ) → Lawful items → is_content items at ≡ true → slice_get items at ≡ None → ⊥
content_goes_on items at lawful content e =
    let a = state_at items at lawful in
    let over : a.state ≡ finish = Ok-same {E = LawFault} a.state finish (ap (after a.state) (sym (none_after items at e)) ∙ a.rest) in
    let none : is_content_branch (top finish.stack) ≡ true = ap (λ (v : State). is_content_branch (top v.stack)) (sym over) ∙ content_at items at a.state a.reached content in
    absurd (let no : false ≡ true = none in cc)

ahead_stops : (items : List PlainItem) (at : ℕ) (by : By) → Lawful items → is_content items at ≡ true → next items at Ahead by ≡ None → IsEnd Ahead items at
ahead_stops items at by lawful content h = by_item (slice_get items at) refl h
  where
    by_item : (o : Option PlainItem) → slice_get items at ≡ o → next_ahead o (cutting by) items at ≡ None → passes is_closing o ≡ true
    by_item None e h = absurd (content_goes_on items at lawful content e)
    by_item (Some (Char c marks)) e h =
        let before = run_before items at in
        let suffix = run_from items at in
        let none = mapped_none (at - length before) (first_above (length before) (boundaries (cutting by) (before ++ suffix))) h in
        let some : suffix ≡ c ∷ first_run (drop (suc at) items) = ap first_run (from_place items at (Char c marks) e) in
        let long : length suffix ≡ suc (length (first_run (drop (suc at) items))) = ap length some in
        absurd (above_is (cutting by) (before ++ suffix) (length before) (cuts by (before ++ suffix)) (omega (arith, length-append before suffix)) none)
    by_item (Some (Opening kind head marks pre origin generated)) e h = cc
    by_item (Some (Closing kind pre)) e h = refl

ahead_stays_put : (items : List PlainItem) (at : ℕ) (by : By) → IsEnd Ahead items at → next items at Ahead by ≡ None
ahead_stays_put items at by h = by_item (slice_get items at) h
  where
    by_item : (o : Option PlainItem) → passes is_closing o ≡ true → next_ahead o (cutting by) items at ≡ None
    by_item None h = cc
    by_item (Some (Char c marks)) h = cc
    by_item (Some (Opening kind head marks pre origin generated)) h = cc
    by_item (Some (Closing kind pre)) h = refl

-- a letter just before an offset begins the run before it
run_after : (items : List PlainItem) (m : ℕ) (x : PlainItem) → slice_get items m ≡ Some x → reverse (take (suc m) items) ≡ x ∷ reverse (take m items)
run_after items m x e =
    let one_past : suc m ≡ m + 1 = omega arith in
    ap (λ k. reverse (take k items)) one_past ∙ ap reverse (take-add m 1 items ∙ ap (λ v. take m items ++ take 1 v) (from_place items m x e))
    ∙ reverse-append (take m items) (x ∷ [])

back_stops : (items : List PlainItem) (at : ℕ) (by : By) → Lawful items → is_content items at ≡ true → next items at Back by ≡ None → IsEnd Back items at
back_stops items zero by lawful content h = absurd (let no : false ≡ true = content in cc)
back_stops items (suc m) by lawful content h =
    let here : suc m - 1 ≡ m = omega arith in
    ap (λ n. passes is_opening (slice_get items n)) here
    ∙ by_item (slice_get items m) refl (ap (λ n. next_back (slice_get items n) (cutting by) items (suc m)) (sym here) ∙ h)
  where
    by_item : (o : Option PlainItem) → slice_get items m ≡ o → next_back o (cutting by) items (suc m) ≡ None → passes is_opening o ≡ true
    by_item None e h = absurd (content_goes_on items (suc m) lawful content (no_more items m e))
      where
        no_more : (items : List PlainItem) (m : ℕ) → slice_get items m ≡ None → slice_get items (suc m) ≡ None
        no_more [] m e = refl
        no_more (x ∷ items) zero e = cc
        no_more (x ∷ items) (suc m) e = no_more items m e
    by_item (Some (Char c marks)) e h =
        let before = run_before items (suc m) in
        let suffix = run_from items (suc m) in
        let none = mapped_none (suc m - length before) (last_below (length before) (boundaries (cutting by) (before ++ suffix))) h in
        let some = ap (λ v. length (first_run v)) (run_after items m (Char c marks) e) in
        let long = length-reverse (first_run (reverse (take (suc m) items))) in
        absurd (below_is (cutting by) (before ++ suffix) (length before) (cuts by (before ++ suffix)) (omega arith) none)
    by_item (Some (Opening kind head marks pre origin generated)) e h = refl
    by_item (Some (Closing kind pre)) e h = cc

back_stays_put : (items : List PlainItem) (at : ℕ) (by : By) → IsEnd Back items at → next items at Back by ≡ None
back_stays_put items at by h = by_item (slice_get items (at - 1)) h
  where
    by_item : (o : Option PlainItem) → passes is_opening o ≡ true → next_back o (cutting by) items at ≡ None
    by_item None h = cc
    by_item (Some (Char c marks)) h = cc
    by_item (Some (Opening kind head marks pre origin generated)) h = refl
    by_item (Some (Closing kind pre)) h = cc

pub caret_stops_at_ends : CaretStopsAtEnds
caret_stops_at_ends items at Ahead by lawful content = (ahead_stops items at by lawful content, ahead_stays_put items at by)
caret_stops_at_ends items at Back by lawful content = (back_stops items at by lawful content, back_stays_put items at by)
