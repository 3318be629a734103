-- After the text that was typed a selection stands in the new list.
use Rattle.std.proofs.Common.{◌≡◌, ◌<◌, ◌≤◌, ℕ, zero, suc, ◌+◌, ◌-◌, ◌==◌, Bool, true, false, not, ◌&&◌, nat_le, if◌then◌else◌, List, [], ◌∷◌, ◌++◌, length, map, reverse, take, drop, slice_get, Option, Some, None, Result, Ok, refl, sym, ap, ◌∙◌, subst, arith, append-nil}
use Rattle.std.proofs.Math.Dec.{eqb-suc-zero}
use Rattle.std.proofs.lemmas.Bool.{or_parts, leb-false}
use Rattle.std.proofs.lemmas.List.{length-take-le}
use Rattle.ve_kinds.specs.declared.kind.Kind.{Kind}
use Rattle.ve_kinds.specs.declared.kind.Kind.TheVariants.{Root, P, H1, H2, H3, H4, H5, H6, Pre, Section, Li, Dt, Dd, Blockquote, Div, Td, Th, Caption, InternalItem, Ul, Ol, Dl, Table, Thead, Tbody, Tfoot, Tr, InternalList, TransBlock, AlienBlock, Br, Img, Ref, TransInline, AlienInline}
use Rattle.ve_kinds.specs.Table.{is_content_branch, is_leaf}
use Rattle.ve_base.specs.declared.marks.Mark.{Mark}
use Rattle.model_items.specs.declared.plain_item.PlainItem.{PlainItem}
use Rattle.model_items.specs.declared.plain_item.PlainItem.TheVariants.{Char, Opening, Closing}
use Rattle.model_items.specs.declared.law_fault.LawFault.{LawFault}
use Rattle.model_items.specs.Law.{State, start, finish, top, outcome_then, step, after, Lawful}
use Rattle.model_items.proofs.LawLemmas.{if_ok, Ok-same, joined-ok, after_parts, after_whole, after_from_Lawful}
use Rattle.model_change.specs.Transaction.{Retain, Replace, Attribute, Transaction, all_inserted, edited}
use Rattle.model_change.specs.Join.{first}
use Rattle.model_edit.specs.Causes.{BuildCause}
use Rattle.model_edit.specs.Brackets.{opening_of, closing_of, closing_for, copy_of}
use Rattle.model_items.specs.Offsets.{openings_at, stack_at, kind_at}
use Rattle.model_edit.specs.Edits.{Change, retaining, merged, transaction_from, transaction_of}
use Rattle.model_edit.specs.Insert.{is_bad_offset, is_mixed, is_content_pieces, in_paragraph, levels_up, reopened, put_into, text_pieces, insertion}
use Rattle.model_edit_law.proofs.InsertLemmas.{if_ok_else, edited-put}
use Rattle.model_edit_law.proofs.BracketLemmas.{stack_at-after}
use Rattle.model_edit_law.proofs.ApartLemmas.{edits_insert_pieces}
use Rattle.model_site_law.specs.SelectionLaws as selection
use Rattle.model_world.specs.Answers.{to_last_char}

-- ---- a content offset is not inside a leaf

pub content_no_leaf : (k : Kind) → is_content_branch k ≡ true → is_leaf k ≡ false
content_no_leaf Root h = refl
content_no_leaf P h = refl
content_no_leaf H1 h = refl
content_no_leaf H2 h = refl
content_no_leaf H3 h = refl
content_no_leaf H4 h = refl
content_no_leaf H5 h = refl
content_no_leaf H6 h = refl
content_no_leaf Pre h = refl
content_no_leaf Section h = refl
content_no_leaf Li h = refl
content_no_leaf Dt h = refl
content_no_leaf Dd h = refl
content_no_leaf Blockquote h = refl
content_no_leaf Div h = refl
content_no_leaf Td h = refl
content_no_leaf Th h = refl
content_no_leaf Caption h = refl
content_no_leaf InternalItem h = refl
content_no_leaf Ul h = refl
content_no_leaf Ol h = refl
content_no_leaf Dl h = refl
content_no_leaf Table h = refl
content_no_leaf Thead h = refl
content_no_leaf Tbody h = refl
content_no_leaf Tfoot h = refl
content_no_leaf Tr h = refl
content_no_leaf InternalList h = refl
content_no_leaf TransBlock h = cc
content_no_leaf AlienBlock h = cc
content_no_leaf Br h = cc
content_no_leaf Img h = cc
content_no_leaf Ref h = cc
content_no_leaf TransInline h = cc
content_no_leaf AlienInline h = cc

-- ---- after a character of a lawful list

found_below : (items : List PlainItem) (n : ℕ) (x : PlainItem) → slice_get items n ≡ Some x → n < length items
found_below [] n x h = cc
found_below (y ∷ items) zero x h = omega arith
found_below (y ∷ items) (suc n) x h = let p = found_below items n x h in omega arith

take_more : (items : List PlainItem) (n : ℕ) (x : PlainItem) → slice_get items n ≡ Some x → take (suc n) items ≡ take n items ++ x ∷ []
take_more [] n x h = cc
take_more (y ∷ items) zero x h = ap (λ z. z ∷ []) (let e : y ≡ x = cc in e)
take_more (y ∷ items) (suc n) x h = ap (λ r. y ∷ r) (take_more items n x h)

split_at : (items : List PlainItem) (n : ℕ) (x : PlainItem) → slice_get items n ≡ Some x → items ≡ take n items ++ (x ∷ drop (suc n) items)
split_at [] n x h = cc
split_at (y ∷ items) zero x h = ap (λ z. z ∷ items) (let e : y ≡ x = cc in e)
split_at (y ∷ items) (suc n) x h = ap (λ r. y ∷ r) (split_at items n x h)

char_step : (s u : State) (c : ℕ) (marks : List Mark) → step s (Char c marks) ≡ Ok u → (is_content_branch (top s.stack) ≡ true) × (s ≡ u)
char_step s u c marks h = let p = if_ok (is_content_branch (top s.stack)) _ _ u h in (p.0, Ok-same {E = LawFault} s u p.1)

pub char_after : (items : List PlainItem) (n c : ℕ) (marks : List Mark) → Lawful items → slice_get items n ≡ Some (Char c marks) → selection.EndStands items (suc n)
char_after items n c marks lawful h =
    let x : PlainItem = Char c marks in
    let whole : after start (take n items ++ (x ∷ drop (suc n) items)) ≡ Ok finish = ap (after start) (sym (split_at items n x h)) ∙ after_from_Lawful items lawful in
    let p = after_parts (take n items) (x ∷ drop (suc n) items) start finish whole in
    let s = p.0 in
    let q = joined-ok 1 (step s x) (λ next. after next (drop (suc n) items)) finish p.2 in
    let r = char_step s q.0 c marks q.1 in
    let one : after s (x ∷ []) ≡ Ok s = ap (λ (o : Result State LawFault). outcome_then 1 o (λ next. Ok next)) (q.1 ∙ ap (λ v. Ok v) (sym r.1)) in
    let there : after start (take (suc n) items) ≡ Ok s = ap (after start) (take_more items n x h) ∙ after_whole (take n items) (x ∷ []) start s s p.1 one in
    let stack : stack_at items (suc n) ≡ s.stack = stack_at-after items (suc n) s there in
    let below = found_below items n x h in
    (omega arith, content_no_leaf (kind_at items (suc n)) (ap (λ st. is_content_branch (top st)) stack ∙ r.0))

-- ---- the last character of what is put in

abbrev one_more : ℕ → ℕ
one_more n = if n == 0 then 0 else suc n

bumped : (b : Bool) (m n : ℕ) → (if b then 0 else suc m) ≡ suc n → m ≡ n
bumped true m n h = cc
bumped false m n h = omega arith

not_zero : (n : ℕ) → (suc n == 0) ≡ false
not_zero n = eqb-suc-zero n

one_more-suc : (m n : ℕ) → m ≡ suc n → one_more m ≡ suc (suc n)
one_more-suc m n e = ap one_more e ∙ ap (λ b. if b then 0 else suc (suc n)) (not_zero n)

-- what one_more is above zero was above zero
was_suc : (m n : ℕ) → one_more m ≡ suc n → (k : ℕ) × (m ≡ suc k) × (n ≡ suc k)
was_suc zero n h = cc
was_suc (suc m) n h = let e = bumped (suc m == 0) (suc m) n h in (m, refl, sym e)

-- the item before the position after the last character is one
abbrev IsChar : List PlainItem → ℕ → Type 0
IsChar items n = (c : ℕ) × (marks : List Mark) × (slice_get items n ≡ Some (Char c marks))

last_is_char : (items : List PlainItem) (n : ℕ) → to_last_char items ≡ suc n → IsChar items n
last_is_char [] n e = cc
last_is_char (Char c marks ∷ items) zero e = (c, marks, refl)
last_is_char (Char c marks ∷ items) (suc n) e = last_is_char items n (omega arith)
last_is_char (Opening kind head marks pre origin generated ∷ items) n e =
    let w = was_suc (to_last_char items) n e in
    let f = last_is_char items w.0 w.1 in
    (f.0, f.1, ap (λ k. slice_get (Opening kind head marks pre origin generated ∷ items) k) w.2 ∙ f.2)
last_is_char (Closing kind pre ∷ items) n e =
    let w = was_suc (to_last_char items) n e in
    let f = last_is_char items w.0 w.1 in
    (f.0, f.1, ap (λ k. slice_get (Closing kind pre ∷ items) k) w.2 ∙ f.2)

-- there is a character
abbrev HasChar : List PlainItem → Type 0
HasChar items = (n : ℕ) × (to_last_char items ≡ suc n)

has_char-suffix : (xs ys : List PlainItem) → HasChar ys → HasChar (xs ++ ys)
has_char-suffix [] ys h = h
has_char-suffix (Char c marks ∷ xs) ys h = (to_last_char (xs ++ ys), refl)
has_char-suffix (Opening kind head marks pre origin generated ∷ xs) ys h = let f = has_char-suffix xs ys h in (suc f.0, one_more-suc (to_last_char (xs ++ ys)) f.0 f.1)
has_char-suffix (Closing kind pre ∷ xs) ys h = let f = has_char-suffix xs ys h in (suc f.0, one_more-suc (to_last_char (xs ++ ys)) f.0 f.1)

has_char-prefix : (xs ys : List PlainItem) → HasChar xs → HasChar (xs ++ ys)
has_char-prefix [] ys h = absurd (let e = h.1 in omega arith)
has_char-prefix (Char c marks ∷ xs) ys h = (to_last_char (xs ++ ys), refl)
has_char-prefix (Opening kind head marks pre origin generated ∷ xs) ys h =
    let w = was_suc (to_last_char xs) h.0 h.1 in
    let f = has_char-prefix xs ys (w.0, w.1) in
    (suc f.0, one_more-suc (to_last_char (xs ++ ys)) f.0 f.1)
has_char-prefix (Closing kind pre ∷ xs) ys h =
    let w = was_suc (to_last_char xs) h.0 h.1 in
    let f = has_char-prefix xs ys (w.0, w.1) in
    (suc f.0, one_more-suc (to_last_char (xs ++ ys)) f.0 f.1)

text_has_char : (marks : List Mark) (text : List ℕ) → 0 < length text → HasChar (text_pieces marks text)
text_has_char marks [] h = absurd (omega arith)
text_has_char marks (c ∷ text) h = (to_last_char (text_pieces marks text), refl)

paragraph_has_char : (parent : Kind) (pieces : List PlainItem) → HasChar pieces → HasChar (in_paragraph parent pieces)
paragraph_has_char parent pieces h = by (is_content_pieces pieces && not (is_content_branch parent))
  where
    by : (b : Bool) → HasChar (if b then opening_of P [] ∷ pieces ++ closing_of P ∷ [] else pieces)
    by true = has_char-suffix (opening_of P [] ∷ []) (pieces ++ closing_of P ∷ []) (has_char-prefix pieces (closing_of P ∷ []) h)
    by false = h

reopened_has_char : (openings pieces : List PlainItem) → HasChar pieces → HasChar (reopened openings pieces)
reopened_has_char openings pieces h =
    has_char-suffix (map closing_for openings) (pieces ++ reverse (map copy_of openings)) (has_char-prefix pieces (reverse (map copy_of openings)) h)

-- ---- where it stands in the new list

first_merged : (k : ℕ) (removed inserted : List PlainItem) (t : Transaction) → first (retaining k (merged removed inserted t)) ≡ k
first_merged zero removed inserted [] = refl
first_merged zero removed inserted (Retain count ∷ ops) = refl
first_merged zero removed inserted (Replace next others ∷ ops) = refl
first_merged zero removed inserted (Attribute c ∷ ops) = refl
first_merged (suc k) removed inserted [] = refl
first_merged (suc k) removed inserted (Retain count ∷ ops) = refl
first_merged (suc k) removed inserted (Replace next others ∷ ops) = refl
first_merged (suc k) removed inserted (Attribute c ∷ ops) = refl

first_put : (items : List PlainItem) (at : ℕ) (new : List PlainItem) → HasChar new → first (transaction_of items (Change at 0 new ∷ [])) ≡ at
first_put items at [] h = absurd (let e = h.1 in omega arith)
first_put items at (x ∷ new) h =
    let rest = drop (at - 0) items in
    let same : at - 0 ≡ at = omega arith in
    first_merged (at - 0) [] (x ∷ new) (transaction_from (at + 0) (drop 0 rest) []) ∙ same

after_get : (xs ys : List PlainItem) (n k : ℕ) (x : PlainItem) → k ≡ length xs + n → slice_get ys n ≡ Some x → slice_get (xs ++ ys) k ≡ Some x
after_get [] ys n k x e h = let same : k ≡ n = omega arith in ap (λ m. slice_get ys m) same ∙ h
after_get (z ∷ xs) ys n zero x e h = absurd (omega arith)
after_get (z ∷ xs) ys n (suc k) x e h = after_get xs ys n k x (omega arith) h

prefix_get : (xs ys : List PlainItem) (n : ℕ) (x : PlainItem) → slice_get xs n ≡ Some x → slice_get (xs ++ ys) n ≡ Some x
prefix_get [] ys n x h = cc
prefix_get (z ∷ xs) ys zero x h = h
prefix_get (z ∷ xs) ys (suc n) x h = prefix_get xs ys n x h

-- the position after the last character that a transaction puts in
abbrev pub suffix : Transaction → ℕ
suffix t = first t + to_last_char (all_inserted t)

put_stands : (items : List PlainItem) (at : ℕ) (new : List PlainItem) → at ≤ length items → HasChar new → Lawful (edited (transaction_of items (Change at 0 new ∷ [])) items) →
    selection.EndStands (edited (transaction_of items (Change at 0 new ∷ [])) items) (suffix (transaction_of items (Change at 0 new ∷ [])))
put_stands items at new within h lawful =
    let t = transaction_of items (Change at 0 new ∷ []) in
    let list = take at items ++ (new ++ drop at items) in
    let given : edited t items ≡ list = edited-put items at new within in
    let inserted : all_inserted t ≡ new = edits_insert_pieces items (Change at 0 new ∷ []) ∙ append-nil new in
    let last = last_is_char new h.0 h.1 in
    let there : slice_get list (at + h.0) ≡ Some (Char last.0 last.1) =
    after_get (take at items) (new ++ drop at items) h.0 (at + h.0) (Char last.0 last.1) (ap (λ k. k + h.0) (sym (length-take-le at items within))) (prefix_get new (drop at items) h.0 (Char last.0 last.1) last.2) in
    let stands = char_after list (at + h.0) last.0 last.1 (subst Lawful given lawful) there in
    let one = first_put items at new h in
    let two : to_last_char (all_inserted t) ≡ suc h.0 = ap to_last_char inserted ∙ h.1 in
    let place : suc (at + h.0) ≡ suffix t = omega arith in
    subst (λ l. selection.EndStands l (suffix t)) (sym given) (subst (selection.EndStands list) place stands)

put_at_stands : (items : List PlainItem) (at : ℕ) (pieces : List PlainItem) (t : Transaction) → at ≤ length items → HasChar pieces → Lawful (edited t items) → (o : Option ℕ) →
    put_into items at pieces o ≡ Ok t → selection.EndStands (edited t items) (suffix t)
put_at_stands items at pieces t within h lawful None e = cc
put_at_stands items at pieces t within h lawful (Some j) e =
    let new = reopened (take j (openings_at items at)) pieces in
    let same : transaction_of items (Change at 0 new ∷ []) ≡ t = Ok-same {E = BuildCause} (transaction_of items (Change at 0 new ∷ [])) t e in
    subst (λ u. selection.EndStands (edited u items) (suffix u)) same
    (put_stands items at new within (reopened_has_char (take j (openings_at items at)) pieces h) (subst (λ u. Lawful (edited u items)) (sym same) lawful))

-- Typed text stands in the new list, and so does the position after it.
pub typed_stands : (items : List PlainItem) (at : ℕ) (marks : List Mark) (text : List ℕ) (t : Transaction) → 0 < length text → insertion items at (text_pieces marks text) ≡ Ok t → Lawful (edited t items) →
    selection.EndStands (edited t items) (suffix t)
typed_stands items at marks text t some h lawful =
    let pieces = text_pieces marks text in
    let p = if_ok_else (is_bad_offset items at) _ _ t h in
    let q = if_ok_else (is_mixed pieces) _ _ t p.1 in
    let within = leb-false (length items) at (or_parts (nat_le (length items) at) _ p.0).0 in
    let placed = in_paragraph (kind_at items at) pieces in
    put_at_stands items at placed t (omega arith) (paragraph_has_char (kind_at items at) pieces (text_has_char marks text some)) lawful (levels_up placed (stack_at items at)) q.1
