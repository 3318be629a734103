-- A split leaves a lawful list lawful, and so does typing where fewer than 100 nodes are open.
use Rattle.std.proofs.Common.{◌≡◌, ℕ, zero, suc, ◌-◌, ◌≤◌, Bool, true, false, not, ◌||◌, if◌then◌else◌, nat_lt, nat_le, List, [], ◌∷◌, ◌++◌, length, map, reverse, take, drop, Option, Some, None, Result, Ok, Err, refl, sym, ap, ◌∙◌, subst, arith}
use Rattle.std.specs.List.{list_any}
use Rattle.std.proofs.lemmas.Bool.{or_parts, leb-false}
use Rattle.std.proofs.lemmas.Grind.{reverse_onto}
use Rattle.std.proofs.lemmas.List.{take-append-drop}
use Rattle.ve_kinds.specs.declared.kind.Kind.{Kind}
use Rattle.ve_kinds.specs.declared.kind.Kind.TheVariants.{InternalList}
use Rattle.model_items.specs.declared.plain_item.PlainItem.{PlainItem}
use Rattle.model_items.specs.declared.plain_item.PlainItem.TheVariants.{Char, Opening, Closing}
use Rattle.ve_kinds.specs.Table.{kind_same}
use Rattle.model_items.proofs.SameLemmas.{Means-kind_same}
use Rattle.model_items.specs.declared.law_fault.LawFault.TheVariants.{Unlawful}
use Rattle.model_items.specs.Law.{State, start, finish, may_open, state_opened, outcome_then, outcome_moved, after, Lawful}
use Rattle.model_items.proofs.LawLemmas.{Ok-same, after_whole, after_parts, after_from_Lawful, piece_fits}
use Rattle.model_change.specs.Transaction.{Transaction, edited}
use Rattle.model_edit.specs.Causes.{BuildCause}
use Rattle.model_edit.specs.Brackets.{closing_for, copy_of, is_internal}
use Rattle.model_items.specs.Offsets.{openings_after, openings_at, stack_at, kind_at, is_content}
use Rattle.model_edit_law.specs.Fine.{Fine}
use Rattle.model_edit.specs.Edits.{Change, transaction_of}
use Rattle.model_edit_law.proofs.EditLemmas.{edited-transaction_from}
use Rattle.model_edit_law.proofs.BracketLemmas.{fits_parts, state_of, fits, fits-after, Openings, Openings-after, stack_at-after}
use Rattle.model_edit_law.proofs.OrderLemmas.{Fine-Rising}
use Rattle.model_edit.specs.Insert.{reopened, split, is_bad_depth, is_bad_offset, is_mixed, in_paragraph, levels_up, put_into, insertion}

pub Openings-take : (n : ℕ) (openings : List PlainItem) (kinds : List Kind) → Openings openings kinds → Openings (take n openings) (take n kinds)
Openings-take zero openings kinds o = tt
Openings-take (suc n) [] [] o = tt
Openings-take (suc n) (Opening kind head marks pre origin generated ∷ openings) (k ∷ kinds) o = (o.0, Openings-take n openings kinds o.1)
Openings-take (suc n) [] (k ∷ kinds) o = absurd o
Openings-take (suc n) (Opening kind head marks pre origin generated ∷ openings) [] o = absurd o
Openings-take (suc n) (Char c marks ∷ openings) kinds o = absurd o
Openings-take (suc n) (Closing kind pre ∷ openings) kinds o = absurd o

-- closing the open kinds from the inside out
pub closings_fit : (openings : List PlainItem) (inner outer : List Kind) (seen : Bool) → Openings openings inner →
    after (state_of (inner ++ outer) seen) (map closing_for openings) ≡ Ok (state_of outer seen)
closings_fit [] [] outer seen o = refl
closings_fit (Opening kind head marks pre origin generated ∷ openings) (k ∷ inner) outer seen o =
    let same : kind_same k kind ≡ true = ap (λ v. kind_same v kind) (sym o.0) ∙ Means-kind_same.itself kind in
    ap (λ b. outcome_then 1 (if b then Ok (state_of (inner ++ outer) seen) else Err (Unlawful 0)) (λ next. after next (map closing_for openings))) same
    ∙ ap (outcome_moved 1) (closings_fit openings inner outer seen o.1)
closings_fit [] (k ∷ inner) outer seen o = absurd o
closings_fit (Opening kind head marks pre origin generated ∷ openings) [] outer seen o = absurd o
closings_fit (Char c marks ∷ openings) inner outer seen o = absurd o
closings_fit (Closing kind pre ∷ openings) inner outer seen o = absurd o

pub not_internal : (k : Kind) → is_internal k ≡ false → kind_same k InternalList ≡ false
not_internal k h = (or_parts (kind_same k InternalList) _ h).0

open_fits : (kind k : Kind) (outer : List Kind) (seen : Bool) → kind ≡ k → kind_same k InternalList ≡ false →
    may_open (state_of outer seen) k ≡ true → nat_lt (length outer) 100 ≡ true → state_opened (state_of outer seen) kind ≡ Ok (state_of (k ∷ outer) seen)
open_fits kind k outer seen e other may few =
    ap (state_opened (state_of outer seen)) e
    ∙ rw (may, few) (ap (λ v. Ok (state_of (k ∷ outer) v)) (ap (λ b. seen || b) other ∙ or_false seen))
  where
    or_false : (b : Bool) → (b || false) ≡ b
    or_false true = refl
    or_false false = refl

-- opening copies of them from the outside in
pub copies_fit : (openings : List PlainItem) (inner outer : List Kind) (seen : Bool) → Openings openings inner →
    list_any is_internal inner ≡ false → fits seen (inner ++ outer) ≡ true →
    after (state_of outer seen) (reverse (map copy_of openings)) ≡ Ok (state_of (inner ++ outer) seen)
copies_fit [] [] outer seen o none f = refl
copies_fit (Opening kind head marks pre origin generated ∷ openings) (k ∷ inner) outer seen o none f =
    let p = or_parts (is_internal k) _ none in
    let other = not_internal k p.0 in
    let q = fits_parts k (inner ++ outer) seen other f in
    let copy = copy_of (Opening kind head marks pre origin generated) in
    ap (after (state_of outer seen)) (reverse_onto (map copy_of openings) copy [])
    ∙ after_whole (reverse (map copy_of openings)) (copy ∷ []) (state_of outer seen) (state_of (inner ++ outer) seen) (state_of (k ∷ (inner ++ outer)) seen)
    (copies_fit openings inner outer seen o.1 p.1 q.2)
    (ap (λ r. outcome_then 1 r (λ next. Ok next)) (open_fits kind k (inner ++ outer) seen o.0 other q.0 q.1))
copies_fit [] (k ∷ inner) outer seen o none f = absurd o
copies_fit (Opening kind head marks pre origin generated ∷ openings) [] outer seen o none f = absurd o
copies_fit (Char c marks ∷ openings) inner outer seen o none f = absurd o
copies_fit (Closing kind pre ∷ openings) inner outer seen o none f = absurd o

pub if_ok_else : {A E : Type 0} (b : Bool) (e : E) (r : Result A E) (t : A) → (if b then Err e else r) ≡ Ok t → (b ≡ false) × (r ≡ Ok t)
if_ok_else true e r t h = cc
if_ok_else false e r t h = (refl, h)

sub-zero_lem : (n : ℕ) → n - 0 ≡ n
sub-zero_lem n = omega arith

-- the list with items put in at one position
pub edited-put : (items : List PlainItem) (at : ℕ) (new : List PlainItem) → at ≤ length items →
    edited (transaction_of items (Change at 0 new ∷ [])) items ≡ take at items ++ (new ++ drop at items)
edited-put items at new h =
    edited-transaction_from 0 items (Change at 0 new ∷ []) (omega arith, omega arith)
    ∙ ap (λ n. take n items ++ (new ++ drop n items)) (sub-zero_lem at)

-- items put in at a position that lead back to the state there leave the list lawful
pub put_lawful : (items : List PlainItem) (at : ℕ) (new : List PlainItem) → at ≤ length items → Lawful items →
    ((s : State) → after start (take at items) ≡ Ok s → after s new ≡ Ok s) →
    Lawful (edited (transaction_of items (Change at 0 new ∷ [])) items)
put_lawful items at new h lawful fine =
    let whole : after start (take at items ++ drop at items) ≡ Ok finish = ap (after start) (take-append-drop at items) ∙ after_from_Lawful items lawful in
    let p = after_parts (take at items) (drop at items) start finish whole in
    subst Lawful (sym (edited-put items at new h))
    (piece_fits (take at items) [] (drop at items) new p.0 p.0 (subst Lawful (sym (take-append-drop at items)) lawful) p.1 refl (fine p.0 p.1))

-- the innermost nodes of a state closed and opened again
pub reopened_fits : (items : List PlainItem) (at depth : ℕ) (s : State) → after start (take at items) ≡ Ok s →
    list_any is_internal (take depth (stack_at items at)) ≡ false →
    after s (reopened (take depth (openings_at items at)) []) ≡ Ok s
reopened_fits items at depth s h none =
    let inner = take depth s.stack in
    let outer = drop depth s.stack in
    let openings = take depth (openings_at items at) in
    let o : Openings openings inner = Openings-take depth (openings_at items at) s.stack (Openings-after (take at items) [] start s h tt) in
    let whole : inner ++ outer ≡ s.stack = take-append-drop depth s.stack in
    let same : state_of (inner ++ outer) s.seen ≡ s = λ i. record { stack = whole i; seen = s.seen } in
    let f : fits s.seen (inner ++ outer) ≡ true = subst (λ st. fits s.seen st ≡ true) (sym whole) (fits-after (take at items) start s h refl) in
    let none' : list_any is_internal inner ≡ false = subst (λ st. list_any is_internal (take depth st) ≡ false) (stack_at-after items at s h) none in
    let closed = closings_fit openings inner outer s.seen o in
    let copied = copies_fit openings inner outer s.seen o none' f in
    subst (λ (v : State). after v (reopened openings []) ≡ Ok v) same
    (after_whole (map closing_for openings) (reverse (map copy_of openings)) (state_of (inner ++ outer) s.seen) (state_of outer s.seen) (state_of (inner ++ outer) s.seen) closed copied)

-- A split of a lawful list leaves a lawful list.
pub split_lawful : (items : List PlainItem) (at depth : ℕ) (t : Transaction) → Lawful items → split items at depth ≡ Ok t → Lawful (edited t items)
split_lawful items at depth t lawful h =
    let p = if_ok_else (is_bad_offset items at) _ _ t h in
    let q = if_ok_else (not (Rattle.model_items.specs.Offsets.is_content items at)) _ _ t p.1 in
    let r = if_ok_else (is_bad_depth (stack_at items at) depth) _ _ t q.1 in
    let within = leb-false (length items) at (or_parts (nat_le (length items) at) _ p.0).0 in
    let none = (or_parts (nat_lt (length (stack_at items at)) depth) _ (or_parts (Rattle.std.specs.Prelude.nat_eq depth 0) _ r.0).1).1 in
    let e : transaction_of items (Change at 0 (reopened (take depth (openings_at items at)) []) ∷ []) ≡ t = Ok-same {E = BuildCause} _ t r.1 in
    subst (λ v. Lawful (edited v items)) e
    (put_lawful items at (reopened (take depth (openings_at items at)) []) (omega arith) lawful (λ s g. reopened_fits items at depth s g none))

put_fine : (items : List PlainItem) (at : ℕ) (new : List PlainItem) → at ≤ length items → Fine items (transaction_of items (Change at 0 new ∷ []))
put_fine items at new h = Fine-Rising items (Change at 0 new ∷ []) (omega arith, omega arith)

pub split_fine : (items : List PlainItem) (at depth : ℕ) (t : Transaction) → split items at depth ≡ Ok t → Fine items t
split_fine items at depth t h =
    let p = if_ok_else (is_bad_offset items at) _ _ t h in
    let q = if_ok_else (not (is_content items at)) _ _ t p.1 in
    let r = if_ok_else (is_bad_depth (stack_at items at) depth) _ _ t q.1 in
    let within = leb-false (length items) at (or_parts (nat_le (length items) at) _ p.0).0 in
    let new = reopened (take depth (openings_at items at)) [] in
    subst (Fine items) (Ok-same {E = BuildCause} (transaction_of items (Change at 0 new ∷ [])) t r.1) (put_fine items at new (omega arith))

pub insertion_fine : (items : List PlainItem) (at : ℕ) (pieces : List PlainItem) (t : Transaction) → insertion items at pieces ≡ Ok t → Fine items t
insertion_fine items at pieces t h =
    let p = if_ok_else (is_bad_offset items at) _ _ t h in
    let q = if_ok_else (is_mixed pieces) _ _ t p.1 in
    let within = leb-false (length items) at (or_parts (nat_le (length items) at) _ p.0).0 in
    let placed = in_paragraph (kind_at items at) pieces in
    put_at_fine placed (levels_up placed (stack_at items at)) (omega arith) q.1
  where
    put_at_fine : (placed : List PlainItem) (o : Option ℕ) → at ≤ length items → put_into items at placed o ≡ Ok t → Fine items t
    put_at_fine placed None within h = cc
    put_at_fine placed (Some j) within h =
        let new = reopened (take j (openings_at items at)) placed in
        subst (Fine items) (Ok-same {E = BuildCause} (transaction_of items (Change at 0 new ∷ [])) t h) (put_fine items at new within)
