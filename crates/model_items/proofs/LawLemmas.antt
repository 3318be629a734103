-- The law of the piece, and that what follows a position decides the state there.
use Rattle.std.proofs.Common.{◌≡◌, ℕ, suc, ◌+◌, ◌≤◌, Bool, true, false, not, ◌&&◌, ◌||◌, if◌then◌else◌, nat_lt, List, [], ◌∷◌, ◌++◌, length, Some, None, Result, Ok, Err, refl, sym, ap, ◌∙◌, subst, inl, inr, arith, zero-add, one-add}
use Rattle.std.proofs.lemmas.Bool.{and_parts, cases_Bool, not-true}
use Rattle.std.proofs.lemmas.List.{length-append}
use Rattle.ve_kinds.specs.declared.kind.Kind.{Kind}
use Rattle.ve_kinds.specs.declared.kind.Kind.TheVariants.{InternalList}
use Rattle.model_items.specs.declared.plain_item.PlainItem.{PlainItem}
use Rattle.model_items.specs.declared.plain_item.PlainItem.TheVariants.{Char, Opening, Closing}
use Rattle.ve_kinds.specs.Table.{kind_same, may_hold, is_content_branch}
use Rattle.model_items.proofs.SameLemmas.{Means-kind_same}
use Rattle.model_items.specs.declared.law_fault.LawFault.{LawFault}
use Rattle.model_items.specs.declared.law_fault.LawFault.TheVariants.{Unlawful, TooDeep}
use Rattle.model_items.specs.Law.{State, start, finish, top, is_empty, is_over, may_open, state_opened, state_closed, step, fault_moved, outcome_moved, outcome_then, after, verdict_at, verdict, Lawful, fault_place, IsFirstOffence, AtItem, AtEnd, VerdictIsFirstOffence, PieceDiffers, PieceFails, PieceFits, StateDecided}

fault_moved-add : (m n : ℕ) (f : LawFault) → fault_moved m (fault_moved n f) ≡ fault_moved (m + n) f
fault_moved-add m n (Unlawful at) = ap Unlawful (omega arith)
fault_moved-add m n (TooDeep at) = ap TooDeep (omega arith)

joined-assoc : (m n : ℕ) (r : Result State LawFault) (f g : State → Result State LawFault) →
    outcome_then m r (λ s. outcome_then n (f s) g) ≡ outcome_then (m + n) (outcome_then m r f) g
joined-assoc m n (Err e) f g = refl
joined-assoc m n (Ok s) f g =
    elim (f s) as (λ v. outcome_moved m (outcome_then n v g) ≡ outcome_then (m + n) (outcome_moved m v) g)
    [ Err e ↦ refl | Ok t ↦ elim (g t) as (λ v. outcome_moved m (outcome_moved n v) ≡ outcome_moved (m + n) v) [ Err e ↦ ap Err (fault_moved-add m n e) | Ok u ↦ refl ] ]

fault_moved-zero : (f : LawFault) → fault_moved 0 f ≡ f
fault_moved-zero (Unlawful at) = ap Unlawful (zero-add at)
fault_moved-zero (TooDeep at) = ap TooDeep (zero-add at)

outcome_moved-zero : (r : Result State LawFault) → outcome_moved 0 r ≡ r
outcome_moved-zero (Ok s) = refl
outcome_moved-zero (Err (Unlawful at)) = ap (λ n. Err (Unlawful n)) (zero-add at)
outcome_moved-zero (Err (TooDeep at)) = ap (λ n. Err (TooDeep n)) (zero-add at)

-- a list in two parts
pub after-append : (s : State) (xs ys : List PlainItem) → after s (xs ++ ys) ≡ outcome_then (length xs) (after s xs) (λ t. after t ys)
after-append s [] ys = sym (outcome_moved-zero (after s ys))
after-append s (x ∷ xs) ys =
    ap (outcome_then 1 (step s x)) (λ i next. after-append next xs ys i)
    ∙ joined-assoc 1 (length xs) (step s x) (λ next. after next xs) (λ t. after t ys)
    ∙ ap (λ n. outcome_then n (after s (x ∷ xs)) (λ t. after t ys)) (one-add (length xs))

after-append-ok : (s : State) (xs ys : List PlainItem) (t : State) → after s xs ≡ Ok t → after s (xs ++ ys) ≡ outcome_moved (length xs) (after t ys)
after-append-ok s xs ys t h = after-append s xs ys ∙ ap (λ r. outcome_then (length xs) r (λ u. after u ys)) h

after-append-err : (s : State) (xs ys : List PlainItem) (f : LawFault) → after s xs ≡ Err f → after s (xs ++ ys) ≡ Err f
after-append-err s xs ys f h = after-append s xs ys ∙ ap (λ r. outcome_then (length xs) r (λ u. after u ys)) h

-- what a choice that ended well tells
pub if_ok : {A E : Type 0} (b : Bool) (r : Result A E) (e : E) (u : A) → (if b then r else Err e) ≡ Ok u → (b ≡ true) × (r ≡ Ok u)
if_ok true r e u h = (refl, h)
if_ok false r e u h = cc

pub Ok-same : {A E : Type 0} (x y : A) → ◌≡◌ {A = Result A E} (Ok x) (Ok y) → x ≡ y
Ok-same x y h = cc

is_empty-true : (stack : List Kind) → is_empty stack ≡ true → stack ≡ []
is_empty-true [] h = refl
is_empty-true (k ∷ outer) h = cc

state_same : (s t : State) → s.stack ≡ t.stack → s.seen ≡ t.seen → s ≡ t
state_same s t e f = λ i. record { stack = e i; seen = f i }

-- the last state is the one where nothing may follow
is_over-finish : (s : State) → is_over s ≡ true → s ≡ finish
is_over-finish s over =
    let p = and_parts (is_empty s.stack) s.seen over in
    state_same s finish (is_empty-true s.stack p.0) p.1

Ok_from_verdict : (end : ℕ) (r : Result State LawFault) → verdict_at end r ≡ None → r ≡ Ok finish
Ok_from_verdict end (Err f) h = cc
Ok_from_verdict end (Ok s) h =
    elim (cases_Bool (is_over s)) [
      | inl over ↦ ap Ok (is_over-finish s over)
      | inr not_over ↦ absurd (let e : (if false then None else Some (Unlawful end)) ≡ None = subst (λ b. (if b then None else Some (Unlawful end)) ≡ None) not_over h in cc)
    ]

pub after_from_Lawful : (items : List PlainItem) → Lawful items → after start items ≡ Ok finish
after_from_Lawful items h = Ok_from_verdict (length items) (after start items) h

pub Lawful_from_after : (items : List PlainItem) → after start items ≡ Ok finish → Lawful items
Lawful_from_after items h = ap (verdict_at (length items)) h

-- what an opening that was allowed tells of the state before it
pub opened_before : (s u : State) (k : Kind) → state_opened s k ≡ Ok u →
    (k ∷ s.stack ≡ u.stack) × (s.seen ≡ (if kind_same k InternalList then false else u.seen))
opened_before s u k h =
    let p = if_ok (may_open s k) _ _ u h in
    let q = if_ok (nat_lt (length s.stack) 100) _ _ u p.1 in
    let e = Ok-same {E = LawFault} (record { stack = k ∷ s.stack; seen = s.seen || kind_same k InternalList }) u q.1 in
    let allowed = (and_parts (may_hold (top s.stack) k) _ p.0).1 in
    (ap (λ (v : State). v.stack) e, seen_before (kind_same k InternalList) s.seen u.seen (is_empty s.stack) (is_over s) allowed (ap (λ (v : State). v.seen) e))
  where
    seen_before : (first old new empty over : Bool) → (if first then empty && not old else not over) ≡ true → (old || first) ≡ new → old ≡ (if first then false else new)
    seen_before true old new empty over allowed e = not-true old (and_parts empty (not old) allowed).1
    seen_before false true new empty over allowed e = e
    seen_before false false new empty over allowed e = e

pub closed_before : (stack : List Kind) (seen : Bool) (k : Kind) (u : State) → state_closed stack seen k ≡ Ok u → (stack ≡ k ∷ u.stack) × (seen ≡ u.seen)
closed_before [] seen k u h = cc
closed_before (inner ∷ outer) seen k u h =
    let p = if_ok (kind_same inner k) _ _ u h in
    let e = Ok-same {E = LawFault} (record { stack = outer; seen = seen }) u p.1 in
    let same = Means-kind_same.equal inner k p.0 in
    (λ i. same i ∷ (e i).stack, ap (λ (v : State). v.seen) e)

-- one item leads from no two states to one
step-injective : (x : PlainItem) (s t u : State) → step s x ≡ Ok u → step t x ≡ Ok u → s ≡ t
step-injective (Char c marks) s t u p q =
    Ok-same {E = LawFault} s u (if_ok (is_content_branch (top s.stack)) _ _ u p).1
    ∙ sym (Ok-same {E = LawFault} t u (if_ok (is_content_branch (top t.stack)) _ _ u q).1)
step-injective (Opening kind head marks pre origin generated) s t u p q =
    let a = opened_before s u kind p in
    let b = opened_before t u kind q in
    let stacks : s.stack ≡ t.stack = cc (a.0, b.0) in
    state_same s t stacks (a.1 ∙ sym b.1)
step-injective (Closing kind pre) s t u p q =
    let a = closed_before s.stack s.seen kind u p in
    let b = closed_before t.stack t.seen kind u q in
    state_same s t (a.0 ∙ sym b.0) (a.1 ∙ sym b.1)

-- what comes first went well, and so did the rest
pub joined-ok : (n : ℕ) (r : Result State LawFault) (f : State → Result State LawFault) (u : State) → outcome_then n r f ≡ Ok u →
    (t : State) × (r ≡ Ok t) × (f t ≡ Ok u)
joined-ok n (Err e) f u h = cc
joined-ok n (Ok t) f u h = (t, refl, moved_ok (f t) h)
  where
    moved_ok : (r : Result State LawFault) → outcome_moved n r ≡ Ok u → r ≡ Ok u
    moved_ok (Ok v) h = h
    moved_ok (Err e) h = cc

-- what follows a position decides the state there
pub after-injective : StateDecided
after-injective [] s t u p q = Ok-same {E = LawFault} s u p ∙ sym (Ok-same {E = LawFault} t u q)
after-injective (x ∷ items) s t u p q =
    let a = joined-ok 1 (step s x) (λ next. after next items) u p in
    let b = joined-ok 1 (step t x) (λ next. after next items) u q in
    let e = after-injective items a.0 b.0 u a.2 b.2 in
    step-injective x s t b.0 (a.1 ∙ ap Ok e) b.1

-- a list that goes well goes well in both parts, by one state
pub after_parts : (xs ys : List PlainItem) (s u : State) → after s (xs ++ ys) ≡ Ok u → (t : State) × (after s xs ≡ Ok t) × (after t ys ≡ Ok u)
after_parts xs ys s u h = joined-ok (length xs) (after s xs) (λ t. after t ys) u (sym (after-append s xs ys) ∙ h)

pub after_whole : (xs ys : List PlainItem) (s t u : State) → after s xs ≡ Ok t → after t ys ≡ Ok u → after s (xs ++ ys) ≡ Ok u
after_whole xs ys s t u p q = after-append-ok s xs ys t p ∙ ap (outcome_moved (length xs)) q

-- a piece that fails decides the verdict
pub piece_fails : PieceFails
piece_fails X new Z s f p q =
    ap (verdict_at (length (X ++ (new ++ Z))))
    (after-append-ok start X (new ++ Z) s p ∙ ap (outcome_moved (length X)) (after-append-err s new Z f q))

-- a piece that ends in the old piece's state keeps the list lawful
pub piece_fits : PieceFits
piece_fits X A Z new s t lawful p q r =
    let whole = after_parts X (A ++ Z) start finish (after_from_Lawful (X ++ (A ++ Z)) lawful) in
    let same : s ≡ whole.0 = Ok-same {E = LawFault} s whole.0 (sym p ∙ whole.1) in
    let inside = after_parts A Z s finish (rw same whole.2) in
    let same_too : t ≡ inside.0 = Ok-same {E = LawFault} t inside.0 (sym q ∙ inside.1) in
    Lawful_from_after (X ++ (new ++ Z)) (after_whole X (new ++ Z) start s finish p (after_whole new Z s t finish r (rw same_too inside.2)))

-- two changes that each leave the list lawful leave it lawful together
pub both_changes : (X A R A' R' : List PlainItem) → Lawful (X ++ (A ++ R)) → Lawful (X ++ (A' ++ R)) → Lawful (X ++ (A ++ R')) → Lawful (X ++ (A' ++ R'))
both_changes X A R A' R' old left right =
    let x = after_parts X (A ++ R) start finish (after_from_Lawful (X ++ (A ++ R)) old) in
    let a = after_parts A R x.0 finish x.2 in
    let y = after_parts X (A' ++ R) start finish (after_from_Lawful (X ++ (A' ++ R)) left) in
    let b = after_parts A' R y.0 finish y.2 in
    let z = after_parts X (A ++ R') start finish (after_from_Lawful (X ++ (A ++ R')) right) in
    let c = after_parts A R' z.0 finish z.2 in
    let xz : x.0 ≡ z.0 = Ok-same {E = LawFault} x.0 z.0 (sym x.1 ∙ z.1) in
    let ab : a.0 ≡ b.0 = after-injective R a.0 b.0 finish a.2 b.2 in
    let ac : a.0 ≡ c.0 = Ok-same {E = LawFault} a.0 c.0 (sym a.1 ∙ (ap (λ s. after s A) xz ∙ c.1)) in
    let rest : after b.0 R' ≡ Ok finish = ap (λ s. after s R') (sym ab ∙ ac) ∙ c.2 in
    Lawful_from_after (X ++ (A' ++ R')) (after_whole X (A' ++ R') start y.0 finish y.1 (after_whole A' R' y.0 b.0 finish b.1 rest))

place_of-fault_moved : (n : ℕ) (f : LawFault) → fault_place (fault_moved n f) ≡ n + fault_place f
place_of-fault_moved n (Unlawful at) = refl
place_of-fault_moved n (TooDeep at) = refl

-- an offence of one item has position 0
abbrev AtOnce : Result State LawFault → Type 0
AtOnce r = (f : LawFault) → r ≡ Err f → fault_place f ≡ 0

ok_at_once : (s : State) → AtOnce (Ok s)
ok_at_once s f h = cc

err_at_once : (e : LawFault) → fault_place e ≡ 0 → AtOnce (Err e)
err_at_once e p f h = let same : e ≡ f = cc in ap fault_place (sym same) ∙ p

if_at_once : (b : Bool) (r q : Result State LawFault) → AtOnce r → AtOnce q → AtOnce (if b then r else q)
if_at_once true r q p p' = p
if_at_once false r q p p' = p'

closed_at_once : (stack : List Kind) (seen : Bool) (k : Kind) → AtOnce (state_closed stack seen k)
closed_at_once [] seen k = err_at_once (Unlawful 0) refl
closed_at_once (inner ∷ outer) seen k = if_at_once (kind_same inner k) _ _ (ok_at_once _) (err_at_once (Unlawful 0) refl)

step_at_once : (s : State) (x : PlainItem) → AtOnce (step s x)
step_at_once s (Char c marks) = if_at_once (is_content_branch (top s.stack)) _ _ (ok_at_once s) (err_at_once (Unlawful 0) refl)
step_at_once s (Opening kind head marks pre origin generated) =
    if_at_once (may_open s kind) _ _ (if_at_once (nat_lt (length s.stack) 100) _ _ (ok_at_once _) (err_at_once (TooDeep 0) refl)) (err_at_once (Unlawful 0) refl)
step_at_once s (Closing kind pre) = closed_at_once s.stack s.seen kind

-- the items before the first that is not allowed, and it
record FirstBad (items : List PlainItem) (s : State) (fault : LawFault) : Type 0 where
  before : List PlainItem
  item : PlainItem
  suffix : List PlainItem
  there : State
  offence : LawFault
  parts : items ≡ before ++ (item ∷ suffix)
  went : after s before ≡ Ok there
  bad : step there item ≡ Err offence
  moved : fault ≡ fault_moved (length before) offence

first_bad : (items : List PlainItem) (s : State) (fault : LawFault) → after s items ≡ Err fault → FirstBad items s fault
first_bad [] s fault h = cc
first_bad (x ∷ xs) s fault h = by_step (first_bad xs) (step s x) refl h
  where
    moved_err : (r : Result State LawFault) → outcome_moved 1 r ≡ Err fault → (f : LawFault) × (r ≡ Err f) × (fault ≡ fault_moved 1 f)
    moved_err (Ok v) e = cc
    moved_err (Err f) e = let same : fault_moved 1 f ≡ fault = cc in (f, refl, sym same)

    again : (before : List PlainItem) (f g : LawFault) → g ≡ fault_moved (length before) f → fault_moved 1 g ≡ fault_moved (suc (length before)) f
    again before f g e = ap (fault_moved 1) e ∙ fault_moved-add 1 (length before) f ∙ ap (λ n. fault_moved n f) (one-add (length before))

    by_step : ((t : State) (f : LawFault) → after t xs ≡ Err f → FirstBad xs t f) → (r : Result State LawFault) → step s x ≡ r →
        outcome_then 1 r (λ next. after next xs) ≡ Err fault → FirstBad (x ∷ xs) s fault
    by_step rest (Err f) e h =
        let same : f ≡ fault = cc in
        record { before = []; item = x; suffix = xs; there = s; offence = f; parts = refl; went = refl; bad = e; moved = sym same ∙ sym (fault_moved-zero f) }
    by_step rest (Ok next) e h =
        let m = moved_err (after next xs) h in
        let r = rest next m.0 m.1 in
        record {
          before = x ∷ r.before;
          item = r.item;
          suffix = r.suffix;
          there = r.there;
          offence = r.offence;
          parts = ap (λ l. x ∷ l) r.parts;
          went = ap (λ o. outcome_then 1 o (λ next. after next r.before)) e ∙ ap (outcome_moved 1) r.went;
          bad = r.bad;
          moved = m.2 ∙ again r.before r.offence m.0 r.moved;
        }

-- the first offence of a list is one of an item of it, or its end
pub verdict_is_first_offence : VerdictIsFirstOffence
verdict_is_first_offence items fault h = by_end (after start items) refl h
  where
    by_end : (o : Result State LawFault) → after start items ≡ o → verdict_at (length items) o ≡ Some fault → IsFirstOffence items fault
    by_end (Err f) e h =
        let same : f ≡ fault = cc in
        let r = first_bad items start fault (e ∙ ap Err same) in
        AtItem r.before r.suffix r.item r.there r.offence r.parts r.went r.bad r.moved
    by_end (Ok s) e h = by_over (is_over s) refl h
      where
        by_over : (b : Bool) → is_over s ≡ b → (if b then None else Some (Unlawful (length items))) ≡ Some fault → IsFirstOffence items fault
        by_over true over h = cc
        by_over false over h = let same : Unlawful (length items) ≡ fault = cc in AtEnd s e over (sym same)

verdict_place : (items : List PlainItem) (fault : LawFault) → verdict items ≡ Some fault → fault_place fault ≤ length items
verdict_place items fault h = by_offence (verdict_is_first_offence items fault h)
  where
    by_offence : IsFirstOffence items fault → fault_place fault ≤ length items
    by_offence (AtItem before suffix item s f e went bad moved) =
        let at = step_at_once s item f bad in
        rw (e, moved, place_of-fault_moved (length before) f, at, length-append before (item ∷ suffix)) (omega arith)
    by_offence (AtEnd s e over same) = rw same (omega arith)

pub piece_differs : PieceDiffers
piece_differs X A Z new s t u lawful p q r apart =
    let whole = after_parts X (A ++ Z) start finish (after_from_Lawful (X ++ (A ++ Z)) lawful) in
    let same : s ≡ whole.0 = Ok-same {E = LawFault} s whole.0 (sym p ∙ whole.1) in
    let inside = after_parts A Z s finish (rw same whole.2) in
    let same_too : t ≡ inside.0 = Ok-same {E = LawFault} t inside.0 (sym q ∙ inside.1) in
    let old_end : after t Z ≡ Ok finish = rw same_too inside.2 in
    by_end (after u Z) refl old_end
  where
    end : ℕ
    end = length (X ++ (new ++ Z))

    Claim : Type 0
    Claim = (fault : LawFault) × (verdict (X ++ (new ++ Z)) ≡ Some fault) × (length X + length new ≤ fault_place fault) × (fault_place fault ≤ length (X ++ (new ++ Z)))

    new_end : after start (X ++ (new ++ Z)) ≡ outcome_moved (length X) (outcome_moved (length new) (after u Z))
    new_end = after-append-ok start X (new ++ Z) s p ∙ ap (outcome_moved (length X)) (after-append-ok s new Z u r)

    claim : (fault : LawFault) → verdict (X ++ (new ++ Z)) ≡ Some fault → length X + length new ≤ fault_place fault → Claim
    claim fault e far = (fault, e, far, verdict_place (X ++ (new ++ Z)) fault e)

    by_end : (o : Result State LawFault) → after u Z ≡ o → after t Z ≡ Ok finish → Claim
    by_end (Err f) e old_end =
        claim
        (fault_moved (length X) (fault_moved (length new) f))
        (ap (verdict_at end) (new_end ∙ ap (λ o. outcome_moved (length X) (outcome_moved (length new) o)) e))
        (rw (place_of-fault_moved (length X) (fault_moved (length new) f), place_of-fault_moved (length new) f) (omega arith))
    by_end (Ok v) e old_end =
        elim (cases_Bool (is_over v)) [
          | inl over ↦ absurd (apart (after-injective Z u t finish (e ∙ ap Ok (is_over-finish v over)) old_end))
          | inr not_over ↦ claim
              (Unlawful end)
              (ap (verdict_at end) (new_end ∙ ap (λ o. outcome_moved (length X) (outcome_moved (length new) o)) e) ∙ ap (λ b. if b then None else Some (Unlawful end)) not_over)
              (rw (length-append X (new ++ Z), length-append new Z) (omega arith))
        ]

pub state_decided : StateDecided
state_decided = after-injective
