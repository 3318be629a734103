-- The law along what a tree writes out: whole nodes leave the open kinds as they are, and the kinds
-- name the flag.
use Rattle.std.proofs.Common.{◌≡◌, ℕ, zero, suc, ◌≤◌, Bool, true, false, not, ◌&&◌, ◌||◌, if◌then◌else◌, List, [], ◌∷◌, ◌++◌, length, map, take, replicate, Result, Ok, Err, refl, sym, ap, ◌∙◌, subst, arith}
use Rattle.std.proofs.Math.Seq.{take-append_seam}
use Rattle.std.proofs.lemmas.Bool.{and_parts}
use Rattle.std.proofs.lemmas.List.{take-map, length-append}
use Rattle.ve_kinds.specs.declared.kind.Kind.{Kind}
use Rattle.ve_kinds.specs.declared.kind.Kind.TheVariants.{InternalList}
use Rattle.ve_kinds.specs.Table.{kind_same, may_hold, is_content_branch}
use Rattle.model_items.specs.declared.plain_item.PlainItem.{PlainItem}
use Rattle.model_items.specs.declared.plain_item.PlainItem.TheVariants.{Char, Opening, Closing}
use Rattle.model_items.specs.declared.law_fault.LawFault.{LawFault}
use Rattle.model_items.specs.declared.law_fault.LawFault.TheVariants.{Unlawful}
use Rattle.model_items.specs.Law.{State, start, finish, top, is_empty, is_over, may_open, state_opened, state_closed, step, outcome_moved, outcome_then, after}
use Rattle.model_items.specs.Tree.{Forest, Empty, Run, Branch, Shape, Letter, Begin, End, shape_of, shapes}
use Rattle.model_items.proofs.LawLemmas.{if_ok, Ok-same, opened_before, closed_before, joined-ok}

abbrev pub step_by : State → Shape → Result State LawFault
step_by s Letter = if is_content_branch (top s.stack) then Ok s else Err (Unlawful 0)
step_by s (Begin kind) = state_opened s kind
step_by s (End kind) = state_closed s.stack s.seen kind

abbrev pub after_by : State → List Shape → Result State LawFault
after_by s [] = Ok s
after_by s (x ∷ xs) = outcome_then 1 (step_by s x) (λ next. after_by next xs)

step-shape : (s : State) (x : PlainItem) → step s x ≡ step_by s (shape_of x)
step-shape s (Char c marks) = refl
step-shape s (Opening kind head marks pre origin generated) = refl
step-shape s (Closing kind pre) = refl

pub after-shapes : (items : List PlainItem) (s : State) → after s items ≡ after_by s (map shape_of items)
after-shapes [] s = refl
after-shapes (x ∷ items) s = λ i. outcome_then 1 (step-shape s x i) (λ next. after-shapes items next i)

-- two parts
pub by_parts : (xs ys : List Shape) (s u : State) → after_by s (xs ++ ys) ≡ Ok u → (t : State) × (after_by s xs ≡ Ok t) × (after_by t ys ≡ Ok u)
by_parts [] ys s u h = (s, refl, h)
by_parts (x ∷ xs) ys s u h =
    let p = joined-ok 1 (step_by s x) (λ next. after_by next (xs ++ ys)) u h in
    let q = by_parts xs ys p.0 u p.2 in
    (q.0, ap (λ r. outcome_then 1 r (λ next. after_by next xs)) p.1 ∙ ap (outcome_moved 1) q.1, q.2)

pub by_whole : (xs ys : List Shape) (s t u : State) → after_by s xs ≡ Ok t → after_by t ys ≡ Ok u → after_by s (xs ++ ys) ≡ Ok u
by_whole [] ys s t u p q = subst (λ v. after_by v ys ≡ Ok u) (sym (Ok-same {E = LawFault} s t p)) q
by_whole (x ∷ xs) ys s t u p q =
    let r = joined-ok 1 (step_by s x) (λ next. after_by next xs) t p in
    ap (λ o. outcome_then 1 o (λ next. after_by next (xs ++ ys))) r.1 ∙ ap (outcome_moved 1) (by_whole xs ys r.0 t u r.2 q)

pub by_one : (x : Shape) (s u : State) → step_by s x ≡ Ok u → after_by s (x ∷ []) ≡ Ok u
by_one x s u h = ap (λ r. outcome_then 1 r (λ next. after_by next [])) h

-- whole nodes leave the open kinds as they are
letters_level : (n : ℕ) (s t : State) → after_by s (replicate n Letter) ≡ Ok t → s ≡ t
letters_level zero s t h = Ok-same {E = LawFault} s t h
letters_level (suc n) s t h =
    let p = joined-ok 1 (step_by s Letter) (λ next. after_by next (replicate n Letter)) t h in
    Ok-same {E = LawFault} s p.0 (if_ok (is_content_branch (top s.stack)) _ _ p.0 p.1).1 ∙ letters_level n p.0 t p.2

pub level : (f : Forest) (s t : State) → after_by s (shapes f) ≡ Ok t → s.stack ≡ t.stack
level Empty s t h = ap (λ (u : State). u.stack) (Ok-same {E = LawFault} s t h)
level (Run count later) s t h =
    let p = by_parts (replicate count Letter) (shapes later) s t h in
    ap (λ (u : State). u.stack) (letters_level count s p.0 p.1) ∙ level later p.0 t p.2
level (Branch kind inside later) s t h =
    let p = joined-ok 1 (step_by s (Begin kind)) (λ next. after_by next (shapes inside ++ End kind ∷ shapes later)) t h in
    let begun = opened_before s p.0 kind p.1 in
    let q = by_parts (shapes inside) (End kind ∷ shapes later) p.0 t p.2 in
    let inner = level inside p.0 q.0 q.1 in
    let r = joined-ok 1 (step_by q.0 (End kind)) (λ next. after_by next (shapes later)) t q.2 in
    let ended = closed_before q.0.stack q.0.seen kind r.0 r.1 in
    let same = outer kind s.stack r.0.stack (begun.0 ∙ inner ∙ ended.0) in
    same ∙ level later r.0 t r.2
  where
    outer : (k : Kind) (xs ys : List Kind) → ◌≡◌ {A = List Kind} (k ∷ xs) (k ∷ ys) → xs ≡ ys
    outer k xs ys e = cc

-- the flag where something is open: whether the outermost kind is the internal list, which stands
-- nowhere else
abbrev pub SeenBy : List Kind → Bool → Type 0
SeenBy [] seen = Unit {0}
SeenBy (k ∷ []) seen = seen ≡ kind_same k InternalList
SeenBy (k ∷ (j ∷ ks)) seen = (kind_same k InternalList ≡ false) × SeenBy (j ∷ ks) seen

seen_opened : (stack : List Kind) (seen : Bool) (k : Kind) → SeenBy stack seen → may_open (record { stack = stack; seen = seen }) k ≡ true →
    SeenBy (k ∷ stack) (seen || kind_same k InternalList)
seen_opened [] seen k h allowed = by_kind (kind_same k InternalList) seen (and_parts (may_hold (top []) k) _ allowed).1
  where
    by_kind : (is seen : Bool) → (if is then true && not seen else not (true && seen)) ≡ true → (seen || is) ≡ is
    by_kind true true e = refl
    by_kind true false e = refl
    by_kind false true e = cc
    by_kind false false e = refl
seen_opened (j ∷ ks) seen k h allowed = by_kind (kind_same k InternalList) (and_parts (may_hold j k) _ allowed).1
  where
    or-false : (b : Bool) → (b || false) ≡ b
    or-false true = refl
    or-false false = refl

    by_kind : (is : Bool) → (if is then false && not seen else not (false && seen)) ≡ true → (is ≡ false) × SeenBy (j ∷ ks) (seen || is)
    by_kind true e = absurd (let bad : false ≡ true = e in cc)
    by_kind false e = (refl, subst (SeenBy (j ∷ ks)) (sym (or-false seen)) h)

seen_closed : (k : Kind) (stack : List Kind) (seen : Bool) → SeenBy (k ∷ stack) seen → SeenBy stack seen
seen_closed k [] seen h = tt
seen_closed k (j ∷ ks) seen h = h.1

abbrev pub IsTold : State → Type 0
IsTold s = SeenBy s.stack s.seen

told_one : (x : Shape) (s t : State) → IsTold s → step_by s x ≡ Ok t → IsTold t
told_one Letter s t h e = subst IsTold (Ok-same {E = LawFault} s t (if_ok (is_content_branch (top s.stack)) _ _ t e).1) h
told_one (Begin k) s t h e =
    let p = if_ok (may_open s k) _ _ t e in
    let q = if_ok _ _ _ t p.1 in
    subst IsTold (Ok-same {E = LawFault} (record { stack = k ∷ s.stack; seen = s.seen || kind_same k InternalList }) t q.1) (seen_opened s.stack s.seen k h p.0)
told_one (End k) s t h e =
    let p = closed_before s.stack s.seen k t e in
    subst (SeenBy t.stack) p.1 (seen_closed k t.stack s.seen (subst (λ stack. SeenBy stack s.seen) p.0 h))

pub told : (xs : List Shape) (s t : State) → IsTold s → after_by s xs ≡ Ok t → IsTold t
told [] s t h e = subst IsTold (Ok-same {E = LawFault} s t e) h
told (x ∷ xs) s t h e =
    let p = joined-ok 1 (step_by s x) (λ next. after_by next xs) t e in
    told xs p.0 t (told_one x s p.0 h p.1) p.2

-- where an item follows, not all is over
pub goes_on : (x : Shape) (xs : List Shape) (s u : State) → after_by s (x ∷ xs) ≡ Ok u → is_over s ≡ false
goes_on x xs s u h =
    let p = joined-ok 1 (step_by s x) (λ next. after_by next xs) u h in
    by_state s.stack s.seen x p.0 p.1
  where
    nothing_opens : (held is : Bool) → (held && (if is then true && not true else not (true && true))) ≡ true → ⊥
    nothing_opens true true e = cc
    nothing_opens true false e = cc
    nothing_opens false is e = cc

    by_state : (stack : List Kind) (seen : Bool) (x : Shape) (t : State) → step_by (record { stack = stack; seen = seen }) x ≡ Ok t →
        is_over (record { stack = stack; seen = seen }) ≡ false
    by_state (k ∷ ks) seen x t e = refl
    by_state [] false x t e = refl
    by_state [] true Letter t e = cc
    by_state [] true (Begin k) t e =
        let p = if_ok (may_open (record { stack = []; seen = true }) k) _ _ t e in
        absurd (nothing_opens (may_hold (top []) k) (kind_same k InternalList) p.0)
    by_state [] true (End k) t e = cc

-- the open kinds name the state, where not all is over
pub same_state : (s t : State) → s.stack ≡ t.stack → IsTold s → IsTold t → is_over s ≡ false → is_over t ≡ false → s ≡ t
same_state s t e hs ht os ot =
    let seen : s.seen ≡ t.seen =
    one_flag t.stack s.seen t.seen (subst (λ stack. SeenBy stack s.seen) e hs) ht (subst (λ stack. (is_empty stack && s.seen) ≡ false) e os) ot in
    λ i. record { stack = e i; seen = seen i }
  where
    one_flag : (stack : List Kind) (a b : Bool) → SeenBy stack a → SeenBy stack b → (is_empty stack && a) ≡ false → (is_empty stack && b) ≡ false → a ≡ b
    one_flag [] a b ha hb oa ob = oa ∙ sym ob
    one_flag (k ∷ []) a b ha hb oa ob = ha ∙ sym hb
    one_flag (k ∷ (j ∷ ks)) a b ha hb oa ob = one_flag (j ∷ ks) a b ha.1 hb.1 refl refl

pub on_before : (xs : List Shape) (s u : State) → 1 ≤ length xs → after_by s xs ≡ Ok u → is_over s ≡ false
on_before [] s u some h = absurd (omega (arith, some))
on_before (x ∷ xs) s u some h = goes_on x xs s u h

-- whole nodes after which an item stands leave the state as it is
pub pass : (pre post : List Shape) (f : Forest) (s : State) → after_by start pre ≡ Ok s → after_by start (pre ++ (shapes f ++ post)) ≡ Ok finish → 1 ≤ length post →
    after_by start (pre ++ shapes f) ≡ Ok s
pass pre post f s before whole some =
    let p = by_parts pre (shapes f ++ post) start finish whole in
    let is_s : p.0 ≡ s = Ok-same {E = LawFault} p.0 s (sym p.1 ∙ before) in
    let here : after_by s (shapes f ++ post) ≡ Ok finish = subst (λ t. after_by t (shapes f ++ post) ≡ Ok finish) is_s p.2 in
    let q = by_parts (shapes f) post s finish here in
    let known = told pre start s tt before in
    let on = on_before (shapes f ++ post) s finish (omega (arith, some, length-append (shapes f) post)) here in
    let same = same_state s q.0 (level f s q.0 q.1) known (told (shapes f) s q.0 known q.1) on (on_before post q.0 finish some q.2) in
    by_whole pre (shapes f) start s s before (q.1 ∙ ap Ok (sym same))

-- what stands at the prefix may be entered
pub enters : (pre more : List Shape) (kind : Kind) (s : State) → after_by start pre ≡ Ok s → after_by start (pre ++ (Begin kind ∷ more)) ≡ Ok finish →
    (u : State) × (state_opened s kind ≡ Ok u)
enters pre more kind s before whole =
    let p = by_parts pre (Begin kind ∷ more) start finish whole in
    let is_s : p.0 ≡ s = Ok-same {E = LawFault} p.0 s (sym p.1 ∙ before) in
    let q = joined-ok 1 (step_by p.0 (Begin kind)) (λ next. after_by next more) finish p.2 in
    (q.0, subst (λ t. state_opened t kind ≡ Ok q.0) is_s q.1)

-- the state after as many items
pub reached : (pre post : List Shape) (items : List PlainItem) (o : ℕ) (s : State) → pre ++ post ≡ map shape_of items → length pre ≡ o → after_by start pre ≡ Ok s →
    after start (take o items) ≡ Ok s
reached pre post items o s whole long before =
    after-shapes (take o items) start
    ∙ ap (after_by start) (sym (take-map shape_of o items) ∙ ap (take o) (sym whole) ∙ ap (λ n. take n (pre ++ post)) (sym long) ∙ take-append_seam pre post)
    ∙ before
