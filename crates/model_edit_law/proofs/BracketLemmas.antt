-- Open nodes of a list, as the law tells them.
use Rattle.std.specs.Prelude.{slice_get}
use Rattle.std.proofs.Common.{inl, inr, ◌⊎◌, Result, ◌≡◌, ℕ, zero, suc, ◌+◌, ◌<◌, ◌≤◌, Bool, true, false, not, ◌&&◌, ◌||◌, if◌then◌else◌, nat_lt, List, [], ◌∷◌, ◌++◌, length, map, take, drop, Option, Some, Ok, Err, refl, sym, ap, ◌∙◌, subst, arith, append-nil, zero-add, add-one}
use Rattle.std.proofs.lemmas.Bool.{cases_Bool, and_parts, and_from, ltb-true, lt-ltb}
use Rattle.ve_kinds.specs.declared.kind.Kind.{Kind}
use Rattle.ve_kinds.specs.declared.kind.Kind.TheVariants.{Root, InternalList}
use Rattle.model_items.specs.declared.plain_item.PlainItem.{PlainItem}
use Rattle.model_items.specs.declared.plain_item.PlainItem.TheVariants.{Char, Opening, Closing}
use Rattle.ve_kinds.specs.Table.{kind_same, may_hold, is_content_branch}
use Rattle.model_items.proofs.SameLemmas.{Means-kind_same}
use Rattle.model_items.specs.declared.law_fault.LawFault.{LawFault}
use Rattle.model_items.specs.declared.law_fault.LawFault.TheVariants.{Unlawful, TooDeep}
use Rattle.model_items.specs.Law.{State, start, finish, top, is_empty, is_over, may_open, state_opened, state_closed, step, outcome_then, outcome_moved, after, Lawful}
use Rattle.model_items.proofs.LawLemmas.{after-append, after_whole, if_ok, Ok-same, joined-ok, after_parts, opened_before, closed_before, after_from_Lawful}
use Rattle.std.proofs.lemmas.List.{append_assoc, length-append}
use Rattle.model_items.specs.Tree.{Open, opens_after, opens_with, length_to_close}
use Rattle.model_items.specs.Offsets.{partner, partner_of, openings_after, stack_at}

abbrev pub state_of : List Kind → Bool → State
state_of stack seen = record { stack = stack; seen = seen }

-- the flag before the opening of the innermost kind
abbrev pub seen_before : Kind → Bool → Bool
seen_before k seen = if kind_same k InternalList then false else seen

-- each open kind was allowed where it was opened
abbrev pub fits : Bool → List Kind → Bool
fits seen [] = true
fits seen (k ∷ outer) =
    may_open (state_of outer (seen_before k seen)) k && (nat_lt (length outer) 100 && fits (seen_before k seen) outer)

fits-opened : (s u : State) (k : Kind) → state_opened s k ≡ Ok u → fits s.seen s.stack ≡ true → fits u.seen u.stack ≡ true
fits-opened s u k h f =
    let p = if_ok (may_open s k) _ _ u h in
    let q = if_ok (nat_lt (length s.stack) 100) _ _ u p.1 in
    let b = opened_before s u k h in
    let stack : u.stack ≡ k ∷ s.stack = sym b.0 in
    let seen : seen_before k u.seen ≡ s.seen = sym b.1 in
    subst (λ st. fits u.seen st ≡ true) b.0
    (let P : Bool → Type 0 = λ v. (may_open (state_of s.stack v) k && (nat_lt (length s.stack) 100 && fits v s.stack)) ≡ true in
    subst P b.1 (and_from _ _ p.0 (and_from _ _ q.0 f)))

fits-closed : (s u : State) (k : Kind) → state_closed s.stack s.seen k ≡ Ok u → fits s.seen s.stack ≡ true → fits u.seen u.stack ≡ true
fits-closed s u k h f =
    let b = closed_before s.stack s.seen k u h in
    let g : fits u.seen (k ∷ u.stack) ≡ true = subst (λ st. fits u.seen st ≡ true) b.0 (subst (λ v. fits v s.stack ≡ true) b.1 f) in
    let p = and_parts (may_open (state_of u.stack (seen_before k u.seen)) k) _ g in
    let q = and_parts (nat_lt (length u.stack) 100) (fits (seen_before k u.seen) u.stack) p.1 in
    let r = and_parts (may_hold (top u.stack) k) _ p.0 in
    same (kind_same k InternalList) u.seen u.stack r.1 q.1
  where
    same : (first seen : Bool) (stack : List Kind) →
        (if first then is_empty stack && not (if first then false else seen) else not (is_over (state_of stack (if first then false else seen)))) ≡ true →
        fits (if first then false else seen) stack ≡ true → fits seen stack ≡ true
    same false seen stack h f = f
    same true seen [] h f = refl
    same true seen (k ∷ outer) h f = cc

fits-step : (s u : State) (x : PlainItem) → step s x ≡ Ok u → fits s.seen s.stack ≡ true → fits u.seen u.stack ≡ true
fits-step s u (Char c marks) h f =
    let e = Ok-same {E = LawFault} s u (if_ok (is_content_branch (top s.stack)) _ _ u h).1 in
    subst (λ (v : State). fits v.seen v.stack ≡ true) e f
fits-step s u (Opening kind head marks pre origin generated) h f = fits-opened s u kind h f
fits-step s u (Closing kind pre) h f = fits-closed s u kind h f

-- The kinds that are open after items were each allowed.
pub fits-after : (items : List PlainItem) (s u : State) → after s items ≡ Ok u → fits s.seen s.stack ≡ true → fits u.seen u.stack ≡ true
fits-after [] s u h f = subst (λ (v : State). fits v.seen v.stack ≡ true) (Ok-same {E = LawFault} s u h) f
fits-after (x ∷ items) s u h f =
    let p = joined-ok 1 (step s x) (λ next. after next items) u h in
    fits-after items p.0 u p.2 (fits-step s p.0 x p.1 f)

-- an opening's kind; of no other item it is read
abbrev pub kind_of : PlainItem → Kind
kind_of (Opening kind head marks pre origin generated) = kind
kind_of _ = Root

-- openings alone
abbrev pub Openings : List PlainItem → List Kind → Type 0
Openings [] [] = Unit {0}
Openings [] (k ∷ kinds) = ⊥
Openings (Opening kind head marks pre origin generated ∷ openings) (k ∷ kinds) = (kind ≡ k) × Openings openings kinds
Openings (Opening kind head marks pre origin generated ∷ openings) [] = ⊥
Openings (Char c marks ∷ openings) kinds = ⊥
Openings (Closing kind pre ∷ openings) kinds = ⊥

Openings-step : (x : PlainItem) (items outer : List PlainItem) (s t : State) → step s x ≡ Ok t → Openings outer s.stack →
    (outer' : List PlainItem) × (openings_after outer (x ∷ items) ≡ openings_after outer' items) × Openings outer' t.stack
Openings-step (Char c marks) items outer s t h o =
    let e = Ok-same {E = LawFault} s t (if_ok (is_content_branch (top s.stack)) _ _ t h).1 in
    (outer, refl, subst (λ (v : State). Openings outer v.stack) e o)
Openings-step (Opening kind head marks pre origin generated) items outer s t h o = (
  Opening kind head marks pre origin generated ∷ outer,
  refl,
  subst (λ st. Openings (Opening kind head marks pre origin generated ∷ outer) st) (opened_before s t kind h).0 (refl, o),
)
Openings-step (Closing kind pre) items outer s t h o =
    (drop 1 outer, refl, fewer outer (subst (λ st. Openings outer st) (closed_before s.stack s.seen kind t h).0 o))
  where
    fewer : (outer : List PlainItem) → Openings outer (kind ∷ t.stack) → Openings (drop 1 outer) t.stack
    fewer [] o = absurd o
    fewer (Opening kind' head' marks' pre' origin' generated' ∷ outer) o = o.1
    fewer (Char c' marks' ∷ outer) o = absurd o
    fewer (Closing kind' pre' ∷ outer) o = absurd o

-- The openings of the open nodes are openings of the open kinds.
pub Openings-after : (items outer : List PlainItem) (s u : State) → after s items ≡ Ok u → Openings outer s.stack → Openings (openings_after outer items) u.stack
Openings-after [] outer s u h o = subst (λ (v : State). Openings outer v.stack) (Ok-same {E = LawFault} s u h) o
Openings-after (x ∷ items) outer s u h o =
    let p = joined-ok 1 (step s x) (λ next. after next items) u h in
    let q = Openings-step x items outer s p.0 p.1 o in
    subst (λ v. Openings v u.stack) (sym q.1) (Openings-after items q.0 p.0 u p.2 q.2)

kinds_after-step : (x : PlainItem) (at : ℕ) (nodes : List Open) (s t : State) → step s x ≡ Ok t → map (λ (n : Open). n.kind) nodes ≡ s.stack →
    map (λ (n : Open). n.kind) (opens_with x at nodes) ≡ t.stack
kinds_after-step (Char c marks) at nodes s t h e =
    e ∙ ap (λ (v : State). v.stack) (Ok-same {E = LawFault} s t (if_ok (is_content_branch (top s.stack)) _ _ t h).1)
kinds_after-step (Opening kind head marks pre origin generated) at nodes s t h e = ap (λ v. kind ∷ v) e ∙ (opened_before s t kind h).0
kinds_after-step (Closing kind pre) at nodes s t h e = fewer nodes (e ∙ (closed_before s.stack s.seen kind t h).0)
  where
    fewer : (nodes : List Open) → map (λ (n : Open). n.kind) nodes ≡ kind ∷ t.stack → map (λ (n : Open). n.kind) (drop 1 nodes) ≡ t.stack
    fewer [] e = cc
    fewer (node ∷ nodes) e = cc

-- The open nodes have the kinds of the state.
pub kinds_after : (items : List PlainItem) (at : ℕ) (nodes : List Open) (s u : State) → after s items ≡ Ok u → map (λ (n : Open). n.kind) nodes ≡ s.stack →
    map (λ (n : Open). n.kind) (opens_after nodes at items) ≡ u.stack
kinds_after [] at nodes s u h e = e ∙ ap (λ (v : State). v.stack) (Ok-same {E = LawFault} s u h)
kinds_after (x ∷ items) at nodes s u h e =
    let p = joined-ok 1 (step s x) (λ next. after next items) u h in
    kinds_after items (suc at) (opens_with x at nodes) p.0 u p.2 (kinds_after-step x at nodes s p.0 p.1 e)

pub stack_at-after : (items : List PlainItem) (at : ℕ) (u : State) → after start (take at items) ≡ Ok u → stack_at items at ≡ u.stack
stack_at-after items at u h = kinds_after (take at items) 0 [] start u h refl

pub slice_get-at : (items : List PlainItem) (x : PlainItem) (rest : List PlainItem) → slice_get (items ++ x ∷ rest) (length items) ≡ Some x
slice_get-at [] x rest = refl
slice_get-at (y ∷ items) x rest = slice_get-at items x rest

-- Just past the partner of each open node, innermost first: the items so far, and those up to its
-- closing.
abbrev pub Ends : ℕ → List PlainItem → List Open → Type 0
Ends depth done [] = Unit {0}
Ends depth done (node ∷ nodes) =
    ((rest : List PlainItem) → suc (partner (done ++ rest) node.from) ≡ length done + length_to_close depth rest)
    × Ends (suc depth) done nodes

module _ (done : List PlainItem) (x : PlainItem) where
  -- one more item, which takes the depth from d to e
  ends_more : (d e : ℕ) (nodes : List Open) → ((k : ℕ) (rest : List PlainItem) → length_to_close (k + d) (x ∷ rest) ≡ suc (length_to_close (k + e) rest)) →
      (k : ℕ) → Ends (k + d) done nodes → Ends (k + e) (done ++ x ∷ []) nodes
  ends_more d e [] step k h = tt
  ends_more d e (node ∷ nodes) step k h = (
    (λ rest.
        ap (λ v. suc (partner v node.from)) (append_assoc done (x ∷ []) rest)
        ∙ h.0 (x ∷ rest)
        ∙ ap (λ v. length done + v) (step k rest)
        ∙ omega (arith, length-append done (x ∷ []))),
    subst (λ v. Ends v (done ++ x ∷ []) nodes) (suc_plus k e)
        (ends_more d e nodes step (suc k) (subst (λ v. Ends v done nodes) (sym (suc_plus k d)) h.1)),
  )
    where
      suc_plus : (m n : ℕ) → suc m + n ≡ suc (m + n)
      suc_plus m n = omega arith

length-snoc : (done : List PlainItem) (x : PlainItem) → length (done ++ x ∷ []) ≡ suc (length done)
length-snoc done x = omega (arith, length-append done (x ∷ []))

snoc-append : (done : List PlainItem) (x : PlainItem) (items : List PlainItem) → (done ++ x ∷ []) ++ items ≡ done ++ x ∷ items
snoc-append done x items = append_assoc done (x ∷ []) items

pub drop-past : (items : List PlainItem) (x : PlainItem) (rest : List PlainItem) → drop (suc (length items)) (items ++ x ∷ rest) ≡ rest
drop-past [] x rest = refl
drop-past (y ∷ items) x rest = drop-past items x rest

-- the partner of an opening that stands between two parts
pub partner-opening : (items : List PlainItem) (kind : Kind) (head : Rattle.ve_base.specs.declared.head.Head.Head) (marks : List Rattle.ve_base.specs.declared.marks.Mark.Mark)
    (pre : List ℕ) (origin : Option ℕ) (generated : Bool) (rest : List PlainItem) →
    partner (items ++ Opening kind head marks pre origin generated ∷ rest) (length items) ≡ length items + length_to_close 0 rest
partner-opening items kind head marks pre origin generated rest =
    let x = Opening kind head marks pre origin generated in
    ap (λ v. partner_of v (items ++ x ∷ rest) (length items)) (slice_get-at items x rest)
    ∙ ap (λ v. length items + length_to_close 0 v) (drop-past items x rest)

pub Ends-after : (items done : List PlainItem) (nodes : List Open) → Ends 0 done nodes → Ends 0 (done ++ items) (opens_after nodes (length done) items)
Ends-after [] done nodes h = subst (λ v. Ends 0 v nodes) (sym (append-nil done)) h
Ends-after (Char c marks ∷ items) done nodes h =
    let x = Char c marks in
    let more : Ends 0 (done ++ x ∷ []) nodes =
    subst (λ v. Ends v (done ++ x ∷ []) nodes) (zero-add 0)
    (ends_more done x 0 0 nodes (λ k rest. refl) 0 (subst (λ v. Ends v done nodes) (sym (zero-add 0)) h)) in
    again x items done nodes (Ends-after items (done ++ x ∷ []) nodes more)
  where
    again : (x : PlainItem) (items done : List PlainItem) (nodes : List Open) → Ends 0 ((done ++ x ∷ []) ++ items) (opens_after nodes (length (done ++ x ∷ [])) items) →
        Ends 0 (done ++ x ∷ items) (opens_after nodes (suc (length done)) items)
    again x items done nodes h =
        subst (λ n. Ends 0 (done ++ x ∷ items) (opens_after nodes n items)) (length-snoc done x)
        (subst (λ v. Ends 0 v (opens_after nodes (length (done ++ x ∷ [])) items)) (snoc-append done x items) h)
Ends-after (Opening kind head marks pre origin generated ∷ items) done nodes h =
    let x = Opening kind head marks pre origin generated in
    let node : Open = record { kind = kind; from = length done } in
    let more : Ends 1 (done ++ x ∷ []) nodes =
    subst (λ v. Ends v (done ++ x ∷ []) nodes) (zero-add 1)
    (ends_more done x 0 1 nodes (λ k rest. ap (λ n. suc (length_to_close n rest)) (omega arith)) 0 (subst (λ v. Ends v done nodes) (sym (zero-add 0)) h)) in
    let first : (rest : List PlainItem) → suc (partner ((done ++ x ∷ []) ++ rest) (length done)) ≡ length (done ++ x ∷ []) + length_to_close 0 rest =
    λ rest. ap (λ v. suc (partner v (length done))) (snoc-append done x rest) ∙ ap suc (partner-opening done kind head marks pre origin generated rest) ∙ omega (arith, length-snoc done x) in
    let all : Ends 0 (done ++ x ∷ []) (node ∷ nodes) = (first, more) in
    let rest : Ends 0 ((done ++ x ∷ []) ++ items) (opens_after (node ∷ nodes) (length (done ++ x ∷ [])) items) = Ends-after items (done ++ x ∷ []) (node ∷ nodes) all in
    subst (λ n. Ends 0 (done ++ x ∷ items) (opens_after (node ∷ nodes) n items)) (length-snoc done x)
    (subst (λ v. Ends 0 v (opens_after (node ∷ nodes) (length (done ++ x ∷ [])) items)) (snoc-append done x items) rest)
Ends-after (Closing kind pre ∷ items) done nodes h =
    let x = Closing kind pre in
    let more : Ends 0 (done ++ x ∷ []) (drop 1 nodes) = fewer nodes h in
    let rest : Ends 0 ((done ++ x ∷ []) ++ items) (opens_after (drop 1 nodes) (length (done ++ x ∷ [])) items) = Ends-after items (done ++ x ∷ []) (drop 1 nodes) more in
    subst (λ n. Ends 0 (done ++ x ∷ items) (opens_after (drop 1 nodes) n items)) (length-snoc done x)
    (subst (λ v. Ends 0 v (opens_after (drop 1 nodes) (length (done ++ x ∷ [])) items)) (snoc-append done x items) rest)
  where
    fewer : (nodes : List Open) → Ends 0 done nodes → Ends 0 (done ++ Closing kind pre ∷ []) (drop 1 nodes)
    fewer [] h = tt
    fewer (node ∷ nodes) h =
        subst (λ v. Ends v (done ++ Closing kind pre ∷ []) nodes) (zero-add 0)
        (ends_more done (Closing kind pre) 1 0 nodes (λ k rest. ap (λ n. length_to_close n (Closing kind pre ∷ rest)) (add-one k) ∙ ap (λ n. suc (length_to_close n rest)) (omega arith)) 0
        (subst (λ v. Ends v done nodes) (sym (zero-add 1)) h.1))

-- under further open nodes
abbrev pub deeper : List Kind → ℕ → ℕ
deeper [] depth = depth
deeper (k ∷ inner) depth = suc (deeper inner depth)

-- one kind holds what the other does
pub record HoldsSame (k k' : Kind) : Type 0 where
  pub kinds : (c : Kind) → may_hold k' c ≡ may_hold k c
  pub chars : is_content_branch k' ≡ is_content_branch k

pub HoldsSame-itself : (k : Kind) → HoldsSame k k
HoldsSame-itself k = record { kinds = λ c. refl; chars = refl }

pub or_false : (b : Bool) → (b || false) ≡ b
or_false true = refl
or_false false = refl

-- it ends in the state, or nesting is too deep on the way
abbrev pub Leads : Result State LawFault → State → Type 0
Leads r u = (r ≡ Ok u) ⊎ ((n : ℕ) × (r ≡ Err (TooDeep n)))

pub leads_cons : (s t u : State) (x : PlainItem) (items : List PlainItem) → Leads (step s x) t → Leads (after t items) u → Leads (after s (x ∷ items)) u
leads_cons s t u x items h g =
    elim h [
      | inl a ↦ elim g [
        | inl b ↦ inl (ap (λ v. outcome_then 1 v (λ next. after next items)) a ∙ ap (outcome_moved 1) b)
        | inr b ↦ inr (1 + b.0, ap (λ v. outcome_then 1 v (λ next. after next items)) a ∙ ap (outcome_moved 1) b.1)
      ]
      | inr a ↦ inr (a.0, ap (λ v. outcome_then 1 v (λ next. after next items)) a.1)
    ]

pub leads_append : (s t u : State) (xs ys : List PlainItem) → Leads (after s xs) t → Leads (after t ys) u → Leads (after s (xs ++ ys)) u
leads_append s t u xs ys h g =
    elim h [
      | inl a ↦ elim g [
        | inl b ↦ inl (after_whole xs ys s t u a b)
        | inr b ↦ inr (length xs + b.0, after-append s xs ys ∙ ap (λ r. outcome_then (length xs) r (λ v. after v ys)) a ∙ ap (outcome_moved (length xs)) b.1)
      ]
      | inr a ↦ inr (a.0, after-append s xs ys ∙ ap (λ r. outcome_then (length xs) r (λ v. after v ys)) a.1)
    ]

-- an opening that is allowed where it stands
pub opened_leads : (s : State) (k : Kind) → may_open s k ≡ true → kind_same k InternalList ≡ false → Leads (state_opened s k) (state_of (k ∷ s.stack) s.seen)
opened_leads s k may other = choose (nat_lt (length s.stack) 100)
  where
    choose : (b : Bool) → Leads (state_opened s k) (state_of (k ∷ s.stack) s.seen)
    choose b =
        elim (cases_Bool (nat_lt (length s.stack) 100)) [
          | inl few ↦ inl (rw (may, few) (ap (λ v. Ok (state_of (k ∷ s.stack) v)) (ap (λ b. s.seen || b) other ∙ or_false s.seen)))
          | inr many ↦ inr (0, rw (may, many))
        ]

-- The items begin with what stands inside a node of kind k, under the nodes `inner` that are open
-- in it, and its closing. What stands inside may stand so in any node that holds the same, no
-- deeper.
pub record Closes (inner outer : List Kind) (k : Kind) (items : List PlainItem) : Type 0 where
  pub inside : List PlainItem
  pub pre : List ℕ
  pub rest : List PlainItem
  pub whole : items ≡ inside ++ Closing k pre ∷ rest
  pub ends : (other : List PlainItem) → length_to_close (deeper inner 0) (inside ++ Closing k pre ∷ other) ≡ suc (length inside)
  pub through : (depth : ℕ) (other : List PlainItem) → length_to_close (deeper inner (suc depth)) (inside ++ Closing k pre ∷ other) ≡ suc (length inside + length_to_close depth other)
  pub kept : (k' : Kind) (outer' : List Kind) (seen : Bool) → HoldsSame k k' → length outer' ≤ length outer →
      after (state_of (inner ++ k' ∷ outer') seen) inside ≡ Ok (state_of (k' ∷ outer') seen)
  -- anywhere, but for nesting
  pub leads : (k' : Kind) (outer' : List Kind) (seen : Bool) → HoldsSame k k' →
      Leads (after (state_of (inner ++ k' ∷ outer') seen) inside) (state_of (k' ∷ outer') seen)

module _ (k k' : Kind) (same : HoldsSame k k') (outer outer' : List Kind) where
  top_kinds : (inner : List Kind) (c : Kind) → may_hold (top (inner ++ k' ∷ outer')) c ≡ may_hold (top (inner ++ k ∷ outer)) c
  top_kinds [] c = same.kinds c
  top_kinds (i ∷ inner) c = refl

  top_chars : (inner : List Kind) → is_content_branch (top (inner ++ k' ∷ outer')) ≡ is_content_branch (top (inner ++ k ∷ outer))
  top_chars [] = same.chars
  top_chars (i ∷ inner) = refl

some_open : (inner outer : List Kind) (k : Kind) → is_empty (inner ++ k ∷ outer) ≡ false
some_open [] outer k = refl
some_open (i ∷ inner) outer k = refl

no_deeper : (inner outer outer' : List Kind) (k k' : Kind) → length outer' ≤ length outer → length (inner ++ k' ∷ outer') ≤ length (inner ++ k ∷ outer)
no_deeper [] outer outer' k k' h = omega arith
no_deeper (i ∷ inner) outer outer' k k' h = let r = no_deeper inner outer outer' k k' h in omega arith

-- an opening inside is allowed under other outer nodes
may_open_kept : (s : State) (inner outer outer' : List Kind) (k k' kind : Kind) (seen : Bool) → s.stack ≡ inner ++ k ∷ outer → may_open s kind ≡ true →
    HoldsSame k k' → (may_open (state_of (inner ++ k' ∷ outer') seen) kind ≡ true) × (kind_same kind InternalList ≡ false)
may_open_kept s inner outer outer' k k' kind seen e may same =
    let new = inner ++ k' ∷ outer' in
    let m = and_parts (may_hold (top s.stack) kind) _ may in
    let holds : may_hold (top new) kind ≡ true = top_kinds k k' same outer outer' inner kind ∙ ap (λ st. may_hold (top st) kind) (sym e) ∙ m.0 in
    let other : kind_same kind InternalList ≡ false = not_il (kind_same kind InternalList) (ap is_empty e ∙ some_open inner outer k) m.1 in (
      and_from _ _ holds
          (ap (λ b. if b then is_empty new && not seen else not (is_over (state_of new seen))) other
          ∙ ap (λ b. not (b && seen)) (some_open inner outer' k')),
      other,
    )
  where
    not_il : (b : Bool) → is_empty s.stack ≡ false → (if b then is_empty s.stack && not s.seen else not (is_over s)) ≡ true → b ≡ false
    not_il false e h = refl
    not_il true e h = absurd (let g : (false && not s.seen) ≡ true = ap (λ b. b && not s.seen) (sym e) ∙ h in cc)

-- an opening inside, under other outer nodes
opened_kept : (s t : State) (inner outer outer' : List Kind) (k k' kind : Kind) (seen : Bool) → s.stack ≡ inner ++ k ∷ outer → state_opened s kind ≡ Ok t →
    HoldsSame k k' → length outer' ≤ length outer → state_opened (state_of (inner ++ k' ∷ outer') seen) kind ≡ Ok (state_of (kind ∷ (inner ++ k' ∷ outer')) seen)
opened_kept s t inner outer outer' k k' kind seen e h same low =
    let new = inner ++ k' ∷ outer' in
    let p = if_ok (may_open s kind) _ _ t h in
    let q = if_ok (nat_lt (length s.stack) 100) _ _ t p.1 in
    let m = and_parts (may_hold (top s.stack) kind) _ p.0 in
    let holds : may_hold (top new) kind ≡ true = top_kinds k k' same outer outer' inner kind ∙ ap (λ st. may_hold (top st) kind) (sym e) ∙ m.0 in
    let other : kind_same kind InternalList ≡ false = not_first (kind_same kind InternalList) (ap is_empty e ∙ some_open inner outer k) m.1 in
    let few : nat_lt (length new) 100 ≡ true =
    (let l = no_deeper inner outer outer' k k' low in
    let n = ap length e in
    let m = ltb-true (length s.stack) 100 q.0 in
    lt-ltb (length new) 100 (omega arith)) in
    let allowed : may_open (state_of new seen) kind ≡ true =
    and_from _ _ holds
    (ap (λ b. if b then is_empty new && not seen else not (is_over (state_of new seen))) other
    ∙ ap (λ b. not (b && seen)) (some_open inner outer' k')) in
    rw (allowed, few) (ap (λ v. Ok (state_of (kind ∷ new) v)) (ap (λ b. seen || b) other ∙ or_false seen))
  where
    not_first : (b : Bool) → is_empty s.stack ≡ false → (if b then is_empty s.stack && not s.seen else not (is_over s)) ≡ true → b ≡ false
    not_first false e h = refl
    not_first true e h = absurd (let g : (false && not s.seen) ≡ true = ap (λ b. b && not s.seen) (sym e) ∙ h in cc)

-- one more item before, under which the depth is another
closes_more : (x : PlainItem) (inner inner' outer : List Kind) (k : Kind) (items : List PlainItem) →
    ((rest : List PlainItem) → length_to_close (deeper inner 0) (x ∷ rest) ≡ suc (length_to_close (deeper inner' 0) rest)) →
    ((depth : ℕ) (rest : List PlainItem) → length_to_close (deeper inner (suc depth)) (x ∷ rest) ≡ suc (length_to_close (deeper inner' (suc depth)) rest)) →
    ((k' : Kind) (outer' : List Kind) (seen : Bool) → HoldsSame k k' → length outer' ≤ length outer →
    step (state_of (inner ++ k' ∷ outer') seen) x ≡ Ok (state_of (inner' ++ k' ∷ outer') seen)) →
    ((k' : Kind) (outer' : List Kind) (seen : Bool) → HoldsSame k k' →
    Leads (step (state_of (inner ++ k' ∷ outer') seen) x) (state_of (inner' ++ k' ∷ outer') seen)) →
    Closes inner' outer k items → Closes inner outer k (x ∷ items)
closes_more x inner inner' outer k items step_ steps keeps leads_ r = record {
  inside = x ∷ r.inside;
  pre = r.pre;
  rest = r.rest;
  whole = ap (λ v. x ∷ v) r.whole;
  ends = λ other. step_ (r.inside ++ Closing k r.pre ∷ other) ∙ ap suc (r.ends other);
  through = λ depth other. steps depth (r.inside ++ Closing k r.pre ∷ other) ∙ ap suc (r.through depth other) ∙ omega arith;
  kept = λ k' outer' seen same low.
      ap (λ v. outcome_then 1 v (λ next. after next r.inside)) (keeps k' outer' seen same low) ∙ ap (λ v. outcome_moved 1 v) (r.kept k' outer' seen same low);
  leads = λ k' outer' seen same.
      leads_cons (state_of (inner ++ k' ∷ outer') seen) (state_of (inner' ++ k' ∷ outer') seen) (state_of (k' ∷ outer') seen) x r.inside
      (leads_ k' outer' seen same) (r.leads k' outer' seen same);
}

pub closes : (items : List PlainItem) (inner outer : List Kind) (k : Kind) (s : State) → s.stack ≡ inner ++ k ∷ outer → after s items ≡ Ok finish → Closes inner outer k items
closes [] inner outer k s e h = absurd (empty inner (sym e ∙ ap (λ (v : State). v.stack) (Ok-same {E = LawFault} s finish h)))
  where
    empty : (inner : List Kind) → inner ++ k ∷ outer ≡ [] → ⊥
    empty [] e = cc
    empty (i ∷ inner) e = cc
closes (Char c marks ∷ items) inner outer k s e h =
    let p = joined-ok 1 (step s (Char c marks)) (λ next. after next items) finish h in
    let i = if_ok (is_content_branch (top s.stack)) _ _ p.0 p.1 in
    let same = Ok-same {E = LawFault} s p.0 i.1 in
    let keeps : (k' : Kind) (outer' : List Kind) (seen : Bool) → HoldsSame k k' →
    step (state_of (inner ++ k' ∷ outer') seen) (Char c marks) ≡ Ok (state_of (inner ++ k' ∷ outer') seen) =
    λ k' outer' seen hold.
    ap (λ b. if b then Ok (state_of (inner ++ k' ∷ outer') seen) else Err (Unlawful 0))
    (top_chars k k' hold outer outer' inner ∙ ap (λ st. is_content_branch (top st)) (sym e) ∙ i.0) in
    closes_more (Char c marks) inner inner outer k items (λ rest. refl) (λ depth rest. refl) (λ k' outer' seen hold low. keeps k' outer' seen hold) (λ k' outer' seen hold. inl (keeps k' outer' seen hold))
    (closes items inner outer k p.0 (ap (λ (v : State). v.stack) (sym same) ∙ e) p.2)
closes (Opening kind head marks pre origin generated ∷ items) inner outer k s e h =
    let x = Opening kind head marks pre origin generated in
    let p = joined-ok 1 (step s x) (λ next. after next items) finish h in
    let b = opened_before s p.0 kind p.1 in
    closes_more x inner (kind ∷ inner) outer k items (λ rest. refl) (λ depth rest. refl)
    (λ k' outer' seen hold low. opened_kept s p.0 inner outer outer' k k' kind seen e p.1 hold low)
    (λ k' outer' seen hold.
    (let m = may_open_kept s inner outer outer' k k' kind seen e (if_ok (may_open s kind) _ _ p.0 p.1).0 hold in
    opened_leads (state_of (inner ++ k' ∷ outer') seen) kind m.0 m.1))
    (closes items (kind ∷ inner) outer k p.0 (sym b.0 ∙ ap (λ v. kind ∷ v) e) p.2)
closes (Closing kind pre ∷ items) [] outer k s e h =
    let p = joined-ok 1 (step s (Closing kind pre)) (λ next. after next items) finish h in
    let b = closed_before s.stack s.seen kind p.0 p.1 in
    let whole : k ∷ outer ≡ kind ∷ (p.0).stack = sym e ∙ b.0 in
    let same : kind ≡ k = cc in
    record {
      inside = [];
      pre = pre;
      rest = items;
      whole = ap (λ v. Closing v pre ∷ items) same;
      ends = λ other. refl;
      through = λ depth other. omega arith;
      kept = λ k' outer' seen hold low. refl;
      leads = λ k' outer' seen hold. inl refl;
    }
closes (Closing kind pre ∷ items) (i ∷ inner) outer k s e h =
    let x = Closing kind pre in
    let p = joined-ok 1 (step s x) (λ next. after next items) finish h in
    let b = closed_before s.stack s.seen kind p.0 p.1 in
    let whole : i ∷ (inner ++ k ∷ outer) ≡ kind ∷ (p.0).stack = sym e ∙ b.0 in
    let stack : (p.0).stack ≡ inner ++ k ∷ outer = cc in
    let first : i ≡ kind = cc in
    let keeps : (k' : Kind) (outer' : List Kind) (seen : Bool) → HoldsSame k k' →
    step (state_of (i ∷ (inner ++ k' ∷ outer')) seen) x ≡ Ok (state_of (inner ++ k' ∷ outer') seen) =
    λ k' outer' seen hold.
    ap (λ b. if b then Ok (state_of (inner ++ k' ∷ outer') seen) else Err (Unlawful 0)) (ap (λ v. kind_same v kind) first ∙ Means-kind_same.itself kind) in
    closes_more x (i ∷ inner) inner outer k items (λ rest. refl) (λ depth rest. refl) (λ k' outer' seen hold low. keeps k' outer' seen hold) (λ k' outer' seen hold. inl (keeps k' outer' seen hold)) (closes items inner outer k p.0 stack p.2)

-- where an item stands, the list is what is before it, it, and what is after it
pub slice_get-split : (items : List PlainItem) (n : ℕ) (x : PlainItem) → slice_get items n ≡ Some x →
    (items ≡ take n items ++ x ∷ drop (suc n) items) × (length (take n items) ≡ n)
slice_get-split [] n x h = cc
slice_get-split (y ∷ items) zero x h = (ap (λ v. v ∷ items) (let e : y ≡ x = cc in e), refl)
slice_get-split (y ∷ items) (suc n) x h =
    let r = slice_get-split items n x h in (ap (λ v. y ∷ v) r.0, ap suc r.1)

-- A node of a lawful list: what is before it, what it begins with, and what is in it and after it.
pub record NodeParts (items : List PlainItem) (at : ℕ) (kind : Kind) : Type 0 where
  pub before : State
  pub reached : after start (take at items) ≡ Ok before
  pub allowed : (u : State) × (state_opened before kind ≡ Ok u)
  pub closed : Closes [] before.stack kind (drop (suc at) items)
  pub its_partner : partner items at ≡ at + suc (length closed.inside)
  pub within : suc (partner items at) ≤ length items

pub node_parts : (items : List PlainItem) (at : ℕ) (kind : Kind) (head : Rattle.ve_base.specs.declared.head.Head.Head) (marks : List Rattle.ve_base.specs.declared.marks.Mark.Mark)
    (pre : List ℕ) (origin : Option ℕ) (generated : Bool) → Lawful items → slice_get items at ≡ Some (Opening kind head marks pre origin generated) → NodeParts items at kind
node_parts items at kind head marks pre origin generated lawful h =
    let x = Opening kind head marks pre origin generated in
    let s = slice_get-split items at x h in
    let p = after_parts (take at items) (x ∷ drop (suc at) items) start finish (ap (after start) (sym s.0) ∙ after_from_Lawful items lawful) in
    let q = joined-ok 1 (step p.0 x) (λ next. after next (drop (suc at) items)) finish p.2 in
    let o = opened_before p.0 q.0 kind q.1 in
    let c = closes (drop (suc at) items) [] (p.0).stack kind q.0 (sym o.0) q.2 in
    let far : partner items at ≡ at + suc (length c.inside) =
    ap (λ v. partner v at) s.0 ∙ ap (partner (take at items ++ x ∷ drop (suc at) items)) (sym s.1)
    ∙ partner-opening (take at items) kind head marks pre origin generated (drop (suc at) items)
    ∙ ap (λ n. n + length_to_close 0 (drop (suc at) items)) s.1
    ∙ ap (λ v. at + length_to_close 0 v) c.whole ∙ ap (λ n. at + n) (c.ends c.rest) in
    let lengths : length items ≡ at + suc (length c.inside + suc (length c.rest)) =
    ap length s.0 ∙ length-append (take at items) (x ∷ drop (suc at) items) ∙ ap (λ n. n + suc (length (drop (suc at) items))) s.1
    ∙ ap (λ v. at + suc (length v)) c.whole ∙ ap (λ n. at + suc n) (length-append c.inside (Closing kind c.pre ∷ c.rest)) in
    record { before = p.0; reached = p.1; allowed = (q.0, q.1); closed = c; its_partner = far; within = omega arith }

-- the position of an item is in the list
pub slice_get-within : (items : List PlainItem) (n : ℕ) (x : PlainItem) → slice_get items n ≡ Some x → n < length items
slice_get-within [] n x h = cc
slice_get-within (y ∷ items) zero x h = omega arith
slice_get-within (y ∷ items) (suc n) x h = let r = slice_get-within items n x h in omega arith

-- Each open node begins with an opening of its kind.
abbrev pub Opened : List PlainItem → List Open → Type 0
Opened done [] = Unit {0}
Opened done (node ∷ nodes) =
    ((head : Rattle.ve_base.specs.declared.head.Head.Head) × (marks : List Rattle.ve_base.specs.declared.marks.Mark.Mark) × (pre : List ℕ) × (origin : Option ℕ) × (generated : Bool)
    × ((rest : List PlainItem) → slice_get (done ++ rest) node.from ≡ Some (Opening node.kind head marks pre origin generated)))
    × Opened done nodes

Opened-more : (done : List PlainItem) (x : PlainItem) (nodes : List Open) → Opened done nodes → Opened (done ++ x ∷ []) nodes
Opened-more done x [] h = tt
Opened-more done x (node ∷ nodes) h =
    let f = h.0 in (
      (f.0, f.1, f.2, f.3, f.4, λ rest. ap (λ v. slice_get v node.from) (snoc-append done x rest) ∙ f.5 (x ∷ rest)),
      Opened-more done x nodes h.1,
    )

pub Opened-after : (items done : List PlainItem) (nodes : List Open) → Opened done nodes → Opened (done ++ items) (opens_after nodes (length done) items)
Opened-after [] done nodes h = subst (λ v. Opened v nodes) (sym (append-nil done)) h
Opened-after (x ∷ items) done nodes h =
    let more : Opened (done ++ x ∷ []) (opens_with x (length done) nodes) = one x h in
    let rest : Opened ((done ++ x ∷ []) ++ items) (opens_after (opens_with x (length done) nodes) (length (done ++ x ∷ [])) items) =
    Opened-after items (done ++ x ∷ []) (opens_with x (length done) nodes) more in
    subst (λ n. Opened (done ++ x ∷ items) (opens_after (opens_with x (length done) nodes) n items)) (length-snoc done x)
    (subst (λ v. Opened v (opens_after (opens_with x (length done) nodes) (length (done ++ x ∷ [])) items)) (snoc-append done x items) rest)
  where
    fewer : (nodes : List Open) → Opened done nodes → Opened done (drop 1 nodes)
    fewer [] h = tt
    fewer (node ∷ nodes) h = h.1

    one : (x : PlainItem) → Opened done nodes → Opened (done ++ x ∷ []) (opens_with x (length done) nodes)
    one (Char c marks) h = Opened-more done (Char c marks) nodes h
    one (Closing kind pre) h = Opened-more done (Closing kind pre) (drop 1 nodes) (fewer nodes h)
    one (Opening kind head marks pre origin generated) h =
        let x = Opening kind head marks pre origin generated in (
          (
            head,
            marks,
            pre,
            origin,
            generated,
            λ rest. ap (λ v. slice_get v (length done)) (snoc-append done x rest) ∙ slice_get-at done x rest,
          ),
          Opened-more done x nodes h,
        )

-- what `fits` tells of the innermost kind, where that is not the internal list
pub fits_parts : (k : Kind) (outer : List Kind) (seen : Bool) → kind_same k InternalList ≡ false → fits seen (k ∷ outer) ≡ true →
    (may_open (state_of outer seen) k ≡ true) × (nat_lt (length outer) 100 ≡ true) × (fits seen outer ≡ true)
fits_parts k outer seen other f =
    let P : Bool → Type 0 = λ v. (may_open (state_of outer (if v then false else seen)) k && (nat_lt (length outer) 100 && fits (if v then false else seen) outer)) ≡ true in
    let g = subst P other f in
    let p = and_parts (may_open (state_of outer seen) k) _ g in
    let q = and_parts (nat_lt (length outer) 100) _ p.1 in
    (p.0, q.0, q.1)

-- an opening that fits leads on
pub opened_fits : (k : Kind) (outer : List Kind) (seen : Bool) → kind_same k InternalList ≡ false → fits seen (k ∷ outer) ≡ true →
    state_opened (state_of outer seen) k ≡ Ok (state_of (k ∷ outer) seen)
opened_fits k outer seen other f =
    let p = fits_parts k outer seen other f in
    let may = p.0 in
    let few = p.1 in
    rw (may, few) (ap (λ v. Ok (state_of (k ∷ outer) v)) (ap (λ b. seen || b) other ∙ or_false seen))
