-- A list is lawful exactly where it is what a lawful tree writes out.
use Rattle.std.proofs.Common.{◌≡◌, ◌≢◌, ℕ, zero, suc, ◌+◌, ◌<◌, ◌≤◌, Bool, true, false, not, ◌&&◌, ◌||◌, if◌then◌else◌, nat_lt, List, [], ◌∷◌, ◌++◌, length, map, drop, replicate, Result, Ok, Err, refl, sym, ap, ◌∙◌, subst, inl, inr, arith, lt-ltb, ltb-true}
use Rattle.std.proofs.lemmas.Bool.{cases_Bool, and_parts}
use Rattle.ve_kinds.specs.declared.kind.Kind.{Kind}
use Rattle.ve_kinds.specs.declared.kind.Kind.TheVariants.{Root, InternalList}
use Rattle.ve_kinds.specs.Table.{kind_same, may_hold, is_content_branch}
use Rattle.model_items.specs.declared.plain_item.PlainItem.{PlainItem}
use Rattle.model_items.specs.declared.plain_item.PlainItem.TheVariants.{Char, Opening, Closing}
use Rattle.model_items.specs.declared.law_fault.LawFault.{LawFault}
use Rattle.model_items.specs.declared.law_fault.LawFault.TheVariants.{Unlawful}
use Rattle.model_items.specs.Law.{State, start, finish, top, may_open, state_opened, state_closed, step, outcome_moved, outcome_then, after}
use Rattle.model_items.specs.Tree.{Forest, Empty, Run, Branch, with_char, first_forest, reading, Shape, Letter, Begin, End, shape_of, shapes}
use Rattle.model_items.specs.LawfulTree.{AllHeld, nesting, is_none, ends_with_internal_list, LawfulHasTree, TreeIsLawful}
use Rattle.model_items.proofs.SameLemmas.{Means-kind_same}
use Rattle.model_items.proofs.LawLemmas.{if_ok, Ok-same, closed_before, joined-ok, after_from_Lawful, Lawful_from_after}
use Rattle.model_items.proofs.TreeLemmas.{tree_spells}

-- what an opening that was allowed tells: it was allowed, there was room, and it went on top
opened_parts : (s u : State) (k : Kind) → state_opened s k ≡ Ok u →
    (may_open s k ≡ true) × (length s.stack < 100) × (record { stack = k ∷ s.stack; seen = s.seen || kind_same k InternalList } ≡ u)
opened_parts s u k h =
    let p = if_ok (may_open s k) _ _ u h in
    let q = if_ok (nat_lt (length s.stack) 100) _ _ u p.1 in
    (p.0, ltb-true (length s.stack) 100 q.0, Ok-same {E = LawFault} (record { stack = k ∷ s.stack; seen = s.seen || kind_same k InternalList }) u q.1)

-- the forest here and those after each open node stand where they may, and nest no deeper than
-- allowed
abbrev Levels : List Kind → Forest → List Forest → Type 0
Levels [] here outer = AllHeld Root here × (nesting here ≤ 100)
Levels (k ∷ ks) here [] = ⊥
Levels (k ∷ ks) here (f ∷ fs) = AllHeld k here × (suc (length ks) + nesting here ≤ 100) × Levels ks f fs

-- what is left of the root's children
abbrev root_rest : List Kind → Forest → List Forest → Forest
root_rest [] here outer = here
root_rest (k ∷ ks) here [] = Empty
root_rest (k ∷ ks) here (f ∷ fs) = root_rest ks f fs

-- nothing is left once the internal list was opened; before that it comes last
abbrev Ends : Bool → Forest → Type 0
Ends true f = f ≡ Empty
Ends false f = ends_with_internal_list f ≡ true

held-with_char : (k : Kind) (f : Forest) → is_content_branch k ≡ true → AllHeld k f → AllHeld k (with_char f)
held-with_char k Empty h p = (h, tt)
held-with_char k (Run count later) h p = p
held-with_char k (Branch kind inside later) h p = (h, p)

nesting-with_char : (f : Forest) → nesting (with_char f) ≡ nesting f
nesting-with_char Empty = refl
nesting-with_char (Run count later) = refl
nesting-with_char (Branch kind inside later) = refl

levels-with_char : (ks : List Kind) (here : Forest) (outer : List Forest) → is_content_branch (top ks) ≡ true → Levels ks here outer → Levels ks (with_char here) outer
levels-with_char [] here outer h p = absurd (let e = h in cc)
levels-with_char (k ∷ ks) here [] h p = p
levels-with_char (k ∷ ks) here (f ∷ fs) h p =
    let same = nesting-with_char here in
    let room = p.1 in
    (held-with_char k here h p.0, omega arith, p.2)

rest-with_char : (ks : List Kind) (here : Forest) (outer : List Forest) → is_content_branch (top ks) ≡ true → root_rest ks (with_char here) outer ≡ root_rest ks here outer
rest-with_char [] here outer h = absurd (let e = h in cc)
rest-with_char (k ∷ ks) here [] h = refl
rest-with_char (k ∷ ks) here (f ∷ fs) h = refl

-- a node closed round what stands here
levels-branch : (kind : Kind) (ks : List Kind) (here : Forest) (outer : List Forest) → may_hold (top ks) kind ≡ true →
    Levels (kind ∷ ks) here outer → Levels ks (Branch kind here (first_forest outer)) (drop 1 outer)
levels-branch kind ks here [] h p = absurd p
levels-branch kind [] here (f ∷ fs) h p =
    let room = p.1 in
    let more = p.2.1 in
    ((h, p.0, p.2.0), omega arith)
levels-branch kind (k ∷ ks) here (f ∷ []) h p = absurd p.2
levels-branch kind (k ∷ ks) here (f ∷ (g ∷ gs)) h p =
    let room = p.1 in
    let more = p.2.1 in
    ((h, p.0, p.2.0), omega arith, p.2.2)

or-false : (b : Bool) → (b || false) ≡ b
or-false true = refl
or-false false = refl

rest-branch : (k : Kind) (ks : List Kind) (f g : Forest) (fs : List Forest) → root_rest (k ∷ ks) f fs ≡ root_rest (k ∷ ks) g fs
rest-branch k ks f g [] = refl
rest-branch k ks f g (h ∷ hs) = refl

ends-branch : (kind : Kind) (ks : List Kind) (seen : Bool) (here : Forest) (outer : List Forest) → may_open (record { stack = ks; seen = seen }) kind ≡ true →
    Levels (kind ∷ ks) here outer → Ends (seen || kind_same kind InternalList) (root_rest (kind ∷ ks) here outer) →
    Ends seen (root_rest ks (Branch kind here (first_forest outer)) (drop 1 outer))
ends-branch kind ks seen here [] may levels ends = absurd levels
ends-branch kind [] seen here (f ∷ fs) may levels ends =
    by_kind (kind_same kind InternalList) seen refl (and_parts (may_hold Root kind) _ may).1 ends
  where
    by_kind : (is seen : Bool) → kind_same kind InternalList ≡ is → (if is then true && not seen else not (true && seen)) ≡ true → Ends (seen || is) f →
        Ends seen (Branch kind here f)
    by_kind true true e h ends = cc
    by_kind true false e h ends = ap (λ b. if b then is_none f else ends_with_internal_list f) e ∙ ap is_none ends
    by_kind false true e h ends = cc
    by_kind false false e h ends = ap (λ b. if b then is_none f else ends_with_internal_list f) e ∙ ends
ends-branch kind (k ∷ ks) seen here (f ∷ fs) may levels ends =
    by_kind (kind_same kind InternalList) (and_parts (may_hold k kind) _ may).1 ends
  where
    by_kind : (is : Bool) → (if is then false && not seen else not (false && seen)) ≡ true → Ends (seen || is) (root_rest (k ∷ ks) f fs) →
        Ends seen (root_rest (k ∷ ks) (Branch kind here f) fs)
    by_kind true h ends = cc
    by_kind false h ends = subst (Ends seen) (rest-branch k ks f (Branch kind here f) fs) (subst (λ b. Ends b (root_rest (k ∷ ks) f fs)) (or-false seen) ends)

record IsStanding (s : State) (items : List PlainItem) : Type 0 where
  levels : Levels s.stack (reading items).here (reading items).outer
  ends : Ends s.seen (root_rest s.stack (reading items).here (reading items).outer)

standing_from : (items : List PlainItem) (s : State) → length s.stack ≤ 100 → after s items ≡ Ok finish → IsStanding s items
standing_from [] s room h =
    subst (λ (t : State). IsStanding t []) (sym (Ok-same {E = LawFault} s finish h)) (record { levels = (tt, omega arith); ends = refl })
standing_from (Char c marks ∷ items) s room h =
    let p = joined-ok 1 (step s (Char c marks)) (λ next. after next items) finish h in
    let allowed = if_ok (is_content_branch (top s.stack)) _ _ p.0 p.1 in
    let same = Ok-same {E = LawFault} s p.0 allowed.1 in
    let rest = standing_from items s room (subst (λ t. after t items ≡ Ok finish) (sym same) p.2) in
    let r = reading items in
    record {
      levels = levels-with_char s.stack r.here r.outer allowed.0 rest.levels;
      ends = subst (Ends s.seen) (sym (rest-with_char s.stack r.here r.outer allowed.0)) rest.ends;
    }
standing_from (Closing kind pre ∷ items) s room h =
    let p = joined-ok 1 (step s (Closing kind pre)) (λ next. after next items) finish h in
    let before = closed_before s.stack s.seen kind p.0 p.1 in
    let shorter : suc (length p.0.stack) ≤ 100 = subst (λ (l : List Kind). length l ≤ 100) before.0 room in
    let rest = standing_from items p.0 (omega arith) p.2 in
    let whole : IsStanding (record { stack = kind ∷ p.0.stack; seen = p.0.seen }) (Closing kind pre ∷ items) =
    record { levels = (tt, omega arith, rest.levels); ends = rest.ends } in
    subst (λ (t : State). IsStanding t (Closing kind pre ∷ items)) (λ i. record { stack = sym before.0 i; seen = sym before.1 i }) whole
standing_from (Opening kind head marks pre origin generated ∷ items) s room h =
    let p = joined-ok 1 (step s (Opening kind head marks pre origin generated)) (λ next. after next items) finish h in
    let parts = opened_parts s p.0 kind p.1 in
    let next : State = record { stack = kind ∷ s.stack; seen = s.seen || kind_same kind InternalList } in
    let less = parts.1 in
    let rest = standing_from items next (omega arith) (subst (λ t. after t items ≡ Ok finish) (sym parts.2) p.2) in
    let r = reading items in
    record {
      levels = levels-branch kind s.stack r.here r.outer (and_parts (may_hold (top s.stack) kind) _ parts.0).0 rest.levels;
      ends = ends-branch kind s.stack s.seen r.here r.outer parts.0 rest.levels rest.ends;
    }

pub lawful_has_tree : LawfulHasTree
lawful_has_tree items lawful =
    let s = standing_from items start (omega arith) (after_from_Lawful items lawful) in
    (tree_spells items lawful, record { held = s.levels.0; nested = s.levels.1; ended = s.ends })

-- the way back: a walk along what a tree writes out

abbrev step_by : State → Shape → Result State LawFault
step_by s Letter = if is_content_branch (top s.stack) then Ok s else Err (Unlawful 0)
step_by s (Begin kind) = state_opened s kind
step_by s (End kind) = state_closed s.stack s.seen kind

abbrev after_by : State → List Shape → Result State LawFault
after_by s [] = Ok s
after_by s (x ∷ xs) = outcome_then 1 (step_by s x) (λ next. after_by next xs)

step-shape : (s : State) (x : PlainItem) → step s x ≡ step_by s (shape_of x)
step-shape s (Char c marks) = refl
step-shape s (Opening kind head marks pre origin generated) = refl
step-shape s (Closing kind pre) = refl

after-shapes : (items : List PlainItem) (s : State) → after s items ≡ after_by s (map shape_of items)
after-shapes [] s = refl
after-shapes (x ∷ items) s = λ i. outcome_then 1 (step-shape s x i) (λ next. after-shapes items next i)

-- one walk and then another
after_by-append : (xs ys : List Shape) (s t u : State) → after_by s xs ≡ Ok t → after_by t ys ≡ Ok u → after_by s (xs ++ ys) ≡ Ok u
after_by-append [] ys s t u p q = subst (λ v. after_by v ys ≡ Ok u) (sym (Ok-same {E = LawFault} s t p)) q
after_by-append (x ∷ xs) ys s t u p q =
    let r = joined-ok 1 (step_by s x) (λ next. after_by next xs) t p in
    ap (λ o. outcome_then 1 o (λ next. after_by next (xs ++ ys))) r.1 ∙ ap (outcome_moved 1) (after_by-append xs ys r.0 t u r.2 q)

after_by-cons : (x : Shape) (xs : List Shape) (s t u : State) → step_by s x ≡ Ok t → after_by t xs ≡ Ok u → after_by s (x ∷ xs) ≡ Ok u
after_by-cons x xs s t u p q = ap (λ o. outcome_then 1 o (λ next. after_by next xs)) p ∙ ap (outcome_moved 1) q

letters_pass : (n : ℕ) (s : State) → is_content_branch (top s.stack) ≡ true → after_by s (replicate n Letter) ≡ Ok s
letters_pass zero s h = refl
letters_pass (suc n) s h = after_by-cons Letter (replicate n Letter) s s s (ap (λ b. if b then Ok s else Err (Unlawful 0)) h) (letters_pass n s h)

-- no node holds the root, and only the root holds an internal list
root_is_held : (k : Kind) → may_hold k Root ≡ true → ⊥
root_is_held Root h = cc
root_is_held _ h = cc

internal_list_is_held : (k : Kind) → may_hold k InternalList ≡ true → k ≡ Root
internal_list_is_held Root h = refl
internal_list_is_held _ h = cc

held_is_other : (k j : Kind) → may_hold k j ≡ true → j ≢ Root
held_is_other k j h e = root_is_held k (subst (λ x. may_hold k x ≡ true) e h)

-- in a node that isn't the root no internal list opens
no_internal_list : (k j : Kind) → k ≢ Root → may_hold k j ≡ true → kind_same j InternalList ≡ false
no_internal_list k j other h =
    elim (cases_Bool (kind_same j InternalList)) [
      | inl same ↦ absurd (other (internal_list_is_held k (subst (λ x. may_hold k x ≡ true) (Means-kind_same.equal j InternalList same) h)))
      | inr differ ↦ differ
    ]

opens : (k j : Kind) (ks : List Kind) (seen : Bool) → k ≢ Root → may_hold k j ≡ true → suc (length ks) < 100 →
    state_opened (record { stack = k ∷ ks; seen = seen }) j ≡ Ok (record { stack = j ∷ (k ∷ ks); seen = seen })
opens k j ks seen other h room =
    let differ = no_internal_list k j other h in
    let few : nat_lt (suc (length ks)) 100 ≡ true = lt-ltb (suc (length ks)) 100 room in
    rw (h, differ, few) (λ i. Ok (record { stack = j ∷ (k ∷ ks); seen = or-false seen i }))

closes : (k : Kind) (ks : List Kind) (seen : Bool) → state_closed (k ∷ ks) seen k ≡ Ok (record { stack = ks; seen = seen })
closes k ks seen = rw (Means-kind_same.itself k) refl

-- what stands in a node, written out, leads back to the state
walk_inside : (f : Forest) (k : Kind) (ks : List Kind) (seen : Bool) → k ≢ Root → AllHeld k f → suc (length ks) + nesting f ≤ 100 →
    after_by (record { stack = k ∷ ks; seen = seen }) (shapes f) ≡ Ok (record { stack = k ∷ ks; seen = seen })
walk_inside Empty k ks seen other held room = refl
walk_inside (Run count later) k ks seen other held room =
    let s : State = record { stack = k ∷ ks; seen = seen } in
    after_by-append (replicate count Letter) (shapes later) s s s (letters_pass count s held.0) (walk_inside later k ks seen other held.1 room)
walk_inside (Branch kind inside later) k ks seen other held room =
    let s : State = record { stack = k ∷ ks; seen = seen } in
    let t : State = record { stack = kind ∷ (k ∷ ks); seen = seen } in
    after_by-cons (Begin kind) (shapes inside ++ End kind ∷ shapes later) s t s (opens k kind ks seen other held.0 (omega arith))
    (after_by-append (shapes inside) (End kind ∷ shapes later) t t s
    (walk_inside inside kind (k ∷ ks) seen (held_is_other k kind held.0) held.1 (omega arith))
    (after_by-cons (End kind) (shapes later) t s s (closes kind (k ∷ ks) seen) (walk_inside later k ks seen other held.2 (omega arith))))

is_none-Empty : (f : Forest) → is_none f ≡ true → f ≡ Empty
is_none-Empty Empty h = refl
is_none-Empty (Run count later) h = cc
is_none-Empty (Branch kind inside later) h = cc

-- the root's children, written out, lead from the start to the end
walk_root : (f : Forest) → AllHeld Root f → nesting f ≤ 100 → ends_with_internal_list f ≡ true → after_by start (shapes f) ≡ Ok finish
walk_root Empty held room ends = cc
walk_root (Run count later) held room ends = absurd (let e = held.0 in cc)
walk_root (Branch kind inside later) held room ends =
    by_kind (walk_root later held.2 (omega arith)) (kind_same kind InternalList) refl ends
  where
    walked : (seen : Bool) → state_opened start kind ≡ Ok (record { stack = kind ∷ []; seen = seen }) → after_by (record { stack = []; seen = seen }) (shapes later) ≡ Ok finish →
        after_by start (shapes (Branch kind inside later)) ≡ Ok finish
    walked seen p q =
        let t : State = record { stack = kind ∷ []; seen = seen } in
        let u : State = record { stack = []; seen = seen } in
        after_by-cons (Begin kind) (shapes inside ++ End kind ∷ shapes later) start t finish p
        (after_by-append (shapes inside) (End kind ∷ shapes later) t t finish
        (walk_inside inside kind [] seen (held_is_other Root kind held.0) held.1 (omega arith))
        (after_by-cons (End kind) (shapes later) t u finish (closes kind [] seen) q))

    by_kind : (ends_with_internal_list later ≡ true → after_by start (shapes later) ≡ Ok finish) → (is : Bool) → kind_same kind InternalList ≡ is →
        (if is then is_none later else ends_with_internal_list later) ≡ true → after_by start (shapes (Branch kind inside later)) ≡ Ok finish
    by_kind rest true e ends = walked true (rw (held.0, e) refl) (rw (is_none-Empty later ends) refl)
    by_kind rest false e ends = walked false (rw (held.0, e) refl) (rest ends)

pub tree_is_lawful : TreeIsLawful
tree_is_lawful items f spelled tree =
    Lawful_from_after items (after-shapes items start ∙ ap (after_by start) (sym spelled) ∙ walk_root f tree.held tree.nested tree.ended)
