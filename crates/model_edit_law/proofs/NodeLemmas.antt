-- A node of a lawful list may be given another kind that holds the same and may stand there.
use Rattle.std.proofs.Common.{◌≡◌, ℕ, suc, Bool, true, false, not, ◌&&◌, ◌||◌, if◌then◌else◌, nat_lt, List, [], ◌∷◌, ◌++◌, length, take, drop, Option, Some, Ok, Err, refl, sym, ap, ◌∙◌, subst, arith}
use Rattle.std.specs.Prelude.{slice_get}
use Rattle.std.proofs.lemmas.Bool.{and_parts, and_from}
use Rattle.std.proofs.lemmas.List.{append_assoc}
use Rattle.ve_kinds.specs.declared.kind.Kind.{Kind}
use Rattle.ve_kinds.specs.declared.kind.Kind.TheVariants.{Root, P, H1, H2, H3, H4, H5, H6, Pre, InternalList}
use Rattle.ve_base.specs.declared.head.Head.{Head}
use Rattle.ve_base.specs.declared.marks.Mark.{Mark}
use Rattle.model_items.specs.declared.plain_item.PlainItem.{PlainItem}
use Rattle.model_items.specs.declared.plain_item.PlainItem.TheVariants.{Opening, Closing}
use Rattle.ve_kinds.specs.Table.{kind_same, may_hold, held_by, is_content_branch, is_flow, inline_leaves, is_among}
use Rattle.model_items.proofs.SameLemmas.{Means-kind_same}
use Rattle.model_items.specs.declared.law_fault.LawFault.{LawFault}
use Rattle.model_items.specs.declared.law_fault.LawFault.TheVariants.{Unlawful}
use Rattle.model_items.specs.Law.{State, top, is_empty, is_over, may_open, state_opened, step, outcome_then, outcome_moved, after, Lawful}
use Rattle.model_items.proofs.LawLemmas.{if_ok, Ok-same, after_whole, piece_fits}
use Rattle.model_edit_law.proofs.BracketLemmas.{state_of, or_false, HoldsSame, HoldsSame-itself, Closes, NodeParts, slice_get-split}

pub content_list : (k : Kind) → is_content_branch k ≡ true → held_by k ≡ inline_leaves
content_list P h = refl
content_list H1 h = refl
content_list H2 h = refl
content_list H3 h = refl
content_list H4 h = refl
content_list H5 h = refl
content_list H6 h = refl
content_list Pre h = refl
content_list _ h = cc

pub HoldsSame-content : (k k' : Kind) → is_content_branch k ≡ true → is_content_branch k' ≡ true → HoldsSame k k'
HoldsSame-content k k' h h' = record { kinds = λ c. ap (λ l. is_among l c) (content_list k' h' ∙ sym (content_list k h)); chars = h' ∙ sym h }

held_P : (p : Kind) → may_hold p P ≡ is_flow p
held_P Root = refl
held_P _ = refl

held_H1 : (p : Kind) → may_hold p H1 ≡ is_flow p
held_H1 Root = refl
held_H1 _ = refl

held_H2 : (p : Kind) → may_hold p H2 ≡ is_flow p
held_H2 Root = refl
held_H2 _ = refl

held_H3 : (p : Kind) → may_hold p H3 ≡ is_flow p
held_H3 Root = refl
held_H3 _ = refl

held_H4 : (p : Kind) → may_hold p H4 ≡ is_flow p
held_H4 Root = refl
held_H4 _ = refl

held_H5 : (p : Kind) → may_hold p H5 ≡ is_flow p
held_H5 Root = refl
held_H5 _ = refl

held_H6 : (p : Kind) → may_hold p H6 ≡ is_flow p
held_H6 Root = refl
held_H6 _ = refl

held_Pre : (p : Kind) → may_hold p Pre ≡ is_flow p
held_Pre Root = refl
held_Pre _ = refl

-- a content branch may stand just where flow stands
pub content_held : (p k : Kind) → is_content_branch k ≡ true → may_hold p k ≡ is_flow p
content_held p P h = held_P p
content_held p H1 h = held_H1 p
content_held p H2 h = held_H2 p
content_held p H3 h = held_H3 p
content_held p H4 h = held_H4 p
content_held p H5 h = held_H5 p
content_held p H6 h = held_H6 p
content_held p Pre h = held_Pre p
content_held p _ h = cc

pub content_not_first : (k : Kind) → is_content_branch k ≡ true → kind_same k InternalList ≡ false
content_not_first P h = refl
content_not_first H1 h = refl
content_not_first H2 h = refl
content_not_first H3 h = refl
content_not_first H4 h = refl
content_not_first H5 h = refl
content_not_first H6 h = refl
content_not_first Pre h = refl
content_not_first _ h = cc

-- where an opening of k was allowed, what it led to
pub opened_state : (s u : State) (k : Kind) → kind_same k InternalList ≡ false → state_opened s k ≡ Ok u →
    (may_open s k ≡ true) × (nat_lt (length s.stack) 100 ≡ true) × (u ≡ state_of (k ∷ s.stack) s.seen)
opened_state s u k other h =
    let p = if_ok (may_open s k) _ _ u h in
    let q = if_ok (nat_lt (length s.stack) 100) _ _ u p.1 in
    (p.0, q.0, sym (Ok-same {E = LawFault} _ u q.1) ∙ ap (state_of (k ∷ s.stack)) (ap (λ b. s.seen || b) other ∙ or_false s.seen))

may_open_other : (s : State) (k k' : Kind) → kind_same k InternalList ≡ false → kind_same k' InternalList ≡ false → may_hold (top s.stack) k' ≡ may_hold (top s.stack) k →
    may_open s k ≡ true → may_open s k' ≡ true
may_open_other s k k' a b e h =
    let p = and_parts (may_hold (top s.stack) k) _ h in
    let over : not (is_over s) ≡ true = ap (λ v. if v then is_empty s.stack && not s.seen else not (is_over s)) (sym a) ∙ p.1 in
    and_from _ _ (e ∙ p.0) (ap (λ v. if v then is_empty s.stack && not s.seen else not (is_over s)) b ∙ over)

-- a whole node leads back to the state before it
pub whole_node : (s : State) (k k' : Kind) (x : PlainItem) (pre' : List ℕ) (items : List PlainItem) (c : Closes [] s.stack k items) → HoldsSame k k' →
    step s x ≡ Ok (state_of (k' ∷ s.stack) s.seen) → after s (x ∷ (c.inside ++ Closing k' pre' ∷ [])) ≡ Ok s
whole_node s k k' x pre' items c same h =
    let inner = c.kept k' s.stack s.seen same (omega arith) in
    let closed : after (state_of (k' ∷ s.stack) s.seen) (Closing k' pre' ∷ []) ≡ Ok s =
    ap (λ b. outcome_then 1 (if b then Ok (state_of s.stack s.seen) else Err (Unlawful 0)) (λ next. Ok next)) (Means-kind_same.itself k') in
    ap (λ v. outcome_then 1 v (λ next. after next (c.inside ++ Closing k' pre' ∷ []))) h
    ∙ ap (λ v. outcome_moved 1 v) (after_whole c.inside (Closing k' pre' ∷ []) (state_of (k' ∷ s.stack) s.seen) (state_of (k' ∷ s.stack) s.seen) s inner closed)

-- A node with another opening and closing.
pub other_node_lawful : (items : List PlainItem) (at : ℕ) (k k' : Kind) (head head' : Head) (marks marks' : List Mark) (pre pre' pre'' : List ℕ) (origin origin' : Option ℕ) (generated generated' : Bool) →
    Lawful items → slice_get items at ≡ Some (Opening k head marks pre origin generated) → (n : NodeParts items at k) →
    kind_same k InternalList ≡ false → kind_same k' InternalList ≡ false → HoldsSame k k' → ((p : Kind) → may_hold p k' ≡ may_hold p k) →
    Lawful (take at items ++ (Opening k' head' marks' pre' origin' generated' ∷ (n.closed.inside ++ (Closing k' pre'' ∷ n.closed.rest))))
other_node_lawful items at k k' head head' marks marks' pre pre' pre'' origin origin' generated generated' lawful h n other other' same held =
    let s = n.before in
    let c = n.closed in
    let x = Opening k head marks pre origin generated in
    let x' = Opening k' head' marks' pre' origin' generated' in
    let o = opened_state s n.allowed.0 k other n.allowed.1 in
    let may' = may_open_other s k k' other other' (held (top s.stack)) o.0 in
    let few = o.1 in
    let opens : state_opened s k ≡ Ok (state_of (k ∷ s.stack) s.seen) = n.allowed.1 ∙ ap Ok o.2 in
    let opens' : state_opened s k' ≡ Ok (state_of (k' ∷ s.stack) s.seen) =
    rw (may', few) (ap (λ v. Ok (state_of (k' ∷ s.stack) v)) (ap (λ b. s.seen || b) other' ∙ or_false s.seen)) in
    let old = x ∷ (c.inside ++ Closing k c.pre ∷ []) in
    let new = x' ∷ (c.inside ++ Closing k' pre'' ∷ []) in
    let whole : items ≡ take at items ++ (old ++ c.rest) =
    (slice_get-split items at x h).0 ∙ ap (λ v. take at items ++ (x ∷ v)) (c.whole ∙ sym (append_assoc c.inside (Closing k c.pre ∷ []) c.rest)) in
    subst Lawful (ap (λ v. take at items ++ (x' ∷ v)) (append_assoc c.inside (Closing k' pre'' ∷ []) c.rest))
    (piece_fits (take at items) old c.rest new s s (subst Lawful whole lawful) n.reached
    (whole_node s k k x c.pre (drop (suc at) items) c (HoldsSame-itself k) opens)
    (whole_node s k k' x' pre'' (drop (suc at) items) c same opens'))
