-- A lawful list is the items of nodes that nest, and then those of the internal list.
use Rattle.std.proofs.Common.{◌≡◌, ℕ, suc, Bool, true, false, not, ◌&&◌, ◌||◌, if◌then◌else◌, List, [], ◌∷◌, ◌++◌, length, Option, Some, None, Result, Ok, Err, refl, sym, ap, ◌∙◌, subst, append_assoc, inl, inr}
use Rattle.std.proofs.lemmas.Bool.{and_parts, cases_Bool}
use Rattle.std.specs.Prelude.{nat_lt}
use denote.Enum.Bare.{same_true}
use Rattle.ve_kinds.specs.contracts.kind.Kind.{the_type}
use Rattle.ve_kinds.specs.declared.kind.Kind.{Kind}
use Rattle.ve_kinds.specs.declared.kind.Kind.TheVariants.{Root, InternalList}
use Rattle.ve_kinds.specs.Table.{kind_same, may_hold, is_content_branch}
use Rattle.ve_base.specs.declared.marks.Mark.{Mark}
use Rattle.ve_base.specs.declared.head.Head.{Head}
use Rattle.model_items.specs.declared.plain_item.PlainItem.{PlainItem}
use Rattle.model_items.specs.declared.plain_item.PlainItem.TheVariants.{Char, Opening, Closing}
use Rattle.model_items.specs.declared.law_fault.LawFault.{LawFault}
use Rattle.model_items.specs.declared.law_fault.LawFault.TheVariants.{Unlawful, TooDeep}
use Rattle.model_items.specs.Law.{State, start, top, is_empty, is_over, may_open, state_opened, state_closed, step, outcome_moved, outcome_then, after, verdict_at, Lawful}
use Rattle.model_page.specs.References.{Body}
use Rattle.model_page_write.specs.Nodes.{Carried, Start, Nodes, Empty, Letter, Node, node_list_items, start_item, carried_from, carried_items, body_carried}
use Rattle.model_page_law.proofs.NodesLemmas.{followed as and_then}

-- each node may stand in its parent, and none is the internal list
abbrev pub Nested : Kind → Nodes → Type 0
Nested parent Empty = Unit {0}
Nested parent (Letter c marks later) = (is_content_branch parent ≡ true) × Nested parent later
Nested parent (Node s inside pre later) = (may_hold parent s.kind ≡ true) × (kind_same s.kind InternalList ≡ false) × Nested s.kind inside × Nested parent later

-- nodes of the root, and then the internal list
pub record NestedList (cs : List Carried) : Type 0 where
  pub nodes : Nodes
  pub list : Start
  pub inside : Nodes
  pub pre : List ℕ
  pub are : cs ≡ node_list_items (and_then nodes (Node list inside pre Empty))
  pub kind : list.kind ≡ InternalList
  pub nested : Nested Root nodes
  pub within : Nested InternalList inside

-- ---- what is left of a list, where these kinds are open

abbrev closing_of : Kind → List ℕ → Carried
closing_of k pre = record { item = Closing k pre; body = None }

abbrev Parsed : List Kind → Bool → List Carried → Type 0
Parsed [] true cs = cs ≡ []
Parsed [] false cs = NestedList cs
Parsed (k ∷ outer) seen cs = (n : Nodes) × (pre : List ℕ) × (rest : List Carried) × (cs ≡ node_list_items n ++ closing_of k pre ∷ rest) × Nested k n × Parsed outer seen rest

prefix_char : (c : ℕ) (marks : List Mark) (stack : List Kind) (seen : Bool) (cs : List Carried) → is_content_branch (top stack) ≡ true → Parsed stack seen cs →
    Parsed stack seen (record { item = Char c marks; body = None } ∷ cs)
prefix_char c marks [] seen cs h p = cc
prefix_char c marks (k ∷ outer) seen cs h p = (Letter c marks p.0, p.1, p.2, ap (λ xs. record { item = Char c marks; body = None } ∷ xs) p.3, (h, p.4), p.5)

-- a result that is a state
state_in : Result State LawFault → State → State
state_in (Ok s) d = s
state_in (Err f) d = d

ok_same : (s t : State) → ◌≡◌ {A = Result State LawFault} (Ok s) (Ok t) → s ≡ t
unfolding state_in
ok_same s t e = ap (λ r. state_in r s) e

if_ok : (c : Bool) (r : Result State LawFault) (f : LawFault) (t : State) → (if c then r else Err f) ≡ Ok t → (c ≡ true) × (r ≡ Ok t)
if_ok true r f t e = (refl, e)
if_ok false r f t e = cc

prefix_closing : (kind : Kind) (pre : List ℕ) (stack : List Kind) (seen : Bool) (t : State) (cs : List Carried) → state_closed stack seen kind ≡ Ok t → Parsed t.stack t.seen cs → Parsed stack seen (closing_of kind pre ∷ cs)
prefix_closing kind pre [] seen t cs e p = cc
prefix_closing kind pre (inner ∷ outer) seen t cs e p =
    let i = if_ok (kind_same inner kind) (Ok (record { stack = outer; seen = seen })) (Unlawful 0) t e in
    let same : inner ≡ kind = same_true the_type tt inner kind i.0 in
    let s : record { stack = outer; seen = seen } ≡ t = ok_same (record { stack = outer; seen = seen }) t i.1 in
    (Empty, pre, cs, ap (λ k. closing_of k pre ∷ cs) (sym same), tt, subst (λ x. Parsed x.stack x.seen cs) (sym s) p)

-- ---- an opening

abbrev start_of : Kind → Head → List Mark → List ℕ → Option ℕ → Bool → Option Body → Start
start_of kind head marks pre origin generated body = record { kind = kind; head = head; marks = marks; pre = pre; origin = origin; generated = generated; body = body }

-- the items of a node before more
node_prefix : (s : Start) (n later : Nodes) (pre : List ℕ) (cs rest more : List Carried) → cs ≡ node_list_items n ++ closing_of s.kind pre ∷ rest → rest ≡ node_list_items later ++ more →
    start_item s ∷ cs ≡ node_list_items (Node s n pre later) ++ more
node_prefix s n later pre cs rest more e r =
    ap (λ xs. start_item s ∷ xs) (e ∙ ap (λ xs. node_list_items n ++ closing_of s.kind pre ∷ xs) r ∙ sym (append_assoc (node_list_items n) (closing_of s.kind pre ∷ node_list_items later) more))

prefix_branch : (s : Start) (stack : List Kind) (seen : Bool) (cs : List Carried) → may_hold (top stack) s.kind ≡ true → kind_same s.kind InternalList ≡ false → (is_empty stack && seen) ≡ false →
    Parsed (s.kind ∷ stack) seen cs → Parsed stack seen (start_item s ∷ cs)
prefix_branch s [] true cs h l o p = cc
prefix_branch s [] false cs h l o p =
    let q = p.5 in
    record {
      nodes = Node s p.0 p.1 q.nodes;
      list = q.list;
      inside = q.inside;
      pre = q.pre;
      are = ap (λ xs. start_item s ∷ xs) (p.3 ∙ ap (λ xs. node_list_items p.0 ++ closing_of s.kind p.1 ∷ xs) q.are);
      kind = q.kind;
      nested = (h, l, p.4, q.nested);
      within = q.within;
    }
prefix_branch s (k ∷ outer) seen cs h l o p =
    let q = p.5 in (Node s p.0 p.1 q.0, q.1, q.2, node_prefix s p.0 q.0 p.1 cs p.2 (closing_of k q.1 ∷ q.2) p.3 q.3, (h, l, p.4, q.4), q.5)

-- the internal list
prefix_list : (s : Start) (stack : List Kind) (seen : Bool) (cs : List Carried) → kind_same s.kind InternalList ≡ true → (is_empty stack && not seen) ≡ true → Parsed (s.kind ∷ stack) true cs →
    Parsed stack seen (start_item s ∷ cs)
prefix_list s (k ∷ outer) seen cs l o p = cc
prefix_list s [] true cs l o p = cc
prefix_list s [] false cs l o p =
    let k : s.kind ≡ InternalList = same_true the_type tt s.kind InternalList l in
    record {
      nodes = Empty;
      list = s;
      inside = p.0;
      pre = p.1;
      are = ap (λ xs. start_item s ∷ xs) (p.3 ∙ ap (λ xs. node_list_items p.0 ++ closing_of s.kind p.1 ∷ xs) p.5);
      kind = k;
      nested = tt;
      within = subst (λ x. Nested x p.0) k p.4;
    }

prefix_opening : (s : Start) (stack : List Kind) (seen : Bool) (t : State) (cs : List Carried) → state_opened (record { stack = stack; seen = seen }) s.kind ≡ Ok t →
    Parsed t.stack t.seen cs → Parsed stack seen (start_item s ∷ cs)
prefix_opening s stack seen t cs e p =
    let old : State = record { stack = stack; seen = seen } in
    let next : State = record { stack = s.kind ∷ stack; seen = seen || kind_same s.kind InternalList } in
    let a = if_ok (may_open old s.kind) (if nat_lt (length stack) 100 then Ok next else Err (TooDeep 0)) (Unlawful 0) t e in
    let b = if_ok (nat_lt (length stack) 100) (Ok next) (TooDeep 0) t a.1 in
    let same : next ≡ t = ok_same next t b.1 in
    let m = and_parts (may_hold (top stack) s.kind) (if kind_same s.kind InternalList then is_empty stack && not seen else not (is_over old)) a.0 in
    let q : Parsed (s.kind ∷ stack) (seen || kind_same s.kind InternalList) cs = subst (λ x. Parsed x.stack x.seen cs) (sym same) p in
    elim (cases_Bool (kind_same s.kind InternalList)) [
      | inl l ↦ prefix_list s stack seen cs l (sym (pick (kind_same s.kind InternalList) (is_empty stack && not seen) (not (is_over old)) l) ∙ m.1) (subst (λ b. Parsed (s.kind ∷ stack) b cs) (last seen (kind_same s.kind InternalList) l) q)
      | inr l ↦ prefix_branch s stack seen cs m.0 l (not_true (is_over old) (sym (pick_other (kind_same s.kind InternalList) (is_empty stack && not seen) (not (is_over old)) l) ∙ m.1))
          (subst (λ b. Parsed (s.kind ∷ stack) b cs) (first seen (kind_same s.kind InternalList) l) q)
    ]
  where
    pick : (c x y : Bool) → c ≡ true → (if c then x else y) ≡ x
    pick true x y e = refl
    pick false x y e = cc

    pick_other : (c x y : Bool) → c ≡ false → (if c then x else y) ≡ y
    pick_other true x y e = cc
    pick_other false x y e = refl

    last : (a b : Bool) → b ≡ true → (a || b) ≡ true
    last true b e = refl
    last false b e = e

    first : (a b : Bool) → b ≡ false → (a || b) ≡ a
    first true b e = refl
    first false b e = e

    not_true : (a : Bool) → not a ≡ true → a ≡ false
    not_true true e = cc
    not_true false e = refl

-- ---- the whole list

moved_ok : (r : Result State LawFault) (u : State) → outcome_moved 1 r ≡ Ok u → r ≡ Ok u
moved_ok (Ok s) u e = e
moved_ok (Err f) u e = cc

joined_ok : (r : Result State LawFault) (rest : State → Result State LawFault) (u : State) → outcome_then 1 r rest ≡ Ok u → (t : State) × (r ≡ Ok t) × (rest t ≡ Ok u)
joined_ok (Ok t) rest u e = (t, refl, moved_ok (rest t) u e)
joined_ok (Err f) rest u e = cc

ended : (stack : List Kind) (seen : Bool) → (is_empty stack && seen) ≡ true → Parsed stack seen []
ended (k ∷ outer) seen h = cc
ended [] false h = cc
ended [] true h = refl

parsed : (items : List PlainItem) (bodies : ℕ → Option Body) (at : ℕ) (s u : State) → after s items ≡ Ok u → is_over u ≡ true → Parsed s.stack s.seen (carried_from bodies at items)
parsed [] bodies at s u e o = let same : s ≡ u = ok_same s u e in ended s.stack s.seen (ap is_over same ∙ o)
parsed (Char c marks ∷ items) bodies at s u e o =
    let j = joined_ok (step s (Char c marks)) (λ next. after next items) u e in
    let i = if_ok (is_content_branch (top s.stack)) (Ok s) (Unlawful 0) j.0 j.1 in
    let same : s ≡ j.0 = ok_same s j.0 i.1 in
    prefix_char c marks s.stack s.seen (carried_from bodies (suc at) items) i.0
    (subst (λ x. Parsed x.stack x.seen (carried_from bodies (suc at) items)) (sym same) (parsed items bodies (suc at) j.0 u j.2 o))
parsed (Closing kind pre ∷ items) bodies at s u e o =
    let j = joined_ok (step s (Closing kind pre)) (λ next. after next items) u e in
    prefix_closing kind pre s.stack s.seen j.0 (carried_from bodies (suc at) items) j.1 (parsed items bodies (suc at) j.0 u j.2 o)
parsed (Opening kind head marks pre origin generated ∷ items) bodies at s u e o =
    let j = joined_ok (step s (Opening kind head marks pre origin generated)) (λ next. after next items) u e in
    prefix_opening (start_of kind head marks pre origin generated (bodies at)) s.stack s.seen j.0 (carried_from bodies (suc at) items) j.1 (parsed items bodies (suc at) j.0 u j.2 o)

lawful_end : (end : ℕ) (r : Result State LawFault) → verdict_at end r ≡ None → (u : State) × (r ≡ Ok u) × (is_over u ≡ true)
lawful_end end (Err f) h = cc
lawful_end end (Ok u) h = (u, refl, over (is_over u) h)
  where
    over : (c : Bool) → (if c then None else Some (Unlawful end)) ≡ None → c ≡ true
    over true e = refl
    over false e = cc

pub nested_list : (items : List PlainItem) → Lawful items → NestedList (carried_items items)
nested_list items h = let e = lawful_end (length items) (after start items) h in parsed items (body_carried items) 0 start e.0 e.1 e.2
