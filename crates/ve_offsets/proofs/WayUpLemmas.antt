-- Nodes that are open at an offset, and the way up from the innermost of them.
use Rattle.std.proofs.Common.{◌≡◌, ◌≢◌, ◌≤◌, ◌<◌, ◌+◌, ◌-◌, ℕ, suc, false, Some, List, [], ◌∷◌, ◌++◌, length, map, take, drop, Ok, IsOk, append_assoc, ◌&&◌, nat_lt, refl, sym, ap, ◌∙◌, subst, arith, Contains}
use Rattle.std.proofs.Math.Seq.{take-append_seam}
use Rattle.std.proofs.lemmas.Bool.{ltb-true}
use Rattle.std.proofs.lemmas.List.{take-append-drop, length-append, length-drop, length-map}
use Rattle.ve_kinds.specs.declared.kind.Kind.{Kind}
use Rattle.ve_kinds.specs.declared.kind.Kind.TheVariants.{Root}
use Rattle.ve_kinds.specs.Table.{is_content_branch}
use Rattle.model_items.specs.declared.plain_item.PlainItem.{PlainItem}
use Rattle.model_items.specs.declared.plain_item.PlainItem.TheVariants.{Char, Opening, Closing}
use Rattle.model_items.specs.declared.law_fault.LawFault.{LawFault}
use Rattle.model_items.specs.Law.{State, start, finish, top, is_empty, is_over, may_open, state_opened, step, outcome_then, after, Lawful}
use Rattle.model_items.specs.Tree.{Open, opens_with, opens_after, node_at, place_with, shape_of, Begin}
use Rattle.model_items.proofs.LawLemmas.{if_ok, Ok-same, opened_before, closed_before, after_parts, after_whole, joined-ok, after_from_Lawful}
use Rattle.model_items.proofs.NodeAtLemmas.{open_is_stack}
use Rattle.ve_arena.specs.declared.node.NodeId.{NodeId}
use Rattle.ve_arena.specs.declared.node.NodeWhat.{NodeWhat}
use Rattle.ve_arena.specs.declared.node.NodeWhat.TheVariants as what
use Rattle.ve_arena.specs.declared.node.ArenaNode.{ArenaNode}
use Rattle.ve_arena.specs.Arena.{slot_at}
use Rattle.ve_tree.specs.IsTree.{IsTree}
use Rattle.ve_tree.specs.Places.{NodePlace, node_places, IsNodeAt}
use Rattle.ve_tree.proofs.WalkLemmas.{Slots, Walk, walk_stop, contains-here}
use Rattle.ve_tree.proofs.ClimbLemmas.{len_under, sort_under, tree_listed}
use Rattle.ve_tree.proofs.NearLemmas.{listed, under_root, passes, parent_number, not_empty}
use Rattle.ve_tree.proofs.PlaceLemmas.{one_place}
use Rattle.ve_offsets.proofs.ShapeLemmas.{after-shapes, told, on_before, same_state}
use Rattle.ve_offsets.proofs.UnmatchedLemmas.{opens_append}
use Rattle.ve_offsets.proofs.RootLemmas.{not_root, under_no_root}

-- the parent of a node is the innermost node where it begins
pub parent_holds : {slots : Slots} {root : NodeId} {items : List PlainItem} (tree : IsTree slots root items) (y : NodePlace) (n : NodeId) (node : ArenaNode) (parent : NodeId) →
    Contains (node_places root.0 0 tree.named) y → y.number ≡ n.0 → slot_at slots n.0 ≡ Some node → node.parent ≡ Some parent → IsNodeAt tree parent (node_at items y.from)
parent_holds tree y n node parent c number here is_parent =
    let l = tree_listed tree y (listed tree y c) in
    let ends = len_under tree y n node (listed tree y c) number here in
    let some = not_empty tree y n node c number here in
    let p = passes tree y.from y n c (sym number) (omega arith) (omega (arith, ends)) in
    let same = parent_number tree y.from y n node parent p c number here is_parent in
    let zero_left : y.from - y.from ≡ 0 = omega arith in
    walk_stop tree y.from parent n (y.from - y.from) node (omega (arith, l.below_end, ends))
    (subst (λ m. Walk tree y.from m (Some n) (y.from - y.from)) same p.walk) here (omega (arith, zero_left, some)) (λ left. absurd (omega (arith, zero_left, left)))

-- an open node was opened inside those that are round it, from a state that leads on
pub record Step (items : List PlainItem) (x : Open) (outer : List Open) : Type 0 where
  pub tail : opens_after [] 0 (take x.from items) ≡ outer
  pub within : x.from < length items
  pub u : State
  pub v : State
  pub before : after start (take x.from items) ≡ Ok u
  pub opens : state_opened u x.kind ≡ Ok v

abbrev Chain : List PlainItem → List Open → Type 0
Chain items [] = Unit {0}
Chain items (x ∷ outer) = Step items x outer × Chain items outer

chain_drop : (items : List PlainItem) (opens : List Open) → Chain items opens → Chain items (drop 1 opens)
chain_drop items [] h = tt
chain_drop items (x ∷ opens) h = h.1

-- one item more
record Prefix (items pre : List PlainItem) (opens : List Open) (s : State) (rest : List PlainItem) : Type 0 where
  whole : pre ++ rest ≡ items
  state : after start pre ≡ Ok s
  open_is : opens ≡ opens_after [] 0 pre
  chain : Chain items opens

longer : (items pre : List PlainItem) (opens : List Open) (s t : State) (x : PlainItem) (rest : List PlainItem) → Prefix items pre opens s (x ∷ rest) → step s x ≡ Ok t →
    Chain items (opens_with x (length pre) opens) → Prefix items (pre ++ (x ∷ [])) (opens_with x (length pre) opens) t rest
longer items pre opens s t x rest p e chain = record {
  whole = append_assoc pre (x ∷ []) rest ∙ p.whole;
  state = after_whole pre (x ∷ []) start s t p.state (ap (λ r. outcome_then 1 r (λ next. Ok next)) e);
  open_is = ap (opens_with x (length pre)) p.open_is ∙ sym (opens_append [] 0 pre (x ∷ []) ∙ ap (λ n. opens_with x n (opens_after [] 0 pre)) at);
  chain = chain;
}
  where
    at : 0 + length pre ≡ length pre
    at = omega arith

step_here : (items pre : List PlainItem) (opens : List Open) (s t : State) (x : PlainItem) (rest : List PlainItem) (kind : Kind) → Prefix items pre opens s (x ∷ rest) → state_opened s kind ≡ Ok t →
    Step items (record { kind = kind; from = length pre }) opens
step_here items pre opens s t x rest kind p e =
    let here : take (length pre) items ≡ pre = ap (take (length pre)) (sym p.whole) ∙ take-append_seam pre (x ∷ rest) in
    record {
      tail = ap (opens_after [] 0) here ∙ sym p.open_is;
      within = omega (arith, length-append pre (x ∷ rest), ap (λ (l : List PlainItem). length l) p.whole);
      u = s;
      v = t;
      before = ap (after start) here ∙ p.state;
      opens = e;
    }

walked : (items pre : List PlainItem) (opens : List Open) (s u : State) (xs rest : List PlainItem) → Prefix items pre opens s (xs ++ rest) → after s xs ≡ Ok u →
    Chain items (opens_after opens (length pre) xs)
walked items pre opens s u [] rest p h = p.chain
walked items pre opens s u (x ∷ xs) rest p h =
    let q = joined-ok 1 (step s x) (λ next. after next xs) u h in
    let n : length (pre ++ (x ∷ [])) ≡ suc (length pre) = omega (arith, length-append pre (x ∷ [])) in
    subst (λ m. Chain items (opens_after (opens_with x (length pre) opens) m xs)) n
    (walked items (pre ++ (x ∷ [])) (opens_with x (length pre) opens) q.0 u xs rest (longer items pre opens s q.0 x (xs ++ rest) p q.1 (more x p q.1)) q.2)
  where
    more : (x : PlainItem) → Prefix items pre opens s (x ∷ (xs ++ rest)) → {t : State} → step s x ≡ Ok t → Chain items (opens_with x (length pre) opens)
    more (Char c marks) p e = p.chain
    more (Closing kind pre_) p e = chain_drop items opens p.chain
    more (Opening kind head marks pre_ origin generated) p {t = t} e = (step_here items pre opens s t (Opening kind head marks pre_ origin generated) (xs ++ rest) kind p e, p.chain)

-- the state at an offset
pub state_there : (items : List PlainItem) (o : ℕ) → Lawful items → (s : State) × (after start (take o items) ≡ Ok s) × (after s (drop o items) ≡ Ok finish)
state_there items o lawful = after_parts (take o items) (drop o items) start finish (ap (after start) (take-append-drop o items) ∙ after_from_Lawful items lawful)

pub opened_at : (items : List PlainItem) (o : ℕ) (x : Open) (outer : List Open) → Lawful items → opens_after [] 0 (take o items) ≡ x ∷ outer → Step items x outer
opened_at items o x outer lawful e =
    let s = state_there items o lawful in
    (subst (Chain items) e (walked items [] [] start s.0 (take o items) (drop o items) (record { whole = take-append-drop o items; state = refl; open_is = refl; chain = tt }) s.1)).0

-- an opening leads to the state at each offset where its node is the innermost
pub entered : (items : List PlainItem) (o : ℕ) (x : Open) (outer : List Open) (mid new : State) → Lawful items → o < length items → opens_after [] 0 (take o items) ≡ x ∷ outer →
    after start (take x.from items) ≡ Ok mid → state_opened mid x.kind ≡ Ok new → after start (take o items) ≡ Ok new
entered items o x outer mid new lawful within e before opens =
    let s = state_there items o lawful in
    let there = opened_at items o x outer lawful e in
    let inner = sym (open_is_stack (take o items) s.0 s.1) ∙ ap (map (λ (o : Open). o.kind)) e in
    let round = sym (open_is_stack (take x.from items) mid before) ∙ ap (map (λ (o : Open). o.kind)) there.tail in
    let on_top = (opened_before mid new x.kind opens).0 in
    let stacks : s.0.stack ≡ new.stack = inner ∙ ap (λ kinds. x.kind ∷ kinds) (sym round) ∙ on_top in
    let long = length-drop o items in
    let told_s = told (map shape_of (take o items)) start s.0 tt (sym (after-shapes (take o items) start) ∙ s.1) in
    let told_mid = told (map shape_of (take x.from items)) start mid tt (sym (after-shapes (take x.from items) start) ∙ before) in
    let told_new = told (Begin x.kind ∷ []) mid new told_mid (ap (λ r. outcome_then 1 r (λ next. Ok next)) opens) in
    let on_s = on_before (map shape_of (drop o items)) s.0 finish (omega (arith, length-map (drop o items) shape_of, long, within)) (sym (after-shapes (drop o items) s.0) ∙ s.2) in
    let on_new : is_over new ≡ false = ap (λ stack. is_empty stack && new.seen) (sym on_top) in
    s.1 ∙ ap Ok (same_state s.0 new stacks told_s told_new on_s on_new)

-- where nothing is open the state is the first one
pub nothing_open : (items : List PlainItem) (o : ℕ) → Lawful items → o < length items → opens_after [] 0 (take o items) ≡ [] → after start (take o items) ≡ Ok start
nothing_open items o lawful within e =
    let s = state_there items o lawful in
    let inner = sym (open_is_stack (take o items) s.0 s.1) ∙ ap (map (λ (o : Open). o.kind)) e in
    let told_s = told (map shape_of (take o items)) start s.0 tt (sym (after-shapes (take o items) start) ∙ s.1) in
    let on_s = on_before (map shape_of (drop o items)) s.0 finish (omega (arith, length-map (drop o items) shape_of, length-drop o items, within)) (sym (after-shapes (drop o items) s.0) ∙ s.2) in
    s.1 ∙ ap Ok (same_state s.0 start inner told_s tt on_s refl)

-- at most 100 nodes are open
few_open : (items : List PlainItem) (s u : State) → after s items ≡ Ok u → length s.stack ≤ 100 → length u.stack ≤ 100
few_open [] s u h le = subst (λ (t : State). length t.stack ≤ 100) (Ok-same {E = LawFault} s u h) le
few_open (Char c marks ∷ items) s u h le =
    let p = joined-ok 1 (step s (Char c marks)) (λ next. after next items) u h in
    let same = Ok-same {E = LawFault} s p.0 (if_ok (is_content_branch (top s.stack)) _ _ p.0 p.1).1 in
    few_open items p.0 u p.2 (subst (λ (t : State). length t.stack ≤ 100) same le)
few_open (Closing kind pre ∷ items) s u h le =
    let p = joined-ok 1 (step s (Closing kind pre)) (λ next. after next items) u h in
    few_open items p.0 u p.2 (omega (arith, le, ap (λ (l : List Kind). length l) (closed_before s.stack s.seen kind p.0 p.1).0))
few_open (Opening kind head marks pre origin generated ∷ items) s u h le =
    let p = joined-ok 1 (step s (Opening kind head marks pre origin generated)) (λ next. after next items) u h in
    let q = if_ok (nat_lt (length s.stack) 100) _ _ p.0 (if_ok (may_open s kind) _ _ p.0 p.1).1 in
    few_open items p.0 u p.2 (omega (arith, ltb-true (length s.stack) 100 q.0, ap (λ (l : List Kind). length l) (opened_before s p.0 kind p.1).0))

pub few_opens : (items : List PlainItem) (o : ℕ) → Lawful items → length (opens_after [] 0 (take o items)) ≤ 100
few_opens items o lawful =
    let s = state_there items o lawful in
    let deep = ap (λ (l : List Kind). length l) (open_is_stack (take o items) s.0 s.1) in
    omega (arith, length-map (opens_after [] 0 (take o items)) (λ (o : Open). o.kind), deep, few_open (take o items) start s.0 s.1 (omega arith))

-- the root is the innermost node where nothing is open
pub root_round : {slots : Slots} {root : NodeId} {items : List PlainItem} (tree : IsTree slots root items) (n : NodeId) (o : ℕ) → n.0 ≡ root.0 → IsNodeAt tree n (node_at items o) →
    opens_after [] 0 (take o items) ≡ []
root_round {root = root} {items = items} tree n o is_root at = by_opens (opens_after [] 0 (take o items)) refl
  where
    by_opens : (opens : List Open) → opens_after [] 0 (take o items) ≡ opens → opens_after [] 0 (take o items) ≡ []
    by_opens [] e = e
    by_opens (x ∷ outer) e =
        let there = opened_at items o x outer tree.lawful e in
        let own = one_place tree _ _ at.listed (contains-here _ (node_places root.0 0 tree.named)) is_root in
        let sorts = ap (λ (z : NodePlace). z.sort) own in
        let kind : x.kind ≡ (node_at items o).kind = ap (λ opens. (place_with opens o (drop o items)).kind) (sym e) in
        let both : ◌≡◌ {A = NodeWhat} (what.Node x.kind) (what.Node Root) = ap what.Node kind ∙ sorts in
        absurd (not_root there.u there.v x.kind there.opens (cc))

-- another node is the one that was opened last
pub record Round {slots : Slots} {root : NodeId} {items : List PlainItem} (tree : IsTree slots root items) (n : NodeId) (o : ℕ) : Type 0 where
  pub x : Open
  pub outer : List Open
  pub opens_are : opens_after [] 0 (take o items) ≡ x ∷ outer
  pub place : NodePlace
  pub listed : Contains (node_places root.0 0 tree.named) place
  pub number_is : place.number ≡ n.0
  pub from_is : place.from ≡ x.from
  pub sort_is : place.sort ≡ what.Node x.kind

pub node_round : {slots : Slots} {root : NodeId} {items : List PlainItem} (tree : IsTree slots root items) (n : NodeId) (o : ℕ) → n.0 ≢ root.0 → IsNodeAt tree n (node_at items o) →
    Round tree n o
node_round {root = root} {items = items} tree n o other at = by_opens (opens_after [] 0 (take o items)) refl
  where
    by_opens : (opens : List Open) → opens_after [] 0 (take o items) ≡ opens → Round tree n o
    by_opens [] e =
        let kind : (node_at items o).kind ≡ Root = ap (λ opens. (place_with opens o (drop o items)).kind) e in
        absurd (under_no_root tree _ (under_root tree _ at.listed other) (ap what.Node kind))
    by_opens (x ∷ outer) e = record {
      x = x;
      outer = outer;
      opens_are = e;
      place = _;
      listed = under_root tree _ at.listed other;
      number_is = refl;
      from_is = ap (λ opens. (place_with opens o (drop o items)).from) e;
      sort_is = ap (λ opens. what.Node (place_with opens o (drop o items)).kind) e;
    }

one_open : (items : List PlainItem) (o : ℕ) (x y : Open) (xs ys : List Open) → opens_after [] 0 (take o items) ≡ x ∷ xs → opens_after [] 0 (take o items) ≡ y ∷ ys → x.from ≡ y.from
one_open items o x y xs ys e f = let both : x ∷ xs ≡ y ∷ ys = sym e ∙ f in ap head_from both
  where
    head_from : List Open → ℕ
    head_from [] = 0
    head_from (z ∷ zs) = z.from

-- the parent is the innermost node where the one that was opened last begins
pub up : {slots : Slots} {root : NodeId} {items : List PlainItem} (n : NodeId) (o : ℕ) (node : ArenaNode) (parent : NodeId) (x : Open) (outer : List Open) → n.0 ≢ root.0 →
    ((tree : IsTree slots root items) → IsNodeAt tree n (node_at items o)) → slot_at slots n.0 ≡ Some node → node.parent ≡ Some parent → opens_after [] 0 (take o items) ≡ x ∷ outer →
    (tree : IsTree slots root items) → IsNodeAt tree parent (node_at items x.from)
up {items = items} n o node parent x outer other round here is_parent opens tree =
    let r = node_round tree n o other (round tree) in
    let from : r.place.from ≡ x.from = r.from_is ∙ one_open items o r.x x r.outer outer r.opens_are opens in
    subst (λ from. IsNodeAt tree parent (node_at items from)) from (parent_holds tree r.place n node parent r.listed r.number_is here is_parent)

pub may_enter : (items : List PlainItem) (o : ℕ) (x : Open) (outer : List Open) (mid : State) → Lawful items → opens_after [] 0 (take o items) ≡ x ∷ outer →
    after start (take x.from items) ≡ Ok mid → IsOk (state_opened mid x.kind)
may_enter items o x outer mid lawful e before =
    let there = opened_at items o x outer lawful e in
    let same : there.u ≡ mid = Ok-same {E = LawFault} there.u mid (sym there.before ∙ before) in
    subst IsOk (sym (ap (λ (s : State). state_opened s x.kind) (sym same) ∙ there.opens)) refl

-- its kind is the one that was opened
pub kind_round : {slots : Slots} {root : NodeId} {items : List PlainItem} (tree : IsTree slots root items) (n : NodeId) (o : ℕ) (node : ArenaNode) (kind : Kind) (r : Round tree n o) →
    slot_at slots n.0 ≡ Some node → node.what ≡ what.Node kind → kind ≡ r.x.kind
kind_round tree n o node kind r here sort =
    let both : what.Node kind ≡ what.Node r.x.kind = sym sort ∙ sym (sort_under tree r.place n node (listed tree r.place r.listed) r.number_is here) ∙ r.sort_is in
    cc
