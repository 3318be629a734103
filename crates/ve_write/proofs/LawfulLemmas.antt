-- Nodes of lawful lists: their items stand in the list, and the internal list stands in no node.
use Rattle.std.proofs.Common.{◌≡◌, ◌≢◌, ℕ, zero, suc, ◌+◌, ◌≤◌, nat_lt, Bool, true, false, not, ◌&&◌, ◌||◌, if◌then◌else◌, List, [], ◌∷◌, ◌++◌, length, length-drop, take-append-drop, take-add, take, drop, map, refl, sym, ap, ◌∙◌, arith, append_assoc, Option, None, Ok}
use Rattle.std.specs.List.{list_any}
use Rattle.ve_kinds.specs.declared.kind.Kind.{Kind}
use Rattle.ve_kinds.specs.declared.kind.Kind.TheVariants.{InternalList}
use Rattle.ve_kinds.specs.Table.{kind_same, is_content_branch, may_hold}
use Rattle.model_items.specs.declared.law_fault.LawFault.{LawFault}
use Rattle.model_items.specs.declared.plain_item.PlainItem.{PlainItem}
use Rattle.model_items.specs.declared.plain_item.PlainItem.TheVariants.{Char, Opening, Closing}
use Rattle.model_items.specs.Law.{State, after, finish, is_over, may_open, state_opened, start, step, top, Lawful}
use Rattle.model_items.specs.Law.{is_empty as is_empty_stack}
use Rattle.model_items.proofs.LawLemmas.{after_from_Lawful, after_parts, closed_before, if_ok, joined-ok, opened_before, Ok-same}
use Rattle.std.proofs.lemmas.Bool.{and_parts}
use Rattle.std.proofs.lemmas.List.Folds.{list_any-append}
use Rattle.std.proofs.lemmas.List.{map-append, length-append, length-map, take-append-le}
use Rattle.model_page_write.specs.Nodes.{Carried, Nodes, Empty, Letter, Node, NodesEnding, Outer, Start, carried_from, first_outer, node_items, node_list_items, nodes_ending, start_item}
use Rattle.model_page.specs.References.{Body}
use Rattle.model_page_write.specs.PageText.{node_from}
use Rattle.ve_origin.specs.Kept.{first_node, opens_notes}
use Rattle.ve_origin.proofs.PlaceLemmas.{none_up_to}
use Rattle.ve_origin.proofs.SplitLemmas.{carried_length}

-- ---- what the items of a list spell, by the kinds that are open before them

-- the closings of these kinds, each with the nodes after it
abbrev closings : List Kind → List Outer → List Carried
closings [] outer = []
closings (k ∷ kinds) [] = []
closings (k ∷ kinds) (o ∷ outer) = record { item = Closing k o.pre; body = None } ∷ (node_list_items o.later ++ closings kinds outer)

no_closings : (kinds : List Kind) → closings kinds [] ≡ []
no_closings [] = refl
no_closings (k ∷ kinds) = refl

-- as many nodes are closed as are open
pub outer_length : (bodies : ℕ → Option Body) (at : ℕ) (items : List PlainItem) (s : State) → after s items ≡ Ok finish → length (nodes_ending (carried_from bodies at items)).outer ≡ length s.stack
outer_length bodies at [] s h = ap (λ (t : State). length t.stack) (sym (Ok-same {E = LawFault} s finish h))
outer_length bodies at (Char c marks ∷ items) s h =
    let p = joined-ok 1 (step s (Char c marks)) (λ next. after next items) finish h in
    let same = Ok-same {E = LawFault} s p.0 (if_ok (is_content_branch (top s.stack)) _ _ p.0 p.1).1 in
    outer_length bodies (suc at) items p.0 p.2 ∙ ap (λ (t : State). length t.stack) (sym same)
outer_length bodies at (Opening kind head marks pre origin generated ∷ items) s h =
    let p = joined-ok 1 (step s (Opening kind head marks pre origin generated)) (λ next. after next items) finish h in
    rest (nodes_ending (carried_from bodies (suc at) items)).outer (outer_length bodies (suc at) items p.0 p.2 ∙ ap length (sym (opened_before s p.0 kind p.1).0))
  where
    rest : (outer : List Outer) → length outer ≡ suc (length s.stack) → length (drop 1 outer) ≡ length s.stack
    rest [] e = cc
    rest (o ∷ outer) e = cc
outer_length bodies at (Closing kind pre ∷ items) s h =
    let p = joined-ok 1 (step s (Closing kind pre)) (λ next. after next items) finish h in
    ap suc (outer_length bodies (suc at) items p.0 p.2) ∙ ap length (sym (closed_before s.stack s.seen kind p.0 p.1).0)

-- the items of the siblings, and then a closing and the nodes after it for each node that is open
pub spelled : (bodies : ℕ → Option Body) (at : ℕ) (items : List PlainItem) (s : State) → after s items ≡ Ok finish →
    let e = nodes_ending (carried_from bodies at items) in
    carried_from bodies at items ≡ node_list_items e.here ++ closings s.stack e.outer
spelled bodies at [] s h = sym (no_closings s.stack)
spelled bodies at (Char c marks ∷ items) s h =
    let p = joined-ok 1 (step s (Char c marks)) (λ next. after next items) finish h in
    let e = nodes_ending (carried_from bodies (suc at) items) in
    let same = Ok-same {E = LawFault} s p.0 (if_ok (is_content_branch (top s.stack)) _ _ p.0 p.1).1 in
    ap (λ l. record { item = Char c marks; body = None } ∷ l) (spelled bodies (suc at) items p.0 p.2 ∙ ap (λ (t : State). node_list_items e.here ++ closings t.stack e.outer) (sym same))
spelled bodies at (Closing kind pre ∷ items) s h =
    let p = joined-ok 1 (step s (Closing kind pre)) (λ next. after next items) finish h in
    let e = nodes_ending (carried_from bodies (suc at) items) in
    ap (λ l. record { item = Closing kind pre; body = None } ∷ l) (spelled bodies (suc at) items p.0 p.2)
    ∙ ap (λ kinds. closings kinds (record { pre = pre; later = e.here } ∷ e.outer)) (sym (closed_before s.stack s.seen kind p.0 p.1).0)
spelled bodies at (Opening kind head marks pre origin generated ∷ items) s h =
    let p = joined-ok 1 (step s (Opening kind head marks pre origin generated)) (λ next. after next items) finish h in
    let e = nodes_ending (carried_from bodies (suc at) items) in
    let kinds = (opened_before s p.0 kind p.1).0 in
    let first : Start = record { kind = kind; head = head; marks = marks; pre = pre; origin = origin; generated = generated; body = bodies at } in
    joined first e.here e.outer (carried_from bodies (suc at) items) (outer_length bodies (suc at) items p.0 p.2 ∙ ap length (sym kinds))
    (spelled bodies (suc at) items p.0 p.2 ∙ ap (λ k. node_list_items e.here ++ closings k e.outer) (sym kinds))
  where
    joined : (t : Start) (inside : Nodes) (outer : List Outer) (cs : List Carried) → length outer ≡ suc (length s.stack) → cs ≡ node_list_items inside ++ closings (t.kind ∷ s.stack) outer →
        start_item t ∷ cs ≡ node_list_items (Node t inside (first_outer outer).pre (first_outer outer).later) ++ closings s.stack (drop 1 outer)
    joined t inside [] cs n f = cc
    joined t inside (o ∷ outer) cs n f =
        ap (λ l. start_item t ∷ l) (f ∙ sym (append_assoc (node_list_items inside) (record { item = Closing t.kind o.pre; body = None } ∷ node_list_items o.later) (closings s.stack outer)))

-- ---- the node at a position

node_over : (n : Nodes) (rest : List Carried) (depth : ℕ) → node_from (node_list_items n ++ rest) depth ≡ node_list_items n ++ node_from rest depth
node_over Empty rest depth = refl
node_over (Letter c marks later) rest zero = ap (λ l. record { item = Char c marks; body = None } ∷ l) (node_over later rest zero)
node_over (Letter c marks later) rest (suc depth) = ap (λ l. record { item = Char c marks; body = None } ∷ l) (node_over later rest (suc depth))
node_over (Node t inside pre later) rest depth = element depth (λ cs d. node_over inside cs d) (λ d. node_over later rest d)
  where
    closing : Carried
    closing = record { item = Closing t.kind pre; body = None }

    regroup : (end : List Carried) → (node_list_items inside ++ (closing ∷ node_list_items later)) ++ end ≡ node_list_items inside ++ (closing ∷ (node_list_items later ++ end))
    regroup end = append_assoc (node_list_items inside) (closing ∷ node_list_items later) end

    whole : (d : ℕ) → node_from (node_list_items inside ++ (closing ∷ (node_list_items later ++ rest))) (suc d) ≡ node_list_items inside ++ node_from (closing ∷ (node_list_items later ++ rest)) (suc d) →
        node_from (node_list_items later ++ rest) d ≡ node_list_items later ++ node_from rest d →
        node_from ((node_list_items inside ++ (closing ∷ node_list_items later)) ++ rest) (suc d) ≡ (node_list_items inside ++ (closing ∷ node_list_items later)) ++ node_from rest d
    whole d first second =
        ap (λ l. node_from l (suc d)) (regroup rest) ∙ first ∙ ap (λ l. node_list_items inside ++ (closing ∷ l)) second ∙ sym (regroup (node_from rest d))

    element : (d : ℕ) → ((cs : List Carried) (d : ℕ) → node_from (node_list_items inside ++ cs) d ≡ node_list_items inside ++ node_from cs d) →
        ((d : ℕ) → node_from (node_list_items later ++ rest) d ≡ node_list_items later ++ node_from rest d) → node_from (node_list_items (Node t inside pre later) ++ rest) d ≡ node_list_items (Node t inside pre later) ++ node_from rest d
    element zero first second = ap (λ l. start_item t ∷ l) (whole 0 (first _ 1) (second 0))
    element (suc d) first second = ap (λ l. start_item t ∷ l) (whole (suc d) (first _ (suc (suc d))) (second (suc d)))

-- the node that an item opens has the items of the node that is spelled there
pub node_is : (bodies : ℕ → Option Body) (at : ℕ) (t : Start) (items : List PlainItem) (s : State) → after s items ≡ Ok finish → (outside : List Kind) → s.stack ≡ t.kind ∷ outside →
    let e = nodes_ending (carried_from bodies at items) in
    first_node (start_item t ∷ carried_from bodies at items) ≡ node_items t e.here (first_outer e.outer).pre
node_is bodies at t items s h outside kinds =
    let e = nodes_ending (carried_from bodies at items) in
    by e.here e.outer (outer_length bodies at items s h ∙ ap length kinds) (spelled bodies at items s h ∙ ap (λ k. node_list_items e.here ++ closings k e.outer) kinds)
  where
    by : (inside : Nodes) (outer : List Outer) → length outer ≡ suc (length outside) → carried_from bodies at items ≡ node_list_items inside ++ closings (t.kind ∷ outside) outer →
        first_node (start_item t ∷ carried_from bodies at items) ≡ node_items t inside (first_outer outer).pre
    by inside [] n f = cc
    by inside (o ∷ outer) n f = ap (λ l. start_item t ∷ l) (ap (λ l. node_from l 0) f ∙ node_over inside (closings (t.kind ∷ outside) (o ∷ outer)) 0)

-- ---- the internal list stands in no node

or_none : (a b : Bool) → a ≡ false → b ≡ false → (a || b) ≡ false
or_none false b e f = f
or_none true b e f = e

abbrev item_of : Carried → PlainItem
item_of c = c.item

-- what stands after nodes that stand in another one
record IsPast (n : Nodes) (rest : List PlainItem) (s : State) : Type 0 where
  state : State
  stack : state.stack ≡ s.stack
  after : after state rest ≡ Ok finish
  none : list_any opens_notes (map item_of (node_list_items n)) ≡ false

not_notes : (s p : State) (kind k : Kind) (kinds : List Kind) → state_opened s kind ≡ Ok p → s.stack ≡ k ∷ kinds → kind_same kind InternalList ≡ false
not_notes s p kind k kinds h e = by (kind_same kind InternalList) refl
  where
    by : (b : Bool) → kind_same kind InternalList ≡ b → b ≡ false
    by false same = refl
    by true same =
        let allowed = (if_ok (may_open s kind) _ _ p h).0 in
        let only = (and_parts (may_hold (top s.stack) kind) _ allowed).1 in
        let empty : (is_empty_stack s.stack && not s.seen) ≡ true = sym (ap (λ b. if b then is_empty_stack s.stack && not s.seen else not (is_over s)) same) ∙ only in
        let none : is_empty_stack (k ∷ kinds) ≡ true = ap is_empty_stack (sym e) ∙ (and_parts (is_empty_stack s.stack) _ empty).0 in
        cc

none_in_both : (xs ys : List PlainItem) → list_any opens_notes xs ≡ false → list_any opens_notes ys ≡ false → list_any opens_notes (xs ++ ys) ≡ false
none_in_both xs ys e f = list_any-append opens_notes xs ys ∙ or_none (list_any opens_notes xs) (list_any opens_notes ys) e f

none_in_node : (inside : Nodes) (pre : List ℕ) (later : Nodes) (kind : Kind) → list_any opens_notes (map item_of (node_list_items inside)) ≡ false → list_any opens_notes (map item_of (node_list_items later)) ≡ false →
    list_any opens_notes (map item_of (node_list_items inside ++ (record { item = Closing kind pre; body = None } ∷ node_list_items later))) ≡ false
none_in_node inside pre later kind e f =
    ap (list_any opens_notes) (map-append item_of (node_list_items inside) (record { item = Closing kind pre; body = None } ∷ node_list_items later))
    ∙ none_in_both (map item_of (node_list_items inside)) (Closing kind pre ∷ map item_of (node_list_items later)) e f

past : (n : Nodes) (rest : List PlainItem) (s : State) (k : Kind) (kinds : List Kind) → s.stack ≡ k ∷ kinds → after s (map item_of (node_list_items n) ++ rest) ≡ Ok finish → IsPast n rest s
past Empty rest s k kinds e h = record { state = s; stack = refl; after = h; none = refl }
past (Letter c marks later) rest s k kinds e h =
    let p = joined-ok 1 (step s (Char c marks)) (λ next. after next (map item_of (node_list_items later) ++ rest)) finish h in
    let same = Ok-same {E = LawFault} s p.0 (if_ok (is_content_branch (top s.stack)) _ _ p.0 p.1).1 in
    let more = past later rest p.0 k kinds (ap (λ (t : State). t.stack) (sym same) ∙ e) p.2 in
    record { state = more.state; stack = more.stack ∙ ap (λ (t : State). t.stack) (sym same); after = more.after; none = more.none }
past (Node t inside pre later) rest s k kinds e h =
    let split : map item_of (node_list_items inside ++ (record { item = Closing t.kind pre; body = None } ∷ node_list_items later)) ++ rest ≡
    map item_of (node_list_items inside) ++ (Closing t.kind pre ∷ (map item_of (node_list_items later) ++ rest)) =
    ap (λ l. l ++ rest) (map-append item_of (node_list_items inside) (record { item = Closing t.kind pre; body = None } ∷ node_list_items later))
    ∙ append_assoc (map item_of (node_list_items inside)) (Closing t.kind pre ∷ map item_of (node_list_items later)) rest in
    let p = joined-ok 1 (state_opened s t.kind) (λ next. after next (map item_of (node_list_items inside ++ (record { item = Closing t.kind pre; body = None } ∷ node_list_items later)) ++ rest)) finish h in
    let kinds_in = (opened_before s p.0 t.kind p.1).0 in
    let within = past inside (Closing t.kind pre ∷ (map item_of (node_list_items later) ++ rest)) p.0 t.kind s.stack (sym kinds_in) (ap (after p.0) (sym split) ∙ p.2) in
    let q = joined-ok 1 (step within.state (Closing t.kind pre)) (λ next. after next (map item_of (node_list_items later) ++ rest)) finish within.after in
    let closed_is = (closed_before within.state.stack within.state.seen t.kind q.0 q.1).0 in
    let back : q.0.stack ≡ s.stack = tails _ _ t.kind t.kind (sym closed_is ∙ within.stack ∙ sym kinds_in) in
    let more = past later rest q.0 k kinds (back ∙ e) q.2 in
    record {
      state = more.state;
      stack = ◌∙◌ {a = more.state.stack} more.stack back;
      after = more.after;
      none = or_none _ _ (not_notes s p.0 t.kind k kinds p.1 e) (none_in_node inside pre later t.kind within.none more.none);
    }
  where
    tails : (xs ys : List Kind) (a b : Kind) → a ∷ xs ≡ b ∷ ys → xs ≡ ys
    tails xs ys a b e = cc

-- ---- a position among siblings that begin before the internal list

closings_length : (k l : List Kind) (outer : List Outer) → length k ≡ length l → length (closings k outer) ≡ length (closings l outer)
closings_length [] [] outer e = refl
closings_length (x ∷ k) (y ∷ l) [] e = refl
closings_length (x ∷ k) (y ∷ l) (o ∷ outer) e =
    let n : length k ≡ length l = cc in
    ap suc (length-append (node_list_items o.later) (closings k outer) ∙ ap (λ m. length (node_list_items o.later) + m) (closings_length k l outer n) ∙ sym (length-append (node_list_items o.later) (closings l outer)))
closings_length [] (y ∷ l) outer e = cc
closings_length (x ∷ k) [] outer e = cc

or_assoc : (a b c : Bool) → ((a || b) || c) ≡ (a || (b || c))
or_assoc true b c = refl
or_assoc false b c = refl

or_nothing : (a : Bool) → a ≡ (a || false)
or_nothing true = refl
or_nothing false = refl

-- whether the internal list was opened
seen_is : (items : List PlainItem) (s t : State) → after s items ≡ Ok t → t.seen ≡ (s.seen || list_any opens_notes items)
seen_is [] s t h = ap (λ (x : State). x.seen) (sym (Ok-same {E = LawFault} s t h)) ∙ or_nothing s.seen
seen_is (Char c marks ∷ items) s t h =
    let p = joined-ok 1 (step s (Char c marks)) (λ next. after next items) t h in
    let same = Ok-same {E = LawFault} s p.0 (if_ok (is_content_branch (top s.stack)) _ _ p.0 p.1).1 in
    seen_is items p.0 t p.2 ∙ ap (λ (x : State). x.seen || list_any opens_notes items) (sym same)
seen_is (Closing kind pre ∷ items) s t h =
    let p = joined-ok 1 (step s (Closing kind pre)) (λ next. after next items) t h in
    seen_is items p.0 t p.2 ∙ ap (λ b. b || list_any opens_notes items) (sym (closed_before s.stack s.seen kind p.0 p.1).1)
seen_is (Opening kind head marks pre origin generated ∷ items) s t h =
    let p = joined-ok 1 (state_opened s kind) (λ next. after next items) t h in
    let q = if_ok (nat_lt (length s.stack) 100) _ _ p.0 (if_ok (may_open s kind) _ _ p.0 p.1).1 in
    let e = Ok-same {E = LawFault} (record { stack = kind ∷ s.stack; seen = s.seen || kind_same kind InternalList }) p.0 q.1 in
    seen_is items p.0 t p.2 ∙ ap (λ (x : State). x.seen || list_any opens_notes items) (sym e) ∙ or_assoc s.seen (kind_same kind InternalList) (list_any opens_notes items)

-- where the internal list was closed, nothing follows
over_ends : (items : List PlainItem) (s : State) → s ≡ finish → after s items ≡ Ok finish → items ≡ []
over_ends [] s e h = refl
over_ends (x ∷ items) s e h = let p = joined-ok 1 (step finish x) (λ next. after next items) finish (ap (λ t. after t (x ∷ items)) (sym e) ∙ h) in absurd (no_step x p.0 p.1)
  where
    last : (a b : Bool) → a ≡ true → (a && (if b then false else false)) ≡ true → ⊥
    last true true e f = cc
    last true false e f = cc
    last false b e f = cc

    no_step : (x : PlainItem) (t : State) → step finish x ≡ Ok t → ⊥
    no_step (Char c marks) t f = cc
    no_step (Closing kind pre) t f = cc
    no_step (Opening kind head marks pre origin generated) t f =
        let allowed = (if_ok (may_open finish kind) _ _ t f).0 in
        let p = and_parts (may_hold (top []) kind) _ allowed in
        last true (kind_same kind InternalList) refl p.1

no_kinds : (stack : List Kind) → length stack ≡ 0 → stack ≡ []
no_kinds [] e = refl
no_kinds (k ∷ stack) e = cc

items_carried : (bodies : ℕ → Option Body) (at : ℕ) (xs : List PlainItem) → map item_of (carried_from bodies at xs) ≡ xs
items_carried bodies at [] = refl
items_carried bodies at (Char c marks ∷ xs) = ap (λ l. Char c marks ∷ l) (items_carried bodies (suc at) xs)
items_carried bodies at (Closing kind pre ∷ xs) = ap (λ l. Closing kind pre ∷ l) (items_carried bodies (suc at) xs)
items_carried bodies at (Opening kind head marks pre origin generated ∷ xs) = ap (λ l. Opening kind head marks pre origin generated ∷ l) (items_carried bodies (suc at) xs)

take-length : {A : Type 0} (xs : List A) → take (length xs) xs ≡ xs
take-length [] = refl
take-length (x ∷ xs) = ap (λ l. x ∷ l) (take-length xs)

abbrev pub ending_from : (ℕ → Option Body) → List PlainItem → ℕ → NodesEnding
ending_from bodies items at = nodes_ending (carried_from bodies at (drop at items))

pub still_before : (bodies : ℕ → Option Body) (items : List PlainItem) (from at : ℕ) → Lawful items → from ≤ length items → at ≤ length items →
    (ending_from bodies items at).outer ≡ (ending_from bodies items from).outer → list_any opens_notes (take from items) ≡ false → drop at items ≢ [] → list_any opens_notes (take at items) ≡ false
still_before bodies items from at lawful from_within within same none more = by s.0.stack refl
  where
    parts : (n : ℕ) → (t : State) × (after start (take n items) ≡ Ok t) × (after t (drop n items) ≡ Ok finish)
    parts n = after_parts (take n items) (drop n items) start finish (ap (after start) (take-append-drop n items) ∙ after_from_Lawful items lawful)

    s : (t : State) × (after start (take from items) ≡ Ok t) × (after t (drop from items) ≡ Ok finish)
    s = parts from

    t : (t : State) × (after start (take at items) ≡ Ok t) × (after t (drop at items) ≡ Ok finish)
    t = parts at

    e : NodesEnding
    e = ending_from bodies items from

    depth : length t.0.stack ≡ length s.0.stack
    depth = sym (outer_length bodies at (drop at items) t.0 t.2) ∙ ap length same ∙ outer_length bodies from (drop from items) s.0 s.2

    here : length (drop from items) ≡ length (node_list_items e.here) + length (closings s.0.stack e.outer)
    here = sym (carried_length bodies from (drop from items)) ∙ ap length (spelled bodies from (drop from items) s.0 s.2) ∙ length-append (node_list_items e.here) (closings s.0.stack e.outer)

    there : length (drop at items) ≡ length (node_list_items (ending_from bodies items at).here) + length (closings s.0.stack e.outer)
    there =
        sym (carried_length bodies at (drop at items)) ∙ ap length (spelled bodies at (drop at items) t.0 t.2)
        ∙ length-append (node_list_items (ending_from bodies items at).here) (closings t.0.stack (ending_from bodies items at).outer)
        ∙ ap (λ n. length (node_list_items (ending_from bodies items at).here) + n) (ap (λ o. length (closings t.0.stack o)) same ∙ closings_length t.0.stack s.0.stack e.outer depth)

    bound : at ≤ from + length (node_list_items e.here)
    bound = omega (arith, here, there, length-drop from items, length-drop at items, from_within, within)

    root : (b : Bool) → list_any opens_notes (take at items) ≡ b → s.0.stack ≡ [] → b ≡ false
    root false f none_open = refl
    root true f none_open =
        let seen : t.0.seen ≡ true = seen_is (take at items) start t.0 t.1 ∙ f in
        let empty = no_kinds t.0.stack (depth ∙ ap length none_open) in
        let over : t.0 ≡ finish = (λ i. record { stack = empty i; seen = seen i }) in
        absurd (more (over_ends (drop at items) t.0 over t.2))

    inner : (k : Kind) (kinds : List Kind) → s.0.stack ≡ k ∷ kinds → list_any opens_notes (take at items) ≡ false
    inner k kinds stack =
        let rest = map item_of (closings s.0.stack e.outer) in
        let is : map item_of (node_list_items e.here) ++ rest ≡ drop from items =
        sym (map-append item_of (node_list_items e.here) (closings s.0.stack e.outer)) ∙ ap (map item_of) (sym (spelled bodies from (drop from items) s.0 s.2)) ∙ items_carried bodies from (drop from items) in
        let past_is = past e.here rest s.0 k kinds stack (ap (after s.0) is ∙ s.2) in
        let m = length (node_list_items e.here) in
        let long : length (map item_of (node_list_items e.here)) ≡ m = length-map (node_list_items e.here) item_of in
        let own : take m (drop from items) ≡ map item_of (node_list_items e.here) = ap (take m) (sym is) ∙ ap (λ n. take n (map item_of (node_list_items e.here) ++ rest)) (sym long) ∙ (take-append-le (length (map item_of (node_list_items e.here))) (map item_of (node_list_items e.here)) rest (omega arith) ∙ take-length (map item_of (node_list_items e.here))) in
        none_up_to items (from + m) at bound
        (ap (list_any opens_notes) (take-add from m items) ∙ none_in_both (take from items) (take m (drop from items)) none (ap (list_any opens_notes) own ∙ past_is.none))

    by : (stack : List Kind) → s.0.stack ≡ stack → list_any opens_notes (take at items) ≡ false
    by [] f = root (list_any opens_notes (take at items)) refl f
    by (k ∷ kinds) f = inner k kinds f
