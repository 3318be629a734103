-- Walking down the links to an offset, with the law's state.
use Rattle.std.proofs.Common.{◌≡◌, ◌≤◌, ◌<◌, ◌+◌, ◌-◌, ℕ, zero, suc, Option, Some, None, IsSome, List, [], ◌∷◌, ◌++◌, length, map, take, replicate, Ok, option_map, refl, sym, ap, ◌∙◌, subst, arith, append_assoc, append-nil}
use Rattle.std.proofs.lemmas.List.{take-map, length-append, length-map, length-replicate}
use Rattle.std.proofs.Math.Seq.{take-length}
use Rattle.ve_kinds.specs.declared.kind.Kind.{Kind}
use Rattle.model_items.specs.declared.item.Item.{Item}
use Rattle.model_items.specs.declared.plain_item.PlainItem.{PlainItem}
use Rattle.model_items.specs.Plain.{plain}
use Rattle.model_items.specs.Law.{State, start, finish, state_opened, after, Lawful}
use Rattle.model_items.specs.Tree.{Forest, Empty, Run, Branch, item_count, tree_of, Shape, Letter, Begin, End, shape_of, shapes}
use Rattle.model_items.proofs.LawLemmas.{after_from_Lawful}
use Rattle.model_items.proofs.TreeLemmas.{tree_spells}
use Rattle.ve_arena.specs.declared.node.NodeId.{NodeId}
use Rattle.ve_arena.specs.declared.node.NodeWhat.{NodeWhat}
use Rattle.ve_arena.specs.declared.node.NodeWhat.TheVariants as what
use Rattle.ve_arena.specs.declared.node.ArenaNode.{ArenaNode}
use Rattle.ve_arena.specs.Arena.{slot_at}
use Rattle.ve_tree.specs.Links.{number_of, link_in, links_of, first_or, AreSiblings}
use Rattle.ve_tree.specs.Named.{Named, NoNode, NamedRun, NamedBranch, unnumbered, heads, IsShown, Shows}
use Rattle.ve_tree.specs.IsTree.{IsTree, unvalued}
use Rattle.ve_tree.proofs.WalkLemmas.{Slots, NoEmptyRun, tree-runs}
use Rattle.model_items.proofs.NodeAtLemmas.{count_all}
use Rattle.ve_offsets.specs.States.{IsStateAt}
use Rattle.ve_offsets.proofs.ShapeLemmas.{after_by, after-shapes, by_whole, by_one, pass, enters, reached}

-- how long what a forest writes out is
pub length-shapes : (f : Forest) → length (shapes f) ≡ item_count f
length-shapes Empty = refl
length-shapes (Run count later) =
    length-append (replicate count Letter) (shapes later) ∙ ap (λ n. n + length (shapes later)) (length-replicate count Letter) ∙ ap (λ n. count + n) (length-shapes later)
length-shapes (Branch kind inside later) =
    let both = length-append (shapes inside) (End kind ∷ shapes later) in
    let one = length-shapes inside in
    let two = length-shapes later in
    omega (arith, both, one, two)

replicate-add : (m n : ℕ) (x : Shape) → replicate (m + n) x ≡ replicate m x ++ replicate n x
replicate-add zero n x = let e : 0 + n ≡ n = omega arith in ap (λ k. replicate k x) e
replicate-add (suc m) n x = let e : suc m + n ≡ suc (m + n) = omega arith in ap (λ k. replicate k x) e ∙ ap (λ xs. x ∷ xs) (replicate-add m n x)

-- The walk has passed shapes that lead to the state, and the siblings of a forest are still to be
-- passed, `left` items before the offset.
pub record OnTheWay (slots : Slots) (items : List PlainItem) (o : ℕ) (state : State) (next : Option NodeId) (left : ℕ) (f : Named) : Type 0 where
  pub pre : List Shape
  pub rest : List Shape
  pub whole : pre ++ (shapes (unnumbered f) ++ rest) ≡ map shape_of items
  pub sum : length pre + left ≡ o
  pub before : after_by start pre ≡ Ok state
  pub room : left ≤ item_count (unnumbered f)
  pub next_is : option_map number_of next ≡ first_or (heads f) None
  pub inner : ℕ
  pub edge : Option ℕ
  pub row : AreSiblings (links_of slots).parent (links_of slots).before (links_of slots).after inner edge (heads f) None
  pub shown : Shows slots f
  pub runs : NoEmptyRun (unnumbered f)

pub record StateWalk (slots : Slots) (items : List PlainItem) (o : ℕ) (state : State) (next : Option NodeId) (left : ℕ) : Type 0 where
  pub forest : Named
  pub on : OnTheWay slots items o state next left forest

pub way_start : {slots : Slots} {root : NodeId} {items : List PlainItem} (tree : IsTree slots root items) (o : ℕ) (node : ArenaNode) → slot_at slots root.0 ≡ Some node →
    o ≤ length items → StateWalk slots items o start node.first o
way_start {slots = slots} {root = root} {items = items} tree o node here within = record {
  forest = tree.named;
  on = record {
    pre = [];
    rest = [];
    whole = ap (λ f. shapes f ++ []) tree.is_tree ∙ append-nil (shapes (tree_of items)) ∙ tree_spells items tree.lawful;
    sum = omega arith;
    before = refl;
    room = omega (arith, within, ap item_count tree.is_tree, count_all items tree.lawful);
    next_is = sym (ap (link_in (λ node. node.first)) here) ∙ tree.root_shown.children.first;
    inner = root.0;
    edge = None;
    row = tree.root_shown.children.row;
    shown = tree.shown;
    runs = tree-runs tree;
  };
}

pub same_number : (child : NodeId) (n : ℕ) → option_map number_of (Some child) ≡ Some n → child.0 ≡ n
same_number child n h = cc

pub shown_live : (slots : Slots) (child : NodeId) (n : ℕ) (sort : NodeWhat) (len : ℕ) (kids : List ℕ) → child.0 ≡ n → IsShown slots n sort len kids → IsSome (slot_at slots child.0)
shown_live slots child n sort len kids e s = subst (λ m. IsSome (slot_at slots m)) (sym e) (by_slot (slot_at slots n) s.sort_is)
  where
    by_slot : (o : Option ArenaNode) → option_map (λ node. node.what) o ≡ Some sort → IsSome o
    by_slot None h = absurd (cc)
    by_slot (Some node) h = refl

-- the next node is there
pub way_live : (slots : Slots) (items : List PlainItem) (o : ℕ) (state : State) (child : NodeId) (left : ℕ) → StateWalk slots items o state (Some child) left →
    IsSome (slot_at slots child.0)
way_live slots items o state child left w = by_forest w.forest w.on
  where
    by_forest : (f : Named) → OnTheWay slots items o state (Some child) left f → IsSome (slot_at slots child.0)
    by_forest NoNode w = let bad = w.next_is in absurd (cc)
    by_forest (NamedRun h count later) w = shown_live slots child h _ _ _ (same_number child h w.next_is) w.shown.0
    by_forest (NamedBranch h kind inside later) w = shown_live slots child h _ _ _ (same_number child h w.next_is) w.shown.0

-- the next node's fields
pub record IsNext (slots : Slots) (node : ArenaNode) (h : ℕ) (sort : NodeWhat) (len : ℕ) : Type 0 where
  pub here : slot_at slots h ≡ Some node
  pub sort_is : node.what ≡ sort
  pub len_is : node.len ≡ len

pub is_next : (slots : Slots) (child : NodeId) (node : ArenaNode) (h : ℕ) (sort : NodeWhat) (len : ℕ) (kids : List ℕ) → slot_at slots child.0 ≡ Some node → child.0 ≡ h →
    IsShown slots h sort len kids → IsNext slots node h sort len
is_next slots child node h sort len kids here number s =
    let there : slot_at slots h ≡ Some node = ap (slot_at slots) (sym number) ∙ here in
    let sorts : ◌≡◌ {A = Option NodeWhat} (Some node.what) (Some sort) = sym (ap (option_map (λ node. node.what)) there) ∙ s.sort_is in
    let lens : ◌≡◌ {A = Option ℕ} (Some node.len) (Some len) = sym (ap (option_map (λ node. node.len)) there) ∙ s.len_is in
    record { here = there; sort_is = cc; len_is = cc }

-- the whole list leads to the end
goes_well : (items : List PlainItem) (xs : List Shape) → Lawful items → xs ≡ map shape_of items → after_by start xs ≡ Ok finish
goes_well items xs lawful e = ap (after_by start) e ∙ sym (after-shapes items start) ∙ after_from_Lawful items lawful

-- whole nodes are passed, after which there is more
record PassedOn (items : List PlainItem) (o : ℕ) (state : State) (left : ℕ) (pre post : List Shape) (g : Forest) : Type 0 where
  whole : (pre ++ shapes g) ++ post ≡ map shape_of items
  sum : length (pre ++ shapes g) + (left - item_count g) ≡ o
  before : after_by start (pre ++ shapes g) ≡ Ok state

pass_on : (items : List PlainItem) (o : ℕ) (state : State) (left : ℕ) (pre post : List Shape) (g : Forest) → Lawful items → o < length items →
    pre ++ (shapes g ++ post) ≡ map shape_of items → length pre + left ≡ o → after_by start pre ≡ Ok state → item_count g ≤ left → PassedOn items o state left pre post g
pass_on items o state left pre post g lawful within whole sum before le =
    let two = length-append pre (shapes g) in
    let one = length-shapes g in
    let all = ap (λ (l : List Shape). length l) whole ∙ length-map items shape_of in
    let three = length-append pre (shapes g ++ post) in
    let four = length-append (shapes g) post in
    record {
      whole = append_assoc pre (shapes g) post ∙ whole;
      sum = omega (arith, two, one, sum, le);
      before = pass pre post g state before (goes_well items _ lawful whole) (omega (arith, all, three, four, one, sum, le, within));
    }

-- a node before the offset is passed
pub way_skip : (slots : Slots) (items : List PlainItem) (o : ℕ) (state : State) (child : NodeId) (left : ℕ) (node : ArenaNode) → Lawful items → o < length items →
    StateWalk slots items o state (Some child) left → slot_at slots child.0 ≡ Some node → node.len ≤ left →
    (1 ≤ node.len) × StateWalk slots items o state node.after (left - node.len)
way_skip slots items o state child left node lawful within w here le = by_forest w.forest w.on
  where
    by_forest : (f : Named) → OnTheWay slots items o state (Some child) left f → (1 ≤ node.len) × StateWalk slots items o state node.after (left - node.len)
    by_forest NoNode w = let bad = w.next_is in absurd (cc)
    by_forest (NamedRun h count later) w =
        let n = is_next slots child node h _ _ _ here (same_number child h w.next_is) w.shown.0 in
        let g = Run count Empty in
        let split : shapes (Run count (unnumbered later)) ≡ shapes g ++ shapes (unnumbered later) = ap (λ xs. xs ++ shapes (unnumbered later)) (sym (append-nil (replicate count Letter))) in
        let p = pass_on items o state left w.pre (shapes (unnumbered later) ++ w.rest) g lawful within
        (ap (λ xs. w.pre ++ xs) (sym (append_assoc (shapes g) (shapes (unnumbered later)) w.rest) ∙ ap (λ xs. xs ++ w.rest) (sym split)) ∙ w.whole) w.sum w.before (omega (arith, n.len_is, le)) in (
          omega (arith, n.len_is, w.runs.0),
          record {
            forest = later;
            on = record {
              pre = w.pre ++ shapes g;
              rest = w.rest;
              whole = p.whole;
              sum = omega (arith, p.sum, n.len_is);
              before = p.before;
              room = omega (arith, w.room, n.len_is, le);
              next_is = sym (ap (link_in (λ node. node.after)) n.here) ∙ w.row.2;
              inner = w.inner;
              edge = Some h;
              row = w.row.3;
              shown = w.shown.1;
              runs = w.runs.1;
            };
          },
        )
    by_forest (NamedBranch h kind inside later) w =
        let n = is_next slots child node h _ _ _ here (same_number child h w.next_is) w.shown.0 in
        let g = Branch kind (unnumbered inside) Empty in
        let split : shapes (Branch kind (unnumbered inside) (unnumbered later)) ≡ shapes g ++ shapes (unnumbered later) =
        ap (λ xs. Begin kind ∷ xs) (sym (append_assoc (shapes (unnumbered inside)) (End kind ∷ []) (shapes (unnumbered later)))) in
        let p = pass_on items o state left w.pre (shapes (unnumbered later) ++ w.rest) g lawful within
        (ap (λ xs. w.pre ++ xs) (sym (append_assoc (shapes g) (shapes (unnumbered later)) w.rest) ∙ ap (λ xs. xs ++ w.rest) (sym split)) ∙ w.whole) w.sum w.before (omega (arith, n.len_is, le)) in (
          omega (arith, n.len_is),
          record {
            forest = later;
            on = record {
              pre = w.pre ++ shapes g;
              rest = w.rest;
              whole = p.whole;
              sum = omega (arith, p.sum, n.len_is);
              before = p.before;
              room = omega (arith, w.room, n.len_is, le);
              next_is = sym (ap (link_in (λ node. node.after)) n.here) ∙ w.row.2;
              inner = w.inner;
              edge = Some h;
              row = w.row.3;
              shown = w.shown.2;
              runs = w.runs.1;
            };
          },
        )

-- a node round the offset is entered
pub record Entered (slots : Slots) (items : List PlainItem) (o : ℕ) (state : State) (node : ArenaNode) (kind : Kind) (left : ℕ) : Type 0 where
  pub opens : (u : State) × (state_opened state kind ≡ Ok u)
  pub on : (u : State) → state_opened state kind ≡ Ok u → StateWalk slots items o u node.first (left - 1)

pub way_enter : (slots : Slots) (items : List PlainItem) (o : ℕ) (state : State) (child : NodeId) (left : ℕ) (node : ArenaNode) (kind : Kind) → Lawful items →
    StateWalk slots items o state (Some child) left → slot_at slots child.0 ≡ Some node → node.what ≡ what.Node kind → left < node.len → 0 < left →
    Entered slots items o state node kind left
way_enter slots items o state child left node kind lawful w here sort lt some = by_forest w.forest w.on
  where
    kinds : (k : Kind) → node.what ≡ what.Node k → k ≡ kind
    kinds k e = let both : what.Node k ≡ what.Node kind = sym e ∙ sort in cc

    by_forest : (f : Named) → OnTheWay slots items o state (Some child) left f → Entered slots items o state node kind left
    by_forest NoNode w = let bad = w.next_is in absurd (cc)
    by_forest (NamedRun h count later) w =
        let n = is_next slots child node h _ _ _ here (same_number child h w.next_is) w.shown.0 in
        let bad : what.Node kind ≡ what.Run = sym sort ∙ n.sort_is in absurd (cc)
    by_forest (NamedBranch h k inside later) w =
        let n = is_next slots child node h _ _ _ here (same_number child h w.next_is) w.shown.0 in
        let same = kinds k n.sort_is in
        let more : List Shape = (shapes (unnumbered inside) ++ End k ∷ shapes (unnumbered later)) ++ w.rest in
        let opens = enters w.pre more k state w.before (goes_well items _ lawful w.whole) in
        let joined : shapes (unnumbered inside) ++ (End k ∷ (shapes (unnumbered later) ++ w.rest)) ≡ more = sym (append_assoc (shapes (unnumbered inside)) (End k ∷ shapes (unnumbered later)) w.rest) in
        record {
          opens = (opens.0, subst (λ k. state_opened state k ≡ Ok opens.0) same opens.1);
          on = λ u e. record {
            forest = inside;
            on = record {
              pre = w.pre ++ (Begin k ∷ []);
              rest = End k ∷ (shapes (unnumbered later) ++ w.rest);
              whole = append_assoc w.pre (Begin k ∷ []) (shapes (unnumbered inside) ++ (End k ∷ (shapes (unnumbered later) ++ w.rest))) ∙ ap (λ xs. w.pre ++ (Begin k ∷ xs)) joined ∙ w.whole;
              sum = omega (arith, w.sum, length-append w.pre (Begin k ∷ []), some);
              before = by_whole w.pre (Begin k ∷ []) start state u w.before (by_one (Begin k) state u (subst (λ k. state_opened state k ≡ Ok u) (sym same) e));
              room = omega (arith, n.len_is, lt);
              next_is = sym (ap (link_in (λ node. node.first)) n.here) ∙ w.shown.0.children.first;
              inner = h;
              edge = None;
              row = w.shown.0.children.row;
              shown = w.shown.1;
              runs = w.runs.0;
            };
          };
        }

-- the state at the offset
pub unvalued_state : (items : List Item) (o : ℕ) (s : State) → after start (take o (unvalued items)) ≡ Ok s → IsStateAt items o s
unvalued_state items o s h = ap (after start) (sym (take-map (plain []) o items)) ∙ h

-- before a node
pub way_here : (slots : Slots) (items : List Item) (o : ℕ) (state : State) (next : Option NodeId) → StateWalk slots (unvalued items) o state next 0 → IsStateAt items o state
way_here slots items o state next w =
    unvalued_state items o state (reached w.on.pre (shapes (unnumbered w.forest) ++ w.on.rest) (unvalued items) o state w.on.whole (omega (arith, w.on.sum)) w.on.before)

-- past the last sibling
pub way_end : (slots : Slots) (items : List Item) (o : ℕ) (state : State) (left : ℕ) → StateWalk slots (unvalued items) o state None left → IsStateAt items o state
way_end slots items o state left w = by_forest w.forest w.on
  where
    by_forest : (f : Named) → OnTheWay slots (unvalued items) o state None left f → IsStateAt items o state
    by_forest NoNode w = unvalued_state items o state (reached w.pre w.rest (unvalued items) o state w.whole (omega (arith, w.sum, w.room)) w.before)
    by_forest (NamedRun h count later) w = let bad = w.next_is in absurd (cc)
    by_forest (NamedBranch h kind inside later) w = let bad = w.next_is in absurd (cc)

-- in a run
pub way_run : (slots : Slots) (items : List Item) (o : ℕ) (state : State) (child : NodeId) (left : ℕ) (node : ArenaNode) → Lawful (unvalued items) → o < length items →
    StateWalk slots (unvalued items) o state (Some child) left → slot_at slots child.0 ≡ Some node → node.what ≡ what.Run → left < node.len → IsStateAt items o state
way_run slots items o state child left node lawful within w here sort lt = by_forest w.forest w.on
  where
    by_forest : (f : Named) → OnTheWay slots (unvalued items) o state (Some child) left f → IsStateAt items o state
    by_forest NoNode w = let bad = w.next_is in absurd (cc)
    by_forest (NamedBranch h kind inside later) w =
        let n = is_next slots child node h _ _ _ here (same_number child h w.next_is) w.shown.0 in
        let bad : what.Node kind ≡ what.Run = sym n.sort_is ∙ sort in absurd (cc)
    by_forest (NamedRun h count later) w =
        let n = is_next slots child node h _ _ _ here (same_number child h w.next_is) w.shown.0 in
        let g = Run left Empty in
        let post : List Shape = replicate (count - left) Letter ++ (shapes (unnumbered later) ++ w.rest) in
        let e : left + (count - left) ≡ count = omega (arith, n.len_is, lt) in
        let split : shapes g ++ post ≡ shapes (unnumbered (NamedRun h count later)) ++ w.rest =
        ap (λ xs. xs ++ post) (append-nil (replicate left Letter))
        ∙ sym (append_assoc (replicate left Letter) (replicate (count - left) Letter) (shapes (unnumbered later) ++ w.rest))
        ∙ ap (λ xs. xs ++ (shapes (unnumbered later) ++ w.rest)) (sym (replicate-add left (count - left) Letter) ∙ ap (λ n. replicate n Letter) e)
        ∙ sym (append_assoc (replicate count Letter) (shapes (unnumbered later)) w.rest) in
        let p = pass_on (unvalued items) o state left w.pre post g lawful (omega (arith, within, length-map items (plain [])))
        (ap (λ xs. w.pre ++ xs) split ∙ w.whole) w.sum w.before (omega arith) in
        unvalued_state items o state (reached (w.pre ++ shapes g) post (unvalued items) o state p.whole (omega (arith, p.sum)) p.before)

-- at the list's end
pub state_at_end : (items : List Item) → Lawful (unvalued items) → IsStateAt items (length items) finish
state_at_end items lawful = ap (λ l. after start (unvalued l)) (take-length items) ∙ after_from_Lawful (unvalued items) lawful
