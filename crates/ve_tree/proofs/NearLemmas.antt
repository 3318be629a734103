-- From a node whose position is known to the walk that goes down to an offset, and to the node that
-- follows.
use Rattle.std.proofs.Common.{◌≡◌, ◌≢◌, ◌≤◌, ◌<◌, ◌+◌, ◌-◌, inl, inr, ℕ, suc, if◌then◌else◌, nat_le, Option, Some, None, List, [], ◌∷◌, ◌++◌, length, option_map, refl, sym, ap, ◌∙◌, subst, arith, Contains}
use Rattle.std.proofs.lemmas.Bool.{le-leb, lt-leb}
use Rattle.std.proofs.lemmas.List.Elements.{Contains-append_left, Contains-append_right, Contains-append_cases}
use Rattle.ve_kinds.specs.declared.kind.Kind.{Kind}
use Rattle.ve_kinds.specs.declared.kind.Kind.TheVariants.{Root}
use Rattle.model_items.specs.declared.plain_item.PlainItem.{PlainItem}
use Rattle.model_items.specs.Tree.{item_count, NodeExtent, node_at, tree_of}
use Rattle.model_items.proofs.NodeAtLemmas.{count_all}
use Rattle.ve_arena.specs.declared.node.NodeId.{NodeId}
use Rattle.ve_arena.specs.declared.node.NodeWhat.TheVariants as what
use Rattle.ve_arena.specs.declared.node.ArenaNode.{ArenaNode}
use Rattle.ve_arena.specs.Arena.{slot_at}
use Rattle.ve_tree.specs.Links.{number_of, link_in, links_of, first_or, AreSiblings}
use Rattle.ve_tree.specs.Named.{Named, NoNode, NamedRun, NamedBranch, unnumbered, heads, Shows}
use Rattle.ve_tree.specs.IsTree.{IsTree}
use Rattle.ve_tree.specs.Places.{NodePlace, node_places, tree_places, IsNodeAt}
use Rattle.ve_tree.specs.Spots.{closing_length, IsAtEnd}
use Rattle.ve_tree.proofs.SeekLemmas.{seek}
use Rattle.ve_tree.proofs.ClimbLemmas.{contains_cases, len_under, parent_under}
use Rattle.ve_tree.specs.Way.{BeginsBefore, EndsBefore}
use Rattle.ve_tree.proofs.WalkLemmas.{Slots, NoEmptyRun, contains-here, contains-later, tree-runs, all_items, Walk, walk_skip, walk_end, walk_none}

-- The walk to an offset has come to a forest in the node `inner`, which begins at `at`, `left`
-- items before the offset.
record On {slots : Slots} {root : NodeId} {items : List PlainItem} (tree : IsTree slots root items) (o inner at left : ℕ) (f : Named) : Type 0 where
  place : NodeExtent
  parent : Option ℕ
  start : Option ℕ
  listed : Contains (tree_places tree) (record { number = inner; parent = parent; sort = what.Node place.kind; from = place.from; to = place.to })
  row : AreSiblings (links_of slots).parent (links_of slots).before (links_of slots).after inner start (heads f) None
  shown : Shows slots f
  all_listed : (x : NodePlace) → Contains (node_places inner at f) x → Contains (tree_places tree) x
  runs : NoEmptyRun (unnumbered f)
  answer : seek (record { kind = Root; from = 0; to = length items }) 0 o (tree_of items) ≡ seek place at left (unnumbered f)
  room : left ≤ item_count (unnumbered f)
  end : at + item_count (unnumbered f) + closing_length parent ≡ place.to

on_start : {slots : Slots} {root : NodeId} {items : List PlainItem} (tree : IsTree slots root items) (o : ℕ) → o ≤ length items → On tree o root.0 0 o tree.named
on_start {root = root} {items = items} tree o within = record {
  place = record { kind = Root; from = 0; to = length items };
  parent = None;
  start = None;
  listed = contains-here _ (node_places root.0 0 tree.named);
  row = tree.root_shown.children.row;
  shown = tree.shown;
  all_listed = λ x c. contains-later _ x (node_places root.0 0 tree.named) c;
  runs = tree-runs tree;
  answer = ap (seek (record { kind = Root; from = 0; to = length items }) 0 o) (sym tree.is_tree);
  room = omega (arith, within, all_items tree);
  end = omega (arith, all_items tree);
}

-- past a run, past a branch, and into a branch
past_run : {slots : Slots} {root : NodeId} {items : List PlainItem} (tree : IsTree slots root items) (o inner at left h count : ℕ) (later : Named) →
    On tree o inner at left (NamedRun h count later) → count ≤ left → On tree o inner (at + count) (left - count) later
past_run tree o inner at left h count later w le = record {
  place = w.place;
  parent = w.parent;
  start = Some h;
  listed = w.listed;
  row = w.row.3;
  shown = w.shown.1;
  all_listed = λ x c. w.all_listed x (contains-later _ x (node_places inner (at + count) later) c);
  runs = w.runs.1;
  answer = w.answer ∙ ap (λ t. if t then seek w.place (at + count) (left - count) (unnumbered later) else w.place) (le-leb count left le);
  room = omega (arith, w.room);
  end = omega (arith, w.end);
}

past_branch : {slots : Slots} {root : NodeId} {items : List PlainItem} (tree : IsTree slots root items) (o inner at left h : ℕ) (kind : Kind) (inside later : Named) →
    On tree o inner at left (NamedBranch h kind inside later) → item_count (unnumbered inside) + 2 ≤ left →
    On tree o inner (at + (item_count (unnumbered inside) + 2)) (left - (item_count (unnumbered inside) + 2)) later
past_branch tree o inner at left h kind inside later w le =
    let len = item_count (unnumbered inside) + 2 in
    let below = if nat_le 1 left then seek (record { kind = kind; from = at; to = at + len }) (suc at) (left - 1) (unnumbered inside) else w.place in
    record {
      place = w.place;
      parent = w.parent;
      start = Some h;
      listed = w.listed;
      row = w.row.3;
      shown = w.shown.2;
      all_listed = λ x c. w.all_listed x (contains-later _ x (node_places h (suc at) inside ++ node_places inner (at + len) later)
          (Contains-append_right (node_places h (suc at) inside) (node_places inner (at + len) later) x c));
      runs = w.runs.1;
      answer = w.answer ∙ ap (λ t. if t then seek w.place (at + len) (left - len) (unnumbered later) else below) (le-leb len left le);
      room = omega (arith, w.room);
      end = omega (arith, w.end);
    }

into_branch : {slots : Slots} {root : NodeId} {items : List PlainItem} (tree : IsTree slots root items) (o inner at left h : ℕ) (kind : Kind) (inside later : Named) →
    On tree o inner at left (NamedBranch h kind inside later) → left < item_count (unnumbered inside) + 2 → 1 ≤ left → On tree o h (suc at) (left - 1) inside
into_branch tree o inner at left h kind inside later w lt some =
    let len = item_count (unnumbered inside) + 2 in
    let own : NodeExtent = record { kind = kind; from = at; to = at + len } in
    let below = if nat_le 1 left then seek own (suc at) (left - 1) (unnumbered inside) else w.place in
    record {
      place = own;
      parent = Some inner;
      start = None;
      listed = w.all_listed _ (contains-here _ (node_places h (suc at) inside ++ node_places inner (at + len) later));
      row = w.shown.0.children.row;
      shown = w.shown.1;
      all_listed = λ x c. w.all_listed x (contains-later _ x (node_places h (suc at) inside ++ node_places inner (at + len) later)
          (Contains-append_left (node_places h (suc at) inside) (node_places inner (at + len) later) x c));
      runs = w.runs.0;
      answer = w.answer
          ∙ ap (λ t. if t then seek w.place (at + len) (left - len) (unnumbered later) else below) (lt-leb len left lt)
          ∙ ap (λ t. if t then seek own (suc at) (left - 1) (unnumbered inside) else w.place) (le-leb 1 left some);
      room = omega (arith, lt);
      end = omega arith;
    }

-- The walk to an offset comes by each node that begins at or before the offset, and ends at the
-- offset or after it.
pub record Passes {slots : Slots} {root : NodeId} {items : List PlainItem} (tree : IsTree slots root items) (o : ℕ) (y : NodePlace) (child : NodeId) : Type 0 where
  pub inner : ℕ
  pub parent_is : y.parent ≡ Some inner
  pub walk : Walk tree o inner (Some child) (o - y.from)

same_some : (m n : ℕ) → m ≡ n → ◌≡◌ {A = Option ℕ} (Some m) (Some n)
same_some m n e = ap Some e

-- it stands first in the forest
comes : {slots : Slots} {root : NodeId} {items : List PlainItem} (tree : IsTree slots root items) (o inner at left h : ℕ) (f : Named) (y : NodePlace) (child : NodeId) →
    On tree o inner at left f → first_or (heads f) None ≡ Some h → y.number ≡ h → y.from ≡ at → y.parent ≡ Some inner → child.0 ≡ y.number → o ≡ at + left → Passes tree o y child
comes tree o inner at left h f y child w first number from parent is_child e =
    let left_is : o - y.from ≡ left = omega (arith, e, from) in
    record {
      inner = inner;
      parent_is = parent;
      walk = subst (Walk tree o inner (Some child)) (sym left_is) (record {
        forest = f;
        on = record {
          at = at;
          place = w.place;
          parent = w.parent;
          start = w.start;
          listed = w.listed;
          next_is = same_some child.0 h (is_child ∙ number) ∙ sym first;
          row = w.row;
          shown = w.shown;
          all_listed = w.all_listed;
          runs = w.runs;
          answer = w.answer;
          sum = omega (arith, e);
          room = w.room;
          end = w.end;
        };
      });
    }

-- the positions of a forest lie between its ends
pub record Lies (at end : ℕ) (y : NodePlace) : Type 0 where
  pub after_start : at ≤ y.from
  pub in_order : y.from ≤ y.to
  pub before_end : y.to ≤ end

pub lies : (f : Named) (p at : ℕ) (y : NodePlace) → Contains (node_places p at f) y → Lies at (at + item_count (unnumbered f)) y
lies NoNode p at y c = absurd (omega (arith, c.1))
lies (NamedRun h count later) p at y c =
    elim (contains_cases _ y (node_places p (at + count) later) c) [
      | inl same ↦ subst (Lies at (at + (count + item_count (unnumbered later)))) same (record { after_start = omega arith; in_order = omega arith; before_end = omega arith })
      | inr there ↦
          let l = lies later p (at + count) y there in
          record { after_start = omega (arith, l.after_start); in_order = l.in_order; before_end = omega (arith, l.before_end) }
    ]
lies (NamedBranch h kind inside later) p at y c =
    let len = item_count (unnumbered inside) + 2 in
    elim (contains_cases _ y (node_places h (suc at) inside ++ node_places p (at + len) later) c) [
      | inl same ↦ subst (Lies at (at + (item_count (unnumbered inside) + 2 + item_count (unnumbered later)))) same
          (record { after_start = omega arith; in_order = omega arith; before_end = omega arith })
      | inr there ↦ elim (Contains-append_cases (node_places h (suc at) inside) (node_places p (at + len) later) y there) [
        | inl in_ ↦
            let l = lies inside h (suc at) y in_ in
            record { after_start = omega (arith, l.after_start); in_order = l.in_order; before_end = omega (arith, l.before_end) }
        | inr after_ ↦
            let l = lies later p (at + len) y after_ in
            record { after_start = omega (arith, l.after_start); in_order = l.in_order; before_end = omega (arith, l.before_end) }
      ]
    ]

passes_on : {slots : Slots} {root : NodeId} {items : List PlainItem} (tree : IsTree slots root items) (o inner at left : ℕ) (f : Named) (y : NodePlace) (child : NodeId) →
    On tree o inner at left f → Contains (node_places inner at f) y → child.0 ≡ y.number → o ≡ at + left → y.from ≤ o → o ≤ y.to → Passes tree o y child
passes_on tree o inner at left NoNode y child w c is_child e from to = absurd (omega (arith, c.1))
passes_on tree o inner at left (NamedRun h count later) y child w c is_child e from to =
    elim (contains_cases _ y (node_places inner (at + count) later) c) [
      | inl same ↦
          comes tree o inner at left h (NamedRun h count later) y child w refl (sym (ap (λ (z : NodePlace). z.number) same)) (sym (ap (λ (z : NodePlace). z.from) same))
          (sym (ap (λ (z : NodePlace). z.parent) same)) is_child e
      | inr there ↦
          let l = lies later inner (at + count) y there in
          let le : count ≤ left = omega (arith, l.after_start, from, e) in
          passes_on tree o inner (at + count) (left - count) later y child (past_run tree o inner at left h count later w le) there is_child (omega (arith, e, le)) from to
    ]
passes_on tree o inner at left (NamedBranch h kind inside later) y child w c is_child e from to =
    let len = item_count (unnumbered inside) + 2 in
    elim (contains_cases _ y (node_places h (suc at) inside ++ node_places inner (at + len) later) c) [
      | inl same ↦
          comes tree o inner at left h (NamedBranch h kind inside later) y child w refl (sym (ap (λ (z : NodePlace). z.number) same)) (sym (ap (λ (z : NodePlace). z.from) same))
          (sym (ap (λ (z : NodePlace). z.parent) same)) is_child e
      | inr there ↦ elim (Contains-append_cases (node_places h (suc at) inside) (node_places inner (at + len) later) y there) [
        | inl in_ ↦
            let l = lies inside h (suc at) y in_ in
            let some : 1 ≤ left = omega (arith, l.after_start, from, e) in
            let lt : left < item_count (unnumbered inside) + 2 = omega (arith, l.before_end, to, e) in
            passes_on tree o h (suc at) (left - 1) inside y child (into_branch tree o inner at left h kind inside later w lt some) in_ is_child (omega (arith, e, some)) from to
        | inr after_ ↦
            let l = lies later inner (at + len) y after_ in
            let le : item_count (unnumbered inside) + 2 ≤ left = omega (arith, l.after_start, from, e) in
            passes_on tree o inner (at + len) (left - len) later y child (past_branch tree o inner at left h kind inside later w le) after_ is_child (omega (arith, e, le)) from to
      ]
    ]

pub passes : {slots : Slots} {root : NodeId} {items : List PlainItem} (tree : IsTree slots root items) (o : ℕ) (y : NodePlace) (child : NodeId) →
    Contains (node_places root.0 0 tree.named) y → child.0 ≡ y.number → y.from ≤ o → o ≤ y.to → Passes tree o y child
passes {root = root} tree o y child c is_child from to =
    let l = lies tree.named root.0 0 y c in
    passes_on tree o root.0 0 o tree.named y child (on_start tree o (omega (arith, to, l.before_end, all_items tree))) c is_child (omega arith) from to

-- The node that follows one of a forest under p. The latter is the last there, or a node follows
-- it, or it is the last inside one.
data Follows (slots : Slots) (all : List NodePlace) (p end : ℕ) (y : NodePlace) : Type 0 where
  AtLast : (links_of slots).after y.number ≡ None → y.to ≡ end → y.parent ≡ Some p → Follows slots all p end y
  Ahead : (z : NodePlace) → Contains all z → (links_of slots).after y.number ≡ Some z.number → z.from ≡ y.to → Follows slots all p end y
  LastIn : (z : NodePlace) → Contains all z → (links_of slots).after y.number ≡ None → y.parent ≡ Some z.number → suc y.to ≡ z.to → Follows slots all p end y

-- more nodes in the list
wider : (slots : Slots) (all more : List NodePlace) (p end : ℕ) (y : NodePlace) → ((z : NodePlace) → Contains all z → Contains more z) → Follows slots all p end y → Follows slots more p end y
wider slots all more p end y w (AtLast a t q) = AtLast a t q
wider slots all more p end y w (Ahead z c a f) = Ahead z (w z c) a f
wider slots all more p end y w (LastIn z c a q t) = LastIn z (w z c) a q t

-- the nodes inside one of the list
of_inside : (slots : Slots) (all : List NodePlace) (p end inner_end : ℕ) (own y : NodePlace) → Contains all own → suc inner_end ≡ own.to → Follows slots all own.number inner_end y →
    Follows slots all p end y
of_inside slots all p end inner_end own y c e (AtLast a t q) = LastIn own c a q (ap suc t ∙ e)
of_inside slots all p end inner_end own y c e (Ahead z d a f) = Ahead z d a f
of_inside slots all p end inner_end own y c e (LastIn z d a q t) = LastIn z d a q t

-- a node in front of a forest
in_front : (slots : Slots) (own : NodePlace) (between : List NodePlace) (later : Named) (p at : ℕ) → (links_of slots).after own.number ≡ first_or (heads later) None → own.to ≡ at → own.parent ≡ Some p →
    Follows slots (own ∷ (between ++ node_places p at later)) p (at + item_count (unnumbered later)) own
in_front slots own between NoNode p at a t q = AtLast a (omega (arith, t)) q
in_front slots own between (NamedRun h count later) p at a t q =
    let z : NodePlace = record { number = h; parent = Some p; sort = what.Run; from = at; to = at + count } in
    Ahead z (contains-later own z _ (Contains-append_right between (node_places p at (NamedRun h count later)) z (contains-here z (node_places p (at + count) later)))) a (sym t)
in_front slots own between (NamedBranch h kind inside later) p at a t q =
    let z : NodePlace = record { number = h; parent = Some p; sort = what.Node kind; from = at; to = at + (item_count (unnumbered inside) + 2) } in
    Ahead z (contains-later own z _ (Contains-append_right between (node_places p at (NamedBranch h kind inside later)) z
    (contains-here z (node_places h (suc at) inside ++ node_places p (at + (item_count (unnumbered inside) + 2)) later)))) a (sym t)

follows_in : (slots : Slots) (f : Named) (p at : ℕ) (start : Option ℕ) (y : NodePlace) → AreSiblings (links_of slots).parent (links_of slots).before (links_of slots).after p start (heads f) None →
    Shows slots f → Contains (node_places p at f) y → Follows slots (node_places p at f) p (at + item_count (unnumbered f)) y
follows_in slots NoNode p at start y row shown c = absurd (omega (arith, c.1))
follows_in slots (NamedRun h count later) p at start y row shown c =
    let own : NodePlace = record { number = h; parent = Some p; sort = what.Run; from = at; to = at + count } in
    let e : (at + count) + item_count (unnumbered later) ≡ at + (count + item_count (unnumbered later)) = omega arith in
    let all : List NodePlace = own ∷ node_places p (at + count) later in
    elim (contains_cases own y (node_places p (at + count) later) c) [
      | inl same ↦ subst (Follows slots all p (at + (count + item_count (unnumbered later)))) same (subst (λ end. Follows slots all p end own) e (in_front slots own [] later p (at + count) row.2 refl refl))
      | inr there ↦ subst (λ end. Follows slots all p end y) e
          (wider slots (node_places p (at + count) later) all p (at + count + item_count (unnumbered later)) y (λ z d. contains-later own z (node_places p (at + count) later) d)
          (follows_in slots later p (at + count) (Some h) y row.3 shown.1 there))
    ]
follows_in slots (NamedBranch h kind inside later) p at start y row shown c =
    let len = item_count (unnumbered inside) + 2 in
    let own : NodePlace = record { number = h; parent = Some p; sort = what.Node kind; from = at; to = at + len } in
    let within = node_places h (suc at) inside in
    let behind = node_places p (at + len) later in
    let end = at + (item_count (unnumbered inside) + 2 + item_count (unnumbered later)) in
    let e : (at + len) + item_count (unnumbered later) ≡ end = omega arith in
    let all : List NodePlace = own ∷ (within ++ behind) in
    elim (contains_cases own y (within ++ behind) c) [
      | inl same ↦ subst (Follows slots all p end) same (subst (λ end. Follows slots all p end own) e (in_front slots own within later p (at + len) row.2 refl refl))
      | inr there ↦ elim (Contains-append_cases within behind y there) [
        | inl in_ ↦ of_inside slots all p end (suc at + item_count (unnumbered inside)) own y (contains-here own (within ++ behind)) (omega arith)
            (wider slots within all h (suc at + item_count (unnumbered inside)) y (λ z d. contains-later own z (within ++ behind) (Contains-append_left within behind z d))
            (follows_in slots inside h (suc at) None y shown.0.children.row shown.1 in_))
        | inr after_ ↦ subst (λ end. Follows slots all p end y) e
            (wider slots behind all p (at + len + item_count (unnumbered later)) y (λ z d. contains-later own z (within ++ behind) (Contains-append_right within behind z d))
            (follows_in slots later p (at + len) (Some h) y row.3 shown.2 after_))
      ]
    ]

follows : {slots : Slots} {root : NodeId} {items : List PlainItem} (tree : IsTree slots root items) (y : NodePlace) → Contains (node_places root.0 0 tree.named) y →
    Follows slots (node_places root.0 0 tree.named) root.0 (length items) y
follows {slots = slots} {root = root} {items = items} tree y c =
    let e : 0 + item_count (unnumbered tree.named) ≡ length items = omega (arith, ap item_count tree.is_tree, count_all items tree.lawful) in
    subst (λ end. Follows slots (node_places root.0 0 tree.named) root.0 end y) e (follows_in slots tree.named root.0 0 None y tree.root_shown.children.row tree.shown c)

-- a node is not the root, unless it is the first of all positions
pub under_root : {slots : Slots} {root : NodeId} {items : List PlainItem} (tree : IsTree slots root items) (y : NodePlace) → Contains (tree_places tree) y → y.number ≢ root.0 →
    Contains (node_places root.0 0 tree.named) y
under_root {root = root} tree y c other =
    elim (contains_cases _ y (node_places root.0 0 tree.named) c) [
      | inl same ↦ absurd (other (sym (ap (λ (z : NodePlace). z.number) same)))
      | inr there ↦ there
    ]

pub listed : {slots : Slots} {root : NodeId} {items : List PlainItem} (tree : IsTree slots root items) (y : NodePlace) → Contains (node_places root.0 0 tree.named) y → Contains (tree_places tree) y
listed {root = root} tree y c = contains-later _ y (node_places root.0 0 tree.named) c

-- the links of a node that stands under a number
after_is : (slots : Slots) (m : ℕ) (n : NodeId) (node : ArenaNode) → m ≡ n.0 → slot_at slots n.0 ≡ Some node → (links_of slots).after m ≡ option_map number_of node.after
after_is slots m n node e here = ap (λ k. link_in (λ node. node.after) (slot_at slots k)) e ∙ ap (link_in (λ node. node.after)) here

number_after : (m : ℕ) (link : Option NodeId) (n : NodeId) → ◌≡◌ {A = Option ℕ} (Some m) (option_map number_of link) → link ≡ Some n → m ≡ n.0
number_after m link n h e = cc

no_after : (m : ℕ) (link : Option NodeId) → ◌≡◌ {A = Option ℕ} (Some m) (option_map number_of link) → link ≡ None → ⊥
no_after m link h e = cc

some_after : (link : Option NodeId) (n : NodeId) → ◌≡◌ {A = Option ℕ} None (option_map number_of link) → link ≡ Some n → ⊥
some_after link n h e = cc

-- the node that follows
pub step_after : {slots : Slots} {root : NodeId} {items : List PlainItem} (tree : IsTree slots root items) (o : ℕ) (at : NodeId) (left : ℕ) (node : ArenaNode) (after : NodeId) →
    EndsBefore tree o at left → slot_at slots at.0 ≡ Some node → node.after ≡ Some after → BeginsBefore tree o after left
step_after {slots = slots} {root = root} {items = items} tree o at left node after p here is_after = by_case (follows tree p.place p.listed)
  where
    link : (links_of slots).after p.place.number ≡ option_map number_of node.after
    link = after_is slots p.place.number at node p.number_is here

    by_case : Follows slots (node_places root.0 0 tree.named) root.0 (length items) p.place → BeginsBefore tree o after left
    by_case (AtLast a t q) = absurd (some_after node.after after (sym a ∙ link) is_after)
    by_case (Ahead z c a f) = record { place = z; listed = c; number_is = number_after z.number node.after after (sym a ∙ link) is_after; sum = omega (arith, f, p.sum) }
    by_case (LastIn z c a q t) = absurd (some_after node.after after (sym a ∙ link) is_after)

-- the node round it, where none follows
pub record StepUp {slots : Slots} {root : NodeId} {items : List PlainItem} (tree : IsTree slots root items) (o : ℕ) (parent : NodeId) (left : ℕ) : Type 0 where
  pub found : left ≡ 0 → IsNodeAt tree parent (node_at items o) × IsAtEnd tree o parent
  pub up : 0 < left → EndsBefore tree o parent (left - 1)

-- each node under the root has a parent, and is not empty
pub parent_some : {slots : Slots} {root : NodeId} {items : List PlainItem} (tree : IsTree slots root items) (y : NodePlace) (n : NodeId) (node : ArenaNode) →
    Contains (node_places root.0 0 tree.named) y → y.number ≡ n.0 → slot_at slots n.0 ≡ Some node → node.parent ≡ None → ⊥
parent_some tree y n node c number here none =
    let l = lies tree.named _ 0 y c in
    let p = passes tree y.from y n c (sym number) (omega arith) l.in_order in
    let q = parent_under tree y n node (listed tree y c) number here in
    let bad : ◌≡◌ {A = Option ℕ} (Some p.inner) None = sym p.parent_is ∙ q ∙ ap (option_map number_of) none in
    cc

pub not_empty : {slots : Slots} {root : NodeId} {items : List PlainItem} (tree : IsTree slots root items) (y : NodePlace) (n : NodeId) (node : ArenaNode) →
    Contains (node_places root.0 0 tree.named) y → y.number ≡ n.0 → slot_at slots n.0 ≡ Some node → 1 ≤ node.len
not_empty tree y n node c number here =
    let l = lies tree.named _ 0 y c in
    let ends = len_under tree y n node (listed tree y c) number here in
    let p = passes tree y.to y n c (sym number) l.in_order (omega arith) in
    (walk_skip tree y.to p.inner n (y.to - y.from) node p.walk here (omega (arith, ends))).0

-- the parent of a node that the walk comes by
pub parent_number : {slots : Slots} {root : NodeId} {items : List PlainItem} (tree : IsTree slots root items) (o : ℕ) (y : NodePlace) (n : NodeId) (node : ArenaNode) (parent : NodeId) (p : Passes tree o y n) →
    Contains (node_places root.0 0 tree.named) y → y.number ≡ n.0 → slot_at slots n.0 ≡ Some node → node.parent ≡ Some parent → p.inner ≡ parent.0
parent_number tree o y n node parent p c number here is_parent =
    let q = parent_under tree y n node (listed tree y c) number here in
    let both : ◌≡◌ {A = Option ℕ} (Some p.inner) (Some parent.0) = sym p.parent_is ∙ q ∙ ap (option_map number_of) is_parent in
    cc

-- the offset is just behind the last node inside another
found_at_end : {slots : Slots} {root : NodeId} {items : List PlainItem} (tree : IsTree slots root items) (o : ℕ) (y : NodePlace) (at : NodeId) (node : ArenaNode) (parent : NodeId) →
    Contains (node_places root.0 0 tree.named) y → y.number ≡ at.0 → slot_at slots at.0 ≡ Some node → node.after ≡ None → node.parent ≡ Some parent → o ≤ length items → y.to ≡ o →
    IsNodeAt tree parent (node_at items o) × IsAtEnd tree o parent
found_at_end tree o y at node parent c number here none is_parent within e =
    let l = lies tree.named _ 0 y c in
    let ends = len_under tree y at node (listed tree y c) number here in
    let p = passes tree o y at c (sym number) (omega (arith, l.in_order, e)) (omega (arith, e)) in
    let same = parent_number tree o y at node parent p c number here is_parent in
    let behind = (walk_skip tree o p.inner at (o - y.from) node p.walk here (omega (arith, ends, e))).1 in
    let none_behind = subst (λ next. Walk tree o p.inner next (o - y.from - node.len)) none behind in
    let walk = subst (λ n. Walk tree o n None (o - y.from - node.len)) same none_behind in
    (walk_end tree o parent (o - y.from - node.len) within walk, walk_none tree o parent (o - y.from - node.len) walk)

pub step_up : {slots : Slots} {root : NodeId} {items : List PlainItem} (tree : IsTree slots root items) (o : ℕ) (at : NodeId) (left : ℕ) (node : ArenaNode) (parent : NodeId) →
    EndsBefore tree o at left → slot_at slots at.0 ≡ Some node → node.after ≡ None → node.parent ≡ Some parent → o ≤ length items → StepUp tree o parent left
step_up {slots = slots} {root = root} {items = items} tree o at left node parent p here none is_parent within = record {
  found = λ zero_left. found_at_end tree o p.place at node parent p.listed p.number_is here none is_parent within (omega (arith, p.sum, zero_left));
  up = λ some. by_case some (follows tree p.place p.listed);
}
  where
    link : (links_of slots).after p.place.number ≡ option_map number_of node.after
    link = after_is slots p.place.number at node p.number_is here

    over : p.place.parent ≡ Some parent.0
    over = parent_under tree p.place at node (listed tree p.place p.listed) p.number_is here ∙ ap (option_map number_of) is_parent

    same_parent : (m : ℕ) → p.place.parent ≡ Some m → m ≡ parent.0
    same_parent m e = let both : ◌≡◌ {A = Option ℕ} (Some m) (Some parent.0) = sym e ∙ over in cc

    by_case : 0 < left → Follows slots (node_places root.0 0 tree.named) root.0 (length items) p.place → EndsBefore tree o parent (left - 1)
    by_case some (AtLast a t q) = absurd (omega (arith, some, t, p.sum, within))
    by_case some (Ahead z c a f) = absurd (no_after z.number node.after (sym a ∙ link) none)
    by_case some (LastIn z c a q t) = record { place = z; listed = c; number_is = same_parent z.number q; sum = omega (arith, t, p.sum, some) }

-- a node that ends at the offset or before it
pub passed : {slots : Slots} {root : NodeId} {items : List PlainItem} (tree : IsTree slots root items) (o : ℕ) (n : NodeId) (left : ℕ) (node : ArenaNode) → BeginsBefore tree o n left →
    slot_at slots n.0 ≡ Some node → node.len ≤ left → EndsBefore tree o n (left - node.len)
passed tree o n left node s here le =
    let ends = len_under tree s.place n node (listed tree s.place s.listed) s.number_is here in
    record { place = s.place; listed = s.listed; number_is = s.number_is; sum = omega (arith, ends, s.sum, le) }
