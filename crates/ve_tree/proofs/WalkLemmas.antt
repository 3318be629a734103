-- Walking down the links to the innermost node round an offset.
use Rattle.std.proofs.Common.{◌≡◌, ◌≤◌, ◌<◌, ◌+◌, ◌-◌, ℕ, zero, suc, if◌then◌else◌, nat_le, Option, Some, None, IsSome, List, [], ◌∷◌, ◌++◌, drop, length, option_map, refl, sym, ap, ◌∙◌, subst, arith, Contains}
use Rattle.std.proofs.lemmas.Bool.{le-leb, lt-leb}
use Rattle.std.proofs.lemmas.List.Elements.{Contains-append_left, Contains-append_right}
use Rattle.ve_kinds.specs.declared.kind.Kind.{Kind}
use Rattle.ve_kinds.specs.declared.kind.Kind.TheVariants.{Root}
use Rattle.model_items.specs.declared.plain_item.PlainItem.{PlainItem}
use Rattle.model_items.specs.declared.plain_item.PlainItem.TheVariants.{Char, Opening, Closing}
use Rattle.model_items.specs.Tree.{Forest, Empty, Run, Branch, with_char, first_forest, reading, item_count, NodeExtent, node_at, tree_of}
use Rattle.ve_arena.specs.declared.node.NodeId.{NodeId}
use Rattle.ve_arena.specs.declared.node.NodeWhat.{NodeWhat}
use Rattle.ve_arena.specs.declared.node.NodeWhat.TheVariants as what
use Rattle.ve_arena.specs.declared.node.ArenaNode.{ArenaNode}
use Rattle.ve_arena.specs.Arena.{slot_at}
use Rattle.ve_tree.specs.Links.{number_of, link_in, links_of, first_or, AreSiblings}
use Rattle.ve_tree.specs.Named.{Named, NoNode, NamedRun, NamedBranch, unnumbered, heads, IsShown, Shows}
use Rattle.ve_tree.specs.IsTree.{IsTree}
use Rattle.ve_tree.specs.Places.{NodePlace, node_places, tree_places, IsNodeAt}
use Rattle.ve_tree.specs.Spots.{closing_length, IsAtEnd, IsChildThere}
use Rattle.model_items.proofs.NodeAtLemmas.{count_all}
use Rattle.ve_tree.proofs.SeekLemmas.{seek, node_at-seek}

abbrev pub Slots : Type 0
Slots = List (Option ArenaNode)

-- each run has a character
abbrev pub NoEmptyRun : Forest → Type 0
NoEmptyRun Empty = Unit {0}
NoEmptyRun (Run count later) = (1 ≤ count) × NoEmptyRun later
NoEmptyRun (Branch kind inside later) = NoEmptyRun inside × NoEmptyRun later

abbrev AllNoEmptyRun : List Forest → Type 0
AllNoEmptyRun [] = Unit {0}
AllNoEmptyRun (f ∷ fs) = NoEmptyRun f × AllNoEmptyRun fs

with_char-runs : (f : Forest) → NoEmptyRun f → NoEmptyRun (with_char f)
with_char-runs Empty h = (omega arith, tt)
with_char-runs (Run count later) h = (omega arith, h.1)
with_char-runs (Branch kind inside later) h = (omega arith, h)

first_of-runs : (fs : List Forest) → AllNoEmptyRun fs → NoEmptyRun (first_forest fs)
first_of-runs [] h = tt
first_of-runs (f ∷ fs) h = h.0

drop-runs : (fs : List Forest) → AllNoEmptyRun fs → AllNoEmptyRun (drop 1 fs)
drop-runs [] h = tt
drop-runs (f ∷ fs) h = h.1

reading-runs : (items : List PlainItem) → NoEmptyRun (reading items).here × AllNoEmptyRun (reading items).outer
reading-runs [] = (tt, tt)
reading-runs (Char c marks ∷ items) = (with_char-runs (reading items).here (reading-runs items).0, (reading-runs items).1)
reading-runs (Closing kind pre ∷ items) = (tt, ((reading-runs items).0, (reading-runs items).1))
reading-runs (Opening kind head marks pre origin generated ∷ items) =
    (((reading-runs items).0, first_of-runs (reading items).outer (reading-runs items).1), drop-runs (reading items).outer (reading-runs items).1)

pub contains-here : {X : Type 0} (x : X) (xs : List X) → Contains (x ∷ xs) x
contains-here x xs = (0, omega arith, refl)

pub contains-later : {X : Type 0} (y x : X) (xs : List X) → Contains xs x → Contains (y ∷ xs) x
contains-later y x xs c = (suc c.0, omega (arith, c.1), c.2)

pub tree-runs : {slots : Slots} {root : NodeId} {items : List PlainItem} (tree : IsTree slots root items) → NoEmptyRun (unnumbered tree.named)
tree-runs {items = items} tree = subst NoEmptyRun (sym tree.is_tree) (reading-runs items).0

-- The walk is in the node `inner`, and the siblings of a forest are still to be passed, `left`
-- items before the offset.
pub record WalkOn {slots : Slots} {root : NodeId} {items : List PlainItem} (tree : IsTree slots root items) (o inner : ℕ) (next : Option NodeId) (left : ℕ) (f : Named) : Type 0 where
  pub at : ℕ
  pub place : NodeExtent
  pub parent : Option ℕ
  pub start : Option ℕ
  pub listed : Contains (tree_places tree) (record { number = inner; parent = parent; sort = what.Node place.kind; from = place.from; to = place.to })
  pub next_is : option_map number_of next ≡ first_or (heads f) None
  pub row : AreSiblings (links_of slots).parent (links_of slots).before (links_of slots).after inner start (heads f) None
  pub shown : Shows slots f
  pub all_listed : (x : NodePlace) → Contains (node_places inner at f) x → Contains (tree_places tree) x
  pub runs : NoEmptyRun (unnumbered f)
  pub answer : seek (record { kind = Root; from = 0; to = length items }) 0 o (tree_of items) ≡ seek place at left (unnumbered f)
  pub sum : at + left ≡ o
  pub room : left ≤ item_count (unnumbered f)
  pub end : at + item_count (unnumbered f) + closing_length parent ≡ place.to

pub record Walk {slots : Slots} {root : NodeId} {items : List PlainItem} (tree : IsTree slots root items) (o inner : ℕ) (next : Option NodeId) (left : ℕ) : Type 0 where
  pub forest : Named
  pub on : WalkOn tree o inner next left forest

-- the nodes of a tree have all items
pub all_items : {slots : Slots} {root : NodeId} {items : List PlainItem} (tree : IsTree slots root items) → item_count (unnumbered tree.named) ≡ length items
all_items {items = items} tree = ap item_count tree.is_tree ∙ count_all items tree.lawful

pub walk_start : {slots : Slots} {root : NodeId} {items : List PlainItem} (tree : IsTree slots root items) (o : ℕ) (node : ArenaNode) → o ≤ length items → slot_at slots root.0 ≡ Some node →
    Walk tree o root.0 node.first o
walk_start {slots = slots} {root = root} {items = items} tree o node within here = record {
  forest = tree.named;
  on = record {
    at = 0;
    place = record { kind = Root; from = 0; to = length items };
    parent = None;
    start = None;
    listed = contains-here _ (node_places root.0 0 tree.named);
    next_is = sym (ap (link_in (λ node. node.first)) here) ∙ tree.root_shown.children.first;
    row = tree.root_shown.children.row;
    shown = tree.shown;
    all_listed = λ x c. contains-later _ x (node_places root.0 0 tree.named) c;
    runs = tree-runs tree;
    answer = ap (seek (record { kind = Root; from = 0; to = length items }) 0 o) (sym tree.is_tree);
    sum = omega arith;
    room = omega (arith, within, all_items tree);
    end = omega (arith, all_items tree);
  };
}

same_number : (child : NodeId) (n : ℕ) → option_map number_of (Some child) ≡ Some n → child.0 ≡ n
same_number child n h = cc

pub shown_live : (slots : Slots) (n : ℕ) (sort : NodeWhat) (len : ℕ) (kids : List ℕ) → IsShown slots n sort len kids → IsSome (slot_at slots n)
shown_live slots n sort len kids s = by_slot (slot_at slots n) s.sort_is
  where
    by_slot : (o : Option ArenaNode) → option_map (λ node. node.what) o ≡ Some sort → IsSome o
    by_slot None h = absurd (cc)
    by_slot (Some node) h = refl

-- the next node is there
live_on : {slots : Slots} {root : NodeId} {items : List PlainItem} (tree : IsTree slots root items) (o inner : ℕ) (child : NodeId) (left : ℕ) (f : Named) →
    WalkOn tree o inner (Some child) left f → IsSome (slot_at slots child.0)
live_on tree o inner child left NoNode w = let bad = w.next_is in absurd (cc)
live_on {slots = slots} tree o inner child left (NamedRun h count later) w =
    subst (λ n. IsSome (slot_at slots n)) (sym (same_number child h w.next_is)) (shown_live slots h _ _ _ w.shown.0)
live_on {slots = slots} tree o inner child left (NamedBranch h kind inside later) w =
    subst (λ n. IsSome (slot_at slots n)) (sym (same_number child h w.next_is)) (shown_live slots h _ _ _ w.shown.0)

pub walk_live : {slots : Slots} {root : NodeId} {items : List PlainItem} (tree : IsTree slots root items) (o inner : ℕ) (child : NodeId) (left : ℕ) →
    Walk tree o inner (Some child) left → IsSome (slot_at slots child.0)
walk_live tree o inner child left w = live_on tree o inner child left w.forest w.on

-- the next node's fields
record IsNext (slots : Slots) (child : NodeId) (node : ArenaNode) (h : ℕ) (sort : NodeWhat) (len : ℕ) : Type 0 where
  number : child.0 ≡ h
  here : slot_at slots h ≡ Some node
  sort_is : node.what ≡ sort
  len_is : node.len ≡ len

is_next : (slots : Slots) (child : NodeId) (node : ArenaNode) (h : ℕ) (sort : NodeWhat) (len : ℕ) (kids : List ℕ) → slot_at slots child.0 ≡ Some node → child.0 ≡ h →
    IsShown slots h sort len kids → IsNext slots child node h sort len
is_next slots child node h sort len kids here number s =
    let there : slot_at slots h ≡ Some node = ap (slot_at slots) (sym number) ∙ here in
    let sorts : ◌≡◌ {A = Option NodeWhat} (Some node.what) (Some sort) = sym (ap (option_map (λ node. node.what)) there) ∙ s.sort_is in
    let lens : ◌≡◌ {A = Option ℕ} (Some node.len) (Some len) = sym (ap (option_map (λ node. node.len)) there) ∙ s.len_is in
    record { number = number; here = there; sort_is = cc; len_is = cc }

-- a node before the offset is passed
skip_on : {slots : Slots} {root : NodeId} {items : List PlainItem} (tree : IsTree slots root items) (o inner : ℕ) (child : NodeId) (left : ℕ) (node : ArenaNode) (f : Named) →
    WalkOn tree o inner (Some child) left f → slot_at slots child.0 ≡ Some node → node.len ≤ left → (1 ≤ node.len) × Walk tree o inner node.after (left - node.len)
skip_on tree o inner child left node NoNode w here le = let bad = w.next_is in absurd (cc)
skip_on {slots = slots} tree o inner child left node (NamedRun h count later) w here le =
    let n = is_next slots child node h _ _ _ here (same_number child h w.next_is) w.shown.0 in (
      omega (arith, n.len_is, w.runs.0),
      subst (λ len. Walk tree o inner node.after (left - len)) (sym n.len_is) (record {
        forest = later;
        on = record {
          at = w.at + count;
          place = w.place;
          parent = w.parent;
          start = Some h;
          listed = w.listed;
          next_is = sym (ap (link_in (λ node. node.after)) n.here) ∙ w.row.2;
          row = w.row.3;
          shown = w.shown.1;
          all_listed = λ x c. w.all_listed x (contains-later _ x (node_places inner (w.at + count) later) c);
          runs = w.runs.1;
          answer = w.answer ∙ ap (λ t. if t then seek w.place (w.at + count) (left - count) (unnumbered later) else w.place) (le-leb count left (omega (arith, n.len_is, le)));
          sum = omega (arith, w.sum, n.len_is, le);
          room = omega (arith, w.room);
          end = omega (arith, w.end);
        };
      }),
    )
skip_on {slots = slots} tree o inner child left node (NamedBranch h kind inside later) w here le =
    let len = item_count (unnumbered inside) + 2 in
    let n = is_next slots child node h _ _ _ here (same_number child h w.next_is) w.shown.0 in
    let below = if nat_le 1 left then seek (record { kind = kind; from = w.at; to = w.at + len }) (suc w.at) (left - 1) (unnumbered inside) else w.place in (
      omega (arith, n.len_is),
      subst (λ len. Walk tree o inner node.after (left - len)) (sym n.len_is) (record {
        forest = later;
        on = record {
          at = w.at + len;
          place = w.place;
          parent = w.parent;
          start = Some h;
          listed = w.listed;
          next_is = sym (ap (link_in (λ node. node.after)) n.here) ∙ w.row.2;
          row = w.row.3;
          shown = w.shown.2;
          all_listed = λ x c. w.all_listed x (contains-later _ x (node_places h (suc w.at) inside ++ node_places inner (w.at + len) later)
              (Contains-append_right (node_places h (suc w.at) inside) (node_places inner (w.at + len) later) x c));
          runs = w.runs.1;
          answer = w.answer ∙ ap (λ t. if t then seek w.place (w.at + len) (left - len) (unnumbered later) else below) (le-leb len left (omega (arith, n.len_is, le)));
          sum = omega (arith, w.sum, n.len_is, le);
          room = omega (arith, w.room);
          end = omega (arith, w.end);
        };
      }),
    )

pub walk_skip : {slots : Slots} {root : NodeId} {items : List PlainItem} (tree : IsTree slots root items) (o inner : ℕ) (child : NodeId) (left : ℕ) (node : ArenaNode) →
    Walk tree o inner (Some child) left → slot_at slots child.0 ≡ Some node → node.len ≤ left → (1 ≤ node.len) × Walk tree o inner node.after (left - node.len)
walk_skip tree o inner child left node w here le = skip_on tree o inner child left node w.forest w.on here le

-- a node round the offset is entered
enter_on : {slots : Slots} {root : NodeId} {items : List PlainItem} (tree : IsTree slots root items) (o inner : ℕ) (child : NodeId) (left : ℕ) (node : ArenaNode) (kind : Kind) (f : Named) →
    WalkOn tree o inner (Some child) left f → slot_at slots child.0 ≡ Some node → node.what ≡ what.Node kind → left < node.len → 0 < left →
    Walk tree o child.0 node.first (left - 1)
enter_on tree o inner child left node kind NoNode w here sort lt some = let bad = w.next_is in absurd (cc)
enter_on {slots = slots} tree o inner child left node kind (NamedRun h count later) w here sort lt some =
    let n = is_next slots child node h _ _ _ here (same_number child h w.next_is) w.shown.0 in
    let bad : what.Node kind ≡ what.Run = sym sort ∙ n.sort_is in absurd (cc)
enter_on {slots = slots} tree o inner child left node kind (NamedBranch h k inside later) w here sort lt some =
    let len = item_count (unnumbered inside) + 2 in
    let n = is_next slots child node h _ _ _ here (same_number child h w.next_is) w.shown.0 in
    let own : NodeExtent = record { kind = k; from = w.at; to = w.at + len } in
    let below = if nat_le 1 left then seek own (suc w.at) (left - 1) (unnumbered inside) else w.place in
    subst (λ m. Walk tree o m node.first (left - 1)) (sym n.number) (record {
      forest = inside;
      on = record {
        at = suc w.at;
        place = own;
        parent = Some inner;
        start = None;
        listed = w.all_listed _ (contains-here _ (node_places h (suc w.at) inside ++ node_places inner (w.at + len) later));
        next_is = sym (ap (link_in (λ node. node.first)) n.here) ∙ w.shown.0.children.first;
        row = w.shown.0.children.row;
        shown = w.shown.1;
        all_listed = λ x c. w.all_listed x (contains-later _ x (node_places h (suc w.at) inside ++ node_places inner (w.at + len) later)
            (Contains-append_left (node_places h (suc w.at) inside) (node_places inner (w.at + len) later) x c));
        runs = w.runs.0;
        answer = w.answer
            ∙ ap (λ t. if t then seek w.place (w.at + len) (left - len) (unnumbered later) else below) (lt-leb len left (omega (arith, n.len_is, lt)))
            ∙ ap (λ t. if t then seek own (suc w.at) (left - 1) (unnumbered inside) else w.place) (le-leb 1 left (omega (arith, some)));
        sum = omega (arith, w.sum, some);
        room = omega (arith, n.len_is, lt);
        end = omega arith;
      };
    })

pub walk_enter : {slots : Slots} {root : NodeId} {items : List PlainItem} (tree : IsTree slots root items) (o inner : ℕ) (child : NodeId) (left : ℕ) (node : ArenaNode) (kind : Kind) →
    Walk tree o inner (Some child) left → slot_at slots child.0 ≡ Some node → node.what ≡ what.Node kind → left < node.len → 0 < left →
    Walk tree o child.0 node.first (left - 1)
walk_enter tree o inner child left node kind w here sort lt some = enter_on tree o inner child left node kind w.forest w.on here sort lt some

-- the node is found
found : {slots : Slots} {root : NodeId} {items : List PlainItem} (tree : IsTree slots root items) (o : ℕ) (inner : NodeId) (next : Option NodeId) (left : ℕ) (f : Named) → o ≤ length items →
    (w : WalkOn tree o inner.0 next left f) → seek w.place w.at left (unnumbered f) ≡ w.place → IsNodeAt tree inner (node_at items o)
found {items = items} tree o inner next left f within w at_place =
    subst (IsNodeAt tree inner) (sym (node_at-seek items o tree.lawful within ∙ w.answer ∙ at_place)) (record { parent = w.parent; listed = w.listed })

-- past the last sibling
pub walk_end : {slots : Slots} {root : NodeId} {items : List PlainItem} (tree : IsTree slots root items) (o : ℕ) (inner : NodeId) (left : ℕ) → o ≤ length items →
    Walk tree o inner.0 None left → IsNodeAt tree inner (node_at items o)
walk_end {slots = slots} {root = root} {items = items} tree o inner left within w = by_forest w.forest w.on
  where
    by_forest : (f : Named) → WalkOn tree o inner.0 None left f → IsNodeAt tree inner (node_at items o)
    by_forest NoNode w = found tree o inner None left NoNode within w refl
    by_forest (NamedRun h count later) w = let bad = w.next_is in absurd (cc)
    by_forest (NamedBranch h kind inside later) w = let bad = w.next_is in absurd (cc)

-- nothing inside the node is left
pub walk_none : {slots : Slots} {root : NodeId} {items : List PlainItem} (tree : IsTree slots root items) (o : ℕ) (inner : NodeId) (left : ℕ) →
    Walk tree o inner.0 None left → IsAtEnd tree o inner
walk_none tree o inner left w = by_forest w.forest w.on
  where
    by_forest : (f : Named) → WalkOn tree o inner.0 None left f → IsAtEnd tree o inner
    by_forest NoNode w = record {
      parent = w.parent;
      sort = what.Node w.place.kind;
      from = w.place.from;
      to = w.place.to;
      listed = w.listed;
      ends = omega (arith, w.sum, w.room, w.end);
    }
    by_forest (NamedRun h count later) w = let bad = w.next_is in absurd (cc)
    by_forest (NamedBranch h kind inside later) w = let bad = w.next_is in absurd (cc)

-- the next node ends after the offset
pub walk_next : {slots : Slots} {root : NodeId} {items : List PlainItem} (tree : IsTree slots root items) (o : ℕ) (inner child : NodeId) (left : ℕ) (node : ArenaNode) →
    Walk tree o inner.0 (Some child) left → slot_at slots child.0 ≡ Some node → left < node.len → (0 < left → node.what ≡ what.Run) → IsChildThere tree o inner child left
walk_next {slots = slots} tree o inner child left node w here lt stops = by_forest w.forest w.on
  where
    listed_as : (h : ℕ) (sort : NodeWhat) (from to : ℕ) → child.0 ≡ h →
        Contains (tree_places tree) (record { number = h; parent = Some inner.0; sort = sort; from = from; to = to }) →
        Contains (tree_places tree) (record { number = child.0; parent = Some inner.0; sort = sort; from = from; to = to })
    listed_as h sort from to e c =
        let place_of : ℕ → NodePlace = λ n. record { number = n; parent = Some inner.0; sort = sort; from = from; to = to } in
        subst (λ n. Contains (tree_places tree) (place_of n)) (sym e) c

    by_forest : (f : Named) → WalkOn tree o inner.0 (Some child) left f → IsChildThere tree o inner child left
    by_forest NoNode w = let bad = w.next_is in absurd (cc)
    by_forest (NamedRun h count later) w =
        let n = is_next slots child node h _ _ _ here (same_number child h w.next_is) w.shown.0 in
        record {
          sort = what.Run;
          from = w.at;
          to = w.at + count;
          listed = listed_as h what.Run w.at (w.at + count) n.number (w.all_listed _ (contains-here _ (node_places inner.0 (w.at + count) later)));
          begins = w.sum;
          ends = omega (arith, w.sum, n.len_is, lt);
          inside = λ some. refl;
        }
    by_forest (NamedBranch h kind inside later) w =
        let len = item_count (unnumbered inside) + 2 in
        let n = is_next slots child node h _ _ _ here (same_number child h w.next_is) w.shown.0 in
        record {
          sort = what.Node kind;
          from = w.at;
          to = w.at + len;
          listed = listed_as h (what.Node kind) w.at (w.at + len) n.number
              (w.all_listed _ (contains-here _ (node_places h (suc w.at) inside ++ node_places inner.0 (w.at + len) later)));
          begins = w.sum;
          ends = omega (arith, w.sum, n.len_is, lt);
          inside = λ some. sym n.sort_is ∙ stops some;
        }

-- before a node, or in a run
pub walk_stop : {slots : Slots} {root : NodeId} {items : List PlainItem} (tree : IsTree slots root items) (o : ℕ) (inner child : NodeId) (left : ℕ) (node : ArenaNode) → o ≤ length items →
    Walk tree o inner.0 (Some child) left → slot_at slots child.0 ≡ Some node → left < node.len → (0 < left → node.what ≡ what.Run) → IsNodeAt tree inner (node_at items o)
walk_stop {slots = slots} {root = root} {items = items} tree o inner child left node within w here lt stops = by_forest w.forest w.on
  where
    by_forest : (f : Named) → WalkOn tree o inner.0 (Some child) left f → IsNodeAt tree inner (node_at items o)
    by_forest NoNode w = let bad = w.next_is in absurd (cc)
    by_forest (NamedRun h count later) w =
        let n = is_next slots child node h _ _ _ here (same_number child h w.next_is) w.shown.0 in
        found tree o inner (Some child) left (NamedRun h count later) within w
        (ap (λ t. if t then seek w.place (w.at + count) (left - count) (unnumbered later) else w.place) (lt-leb count left (omega (arith, n.len_is, lt))))
    by_forest (NamedBranch h kind inside later) w =
        let len = item_count (unnumbered inside) + 2 in
        let n = is_next slots child node h _ _ _ here (same_number child h w.next_is) w.shown.0 in
        let own : NodeExtent = record { kind = kind; from = w.at; to = w.at + len } in
        let below = if nat_le 1 left then seek own (suc w.at) (left - 1) (unnumbered inside) else w.place in
        let none : left < 1 = not_inside kind n.sort_is in
        found tree o inner (Some child) left (NamedBranch h kind inside later) within w
        (ap (λ t. if t then seek w.place (w.at + len) (left - len) (unnumbered later) else below) (lt-leb len left (omega (arith, n.len_is, lt)))
        ∙ ap (λ t. if t then seek own (suc w.at) (left - 1) (unnumbered inside) else w.place) (lt-leb 1 left none))
      where
        not_inside : (kind : Kind) → node.what ≡ what.Node kind → left < 1
        not_inside kind sort = by_left left stops
          where
            by_left : (m : ℕ) → (0 < m → node.what ≡ what.Run) → m < 1
            by_left zero h = omega arith
            by_left (suc m) h = let bad : what.Node kind ≡ what.Run = sym sort ∙ h (omega arith) in absurd (cc)

-- the lists of one tree have one length
pub same_length : {slots : Slots} {root : NodeId} {items items' : List PlainItem} → IsTree slots root items → IsTree slots root items' → length items ≡ length items'
same_length {items = items} {items' = items'} tree tree' =
    let both : ◌≡◌ {A = Option ℕ} (Some (length items)) (Some (length items')) = sym tree.root_shown.len_is ∙ tree'.root_shown.len_is in cc
