-- The start of a changed range as a position between two siblings, and the text before it.
use Rattle.std.proofs.Common.{◌≡◌, ◌≤◌, ◌+◌, ◌-◌, inl, inr, ℕ, false, Option, Some, None, List, option_map, refl, sym, ap, ◌∙◌, arith}
use Rattle.ve_kinds.specs.declared.kind.Kind.{Kind}
use Rattle.model_items.specs.declared.plain_item.PlainItem.{PlainItem}
use Rattle.model_items.specs.Tree.{item_count}
use Rattle.ve_arena.specs.declared.node.NodeId.{NodeId}
use Rattle.ve_arena.specs.declared.node.NodeWhat.TheVariants as what
use Rattle.ve_arena.specs.declared.node.ArenaNode.{ArenaNode}
use Rattle.ve_arena.specs.Arena.{slot_at, IsLive}
use Rattle.ve_tree.specs.Links.{number_of, first_or, last_or}
use Rattle.ve_tree.specs.Named.{Named, NoNode, NamedRun, NamedBranch, unnumbered, heads}
use Rattle.ve_tree.specs.IsTree.{IsTree}
use Rattle.ve_tree.specs.Places.{NodePlace}
use Rattle.ve_tree.specs.Rows.{beside, Round, within, ends_with_run}
use Rattle.ve_tree.proofs.RowLemmas.{count-beside}
use Rattle.ve_offsets.proofs.StateLemmas.{shown_live}
use Rattle.ve_repair.specs.declared.start.Edge.{Edge}
use Rattle.ve_repair.specs.Start.{TextReaches, IsBetween, IsEdge}
use Rattle.ve_repair.proofs.CursorLemmas.{Slots, framed_at, past-run, past-branch, last-run, last-branch, ends-branch, no_run_before, no_text_last}
use Rattle.ve_repair.proofs.InRoundsLemmas.{BeginsWith, first_node, first_live, Ending, no_sibling, with_run, with_branch, ending}

-- a text that a row begins with: no text stands before it, and it reaches to its end
pub reaches : (row : Named) (y : NodePlace) (more : ℕ) → BeginsWith row y → y.sort ≡ what.Run → y.from + more ≤ y.to → TextReaches row more
reaches NoNode y more first run le = first
reaches (NamedRun n count later) y more first run le = omega (arith, first.2, le)
reaches (NamedBranch n kind inside later) y more first run le = absurd (let bad : what.Node kind ≡ what.Run = sym first.1 ∙ run in cc)

pub no_text_before : {slots : Slots} {root : NodeId} {items : List PlainItem} (tree : IsTree slots root items) (rs : List Round) (done row : Named) (y : NodePlace) → tree.named ≡ within rs (beside done row) → BeginsWith row y →
    y.sort ≡ what.Run → ends_with_run done ≡ false
no_text_before tree rs done NoNode y whole first run = absurd first
no_text_before tree rs done (NamedRun n count later) y whole first run = no_run_before tree rs done n count later whole
no_text_before tree rs done (NamedBranch n kind inside later) y whole first run = absurd (let bad : what.Node kind ≡ what.Run = sym first.1 ∙ run in cc)

pub next_number : (row : Named) (y : NodePlace) (child : NodeId) → BeginsWith row y → y.number ≡ child.0 → option_map number_of (Some child) ≡ first_or (heads row) None
next_number NoNode y child first number = absurd first
next_number (NamedRun n count later) y child first number = ap Some (sym number ∙ first.0)
next_number (NamedBranch n kind inside later) y child first number = ap Some (sym number ∙ first.0)

-- the node round a position
pub edge_live : {slots : Slots} {root : NodeId} {items : List PlainItem} (tree : IsTree slots root items) (edge : Edge) → IsBetween tree.named root.0 edge → IsLive slots edge.node
edge_live {slots = slots} tree edge b =
    let f = framed_at tree b.place.round (beside b.place.done b.place.row) b.whole in shown_live slots edge.node _ _ _ _ b.at.parent_is f.inner

-- the node before a position, which the rest of the siblings begins with
record Sibling (f : Named) (rs : List Round) (done : Named) (n : ℕ) : Type 0 where
  left : Named
  row : Named
  y : NodePlace
  whole : f ≡ within rs (beside left row)
  first_is : BeginsWith row y
  number_is : y.number ≡ n
  starts : y.from ≡ 0
  ends : item_count (unnumbered left) + y.to ≡ item_count (unnumbered done)
  no_run : (kind : Kind) → y.sort ≡ what.Node kind → ends_with_run done ≡ false

sibling : (f : Named) (rs : List Round) (done row : Named) (n : ℕ) → f ≡ within rs (beside done row) → Some n ≡ last_or None (heads done) → Sibling f rs done n
sibling f rs done row n whole last = go (ending done)
  where
    at_run : (left : Named) (m count : ℕ) → done ≡ beside left (NamedRun m count NoNode) → Sibling f rs done n
    at_run left m count e =
        let long = count-beside left (NamedRun m count NoNode) in
        let number : ◌≡◌ {A = Option ℕ} (Some n) (Some m) = last ∙ ap (λ d. last_or None (heads d)) e ∙ last-run left m count in
        record {
          left = left;
          row = NamedRun m count row;
          y = record { number = m; parent = None; sort = what.Run; from = 0; to = count };
          whole = whole ∙ ap (λ d. within rs (beside d row)) e ∙ sym (past-run rs left m count row);
          first_is = (refl, refl, omega arith);
          number_is = cc;
          starts = refl;
          ends = omega (arith, long, ap (λ d. item_count (unnumbered d)) e);
          no_run = λ kind bad. absurd (cc);
        }

    at_branch : (left : Named) (m : ℕ) (kind : Kind) (inside : Named) → done ≡ beside left (NamedBranch m kind inside NoNode) → Sibling f rs done n
    at_branch left m kind inside e =
        let long = count-beside left (NamedBranch m kind inside NoNode) in
        let number : ◌≡◌ {A = Option ℕ} (Some n) (Some m) = last ∙ ap (λ d. last_or None (heads d)) e ∙ last-branch left m kind inside in
        record {
          left = left;
          row = NamedBranch m kind inside row;
          y = record { number = m; parent = None; sort = what.Node kind; from = 0; to = item_count (unnumbered inside) + 2 };
          whole = whole ∙ ap (λ d. within rs (beside d row)) e ∙ sym (past-branch rs left m kind inside row);
          first_is = (refl, refl, omega arith);
          number_is = cc;
          starts = refl;
          ends = omega (arith, long, ap (λ d. item_count (unnumbered d)) e);
          no_run = λ k is. ap ends_with_run e ∙ ends-branch left m kind inside;
        }

    go : Ending done → Sibling f rs done n
    go (no_sibling e) = let bad : ◌≡◌ {A = Option ℕ} (Some n) None = last ∙ ap (λ d. last_or None (heads d)) e in absurd (cc)
    go (with_run left m count e) = at_run left m count e
    go (with_branch left m kind inside e) = at_branch left m kind inside e

none_before : (done : Named) → None ≡ last_or None (heads done) → ends_with_run done ≡ false
none_before NoNode e = refl
none_before (NamedRun n count later) e = absurd (cc)
none_before (NamedBranch n kind inside later) e = absurd (cc)

-- A position between two siblings, and the node before it.
before : {slots : Slots} {root : NodeId} {items : List PlainItem} (tree : IsTree slots root items) (edge : Edge) (b : IsBetween tree.named root.0 edge) (text : NodeId) → edge.last ≡ Some text →
    Sibling tree.named b.place.round b.place.done text.0
before tree edge b text is = sibling tree.named b.place.round b.place.done b.place.row text.0 b.whole (sym (ap (option_map number_of) is) ∙ b.last_is)

pub before_live : {slots : Slots} {root : NodeId} {items : List PlainItem} (tree : IsTree slots root items) (edge : Edge) (b : IsBetween tree.named root.0 edge) (text : NodeId) → edge.last ≡ Some text → IsLive slots text
before_live {slots = slots} {root = root} tree edge b text is =
    let s = before tree edge b text is in
    first_live slots root.0 b.place.round s.left s.row s.y text (framed_at tree b.place.round (beside s.left s.row) s.whole) s.first_is s.number_is

pub nothing_before : {slots : Slots} {root : NodeId} {items : List PlainItem} (tree : IsTree slots root items) (edge : Edge) (b : IsBetween tree.named root.0 edge) → edge.last ≡ None → IsEdge tree.named root.0 edge.place edge
nothing_before tree edge b none = record {
  between = b;
  near = inl refl;
  left_whole = no_text_last b.place.round b.place.done (none_before b.place.done (sym (ap (option_map number_of) none) ∙ b.last_is));
}

pub node_before : {slots : Slots} {root : NodeId} {items : List PlainItem} (tree : IsTree slots root items) (edge : Edge) (b : IsBetween tree.named root.0 edge) (text : NodeId) (node : ArenaNode) (kind : Kind) →
    edge.last ≡ Some text → slot_at slots text.0 ≡ Some node → node.what ≡ what.Node kind → IsEdge tree.named root.0 edge.place edge
node_before {slots = slots} {root = root} tree edge b text node kind is here sort =
    let s = before tree edge b text is in
    let n = first_node slots root.0 b.place.round s.left s.row s.y text node (framed_at tree b.place.round (beside s.left s.row) s.whole) s.first_is s.number_is here in
    record { between = b; near = inl refl; left_whole = no_text_last b.place.round b.place.done (s.no_run kind (sym n.sort_is ∙ sort)) }

-- the start of the text before it
pub record Text (f : Named) (root x len : ℕ) (edge : Edge) : Type 0 where
  pub fits : len ≤ x
  pub is_edge : IsEdge f root x edge

pub text_before : {slots : Slots} {root : NodeId} {items : List PlainItem} (tree : IsTree slots root items) (edge : Edge) (b : IsBetween tree.named root.0 edge) (text : NodeId) (node : ArenaNode) → edge.last ≡ Some text →
    slot_at slots text.0 ≡ Some node → node.what ≡ what.Run →
    Text tree.named root.0 edge.place node.len (record { node = edge.node; last = node.before; next = edge.last; place = edge.place - node.len })
text_before {slots = slots} {root = root} tree edge b text node is here sort =
    let s = before tree edge b text is in
    let n = first_node slots root.0 b.place.round s.left s.row s.y text node (framed_at tree b.place.round (beside s.left s.row) s.whole) s.first_is s.number_is here in
    let run = sym n.sort_is ∙ sort in
    let long : node.len ≡ s.y.to = omega (arith, n.len_is, s.starts) in
    let fits : node.len ≤ edge.place = omega (arith, b.offset, long, s.ends) in
    record {
      fits = fits;
      is_edge = record {
        between = record {
          place = record { round = b.place.round; done = s.left; row = s.row };
          whole = s.whole;
          at = record { parent_is = b.at.parent_is; next_is = ap (option_map number_of) is ∙ next_number s.row s.y text s.first_is s.number_is };
          last_is = n.before_is;
          offset = omega (arith, b.offset, long, s.ends);
        };
        near = inr (node.len, omega (arith, fits), reaches s.row s.y node.len s.first_is run (omega (arith, long, s.starts)));
        left_whole = no_text_last b.place.round s.left (no_text_before tree b.place.round s.left s.row s.y s.whole s.first_is run);
      };
    }
