-- Siblings in a row, one after the other.
use Rattle.std.proofs.Common.{◌≡◌, ◌≤◌, ◌+◌, ◌-◌, ℕ, Option, Some, None, List, [], ◌∷◌, ◌++◌, drop, refl, sym, ap, ◌∙◌, subst, arith, append_assoc, append-nil}
use Rattle.model_items.specs.Tree.{item_count}
use Rattle.ve_arena.specs.declared.node.NodeId.{NodeId}
use Rattle.ve_arena.specs.declared.node.NodeWhat.TheVariants as what
use Rattle.ve_arena.specs.declared.node.ArenaNode.{ArenaNode}
use Rattle.ve_arena.specs.Arena.{slot_at, IsLive}
use Rattle.ve_tree.specs.Links.{link_in}
use Rattle.ve_tree.specs.Named.{Named, NoNode, NamedRun, NamedBranch, unnumbered, heads}
use Rattle.ve_tree.specs.Grown.{id_of}
use Rattle.ve_tree.proofs.WalkLemmas.{Slots}
use Rattle.ve_offsets.proofs.StateLemmas.{IsNext, is_next, same_number, shown_live}
use Rattle.ve_repair.specs.declared.write.Write.{Write}
use Rattle.ve_repair.specs.declared.script.How.TheVariants.{Keep}
use Rattle.ve_repair.specs.Plan.{Stacks, with_last, closed_stacks, placed_writes, placed_stacks, script_writes, script_stacks}
use Rattle.ve_repair.specs.Closing.{row_of, row_steps, outer_stacks, level_writes, close_writes, AreLeft, IsRowFrom}
use Rattle.ve_repair.specs.Stacks.{first_in}
use Rattle.ve_repair.specs.declared.plan.Level.{Level}

pub row_live : (slots : Slots) (child : NodeId) (f : Named) → IsRowFrom slots (Some child) f → IsLive slots child
row_live slots child NoNode r = let bad = r.next_is in absurd (cc)
row_live slots child (NamedRun h count later) r = shown_live slots child h _ _ _ (same_number child h r.next_is) r.shown.0
row_live slots child (NamedBranch h kind inside later) r = shown_live slots child h _ _ _ (same_number child h r.next_is) r.shown.0

-- the node that comes next, and the row behind it
pub record Behind (slots : Slots) (child : NodeId) (node : ArenaNode) (f : Named) : Type 0 where
  pub later : Named
  pub heads_are : heads f ≡ child.0 ∷ heads later
  pub row : IsRowFrom slots node.after later
  pub len_is : node.len + item_count (unnumbered later) ≡ item_count (unnumbered f)
  pub some : 1 ≤ node.len

pub behind : (slots : Slots) (child : NodeId) (node : ArenaNode) (f : Named) → IsRowFrom slots (Some child) f → slot_at slots child.0 ≡ Some node → Behind slots child node f
behind slots child node NoNode r here = let bad = r.next_is in absurd (cc)
behind slots child node (NamedRun h count later) r here =
    let n : IsNext slots node h what.Run count = is_next slots child node h _ _ _ here (same_number child h r.next_is) r.shown.0 in
    let len = n.len_is in
    record {
      later = later;
      heads_are = ap (λ m. m ∷ heads later) (sym (same_number child h r.next_is));
      row = record {
        next_is = sym (ap (link_in (λ node. node.after)) n.here) ∙ r.row.2;
        inner = r.inner;
        edge = Some h;
        row = r.row.3;
        shown = r.shown.1;
        runs = r.runs.2;
      };
      len_is = omega (arith, len);
      some = omega (arith, len, r.runs.0);
    }
behind slots child node (NamedBranch h kind inside later) r here =
    let n : IsNext slots node h (what.Node kind) (item_count (unnumbered inside) + 2) = is_next slots child node h _ _ _ here (same_number child h r.next_is) r.shown.0 in
    let len = n.len_is in
    record {
      later = later;
      heads_are = ap (λ m. m ∷ heads later) (sym (same_number child h r.next_is));
      row = record {
        next_is = sym (ap (link_in (λ node. node.after)) n.here) ∙ r.row.2;
        inner = r.inner;
        edge = Some h;
        row = r.row.3;
        shown = r.shown.2;
        runs = r.runs.1;
      };
      len_is = omega (arith, len);
      some = omega (arith, len);
    }

-- so far the siblings before the rest were kept
pub record Resting (slots : Slots) (f : Named) (s0 : Stacks) (w0 : List Write) (next : Option NodeId) (left : ℕ) (s : Stacks) (w : List Write) : Type 0 where
  pub later : Named
  pub row : IsRowFrom slots next later
  pub stacks : script_stacks (row_steps later) s ≡ script_stacks (row_steps f) s0
  pub writes : w ++ script_writes (row_steps later) s ≡ w0 ++ script_writes (row_steps f) s0
  pub room : item_count (unnumbered later) ≤ left

pub resting_start : (slots : Slots) (f : Named) (s0 : Stacks) (w0 : List Write) (next : Option NodeId) (left : ℕ) → IsRowFrom slots next f → item_count (unnumbered f) ≤ left →
    Resting slots f s0 w0 next left s0 w0
resting_start slots f s0 w0 next left row room = record { later = f; row = row; stacks = refl; writes = refl; room = room }

pub resting_live : (slots : Slots) (f : Named) (s0 : Stacks) (w0 : List Write) (child : NodeId) (left : ℕ) (s : Stacks) (w : List Write) → Resting slots f s0 w0 (Some child) left s w → IsLive slots child
resting_live slots f s0 w0 child left s w r = row_live slots child r.later r.row

pub resting_room : (slots : Slots) (f : Named) (s0 : Stacks) (w0 : List Write) (child : NodeId) (node : ArenaNode) (left : ℕ) (s : Stacks) (w : List Write) → Resting slots f s0 w0 (Some child) left s w →
    slot_at slots child.0 ≡ Some node → (1 ≤ node.len) × (node.len ≤ left)
resting_room slots f s0 w0 child node left s w r here =
    let b = behind slots child node r.later r.row here in
    let len = b.len_is in
    let room = r.room in
    (b.some, omega (arith, len, room))

pub resting_on : (slots : Slots) (f : Named) (s0 : Stacks) (w0 : List Write) (child : NodeId) (node : ArenaNode) (left : ℕ) (s s1 : Stacks) (w w1 : List Write) →
    Resting slots f s0 w0 (Some child) left s w → slot_at slots child.0 ≡ Some node → s1 ≡ placed_stacks Keep child s → w1 ≡ w ++ placed_writes Keep child s →
    Resting slots f s0 w0 node.after (left - node.len) s1 w1
resting_on slots f s0 w0 child node left s s1 w w1 r here es ew =
    let b = behind slots child node r.later r.row here in
    let len = b.len_is in
    let room = r.room in
    record {
      later = b.later;
      row = b.row;
      stacks = ap (script_stacks (row_steps b.later)) es ∙ sym (ap (λ ns. script_stacks (row_of ns) s) b.heads_are) ∙ r.stacks;
      writes = (λ i. ew i ++ script_writes (row_steps b.later) (es i))
          ∙ append_assoc w (placed_writes Keep child s) (script_writes (row_steps b.later) (placed_stacks Keep child s))
          ∙ sym (ap (λ ns. w ++ script_writes (row_of ns) s) b.heads_are) ∙ r.writes;
      room = omega (arith, len, room);
    }

pub resting_end : (slots : Slots) (f : Named) (s0 : Stacks) (w0 : List Write) (next : Option NodeId) (left : ℕ) (s : Stacks) (w : List Write) → Resting slots f s0 w0 next left s w → next ≡ None →
    (s ≡ script_stacks (row_steps f) s0) × (w ≡ w0 ++ script_writes (row_steps f) s0)
resting_end slots f s0 w0 next left s w r none = by_later r.later (subst (λ o. IsRowFrom slots o r.later) none r.row) r.stacks r.writes
  where
    by_later : (g : Named) → IsRowFrom slots None g → script_stacks (row_steps g) s ≡ script_stacks (row_steps f) s0 → w ++ script_writes (row_steps g) s ≡ w0 ++ script_writes (row_steps f) s0 →
        (s ≡ script_stacks (row_steps f) s0) × (w ≡ w0 ++ script_writes (row_steps f) s0)
    by_later NoNode row es ew = (es, sym (append-nil w) ∙ ew)
    by_later (NamedRun h count later) row es ew = let bad = row.next_is in absurd (cc)
    by_later (NamedBranch h kind inside later) row es ew = let bad = row.next_is in absurd (cc)

-- only the last child of a level changes
pub row_outer : (ns : List ℕ) (s : Stacks) → outer_stacks (script_stacks (row_of ns) s) ≡ outer_stacks s
row_outer [] s = refl
row_outer (n ∷ ns) s = row_outer ns (placed_stacks Keep (id_of n) s) ∙ (λ i. record { old = drop 1 s.old; new = one_less (id_of n) s.new i })
  where
    one_less : (n : NodeId) (fs : List Level) → drop 1 (with_last n fs) ≡ drop 1 fs
    one_less n [] = refl
    one_less n (f ∷ fs) = refl

-- so far the levels inside the open ones are closed
pub record ClosingOn (slots : Slots) (most : ℕ) (fs : List Named) (s0 : Stacks) (w0 : List Write) (next : Option NodeId) (s : Stacks) (w : List Write) : Type 0 where
  pub later : List Named
  pub left : AreLeft slots most s.old next later
  pub writes : w ++ close_writes later s ≡ w0 ++ close_writes fs s0

-- the innermost level
pub record Innermost (slots : Slots) (most : ℕ) (o : NodeId) (next : Option NodeId) (s : Stacks) (later : List Named) : Type 0 where
  pub f : Named
  pub fs : List Named
  pub later_is : later ≡ f ∷ fs
  pub row : IsRowFrom slots next f
  pub room : item_count (unnumbered f) ≤ most
  pub live : IsLive slots o
  pub behind : (node : ArenaNode) → slot_at slots o.0 ≡ Some node → AreLeft slots most (drop 1 s.old) node.after fs

pub innermost : (slots : Slots) (most : ℕ) (o : NodeId) (next : Option NodeId) (s : Stacks) (later : List Named) → first_in s.old ≡ Some o → AreLeft slots most s.old next later →
    Innermost slots most o next s later
innermost slots most o next s later first left = go s.old later first left refl
  where
    go : (os : List NodeId) (later : List Named) → first_in os ≡ Some o → AreLeft slots most os next later → os ≡ s.old → Innermost slots most o next s later
    go [] [] e l same = absurd (cc)
    go [] (f ∷ fs) e l same = absurd l
    go (p ∷ os) [] e l same = absurd l
    go (p ∷ os) (f ∷ fs) e l same =
        let is : p ≡ o = cc in
        record {
          f = f;
          fs = fs;
          later_is = refl;
          row = l.0;
          room = l.1;
          live = subst (IsLive slots) is l.2;
          behind = λ node here. subst (λ ps. AreLeft slots most ps node.after fs) (ap (drop 1) same) (l.3 node (ap (λ (q : NodeId). slot_at slots q.0) is ∙ here));
        }

pub closing_on : (slots : Slots) (most : ℕ) (fs : List Named) (s0 : Stacks) (w0 : List Write) (next : Option NodeId) (s s1 s2 : Stacks) (w w1 w2 : List Write) (o : NodeId) (node : ArenaNode) →
    ClosingOn slots most fs s0 w0 next s w → first_in s.old ≡ Some o → slot_at slots o.0 ≡ Some node → outer_stacks s1 ≡ outer_stacks s →
    ((f : Named) → IsRowFrom slots next f → item_count (unnumbered f) ≤ most → w1 ≡ w ++ level_writes f s) → s2 ≡ closed_stacks Keep s1 → w2 ≡ w1 → ClosingOn slots most fs s0 w0 node.after s2 w2
closing_on slots most fs s0 w0 next s s1 s2 w w1 w2 o node c first here outer level es ew =
    let i = innermost slots most o next s c.later first c.left in
    let same : s2 ≡ outer_stacks s = es ∙ outer in
    record {
      later = i.fs;
      left = subst (λ (t : Stacks). AreLeft slots most t.old node.after i.fs) (sym same) (i.behind node here);
      writes = (λ j. (ew ∙ level i.f i.row i.room) j ++ close_writes i.fs (same j))
          ∙ append_assoc w (level_writes i.f s) (close_writes i.fs (outer_stacks s))
          ∙ sym (ap (λ l. w ++ close_writes l s) i.later_is) ∙ c.writes;
    }
