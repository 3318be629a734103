-- How a trial ends: slot by slot, as the notes go.
use Rattle.std.proofs.Common.{◌≡◌, ◌≢◌, ◌∷◌, ◌<◌, ◌≤◌, ◌+◌, ◌⊎◌, ℕ, zero, suc, Bool, true, false, Option, Some, None, is_some, IsSome, List, [], length, count_by, map, refl, sym, ap, subst, ◌∙◌, arith, inl, inr, lt-ltb, le-ltb}
use Rattle.std.specs.Prelude.{slice_get, nat_lt, if◌then◌else◌}
use Rattle.std.proofs.lemmas.Bool.{cases_eq, cases_lt}
use Rattle.std.specs.List.{AllZip}
use Rattle.slab.specs.Slab.{IsSlotClone}
use Rattle.ve_arena.specs.declared.node.ArenaNode.{ArenaNode}
use Rattle.ve_arena.specs.declared.slot.Slot.{Slot}
use Rattle.ve_arena.specs.declared.slot.Note.{Note}
use Rattle.ve_arena.specs.Arena.{first_slots}
use Rattle.ve_arena.specs.Slots.{slot_of, node_in, node_of_note, first_by, first_in, first_nodes, nodes_in, has_node, is_among, is_below, kept, lacks_note, settled_to, staying, AreNoted, AreSettled, HasNote, IsMarked, IsSound}
use Rattle.ve_arena.proofs.SlotLemmas.{Slots, same_count, same_shown}

same_slot : {x y : Slot} → ◌≡◌ {A = Option Slot} (Some x) (Some y) → x ≡ y
same_slot h = cc

same_note : {x y : Note} → ◌≡◌ {A = Option Note} (Some x) (Some y) → x ≡ y
same_note h = cc

-- a slot that has a note is one
pub noted_slot : (slot : Option Slot) (k : ℕ) → HasNote slot k → (s : Slot) × (slot ≡ Some s) × (s.note ≡ Some k)
noted_slot (Some s) k has = (s, refl, has)
noted_slot None k has = absurd has

pub get_within : (notes : List Note) (k : ℕ) (note : Note) → slice_get notes k ≡ Some note → k < length notes
get_within [] k note e = cc
get_within (x ∷ notes) zero note e = omega arith
get_within (x ∷ notes) (suc k) note e = let less = get_within notes k note e in omega (arith, less)

below_next : (k i : ℕ) → k ≢ i → nat_lt k i ≡ nat_lt k (i + 1)
below_next k i ne = elim (cases_lt k i) [
  | inl less ↦ lt-ltb k i less ∙ sym (lt-ltb k (i + 1) (omega (arith, less)))
  | inr not_less ↦ le-ltb k i not_less ∙ sym (le-ltb k (i + 1) (beyond not_less))
]
  where
    beyond : i ≤ k → i + 1 ≤ k
    beyond h = elim (cases_lt i k) [ inl less ↦ omega (arith, less) | inr not_less ↦ absurd (ne (omega (arith, h, not_less))) ]

module _ (back : Bool) (old mid : Slots) (notes : List Note) (i : ℕ) (note : Note) (are : AreNoted old notes)
    (so_far : AreSettled back notes i old mid) (is : slice_get notes i ≡ Some note) where
  -- the slot of the note, which is as it was
  has : (s : Slot) × (slot_of old note.number ≡ Some s) × (s.note ≡ Some i)
  has = noted_slot (slot_of old note.number) i (are.note i note is)

  settled_same : (s : Slot) → s.note ≡ Some i → settled_to back notes i (Some s) ≡ Some s
  settled_same s marked = ap (λ b. if b then kept (staying back notes (Some s)) else Some s) (ap (λ m. is_below m i) marked ∙ le-ltb i i (omega arith))

  mid_is : slot_of mid note.number ≡ Some has.0
  mid_is = so_far note.number ∙ ap (settled_to back notes i) has.1 ∙ settled_same has.0 has.2

  pub slot_there : IsSome (slot_of mid note.number)
  slot_there = subst (λ (t : Option Slot). IsSome t) (sym mid_is) refl

  stays : (b : Bool) → (if b then note.node else node_in (slot_of mid note.number)) ≡ staying b notes (Some has.0)
  stays true = sym (ap (λ m. first_by notes m has.0.node) has.2 ∙ ap node_of_note is)
  stays false = ap node_in mid_is

  settled_now : (s : Slot) → s.note ≡ Some i → settled_to back notes (i + 1) (Some s) ≡ kept (staying back notes (Some s))
  settled_now s marked = ap (λ b. if b then kept (staying back notes (Some s)) else Some s) (ap (λ m. is_below m (i + 1)) marked ∙ lt-ltb i (i + 1) (omega arith))

  -- another slot has another note, or none
  apart : (q : ℕ) → q ≢ note.number → (mark : Option ℕ) (here : Option ArenaNode) → IsMarked notes q here mark → is_below mark i ≡ is_below mark (i + 1)
  apart q ne None here marked = refl
  apart q ne (Some k) here marked = below_next k i (λ same. ne (sym (ap (λ (x : Note). x.number) (same_note (sym is ∙ ap (slice_get notes) (sym same) ∙ marked.1)) ∙ marked.2)))

  settled_other : (q : ℕ) → q ≢ note.number → (slot : Option Slot) → slot_of old q ≡ slot → settled_to back notes i slot ≡ settled_to back notes (i + 1) slot
  settled_other q ne None e = refl
  settled_other q ne (Some s) e = ap (λ b. if b then kept (staying back notes (Some s)) else Some s) (apart q ne s.note s.node (are.slot q s e))

  pub settle_next : (new : Slots) → slot_of new note.number ≡ kept (if back then note.node else node_in (slot_of mid note.number)) →
      ((q : ℕ) → q ≢ note.number → slot_of new q ≡ slot_of mid q) → AreSettled back notes (i + 1) old new
  settle_next new here others q = elim (cases_eq q note.number) [
    | inl same ↦ subst (λ m. slot_of new m ≡ settled_to back notes (i + 1) (slot_of old m)) (sym same)
        (here ∙ ap kept (stays back) ∙ sym (ap (settled_to back notes (i + 1)) has.1 ∙ settled_now has.0 has.2))
    | inr other ↦ others q other ∙ so_far q ∙ settled_other q other (slot_of old q) refl
  ]

-- ---- when all notes are done

-- where no slot has a note, the first nodes are those that are there
first_bare : (notes : List Note) (n : ℕ) (mark : Option ℕ) (here : Option ArenaNode) → notes ≡ [] → IsMarked notes n here mark → first_by notes mark here ≡ here
first_bare notes n None here none marked = refl
first_bare notes n (Some k) here none marked = cc

first_still_at : (slots : Slots) (notes : List Note) → AreNoted slots notes → notes ≡ [] → (n : ℕ) (slot : Option Slot) → slot_of slots n ≡ slot → first_in notes slot ≡ node_in slot
first_still_at slots notes are none n None e = refl
first_still_at slots notes are none n (Some s) e = first_bare notes n s.note s.node none (are.slot n s e)

pub first_still : (slots : Slots) (notes : List Note) → AreNoted slots notes → notes ≡ [] → first_nodes slots notes ≡ nodes_in slots
first_still slots notes are none = same_shown (first_in notes) node_in refl refl slots slots (λ n. first_still_at slots notes are none n (slot_of slots n) refl)

kept_bare : (node : Option ArenaNode) (mark : Option ℕ) → mark ≡ None → IsSome node → ◌≡◌ {A = Option Slot} (Some (record { node = node; note = mark })) (kept node)
kept_bare (Some node) None none live = refl
kept_bare (Some node) (Some k) none live = cc
kept_bare None mark none live = cc

module _ (back : Bool) (notes : List Note) where
  stays_bare : (s : Slot) → s.note ≡ None → staying back notes (Some s) ≡ s.node
  stays_bare s none = by back
    where
      by : (b : Bool) → staying b notes (Some s) ≡ s.node
      by true = ap (λ m. first_by notes m s.node) none
      by false = refl

  stays_none : staying back notes None ≡ None
  stays_none = by back
    where
      by : (b : Bool) → staying b notes None ≡ None
      by true = refl
      by false = refl

  settled_some : (n : ℕ) (s : Slot) (mark : Option ℕ) → s.note ≡ mark → IsMarked notes n s.node mark → settled_to back notes (length notes) (Some s) ≡ kept (staying back notes (Some s))
  settled_some n s None e marked =
      ap (λ b. if b then kept (staying back notes (Some s)) else Some s) (ap (λ m. is_below m (length notes)) e)
      ∙ kept_bare s.node s.note e marked
      ∙ ap kept (sym (stays_bare s e))
  settled_some n s (Some k) e marked =
      ap (λ b. if b then kept (staying back notes (Some s)) else Some s)
      (ap (λ m. is_below m (length notes)) e ∙ lt-ltb k (length notes) (get_within notes k marked.0 marked.1))

  module _ (old new : Slots) (are : AreNoted old notes) (all : AreSettled back notes (length notes) old new) where
    settled_slot : (n : ℕ) (slot : Option Slot) → slot_of old n ≡ slot → settled_to back notes (length notes) slot ≡ kept (staying back notes slot)
    settled_slot n None e = sym (ap kept stays_none)
    settled_slot n (Some s) e = settled_some n s s.note refl (are.slot n s e)

    pub kept_at : (n : ℕ) → slot_of new n ≡ kept (staying back notes (slot_of old n))
    kept_at n = all n ∙ settled_slot n (slot_of old n) refl

node_of_kept : (node : Option ArenaNode) → node_in (kept node) ≡ node
node_of_kept None = refl
node_of_kept (Some node) = refl

-- slots without notes, each of which has a node
module _ (slots : Slots) (shown : ℕ → Option ArenaNode) (is : (n : ℕ) → slot_of slots n ≡ kept (shown n)) where
  marked : (node : Option ArenaNode) (n : ℕ) (s : Slot) → kept node ≡ Some s → IsMarked [] n s.node s.note
  marked None n s e = cc
  marked (Some node) n s e = subst (λ (t : Slot). IsMarked [] n t.node t.note) (same_slot e) refl

  lacks : (node : Option ArenaNode) → lacks_note (kept node) ≡ is_some (kept node)
  lacks None = refl
  lacks (Some node) = refl

  has_one : (node : Option ArenaNode) → has_node (kept node) ≡ is_some (kept node)
  has_one None = refl
  has_one (Some node) = refl

  all_lack : count_by lacks_note slots ≡ count_by is_some slots
  all_lack = same_count lacks_note is_some refl refl slots slots (λ n. ap lacks_note (is n) ∙ lacks (shown n) ∙ sym (ap (λ (s : Option Slot). is_some s) (is n)))

  all_have : count_by has_node slots ≡ count_by is_some slots
  all_have = same_count has_node is_some refl refl slots slots (λ n. ap has_node (is n) ∙ has_one (shown n) ∙ sym (ap (λ (s : Option Slot). is_some s) (is n)))

  pub sound_kept : (notes : List Note) (room : ℕ) → notes ≡ [] → IsSound slots notes room false 0
  sound_kept notes room none = subst (λ (l : List Note). IsSound slots l room false 0) (sym none) (record {
    noted = record {
      slot = λ n s e. marked (shown n) n s (sym (is n) ∙ e);
      note = λ k note e. cc;
      balance = omega (arith, all_lack);
    };
    has_room = λ runs. cc;
    is_still = λ still. refl;
    counted = omega (arith, all_have);
  })

pub nodes_kept : (back : Bool) (notes : List Note) (old new : Slots) → ((n : ℕ) → slot_of new n ≡ kept (staying back notes (slot_of old n))) →
    nodes_in new ≡ (if back then first_nodes old notes else nodes_in old)
nodes_kept true notes old new is = same_shown node_in (first_in notes) refl refl new old (λ n. ap node_in (is n) ∙ node_of_kept _)
nodes_kept false notes old new is = same_shown node_in node_in refl refl new old (λ n. ap node_in (is n) ∙ node_of_kept _)

-- the first slots of a view
pub first_shown : (slots : Slots) (notes : List Note) (in_trial : Bool) → AreNoted slots notes → (in_trial ≡ false → notes ≡ []) →
    first_slots (record { slots = nodes_in slots; first = if in_trial then Some (first_nodes slots notes) else None }) ≡ first_nodes slots notes
first_shown slots notes true are still = refl
first_shown slots notes false are still = sym (first_still slots notes are (still refl))

-- ---- a clone of slots has the same ones

pub same_clones : (Clone : Slot → Slot → Type 0) → ((x y : Slot) → Clone x y → y ≡ x) → (old new : Slots) → AllZip (IsSlotClone Clone) old new → new ≡ old
same_clones Clone same [] [] all = refl
same_clones Clone same [] (y ∷ new) all = absurd all
same_clones Clone same (x ∷ old) [] all = absurd all
same_clones Clone same (None ∷ old) (None ∷ new) all = ap (λ (l : Slots). None ∷ l) (same_clones Clone same old new all.1)
same_clones Clone same (None ∷ old) (Some y ∷ new) all = cc
same_clones Clone same (Some x ∷ old) (None ∷ new) all = absurd all.0
same_clones Clone same (Some x ∷ old) (Some y ∷ new) all = λ i. Some (same x y all.0 i) ∷ same_clones Clone same old new all.1 i
