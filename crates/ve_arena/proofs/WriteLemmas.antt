-- What a write to a slot leaves.
use Rattle.std.proofs.Common.{◌≡◌, ◌≢◌, ◌≤◌, ◌+◌, ℕ, Bool, true, false, Option, Some, None, is_some, IsSome, List, [], ◌∷◌, ◌++◌, length, count_by, refl, sym, ap, subst, ◌∙◌, arith, inl, inr}
use Rattle.std.specs.Prelude.{slice_get, option_map, if◌then◌else◌}
use Rattle.std.proofs.lemmas.Bool.{cases_eq}
use Rattle.ve_arena.specs.declared.node.ArenaNode.{ArenaNode}
use Rattle.ve_arena.specs.declared.slot.Slot.{Slot}
use Rattle.ve_arena.specs.declared.slot.Note.{Note}
use Rattle.ve_arena.specs.Arena.{slot_at, with_field, Puts}
use Rattle.ve_arena.specs.declared.node.Field.{Field}
use Rattle.ve_arena.specs.declared.node.NodeId.{NodeId}
use Rattle.ve_arena.specs.Slots.{slot_of, node_in, node_of_note, first_by, first_in, first_nodes, nodes_in, has_node, is_none, lacks_note, AreNoted, HasNote, IsMarked, IsReady, IsSound, vacated, with_slot_field}
use Rattle.ve_arena.proofs.SlotLemmas.{Slots, Nodes, count_changed, one, same_shown, shows}

same_slot : {x y : Slot} → ◌≡◌ {A = Option Slot} (Some x) (Some y) → x ≡ y
same_slot h = cc

-- what one slot shows now, where the others show what they did
pub puts : (old new : Slots) (was : Nodes) (n : NodeId) (is : Option ArenaNode) → nodes_in old ≡ was → node_in (slot_of new n.0) ≡ is →
    ((q : ℕ) → q ≢ n.0 → node_in (slot_of new q) ≡ node_in (slot_of old q)) → Puts was (nodes_in new) n is
puts old new was n is view here others = record {
  here = shows new n.0 ∙ here;
  others = λ q ne. shows new q ∙ others q ne ∙ sym (shows old q) ∙ ap (λ l. slot_at l q) view;
}

-- the first nodes are the same, slot by slot
pub first_same : (in_trial : Bool) (old new : Slots) (notes notes' : List Note) → (in_trial ≡ true → (q : ℕ) → first_in notes' (slot_of new q) ≡ first_in notes (slot_of old q)) →
    ◌≡◌ {A = Option Nodes} (if in_trial then Some (first_nodes new notes') else None) (if in_trial then Some (first_nodes old notes) else None)
first_same true old new notes notes' h = ap (λ (l : Nodes). Some l) (same_shown (first_in notes') (first_in notes) refl refl new old (h refl))
first_same false old new notes notes' h = refl

-- a mark that isn't lacking
has_mark : (mark : Option ℕ) → is_none mark ≡ false → mark ≡ None → ⊥
has_mark None h e = cc
has_mark (Some k) h e = cc

noted_first : (notes : List Note) (mark : Option ℕ) (one_node other : Option ArenaNode) → is_none mark ≡ false → first_by notes mark one_node ≡ first_by notes mark other
noted_first notes None one_node other h = cc
noted_first notes (Some k) one_node other h = refl

remarked : (notes : List Note) (n : ℕ) (mark : Option ℕ) (was is : Option ArenaNode) → (mark ≡ None → IsSome is) → IsMarked notes n was mark → IsMarked notes n is mark
remarked notes n None was is ok marked = ok refl
remarked notes n (Some k) was is ok marked = marked

-- ---- a slot that was made ready has another node, or none

module _ (in_trial : Bool) (n : ℕ) (slots : Slots) (notes : List Note) (mid : Slots) (notes' : List Note) (ready : IsReady in_trial n slots notes mid notes')
    (slot : Slot) (is : slot_of mid n ≡ Some slot) (node : Option ArenaNode) (ok : slot.note ≡ None → IsSome node)
    (new : Slots) (here : slot_of new n ≡ Some (record slot { node = node })) (others : (q : ℕ) → q ≢ n → slot_of new q ≡ slot_of mid q) where
  each_slot : (q : ℕ) (s : Slot) → slot_of new q ≡ Some s → IsMarked notes' q s.node s.note
  each_slot q s e = elim (cases_eq q n) [
    | inl same ↦ subst (λ (t : Slot). IsMarked notes' q t.node t.note) (same_slot (sym here ∙ ap (slot_of new) (sym same) ∙ e))
        (subst (λ m. IsMarked notes' m node slot.note) (sym same) (remarked notes' n slot.note slot.node node ok (ready.noted.slot n slot is)))
    | inr other ↦ ready.noted.slot q s (sym (others q other) ∙ e)
  ]

  has_same : (t : Option Slot) (k : ℕ) → t ≡ Some slot → HasNote t k → slot.note ≡ Some k
  has_same (Some s) k e has = ap (λ (x : Slot). x.note) (sym (same_slot e)) ∙ has
  has_same None k e has = cc

  each_note : (k : ℕ) (note : Note) → slice_get notes' k ≡ Some note → HasNote (slot_of new note.number) k
  each_note k note e = elim (cases_eq note.number n) [
    | inl same ↦ subst (λ m. HasNote (slot_of new m) k) (sym same) (subst (λ (t : Option Slot). HasNote t k) (sym here)
        (has_same (slot_of mid note.number) k (ap (slot_of mid) same ∙ is) (ready.noted.note k note e)))
    | inr other ↦ subst (λ (t : Option Slot). HasNote t k) (sym (others note.number other)) (ready.noted.note k note e)
  ]

  balanced : length notes' + count_by lacks_note new ≡ count_by is_some new
  balanced =
      let lack = count_changed lacks_note refl n mid new others in
      let lacked = ap (λ s. one (lacks_note s)) is in
      let lacks = ap (λ s. one (lacks_note s)) here in
      let are = count_changed is_some refl n mid new others in
      let was = ap (λ (s : Option Slot). one (is_some s)) is in
      let now = ap (λ (s : Option Slot). one (is_some s)) here in
      let before = ready.noted.balance in
      omega (arith, lack, lacked, lacks, are, was, now, before)

  unchanged : (q : ℕ) → q ≢ n → slot_of new q ≡ slot_of slots q
  unchanged q ne = others q ne ∙ ready.others q ne

  pub written_count : count_by is_some new ≡ count_by is_some slots
  written_count =
      let are = count_changed is_some refl n slots new unchanged in
      let was = ap one (sym ready.there ∙ ap (λ (s : Option Slot). is_some s) is) in
      let now = ap (λ (s : Option Slot). one (is_some s)) here in
      omega (arith, are, was, now)

  pub written_live : count_by has_node new + one (is_some slot.node) ≡ count_by has_node slots + one (is_some node)
  written_live =
      let live = count_changed has_node refl n slots new unchanged in
      let was = ap (λ (x : Option ArenaNode). one (is_some x)) (sym ready.node ∙ ap node_in is) in
      let now = ap (λ s. one (has_node s)) here in
      omega (arith, live, was, now)

  pub written_noted : AreNoted new notes'
  written_noted = record { slot = each_slot; note = each_note; balance = balanced }

  pub written_first : in_trial ≡ true → (q : ℕ) → first_in notes' (slot_of new q) ≡ first_in notes (slot_of slots q)
  written_first runs q = elim (cases_eq q n) [
    | inl same ↦ subst (λ m. first_in notes' (slot_of new m) ≡ first_in notes (slot_of slots m)) (sym same)
        (ap (first_in notes') here ∙ noted_first notes' slot.note node slot.node (sym (ap lacks_note is) ∙ ready.has_note runs) ∙ sym (ap (first_in notes') is) ∙ ready.first n)
    | inr other ↦ ap (first_in notes') (others q other) ∙ ready.first q
  ]

  pub written_nodes : (q : ℕ) → q ≢ n → node_in (slot_of new q) ≡ node_in (slot_of slots q)
  written_nodes q ne = ap node_in (unchanged q ne)

  pub written_sound : (room room' freed freed' : ℕ) → IsSound slots notes room in_trial freed → room' ≡ room → freed' + one (is_some node) ≡ freed + one (is_some slot.node) →
      IsSound new notes' room' in_trial freed'
  written_sound room room' freed freed' sound same_room fewer = record {
    noted = written_noted;
    has_room = λ runs. let fits = sound.has_room runs in let count = written_count in omega (arith, fits, count, same_room);
    is_still = ready.is_still;
    counted = let count = written_count in let lives = written_live in let before = sound.counted in omega (arith, count, lives, before, fewer);
  }

-- the slot that is made ready, where a node stands
pub ready_slot : (slot : Option Slot) (old : Option Slot) → node_in slot ≡ node_in old → IsSome (node_in old) → (s : Slot) × (slot ≡ Some s)
ready_slot (Some s) old e live = (s, refl)
ready_slot None old e live = absurd (nothing (node_in old) (sym e) live)
  where
    nothing : (x : Option ArenaNode) → x ≡ None → IsSome x → ⊥
    nothing None h live = cc
    nothing (Some x) h live = cc

pub is_one : (node : Option ArenaNode) → IsSome node → one (is_some node) ≡ 1
is_one (Some node) live = refl
is_one None live = cc

pub live_map : (change : ArenaNode → ArenaNode) (node : Option ArenaNode) → IsSome node → IsSome (option_map change node)
live_map change (Some node) live = refl
live_map change None live = cc

pub node_with_field : (field : Field) (slot : Option Slot) → node_in (option_map (with_slot_field field) slot) ≡ option_map (with_field field) (node_in slot)
node_with_field field (Some slot) = refl
node_with_field field None = refl

pub node_vacated : (slot : Option Slot) → node_in (option_map vacated slot) ≡ None
node_vacated (Some slot) = refl
node_vacated None = refl

-- a slot that lacks no note has one
pub marked_slot : (slot : Option Slot) (s : Slot) → slot ≡ Some s → lacks_note slot ≡ false → s.note ≡ None → ⊥
marked_slot slot s e has none = has_mark s.note (sym (ap lacks_note e) ∙ has) none

-- ---- a slot is gone, where no trial runs

bare_mark : (notes : List Note) (n : ℕ) (here : Option ArenaNode) (mark : Option ℕ) → notes ≡ [] → IsMarked notes n here mark → mark ≡ None
bare_mark notes n here None none marked = refl
bare_mark notes n here (Some k) none marked = cc

no_get : (notes : List Note) (k : ℕ) (note : Note) → notes ≡ [] → slice_get notes k ≡ Some note → ⊥
no_get [] k note none e = cc
no_get (x ∷ notes) k note none e = cc

module _ (in_trial : Bool) (n : ℕ) (slots : Slots) (notes : List Note) (mid : Slots) (notes' : List Note) (ready : IsReady in_trial n slots notes mid notes') (rests : in_trial ≡ false)
    (slot : Slot) (is : slot_of mid n ≡ Some slot) (live : IsSome slot.node)
    (new : Slots) (gone : slot_of new n ≡ None) (others : (q : ℕ) → q ≢ n → slot_of new q ≡ slot_of mid q) where
  none : notes' ≡ []
  none = ready.is_still rests

  slot_left : (q : ℕ) (s : Slot) → slot_of new q ≡ Some s → IsMarked notes' q s.node s.note
  slot_left q s e = elim (cases_eq q n) [
    | inl same ↦ absurd (both (slot_of new n) s gone (ap (slot_of new) (sym same) ∙ e))
    | inr other ↦ ready.noted.slot q s (sym (others q other) ∙ e)
  ]
    where
      both : (t : Option Slot) (s : Slot) → t ≡ None → t ≡ Some s → ⊥
      both t s h k = cc

  no_note : (k : ℕ) (note : Note) → slice_get notes' k ≡ Some note → HasNote (slot_of new note.number) k
  no_note k note e = absurd (no_get notes' k note none e)

  balance_left : length notes' + count_by lacks_note new ≡ count_by is_some new
  balance_left =
      let lack = count_changed lacks_note refl n mid new others in
      let lacked = ap (λ s. one (lacks_note s)) is ∙ ap (λ m. one (is_none m)) (bare_mark notes' n slot.node slot.note none (ready.noted.slot n slot is)) in
      let lacks = ap (λ s. one (lacks_note s)) gone in
      let are = count_changed is_some refl n mid new others in
      let was = ap (λ (s : Option Slot). one (is_some s)) is in
      let now = ap (λ (s : Option Slot). one (is_some s)) gone in
      let before = ready.noted.balance in
      omega (arith, lack, lacked, lacks, are, was, now, before)

  left_same : (q : ℕ) → q ≢ n → slot_of new q ≡ slot_of slots q
  left_same q ne = others q ne ∙ ready.others q ne

  left_counted : (freed : ℕ) → count_by has_node slots + freed ≡ count_by is_some slots → count_by has_node new + freed ≡ count_by is_some new
  left_counted freed before =
      let lives = count_changed has_node refl n slots new left_same in
      let lived = ap (λ (x : Option ArenaNode). one (is_some x)) (sym ready.node ∙ ap node_in is) in
      let one_lived = is_one slot.node live in
      let dead = ap (λ s. one (has_node s)) gone in
      let are = count_changed is_some refl n slots new left_same in
      let was = ap one (sym ready.there ∙ ap (λ (s : Option Slot). is_some s) is) in
      let now = ap (λ (s : Option Slot). one (is_some s)) gone in
      omega (arith, lives, lived, one_lived, dead, are, was, now, before)

  pub removed_sound : (room room' freed : ℕ) → IsSound slots notes room in_trial freed → IsSound new notes' room' in_trial freed
  removed_sound room room' freed sound = record {
    noted = record { slot = slot_left; note = no_note; balance = balance_left };
    has_room = λ runs. cc;
    is_still = ready.is_still;
    counted = left_counted freed sound.counted;
  }
