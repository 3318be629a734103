-- Slots and their notes: what stays of them when a slot is noted or written.
use Rattle.std.proofs.Common.{◌≡◌, ◌≢◌, ◌<◌, ◌≤◌, ◌+◌, ◌⊎◌, ℕ, zero, suc, Bool, true, false, Option, Some, None, is_some, IsSome, List, [], ◌∷◌, ◌++◌, length, count_by, slice_set, refl, sym, ap, subst, ◌∙◌, arith, inl, inr}
use Rattle.std.specs.Prelude.{slice_get}
use Rattle.std.proofs.lemmas.Bool.{cases_eq}
use Rattle.std.proofs.lemmas.List.{length-append}
use Rattle.ve_arena.specs.declared.node.ArenaNode.{ArenaNode}
use Rattle.ve_arena.specs.declared.slot.Slot.{Slot}
use Rattle.ve_arena.specs.declared.slot.Note.{Note}
use Rattle.ve_arena.specs.Slots.{slot_of, node_in, node_of_note, first_by, first_in, has_node, is_none, lacks_note, AreNoted, HasNote, IsMarked, IsNoteOf, IsReady}
use Rattle.ve_arena.proofs.SlotLemmas.{Slots, count_changed, one, put_here, put_others}

-- ---- one note more

pub get_end : (notes : List Note) (note : Note) → slice_get (notes ++ note ∷ []) (length notes) ≡ Some note
get_end [] note = refl
get_end (x ∷ notes) note = get_end notes note

pub get_before : (notes : List Note) (note old : Note) (k : ℕ) → slice_get notes k ≡ Some old → slice_get (notes ++ note ∷ []) k ≡ Some old
get_before [] note old k e = cc
get_before (x ∷ notes) note old zero e = e
get_before (x ∷ notes) note old (suc k) e = get_before notes note old k e

-- a note of the longer list is the last one, or was there
pub get_either : (notes : List Note) (note found : Note) (k : ℕ) → slice_get (notes ++ note ∷ []) k ≡ Some found →
    ((k ≡ length notes) × (note ≡ found)) ⊎ (slice_get notes k ≡ Some found)
get_either [] note found zero e = inl (refl, cc)
get_either [] note found (suc k) e = cc
get_either (x ∷ notes) note found zero e = inr e
get_either (x ∷ notes) note found (suc k) e = elim (get_either notes note found k e) [
  | inl last ↦ inl (ap (λ n. suc n) last.0, last.1)
  | inr was ↦ inr was
]

-- what the notes say of a slot that has its own
pub marked_more : (notes : List Note) (note : Note) (n : ℕ) (here : Option ArenaNode) (mark : Option ℕ) → IsMarked notes n here mark → IsMarked (notes ++ note ∷ []) n here mark
marked_more notes note n here None is = is
marked_more notes note n here (Some k) is = (is.0, get_before notes note is.0 k is.1, is.2)

first_by_more : (notes : List Note) (note : Note) (n : ℕ) (here : Option ArenaNode) (mark : Option ℕ) → IsMarked notes n here mark →
    first_by (notes ++ note ∷ []) mark here ≡ first_by notes mark here
first_by_more notes note n here None is = refl
first_by_more notes note n here (Some k) is = ap node_of_note (get_before notes note is.0 k is.1 ∙ sym is.1)

pub first_more : (slots : Slots) (notes : List Note) (note : Note) → AreNoted slots notes → (q : ℕ) (slot : Option Slot) → slot_of slots q ≡ slot →
    first_in (notes ++ note ∷ []) slot ≡ first_in notes slot
first_more slots notes note are q None e = refl
first_more slots notes note are q (Some slot) e = first_by_more notes note q slot.node slot.note (are.slot q slot e)

-- a slot that has no note is of none
no_note_of : (slot : Option Slot) (here : Slot) (k : ℕ) → slot ≡ Some here → here.note ≡ None → HasNote slot k → ⊥
no_note_of (Some slot) here k e none has = cc
no_note_of None here k e none has = has

-- ---- a slot without a note is noted

module _ (slots : Slots) (notes : List Note) (n : ℕ) (slot : Slot) (are : AreNoted slots notes)
    (here : slot_of slots n ≡ Some slot) (bare : slot.note ≡ None) where
  abbrev noted : Slot
  noted = record { node = slot.node; note = Some (length notes) }

  abbrev note : Note
  note = record { number = n; node = slot.node }

  abbrev new : Slots
  new = slice_set slots n (Some noted)

  abbrev more : List Note
  more = notes ++ note ∷ []

  is_there : IsSome (slot_of slots n)
  is_there = subst (λ (s : Option Slot). IsSome s) (sym here) refl

  at_n : slot_of new n ≡ Some noted
  at_n = put_here slots n (Some noted) is_there

  elsewhere : (q : ℕ) → q ≢ n → slot_of new q ≡ slot_of slots q
  elsewhere q ne = put_others slots n (Some noted) q ne

  noted_is : (s : Slot) → Some noted ≡ Some s → IsMarked more n s.node s.note
  noted_is s e = subst (λ (t : Slot). IsMarked more n t.node t.note) (same e) (note, get_end notes note, refl)
    where
      same : {x y : Slot} → ◌≡◌ {A = Option Slot} (Some x) (Some y) → x ≡ y
      same h = cc

  each_slot : (q : ℕ) (s : Slot) → slot_of new q ≡ Some s → IsMarked more q s.node s.note
  each_slot q s e = elim (cases_eq q n) [
    | inl same ↦ subst (λ m. IsMarked more m s.node s.note) (sym same) (noted_is s (sym (subst (λ m. slot_of new m ≡ Some noted) (sym same) at_n) ∙ e))
    | inr other ↦ marked_more notes note q s.node s.note (are.slot q s (sym (elsewhere q other) ∙ e))
  ]

  was_noted : (k : ℕ) (old : Note) → slice_get notes k ≡ Some old → HasNote (slot_of new old.number) k
  was_noted k old e = elim (cases_eq old.number n) [
    | inl same ↦ absurd (no_note_of (slot_of slots old.number) slot k (ap (slot_of slots) same ∙ here) bare (are.note k old e))
    | inr other ↦ subst (λ (t : Option Slot). HasNote t k) (sym (elsewhere old.number other)) (are.note k old e)
  ]

  each_note : (k : ℕ) (found : Note) → slice_get more k ≡ Some found → HasNote (slot_of new found.number) k
  each_note k found e = elim (get_either notes note found k e) [
    | inl last ↦ subst (λ (f : Note). HasNote (slot_of new f.number) k) last.1 (subst (λ (t : Option Slot). HasNote t k) (sym at_n) (ap (λ m. Some m) (sym last.0)))
    | inr was ↦ was_noted k found was
  ]

  balanced : length more + count_by lacks_note new ≡ count_by is_some new
  balanced =
      let longer = length-append notes (note ∷ []) in
      let lacks = count_changed lacks_note refl n slots new elsewhere in
      let lacked = ap (λ s. one (lacks_note s)) here ∙ ap (λ m. one (is_none m)) bare in
      let has = ap (λ s. one (lacks_note s)) at_n in
      let slots_are = count_changed is_some refl n slots new elsewhere in
      let was = ap (λ (s : Option Slot). one (is_some s)) here in
      let is = ap (λ (s : Option Slot). one (is_some s)) at_n in
      let before = are.balance in
      omega (arith, longer, lacks, lacked, has, slots_are, was, is, before)

  firsts : (q : ℕ) → first_in more (slot_of new q) ≡ first_in notes (slot_of slots q)
  firsts q = elim (cases_eq q n) [
    | inl same ↦ subst (λ m. first_in more (slot_of new m) ≡ first_in notes (slot_of slots m)) (sym same)
        (ap (first_in more) at_n ∙ ap node_of_note (get_end notes note) ∙ sym (ap (first_in notes) here ∙ ap (λ m. first_by notes m slot.node) bare))
    | inr other ↦ ap (first_in more) (elsewhere q other) ∙ first_more slots notes note are q (slot_of slots q) refl
  ]

  pub readied : (in_trial : Bool) → in_trial ≡ true → IsReady in_trial n slots notes new more
  readied in_trial runs = record {
    noted = record { slot = each_slot; note = each_note; balance = balanced };
    is_still = λ still. cc;
    others = elsewhere;
    node = ap node_in at_n ∙ sym (ap node_in here);
    there = ap (λ (s : Option Slot). is_some s) at_n ∙ sym (ap (λ (s : Option Slot). is_some s) here);
    has_note = λ h. ap lacks_note at_n;
    first = firsts;
  }
