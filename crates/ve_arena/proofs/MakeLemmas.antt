-- A node that is made: its slot is new, and in a trial it has a note that nothing stood there.
use Rattle.std.proofs.Common.{◌≡◌, ◌≢◌, ◌≤◌, ◌+◌, ℕ, Bool, true, false, Option, Some, None, is_some, IsSome, List, [], ◌∷◌, ◌++◌, length, count_by, refl, sym, ap, subst, ◌∙◌, arith, inl, inr}
use Rattle.std.specs.Prelude.{slice_get, if◌then◌else◌}
use Rattle.std.proofs.lemmas.Bool.{cases_eq}
use Rattle.std.proofs.lemmas.List.{length-append}
use Rattle.ve_arena.specs.declared.node.ArenaNode.{ArenaNode}
use Rattle.ve_arena.specs.declared.slot.Slot.{Slot}
use Rattle.ve_arena.specs.declared.slot.Note.{Note}
use Rattle.ve_arena.specs.Slots.{slot_of, node_of_note, first_in, has_node, is_none, lacks_note, AreNoted, HasNote, IsMarked, IsSound}
use Rattle.ve_arena.proofs.SlotLemmas.{Slots, count_changed, one}
use Rattle.ve_arena.proofs.NoteLemmas.{first_more, get_either, get_end, marked_more}

-- the slot of a new node
abbrev pub slot_with : ArenaNode → Option ℕ → Option Slot
slot_with node mark = Some (record { node = Some node; note = mark })

same_slot : {x y : Slot} → ◌≡◌ {A = Option Slot} (Some x) (Some y) → x ≡ y
same_slot h = cc

no_slot : (slot : Option Slot) (k : ℕ) → slot ≡ None → HasNote slot k → ⊥
no_slot (Some slot) k e has = cc
no_slot None k e has = has

module _ (slots : Slots) (notes : List Note) (are : AreNoted slots notes) (n : ℕ) (node : ArenaNode) (new : Slots)
    (none : slot_of slots n ≡ None) (others : (q : ℕ) → q ≢ n → slot_of new q ≡ slot_of slots q) where
  abbrev note : Note
  note = record { number = n; node = None }

  abbrev made : Option ℕ → Slot
  made mark = record { node = Some node; note = mark }

  abbrev mark : Bool → Option ℕ
  mark in_trial = if in_trial then Some (length notes) else None

  abbrev notes_with : Bool → List Note
  notes_with in_trial = if in_trial then notes ++ note ∷ [] else notes

  made_marked : (in_trial : Bool) → IsMarked (notes_with in_trial) n (Some node) (mark in_trial)
  made_marked true = (note, get_end notes note, refl)
  made_marked false = refl

  marked_still : (in_trial : Bool) (q : ℕ) (s : Slot) → IsMarked notes q s.node s.note → IsMarked (notes_with in_trial) q s.node s.note
  marked_still true q s is = marked_more notes note q s.node s.note is
  marked_still false q s is = is

  was_other : (k : ℕ) (old : Note) → slice_get notes k ≡ Some old → old.number ≢ n
  was_other k old e same = no_slot (slot_of slots old.number) k (ap (slot_of slots) same ∙ none) (are.note k old e)

  module _ (in_trial : Bool) (here : slot_of new n ≡ Some (made (mark in_trial))) where
    each_slot : (q : ℕ) (s : Slot) → slot_of new q ≡ Some s → IsMarked (notes_with in_trial) q s.node s.note
    each_slot q s e = elim (cases_eq q n) [
      | inl same ↦ subst (λ (t : Slot). IsMarked (notes_with in_trial) q t.node t.note) (same_slot (sym here ∙ ap (slot_of new) (sym same) ∙ e))
          (subst (λ m. IsMarked (notes_with in_trial) m (Some node) (mark in_trial)) (sym same) (made_marked in_trial))
      | inr other ↦ marked_still in_trial q s (are.slot q s (sym (others q other) ∙ e))
    ]

    was_noted : (k : ℕ) (old : Note) → slice_get notes k ≡ Some old → HasNote (slot_of new old.number) k
    was_noted k old e = subst (λ (t : Option Slot). HasNote t k) (sym (others old.number (was_other k old e))) (are.note k old e)

    count_slots : count_by is_some new ≡ count_by is_some slots + 1
    count_slots =
        let changed = count_changed is_some refl n slots new others in
        let was = ap (λ (s : Option Slot). one (is_some s)) none in
        let is = ap (λ (s : Option Slot). one (is_some s)) here in
        omega (arith, changed, was, is)

    count_nodes : count_by has_node new ≡ count_by has_node slots + 1
    count_nodes =
        let changed = count_changed has_node refl n slots new others in
        let was = ap (λ s. one (has_node s)) none in
        let is = ap (λ s. one (has_node s)) here in
        omega (arith, changed, was, is)

  noted_note : slot_of new n ≡ Some (made (Some (length notes))) → (k : ℕ) (found : Note) → slice_get (notes ++ note ∷ []) k ≡ Some found → HasNote (slot_of new found.number) k
  noted_note here k found e = elim (get_either notes note found k e) [
    | inl last ↦ subst (λ (f : Note). HasNote (slot_of new f.number) k) last.1 (subst (λ (t : Option Slot). HasNote t k) (sym here) (ap (λ m. Some m) (sym last.0)))
    | inr was ↦ was_noted true here k found was
  ]

  made_noted : (in_trial : Bool) → slot_of new n ≡ Some (made (mark in_trial)) → AreNoted new (notes_with in_trial)
  made_noted true here = record {
    slot = each_slot true here;
    note = noted_note here;
    balance =
        let longer = length-append notes (note ∷ []) in
        let changed = count_changed lacks_note refl n slots new others in
        let was = ap (λ s. one (lacks_note s)) none in
        let is = ap (λ s. one (lacks_note s)) here in
        let count = count_slots true here in
        let before = are.balance in
        omega (arith, longer, changed, was, is, count, before);
  }
  made_noted false here = record {
    slot = each_slot false here;
    note = was_noted false here;
    balance =
        let changed = count_changed lacks_note refl n slots new others in
        let was = ap (λ s. one (lacks_note s)) none in
        let is = ap (λ s. one (lacks_note s)) here in
        let count = count_slots false here in
        let before = are.balance in
        omega (arith, changed, was, is, count, before);
  }

  pub made_sound : (in_trial : Bool) (notes' : List Note) (room room' freed : ℕ) → slot_of new n ≡ Some (made (mark in_trial)) → notes' ≡ notes_with in_trial →
      IsSound slots notes room in_trial freed → (in_trial ≡ true → count_by is_some slots + 1 ≤ room') → IsSound new notes' room' in_trial freed
  made_sound in_trial notes' room room' freed here is sound fits = subst (λ (l : List Note). IsSound new l room' in_trial freed) (sym is) (record {
    noted = made_noted in_trial here;
    has_room = λ runs. let count = count_slots in_trial here in let less = fits runs in omega (arith, count, less);
    is_still = λ rests. ap (λ b. if b then notes ++ note ∷ [] else notes) rests ∙ sound.is_still rests;
    counted = let count = count_slots in_trial here in let lives = count_nodes in_trial here in let before = sound.counted in omega (arith, count, lives, before);
  })

  first_noted : slot_of new n ≡ Some (made (Some (length notes))) → (q : ℕ) → first_in (notes ++ note ∷ []) (slot_of new q) ≡ first_in notes (slot_of slots q)
  first_noted here q = elim (cases_eq q n) [
    | inl same ↦ subst (λ m. first_in (notes ++ note ∷ []) (slot_of new m) ≡ first_in notes (slot_of slots m)) (sym same)
        (ap (first_in (notes ++ note ∷ [])) here ∙ ap node_of_note (get_end notes note) ∙ sym (ap (first_in notes) none))
    | inr other ↦ ap (first_in (notes ++ note ∷ [])) (others q other) ∙ first_more slots notes note are q (slot_of slots q) refl
  ]

  pub made_first : (in_trial : Bool) (notes' : List Note) → slot_of new n ≡ Some (made (mark in_trial)) → notes' ≡ notes_with in_trial →
      in_trial ≡ true → (q : ℕ) → first_in notes' (slot_of new q) ≡ first_in notes (slot_of slots q)
  made_first true notes' here is runs q = ap (λ (l : List Note). first_in l (slot_of new q)) is ∙ first_noted here q
  made_first false notes' here is runs q = cc
