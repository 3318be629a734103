-- What slots show of nodes, slot by slot.
use Rattle.std.proofs.Common.{◌≡◌, ◌≢◌, ◌+◌, ℕ, zero, suc, cond, Bool, true, false, Option, Some, None, is_some, IsSome, List, [], ◌∷◌, map, length, count_by, slice_set, ◌<◌, refl, sym, ap, subst, ◌∙◌, arith}
use Rattle.std.proofs.lemmas.List.{get_or-set_same, get_or-set_other}
use Rattle.std.proofs.lemmas.List.Sums.{sum_by-cons}
use Rattle.ve_arena.specs.declared.node.ArenaNode.{ArenaNode}
use Rattle.ve_arena.specs.declared.slot.Slot.{Slot}
use Rattle.ve_arena.specs.Arena.{slot_at, live_count, ArenaView}
use Rattle.ve_arena.specs.Slots.{slot_of, put_first, trimmed, node_in, nodes_in, has_node}

abbrev pub Nodes : Type 0
Nodes = List (Option ArenaNode)

abbrev pub Slots : Type 0
Slots = List (Option Slot)

-- ---- a trimmed list

put_at_0 : (slot : Option ArenaNode) (slots : Nodes) → slot_at (put_first slot slots) 0 ≡ slot
put_at_0 None [] = refl
put_at_0 None (x ∷ xs) = refl
put_at_0 (Some v) slots = refl

put_at_suc : (slot : Option ArenaNode) (slots : Nodes) (n : ℕ) → slot_at (put_first slot slots) (suc n) ≡ slot_at slots n
put_at_suc None [] n = refl
put_at_suc None (x ∷ xs) n = refl
put_at_suc (Some v) slots n = refl

pub read_trimmed : (slots : Nodes) (n : ℕ) → slot_at (trimmed slots) n ≡ slot_at slots n
read_trimmed [] n = refl
read_trimmed (slot ∷ slots) zero = put_at_0 slot (trimmed slots)
read_trimmed (slot ∷ slots) (suc n) = put_at_suc slot (trimmed slots) n ∙ read_trimmed slots n

none_trimmed : (slots : Nodes) → ((n : ℕ) → None ≡ slot_at slots n) → [] ≡ trimmed slots
none_trimmed [] h = refl
none_trimmed (slot ∷ slots) h = ap (λ s. put_first s []) (h 0) ∙ ap (put_first slot) (none_trimmed slots (λ n. h (suc n)))

-- lists that show the same nodes are the same when they are trimmed
pub same_trimmed : (a b : Nodes) → ((n : ℕ) → slot_at a n ≡ slot_at b n) → trimmed a ≡ trimmed b
same_trimmed [] b h = none_trimmed b h
same_trimmed (x ∷ a) [] h = sym (none_trimmed (x ∷ a) (λ n. sym (h n)))
same_trimmed (x ∷ a) (y ∷ b) h = ap (λ s. put_first s (trimmed a)) (h 0) ∙ ap (put_first y) (same_trimmed a b (λ n. h (suc n)))

-- ---- what is shown of slots

module _ (shown : Option Slot → Option ArenaNode) (none : shown None ≡ None) where
  read_map : (slots : Slots) (n : ℕ) → slot_at (map shown slots) n ≡ shown (slot_of slots n)
  read_map [] n = sym none
  read_map (slot ∷ slots) zero = refl
  read_map (slot ∷ slots) (suc n) = read_map slots n

  pub read_shown : (slots : Slots) (n : ℕ) → slot_at (trimmed (map shown slots)) n ≡ shown (slot_of slots n)
  read_shown slots n = read_trimmed (map shown slots) n ∙ read_map slots n

module _ (shown other : Option Slot → Option ArenaNode) (none : shown None ≡ None) (other_none : other None ≡ None) where
  pub same_shown : (old new : Slots) → ((n : ℕ) → shown (slot_of old n) ≡ other (slot_of new n)) → trimmed (map shown old) ≡ trimmed (map other new)
  same_shown old new h = same_trimmed (map shown old) (map other new) (λ n. read_map shown none old n ∙ h n ∙ sym (read_map other other_none new n))

-- ---- counts

abbrev pub one : Bool → ℕ
one b = cond b 1 0

module _ (holds : Option Slot → Bool) (none : holds None ≡ false) where
  counted_cons : (slot : Option Slot) (slots : Slots) → count_by holds (slot ∷ slots) ≡ one (holds slot) + count_by holds slots
  counted_cons slot slots = sum_by-cons (λ s. cond (holds s) 1 0) slot slots

module _ (holds other : Option Slot → Bool) (none : holds None ≡ false) (other_none : other None ≡ false) where
  none_counted : (slots : Slots) → ((n : ℕ) → false ≡ other (slot_of slots n)) → 0 ≡ count_by other slots
  none_counted [] h = refl
  none_counted (slot ∷ slots) h =
      let sums = counted_cons other other_none slot slots in
      let here = ap one (h 0) in
      let rest = none_counted slots (λ n. h (suc n)) in
      omega (arith, sums, here, rest)

module _ (holds other : Option Slot → Bool) (none : holds None ≡ false) (other_none : other None ≡ false) where
  pub same_count : (old new : Slots) → ((n : ℕ) → holds (slot_of old n) ≡ other (slot_of new n)) → count_by holds old ≡ count_by other new
  same_count [] new h = none_counted holds other none other_none new (λ n. sym none ∙ h n)
  same_count (slot ∷ old) [] h = sym (none_counted other holds other_none none (slot ∷ old) (λ n. sym other_none ∙ sym (h n)))
  same_count (slot ∷ old) (next ∷ new) h =
      let sums = counted_cons holds none slot old in
      let others = counted_cons other other_none next new in
      let here = ap one (h 0) in
      let rest = same_count old new (λ n. h (suc n)) in
      omega (arith, sums, others, here, rest)

-- one slot changes
abbrev tail : Slots → Slots
tail [] = []
tail (slot ∷ slots) = slots

at_tail : (slots : Slots) (n : ℕ) → slot_of (tail slots) n ≡ slot_of slots (suc n)
at_tail [] n = refl
at_tail (slot ∷ slots) n = refl

module _ (holds : Option Slot → Bool) (none : holds None ≡ false) where
  counted_tail : (slots : Slots) → count_by holds slots ≡ one (holds (slot_of slots 0)) + count_by holds (tail slots)
  counted_tail [] = let empty = ap one none in omega (arith, empty)
  counted_tail (slot ∷ slots) = counted_cons holds none slot slots

  pub count_changed : (n : ℕ) (old new : Slots) → ((q : ℕ) → q ≢ n → slot_of new q ≡ slot_of old q) →
      count_by holds new + one (holds (slot_of old n)) ≡ count_by holds old + one (holds (slot_of new n))
  count_changed zero old new h =
      let was = counted_tail old in
      let is = counted_tail new in
      let rest = same_count holds holds none none (tail old) (tail new) (λ q. ap holds (at_tail old q ∙ sym (h (suc q) (λ e. cc)) ∙ sym (at_tail new q))) in
      omega (arith, was, is, rest)
  count_changed (suc n) old new h =
      let was = counted_tail old in
      let is = counted_tail new in
      let here = ap (λ s. one (holds s)) (h 0 (λ e. cc)) in
      let rest = count_changed n (tail old) (tail new) (λ q ne. at_tail new q ∙ h (suc q) (λ e. ne (omega (arith, e))) ∙ sym (at_tail old q)) in
      let first = ap (λ s. one (holds s)) (at_tail old n) in
      let last = ap (λ s. one (holds s)) (at_tail new n) in
      omega (arith, was, is, here, rest, first, last)

-- ---- as many nodes are shown as slots show one

live_put : (slot : Option ArenaNode) (slots : Nodes) → live_count (put_first slot slots) ≡ one (is_some slot) + live_count slots
live_put None [] = refl
live_put None (x ∷ xs) = sum_by-cons (λ (s : Option ArenaNode). cond (is_some s) 1 0) None (x ∷ xs)
live_put (Some v) slots = sum_by-cons (λ (s : Option ArenaNode). cond (is_some s) 1 0) (Some v) slots

live_trimmed : (slots : Nodes) → live_count (trimmed slots) ≡ live_count slots
live_trimmed [] = refl
live_trimmed (slot ∷ slots) =
    let sums = sum_by-cons (λ (s : Option ArenaNode). cond (is_some s) 1 0) slot slots in
    let put = live_put slot (trimmed slots) in
    let rest = live_trimmed slots in
    omega (arith, sums, put, rest)

live_map : (slots : Slots) → live_count (map node_in slots) ≡ count_by has_node slots
live_map [] = refl
live_map (slot ∷ slots) =
    let sums = sum_by-cons (λ (s : Option ArenaNode). cond (is_some s) 1 0) (node_in slot) (map node_in slots) in
    let others = counted_cons has_node refl slot slots in
    let rest = live_map slots in
    omega (arith, sums, others, rest)

pub live_shown : (slots : Slots) → live_count (nodes_in slots) ≡ count_by has_node slots
live_shown slots = live_trimmed (map node_in slots) ∙ live_map slots

-- ---- the view of slots

pub shows : (slots : Slots) (n : ℕ) → slot_at (nodes_in slots) n ≡ node_in (slot_of slots n)
shows slots n = read_shown node_in refl slots n

pub live_in : (slots : Slots) (now : ArenaView) (n : ℕ) → nodes_in slots ≡ now.slots → IsSome (slot_at now.slots n) → IsSome (node_in (slot_of slots n))
live_in slots now n e live = subst (λ (s : Option ArenaNode). IsSome s) (ap (λ l. slot_at l n) (sym e) ∙ shows slots n) live

pub there : (slot : Option Slot) → IsSome (node_in slot) → IsSome slot
there (Some slot) live = refl
there None live = cc

none_is : (node : Option ArenaNode) → node ≡ None → IsSome node → ⊥
none_is None e h = cc
none_is (Some node) e h = cc

pub no_node : (slot : Option Slot) (here : Slot) → IsSome (node_in slot) → slot ≡ Some here → here.node ≡ None → ⊥
no_node slot here live e gone = none_is (node_in slot) (ap node_in e ∙ gone) live

pub within : (slots : Slots) (n : ℕ) → IsSome (slot_of slots n) → n < length slots
within [] n is = cc
within (slot ∷ slots) zero is = omega arith
within (slot ∷ slots) (suc n) is = let less = within slots n is in omega (arith, less)

-- ---- a slot that is written

pub put_here : (slots : Slots) (n : ℕ) (slot : Option Slot) → IsSome (slot_of slots n) → slot_of (slice_set slots n slot) n ≡ slot
put_here slots n slot is = get_or-set_same slots n slot None (within slots n is)

pub put_others : (slots : Slots) (n : ℕ) (slot : Option Slot) (q : ℕ) → q ≢ n → slot_of (slice_set slots n slot) q ≡ slot_of slots q
put_others slots n slot q ne = get_or-set_other slots n q slot None ne
