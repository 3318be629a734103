-- Sorts and lengths of a tree's nodes, where others are made, lengths are written and nodes are
-- freed.
use Rattle.std.proofs.Common.{◌≡◌, ◌≢◌, ℕ, ◌+◌, Bool, true, false, if◌then◌else◌, Option, None, Some, IsSome, List, [], ◌∷◌, ◌++◌, map, option_map, refl, sym, ap, ◌∙◌, eqb}
use Rattle.std.proofs.lemmas.Bool.{eqb-true, eqb-false}
use Rattle.ve_arena.specs.declared.node.NodeId.{NodeId}
use Rattle.ve_arena.specs.declared.node.NodeWhat.{NodeWhat}
use Rattle.ve_arena.specs.declared.node.NodeWhat.TheVariants as what
use Rattle.ve_arena.specs.declared.node.ArenaNode.{ArenaNode}
use Rattle.ve_arena.specs.Arena.{slot_at}
use Rattle.ve_tree.specs.Links.{number_of, Apart}
use Rattle.model_items.specs.Tree.{item_count}
use Rattle.ve_tree.specs.Named.{Named, NoNode, NamedRun, NamedBranch, node_numbers, unnumbered, Shows}
use Rattle.ve_repair.specs.declared.write.Write.{Write}
use Rattle.ve_repair.specs.Frees.{freed_slot}
use Rattle.ve_repair.specs.Labels.{label_of, label_at}
use Rattle.ve_repair.specs.Made.{SignsHaveSorts}
use Rattle.ve_repair.specs.Reader.{Slots, Keeps}
use Rattle.ve_repair.specs.Sizes.{Sized, signs_of, forest_sizes, HasSort, HaveSorts, HaveSizes}
use Rattle.ve_repair.specs.Spelled.{Sign, BeginOf, LettersOf, EndOf, AllFrom}
use Rattle.ve_repair.specs.Writes.{label_all}
use Rattle.ve_repair.proofs.MadeLemmas.{sorts_join}
use Rattle.ve_repair.proofs.SizeLemmas.{have_front, have_behind, have_both}
use Rattle.ve_repair.proofs.RelinkLemmas.{apart-join}
use Rattle.ve_repair.proofs.CarriedWritesLemmas.{sort_of, writes-sort}

-- a tree's nodes are what its signs say
pub shown_sorts : (slots : Slots) (f : Named) → Shows slots f → SignsHaveSorts slots (signs_of f)
shown_sorts slots NoNode h = tt
shown_sorts slots (NamedRun n count later) h = (h.0.sort_is, shown_sorts slots later h.1)
shown_sorts slots (NamedBranch n kind inside later) h = (h.0.sort_is, sorts_join slots (signs_of inside) (EndOf _ ∷ signs_of later) (shown_sorts slots inside h.1) (shown_sorts slots later h.2))

pub sort_live : (slots : Slots) (n : ℕ) (sort : NodeWhat) → HasSort slots n sort → IsSome (slot_at slots n)
sort_live slots n sort h = go (slot_at slots n) h
  where
    go : (o : Option ArenaNode) → option_map (λ node. node.what) o ≡ Some sort → IsSome o
    go None e = let bad : ◌≡◌ {A = Option NodeWhat} None (Some sort) = e in absurd (cc)
    go (Some node) e = refl

-- and stay so where others are made
pub sort_kept : (old mid : Slots) → Keeps old mid → (n : ℕ) (sort : NodeWhat) → HasSort old n sort → HasSort mid n sort
sort_kept old mid k n sort h = ap (option_map (λ node. node.what)) (k n (sort_live old n sort h)) ∙ h

pub sorts_kept : (old mid : Slots) → Keeps old mid → (ss : List Sign) → SignsHaveSorts old ss → SignsHaveSorts mid ss
sorts_kept old mid k [] h = tt
sorts_kept old mid k (BeginOf n kind ∷ ss) h = (sort_kept old mid k n (what.Node kind) h.0, sorts_kept old mid k ss h.1)
sorts_kept old mid k (LettersOf n count ∷ ss) h = (sort_kept old mid k n what.Run h.0, sorts_kept old mid k ss h.1)
sorts_kept old mid k (EndOf kind ∷ ss) h = sorts_kept old mid k ss h

-- so do lengths
pub len_kept : (old mid : Slots) → Keeps old mid → (n len : ℕ) → option_map (λ node. node.len) (slot_at old n) ≡ Some len → option_map (λ node. node.len) (slot_at mid n) ≡ Some len
len_kept old mid k n len h = ap (option_map (λ node. node.len)) (k n (go (slot_at old n) h)) ∙ h
  where
    go : (o : Option ArenaNode) → option_map (λ node. node.len) o ≡ Some len → IsSome o
    go None e = let bad : ◌≡◌ {A = Option ℕ} None (Some len) = e in absurd (cc)
    go (Some node) e = refl

pub sizes_kept : (old mid : Slots) → Keeps old mid → (zs : List Sized) → HaveSizes old zs → HaveSizes mid zs
sizes_kept old mid k [] h = tt
sizes_kept old mid k (z ∷ zs) h = (len_kept old mid k z.node z.len h.0, sizes_kept old mid k zs h.1)

-- a number without a node is none of the forest's
pub missing : (slots : Slots) (q n : ℕ) (sort : NodeWhat) → slot_at slots q ≡ None → HasSort slots n sort → q ≢ n
missing slots q n sort none h same =
    let bad : ◌≡◌ {A = Option NodeWhat} None (Some sort) = sym (ap (option_map (λ node. node.what)) none) ∙ ap (λ m. option_map (λ node. node.what) (slot_at slots m)) same ∙ h in
    absurd (cc)

pub none_missing : (slots : Slots) (q : ℕ) → slot_at slots q ≡ None → (f : Named) → HaveSorts slots f → Apart q (node_numbers f)
none_missing slots q none NoNode h = tt
none_missing slots q none (NamedRun n count later) h = (missing slots q n what.Run none h.0, none_missing slots q none later h.1)
none_missing slots q none (NamedBranch n kind inside later) h =
    (missing slots q n (what.Node kind) none h.0, apart-join q (node_numbers inside) (node_numbers later) (none_missing slots q none inside h.1) (none_missing slots q none later h.2))

-- a node that isn't freed stays
pub freed_other : (ns : List NodeId) (q : ℕ) (slot : Option ArenaNode) → Apart q (map number_of ns) → freed_slot ns q slot ≡ slot
freed_other [] q slot a = refl
freed_other (n ∷ ns) q slot a = ap (freed_slot ns q) (go (eqb n.0 q) refl) ∙ freed_other ns q slot a.1
  where
    go : (b : Bool) → eqb n.0 q ≡ b → ◌≡◌ {A = Option ArenaNode} (if b then None else slot) slot
    go true e = absurd (a.0 (sym (eqb-true n.0 q e)))
    go false e = refl

-- there is none under a freed number, and none where there was none
pub freed_none : (ns : List NodeId) (q : ℕ) (slot : Option ArenaNode) → (Apart q (map number_of ns) → slot ≡ None) → freed_slot ns q slot ≡ None
freed_none [] q slot h = h tt
freed_none (n ∷ ns) q slot h = go (eqb n.0 q) refl (λ s k. freed_none ns q s k)
  where
    go : (b : Bool) → eqb n.0 q ≡ b → ((s : Option ArenaNode) → (Apart q (map number_of ns) → s ≡ None) → freed_slot ns q s ≡ None) → freed_slot ns q (if b then None else slot) ≡ None
    go true e rest = rest None (λ _. refl)
    go false e rest = rest slot (λ a. h ((λ same. eqb-false n.0 q e (sym same)), a))

-- what a node is, by its label
by_label : (o : Option ArenaNode) → option_map (λ node. node.what) o ≡ sort_of (option_map label_of o)
by_label None = refl
by_label (Some node) = refl

pub written_sort : (mid written : Slots) (ws : List Write) (q : ℕ) → label_at written q ≡ label_all ws q (label_at mid q) →
    option_map (λ node. node.what) (slot_at written q) ≡ option_map (λ node. node.what) (slot_at mid q)
written_sort mid written ws q e = by_label (slot_at written q) ∙ ap sort_of e ∙ writes-sort ws q (label_at mid q) ∙ sym (by_label (slot_at mid q))

pub written_none : (mid written : Slots) (ws : List Write) (q : ℕ) → label_at written q ≡ label_all ws q (label_at mid q) → slot_at mid q ≡ None → slot_at written q ≡ None
written_none mid written ws q e none = go (slot_at written q) (written_sort mid written ws q e ∙ ap (option_map (λ node. node.what)) none)
  where
    go : (o : Option ArenaNode) → ◌≡◌ {A = Option NodeWhat} (option_map (λ node. node.what) o) None → o ≡ None
    go None h = refl
    go (Some node) h = let bad : ◌≡◌ {A = Option NodeWhat} (Some node.what) None = h in absurd (cc)

-- numbers of lists in two parts
first_part : (ns ms ks : List ℕ) → AllFrom (ns ++ ms) ks → AllFrom ns ks
first_part [] ms ks h = tt
first_part (n ∷ ns) ms ks h = (h.0, first_part ns ms ks h.1)

second_part : (ns ms ks : List ℕ) → AllFrom (ns ++ ms) ks → AllFrom ms ks
second_part [] ms ks h = h
second_part (n ∷ ns) ms ks h = second_part ns ms ks h.1

-- a forest's nodes, where each stays what it is, or as long
pub sorts_stay : (mid new : Slots) (gone : List ℕ) → ((q : ℕ) → Apart q gone → option_map (λ node. node.what) (slot_at new q) ≡ option_map (λ node. node.what) (slot_at mid q)) →
    (f : Named) → AllFrom (node_numbers f) gone → HaveSorts mid f → HaveSorts new f
sorts_stay mid new gone e NoNode a h = tt
sorts_stay mid new gone e (NamedRun n count later) a h = (e n a.0 ∙ h.0, sorts_stay mid new gone e later a.1 h.1)
sorts_stay mid new gone e (NamedBranch n kind inside later) a h = (
  e n a.0 ∙ h.0,
  sorts_stay mid new gone e inside (first_part (node_numbers inside) (node_numbers later) gone a.1) h.1,
  sorts_stay mid new gone e later (second_part (node_numbers inside) (node_numbers later) gone a.1) h.2,
)

pub sizes_stay : (written new : Slots) (gone : List ℕ) → ((q : ℕ) → Apart q gone → slot_at new q ≡ slot_at written q) →
    (f : Named) → AllFrom (node_numbers f) gone → HaveSizes written (forest_sizes f) → HaveSizes new (forest_sizes f)
sizes_stay written new gone e NoNode a h = tt
sizes_stay written new gone e (NamedRun n count later) a h = (ap (option_map (λ node. node.len)) (e n a.0) ∙ h.0, sizes_stay written new gone e later a.1 h.1)
sizes_stay written new gone e (NamedBranch n kind inside later) a h =
    let rest = record { node = n; len = item_count (unnumbered inside) + 2 } ∷ forest_sizes later in
    let back = have_behind written (forest_sizes inside) rest h in
    have_both new (forest_sizes inside) rest
    (sizes_stay written new gone e inside (first_part (node_numbers inside) (node_numbers later) gone a.1) (have_front written (forest_sizes inside) rest h)) (
      ap (option_map (λ node. node.len)) (e n a.0) ∙ back.0,
      sizes_stay written new gone e later (second_part (node_numbers inside) (node_numbers later) gone a.1) back.1,
    )
