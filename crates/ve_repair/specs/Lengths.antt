-- The lengths that the writes of a script leave are those of the new tree.
use Rattle.std.specs.Prelude.{◌≡◌, ℕ, Option, Some, None, List, [], ◌∷◌, ◌++◌, map, option_map}
use Rattle.ve_kinds.specs.declared.kind.Kind.TheVariants.{Root}
use Rattle.ve_arena.specs.declared.node.ArenaNode.{ArenaNode}
use Rattle.ve_arena.specs.Arena.{slot_at}
use Rattle.ve_tree.specs.Links.{Apart, AllApart}
use Rattle.ve_tree.specs.Named.{Named, node_numbers}
use Rattle.ve_repair.specs.declared.write.Write.{Write}
use Rattle.ve_repair.specs.declared.script.Step.{Step}
use Rattle.ve_repair.specs.declared.sizes.OpenFrom.{OpenFrom}
use Rattle.ve_repair.specs.Work as W
use Rattle.ve_repair.specs.Tokens.{old_side}
use Rattle.ve_repair.specs.Spelled.{Sign, BeginOf, LettersOf, EndOf, token_of}
use Rattle.ve_repair.specs.Labels.{label_at}
use Rattle.ve_repair.specs.Writes.{label_all}
use Rattle.ve_repair.specs.Sizes.{Begun, sizes, open_after, place_after, signs_of, HaveSizes}
use Rattle.ve_repair.specs.Agree.{steps_of}
use Rattle.ve_repair.specs.Sizing.{Sizing, sized_all, sizes_writes, open_writes}

-- signs without their kinds, which lengths don't go by
abbrev pub kindless : List Sign → List Sign
kindless [] = []
kindless (BeginOf n kind ∷ ss) = BeginOf n Root ∷ kindless ss
kindless (LettersOf n count ∷ ss) = LettersOf n count ∷ kindless ss
kindless (EndOf kind ∷ ss) = EndOf Root ∷ kindless ss

-- the signs that a script makes: a text stands where it is counted
abbrev pub new_signs : List W.Step → List Sign
new_signs [] = []
new_signs (W.Enter W.Keep n ∷ xs) = BeginOf n Root ∷ new_signs xs
new_signs (W.Enter W.Drop n ∷ xs) = new_signs xs
new_signs (W.Enter W.Put n ∷ xs) = BeginOf n Root ∷ new_signs xs
new_signs (W.Leave W.Keep ∷ xs) = EndOf Root ∷ new_signs xs
new_signs (W.Leave W.Drop ∷ xs) = new_signs xs
new_signs (W.Leave W.Put ∷ xs) = EndOf Root ∷ new_signs xs
new_signs (W.Text how n ∷ xs) = new_signs xs
new_signs (W.Count n count ∷ xs) = LettersOf n count ∷ new_signs xs

abbrev pub begun_of : OpenFrom → Begun
begun_of b = record { node = b.node.0; from = b.from }

abbrev pub under_root : ℕ → List Begun
under_root root = record { node = root; from = 0 } ∷ []

-- both lists are at the start of a range
pub record StartsAt (root : ℕ) (lefts : List Sign) (s : Sizing) : Type 0 where
  pub old_levels : map begun_of s.old_open ≡ open_after lefts (under_root root) 0
  pub new_levels : map begun_of s.new_open ≡ open_after lefts (under_root root) 0
  pub old_place : s.old_at ≡ place_after lefts 0
  pub new_place : s.new_at ≡ place_after lefts 0

-- for a script and for what is open at its end
abbrev pub whole_writes : List (Option ArenaNode) → List Step → Sizing → List Write
whole_writes slots xs s =
    sizes_writes slots xs s
    ++ open_writes slots (sized_all slots xs s).old_open (sized_all slots xs s).new_open (sized_all slots xs s).old_at (sized_all slots xs s).new_at

-- The script leads from one forest to the other. Its old side is a piece of the first, between two
-- parts that stay, and its new side one of the second.
pub record LeadsOn (old new : Named) (lefts ss news rights : List Sign) (xs : List Step) : Type 0 where
  pub old_signs : signs_of old ≡ lefts ++ (ss ++ rights)
  pub new_signs_are : signs_of new ≡ lefts ++ (news ++ rights)
  pub passes : old_side (steps_of xs) [] ≡ map token_of ss
  pub makes : new_signs (steps_of xs) ≡ kindless news

-- the nodes have the forest's lengths, and the root's is all
pub record HaveLengths (slots : List (Option ArenaNode)) (root : ℕ) (f : Named) : Type 0 where
  pub nodes : HaveSizes slots (sizes (signs_of f) [] 0)
  pub all : option_map (λ node. node.len) (slot_at slots root) ≡ Some (place_after (signs_of f) 0)

-- From the lengths of the old forest the writes lead to those of the new one, where its nodes are
-- there and distinct.
abbrev pub LengthsAreWritten : Type 0
LengthsAreWritten = (slots after : List (Option ArenaNode)) (root : ℕ) (old new : Named) (lefts ss news rights : List Sign) (xs : List Step) (s : Sizing) →
    LeadsOn old new lefts ss news rights xs → StartsAt root lefts s → HaveLengths slots root old →
    AllApart (root ∷ node_numbers new) → ((q : ℕ) → slot_at slots q ≡ None → Apart q (root ∷ node_numbers new)) →
    ((q : ℕ) → label_at after q ≡ label_all (whole_writes slots xs s) q (label_at slots q)) →
    HaveLengths after root new
