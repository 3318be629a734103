-- The nodes that a script puts into the new list, in an arena that has them and is otherwise as
-- before.
use Rattle.std.specs.Prelude.{◌≡◌, ℕ, Option, List, [], ◌∷◌, map}
use Rattle.ve_arena.specs.declared.node.NodeWhat.TheVariants as what
use Rattle.ve_arena.specs.declared.node.ArenaNode.{ArenaNode}
use Rattle.ve_arena.specs.Arena.{slot_at}
use Rattle.ve_tree.specs.Links.{Apart, AllApart, number_of}
use Rattle.ve_tree.specs.Grown.{AllVacant}
use Rattle.ve_repair.specs.declared.script.How.TheVariants.{Put}
use Rattle.ve_repair.specs.declared.script.Step.{Step}
use Rattle.ve_repair.specs.Work as W
use Rattle.ve_repair.specs.Spelled.{Sign, BeginOf, LettersOf, EndOf}
use Rattle.ve_repair.specs.Script.{script_for, signs_for, first_reader}
use Rattle.ve_repair.specs.Sizes.{HasSort}
use Rattle.ve_repair.specs.Acts.{Act, Stay, Go, ComeLetter, ComeBegin, ComeEnd, marks}
use Rattle.ve_repair.specs.Reader.{AreLive}
use Rattle.ve_repair.specs.Frees.{nodes_of, IsFreed}

abbrev pub put_numbers : List Step → List ℕ
put_numbers script = map number_of (nodes_of Put script)

-- those nodes are there now, each under a number of its own that had none, and every other is as it
-- was
pub record MadeFor (old new : List (Option ArenaNode)) (script : List Step) : Type 0 where
  pub live : AreLive new (nodes_of Put script)
  pub apart : AllApart (put_numbers script)
  pub vacant : AllVacant old (put_numbers script)
  pub others : (q : ℕ) → Apart q (put_numbers script) → slot_at new q ≡ slot_at old q

-- Freed again, they leave what there was.
abbrev pub MadeAreUndone : Type 0
MadeAreUndone = (old new after : List (Option ArenaNode)) (script : List Step) → MadeFor old new script → IsFreed new after (nodes_of Put script) → (q : ℕ) → slot_at after q ≡ slot_at old q

-- the nodes of signs are what the signs say
abbrev pub SignsHaveSorts : List (Option ArenaNode) → List Sign → Type 0
SignsHaveSorts slots [] = Unit {0}
SignsHaveSorts slots (BeginOf n kind ∷ ss) = HasSort slots n (what.Node kind) × SignsHaveSorts slots ss
SignsHaveSorts slots (LettersOf n count ∷ ss) = HasSort slots n what.Run × SignsHaveSorts slots ss
SignsHaveSorts slots (EndOf kind ∷ ss) = SignsHaveSorts slots ss

-- the nodes that come are of their kinds
abbrev pub ComeWithSorts : List (Option ArenaNode) → List Act → Type 0
ComeWithSorts slots [] = Unit {0}
ComeWithSorts slots (Stay ∷ acts) = ComeWithSorts slots acts
ComeWithSorts slots (Go ∷ acts) = ComeWithSorts slots acts
ComeWithSorts slots (ComeLetter ∷ acts) = ComeWithSorts slots acts
ComeWithSorts slots (ComeBegin n kind ∷ acts) = HasSort slots n (what.Node kind) × ComeWithSorts slots acts
ComeWithSorts slots (ComeEnd kind ∷ acts) = ComeWithSorts slots acts

-- and the texts that a script puts are texts
abbrev pub TextsAreRuns : List (Option ArenaNode) → List W.Step → Type 0
TextsAreRuns slots [] = Unit {0}
TextsAreRuns slots (W.Enter how n ∷ xs) = TextsAreRuns slots xs
TextsAreRuns slots (W.Leave how ∷ xs) = TextsAreRuns slots xs
TextsAreRuns slots (W.Text W.Keep n ∷ xs) = TextsAreRuns slots xs
TextsAreRuns slots (W.Text W.Drop n ∷ xs) = TextsAreRuns slots xs
TextsAreRuns slots (W.Text W.Put n ∷ xs) = HasSort slots n what.Run × TextsAreRuns slots xs
TextsAreRuns slots (W.Count n count ∷ xs) = TextsAreRuns slots xs

-- Then all nodes of the script's new side are what they are to be.
abbrev pub NewSideHasSorts : Type 0
NewSideHasSorts = (slots : List (Option ArenaNode)) (supply : ℕ → ℕ) (acts : List Act) (ss : List Sign) → SignsHaveSorts slots ss → ComeWithSorts slots acts →
    TextsAreRuns slots (script_for supply (marks acts ss) (first_reader 0)) → SignsHaveSorts slots (signs_for supply (marks acts ss) (first_reader 0))
