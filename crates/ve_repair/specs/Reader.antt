-- The reader's state, and the effect of its steps.
use Rattle.std.specs.Prelude.{◌≡◌, ◌≤◌, ℕ, ◌+◌, ◌-◌, Bool, true, false, Option, Some, None, IsSome, List, [], ◌∷◌, ◌++◌, length, map, option_map}
use Rattle.ve_arena.specs.declared.node.NodeId.{NodeId}
use Rattle.ve_arena.specs.declared.node.NodeWhat.{NodeWhat}
use Rattle.ve_arena.specs.declared.node.NodeWhat.TheVariants as what
use Rattle.ve_arena.specs.declared.node.ArenaNode.{ArenaNode}
use Rattle.ve_arena.specs.Arena.{slot_at, IsLive, new_node}
use Rattle.ve_tree.specs.Links.{number_of, Apart, AllApart}
use Rattle.ve_tree.specs.Grown.{AllVacant}
use Rattle.ve_repair.specs.declared.script.How.TheVariants.{Keep, Cut, Put}
use Rattle.ve_repair.specs.declared.script.Step.{Step}
use Rattle.ve_repair.specs.declared.script.Step.TheVariants.{Enter, Text, Count}
use Rattle.ve_repair.specs.declared.cursor.Cursor.{Cursor}
use Rattle.ve_repair.specs.declared.read.TextRun.{TextRun}
use Rattle.ve_repair.specs.Frees.{nodes_of}
use Rattle.ve_repair.specs.Script.{is_seen, Running, NoRun, InRun}

pub record Reading : Type 0 where
  pub at : Cursor
  pub seen : Option NodeId
  pub run : Option TextRun
  pub script : List Step

-- the run as the script's definition has it
abbrev pub running_of : Option TextRun → Running
running_of None = NoRun
running_of (Some run) = InRun run.more (option_map number_of run.kept) run.any

-- how many letters it has
abbrev pub letters_in : Option TextRun → ℕ
letters_in None = 0
letters_in (Some run) = run.more + 1

abbrev pub with_cursor : Cursor → Reading → Reading
with_cursor at r = record { at = at; seen = r.seen; run = r.run; script = r.script }

abbrev pub with_steps : List Step → Reading → Reading
with_steps xs r = record { at = r.at; seen = r.seen; run = r.run; script = r.script ++ xs }

-- the step of a node that is made
abbrev pub put_step : NodeWhat → NodeId → Step
put_step what.Run n = Text Put n
put_step (what.Node kind) n = Enter Put n

-- the steps at a run's end; `text` is made where no text is kept
abbrev pub end_of : NodeId → Option NodeId → ℕ → List Step
end_of text None count = Text Put text ∷ Count text count ∷ []
end_of text (Some n) count = Count n count ∷ []

abbrev pub end_steps : NodeId → Option TextRun → List Step
end_steps text None = []
end_steps text (Some run) = end_of text run.kept (run.more + 1)

abbrev pub run_ended : List Step → Reading → Reading
run_ended xs r = record { at = r.at; seen = r.seen; run = None; script = r.script ++ xs }

-- the run has more letters
abbrev pub grown_run : ℕ → Option TextRun → TextRun
grown_run count None = record { more = count - 1; kept = None; any = false }
grown_run count (Some run) = record { more = run.more + count; kept = run.kept; any = run.any }

abbrev pub grown : ℕ → Reading → Reading
grown count r = record { at = r.at; seen = r.seen; run = Some (grown_run count r.run); script = r.script }

-- and some of them are those of a text
abbrev pub seen_in : NodeId → TextRun → Option NodeId → List Step → Reading → Reading
seen_in n run kept xs r = record { at = r.at; seen = Some n; run = Some (record { more = run.more; kept = kept; any = true }); script = r.script ++ xs }

abbrev pub first_seen : Bool → NodeId → TextRun → Reading → Reading
first_seen true n run r = seen_in n run run.kept (Text Cut n ∷ []) r
first_seen false n run r = seen_in n run (Some n) (Text Keep n ∷ []) r

abbrev pub kept_in : Bool → NodeId → Option TextRun → Reading → Reading
kept_in known n None r = r
kept_in true n (Some run) r = seen_in n run run.kept [] r
kept_in false n (Some run) r = first_seen run.any n run r

abbrev pub kept_text : NodeId → Reading → Reading
kept_text n r = kept_in (is_seen (option_map number_of r.seen) n.0) n r.run r

-- a text of which letters go
abbrev pub cut_steps : Bool → Bool → NodeId → List Step
cut_steps known false n = []
cut_steps true true n = []
cut_steps false true n = Text Cut n ∷ []

abbrev pub Slots : Type 0
Slots = List (Option ArenaNode)

-- every node is as it was
abbrev pub Keeps : List (Option ArenaNode) → List (Option ArenaNode) → Type 0
Keeps old new = (q : ℕ) → IsSome (slot_at old q) → slot_at new q ≡ slot_at old q

-- all of these are there
abbrev pub AreLive : List (Option ArenaNode) → List NodeId → Type 0
AreLive slots [] = Unit {0}
AreLive slots (n ∷ ns) = IsLive slots n × AreLive slots ns

-- These were made, and there are no others besides those that were there.
pub record HasMade (before now : List (Option ArenaNode)) (ns : List NodeId) : Type 0 where
  pub keeps : Keeps before now
  pub others : (q : ℕ) → Apart q (map number_of ns) → slot_at now q ≡ slot_at before q
  pub live : AreLive now ns
  pub apart : AllApart (map number_of ns)
  pub vacant : AllVacant before (map number_of ns)

-- where a script's nodes were made, those of the longer script are
abbrev pub MakesOn : List (Option ArenaNode) → List Step → List (Option ArenaNode) → List Step → Type 0
MakesOn old xs new ys = (before : List (Option ArenaNode)) → HasMade before old (nodes_of Put xs) → HasMade before new (nodes_of Put ys)

-- a script makes the same nodes as another
abbrev pub MakesSame : List Step → List Step → Type 0
MakesSame xs ys = nodes_of Put ys ≡ nodes_of Put xs

-- a step was taken for each node that was made,
abbrev pub IsPaid : ℕ → List Step → ℕ → List Step → Type 0
IsPaid old xs new ys = new + length (nodes_of Put xs) ≡ old + length (nodes_of Put ys)

-- or one more, where there was no memory for a node
abbrev pub IsPaidOrOne : ℕ → List Step → ℕ → List Step → Type 0
IsPaidOrOne old xs new ys = (new + length (nodes_of Put xs) ≤ old + length (nodes_of Put ys) + 1) × (old + length (nodes_of Put ys) ≤ new + length (nodes_of Put xs))

-- the text at a run's end, where it is made
abbrev pub IsMadeText : List (Option ArenaNode) → NodeId → Option NodeId → Type 0
IsMadeText slots text None = slot_at slots text.0 ≡ Some (new_node what.Run)
IsMadeText slots text (Some n) = Unit {0}

abbrev pub IsEndText : List (Option ArenaNode) → NodeId → Option TextRun → Type 0
IsEndText slots text None = Unit {0}
IsEndText slots text (Some run) = IsMadeText slots text run.kept

-- The run ended, and then steps came.
pub record RunEnds (old new : List (Option ArenaNode)) (r0 : Reading) (xs : List Step) (r1 : Reading) : Type 0 where
  pub text : NodeId
  pub reader : r1 ≡ run_ended (end_steps text r0.run ++ xs) r0
  pub made : IsEndText new text r0.run
  pub keeps : Keeps old new
