-- How many nodes a reader has made where it stops for want of memory.
use Rattle.std.specs.Prelude.{◌≤◌, ℕ, ◌+◌, Option, Some, None, List, [], ◌++◌, length, map, replicate}
use Rattle.ve_arena.specs.declared.node.NodeId.{NodeId}
use Rattle.model_items.specs.declared.item.Item.{Item}
use Rattle.ve_tx.specs.declared.op.Op.{Op}
use Rattle.ve_tx.specs.Checked.{old_size}
use Rattle.ve_repair.specs.declared.read.TextRun.{TextRun}
use Rattle.ve_repair.specs.declared.script.Step.{Step}
use Rattle.ve_repair.specs.Acts.{Act, Stay, Go, ComeLetter, ComeBegin, ComeEnd, marks, come, acts_of}
use Rattle.ve_repair.specs.Charged.{made_count}
use Rattle.ve_repair.specs.declared.cursor.Passed.{Passed}
use Rattle.ve_arena.specs.declared.node.ArenaNode.{ArenaNode}
use Rattle.ve_repair.specs.Courses.{Course, HasRead, with_stays}
use Rattle.ve_repair.specs.Cursors.{past, items_in, IsPassed}
use Rattle.ve_repair.specs.Reader.{Reading}
use Rattle.ve_repair.specs.Script.{script_for, first_reader}
use Rattle.ve_repair.specs.Spelled.{Sign, NoLetters, Proper}
use Rattle.ve_repair.specs.Tokens.{puts}

-- an act without the number of the node that comes
abbrev pub unnumbered_act : Act → Act
unnumbered_act Stay = Stay
unnumbered_act Go = Go
unnumbered_act ComeLetter = ComeLetter
unnumbered_act (ComeBegin n kind) = ComeBegin 0 kind
unnumbered_act (ComeEnd kind) = ComeEnd kind

-- how many nodes are made for acts over signs, whatever numbers they get
abbrev pub makes_of : List Act → List Sign → ℕ
makes_of acts ss = length (puts (script_for (λ k. 0) (marks (map unnumbered_act acts) ss) (first_reader 0)))

-- A script has no more nodes that are made than that of these acts behind the course has, whatever
-- comes later.
abbrev pub IsPart : Course → List Act → List Step → Type 0
IsPart c acts xs = (later : List Act) → made_count xs ≤ makes_of (c.acts ++ (acts ++ later)) c.start.rest

-- so too where what the cursor passed stays
abbrev pub StopsAtPassed : List (Option ArenaNode) → Reading → Passed → List Step → Type 0
StopsAtPassed before was passed xs =
    (c : Course) (most : ℕ) → HasRead c before was → IsPassed before most c.spot passed → IsPart c (replicate passed.count Stay) xs

-- so too where so many items go, and these come in their place
abbrev pub StopsAtReplace : List (Option ArenaNode) → Reading → ℕ → List Item → List Step → Type 0
StopsAtReplace before was removed inserted xs =
    (c : Course) → HasRead c before was → removed ≤ items_in c.spot.rest → IsPart c (replicate removed Go ++ come inserted []) xs

-- or than that of operations, up to the end of the text that they end in
pub record IsPartEnd (ops : List Op) (c : Course) (xs : List Step) : Type 0 where
  pub tail : ℕ
  pub few : tail ≤ items_in (past (old_size ops) c.spot).rest
  pub whole : NoLetters (past tail (past (old_size ops) c.spot)).rest
  pub part : made_count xs ≤ makes_of ((c.acts ++ acts_of ops []) ++ replicate tail Stay) c.start.rest

-- where no text to come is empty
abbrev pub IsPartOut : List Op → Course → List Step → Type 0
IsPartOut ops c xs = Proper (past (old_size ops) c.spot).rest → IsPartEnd ops c xs

-- Wherever the reader was, with enough items there for those in front and for the operations, it
-- stopped among these.
abbrev pub StopsAmong : List (Option ArenaNode) → Reading → ℕ → List Op → List Step → Type 0
StopsAmong before was front ops xs =
    (c : Course) → HasRead c before was → front + old_size ops ≤ items_in c.spot.rest → IsPartOut ops (with_stays front c) xs

-- a text is made where a run ends that keeps none
abbrev pub made_at_end : Option NodeId → ℕ
made_at_end None = 1
made_at_end (Some n) = 0

abbrev pub made_by : Option TextRun → ℕ
made_by None = 0
made_by (Some run) = made_at_end run.kept

abbrev pub made_when_ended : Reading → ℕ
made_when_ended r = made_count r.script + made_by r.run
