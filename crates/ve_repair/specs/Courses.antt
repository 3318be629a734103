-- The part of a tree that a reader has read. Its script so far is the one of the acts so far.
use Rattle.std.specs.Prelude.{◌≡◌, ◌≤◌, ◌<◌, ℕ, zero, suc, ◌+◌, ◌^◌, Option, Some, None, unwrap_or, List, [], ◌∷◌, ◌++◌, length, replicate, option_map}
use Rattle.model_items.specs.declared.item.Item.{Item}
use Rattle.model_items.specs.declared.item.Item.TheVariants as item
use Rattle.ve_arena.specs.declared.node.NodeWhat.TheVariants as what
use Rattle.ve_arena.specs.declared.node.ArenaNode.{ArenaNode}
use Rattle.ve_arena.specs.Arena.{slot_at, new_node}
use Rattle.ve_tree.specs.Links.{number_of}
use Rattle.ve_tx.specs.declared.op.Op.{Op}
use Rattle.ve_tx.specs.declared.op.Op.TheVariants.{Retain, Replace, Attribute}
use Rattle.ve_tx.specs.Checked.{old_size}
use Rattle.ve_repair.specs.Work as W
use Rattle.ve_repair.specs.Agree.{steps_of}
use Rattle.ve_repair.specs.Spelled.{NoLetters}
use Rattle.ve_repair.specs.Script.{ChangeReader, script_for, first_reader}
use Rattle.ve_repair.specs.Acts.{Act, Stay, Go, ComeLetter, ComeBegin, ComeEnd, marks, come, acts_of}
use Rattle.ve_repair.specs.declared.cursor.Passed.{Passed}
use Rattle.ve_repair.specs.Cursors.{Spot, past, items_in, IsAt, IsPassed}
use Rattle.ve_repair.specs.Reader.{Reading, running_of, letters_in}

-- A step ends a run of the new list, makes a text, or does neither.
pub data Part : Type 0 where
  Ends : Part
  Makes : (n : ℕ) → Part
  Passes : Part

abbrev pub part_of : W.Step → Part
part_of (W.Enter W.Keep n) = Ends
part_of (W.Enter W.Drop n) = Passes
part_of (W.Enter W.Put n) = Ends
part_of (W.Leave W.Keep) = Ends
part_of (W.Leave W.Drop) = Passes
part_of (W.Leave W.Put) = Ends
part_of (W.Text W.Keep n) = Passes
part_of (W.Text W.Drop n) = Passes
part_of (W.Text W.Put n) = Makes n
part_of (W.Count n count) = Passes

-- how many runs ended
abbrev pub ends_by : Part → ℕ → ℕ
ends_by Ends k = suc k
ends_by (Makes n) k = k
ends_by Passes k = k

abbrev pub ends_in : List W.Step → ℕ
ends_in [] = 0
ends_in (s ∷ ss) = ends_by (part_of s) (ends_in ss)

-- the text that was made at a run's end
abbrev pub text_by : Part → (ℕ → Option ℕ) → ℕ → Option ℕ
text_by Ends later zero = None
text_by Ends later (suc k) = later k
text_by (Makes n) later zero = Some n
text_by (Makes n) later (suc k) = later (suc k)
text_by Passes later k = later k

abbrev pub text_at : List W.Step → ℕ → Option ℕ
text_at [] k = None
text_at (s ∷ ss) k = text_by (part_of s) (text_at ss) k

abbrev pub supply_of : List W.Step → ℕ → ℕ
supply_of ss k = unwrap_or (text_at ss k) 0

-- none was made since the last end
abbrev pub IsFresh : List W.Step → Type 0
IsFresh ss = text_at ss (ends_in ss) ≡ None

abbrev pub reader_of : Reading → ChangeReader
reader_of r = record { seen = option_map number_of r.seen; run = running_of r.run; made = ends_in (steps_of r.script) }

-- how many items of the old list acts are of
abbrev pub old_count : List Act → ℕ
old_count [] = 0
old_count (Stay ∷ acts) = suc (old_count acts)
old_count (Go ∷ acts) = suc (old_count acts)
old_count (ComeLetter ∷ acts) = old_count acts
old_count (ComeBegin n kind ∷ acts) = old_count acts
old_count (ComeEnd kind ∷ acts) = old_count acts

-- the nodes that come were made
abbrev pub AreBegun : List (Option ArenaNode) → List Act → Type 0
AreBegun slots [] = Unit {0}
AreBegun slots (Stay ∷ acts) = AreBegun slots acts
AreBegun slots (Go ∷ acts) = AreBegun slots acts
AreBegun slots (ComeLetter ∷ acts) = AreBegun slots acts
AreBegun slots (ComeBegin n kind ∷ acts) = (slot_at slots n ≡ Some (new_node (what.Node kind))) × AreBegun slots acts
AreBegun slots (ComeEnd kind ∷ acts) = AreBegun slots acts

-- and so were the texts
abbrev pub IsText : List (Option ArenaNode) → Part → Type 0
IsText slots Ends = Unit {0}
IsText slots (Makes n) = slot_at slots n ≡ Some (new_node what.Run)
IsText slots Passes = Unit {0}

abbrev pub AreTexts : List (Option ArenaNode) → List W.Step → Type 0
AreTexts slots [] = Unit {0}
AreTexts slots (s ∷ ss) = IsText slots (part_of s) × AreTexts slots ss

-- from where to where was read, what was done, and what letters and items still to come may add up
-- to
pub record Course : Type 0 where
  pub start : Spot
  pub acts : List Act
  pub spot : Spot
  pub bound : ℕ

-- The reader is at the position, and whatever acts and steps come later, its script is the
-- beginning of the script of all acts.
pub record HasRead (c : Course) (slots : List (Option ArenaNode)) (r : Reading) : Type 0 where
  pub at : IsAt slots r.at c.spot
  pub script : (more : List W.Step) (later : List Act) →
      script_for (supply_of (steps_of r.script ++ more)) (marks (c.acts ++ later) c.start.rest) (first_reader 0)
      ≡ steps_of r.script ++ script_for (supply_of (steps_of r.script ++ more)) (marks later c.spot.rest) (reader_of r)
  pub fresh : IsFresh (steps_of r.script)
  pub fits : letters_in r.run + items_in c.spot.rest ≤ c.bound
  pub spot_is : c.spot ≡ past (old_count c.acts) c.start
  pub begun : AreBegun slots c.acts
  pub texts : AreTexts slots (steps_of r.script)

-- so many items more stay, go, or come
abbrev pub with_acts : List Act → ℕ → ℕ → Course → Course
with_acts acts count more c = record { start = c.start; acts = c.acts ++ acts; spot = past count c.spot; bound = c.bound + more }

abbrev pub with_stays : ℕ → Course → Course
with_stays count c = with_acts (replicate count Stay) count 0 c

abbrev pub with_gone : ℕ → Course → Course
with_gone count c = with_acts (replicate count Go) count 0 c

-- Wherever the reader was, what the cursor passed there stays.
abbrev pub RetainsPassed : List (Option ArenaNode) → Reading → Passed → List (Option ArenaNode) → Reading → Type 0
RetainsPassed before was passed after is =
    (c : Course) (most : ℕ) → HasRead c before was → IsPassed before most c.spot passed → HasRead (with_stays passed.count c) after is

-- the passed token goes, wherever the cursor is
abbrev pub RemovesPassed : Reading → Passed → Reading → Type 0
RemovesPassed was passed is =
    (c : Course) (slots : List (Option ArenaNode)) (most : ℕ) → HasRead c slots was → IsPassed slots most c.spot passed → HasRead (with_gone passed.count c) slots is

-- there is a position, so many items follow, and so many may come
pub record IsReading (slots : List (Option ArenaNode)) (r : Reading) (count more : ℕ) : Type 0 where
  pub course : Course
  pub read : HasRead course slots r
  pub enough : count ≤ items_in course.spot.rest
  pub room : course.bound + more < 2 ^ 64

-- how many of the items are openings
abbrev pub openings : List Item → ℕ
openings [] = 0
openings (item.Char ch marks ∷ items) = openings items
openings (item.Opening kind generated head marks pre origin ∷ items) = suc (openings items)
openings (item.Closing kind pre ∷ items) = openings items

-- items came, with numbers for their openings
pub record HaveCome (items : List Item) (c : Course) (slots : List (Option ArenaNode)) (r : Reading) : Type 0 where
  pub numbers : List ℕ
  pub counted : length numbers ≡ openings items
  pub read : HasRead (with_acts (come items numbers) 0 (length items) c) slots r

-- how many items an operation inserts
abbrev pub come_of : Op → ℕ
come_of (Retain count) = 0
come_of (Replace removed inserted) = length inserted
come_of (Attribute name from to) = 0

-- and operations, and how many of these are openings
abbrev pub come_size : List Op → ℕ
come_size [] = 0
come_size (op ∷ ops) = come_of op + come_size ops

abbrev pub all_openings : List Op → ℕ
all_openings [] = 0
all_openings (Retain count ∷ ops) = all_openings ops
all_openings (Replace removed inserted ∷ ops) = openings inserted + all_openings ops
all_openings (Attribute name from to ∷ ops) = all_openings ops

-- operations were read
pub record AreDone (ops : List Op) (c : Course) (slots : List (Option ArenaNode)) (r : Reading) : Type 0 where
  pub numbers : List ℕ
  pub counted : length numbers ≡ all_openings ops
  pub read : HasRead (with_acts (acts_of ops numbers) (old_size ops) (come_size ops) c) slots r

-- All that was to be read was read, up to the end of the text that the cursor was in: the script is
-- whole.
pub record IsReadOut (c : Course) (slots : List (Option ArenaNode)) (r : Reading) : Type 0 where
  pub tail : ℕ
  pub few : tail ≤ items_in c.spot.rest
  pub at : IsAt slots r.at (past tail c.spot)
  pub whole : NoLetters (past tail c.spot).rest
  pub script : steps_of r.script ≡ script_for (supply_of (steps_of r.script)) (marks (c.acts ++ replicate tail Stay) c.start.rest) (first_reader 0)
  pub begun : AreBegun slots (c.acts ++ replicate tail Stay)
  pub texts : AreTexts slots (steps_of r.script)
  pub spot_is : past tail c.spot ≡ past (old_count (c.acts ++ replicate tail Stay)) c.start

-- and so were the operations before it
pub record AreReadOut (ops : List Op) (c : Course) (slots : List (Option ArenaNode)) (r : Reading) : Type 0 where
  pub numbers : List ℕ
  pub counted : length numbers ≡ all_openings ops
  pub read : IsReadOut (with_acts (acts_of ops numbers) (old_size ops) (come_size ops) c) slots r

-- Wherever the reader was, with enough items there for those in front and for the operations, all
-- of them were read.
abbrev pub ReadsOut : List (Option ArenaNode) → Reading → ℕ → List Op → List (Option ArenaNode) → Reading → Type 0
ReadsOut before was front ops after is =
    (c : Course) → HasRead c before was → front + old_size ops ≤ items_in c.spot.rest → AreReadOut ops (with_stays front c) after is
