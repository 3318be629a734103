-- Attribute operations with their positions, as one pass along the operations finds them. No value
-- that the operations cite is read, and no position.
use Rattle.std.specs.Prelude.{◌≡◌, ℕ, ◌+◌, ◌≤◌, Bool, false, ◌&&◌, ◌||◌, nat_lt, if◌then◌else◌, List, [], ◌∷◌, length, drop, Option, None}
use Rattle.model_items.specs.Same.{text_same}
use Rattle.model_change.specs.Attributes.{AttrChange, adds_or_removes}
use Rattle.model_change.specs.Join.{meets_one, some_meet}
use Rattle.ve_tx.specs.declared.op.Op.{Op}
use Rattle.ve_tx.specs.declared.op.Op.TheVariants.{Retain, Replace, Attribute}
use Rattle.ve_rebase.specs.declared.places.Cursor.{Cursor}

-- how many old items an operation passes
abbrev pub passes : Op → ℕ
passes (Retain count) = count
passes (Replace removed inserted) = length removed
passes (Attribute name from to) = 0

abbrev pub change_of : List ℕ → Option (List ℕ) → Option (List ℕ) → AttrChange
change_of name from to = record { name = name; from = from; to = to; kept = None }

-- the changes with their positions, from a position on
abbrev pub places : ℕ → List Op → List (ℕ × AttrChange)
places at [] = []
places at (Retain count ∷ ops) = places (at + count) ops
places at (Replace removed inserted ∷ ops) = places (at + length removed) ops
places at (Attribute name from to ∷ ops) = (at, change_of name from to) ∷ places at ops

-- an operation's change, if it has one, before the others
abbrev pub placed : ℕ → Op → List (ℕ × AttrChange) → List (ℕ × AttrChange)
placed at (Retain count) cs = cs
placed at (Replace removed inserted) cs = cs
placed at (Attribute name from to) cs = (at, change_of name from to) ∷ cs

-- a change of this name, which adds or removes or doesn't, meets one of those at the first position
-- of the operations
abbrev pub meets_first : List ℕ → Bool → List Op → Bool
meets_first name moves [] = false
meets_first name moves (Retain count ∷ ops) = if nat_lt 0 count then false else meets_first name moves ops
meets_first name moves (Replace removed inserted ∷ ops) = if nat_lt 0 (length removed) then false else meets_first name moves ops
meets_first name moves (Attribute other from to ∷ ops) =
    (text_same name other || (moves && adds_or_removes (change_of other from to))) || meets_first name moves ops

-- no change stands before a position
abbrev pub AllFrom : ℕ → List (ℕ × AttrChange) → Type 0
AllFrom n [] = Unit {0}
AllFrom n (c ∷ cs) = (n ≤ c.0) × AllFrom n cs

-- the operations after the first retain
abbrev pub after_first : List Op → List Op
after_first (Retain count ∷ ops) = ops
after_first [] = []
after_first (Replace removed inserted ∷ ops) = Replace removed inserted ∷ ops
after_first (Attribute name from to ∷ ops) = Attribute name from to ∷ ops

-- the changes of the operations that a cursor has not passed, with their positions
abbrev pub ahead : Cursor → List Op → List (ℕ × AttrChange)
ahead cursor ops = places cursor.at (drop cursor.passed ops)

-- no change from a position on meets one that lies between two cursors
abbrev pub SkipsNone : ℕ → List Op → Cursor → Cursor → Type 0
SkipsNone to ops before after = (cs : List (ℕ × AttrChange)) → AllFrom to cs → some_meet cs (ahead before ops) ≡ some_meet cs (ahead after ops)

-- whether a change of this name at a position, which adds or removes or doesn't, meets one of these
abbrev pub TellsMeeting : List ℕ → Bool → ℕ → List (ℕ × AttrChange) → Bool → Type 0
TellsMeeting name moves at cs answer =
    (from to : Option (List ℕ)) → moves ≡ adds_or_removes (change_of name from to) → answer ≡ meets_one (at, change_of name from to) cs

-- whether an operation's change meets one ahead is told, and what is ahead of the new cursor serves
-- the changes after it
abbrev pub TellsPassing : ℕ → Op → List Op → Cursor → Cursor × Bool → Type 0
TellsPassing at op others before answer =
    (cs : List (ℕ × AttrChange)) → AllFrom at cs → some_meet (placed at op cs) (ahead before others) ≡ (answer.1 || some_meet cs (ahead answer.0 others))
