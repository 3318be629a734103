-- Which items may stand where: a state that each item moves on, and the verdict over a whole list.
-- The rules are this project's own.
use Rattle.std.specs.Prelude.{◌≡◌, ◌≢◌, ℕ, ◌+◌, ◌≤◌, Bool, true, false, not, ◌&&◌, ◌||◌, if◌then◌else◌, nat_lt, List, [], ◌∷◌, ◌++◌, length, Option, Some, None, Result, Ok, Err}
use Rattle.ve_base.specs.Limits.{max_open_kinds}
use Rattle.ve_kinds.specs.declared.kind.Kind.{Kind}
use Rattle.ve_kinds.specs.declared.kind.Kind.TheVariants.{Root, InternalList}
use Rattle.ve_base.specs.declared.value.Value.{Value}
use Rattle.model_items.specs.declared.item.Item.{Item}
use Rattle.model_items.specs.declared.plain_item.PlainItem.{PlainItem}
use Rattle.model_items.specs.declared.plain_item.PlainItem.TheVariants.{Char, Opening, Closing}
use Rattle.ve_kinds.specs.Table.{kind_same, may_hold, is_content_branch}
use Rattle.model_items.specs.Plain.{plain_list}
use Rattle.model_items.specs.declared.law_fault.LawFault.{LawFault}
use Rattle.model_items.specs.declared.law_fault.LawFault.TheVariants.{Unlawful, TooDeep}

-- the open kinds, innermost first, the root not counted; and whether the internal list was opened
pub record State : Type 0 where
  pub stack : List Kind
  pub seen : Bool

abbrev pub start : State
start = record { stack = []; seen = false }

abbrev pub finish : State
finish = record { stack = []; seen = true }

-- the innermost open kind
abbrev pub top : List Kind → Kind
top [] = Root
top (k ∷ outer) = k

abbrev pub is_empty : List Kind → Bool
is_empty [] = true
is_empty (k ∷ outer) = false

-- the internal list was opened and closed, and nothing may follow
abbrev pub is_over : State → Bool
is_over s = is_empty s.stack && s.seen

-- A kind may be opened in a node that may hold it. The internal list opens once, outside all nodes;
-- where it is closed again nothing else opens.
abbrev pub may_open : State → Kind → Bool
may_open s k =
    may_hold (top s.stack) k
    && (if kind_same k InternalList then is_empty s.stack && not s.seen else not (is_over s))

-- an opening goes on top, where it may and is not one too many
abbrev pub state_opened : State → Kind → Result State LawFault
state_opened s k =
    if may_open s k
    then (if nat_lt (length s.stack) max_open_kinds
    then Ok (record { stack = k ∷ s.stack; seen = s.seen || kind_same k InternalList })
    else Err (TooDeep 0))
    else Err (Unlawful 0)

-- a closing takes its kind off the top
abbrev pub state_closed : List Kind → Bool → Kind → Result State LawFault
state_closed [] seen k = Err (Unlawful 0)
state_closed (inner ∷ outer) seen k = if kind_same inner k then Ok (record { stack = outer; seen = seen }) else Err (Unlawful 0)

-- The state after one item, or why it is not allowed, with position 0. A character needs a content
-- branch round it.
abbrev pub step : State → PlainItem → Result State LawFault
step s (Char c marks) = if is_content_branch (top s.stack) then Ok s else Err (Unlawful 0)
step s (Opening kind head marks pre origin generated) = state_opened s kind
step s (Closing kind pre) = state_closed s.stack s.seen kind

abbrev pub fault_place : LawFault → ℕ
fault_place (Unlawful at) = at
fault_place (TooDeep at) = at

-- the same offence n positions on
abbrev pub fault_moved : ℕ → LawFault → LawFault
fault_moved n (Unlawful at) = Unlawful (n + at)
fault_moved n (TooDeep at) = TooDeep (n + at)

abbrev pub outcome_moved : ℕ → Result State LawFault → Result State LawFault
outcome_moved n (Ok s) = Ok s
outcome_moved n (Err fault) = Err (fault_moved n fault)

-- the outcome of n items, and then of the rest
abbrev pub outcome_then : ℕ → Result State LawFault → (State → Result State LawFault) → Result State LawFault
outcome_then n (Err fault) rest = Err fault
outcome_then n (Ok s) rest = outcome_moved n (rest s)

-- the state after the items, or the first offence, with its position counted from where they begin
abbrev pub after : State → List PlainItem → Result State LawFault
after s [] = Ok s
after s (item ∷ items) = outcome_then 1 (step s item) (λ next. after next items)

-- a list ends well with all nodes closed and the internal list seen
abbrev pub verdict_at : ℕ → Result State LawFault → Option LawFault
verdict_at end (Err fault) = Some fault
verdict_at end (Ok s) = if is_over s then None else Some (Unlawful end)

-- the first offence of a whole list, if there is one
abbrev pub verdict : List PlainItem → Option LawFault
verdict items = verdict_at (length items) (after start items)

abbrev pub Lawful : List PlainItem → Type 0
Lawful items = verdict items ≡ None

-- The verdict names the first offence. Either all items before it may be gone through, and the item
-- there may not. Or all may, and the list ends in the wrong state.
pub data IsFirstOffence (items : List PlainItem) (fault : LawFault) : Type 0 where
  AtItem : (prefix suffix : List PlainItem) (item : PlainItem) (s : State) (f : LawFault) → items ≡ prefix ++ (item ∷ suffix) →
      after start prefix ≡ Ok s → step s item ≡ Err f → fault ≡ fault_moved (length prefix) f → IsFirstOffence items fault
  AtEnd : (s : State) → after start items ≡ Ok s → is_over s ≡ false → fault ≡ Unlawful (length items) → IsFirstOffence items fault

abbrev pub VerdictIsFirstOffence : Type 0
VerdictIsFirstOffence = (items : List PlainItem) (fault : LawFault) → verdict items ≡ Some fault → IsFirstOffence items fault

-- The law reads no values: items that cite the same positions stand alike over any list of values.
abbrev pub LawReadsNoValues : Type 0
LawReadsNoValues = (values others : List Value) (items : List Item) (s : State) →
    after s (plain_list values items) ≡ after s (plain_list others items)

abbrev pub VerdictReadsNoValues : Type 0
VerdictReadsNoValues = (values others : List Value) (items : List Item) →
    verdict (plain_list values items) ≡ verdict (plain_list others items)

-- A list is X, A and Z, and A is replaced by a new piece. Then the piece alone, from the state
-- after X, tells the new verdict: where it fails, the list fails there.
abbrev pub PieceFails : Type 0
PieceFails = (X new Z : List PlainItem) (s : State) (fault : LawFault) →
    after start X ≡ Ok s → after s new ≡ Err fault → verdict (X ++ (new ++ Z)) ≡ Some (fault_moved (length X) fault)

-- Where it ends in the state in which A ends, the new list is lawful, since the old one is.
abbrev pub PieceFits : Type 0
PieceFits = (X A Z new : List PlainItem) (s t : State) → Lawful (X ++ (A ++ Z)) →
    after start X ≡ Ok s → after s A ≡ Ok t → after s new ≡ Ok t → Lawful (X ++ (new ++ Z))

-- In every other case the first offence lies in Z, or at its end.
abbrev pub PieceDiffers : Type 0
PieceDiffers = (X A Z new : List PlainItem) (s t u : State) → Lawful (X ++ (A ++ Z)) →
    after start X ≡ Ok s → after s A ≡ Ok t → after s new ≡ Ok u → u ≢ t →
    (fault : LawFault) × (verdict (X ++ (new ++ Z)) ≡ Some fault) × (length X + length new ≤ fault_place fault)
    × (fault_place fault ≤ length (X ++ (new ++ Z)))

-- The items after a position decide the state there: from no two states do the same items lead to
-- one.
abbrev pub StateDecided : Type 0
StateDecided = (items : List PlainItem) (s t u : State) → after s items ≡ Ok u → after t items ≡ Ok u → s ≡ t
