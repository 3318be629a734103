-- The transaction that a change is, and several changes as one entry.
use Rattle.std.specs.Prelude.{ℕ, suc, ◌+◌, ◌==◌, true, false, List, [], ◌∷◌, length, take, drop, encode_utf8_all, Option, Some, None, Result, Ok, Err}
use Rattle.model_spelling.specs.Forest.{Forest}
use Rattle.model_spelling.specs.Faults.{fault_of}
use Rattle.model_spelling.specs.Parsed.{forest_of}
use Rattle.model_items.specs.declared.plain_item.PlainItem.{PlainItem}
use Rattle.model_change.specs.Attributes.{AttrChange}
use Rattle.model_change.specs.Transaction.{Retain, Replace, Attribute, Transaction}
use Rattle.model_page.specs.PageItems.{or_nothing}
use Rattle.model_page.specs.Fragment.{fragment_items}
use Rattle.model_page.specs.Limits.{fragment_limit}
use Rattle.model_edit.specs.Causes.{BuildCause}
use Rattle.model_items.specs.Offsets.{stack_at}
use Rattle.model_edit.specs.Edits.{present_value}
use Rattle.model_edit.specs.Insert.{is_bad_offset, insertion, text_insertion, plain_text_insertion, split}
use Rattle.model_edit.specs.Remove.{removal}
use Rattle.model_edit.specs.Marking.{marking, unmarking}
use Rattle.model_edit.specs.Wrap.{wrap}
use Rattle.model_edit.specs.Convert.{convert, attribute}
use Rattle.model_site.specs.Causes.{EditCause}
use Rattle.model_site.specs.Replica.{Replica, performed}
use Rattle.model_site.specs.Refused.{edit_cause}
use Rattle.model_world.specs.declared.edit_command.TextMarks.{TextMarks}
use Rattle.model_world.specs.declared.edit_command.TextMarks.TheVariants.{Left, Plain}
use Rattle.model_world.specs.declared.edit_command.OpWords.{OpWords}
use Rattle.model_world.specs.declared.edit_command.OpWords.TheVariants as op
use Rattle.model_world.specs.declared.edit_command.EditCommand.{EditCommand}
use Rattle.model_world.specs.declared.edit_command.EditCommand.TheVariants as change
use Rattle.model_world.specs.declared.refusal.Refusal.{Refusal}
use Rattle.model_world.specs.declared.refusal.Refusal.TheVariants.{BadOffset, BadLength, BadOrigin, TooManyMarks}
use Rattle.model_world.specs.Refusals.{refused_as, html_refusal, build_refusal, edit_refusal}

abbrev pub built_transaction : Result Transaction BuildCause → Result Transaction Refusal
built_transaction result = refused_as build_refusal result

-- ---- fragments: the offset is judged first, then the spelling, then the marks, and then the
-- insertion

abbrev pub forest_inserted : List PlainItem → ℕ → Forest → Result Transaction Refusal
forest_inserted items at forest = elim (fragment_limit (stack_at items at) forest) [
  | Some byte ↦ Err (TooManyMarks byte)
  | None ↦ built_transaction (insertion items at (fragment_items (stack_at items at) forest))
]

abbrev pub text_inserted : List PlainItem → ℕ → List ℕ → Result Transaction Refusal
text_inserted items at text = elim (fault_of text) [
  | Some fault ↦ Err (html_refusal fault)
  | None ↦ forest_inserted items at (or_nothing (forest_of text))
]

abbrev pub fragment_inserted : List PlainItem → ℕ → List ℕ → Result Transaction Refusal
fragment_inserted items at html = elim (is_bad_offset items at) [
  | true ↦ Err (BadOffset at)
  | false ↦ text_inserted items at (encode_utf8_all html)
]

-- ---- operations as they are written

-- how long a list they need
abbrev pub needs : List OpWords → ℕ
needs [] = 0
needs (op.Retain count ∷ ops) = count + needs ops
needs (op.Remove count insert ∷ ops) = count + needs ops
needs (op.Attr name to ∷ ops) = needs ops

-- an attribute of the first item, with its old value; where an attribute that is removed stood is
-- found when it is performed
abbrev pub set_first : List ℕ → Option (List ℕ) → List PlainItem → AttrChange
set_first name to items = record { name = name; from = present_value name items; to = to; kept = None }

-- with the items that they remove, and the attributes' old values
abbrev pub ops_on : List OpWords → List PlainItem → Transaction
ops_on [] items = []
ops_on (op.Retain count ∷ ops) items = Retain count ∷ ops_on ops (drop count items)
ops_on (op.Remove count insert ∷ ops) items = Replace (take count items) insert ∷ ops_on ops (drop count items)
ops_on (op.Attr name to ∷ ops) items = Attribute (set_first name to items) ∷ ops_on ops items

abbrev pub transaction_of_ops : List PlainItem → List OpWords → Result Transaction Refusal
transaction_of_ops items ops = elim (needs ops == length items) [
  | true ↦ Ok (ops_on ops items)
  | false ↦ Err (BadLength (length items) (needs ops))
]

-- ---- changes

abbrev pub text_typed : TextMarks → List PlainItem → ℕ → List ℕ → Result Transaction BuildCause
text_typed Left items at text = text_insertion items at text
text_typed Plain items at text = plain_text_insertion items at text

-- the transaction that a change of this list is, or why there is none
abbrev pub change_of : List PlainItem → EditCommand → Result Transaction Refusal
change_of items (change.Text at text marks) = built_transaction (text_typed marks items at text)
change_of items (change.Insert at html) = fragment_inserted items at html
change_of items (change.Remove from to) = built_transaction (removal items from to)
change_of items (change.Split at depth) = built_transaction (split items at depth)
change_of items (change.Mark from to mark) = built_transaction (marking items from to mark)
change_of items (change.Unmark from to mark) = built_transaction (unmarking items from to mark)
change_of items (change.Wrap from to plan) = built_transaction (wrap items from to plan)
change_of items (change.Convert at kind) = built_transaction (convert items at kind)
change_of items (change.Attr at name to) = built_transaction (attribute items at name to)
change_of items (change.Apply ops) = transaction_of_ops items ops
change_of items (change.NoOrigin origin) = Err (BadOrigin origin)

abbrev pub unless_faulty : Option EditCause → Transaction → Result Transaction Refusal
unless_faulty None t = Ok t
unless_faulty (Some fault) t = Err (edit_refusal fault)

-- the transaction, where it may be performed
abbrev pub checked_transaction : Replica → Result Transaction Refusal → Result Transaction Refusal
checked_transaction r (Err refusal) = Err refusal
checked_transaction r (Ok t) = unless_faulty (edit_cause t r) t

abbrev pub change_on : Replica → EditCommand → Result Transaction Refusal
change_on r c = checked_transaction r (change_of r.items c)

-- ---- batches

-- the position of the first change that is refused, and why
pub record BatchRefusal : Type 0 where
  pub at : ℕ
  pub refusal : Refusal

-- changes in turn, each on what those before it make; the first has the number i
abbrev pub batch_from : ℕ → List EditCommand → Replica → Result (List Transaction) BatchRefusal
batch_from i [] r = Ok []
batch_from i (c ∷ cs) r = elim (change_on r c) [
  | Err refusal ↦ Err (record { at = i; refusal = refusal })
  | Ok t ↦ elim (batch_from (suc i) cs (performed t r)) [
    | Err refused ↦ Err refused
    | Ok ts ↦ Ok (t ∷ ts)
  ]
]

abbrev pub batch_on : Replica → List EditCommand → Result (List Transaction) BatchRefusal
batch_on r cmds = batch_from 0 cmds r
