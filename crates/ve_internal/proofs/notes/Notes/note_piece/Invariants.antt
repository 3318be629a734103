use Rattle.std.proofs.Common.{take}
use Rattle.model_items.specs.Plain.{plain_list}
use Rattle.ve_internal.specs.Noted.{NotesItems}
use Rattle.ve_internal.proofs.notes.Notes.note_piece.Given as goal

abbrev pub invariant-loop-i : goal.invariant-loop-i
invariant-loop-i l = NotesItems l.initial.self l.self l.at (plain_list l.store (take l.i l.piece))
