-- Why a transaction is not performed, and why a site does not undo, redo or send. Want of memory is
-- none of these: no definition answers it.
use Rattle.std.specs.Prelude.{ℕ}
use Rattle.model_site.specs.declared.edit_fault.EditFault.{EditFault}
use Rattle.model_site.specs.declared.edit_fault.EditFault.TheVariants as edit
use Rattle.model_site.specs.declared.site_fault.UndoFault.{UndoFault}
use Rattle.model_site.specs.declared.site_fault.UndoFault.TheVariants as undo
use Rattle.model_site.specs.declared.site_fault.RedoFault.{RedoFault}
use Rattle.model_site.specs.declared.site_fault.RedoFault.TheVariants as redo
use Rattle.model_site.specs.declared.site_fault.SendFault.{SendFault}
use Rattle.model_site.specs.declared.site_fault.SendFault.TheVariants as send

pub data EditCause : Type 0 where
  BadLength : (has needs : ℕ) → EditCause
  Mismatch : (at : ℕ) → EditCause
  BadAttr : (at : ℕ) → EditCause
  Unlawful : (at : ℕ) → EditCause
  TooDeep : (at : ℕ) → EditCause
  TooManyItems : (count : ℕ) → EditCause
  StoreFull : EditCause

pub data UndoCause : Type 0 where
  NothingToUndo : UndoCause
  AlreadyShared : (sent : ℕ) → UndoCause

pub data RedoCause : Type 0 where
  NothingToRedo : RedoCause

pub data SendCause : Type 0 where
  InFlight : (entries : ℕ) → SendCause
  NothingToSend : SendCause

-- the fault by which a call tells of a cause
abbrev pub edit_fault : EditCause → EditFault
edit_fault (BadLength has needs) = edit.BadLength has needs
edit_fault (Mismatch at) = edit.Mismatch at
edit_fault (BadAttr at) = edit.BadAttr at
edit_fault (Unlawful at) = edit.Unlawful at
edit_fault (TooDeep at) = edit.TooDeep at
edit_fault (TooManyItems count) = edit.TooManyItems count
edit_fault StoreFull = edit.StoreFull

abbrev pub undo_fault : UndoCause → UndoFault
undo_fault NothingToUndo = undo.NothingToUndo
undo_fault (AlreadyShared sent) = undo.AlreadyShared sent

abbrev pub redo_fault : RedoCause → RedoFault
redo_fault NothingToRedo = redo.NothingToRedo

abbrev pub send_fault : SendCause → SendFault
send_fault (InFlight entries) = send.InFlight entries
send_fault NothingToSend = send.NothingToSend
