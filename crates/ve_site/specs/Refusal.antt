-- How a call tells why nothing was undone, redone or sent. Of want of memory this says nothing.
use Rattle.std.specs.Prelude.{◌≡◌, Option, Some, None, Result, Ok, Err}
use Rattle.model_site.specs.Causes as cause
use Rattle.model_site.specs.Causes.{UndoCause, RedoCause, SendCause}
use Rattle.model_site.specs.declared.site_fault.UndoFault.{UndoFault}
use Rattle.model_site.specs.declared.site_fault.UndoFault.TheVariants as undo
use Rattle.model_site.specs.declared.site_fault.RedoFault.{RedoFault}
use Rattle.model_site.specs.declared.site_fault.RedoFault.TheVariants as redo
use Rattle.model_site.specs.declared.site_fault.SendFault.{SendFault}
use Rattle.model_site.specs.declared.site_fault.SendFault.TheVariants as send

abbrev pub IsUndoRefusal : {A : Type 0} → Result A UndoCause → UndoFault → Type 0
IsUndoRefusal undone undo.NothingToUndo = undone ≡ Err cause.NothingToUndo
IsUndoRefusal undone (undo.AlreadyShared sent) = undone ≡ Err (cause.AlreadyShared sent)
IsUndoRefusal undone undo.Memory = Unit {0}

abbrev pub IsRedoRefusal : {A : Type 0} → Result A RedoCause → RedoFault → Type 0
IsRedoRefusal redone redo.NothingToRedo = redone ≡ Err cause.NothingToRedo
IsRedoRefusal redone redo.Memory = Unit {0}

abbrev pub IsSendRefusal : {A : Type 0} → Result A SendCause → SendFault → Type 0
IsSendRefusal sent (send.InFlight entries) = sent ≡ Err (cause.InFlight entries)
IsSendRefusal sent send.NothingToSend = sent ≡ Err cause.NothingToSend
IsSendRefusal sent send.Memory = Unit {0}

-- the fault that tells why nothing is sent, and none where it is sent
abbrev pub send_refusal : {A : Type 0} → Result A SendCause → Option SendFault
send_refusal (Ok sent) = None
send_refusal (Err (cause.InFlight entries)) = Some (send.InFlight entries)
send_refusal (Err cause.NothingToSend) = Some send.NothingToSend
