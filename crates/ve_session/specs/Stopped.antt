-- The faults of the crates below, as stops of a request.
use Rattle.std.specs.Prelude.{ℕ}
use Rattle.model_site.specs.declared.site_fault.UndoFault.{UndoFault}
use Rattle.model_site.specs.declared.site_fault.UndoFault.TheVariants as undo
use Rattle.model_site.specs.declared.site_fault.RedoFault.{RedoFault}
use Rattle.model_site.specs.declared.site_fault.RedoFault.TheVariants as redo
use Rattle.model_site.specs.declared.site_fault.SendFault.{SendFault}
use Rattle.model_site.specs.declared.site_fault.SendFault.TheVariants as send
use Rattle.model_world.specs.declared.refusal.Refusal.TheVariants as refusal
use Rattle.ve_changes.specs.declared.batch_stop.BatchStop.{BatchStop}
use Rattle.ve_changes.specs.declared.batch_stop.BatchStop.TheVariants as batch
use Rattle.ve_changes.specs.declared.faults.ChangeStop.{ChangeStop}
use Rattle.ve_changes.specs.declared.faults.ChangeStop.TheVariants as stop
use Rattle.ve_changes.specs.HtmlStops.{html_stop}
use Rattle.ve_json.specs.declared.fault.CommandFault.{CommandFault}
use Rattle.ve_json.specs.declared.fault.CommandFault.TheVariants as unread
use Rattle.ve_peer_undo.specs.declared.fault.LiveFault.{LiveFault}
use Rattle.ve_peer_undo.specs.declared.fault.LiveFault.TheVariants as live
use Rattle.ve_read.specs.declared.fault.ReadFault.{ReadFault}
use Rattle.ve_read.specs.declared.fault.ReadFault.TheVariants as page

abbrev pub page_stop : ReadFault → ChangeStop
page_stop (page.PageTooLong bytes) = stop.Refused (refusal.PageTooLong bytes)
page_stop (page.Html f) = html_stop f
page_stop (page.TooDeep at) = stop.Refused (refusal.TooDeep at)
page_stop (page.TooManyMarks at) = stop.Refused (refusal.TooManyMarks at)
page_stop (page.TooManyItems count) = stop.Refused (refusal.TooManyItems count)
page_stop page.StoreFull = stop.Refused refusal.StoreFull
page_stop page.Memory = stop.Memory

abbrev pub undo_stop : UndoFault → ChangeStop
undo_stop undo.NothingToUndo = stop.Refused refusal.NothingToUndo
undo_stop (undo.AlreadyShared sent) = stop.Refused (refusal.AlreadyShared sent)
undo_stop undo.Memory = stop.Memory

abbrev pub redo_stop : RedoFault → ChangeStop
redo_stop redo.NothingToRedo = stop.Refused refusal.NothingToRedo
redo_stop redo.Memory = stop.Memory

abbrev pub send_stop : SendFault → ChangeStop
send_stop (send.InFlight entries) = stop.Refused (refusal.InFlight entries)
send_stop send.NothingToSend = stop.Refused refusal.NothingToSend
send_stop send.Memory = stop.Memory

-- of entry i
abbrev pub revoke_stop : (i : ℕ) → LiveFault → ChangeStop
revoke_stop i (live.TakenBack by) = stop.Refused (refusal.TakenBack i by)
revoke_stop i (live.Conflict later reversal) = stop.Refused (refusal.RevokeConflict later reversal)
revoke_stop i live.Memory = stop.Memory

-- of a text that is typed over a selection: its changes have no numbers
abbrev pub typing_stop : BatchStop → ChangeStop
typing_stop (batch.Refused at why) = stop.Refused why
typing_stop batch.Memory = stop.Memory

-- of a line that gives no command
abbrev pub line_stop : CommandFault → ChangeStop
line_stop (unread.Refused why) = stop.Refused why
line_stop unread.Memory = stop.Memory
