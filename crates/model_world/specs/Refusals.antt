-- The refusal that a cause is answered by. What a line removes is the list's own: an item that
-- differs is never asked for, and has the word of a full store.
use Rattle.std.specs.Prelude.{ℕ, Result, Ok, Err}
use Rattle.model_spelling.specs.Faults.{ForestFault}
use Rattle.model_spelling.specs.Faults as forest
use Rattle.model_page.specs.Limits.{Limit}
use Rattle.model_page.specs.Limits as limit
use Rattle.model_page.specs.OpenPage.{OpenFault}
use Rattle.model_page.specs.OpenPage as opening
use Rattle.model_edit.specs.Causes.{BuildCause, TableCause, ListCause}
use Rattle.model_edit.specs.Causes as edits
use Rattle.model_site.specs.Causes.{EditCause, UndoCause, RedoCause, SendCause}
use Rattle.model_site.specs.Causes as sites
use Rattle.model_site.specs.Live.{RevokeCause}
use Rattle.model_site.specs.Live as live
use Rattle.model_world.specs.declared.refusal.HtmlWord.TheVariants as word
use Rattle.model_world.specs.declared.refusal.Refusal.{Refusal}
use Rattle.model_world.specs.declared.refusal.Refusal.TheVariants as refusal

-- the result of a call, or its cause as a refusal
abbrev pub refused_as : {A E : Type 0} → (E → Refusal) → Result A E → Result A Refusal
refused_as named (Ok x) = Ok x
refused_as named (Err fault) = Err (named fault)

-- ---- pages and fragments

abbrev pub html_refusal : ForestFault → Refusal
html_refusal (forest.Scan f) = refusal.Html (word.Scan f.what) f.at
html_refusal (forest.Mismatched at) = refusal.Html word.Mismatched at
html_refusal (forest.Unclosed at) = refusal.Html word.Unclosed at
html_refusal (forest.Stray at) = refusal.Html word.Stray at
html_refusal (forest.TooDeep at) = refusal.Html word.TooDeep at

abbrev pub limit_refusal : Limit → Refusal
limit_refusal (limit.TooDeep at) = refusal.TooDeep at
limit_refusal (limit.TooManyMarks at) = refusal.TooManyMarks at

abbrev pub open_refusal : OpenFault → Refusal
open_refusal (opening.PageTooLong bytes) = refusal.PageTooLong bytes
open_refusal (opening.BadPage fault) = html_refusal fault
open_refusal (opening.OverLimit limit) = limit_refusal limit
open_refusal (opening.TooManyItems count) = refusal.TooManyItems count
open_refusal opening.StoreFull = refusal.StoreFull

-- ---- edits

abbrev pub build_refusal : BuildCause → Refusal
build_refusal (edits.BadOffset at) = refusal.BadOffset at
build_refusal (edits.NoPlace at) = refusal.NoPlace at
build_refusal (edits.NotContent at) = refusal.NotContent at
build_refusal (edits.BadDepth depth) = refusal.BadDepth depth
build_refusal (edits.BadRange from to) = refusal.BadRange from to
build_refusal edits.BadMark = refusal.BadMark
build_refusal (edits.TooManyMarks at) = refusal.TooManyMarks at
build_refusal (edits.NotWrapped at) = refusal.NotWrapped at
build_refusal (edits.NotBranch at) = refusal.NotBranch at
build_refusal (edits.NotOpening at) = refusal.NotOpening at
build_refusal (edits.BadAttr at) = refusal.BadAttr at

abbrev pub table_refusal : TableCause → Refusal
table_refusal (edits.NotTable at) = refusal.NotTable at
table_refusal (edits.Crooked at) = refusal.Crooked at
table_refusal (edits.BadRow row rows) = refusal.BadRow row rows
table_refusal (edits.BadColumn column columns) = refusal.BadColumn column columns
table_refusal (edits.TooWide columns) = refusal.TooWide columns
table_refusal (edits.Ragged row) = refusal.Ragged row
table_refusal (edits.Spanned at) = refusal.Spanned at
table_refusal (edits.SpanFull at) = refusal.SpanFull at

abbrev pub list_refusal : ListCause → Refusal
list_refusal (edits.NotListItem at) = refusal.NotListItem at
list_refusal (edits.NoSibling at) = refusal.NoSibling at
list_refusal (edits.NotNested at) = refusal.NotNested at

abbrev pub edit_refusal : EditCause → Refusal
edit_refusal (sites.BadLength has needs) = refusal.BadLength has needs
edit_refusal (sites.Mismatch at) = refusal.StoreFull
edit_refusal (sites.BadAttr at) = refusal.BadAttr at
edit_refusal (sites.Unlawful at) = refusal.Unlawful at
edit_refusal (sites.TooDeep at) = refusal.TooDeep at
edit_refusal (sites.TooManyItems count) = refusal.TooManyItems count
edit_refusal sites.StoreFull = refusal.StoreFull

-- ---- sites

abbrev pub undo_refusal : UndoCause → Refusal
undo_refusal sites.NothingToUndo = refusal.NothingToUndo
undo_refusal (sites.AlreadyShared sent) = refusal.AlreadyShared sent

abbrev pub redo_refusal : RedoCause → Refusal
redo_refusal sites.NothingToRedo = refusal.NothingToRedo

abbrev pub send_refusal : SendCause → Refusal
send_refusal (sites.InFlight entries) = refusal.InFlight entries
send_refusal sites.NothingToSend = refusal.NothingToSend

-- of entry i: the one that took it back, or the later entry's range and the reversal's
abbrev pub revoke_refusal : (i : ℕ) → RevokeCause → Refusal
revoke_refusal i (live.TakenBack by) = refusal.TakenBack i by
revoke_refusal i (live.Conflict clash) = refusal.RevokeConflict clash.committed clash.mine
