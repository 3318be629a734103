-- Requests that move a row, a column or a list item.
use Rattle.std.specs.Prelude.{◌≡◌, Bool, true, false, List, [], Result, Ok}
use Rattle.model_items.specs.declared.plain_item.PlainItem.{PlainItem}
use Rattle.model_change.specs.Transaction.{Transaction}
use Rattle.model_edit.specs.Tables.{row_in, row_out, col_in, col_out}
use Rattle.model_edit.specs.Lists.{indent, outdent}
use Rattle.model_world.specs.Answers.{Asked, request_outcome, performed_or_no, replica_of, site_items}
use Rattle.model_world.specs.Edits.{checked_transaction}
use Rattle.model_world.specs.Refusals.{refused_as, table_refusal, list_refusal}
use Rattle.model_world.specs.declared.command.Request.{Request}
use Rattle.model_world.specs.declared.command.Request.TheVariants as request
use Rattle.model_world.specs.declared.refusal.Refusal.{Refusal}

abbrev pub is_move : Request → Bool
is_move (request.RowIn at row) = true
is_move (request.RowOut at row) = true
is_move (request.ColIn at column) = true
is_move (request.ColOut at column) = true
is_move (request.Indent at) = true
is_move (request.Outdent at) = true
is_move _ = false

-- the transaction that moves it, or why there is none; any other request moves nothing
abbrev pub moved_by : List PlainItem → Request → Result Transaction Refusal
moved_by items (request.RowIn at row) = refused_as table_refusal (row_in items at row)
moved_by items (request.RowOut at row) = refused_as table_refusal (row_out items at row)
moved_by items (request.ColIn at column) = refused_as table_refusal (col_in items at column)
moved_by items (request.ColOut at column) = refused_as table_refusal (col_out items at column)
moved_by items (request.Indent at) = refused_as list_refusal (indent items at)
moved_by items (request.Outdent at) = refused_as list_refusal (outdent items at)
moved_by items _ = Ok []

-- A move is answered by performing that transaction, where it may be.
abbrev pub MovesAreAsked : Type 0
MovesAreAsked = (a : Asked) (r : Request) → is_move r ≡ true → request_outcome a r ≡ performed_or_no a (checked_transaction (replica_of a) (moved_by (site_items a) r))
