-- Commands of a script's lines.
use Rattle.std.specs.Prelude.{ℕ, ◌&&◌, nat_le, false, if◌then◌else◌, List, [], ◌∷◌, length, map, codes, Bool, Option, Some, None, Result, Ok, Err}
use Rattle.ve_base.specs.Limits.{max_batch, max_sites}
use Rattle.serde_json.specs.Data.{Data, object, Members}
use Rattle.serde_json.specs.Find.{as_bool}
use Rattle.model_edit.specs.declared.selection.Dir.{Dir}
use Rattle.model_edit.specs.declared.selection.Dir.TheVariants.{Back, Ahead}
use Rattle.model_edit.specs.declared.selection.By.{By}
use Rattle.model_edit.specs.declared.selection.By.TheVariants.{Cluster, Word}
use Rattle.model_world.specs.declared.edit_command.EditCommand.{EditCommand}
use Rattle.model_world.specs.declared.command.Request.{Request}
use Rattle.model_world.specs.declared.command.Request.TheVariants as request
use Rattle.model_world.specs.declared.command.Command.{Command}
use Rattle.model_world.specs.declared.command.Command.TheVariants.{OpenPage, Ask}
use Rattle.model_world.specs.declared.field.Field.{Field}
use Rattle.model_world.specs.declared.field.Field.TheVariants as field
use Rattle.model_world.specs.declared.refusal.Refusal.{Refusal}
use Rattle.model_world.specs.declared.refusal.Refusal.TheVariants.{BadJson, BadCommand}
use Rattle.model_world.specs.Values.{line_json, such_that, number_in, some_number_in, number_between, source_in, list_in, word_in}
use Rattle.model_world.specs.Members.{Reader, ◌>>=◌, required_member, optional_member, map_reader}
use Rattle.model_world.specs.Changes.{some_text_in, changes, reader_in, change_in}

-- ---- requests of a site

-- a command without members of its own
abbrev pub alone : Request → Reader Request
alone asked _ = Ok asked

abbrev pub at_read : (ℕ → Request) → Reader Request
at_read asked members = do
  at ← required_member field.At number_in members
  Ok (asked at)

-- a table's position and a row or a column of it
abbrev pub table_read : Field → (ℕ → ℕ → Request) → Reader Request
table_read line asked members = do
  at ← required_member field.At number_in members
  number ← required_member line number_in members
  Ok (asked at number)

abbrev pub show_read : Reader Request
show_read members = do
  from ← optional_member field.From 0 number_in members
  to ← optional_member field.To None some_number_in members
  Ok (request.ShowItems from to)

abbrev pub is_batch : List EditCommand → Bool
is_batch cmds = nat_le 1 (length cmds) && nat_le (length cmds) max_batch

abbrev pub batch_read : Reader Request
batch_read members = do
  cmds ← required_member field.Cmds (λ json. such_that is_batch (list_in change_in json)) members
  Ok (request.Batch cmds)

abbrev pub select_read : Reader Request
select_read members = do
  anchor ← required_member field.Anchor number_in members
  focus ← required_member field.Focus number_in members
  Ok (request.Select anchor focus)

abbrev pub dir_in : Data → Option Dir
dir_in = word_in ((codes "back", Back) ∷ (codes "ahead", Ahead) ∷ [])

abbrev pub by_in : Data → Option By
by_in = word_in ((codes "cluster", Cluster) ∷ (codes "word", Word) ∷ [])

abbrev pub near_read : Reader Request
near_read members = do
  at ← required_member field.At number_in members
  dir ← required_member field.Dir dir_in members
  Ok (request.Near at dir)

abbrev pub move_read : Reader Request
move_read members = do
  dir ← required_member field.Dir dir_in members
  by ← optional_member field.By Cluster by_in members
  keep ← optional_member field.Keep false as_bool members
  Ok (request.Move dir by keep)

abbrev pub type_read : Reader Request
type_read members = do
  text ← required_member field.Text some_text_in members
  Ok (request.TypeText text)

abbrev pub erase_read : Reader Request
erase_read members = do
  dir ← required_member field.Dir dir_in members
  by ← optional_member field.By Cluster by_in members
  Ok (request.Erase dir by)

abbrev pub revoke_read : Reader Request
revoke_read members = do
  entry ← required_member field.Entry number_in members
  live ← optional_member field.Live false as_bool members
  Ok (request.Revoke entry live)

-- each with its word; those that a batch may hold stand last
abbrev pub requests : List (List ℕ × Reader Request)
requests =
    (codes "html", alone request.Html)
    ∷ (codes "tree", alone request.Tree)
    ∷ (codes "refs", alone request.Refs)
    ∷ (codes "caret", alone request.Caret)
    ∷ (codes "undo", alone request.Undo)
    ∷ (codes "redo", alone request.Redo)
    ∷ (codes "send", alone request.Send)
    ∷ (codes "serve", alone request.Serve)
    ∷ (codes "take", alone request.Take)
    ∷ (codes "changes", alone request.Tell)
    ∷ (codes "data", show_read)
    ∷ (codes "at", at_read (λ at. request.At at))
    ∷ (codes "near", near_read)
    ∷ (codes "batch", batch_read)
    ∷ (codes "select", select_read)
    ∷ (codes "move", move_read)
    ∷ (codes "type", type_read)
    ∷ (codes "erase", erase_read)
    ∷ (codes "grid", at_read (λ at. request.Grid at))
    ∷ (codes "row_in", table_read field.Row (λ at row. request.RowIn at row))
    ∷ (codes "row_out", table_read field.Row (λ at row. request.RowOut at row))
    ∷ (codes "col_in", table_read field.Column (λ at column. request.ColIn at column))
    ∷ (codes "col_out", table_read field.Column (λ at column. request.ColOut at column))
    ∷ (codes "indent", at_read (λ at. request.Indent at))
    ∷ (codes "outdent", at_read (λ at. request.Outdent at))
    ∷ (codes "revoke", revoke_read)
    ∷ map (λ (row : List ℕ × Reader EditCommand). (row.0, map_reader (λ change. request.Edit change) row.1)) changes

-- ---- commands

-- every command but `open` has a member `site`, last
abbrev pub ask_read : Reader Request → Reader Command
ask_read read members = do
  asked ← read members
  site ← optional_member field.Site 0 number_in members
  Ok (Ask asked site)

abbrev pub open_read : Reader Command
open_read members = do
  page ← required_member field.Page source_in members
  sites ← optional_member field.Sites 1 (number_between 1 max_sites) members
  Ok (OpenPage page sites)

abbrev pub commands : List (List ℕ × Reader Command)
commands = (codes "open", open_read) ∷ map (λ (row : List ℕ × Reader Request). (row.0, ask_read row.1)) requests

abbrev pub or_bad_command : Result Command Field → Result Command Refusal
or_bad_command (Ok command) = Ok command
or_bad_command (Err field) = Err (BadCommand field)

abbrev pub read_by : Option (Reader Command) → Members → Result Command Refusal
read_by None _ = Err (BadCommand field.Do)
read_by (Some read) members = or_bad_command (read members)

abbrev pub command_in : Data → Result Command Refusal
command_in (object members) = read_by (reader_in commands members) members
command_in _ = Err (BadCommand field.Do)

abbrev pub command_or_refusal : Option Data → Result Command Refusal
command_or_refusal None = Err BadJson
command_or_refusal (Some json) = command_in json

-- the command of a line, or why it is none
abbrev pub command : List ℕ → Result Command Refusal
command line = command_or_refusal (line_json line)
