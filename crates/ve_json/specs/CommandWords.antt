-- The commands by their words alone, and what reads the members of each: together they are the
-- tables of `model_world`.
use Rattle.std.specs.Prelude.{ℕ, List, [], ◌∷◌, ◌++◌, map, codes, Option, Some, None, option_and_then, Result, Err}
use Rattle.serde_json.specs.Data.{Data, object, Members}
use Rattle.serde_json.specs.Find.{get_member}
use Rattle.model_world.specs.declared.edit_command.EditCommand.{EditCommand}
use Rattle.model_world.specs.declared.edit_command.EditCommand.TheVariants as change
use Rattle.model_world.specs.declared.command.Request.{Request}
use Rattle.model_world.specs.declared.command.Request.TheVariants as request
use Rattle.model_world.specs.declared.field.Field.{Field}
use Rattle.model_world.specs.declared.field.Field.TheVariants as field
use Rattle.model_world.specs.declared.command.Command.{Command}
use Rattle.model_world.specs.Values.{word_in}
use Rattle.model_world.specs.Members.{Reader, map_reader}
use Rattle.model_world.specs.Changes as changes
use Rattle.model_world.specs.Commands as commands
use Rattle.ve_json.specs.declared.command_words.ChangeWord.{ChangeWord}
use Rattle.ve_json.specs.declared.command_words.ChangeWord.TheVariants as a_change
use Rattle.ve_json.specs.declared.command_words.BareWord.{BareWord}
use Rattle.ve_json.specs.declared.command_words.BareWord.TheVariants as a_bare
use Rattle.ve_json.specs.declared.command_words.PlaceWord.{PlaceWord}
use Rattle.ve_json.specs.declared.command_words.PlaceWord.TheVariants as a_place
use Rattle.ve_json.specs.declared.command_words.TableWord.{TableWord}
use Rattle.ve_json.specs.declared.command_words.TableWord.TheVariants as a_table
use Rattle.ve_json.specs.declared.command_words.RequestWord.{RequestWord}
use Rattle.ve_json.specs.declared.command_words.RequestWord.TheVariants as a_request
use Rattle.ve_json.specs.declared.command_words.CommandWord.{CommandWord}
use Rattle.ve_json.specs.declared.command_words.CommandWord.TheVariants as a_command

abbrev pub change_words : List (List ℕ × ChangeWord)
change_words =
    (codes "text", a_change.Text)
    ∷ (codes "insert", a_change.Insert)
    ∷ (codes "remove", a_change.Remove)
    ∷ (codes "split", a_change.Split)
    ∷ (codes "mark", a_change.Mark)
    ∷ (codes "unmark", a_change.Unmark)
    ∷ (codes "wrap", a_change.Wrap)
    ∷ (codes "convert", a_change.Convert)
    ∷ (codes "attr", a_change.Attr)
    ∷ (codes "apply", a_change.Apply)
    ∷ []

abbrev pub change_read : ChangeWord → Reader EditCommand
change_read a_change.Text = changes.text_read
change_read a_change.Insert = changes.insert_read
change_read a_change.Remove = changes.remove_read
change_read a_change.Split = changes.split_read
change_read a_change.Mark = changes.mark_read (λ from to mark. change.Mark from to mark)
change_read a_change.Unmark = changes.mark_read (λ from to mark. change.Unmark from to mark)
change_read a_change.Wrap = changes.wrap_read
change_read a_change.Convert = changes.convert_read
change_read a_change.Attr = changes.attr_read
change_read a_change.Apply = changes.apply_read

-- the change that `do` names
abbrev pub change_by_word : Members → Option EditCommand
change_by_word members =
    option_and_then (λ word. changes.if_well_formed (change_read word members)) (option_and_then (word_in change_words) (get_member (codes "do") members))

-- those that no batch may hold
abbrev pub own_words : List (List ℕ × RequestWord)
own_words =
    (codes "html", a_request.Bare a_bare.Html)
    ∷ (codes "tree", a_request.Bare a_bare.Tree)
    ∷ (codes "refs", a_request.Bare a_bare.Refs)
    ∷ (codes "caret", a_request.Bare a_bare.Caret)
    ∷ (codes "undo", a_request.Bare a_bare.Undo)
    ∷ (codes "redo", a_request.Bare a_bare.Redo)
    ∷ (codes "send", a_request.Bare a_bare.Send)
    ∷ (codes "serve", a_request.Bare a_bare.Serve)
    ∷ (codes "take", a_request.Bare a_bare.Take)
    ∷ (codes "changes", a_request.Bare a_bare.Changes)
    ∷ (codes "data", a_request.Show)
    ∷ (codes "at", a_request.Place a_place.At)
    ∷ (codes "near", a_request.Near)
    ∷ (codes "batch", a_request.Batch)
    ∷ (codes "select", a_request.Select)
    ∷ (codes "move", a_request.Move)
    ∷ (codes "type", a_request.Type)
    ∷ (codes "erase", a_request.Erase)
    ∷ (codes "grid", a_request.Place a_place.Grid)
    ∷ (codes "row_in", a_request.Table a_table.RowIn)
    ∷ (codes "row_out", a_request.Table a_table.RowOut)
    ∷ (codes "col_in", a_request.Table a_table.ColIn)
    ∷ (codes "col_out", a_request.Table a_table.ColOut)
    ∷ (codes "indent", a_request.Place a_place.Indent)
    ∷ (codes "outdent", a_request.Place a_place.Outdent)
    ∷ (codes "revoke", a_request.Revoke)
    ∷ []

abbrev pub request_words : List (List ℕ × RequestWord)
request_words = own_words ++ map (λ (row : List ℕ × ChangeWord). (row.0, a_request.Change row.1)) change_words

abbrev pub command_words : List (List ℕ × CommandWord)
command_words = (codes "open", a_command.Open) ∷ map (λ (row : List ℕ × RequestWord). (row.0, a_command.Ask row.1)) request_words

abbrev pub bare_request : BareWord → Request
bare_request a_bare.Html = request.Html
bare_request a_bare.Tree = request.Tree
bare_request a_bare.Refs = request.Refs
bare_request a_bare.Caret = request.Caret
bare_request a_bare.Undo = request.Undo
bare_request a_bare.Redo = request.Redo
bare_request a_bare.Send = request.Send
bare_request a_bare.Serve = request.Serve
bare_request a_bare.Take = request.Take
bare_request a_bare.Changes = request.Tell

abbrev pub place_read : PlaceWord → Reader Request
place_read a_place.At = commands.at_read (λ at. request.At at)
place_read a_place.Grid = commands.at_read (λ at. request.Grid at)
place_read a_place.Indent = commands.at_read (λ at. request.Indent at)
place_read a_place.Outdent = commands.at_read (λ at. request.Outdent at)

-- which line of the table it names
abbrev pub table_line : TableWord → Field
table_line a_table.RowIn = field.Row
table_line a_table.RowOut = field.Row
table_line a_table.ColIn = field.Column
table_line a_table.ColOut = field.Column

abbrev pub table_read : TableWord → Reader Request
table_read a_table.RowIn = commands.table_read field.Row (λ at row. request.RowIn at row)
table_read a_table.RowOut = commands.table_read field.Row (λ at row. request.RowOut at row)
table_read a_table.ColIn = commands.table_read field.Column (λ at column. request.ColIn at column)
table_read a_table.ColOut = commands.table_read field.Column (λ at column. request.ColOut at column)

abbrev pub request_read : RequestWord → Reader Request
request_read (a_request.Change word) = map_reader (λ change. request.Edit change) (change_read word)
request_read (a_request.Bare word) = commands.alone (bare_request word)
request_read (a_request.Place word) = place_read word
request_read (a_request.Table word) = table_read word
request_read a_request.Show = commands.show_read
request_read a_request.Near = commands.near_read
request_read a_request.Batch = commands.batch_read
request_read a_request.Select = commands.select_read
request_read a_request.Move = commands.move_read
request_read a_request.Type = commands.type_read
request_read a_request.Erase = commands.erase_read
request_read a_request.Revoke = commands.revoke_read

abbrev pub command_read : CommandWord → Reader Command
command_read a_command.Open = commands.open_read
command_read (a_command.Ask word) = commands.ask_read (request_read word)

abbrev pub read_or_bad : Option CommandWord → Members → Result Command Field
read_or_bad None _ = Err field.Do
read_or_bad (Some word) members = command_read word members

-- the command that `do` names
abbrev pub command_with : Members → Result Command Field
command_with members = read_or_bad (option_and_then (word_in command_words) (get_member (codes "do") members)) members

-- the command that an object asks
abbrev pub asked_in : Data → Result Command Field
asked_in (object members) = command_with members
asked_in _ = Err field.Do
