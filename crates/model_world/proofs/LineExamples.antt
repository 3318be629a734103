-- Lines, and what they ask.
use Rattle.std.specs.Prelude.{◌≡◌, ℕ, List, [], ◌∷◌, ◌++◌, codes, false, true, Some, None, Ok, Err, encode_utf8_all, refl}
use Rattle.std.specs.Str.{is_utf8}
use Rattle.ve_kinds.specs.declared.kind.Kind.TheVariants.{H2, P, Br, Ul, Li}
use Rattle.ve_base.specs.declared.attrs.Attr.{Attr}
use Rattle.ve_base.specs.declared.marks.Mark as base
use Rattle.model_items.specs.declared.plain_item.PlainItem.TheVariants.{Char, Opening, Closing}
use Rattle.model_page.proofs.OnLiterals.{page_on_literals}
use Rattle.model_edit.specs.declared.selection.Dir.TheVariants.{Back, Ahead}
use Rattle.model_edit.specs.declared.selection.By.TheVariants.{Cluster, Word}
use Rattle.model_world.specs.declared.edit_command.TextMarks.TheVariants as text_marks
use Rattle.model_world.specs.declared.edit_command.OpWords.TheVariants as op
use Rattle.model_world.specs.declared.edit_command.EditCommand.{EditCommand}
use Rattle.model_world.specs.declared.edit_command.EditCommand.TheVariants as change
use Rattle.model_world.specs.declared.command.Request.{Request}
use Rattle.model_world.specs.declared.command.Request.TheVariants as request
use Rattle.model_world.specs.declared.command.Command.TheVariants.{OpenPage, Ask}
use Rattle.model_world.specs.declared.field.Field.{Field}
use Rattle.model_world.specs.declared.field.Field.TheVariants as field
use Rattle.model_world.specs.declared.refusal.Refusal.TheVariants.{BadJson, BadCommand}
use Rattle.model_world.specs.Commands.{command}
use Rattle.model_world.proofs.Scripts.{times}

-- the line asks it, of site 0
abbrev Asks : List ℕ → Request → Type 0
Asks line asked = command line ≡ Ok (Ask asked 0)

-- the line asks for the change, of site 0
abbrev Changes : List ℕ → EditCommand → Type 0
Changes line changed = Asks line (request.Edit changed)

-- this member is the first that is missing or ill-formed
abbrev IsBad : List ℕ → Field → Type 0
IsBad line bad = command line ≡ Err (BadCommand bad)

abbrev attr : List ℕ → List ℕ → Attr
attr name value = record { name = name; value = value }

abbrev bold : List Attr → base.Mark
bold attrs = record { tag = codes "b"; attrs = attrs }

-- ---- each command, with its defaults

opens : command (encode_utf8_all (codes "{\"do\":\"open\",\"page\":\"<p>é</p>\"}")) ≡ Ok (OpenPage (codes "<p>é</p>") 1)
unfolding page_on_literals is_utf8
opens = refl

opens_for_sites : command (codes "{\"do\":\"open\",\"page\":\"\",\"sites\":8}") ≡ Ok (OpenPage [] 8)
unfolding page_on_literals is_utf8
opens_for_sites = refl

asks_site : command (codes "{\"do\":\"html\",\"site\":7}") ≡ Ok (Ask request.Html 7)
unfolding page_on_literals is_utf8
asks_site = refl

shows_all : Asks (codes "{\"do\":\"data\"}") (request.ShowItems 0 None)
unfolding page_on_literals is_utf8
shows_all = refl

shows_range : Asks (codes "{\"do\":\"data\",\"to\":5,\"from\":3}") (request.ShowItems 3 (Some 5))
unfolding page_on_literals is_utf8
shows_range = refl

types_marked : Changes (codes "{\"do\":\"text\",\"at\":2,\"text\":\"X\"}") (change.Text 2 (codes "X") text_marks.Left)
unfolding page_on_literals is_utf8
types_marked = refl

types_plain : Changes (codes "{\"do\":\"text\",\"at\":2,\"text\":\"X\",\"marks\":\"none\"}") (change.Text 2 (codes "X") text_marks.Plain)
unfolding page_on_literals is_utf8
types_plain = refl

inserts : Changes (codes "{\"do\":\"insert\",\"at\":2,\"html\":\"<b>\"}") (change.Insert 2 (codes "<b>"))
unfolding page_on_literals is_utf8
inserts = refl

splits : Changes (codes "{\"do\":\"split\",\"at\":4}") (change.Split 4 1)
unfolding page_on_literals is_utf8
splits = refl

marks : Changes (codes "{\"do\":\"mark\",\"from\":1,\"to\":2,\"tag\":\"b\",\"attrs\":[[\"id\",\"x\"]]}") (change.Mark 1 2 (bold (attr (codes "id") (codes "x") ∷ [])))
unfolding page_on_literals is_utf8
marks = refl

unmarks : Changes (codes "{\"do\":\"unmark\",\"from\":1,\"to\":2,\"tag\":\"b\"}") (change.Unmark 1 2 (bold []))
unfolding page_on_literals is_utf8
unmarks = refl

wraps : Changes (codes "{\"do\":\"wrap\",\"from\":0,\"to\":6,\"unwrap_outer\":[\"ul\"],\"wrap_each\":[{\"kind\":\"li\"},{\"kind\":\"p\",\"attrs\":[[\"id\",\"x\"]]}]}") (
    change.Wrap 0 6 (
    record {
      unwrap_outer = Ul ∷ [];
      wrap_outer = [];
      unwrap_each = [];
      wrap_each = record { kind = Li; attrs = [] } ∷ record { kind = P; attrs = attr (codes "id") (codes "x") ∷ [] } ∷ [];
    }
    )
    )
unfolding page_on_literals is_utf8
wraps = refl

converts : Changes (codes "{\"do\":\"convert\",\"at\":0,\"kind\":\"h2\"}") (change.Convert 0 H2)
unfolding page_on_literals is_utf8
converts = refl

sets : Changes (codes "{\"do\":\"attr\",\"at\":0,\"name\":\"id\",\"to\":\"y\"}") (change.Attr 0 (codes "id") (Some (codes "y")))
unfolding page_on_literals is_utf8
sets = refl

unsets : Changes (codes "{\"do\":\"attr\",\"at\":0,\"name\":\"id\",\"to\":null}") (change.Attr 0 (codes "id") None)
unfolding page_on_literals is_utf8
unsets = refl

applies : Changes (codes "{\"do\":\"apply\",\"ops\":[{\"attr\":\"id\",\"to\":null},{\"retain\":1},{\"remove\":2,\"insert\":[\"a\",[\"b\",[[\"b\",[]]]],{\"open\":\"br\",\"marks\":[[\"b\",[]]]},{\"close\":\"br\"}]}]}") (
    change.Apply (
    op.Attr (codes "id") None
    ∷ op.Retain 1
    ∷ op.Remove 2 (
    Char 97 []
    ∷ Char 98 (bold [] ∷ [])
    ∷ Opening Br (record { tag = []; attrs = []; raw = []; reference = None; owner = false }) (bold [] ∷ []) [] None false
    ∷ Closing Br []
    ∷ []
    )
    ∷ []
    )
    )
unfolding page_on_literals is_utf8
applies = refl

-- a site in a batch is passed over
batches : Asks (codes "{\"do\":\"batch\",\"cmds\":[{\"do\":\"text\",\"at\":1,\"text\":\"x\",\"site\":3},{\"do\":\"remove\",\"from\":9,\"to\":12}]}") (
    request.Batch (change.Text 1 (codes "x") text_marks.Left ∷ change.Remove 9 12 ∷ [])
    )
unfolding page_on_literals is_utf8
batches = refl

selects : Asks (codes "{\"do\":\"select\",\"anchor\":3,\"focus\":1}") (request.Select 3 1)
unfolding page_on_literals is_utf8
selects = refl

nears : Asks (codes "{\"do\":\"near\",\"at\":3,\"dir\":\"ahead\"}") (request.Near 3 Ahead)
unfolding page_on_literals is_utf8
nears = refl

tells : Asks (codes "{\"do\":\"changes\"}") request.Tell
unfolding page_on_literals is_utf8
tells = refl

moves : Asks (codes "{\"do\":\"move\",\"dir\":\"back\"}") (request.Move Back Cluster false)
unfolding page_on_literals is_utf8
moves = refl

moves_far : Asks (codes "{\"do\":\"move\",\"dir\":\"ahead\",\"by\":\"word\",\"keep\":true}") (request.Move Ahead Word true)
unfolding page_on_literals is_utf8
moves_far = refl

puts_row : Asks (codes "{\"do\":\"row_in\",\"at\":0,\"row\":1}") (request.RowIn 0 1)
unfolding page_on_literals is_utf8
puts_row = refl

takes_column : Asks (codes "{\"do\":\"col_out\",\"at\":0,\"column\":1}") (request.ColOut 0 1)
unfolding page_on_literals is_utf8
takes_column = refl

revokes : Asks (codes "{\"do\":\"revoke\",\"entry\":2}") (request.Revoke 2 false)
unfolding page_on_literals is_utf8
revokes = refl

-- ---- lines as JSON

no_line : command (codes "") ≡ Err BadJson
unfolding page_on_literals is_utf8
no_line = refl

no_end : command (codes "{") ≡ Err BadJson
unfolding page_on_literals is_utf8
no_end = refl

no_object : IsBad (codes "[]") field.Do
unfolding page_on_literals is_utf8
no_object = refl

-- a number past all limits is no JSON, wherever it stands
number_past_all_limits : command (codes "{\"do\":\"html\",\"size\":1e999}") ≡ Err BadJson
unfolding page_on_literals is_utf8
number_past_all_limits = refl

-- a byte that begins no character
no_text : command (123 ∷ 34 ∷ 255 ∷ 34 ∷ 58 ∷ 49 ∷ 125 ∷ []) ≡ Err BadJson
unfolding page_on_literals is_utf8
no_text = refl

-- 127 lists one inside the other are read, and no more
deep : command (times 127 (codes "[") ++ times 127 (codes "]")) ≡ Err (BadCommand field.Do)
unfolding page_on_literals is_utf8
deep = refl

too_deep : command (times 128 (codes "[") ++ times 128 (codes "]")) ≡ Err BadJson
unfolding page_on_literals is_utf8
too_deep = refl

-- of members with one name the last counts, and those that no command reads are passed over
last_counts : command (codes "{\"do\":\"open\",\"colour\":[],\"do\":\"html\",\"site\":1,\"site\":2}") ≡ Ok (Ask request.Html 2)
unfolding page_on_literals is_utf8
last_counts = refl

-- ---- the first bad member

no_such_command : IsBad (codes "{\"do\":\"dance\"}") field.Do
unfolding page_on_literals is_utf8
no_such_command = refl

open_without_page : IsBad (codes "{\"do\":\"open\",\"sites\":9}") field.Page
unfolding page_on_literals is_utf8
open_without_page = refl

nine_sites : IsBad (codes "{\"do\":\"open\",\"page\":\"\",\"sites\":9}") field.Sites
unfolding page_on_literals is_utf8
nine_sites = refl

no_sites : IsBad (codes "{\"do\":\"open\",\"page\":\"\",\"sites\":0}") field.Sites
unfolding page_on_literals is_utf8
no_sites = refl

below_zero : IsBad (codes "{\"do\":\"text\",\"at\":-1,\"text\":\"a\"}") field.At
unfolding page_on_literals is_utf8
below_zero = refl

with_fraction : IsBad (codes "{\"do\":\"text\",\"at\":1.0,\"text\":\"a\"}") field.At
unfolding page_on_literals is_utf8
with_fraction = refl

with_exponent : IsBad (codes "{\"do\":\"text\",\"at\":1e0,\"text\":\"a\"}") field.At
unfolding page_on_literals is_utf8
with_exponent = refl

past_32_bits : IsBad (codes "{\"do\":\"text\",\"at\":4294967296,\"text\":\"a\"}") field.At
unfolding page_on_literals is_utf8
past_32_bits = refl

at_32_bits : Changes (codes "{\"do\":\"split\",\"at\":4294967295}") (change.Split 4294967295 1)
unfolding page_on_literals is_utf8
at_32_bits = refl

null_is_there : IsBad (codes "{\"do\":\"split\",\"at\":1,\"depth\":null}") field.Depth
unfolding page_on_literals is_utf8
null_is_there = refl

both_bad : IsBad (codes "{\"do\":\"text\",\"text\":\"\",\"at\":\"0\",\"site\":\"0\"}") field.At
unfolding page_on_literals is_utf8
both_bad = refl

empty_text : IsBad (codes "{\"do\":\"text\",\"at\":0,\"text\":\"\",\"marks\":\"right\"}") field.Text
unfolding page_on_literals is_utf8
empty_text = refl

return_in_text : IsBad (codes "{\"do\":\"text\",\"at\":0,\"text\":\"a\\r\"}") field.Text
unfolding page_on_literals is_utf8
return_in_text = refl

-- the page is free of that rule
return_in_page : command (codes "{\"do\":\"open\",\"page\":\"\\r\"}") ≡ Ok (OpenPage (13 ∷ []) 1)
unfolding page_on_literals is_utf8
return_in_page = refl

other_marks : IsBad (codes "{\"do\":\"text\",\"at\":0,\"text\":\"a\",\"marks\":\"right\",\"site\":-1}") field.Marks
unfolding page_on_literals is_utf8
other_marks = refl

bad_site : IsBad (codes "{\"do\":\"text\",\"at\":0,\"text\":\"a\",\"site\":-1}") field.Site
unfolding page_on_literals is_utf8
bad_site = refl

one_name_twice : IsBad (codes "{\"do\":\"mark\",\"from\":1,\"to\":2,\"tag\":\"b\",\"attrs\":[[\"id\",\"x\"],[\"id\",\"y\"]]}") field.Attrs
unfolding page_on_literals is_utf8
one_name_twice = refl

no_attribute_name : IsBad (codes "{\"do\":\"attr\",\"at\":0,\"name\":\"a b\",\"to\":null}") field.Name
unfolding page_on_literals is_utf8
no_attribute_name = refl

no_new_value : IsBad (codes "{\"do\":\"attr\",\"at\":0,\"name\":\"id\"}") field.To
unfolding page_on_literals is_utf8
no_new_value = refl

no_kind_of_branch : IsBad (codes "{\"do\":\"convert\",\"at\":0,\"kind\":\"br\"}") field.Kind
unfolding page_on_literals is_utf8
no_kind_of_branch = refl

reserved_in_shape : IsBad (codes "{\"do\":\"wrap\",\"from\":0,\"to\":1,\"wrap_outer\":[{\"kind\":\"div\",\"attrs\":[[\"about\",\"x\"]]}],\"unwrap_each\":[\"img\"]}") field.WrapOuter
unfolding page_on_literals is_utf8
reserved_in_shape = refl

retain_nothing : IsBad (codes "{\"do\":\"apply\",\"ops\":[{\"retain\":0}]}") field.Ops
unfolding page_on_literals is_utf8
retain_nothing = refl

two_retains : IsBad (codes "{\"do\":\"apply\",\"ops\":[{\"retain\":1},{\"retain\":1}]}") field.Ops
unfolding page_on_literals is_utf8
two_retains = refl

attribute_last : IsBad (codes "{\"do\":\"apply\",\"ops\":[{\"retain\":1},{\"attr\":\"id\",\"to\":null}]}") field.Ops
unfolding page_on_literals is_utf8
attribute_last = refl

mark_that_marks_nothing : IsBad (codes "{\"do\":\"apply\",\"ops\":[{\"remove\":0,\"insert\":[[\"a\",[[\"div\",[]]]]]}]}") field.Ops
unfolding page_on_literals is_utf8
mark_that_marks_nothing = refl

marks_on_branch : IsBad (codes "{\"do\":\"apply\",\"ops\":[{\"remove\":0,\"insert\":[{\"open\":\"p\",\"marks\":[[\"b\",[]]]}]}]}") field.Ops
unfolding page_on_literals is_utf8
marks_on_branch = refl

white_text_before_text_end : IsBad (codes "{\"do\":\"apply\",\"ops\":[{\"remove\":0,\"insert\":[{\"close\":\"p\",\"pre\":\" \"}]}]}") field.Ops
unfolding page_on_literals is_utf8
white_text_before_text_end = refl

batch_of_none : IsBad (codes "{\"do\":\"batch\",\"cmds\":[]}") field.Cmds
unfolding page_on_literals is_utf8
batch_of_none = refl

batch_in_batch : IsBad (codes "{\"do\":\"batch\",\"cmds\":[{\"do\":\"batch\",\"cmds\":[{\"do\":\"split\",\"at\":1}]}]}") field.Cmds
unfolding page_on_literals is_utf8
batch_in_batch = refl

bad_in_batch : IsBad (codes "{\"do\":\"batch\",\"cmds\":[{\"do\":\"split\",\"at\":-1}],\"site\":-1}") field.Cmds
unfolding page_on_literals is_utf8
bad_in_batch = refl

other_direction : IsBad (codes "{\"do\":\"move\",\"dir\":\"up\",\"by\":\"line\"}") field.Dir
unfolding page_on_literals is_utf8
other_direction = refl

-- its place comes first, and it has no default direction
near_nothing : IsBad (codes "{\"do\":\"near\",\"dir\":\"up\"}") field.At
unfolding page_on_literals is_utf8
near_nothing = refl

near_nowhere : IsBad (codes "{\"do\":\"near\",\"at\":0,\"site\":-1}") field.Dir
unfolding page_on_literals is_utf8
near_nowhere = refl

other_step : IsBad (codes "{\"do\":\"move\",\"dir\":\"back\",\"by\":\"line\",\"keep\":1}") field.By
unfolding page_on_literals is_utf8
other_step = refl

keep_is_no_number : IsBad (codes "{\"do\":\"move\",\"dir\":\"back\",\"keep\":1}") field.Keep
unfolding page_on_literals is_utf8
keep_is_no_number = refl

no_row : IsBad (codes "{\"do\":\"row_in\",\"at\":0,\"column\":1}") field.Row
unfolding page_on_literals is_utf8
no_row = refl

no_entry : IsBad (codes "{\"do\":\"revoke\"}") field.Entry
unfolding page_on_literals is_utf8
no_entry = refl
