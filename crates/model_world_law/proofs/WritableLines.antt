-- What a line asks for, a line can write: the strings of a line are UTF-8.
use Rattle.std.proofs.Common.{◌≡◌, ℕ, Bool, true, false, List, [], ◌∷◌, drop, map, Option, Some, None, Result, Ok, Err, bytes_eq, if◌then◌else◌, refl, subst}
use Rattle.std.specs.Prelude.{IfSome}
use Rattle.std.specs.List.{AllByRecursion}
use Rattle.std.specs.Str.{all_scalars, is_utf8}
use Rattle.std.proofs.lemmas.Str.{IsUtf8-from_is_utf8}
use Rattle.serde_json.specs.Data.{Data, Members, array, boolean, null, number, object, string}
use Rattle.serde_json.specs.Find.{as_bool, as_str, get_member}
use Rattle.serde_json.specs.Read.{read}
use Rattle.ve_base.specs.Limits.{max_sites}
use Rattle.model_edit.specs.declared.selection.By.TheVariants.{Cluster}
use Rattle.model_page_law.proofs.ReadUtf8.{read_utf8}
use Rattle.model_world.specs.Attributes.{attrs_in, branch_in, kinds_in, name_in, shapes_in}
use Rattle.model_world.specs.Changes.{apply_read, attr_read, change_in, change_with, changes, convert_read, if_well_formed, insert_read, mark_read, reader_in, remove_read, some_source_in, some_text_in, split_read, text_marks_in, text_read, wrap_read}
use Rattle.model_world.specs.Commands.{alone, ask_read, at_read, batch_read, by_in, command_in, command_or_refusal, commands, dir_in, erase_read, is_batch, move_read, near_read, open_read, or_bad_command, read_by, requests, revoke_read, select_read, show_read, table_read, type_read}
use Rattle.model_world.specs.Members as members
use Rattle.model_world.specs.Members.{Reader, map_reader, optional_member, or_bad, required_member}
use Rattle.model_world.specs.Names.{field_name}
use Rattle.model_world.specs.Operations.{ops_in}
use Rattle.model_world.specs.Values.{is_some_text, line_json, list_in, meant_by, member_in, member_or, number_between, number_in, some_number_in, source_in, such_that, text_in, text_or_null_in, word_in}
use Rattle.model_world.specs.declared.command.Command.{Command}
use Rattle.model_world.specs.declared.command.Command.TheVariants.{Ask, OpenPage}
use Rattle.model_world.specs.declared.command.Request.{Request}
use Rattle.model_world.specs.declared.command.Request.TheVariants as request
use Rattle.model_world.specs.declared.edit_command.EditCommand.{EditCommand}
use Rattle.model_world.specs.declared.edit_command.EditCommand.TheVariants as change
use Rattle.model_world.specs.declared.edit_command.TextMarks.TheVariants as text_marks
use Rattle.model_world.specs.declared.field.Field.{Field}
use Rattle.model_world.specs.declared.field.Field.TheVariants as field
use Rattle.model_world_law.specs.Writable.{ChangeIsWritable, LinesAreWritable, OpsAreWritable, RequestIsWritable, ShapesAreWritable, is_text}
use Rattle.model_world_law.proofs.ReadLemmas.{Each, Of, Of-choice, Of-passing, Of-then, Of-then_with, Of-weaken, OfOk}
use Rattle.model_world_law.proofs.WritableWords.{Attributes, NameIs, Plain, PlainIn, TextOrNone, attrs_in_are, in_list, in_member, name_is, object_is, ops_are, or_member, shapes_are, source_is, spelled, text_is, text_or_null_is}

-- ---- readers of members

abbrev Reads : {A : Type 0} → (A → Type 0) → Reader A → Type 0
Reads P read = (ms : Members) → PlainIn ms → OfOk P (read ms)

bind : {A B : Type 0} (P : B → Type 0) (r : Result A Field) (f : A → Result B Field) → ((x : A) → OfOk P (f x)) → OfOk P (members.◌>>=◌ r f)
bind P (Ok x) f h = h x
bind P (Err e) f h = tt

bind_with : {A B : Type 0} (Q : A → Type 0) (P : B → Type 0) (r : Result A Field) (f : A → Result B Field) → OfOk Q r → ((x : A) → Q x → OfOk P (f x)) → OfOk P (members.◌>>=◌ r f)
bind_with Q P (Ok x) f q h = h x q
bind_with Q P (Err e) f q h = tt

bad_or : {A : Type 0} (P : A → Type 0) (bad : Field) (o : Option A) → Of P o → OfOk P (or_bad bad o)
bad_or P bad None h = tt
bad_or P bad (Some x) h = h

needed : {A : Type 0} (P : A → Type 0) (bad : Field) (read : Data → Option A) (ms : Members) → PlainIn ms → ((json : Data) → Plain json → Of P (read json)) → OfOk P (required_member bad read ms)
needed P bad read ms u h = bad_or P bad (member_in (field_name bad) read ms) (in_member P (field_name bad) read ms u h)

defaulted : {A : Type 0} (P : A → Type 0) (bad : Field) (default : A) (read : Data → Option A) (ms : Members) → PlainIn ms → P default → ((json : Data) → Plain json → Of P (read json)) →
    OfOk P (optional_member bad default read ms)
defaulted P bad default read ms u d h = bad_or P bad (member_or (field_name bad) default read ms) (or_member P (field_name bad) default read ms u d h)

-- ---- changes

abbrev IsText : List ℕ → Type 0
IsText text = is_text text ≡ true

abbrev Says : EditCommand → Type 0
Says c = ChangeIsWritable c

some_text : (json : Data) → Plain json → Of IsText (some_text_in json)
some_text json u = Of-passing IsText is_some_text (text_in json) (text_is json u)

abbrev IsSource : List ℕ → Type 0
IsSource html = all_scalars html ≡ true

some_source : (json : Data) → Plain json → Of IsSource (some_source_in json)
some_source json u = Of-passing IsSource is_some_text (source_in json) (source_is json u)

text_says : Reads Says text_read
text_says ms u =
    bind Says (required_member field.At number_in ms) _ (λ at. bind_with IsText Says (required_member field.Text some_text_in ms) _ (needed IsText field.Text some_text_in ms u some_text) (λ text t.
    bind Says (optional_member field.Marks text_marks.Left text_marks_in ms) _ (λ marks. t)))

insert_says : Reads Says insert_read
insert_says ms u =
    bind Says (required_member field.At number_in ms) _ (λ at. bind_with IsSource Says (required_member field.Html some_source_in ms) _ (needed IsSource field.Html some_source_in ms u some_source) (λ html h. h))

remove_says : Reads Says remove_read
remove_says ms u = bind Says (required_member field.From number_in ms) _ (λ from. bind Says (required_member field.To number_in ms) _ (λ to. tt))

split_says : Reads Says split_read
split_says ms u = bind Says (required_member field.At number_in ms) _ (λ at. bind Says (optional_member field.Depth 1 number_in ms) _ (λ depth. tt))

unmark_says : Reads Says (mark_read (λ from to mark. change.Unmark from to mark))
unmark_says ms u =
    bind Says (required_member field.From number_in ms) _ (λ from. bind Says (required_member field.To number_in ms) _ (λ to. bind Says (required_member field.Tag text_in ms) _ (λ tag. bind Says (optional_member field.Attrs [] attrs_in ms) _ (λ attrs. tt))))

mark_says : Reads Says (mark_read (λ from to mark. change.Mark from to mark))
mark_says ms u =
    bind Says (required_member field.From number_in ms) _ (λ from. bind Says (required_member field.To number_in ms) _ (λ to.
    bind_with IsText Says (required_member field.Tag text_in ms) _ (needed IsText field.Tag text_in ms u text_is) (λ tag t.
    bind_with Attributes Says (optional_member field.Attrs [] attrs_in ms) _ (defaulted Attributes field.Attrs [] attrs_in ms u (refl, refl) attrs_in_are) (λ attrs a. spelled tag attrs t a))))

wrap_says : Reads Says wrap_read
wrap_says ms u =
    bind Says (required_member field.From number_in ms) _ (λ from. bind Says (required_member field.To number_in ms) _ (λ to. bind Says (optional_member field.UnwrapOuter [] kinds_in ms) _ (λ unwrap_outer.
    bind_with ShapesAreWritable Says (optional_member field.WrapOuter [] shapes_in ms) _ (defaulted ShapesAreWritable field.WrapOuter [] shapes_in ms u tt shapes_are) (λ wrap_outer p.
    bind Says (optional_member field.UnwrapEach [] kinds_in ms) _ (λ unwrap_each.
    bind_with ShapesAreWritable Says (optional_member field.WrapEach [] shapes_in ms) _ (defaulted ShapesAreWritable field.WrapEach [] shapes_in ms u tt shapes_are) (λ wrap_each q. (p, q)))))))

convert_says : Reads Says convert_read
convert_says ms u = bind Says (required_member field.At number_in ms) _ (λ at. bind Says (required_member field.Kind branch_in ms) _ (λ kind. tt))

attr_says : Reads Says attr_read
attr_says ms u =
    bind Says (required_member field.At number_in ms) _ (λ at. bind_with NameIs Says (required_member field.Name name_in ms) _ (needed NameIs field.Name name_in ms u name_is) (λ name n.
    bind_with (TextOrNone name) Says (required_member field.To text_or_null_in ms) _ (needed (TextOrNone name) field.To text_or_null_in ms u (text_or_null_is name n)) (λ to t. t)))

apply_says : Reads Says apply_read
apply_says ms u =
    bind Says (optional_member field.Exact false as_bool ms) _ (λ exact.
    bind_with OpsAreWritable Says (required_member field.Ops (ops_in exact) ms) _ (needed OpsAreWritable field.Ops (ops_in exact) ms u (ops_are exact)) (λ ops p. p))

-- each row's reader
abbrev Rows : {A : Type 0} → (A → Type 0) → List (List ℕ × Reader A) → Type 0
Rows P [] = Unit {0}
Rows P (row ∷ rows) = Reads P row.1 × Rows P rows

changes_say : Rows Says changes
changes_say = (text_says, (insert_says, (remove_says, (split_says, (mark_says, (unmark_says, (wrap_says, (convert_says, (attr_says, (apply_says, tt))))))))))

found : {A : Type 0} (P : A → Type 0) (rows : List (List ℕ × Reader A)) → Rows P rows → (word : List ℕ) → Of (Reads P) (meant_by rows word)
found P [] h word = tt
found P (row ∷ rows) h word = Of-choice (Reads P) (bytes_eq row.0 word) (Some row.1) (meant_by rows word) h.0 (found P rows h.1 word)

reader_found : {A : Type 0} (P : A → Type 0) (rows : List (List ℕ × Reader A)) → Rows P rows → (ms : Members) → Of (Reads P) (reader_in rows ms)
reader_found P rows h ms =
    Of-then (Reads P) (word_in rows) (get_member (field_name field.Do) ms) (λ json. Of-then (Reads P) (meant_by rows) (as_str json) (found P rows h))

well_formed : {A : Type 0} (P : A → Type 0) (r : Result A Field) → OfOk P r → Of P (if_well_formed r)
well_formed P (Ok x) h = h
well_formed P (Err e) h = tt

change_says : (json : Data) → Plain json → Of Says (change_in json)
change_says json u = object_is Says change_with (λ ms v.
    Of-then_with (Reads Says) Says (λ read. if_well_formed (read ms)) (reader_in changes ms) (reader_found Says changes changes_say ms) (λ read h. well_formed Says (read ms) (h ms v))) json u

-- ---- requests

abbrev Asks : Request → Type 0
Asks asked = RequestIsWritable asked

each_change : (cmds : List EditCommand) → Each Says cmds → AllByRecursion Says cmds
each_change [] p = tt
each_change (c ∷ cmds) p = (p.0, each_change cmds p.1)

cmds_say : (json : Data) → Plain json → Of (AllByRecursion Says) (such_that is_batch (list_in change_in json))
cmds_say json u =
    Of-passing (AllByRecursion Says) is_batch (list_in change_in json) (Of-weaken (Each Says) (AllByRecursion Says) (list_in change_in json) (in_list Says change_in change_says json u) each_change)

batch_says : Reads Asks batch_read
batch_says ms u =
    bind_with (AllByRecursion Says) Asks (required_member field.Cmds (λ json. such_that is_batch (list_in change_in json)) ms) _
    (needed (AllByRecursion Says) field.Cmds (λ json. such_that is_batch (list_in change_in json)) ms u cmds_say) (λ cmds p. p)

type_says : Reads Asks type_read
type_says ms u = bind_with IsText Asks (required_member field.Text some_text_in ms) _ (needed IsText field.Text some_text_in ms u some_text) (λ text t. t)

at_says : (asked : ℕ → Request) → ((at : ℕ) → Asks (asked at)) → Reads Asks (at_read asked)
at_says asked h ms u = bind Asks (required_member field.At number_in ms) _ (λ at. h at)

table_says : (line : Field) (asked : ℕ → ℕ → Request) → ((at n : ℕ) → Asks (asked at n)) → Reads Asks (table_read line asked)
table_says line asked h ms u = bind Asks (required_member field.At number_in ms) _ (λ at. bind Asks (required_member line number_in ms) _ (λ n. h at n))

show_says : Reads Asks show_read
show_says ms u = bind Asks (optional_member field.From 0 number_in ms) _ (λ from. bind Asks (optional_member field.To None some_number_in ms) _ (λ to. tt))

select_says : Reads Asks select_read
select_says ms u = bind Asks (required_member field.Anchor number_in ms) _ (λ anchor. bind Asks (required_member field.Focus number_in ms) _ (λ focus. tt))

near_says : Reads Asks near_read
near_says ms u = bind Asks (required_member field.At number_in ms) _ (λ at. bind Asks (required_member field.Dir dir_in ms) _ (λ dir. tt))

move_says : Reads Asks move_read
move_says ms u = bind Asks (required_member field.Dir dir_in ms) _ (λ dir. bind Asks (optional_member field.By Cluster by_in ms) _ (λ by. bind Asks (optional_member field.Keep false as_bool ms) _ (λ keep. tt)))

erase_says : Reads Asks erase_read
erase_says ms u = bind Asks (required_member field.Dir dir_in ms) _ (λ dir. bind Asks (optional_member field.By Cluster by_in ms) _ (λ by. tt))

revoke_says : Reads Asks revoke_read
revoke_says ms u = bind Asks (required_member field.Entry number_in ms) _ (λ entry. bind Asks (optional_member field.Live false as_bool ms) _ (λ live. tt))

edit_rows : (rows : List (List ℕ × Reader EditCommand)) → Rows Says rows → Rows Asks (map (λ (row : List ℕ × Reader EditCommand). (row.0, map_reader (λ c. request.Edit c) row.1)) rows)
edit_rows [] h = tt
edit_rows (row ∷ rows) h = ((λ ms u. bind_with Says Asks (row.1 ms) _ (h.0 ms u) (λ c p. p)), edit_rows rows h.1)

nothing : (asked : Request) → Asks asked → Reads Asks (alone asked)
nothing asked h ms u = h

tables_say : Rows Asks (drop 19 requests)
tables_say = (
  table_says field.Row (λ at row. request.RowIn at row) (λ at row. tt),
  (
    table_says field.Row (λ at row. request.RowOut at row) (λ at row. tt),
    (
      table_says field.Column (λ at column. request.ColIn at column) (λ at column. tt),
      (
        table_says field.Column (λ at column. request.ColOut at column) (λ at column. tt),
        (at_says (λ at. request.Indent at) (λ at. tt), (at_says (λ at. request.Outdent at) (λ at. tt), (revoke_says, edit_rows changes changes_say))),
      ),
    ),
  ),
)

shown_say : Rows Asks (drop 10 requests)
shown_say = (
  show_says,
  (
    at_says (λ at. request.At at) (λ at. tt),
    (near_says, (batch_says, (select_says, (move_says, (type_says, (erase_says, (at_says (λ at. request.Grid at) (λ at. tt), tables_say))))))),
  ),
)

requests_say : Rows Asks requests
requests_say = (
  nothing request.Html tt,
  (
    nothing request.Tree tt,
    (
      nothing request.Refs tt,
      (
        nothing request.Caret tt,
        (
          nothing request.Undo tt,
          (nothing request.Redo tt, (nothing request.Send tt, (nothing request.Serve tt, (nothing request.Take tt, (nothing request.Tell tt, shown_say))))),
        ),
      ),
    ),
  ),
)

-- ---- commands

abbrev Commands : Command → Type 0
Commands (OpenPage page sites) = Unit {0}
Commands (Ask asked k) = Asks asked

ask_rows : (rows : List (List ℕ × Reader Request)) → Rows Asks rows → Rows Commands (map (λ (row : List ℕ × Reader Request). (row.0, ask_read row.1)) rows)
ask_rows [] h = tt
ask_rows (row ∷ rows) h = ((λ ms u. bind_with Asks Commands (row.1 ms) _ (h.0 ms u) (λ asked p. bind Commands (optional_member field.Site 0 number_in ms) _ (λ site. p))), ask_rows rows h.1)

open_says : Reads Commands open_read
open_says ms u = bind Commands (required_member field.Page source_in ms) _ (λ page. bind Commands (optional_member field.Sites 1 (number_between 1 max_sites) ms) _ (λ sites. tt))

commands_say : Rows Commands commands
commands_say = (open_says, ask_rows requests requests_say)

named : (r : Result Command Field) → OfOk Commands r → OfOk Commands (or_bad_command r)
named (Ok c) h = h
named (Err e) h = tt

read_says : (o : Option (Reader Command)) (ms : Members) → PlainIn ms → Of (Reads Commands) o → OfOk Commands (read_by o ms)
read_says None ms u h = tt
read_says (Some read) ms u h = named (read ms) (h ms u)

json_says : (json : Data) → Plain json → OfOk Commands (command_in json)
json_says null u = tt
json_says (boolean b) u = tt
json_says (number n) u = tt
json_says (string s) u = tt
json_says (array items) u = tt
json_says (object ms) u = read_says (reader_in commands ms) ms u (reader_found Commands commands commands_say ms)

line_says : (line : List ℕ) → OfOk Commands (command_or_refusal (line_json line))
line_says line = by (is_utf8 line) refl
  where
    read_as : (o : Option Data) → IfSome o Plain → OfOk Commands (command_or_refusal o)
    read_as None u = tt
    read_as (Some json) u = json_says json u

    by : (b : Bool) → is_utf8 line ≡ b → OfOk Commands (command_or_refusal (if b then read line else None))
    by true e = read_as (read line) (read_utf8 line (IsUtf8-from_is_utf8 line e))
    by false e = tt

pub lines_are_writable : LinesAreWritable
lines_are_writable line asked k h = subst (OfOk Commands) h (line_says line)
