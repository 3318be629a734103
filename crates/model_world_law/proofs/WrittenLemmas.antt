-- Lines that are read: each command's members are well written.
use Rattle.std.proofs.Common.{◌≡◌, ℕ, ◌<◌, true, false, List, [], ◌∷◌, length, map, Option, Some, None, Result, Ok, Err, subst}
use Rattle.std.specs.Prelude.{bytes_eq}
use Rattle.std.proofs.lemmas.Bool.{ltb-true}
use Rattle.ve_base.specs.Limits.{max_sites}
use Rattle.serde_json.specs.Data.{Data, null, boolean, number, string, array, object, Members}
use Rattle.serde_json.specs.Find.{get_member, as_str, as_bool, as_object}
use Rattle.ve_base.specs.declared.marks.Mark as base
use Rattle.model_edit.specs.declared.selection.By.TheVariants.{Cluster}
use Rattle.model_world.specs.declared.edit_command.TextMarks.TheVariants as text_marks
use Rattle.model_world.specs.declared.edit_command.EditCommand.{EditCommand}
use Rattle.model_world.specs.declared.edit_command.EditCommand.TheVariants as change
use Rattle.model_world.specs.declared.command.Request.{Request}
use Rattle.model_world.specs.declared.command.Request.TheVariants as request
use Rattle.model_world.specs.declared.command.Command.{Command}
use Rattle.model_world.specs.declared.command.Command.TheVariants.{OpenPage, Ask}
use Rattle.model_world.specs.declared.field.Field.{Field}
use Rattle.model_world.specs.declared.field.Field.TheVariants as field
use Rattle.model_world.specs.Names.{field_name}
use Rattle.model_world.specs.Values.{such_that, number_in, some_number_in, number_between, source_in, text_in, text_or_null_in, list_in, meant_by, word_in, member_in, member_or, is_some_text}
use Rattle.model_world.specs.Members.{Reader, or_bad, required_member, optional_member, map_reader}
use Rattle.model_world.specs.Members as members
use Rattle.model_world.specs.Attributes.{name_in, attrs_in, branch_in, kinds_in, shapes_in}
use Rattle.model_world.specs.Operations.{ops_in}
use Rattle.model_world.specs.Changes.{some_text_in, some_source_in, text_marks_in, text_read, insert_read, remove_read, split_read, mark_read, wrap_read, convert_read, attr_read, apply_read, changes, reader_in, if_well_formed, change_with, change_in}
use Rattle.model_world.specs.Commands.{dir_in, by_in, at_read, table_read, show_read, near_read, is_batch, batch_read, select_read, move_read, type_read, erase_read, revoke_read, requests, ask_read, open_read, commands, or_bad_command, read_by, command_in, command_or_refusal}
use Rattle.model_world.specs.Values.{line_json}
use Rattle.model_edit.specs.declared.wrap_plan.Shape.{Shape}
use Rattle.model_world.specs.declared.edit_command.OpWords.{OpWords}
use Rattle.model_world_law.specs.Standing.{OpsRead, ShapesOfElements}
use Rattle.model_world_law.proofs.StandReadLemmas.{ops_read, shapes_of_elements}
use Rattle.model_world_law.specs.Fit.{IsRead, AllRead, RequestRead, LinesAreWritten}
use Rattle.model_edit_law.specs.ApartLaws.{ShapesApart}
use Rattle.model_world_law.proofs.ReadLemmas.{Of-then, Of-then_with, Of-such_that, Of-passing, Of-always, Of-choice, Of-list_in, Of-member_in, Of-member_or, Of-weaken, shapes_apart, ops_written, Of, OfOk, Each, OpsWritten}

-- ---- members of commands

bind : {A B : Type 0} (P : B → Type 0) (r : Result A Field) (f : A → Result B Field) → ((x : A) → OfOk P (f x)) → OfOk P (members.◌>>=◌ r f)
bind P (Ok x) f h = h x
bind P (Err e) f h = tt

bind_with : {A B : Type 0} (Q : A → Type 0) (P : B → Type 0) (r : Result A Field) (f : A → Result B Field) → OfOk Q r → ((x : A) → Q x → OfOk P (f x)) → OfOk P (members.◌>>=◌ r f)
bind_with Q P (Ok x) f q h = h x q
bind_with Q P (Err e) f q h = tt

bad_or : {A : Type 0} (P : A → Type 0) (bad : Field) (o : Option A) → Of P o → OfOk P (or_bad bad o)
bad_or P bad None h = tt
bad_or P bad (Some x) h = h

needed_is : {A : Type 0} (P : A → Type 0) (bad : Field) (read : Data → Option A) (ms : Members) → ((json : Data) → Of P (read json)) → OfOk P (required_member bad read ms)
needed_is P bad read ms h = bad_or P bad (member_in (field_name bad) read ms) (Of-member_in P (field_name bad) read ms h)

defaulted_is : {A : Type 0} (P : A → Type 0) (bad : Field) (default : A) (read : Data → Option A) (ms : Members) → P default → ((json : Data) → Of P (read json)) → OfOk P (optional_member bad default read ms)
defaulted_is P bad default read ms d h = bad_or P bad (member_or (field_name bad) default read ms) (Of-member_or P (field_name bad) default read ms d h)

-- ---- changes

abbrev Reads : {A : Type 0} → (A → Type 0) → Reader A → Type 0
Reads P read = (ms : Members) → OfOk P (read ms)

text_written : Reads IsRead text_read
text_written ms = bind IsRead (required_member field.At number_in ms) _ (λ at. bind IsRead (required_member field.Text some_text_in ms) _ (λ text. bind IsRead (optional_member field.Marks text_marks.Left text_marks_in ms) _ (λ marks. tt)))

insert_written : Reads IsRead insert_read
insert_written ms = bind IsRead (required_member field.At number_in ms) _ (λ at. bind IsRead (required_member field.Html some_source_in ms) _ (λ html. tt))

remove_written : Reads IsRead remove_read
remove_written ms = bind IsRead (required_member field.From number_in ms) _ (λ from. bind IsRead (required_member field.To number_in ms) _ (λ to. tt))

split_written : Reads IsRead split_read
split_written ms = bind IsRead (required_member field.At number_in ms) _ (λ at. bind IsRead (optional_member field.Depth 1 number_in ms) _ (λ depth. tt))

mark_written : (changed : ℕ → ℕ → base.Mark → EditCommand) → ((from to : ℕ) (mark : base.Mark) → IsRead (changed from to mark)) → Reads IsRead (mark_read changed)
mark_written changed h ms = bind IsRead (required_member field.From number_in ms) _ (λ from. bind IsRead (required_member field.To number_in ms) _ (λ to. bind IsRead (required_member field.Tag text_in ms) _ (λ tag. bind IsRead (optional_member field.Attrs [] attrs_in ms) _ (λ attrs. h from to (record { tag = tag; attrs = attrs })))))

both : {A : Type 0} (P Q : A → Type 0) (o : Option A) → Of P o → Of Q o → Of (λ x. P x × Q x) o
both P Q None p q = tt
both P Q (Some x) p q = (p, q)

abbrev Shapes : List Shape → Type 0
Shapes shapes = ShapesApart shapes × ShapesOfElements shapes

shapes_written : (json : Data) → Of Shapes (shapes_in json)
shapes_written json = both ShapesApart ShapesOfElements (shapes_in json) (shapes_apart json) (shapes_of_elements json)

wrap_written : Reads IsRead wrap_read
wrap_written ms =
    bind IsRead (required_member field.From number_in ms) _ (λ from. bind IsRead (required_member field.To number_in ms) _ (λ to. bind IsRead (optional_member field.UnwrapOuter [] kinds_in ms) _ (λ unwrap_outer.
    bind_with Shapes IsRead (optional_member field.WrapOuter [] shapes_in ms) _ (defaulted_is Shapes field.WrapOuter [] shapes_in ms (tt, tt) shapes_written) (λ wrap_outer p.
    bind IsRead (optional_member field.UnwrapEach [] kinds_in ms) _ (λ unwrap_each.
    bind_with Shapes IsRead (optional_member field.WrapEach [] shapes_in ms) _ (defaulted_is Shapes field.WrapEach [] shapes_in ms (tt, tt) shapes_written) (λ wrap_each q. ((p.0, q.0), (p.1, q.1))))))))

convert_written : Reads IsRead convert_read
convert_written ms = bind IsRead (required_member field.At number_in ms) _ (λ at. bind IsRead (required_member field.Kind branch_in ms) _ (λ kind. tt))

attr_written : Reads IsRead attr_read
attr_written ms = bind IsRead (required_member field.At number_in ms) _ (λ at. bind IsRead (required_member field.Name name_in ms) _ (λ name. bind IsRead (required_member field.To text_or_null_in ms) _ (λ to. tt)))

abbrev OpsAll : List OpWords → Type 0
OpsAll ops = OpsWritten ops × OpsRead ops

apply_written : Reads IsRead apply_read
apply_written ms =
    bind IsRead (optional_member field.Exact false as_bool ms) _ (λ exact.
    bind_with OpsAll IsRead (required_member field.Ops (ops_in exact) ms) _
    (needed_is OpsAll field.Ops (ops_in exact) ms (λ json. both OpsWritten OpsRead (ops_in exact json) (ops_written exact json) (ops_read exact json)))
    (λ ops p. (p.0.0, p.0.1, p.1)))

-- each row's reader
abbrev Rows : {A : Type 0} → (A → Type 0) → List (List ℕ × Reader A) → Type 0
Rows P [] = Unit {0}
Rows P (row ∷ rows) = Reads P row.1 × Rows P rows

changes_written : Rows IsRead changes
changes_written = (
  text_written,
  (
    insert_written,
    (
      remove_written,
      (
        split_written,
        (
          mark_written (λ from to mark. change.Mark from to mark) (λ from to mark. tt),
          (
            mark_written (λ from to mark. change.Unmark from to mark) (λ from to mark. tt),
            (wrap_written, (convert_written, (attr_written, (apply_written, tt)))),
          ),
        ),
      ),
    ),
  ),
)

found : {A : Type 0} (P : A → Type 0) (rows : List (List ℕ × Reader A)) → Rows P rows → (word : List ℕ) → Of (Reads P) (meant_by rows word)
found P [] h word = tt
found P (row ∷ rows) h word = Of-choice (Reads P) (bytes_eq row.0 word) (Some row.1) (meant_by rows word) h.0 (found P rows h.1 word)

reader_found : {A : Type 0} (P : A → Type 0) (rows : List (List ℕ × Reader A)) → Rows P rows → (ms : Members) → Of (Reads P) (reader_in rows ms)
reader_found P rows h ms =
    Of-then (Reads P) (word_in rows) (get_member (field_name field.Do) ms) (λ json. Of-then (Reads P) (meant_by rows) (as_str json) (found P rows h))

well_formed : {A : Type 0} (P : A → Type 0) (r : Result A Field) → OfOk P r → Of P (if_well_formed r)
well_formed P (Ok x) h = h
well_formed P (Err e) h = tt

change_written : (json : Data) → Of IsRead (change_in json)
change_written json =
    Of-then IsRead change_with (as_object json) (λ ms.
    Of-then_with (Reads IsRead) IsRead (λ read. if_well_formed (read ms)) (reader_in changes ms) (reader_found IsRead changes changes_written ms) (λ read h. well_formed IsRead (read ms) (h ms)))

-- ---- requests

each_change : (cmds : List EditCommand) → Each IsRead cmds → AllRead cmds
each_change [] p = tt
each_change (c ∷ cmds) p = (p.0, each_change cmds p.1)

cmds_written : (json : Data) → Of AllRead (such_that is_batch (list_in change_in json))
cmds_written json = Of-passing AllRead is_batch (list_in change_in json) (Of-weaken (Each IsRead) AllRead (list_in change_in json) (Of-list_in IsRead change_in change_written json) each_change)

batch_written : Reads RequestRead batch_read
batch_written ms = bind_with AllRead RequestRead (required_member field.Cmds (λ json. such_that is_batch (list_in change_in json)) ms) _ (needed_is AllRead field.Cmds (λ json. such_that is_batch (list_in change_in json)) ms cmds_written) (λ cmds p. p)

at_written : (asked : ℕ → Request) → ((at : ℕ) → RequestRead (asked at)) → Reads RequestRead (at_read asked)
at_written asked h ms = bind RequestRead (required_member field.At number_in ms) _ (λ at. h at)

table_written : (line : Field) (asked : ℕ → ℕ → Request) → ((at n : ℕ) → RequestRead (asked at n)) → Reads RequestRead (table_read line asked)
table_written line asked h ms = bind RequestRead (required_member field.At number_in ms) _ (λ at. bind RequestRead (required_member line number_in ms) _ (λ n. h at n))

show_written : Reads RequestRead show_read
show_written ms = bind RequestRead (optional_member field.From 0 number_in ms) _ (λ from. bind RequestRead (optional_member field.To None some_number_in ms) _ (λ to. tt))

select_written : Reads RequestRead select_read
select_written ms = bind RequestRead (required_member field.Anchor number_in ms) _ (λ anchor. bind RequestRead (required_member field.Focus number_in ms) _ (λ focus. tt))

near_written : Reads RequestRead near_read
near_written ms = bind RequestRead (required_member field.At number_in ms) _ (λ at. bind RequestRead (required_member field.Dir dir_in ms) _ (λ dir. tt))

move_written : Reads RequestRead move_read
move_written ms = bind RequestRead (required_member field.Dir dir_in ms) _ (λ dir. bind RequestRead (optional_member field.By Cluster by_in ms) _ (λ by. bind RequestRead (optional_member field.Keep false as_bool ms) _ (λ keep. tt)))

some_text : (json : Data) → Of (λ text. 0 < length text) (some_text_in json)
some_text json =
    Of-such_that (λ text. 0 < length text) is_some_text (text_in json)
    (Of-always (λ text. is_some_text text ≡ true → 0 < length text) (text_in json) (λ text h. ltb-true 0 (length text) h))

type_written : Reads RequestRead type_read
type_written ms =
    bind_with (λ text. 0 < length text) RequestRead (required_member field.Text some_text_in ms) _ (needed_is (λ text. 0 < length text) field.Text some_text_in ms some_text) (λ text p. p)

erase_written : Reads RequestRead erase_read
erase_written ms = bind RequestRead (required_member field.Dir dir_in ms) _ (λ dir. bind RequestRead (optional_member field.By Cluster by_in ms) _ (λ by. tt))

revoke_written : Reads RequestRead revoke_read
revoke_written ms = bind RequestRead (required_member field.Entry number_in ms) _ (λ entry. bind RequestRead (optional_member field.Live false as_bool ms) _ (λ live. tt))

edit_rows : (rows : List (List ℕ × Reader EditCommand)) → Rows IsRead rows → Rows RequestRead (map (λ (row : List ℕ × Reader EditCommand). (row.0, map_reader (λ c. request.Edit c) row.1)) rows)
edit_rows [] h = tt
edit_rows (row ∷ rows) h = ((λ ms. bind_with IsRead RequestRead (row.1 ms) _ (h.0 ms) (λ c p. p)), edit_rows rows h.1)

requests_written : Rows RequestRead requests
requests_written = (
  (λ ms. tt),
  (
    (λ ms. tt),
    (
      (λ ms. tt),
      (
        (λ ms. tt),
        (
          (λ ms. tt),
          (
            (λ ms. tt),
            (
              (λ ms. tt),
              (
                (λ ms. tt),
                (
                  (λ ms. tt),
                  (
                    (λ ms. tt),
                    (
                      show_written,
                      (
                        at_written (λ at. request.At at) (λ at. tt),
                        (
                          near_written,
                          (
                            batch_written,
                            (
                              select_written,
                              (
                                move_written,
                                (
                                  type_written,
                                  (
                                    erase_written,
                                    (
                                      at_written (λ at. request.Grid at) (λ at. tt),
                                      (
                                        table_written field.Row (λ at row. request.RowIn at row) (λ at row. tt),
                                        (
                                          table_written field.Row (λ at row. request.RowOut at row) (λ at row. tt),
                                          (
                                            table_written field.Column (λ at column. request.ColIn at column) (λ at column. tt),
                                            (
                                              table_written field.Column (λ at column. request.ColOut at column) (λ at column. tt),
                                              (
                                                at_written (λ at. request.Indent at) (λ at. tt),
                                                (
                                                  at_written (λ at. request.Outdent at) (λ at. tt),
                                                  (
                                                    revoke_written,
                                                    edit_rows changes changes_written,
                                                  ),
                                                ),
                                              ),
                                            ),
                                          ),
                                        ),
                                      ),
                                    ),
                                  ),
                                ),
                              ),
                            ),
                          ),
                        ),
                      ),
                    ),
                  ),
                ),
              ),
            ),
          ),
        ),
      ),
    ),
  ),
)

-- ---- commands

abbrev CommandWritten : Command → Type 0
CommandWritten (OpenPage page sites) = Unit {0}
CommandWritten (Ask asked k) = RequestRead asked

ask_rows : (rows : List (List ℕ × Reader Request)) → Rows RequestRead rows → Rows CommandWritten (map (λ (row : List ℕ × Reader Request). (row.0, ask_read row.1)) rows)
ask_rows [] h = tt
ask_rows (row ∷ rows) h = ((λ ms. bind_with RequestRead CommandWritten (row.1 ms) _ (h.0 ms) (λ asked p. bind CommandWritten (optional_member field.Site 0 number_in ms) _ (λ site. p))), ask_rows rows h.1)

open_written : Reads CommandWritten open_read
open_written ms = bind CommandWritten (required_member field.Page source_in ms) _ (λ page. bind CommandWritten (optional_member field.Sites 1 (number_between 1 max_sites) ms) _ (λ sites. tt))

commands_written : Rows CommandWritten commands
commands_written = (open_written, ask_rows requests requests_written)

named_written : (r : Result Command Field) → OfOk CommandWritten r → OfOk CommandWritten (or_bad_command r)
named_written (Ok c) h = h
named_written (Err e) h = tt

read_written : (o : Option (Reader Command)) (ms : Members) → Of (Reads CommandWritten) o → OfOk CommandWritten (read_by o ms)
read_written None ms h = tt
read_written (Some read) ms h = named_written (read ms) (h ms)

json_written : (json : Data) → OfOk CommandWritten (command_in json)
json_written null = tt
json_written (boolean b) = tt
json_written (number n) = tt
json_written (string s) = tt
json_written (array items) = tt
json_written (object ms) = read_written (reader_in commands ms) ms (reader_found CommandWritten commands commands_written ms)

line_written : (o : Option Data) → OfOk CommandWritten (command_or_refusal o)
line_written None = tt
line_written (Some json) = json_written json

pub lines_are_written : LinesAreWritten
lines_are_written line asked k h = subst (OfOk CommandWritten) h (line_written (line_json line))
