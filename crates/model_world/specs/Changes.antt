-- The ten commands that a batch may hold, as a line writes them.
use Rattle.std.specs.Prelude.{ℕ, false, List, [], ◌∷◌, codes, Option, Some, None, option_and_then, Result, Ok, Err}
use Rattle.serde_json.specs.Data.{Data, Members}
use Rattle.serde_json.specs.Find.{get_member, as_bool, as_object}
use Rattle.ve_base.specs.declared.marks.Mark as base
use Rattle.model_world.specs.declared.edit_command.TextMarks.{TextMarks}
use Rattle.model_world.specs.declared.edit_command.TextMarks.TheVariants as text_marks
use Rattle.model_world.specs.declared.edit_command.EditCommand.{EditCommand}
use Rattle.model_world.specs.declared.edit_command.EditCommand.TheVariants as change
use Rattle.model_world.specs.declared.field.Field.{Field}
use Rattle.model_world.specs.declared.field.Field.TheVariants as field
use Rattle.model_world.specs.Names.{field_name}
use Rattle.model_world.specs.Values.{such_that, number_in, source_in, text_in, text_or_null_in, is_some_text, word_in}
use Rattle.model_world.specs.Attributes.{name_in, attrs_in, branch_in, kinds_in, shapes_in}
use Rattle.model_world.specs.Operations.{ops_in}
use Rattle.model_world.specs.Members.{Reader, ◌>>=◌, required_member, optional_member}

abbrev pub some_text_in : Data → Option (List ℕ)
some_text_in json = such_that is_some_text (text_in json)

abbrev pub some_source_in : Data → Option (List ℕ)
some_source_in json = such_that is_some_text (source_in json)

-- which marks typed characters get
abbrev pub text_marks_in : Data → Option TextMarks
text_marks_in = word_in ((codes "left", text_marks.Left) ∷ (codes "none", text_marks.Plain) ∷ [])

abbrev pub text_read : Reader EditCommand
text_read members = do
  at ← required_member field.At number_in members
  text ← required_member field.Text some_text_in members
  marks ← optional_member field.Marks text_marks.Left text_marks_in members
  Ok (change.Text at text marks)

abbrev pub insert_read : Reader EditCommand
insert_read members = do
  at ← required_member field.At number_in members
  html ← required_member field.Html some_source_in members
  Ok (change.Insert at html)

abbrev pub remove_read : Reader EditCommand
remove_read members = do
  from ← required_member field.From number_in members
  to ← required_member field.To number_in members
  Ok (change.Remove from to)

abbrev pub split_read : Reader EditCommand
split_read members = do
  at ← required_member field.At number_in members
  depth ← optional_member field.Depth 1 number_in members
  Ok (change.Split at depth)

-- `mark` and `unmark` have the same members
abbrev pub mark_read : (ℕ → ℕ → base.Mark → EditCommand) → Reader EditCommand
mark_read changed members = do
  from ← required_member field.From number_in members
  to ← required_member field.To number_in members
  tag ← required_member field.Tag text_in members
  attrs ← optional_member field.Attrs [] attrs_in members
  Ok (changed from to (record { tag = tag; attrs = attrs }))

abbrev pub wrap_read : Reader EditCommand
wrap_read members = do
  from ← required_member field.From number_in members
  to ← required_member field.To number_in members
  unwrap_outer ← optional_member field.UnwrapOuter [] kinds_in members
  wrap_outer ← optional_member field.WrapOuter [] shapes_in members
  unwrap_each ← optional_member field.UnwrapEach [] kinds_in members
  wrap_each ← optional_member field.WrapEach [] shapes_in members
  Ok (
      change.Wrap from to (record { unwrap_outer = unwrap_outer; wrap_outer = wrap_outer; unwrap_each = unwrap_each; wrap_each = wrap_each })
      )

abbrev pub convert_read : Reader EditCommand
convert_read members = do
  at ← required_member field.At number_in members
  kind ← required_member field.Kind branch_in members
  Ok (change.Convert at kind)

abbrev pub attr_read : Reader EditCommand
attr_read members = do
  at ← required_member field.At number_in members
  name ← required_member field.Name name_in members
  to ← required_member field.To text_or_null_in members
  Ok (change.Attr at name to)

abbrev pub apply_read : Reader EditCommand
apply_read members = do
  exact ← optional_member field.Exact false as_bool members
  ops ← required_member field.Ops (ops_in exact) members
  Ok (change.Apply ops)

-- each with its word
abbrev pub changes : List (List ℕ × Reader EditCommand)
changes =
    (codes "text", text_read)
    ∷ (codes "insert", insert_read)
    ∷ (codes "remove", remove_read)
    ∷ (codes "split", split_read)
    ∷ (codes "mark", mark_read (λ from to mark. change.Mark from to mark))
    ∷ (codes "unmark", mark_read (λ from to mark. change.Unmark from to mark))
    ∷ (codes "wrap", wrap_read)
    ∷ (codes "convert", convert_read)
    ∷ (codes "attr", attr_read)
    ∷ (codes "apply", apply_read)
    ∷ []

-- the reader of the command that `do` names
abbrev pub reader_in : {A : Type 0} → List (List ℕ × Reader A) → Members → Option (Reader A)
reader_in rows members = option_and_then (word_in rows) (get_member (field_name field.Do) members)

abbrev pub if_well_formed : {A : Type 0} → Result A Field → Option A
if_well_formed (Ok x) = Some x
if_well_formed (Err field) = None

-- a command of a batch, where it is well formed; a `site` there is ignored
abbrev pub change_with : Members → Option EditCommand
change_with members = option_and_then (λ read. if_well_formed (read members)) (reader_in changes members)

abbrev pub change_in : Data → Option EditCommand
change_in json = option_and_then change_with (as_object json)
