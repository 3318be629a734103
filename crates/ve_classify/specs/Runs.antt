-- Siblings of a flow parent as they are read: a run up to its end, and then what follows it.
use Rattle.std.specs.Prelude.{◌≡◌, Bool, true, false, not, ◌&&◌, [], ◌++◌}
use Rattle.ve_kinds.specs.declared.kind.Kind.{Kind}
use Rattle.model_page.specs.Parts.{Parts, Ended, Words, Note, Group, Single, Parent, source_of}
use Rattle.model_page.specs.Fit.{Flow, Content, has_inline_tags}
use Rattle.model_page.specs.Tags.{is_inline_tag}
use Rattle.model_page.specs.Pieces.{Made, Progress, past, joined_pieces}
use Rattle.model_page.specs.Convert.{made_of}

-- parts, one after the other
abbrev pub then_parts : Parts → Parts → Parts
then_parts Ended q = q
then_parts (Words text later) q = Words text (then_parts later q)
then_parts (Note text later) q = Note text (then_parts later q)
then_parts (Group nodes later) q = Group nodes (then_parts later q)
then_parts (Single name attrs source later) q = Single name attrs source (then_parts later q)
then_parts (Parent name attrs children later) q = Parent name attrs children (then_parts later q)

-- each part is a part of a run
abbrev pub is_run : Parts → Bool
is_run Ended = true
is_run (Words text later) = is_run later
is_run (Note text later) = false
is_run (Group nodes later) = has_inline_tags nodes && is_run later
is_run (Single name attrs source later) = is_inline_tag name && is_run later
is_run (Parent name attrs children later) = is_inline_tag name && is_run later

-- the first part, where there is one, is no part of a run
abbrev pub starts_block : Parts → Bool
starts_block Ended = true
starts_block (Words text later) = false
starts_block (Note text later) = true
starts_block (Group nodes later) = not (has_inline_tags nodes)
starts_block (Single name attrs source later) = not (is_inline_tag name)
starts_block (Parent name attrs children later) = not (is_inline_tag name)

-- a run that is read as content, before what follows it
abbrev pub run_before : Made → Made → Made
run_before run made = record { run = joined_pieces run.run made.run; source = run.source ++ made.source; later = made.later; pre = made.pre; owners = run.owners ++ made.owners }

-- In a flow parent a run is what it is in content, whatever follows it.
abbrev pub RunsSplit : Type 0
RunsSplit = (kind : Kind) (run rest : Parts) (w : Progress) → is_run run ≡ true →
    made_of (Flow kind) (then_parts run rest) w ≡ run_before (made_of (Content []) run w) (made_of (Flow kind) rest (past w (source_of run) (made_of (Content []) run w).owners))
