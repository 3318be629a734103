-- Where annotations stand too deep in one another, read from the first part on.
use Rattle.std.specs.Prelude.{◌≡◌, ℕ, ◌+◌, true, false, if◌then◌else◌, nat_lt, List, [], length, Option, Some, None}
use Rattle.std.specs.Option.{option_or}
use Rattle.model_spelling.specs.Grammar.{Attr, start_text}
use Rattle.ve_kinds.specs.declared.kind.Kind.{Kind}
use Rattle.ve_base.specs.Limits.{max_marks}
use Rattle.model_page.specs.Parts.{Parts, Ended, Words, Note, Group, Single, Parent, source_of}
use Rattle.model_page.specs.Fit.{Around, Flow, Content, Fit, Annotation, Leaf, Branch, Whole, around_in, fit_of}
use Rattle.model_page.specs.Convert.{marks_at, marked_around}
use Rattle.model_page.specs.Limits.{marked_at}
use Rattle.ve_classify.specs.FirstPart.{later_of, first_source}
use Rattle.ve_classify.specs.Runs.{then_parts, is_run}

-- in an element of this fit: itself, where `max_marks` marks are around, or what is in it
abbrev pub element_marked : Around → List ℕ → List Attr → Parts → ℕ → Fit → Option ℕ
element_marked around name attrs children at Annotation =
    if nat_lt (length (marks_at around)) max_marks then marked_at (marked_around around name attrs) children (at + length (start_text name attrs false)) else Some at
element_marked around name attrs children at (Branch kind) = marked_at (around_in kind) children (at + length (start_text name attrs false))
element_marked around name attrs children at (Leaf kind) = None
element_marked around name attrs children at (Whole kind) = None

-- in the first part
abbrev pub first_marked : Around → Parts → ℕ → Option ℕ
first_marked around Ended at = None
first_marked around (Words text rest) at = None
first_marked around (Note text rest) at = None
first_marked around (Group nodes rest) at = None
first_marked around (Single name attrs source rest) at = None
first_marked around (Parent name attrs children rest) at = element_marked around name attrs children at (fit_of around name children)

-- the first such position is in the first part, or else in the later ones
abbrev pub MarksSplit : Type 0
MarksSplit =
    (around : Around) (parts : Parts) (at : ℕ)
    → marked_at around parts at ≡ option_or (first_marked around parts at) (marked_at around (later_of parts) (at + length (first_source parts)))

-- in a flow parent it is in the run, as in content, or else in what follows the run
abbrev pub RunsMarked : Type 0
RunsMarked =
    (kind : Kind) (run rest : Parts) (at : ℕ) → is_run run ≡ true
    → marked_at (Flow kind) (then_parts run rest) at ≡ option_or (marked_at (Content []) run at) (marked_at (Flow kind) rest (at + length (source_of run)))
