-- The items of the parts of a page: one recursion over the parts, from the byte where they begin.
use Rattle.std.specs.Prelude.{ℕ, List, [], ◌∷◌, ◌++◌, Option, Some, None, false, chars}
use Rattle.model_spelling.specs.Grammar.{Attr as Spelled, Comment, token_text, start_text, end_text}
use Rattle.model_spelling.specs.Forest.{Forest, spelling}
use Rattle.ve_base.specs.declared.marks.Mark.{Mark}
use Rattle.ve_kinds.specs.declared.kind.Kind.{Kind}
use Rattle.ve_kinds.specs.declared.kind.Kind.TheVariants.{Ref}
use Rattle.model_page.specs.Parts.{Parts, Ended, Words, Note, Group, Single, Parent, source_of}
use Rattle.model_page.specs.Fit.{Around, Flow, Structural, Content, Fit, Annotation, Leaf, Branch, Whole, around_in, fit_of, group_kind, note_kind}
use Rattle.model_page.specs.Heads.{characters, attrs_of, head_with, whole_head}
use Rattle.model_page.specs.Pieces.{Made, Progress, past, source_span, no_piece, node, chars_piece, with_white, run_closed, in_run, before_run, leaf_before}
use Rattle.model_page.specs.ReferenceNodes.{RefNode, ref_of}

-- ---- marks

abbrev pub marks_at : Around → List Mark
marks_at (Content marks) = marks
marks_at (Flow kind) = []
marks_at (Structural kind) = []

-- inside of one more mark
abbrev pub marked_around : Around → List ℕ → List Spelled → Around
marked_around around name attrs = Content (marks_at around ++ record { tag = chars name; attrs = attrs_of attrs } ∷ [])

-- ---- elements

abbrev pub element_source : List ℕ → List Spelled → Parts → List ℕ
element_source name attrs children = start_text name attrs false ++ source_of children ++ end_text name

-- after a start tag
abbrev pub inside_of : Progress → List ℕ → List Spelled → Progress
inside_of place name attrs = past place (start_text name attrs false) []

-- the items inside a branch, and the whitespace before its closing: content is a run without a
-- paragraph
abbrev pub inside_piece : Around → Progress → Made → Made
inside_piece (Content marks) place made = record made { later = made.run }
inside_piece (Flow kind) place made = run_closed place made
inside_piece (Structural kind) place made = made

-- ---- one part, before what the later ones make

-- a text before; in a structural parent it is whitespace
abbrev pub words_before : Around → List ℕ → Made → Made
words_before (Structural kind) text made = with_white (chars text) made
words_before around text made = in_run (chars_piece (marks_at around) (characters text)) text [] made

-- a group, where it is a reference and where it is not
abbrev pub group_made : Around → Forest → (Progress → Made) → Progress → Option RefNode → Made
group_made around nodes later place (Some reference) =
    let after = past place (spelling nodes) reference.owners in
    leaf_before place Ref reference.head (marks_at around) (spelling nodes) reference.owners (later after)
group_made around nodes later place None =
    let source = spelling nodes in
    leaf_before place (group_kind around nodes) (whole_head source) (marks_at around) source [] (later (past place source []))

-- a leaf that keeps its source or, where it is br or img, its attributes
abbrev pub leaf_made : Around → List Spelled → List ℕ → (Progress → Made) → Progress → Fit → Made
leaf_made around attrs source later place (Leaf kind) =
    leaf_before place kind (head_with attrs) (marks_at around) source [] (later (past place source []))
leaf_made around attrs source later place (Whole kind) =
    leaf_before place kind (whole_head source) (marks_at around) source [] (later (past place source []))
leaf_made around attrs source later place Annotation =
    leaf_before place (note_kind around) (whole_head source) (marks_at around) source [] (later (past place source []))
leaf_made around attrs source later place (Branch kind) =
    leaf_before place (note_kind around) (whole_head source) (marks_at around) source [] (later (past place source []))

-- an element by its fit, where `children` makes what is in it
abbrev pub element_made : Around → List ℕ → List Spelled → List ℕ → (Around → Progress → Made) → (Progress → Made) → Progress → Fit → Made
element_made around name attrs source children later place Annotation =
    let inside = children (marked_around around name attrs) (inside_of place name attrs) in
    in_run inside.run source inside.owners (later (past place source inside.owners))
element_made around name attrs source children later place (Branch kind) =
    let at = inside_of place name attrs in
    let inside = inside_piece (around_in kind) at (children (around_in kind) at) in
    let after = past place source inside.owners in
    before_run after (node kind (head_with attrs) [] false (source_span place source) inside.later inside.pre) inside.owners (later after)
element_made around name attrs source children later place (Leaf kind) = leaf_made around attrs source later place (Leaf kind)
element_made around name attrs source children later place (Whole kind) = leaf_made around attrs source later place (Whole kind)

-- ---- all parts

-- the conversion of the parts that stand around so, where they begin there
abbrev pub made_of : Around → Parts → Progress → Made
made_of around Ended place = record { run = no_piece; source = []; later = no_piece; pre = []; owners = [] }
made_of around (Words text later) place = words_before around text (made_of around later (past place text []))
made_of around (Note text later) place =
    let source = token_text (Comment text) in
    leaf_made around [] source (made_of around later) place (Whole (note_kind around))
made_of around (Group nodes later) place = group_made around nodes (made_of around later) place (ref_of place around nodes)
made_of around (Single name attrs source later) place =
    leaf_made around attrs source (made_of around later) place (fit_of around name Ended)
made_of around (Parent name attrs children later) place =
    let source = element_source name attrs children in
    element_made around name attrs source (λ a. made_of a children) (made_of around later) place (fit_of around name children)

-- the conversion of all that stands in a flow parent
abbrev pub in_flow : Kind → Parts → Progress → Made
in_flow kind parts place = run_closed place (made_of (Flow kind) parts place)
