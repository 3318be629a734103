-- The conversion of siblings, read from the first one on: content part by part, and in a flow or
-- structural parent whitespace, blocks and runs.
use Rattle.std.specs.Prelude.{◌≡◌, ℕ, Bool, true, false, not, List, [], ◌∷◌, ◌++◌, chars, if◌then◌else◌}
use Rattle.model_spelling.specs.Grammar.{Comment, token_text}
use Rattle.ve_base.specs.declared.marks.Mark.{Mark}
use Rattle.ve_kinds.specs.declared.kind.Kind.{Kind}
use Rattle.ve_kinds.specs.declared.kind.Kind.TheVariants.{P}
use Rattle.ve_base.specs.Empty.{empty_head}
use Rattle.model_page.specs.Elements.{is_white}
use Rattle.model_page.specs.Parts.{Parts, Ended, Words, Note, Group, Single, Parent, source_of}
use Rattle.model_page.specs.Fit.{Around, Flow, Structural, Content, fit_of, note_kind, Whole, has_inline_tags}
use Rattle.model_page.specs.Tags.{is_inline_tag}
use Rattle.model_page.specs.Pieces.{Piece, Owner, Made, Progress, past, source_span, no_piece, joined_pieces, node, with_white, in_run, before_run}
use Rattle.model_page.specs.ReferenceNodes.{ref_of}
use Rattle.model_page.specs.Convert.{inside_piece, words_before, group_made, leaf_made, element_made, element_source, made_of}
use Rattle.ve_classify.specs.FirstPart.{has_part, later_of, first_source}
use Rattle.ve_classify.specs.Runs.{then_parts, is_run, starts_block}

-- the conversion of all siblings in their parent, from this position on
abbrev pub siblings : Around → Parts → Progress → Made
siblings around parts w = inside_piece around w (made_of around parts w)

-- items before what the later siblings became
abbrev pub front : Piece → List Owner → Made → Made
front piece owners made = record made { later = joined_pieces piece made.later; owners = owners ++ made.owners }

-- the first part, before what the later ones make
abbrev pub first_made : Around → Parts → (Progress → Made) → Progress → Made
first_made around Ended later w = later w
first_made around (Words text rest) later w = words_before around text (later (past w text []))
first_made around (Note text rest) later w = leaf_made around [] (token_text (Comment text)) later w (Whole (note_kind around))
first_made around (Group nodes rest) later w = group_made around nodes later w (ref_of w around nodes)
first_made around (Single name attrs source rest) later w = leaf_made around attrs source later w (fit_of around name Ended)
first_made around (Parent name attrs children rest) later w =
    element_made around name attrs (element_source name attrs children) (λ a. made_of a children) later w (fit_of around name children)

-- ---- content

-- The first part in content: its items and spans, and the owners in it.
pub record IsInline (marks : List Mark) (parts : Parts) (w : Progress) : Type 0 where
  pub piece : Piece
  pub owners : List Owner
  pub is : (later : Progress → Made) → first_made (Content marks) parts later w ≡ in_run piece (first_source parts) owners (later (past w (first_source parts) owners))

-- In content the first part is read, whatever follows it, and then what follows it.
abbrev pub ContentSplits : Type 0
ContentSplits =
    (marks : List Mark) (parts : Parts) (w : Progress) → has_part parts ≡ true
    → (p : IsInline marks parts w)
    × (made_of (Content marks) parts w
    ≡ in_run p.piece (first_source parts) p.owners (made_of (Content marks) (later_of parts) (past w (first_source parts) p.owners)))

-- ---- blocks

-- the first part is a block in the parent
abbrev pub first_block : Around → Parts → Bool
first_block around Ended = false
first_block around (Words text rest) = false
first_block (Flow kind) (Note text rest) = true
first_block (Flow kind) (Group nodes rest) = not (has_inline_tags nodes)
first_block (Flow kind) (Single name attrs source rest) = not (is_inline_tag name)
first_block (Flow kind) (Parent name attrs children rest) = not (is_inline_tag name)
first_block (Structural kind) (Note text rest) = true
first_block (Structural kind) (Group nodes rest) = true
first_block (Structural kind) (Single name attrs source rest) = true
first_block (Structural kind) (Parent name attrs children rest) = true
first_block (Content marks) (Note text rest) = false
first_block (Content marks) (Group nodes rest) = false
first_block (Content marks) (Single name attrs source rest) = false
first_block (Content marks) (Parent name attrs children rest) = false

-- The first part as a block: its items and spans, and the owners in it.
pub record IsBlock (around : Around) (parts : Parts) (w : Progress) : Type 0 where
  pub piece : Piece
  pub owners : List Owner
  pub is : (later : Progress → Made) → first_made around parts later w ≡ before_run (past w (first_source parts) owners) piece owners (later (past w (first_source parts) owners))

-- A block is read, whatever follows it, and then what follows it.
abbrev pub BlocksSplit : Type 0
BlocksSplit =
    (around : Around) (parts : Parts) (w : Progress) → first_block around parts ≡ true
    → (b : IsBlock around parts w)
    × (siblings around parts w ≡ front b.piece b.owners (siblings around (later_of parts) (past w (first_source parts) b.owners)))

-- In a structural parent a text is whitespace before what follows it.
abbrev pub WhiteSplits : Type 0
WhiteSplits =
    (kind : Kind) (text : List ℕ) (rest : Parts) (w : Progress)
    → siblings (Structural kind) (Words text rest) w ≡ with_white (chars text) (siblings (Structural kind) rest (past w text []))

-- ---- runs

-- the run as a paragraph
abbrev pub paragraph : Parts → Progress → Piece
paragraph run w = node P empty_head [] true (source_span w (source_of run)) (made_of (Content []) run w).run []

-- In a flow parent a run of whitespace alone goes to what follows it, any other is a paragraph; and
-- then comes what follows it.
abbrev pub RunsRead : Type 0
RunsRead =
    (kind : Kind) (run rest : Parts) (w : Progress) (b : ℕ) (bs : List ℕ) → is_run run ≡ true → starts_block rest ≡ true → source_of run ≡ b ∷ bs
    → let c = made_of (Content []) run w in
    let after = siblings (Flow kind) rest (past w (source_of run) c.owners) in
    siblings (Flow kind) (then_parts run rest) w
    ≡ (if is_white (source_of run) then with_white (chars (source_of run)) (front no_piece c.owners after) else front (paragraph run w) c.owners after)
