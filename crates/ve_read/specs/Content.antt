-- Content: what it adds to the items, and where reading it stops.
use Rattle.std.specs.Prelude.{ℕ, [], Option, option_map}
use Rattle.ve_kinds.specs.declared.kind.Kind.{Kind}
use Rattle.model_page.specs.Heads.{whole_head}
use Rattle.model_page.specs.Parts.{Parts}
use Rattle.model_page.specs.Fit.{Content}
use Rattle.model_page.specs.Pieces.{Piece, Made, source_span, leaf}
use Rattle.model_page.specs.Convert.{made_of}
use Rattle.model_page.specs.Limits.{Limit, TooManyMarks, earlier, marked_at}
use Rattle.ve_classify.specs.FirstPart.{first_source}
use Rattle.ve_reader.specs.ReadSoFar.{ReadSoFar, place_in, with_piece}
use Rattle.ve_reader.specs.Stops.{deep_in}

-- the conversion of parts in content after the items so far, inside of the marks around, where they
-- begin at this byte
abbrev pub content_made : Parts → ℕ → ReadSoFar → Made
content_made parts at r = made_of (Content r.marks) parts (place_in r at)

-- that is read, too
abbrev pub with_content : Parts → ℕ → ReadSoFar → ReadSoFar
with_content parts at r = let made = content_made parts at r in with_piece made.run made.owners r

-- the first of them that is too deep, or inside of too many marks
abbrev pub content_limit : Parts → ℕ → ReadSoFar → Option Limit
content_limit parts at r =
    earlier (deep_in r (content_made parts at r).run) (option_map (λ n. TooManyMarks n) (marked_at (Content r.marks) parts at))

-- the leaf that the first part is where it keeps its source
abbrev pub whole_leaf : Kind → Parts → ℕ → ReadSoFar → Piece
whole_leaf kind parts at r = let source = first_source parts in leaf kind (whole_head source) r.marks (source_span (place_in r at) source)

abbrev pub with_whole : Kind → Parts → ℕ → ReadSoFar → ReadSoFar
with_whole kind parts at r = with_piece (whole_leaf kind parts at r) [] r

abbrev pub whole_limit : Kind → Parts → ℕ → ReadSoFar → Option Limit
whole_limit kind parts at r = deep_in r (whole_leaf kind parts at r)
