-- All siblings of a parent: what they add to the items, and where reading them stops.
use Rattle.std.specs.Prelude.{ℕ, List, [], Option, option_map}
use Rattle.model_page.specs.Parts.{Parts}
use Rattle.model_page.specs.Fit.{Around, Content}
use Rattle.model_page.specs.Pieces.{Owner, Made, with_white}
use Rattle.model_page.specs.Convert.{made_of}
use Rattle.model_page.specs.Limits.{Limit, TooManyMarks, earlier, marked_at}
use Rattle.ve_classify.specs.Siblings.{siblings, paragraph}
use Rattle.ve_reader.specs.ReadSoFar.{ReadSoFar, place_in, with_piece}
use Rattle.ve_reader.specs.Stops.{deep_in}

-- the conversion of all siblings in their parent after the items so far, where they begin at this
-- byte
abbrev pub siblings_made : Around → Parts → ℕ → ReadSoFar → Made
siblings_made around parts at r = siblings around parts (place_in r at)

-- that is read, too
abbrev pub with_siblings : Around → Parts → ℕ → ReadSoFar → ReadSoFar
with_siblings around parts at r = let made = siblings_made around parts at r in with_piece made.later made.owners r

-- the whitespace after the last of them, which stands before the closing of their parent
abbrev pub white_at_end : Around → Parts → ℕ → ReadSoFar → List ℕ
white_at_end around parts at r = (siblings_made around parts at r).pre

-- the first of them that is too deep, or inside of too many marks
abbrev pub siblings_limit : Around → Parts → ℕ → ReadSoFar → Option Limit
siblings_limit around parts at r =
    earlier (deep_in r (siblings_made around parts at r).later) (option_map (λ n. TooManyMarks n) (marked_at around parts at))

-- ---- after whitespace that is waiting

abbrev pub made_after : List ℕ → Around → Parts → ℕ → ReadSoFar → Made
made_after white around parts at r = with_white white (siblings_made around parts at r)

abbrev pub with_blocks : List ℕ → Around → Parts → ℕ → ReadSoFar → ReadSoFar
with_blocks white around parts at r = let made = made_after white around parts at r in with_piece made.later made.owners r

abbrev pub white_after : List ℕ → Around → Parts → ℕ → ReadSoFar → List ℕ
white_after white around parts at r = (made_after white around parts at r).pre

-- ---- a run that is no whitespace

-- the references that own their bodies in a run
abbrev pub run_owners : Parts → ℕ → ReadSoFar → List Owner
run_owners run at r = (made_of (Content []) run (place_in r at)).owners

-- the generated paragraph that a run is
abbrev pub with_paragraph : Parts → ℕ → ReadSoFar → ReadSoFar
with_paragraph run at r = with_piece (paragraph run (place_in r at)) (run_owners run at r) r

abbrev pub paragraph_limit : Parts → ℕ → ReadSoFar → Option Limit
paragraph_limit run at r =
    earlier (deep_in r (paragraph run (place_in r at))) (option_map (λ n. TooManyMarks n) (marked_at (Content []) run at))
