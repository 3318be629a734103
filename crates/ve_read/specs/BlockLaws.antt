-- How siblings are read: a block, with the whitespace before it, or a run comes before what
-- follows; and where that stops.
use Rattle.std.specs.Prelude.{◌≡◌, ℕ, ◌+◌, true, false, List, length}
use Rattle.std.specs.Option.{option_or}
use Rattle.model_spelling.specs.Grammar.{Attr, start_text}
use Rattle.ve_kinds.specs.declared.kind.Kind.{Kind}
use Rattle.model_page.specs.Elements.{is_white}
use Rattle.model_page.specs.Parts.{Parts, Ended, Parent, source_of}
use Rattle.model_page.specs.Fit.{Around, Flow, Branch, around_in, fit_of}
use Rattle.model_page.specs.Heads.{head_with}
use Rattle.model_page.specs.Pieces.{source_span}
use Rattle.model_page.specs.Convert.{element_source}
use Rattle.ve_classify.specs.FirstPart.{later_of, first_source, take_parts}
use Rattle.ve_classify.specs.Runs.{then_parts, is_run, starts_block}
use Rattle.ve_classify.specs.Siblings.{first_block}
use Rattle.ve_reader.specs.ReadSoFar.{ReadSoFar, place_in, with_opening, with_closing, node_opened, opening_piece}
use Rattle.ve_reader.specs.Stops.{deep_in}
use Rattle.ve_read.specs.Blocks.{with_siblings, white_at_end, siblings_limit, with_blocks, with_paragraph, paragraph_limit}

-- A block is read after the whitespace before it, and then what follows it;
abbrev pub BlocksInTurn : Type 0
BlocksInTurn =
    (white : List ℕ) (around : Around) (parts : Parts) (at : ℕ) (r : ReadSoFar) → first_block around parts ≡ true
    → with_blocks white around parts at r
    ≡ with_siblings around (later_of parts) (at + length (first_source parts)) (with_blocks white around (take_parts 1 parts) at r)

-- and what is over a limit stands in it, or else in what follows it.
abbrev pub BlockLimits : Type 0
BlockLimits =
    (around : Around) (parts : Parts) (at : ℕ) (r : ReadSoFar) → first_block around parts ≡ true
    → siblings_limit around parts at r
    ≡ option_or
    (siblings_limit around (take_parts 1 parts) at r)
    (siblings_limit around (later_of parts) (at + length (first_source parts)) (with_siblings around (take_parts 1 parts) at r))

-- A run that isn't whitespace alone is read as a paragraph, and then what follows it;
abbrev pub RunsInTurn : Type 0
RunsInTurn =
    (kind : Kind) (run rest : Parts) (at : ℕ) (r : ReadSoFar) → is_run run ≡ true → starts_block rest ≡ true → is_white (source_of run) ≡ false
    → with_siblings (Flow kind) (then_parts run rest) at r ≡ with_siblings (Flow kind) rest (at + length (source_of run)) (with_paragraph run at r)

-- and what is over a limit stands in it, or else in what follows it.
abbrev pub RunLimits : Type 0
RunLimits =
    (kind : Kind) (run rest : Parts) (at : ℕ) (r : ReadSoFar) → is_run run ≡ true → starts_block rest ≡ true → is_white (source_of run) ≡ false
    → siblings_limit (Flow kind) (then_parts run rest) at r
    ≡ option_or (paragraph_limit run at r) (siblings_limit (Flow kind) rest (at + length (source_of run)) (with_paragraph run at r))

-- A branch is its opening, what stands in it, and its closing after the whitespace at the end;
abbrev pub BranchesAreRead : Type 0
BranchesAreRead =
    (white : List ℕ) (around : Around) (name : List ℕ) (attrs : List Attr) (children : Parts) (kind : Kind) (at : ℕ) (r : ReadSoFar)
    → first_block around (Parent name attrs children Ended) ≡ true → fit_of around name children ≡ Branch kind
    → let span = source_span (place_in r at) (element_source name attrs children) in
    let opened = with_opening kind (head_with attrs) white false span r in
    let start = at + length (start_text name attrs false) in
    with_blocks white around (Parent name attrs children Ended) at r
    ≡ with_closing (node_opened kind r) (white_at_end (around_in kind) children start opened) (with_siblings (around_in kind) children start opened)

-- and what is over a limit is its opening, or else stands in it.
abbrev pub BranchLimits : Type 0
BranchLimits =
    (white : List ℕ) (around : Around) (name : List ℕ) (attrs : List Attr) (children : Parts) (kind : Kind) (at : ℕ) (r : ReadSoFar)
    → first_block around (Parent name attrs children Ended) ≡ true → fit_of around name children ≡ Branch kind
    → let span = source_span (place_in r at) (element_source name attrs children) in
    siblings_limit around (Parent name attrs children Ended) at r
    ≡ option_or
    (deep_in r (opening_piece kind (head_with attrs) white false span))
    (siblings_limit (around_in kind) children (at + length (start_text name attrs false)) (with_opening kind (head_with attrs) white false span r))
