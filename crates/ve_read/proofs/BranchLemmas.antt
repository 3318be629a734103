-- A branch is read as its opening, what stands in it, and its closing; and blocks in turn.
use Rattle.std.proofs.Common.{◌≡◌, ℕ, ◌+◌, false, [], length, sym, ap, ◌∙◌, arith}
use Rattle.std.specs.Option.{option_or}
use Rattle.model_spelling.specs.Grammar.{start_text}
use Rattle.model_page.specs.Parts.{Parts, Ended, Parent, source_of}
use Rattle.model_page.specs.Fit.{Around, around_in}
use Rattle.model_page.specs.Heads.{head_with}
use Rattle.model_page.specs.Pieces.{Piece, Made, Progress, source_span}
use Rattle.model_page.specs.Convert.{element_source, inside_of}
use Rattle.model_page.specs.Limits.{earlier, marked_at}
use Rattle.ve_classify.specs.FirstPart.{later_of, first_source, take_parts}
use Rattle.ve_classify.specs.Siblings.{siblings}
use Rattle.ve_classify.specs.Marked.{element_marked, first_marked}
use Rattle.ve_reader.specs.ReadSoFar.{ReadSoFar, place_in, with_piece, piece_after}
use Rattle.ve_reader.specs.Stops.{deep_in}
use Rattle.ve_reader.proofs.EvenLemmas.{insides_are_even}
use Rattle.ve_reader.proofs.JoinLemmas.{nodes_join}
use Rattle.ve_read.proofs.LimitLemmas.{marked_lies}
use Rattle.ve_read.specs.Blocks.{with_siblings, siblings_limit}
use Rattle.ve_read.specs.BlockLaws.{BlocksInTurn, BlockLimits, BranchesAreRead, BranchLimits}
use Rattle.ve_read.proofs.PieceLemmas.{piece_alone}
use Rattle.ve_read.proofs.LieLemmas.{siblings_begin, node_limits, tagged, begin_lower, lies_lower}
use Rattle.ve_read.proofs.BlockTurns.{block_alone, block_adds, adds_read, adds_limit}
use Rattle.ve_read.proofs.FitLemmas.{block_of, branch_is, branch_piece}

-- ---- blocks

pub blocks_in_turn : BlocksInTurn
blocks_in_turn = λ white around parts at r block.
    let b = block_of around parts (place_in r at) block in
    let adds = block_adds around parts at r b.piece b.owners b.item b.items block b.is b.some in
    adds_read white around parts (later_of parts) at (at + length (first_source parts)) r b.piece b.owners (first_marked around parts at) adds
    ∙ sym (ap (with_siblings around (later_of parts) (at + length (first_source parts))) ((block_alone around parts at r b.piece b.owners block b.is).read white))

pub block_limits : BlockLimits
block_limits = λ around parts at r block.
    let b = block_of around parts (place_in r at) block in
    let adds = block_adds around parts at r b.piece b.owners b.item b.items block b.is b.some in
    let alone = block_alone around parts at r b.piece b.owners block b.is in
    let end : ℕ = at + length (first_source parts) in
    let later = later_read around parts at r b.piece b.owners alone.later alone.owners_is in
    adds_limit [] around parts (later_of parts) at end r b.piece b.owners (first_marked around parts at) adds
    ∙ sym (λ j. option_or (alone.limit j) (siblings_limit around (later_of parts) end (later j)))
  where
    later_read : (around : Around) (parts : Parts) (at : ℕ) (r : ReadSoFar) (piece : Piece) (owners : _) → (siblings around (take_parts 1 parts) (place_in r at)).later ≡ piece → (siblings around (take_parts 1 parts) (place_in r at)).owners ≡ owners
        → with_siblings around (take_parts 1 parts) at r ≡ with_piece (piece_after [] piece) owners r
    later_read around parts at r piece owners later owned = (λ j. with_piece (later j) (owned j) r) ∙ sym (ap (λ p. with_piece p owners r) (piece_alone piece))

-- ---- branches

pub branches_are_read : BranchesAreRead
branches_are_read = λ white around name attrs children kind at r block fit.
    let w : Progress = place_in r at in
    let parts : Parts = Parent name attrs children Ended in
    let inside : Made = siblings (around_in kind) children (inside_of w name attrs) in
    let alone = block_alone around parts at r (branch_piece name attrs children kind w) inside.owners block (branch_is around name attrs children Ended w kind fit) in
    alone.read white
    ∙ nodes_join kind (head_with attrs) white false (source_span w (element_source name attrs children)) inside.later inside.pre inside.owners r (insides_are_even (around_in kind) children (inside_of w name attrs))

pub branch_limits : BranchLimits
branch_limits = λ white around name attrs children kind at r block fit.
    let w : Progress = place_in r at in
    let parts : Parts = Parent name attrs children Ended in
    let at_inside : Progress = inside_of w name attrs in
    let inside : Made = siblings (around_in kind) children at_inside in
    let alone = block_alone around parts at r (branch_piece name attrs children kind w) inside.owners block (branch_is around name attrs children Ended w kind fit) in
    let start : ℕ = at + length (start_text name attrs false) in
    let high : ℕ = start + length (source_of children) in
    let marked = marked_at (around_in kind) children start in
    alone.limit
    ∙ ap (λ f. earlier (deep_in r (branch_piece name attrs children kind w)) (tagged (element_marked around name attrs children at f))) fit
    ∙ node_limits kind (head_with attrs) white false (source_span w (element_source name attrs children)) inside.later inside.pre r marked high (insides_are_even (around_in kind) children at_inside)
    (begin_lower start at high inside.later.spans (omega arith) (siblings_begin (around_in kind) children at_inside high (omega arith)))
    (lies_lower start at high marked (omega arith) (marked_lies (around_in kind) children start))
