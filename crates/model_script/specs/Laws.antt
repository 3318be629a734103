-- The lines of a script, and how the output goes on from one line to the next.
use Rattle.std.specs.Prelude.{◌≡◌, ◌↔◌, ℕ, ◌+◌, ◌++◌, List, length}
use Rattle.model_script.specs.Lines.{lines_of, with_newlines, last_line, AreLines, IsCut}
use Rattle.model_script.specs.Output.{Meaning, replies, state_after, cost_of, written, output}

-- The lines of a script are its whole lines, and then what follows the last newline, where that
-- isn't empty.
abbrev pub ScriptIsItsLines : Type 0
ScriptIsItsLines = (script : List ℕ) (lines : List (List ℕ))
    → (lines ≡ lines_of script)
    ↔ ((whole : List (List ℕ)) × (rest : List ℕ) × IsCut script whole rest × (lines ≡ whole ++ last_line rest))

-- Each line has one reply.
abbrev pub EachLineIsAnswered : (W R : Type 0) → Type 0
EachLineIsAnswered W R = (m : Meaning W R) (world : W) (lines : List (List ℕ)) → length (replies m world lines) ≡ length lines

-- Lines are answered from the state that the lines before them lead to.
abbrev pub RepliesFollowOn : (W R : Type 0) → Type 0
RepliesFollowOn W R = (m : Meaning W R) (world : W) (lines more : List (List ℕ))
    → replies m world (lines ++ more) ≡ replies m world lines ++ replies m (state_after m world lines) more

abbrev pub StateFollowsOn : (W R : Type 0) → Type 0
StateFollowsOn W R = (m : Meaning W R) (world : W) (lines more : List (List ℕ))
    → state_after m world (lines ++ more) ≡ state_after m (state_after m world lines) more

abbrev pub CostFollowsOn : (W R : Type 0) → Type 0
CostFollowsOn W R = (m : Meaning W R) (world : W) (lines more : List (List ℕ))
    → cost_of m world (lines ++ more) ≡ cost_of m world lines + cost_of m (state_after m world lines) more

-- The output for a script that begins with whole lines is the output for these, and then that for
-- the rest.
abbrev pub OutputFollowsOn : (W R : Type 0) → Type 0
OutputFollowsOn W R = (spelled : R → List ℕ) (m : Meaning W R) (world : W) (lines : List (List ℕ)) (rest : List ℕ) → AreLines lines
    → output spelled m world (with_newlines lines ++ rest)
    ≡ written spelled m world lines ++ output spelled m (state_after m world lines) rest
