-- The definitions at examples, which compute.
use Rattle.std.proofs.Common.{◌≡◌, ◌==◌, ◌+◌, ℕ, List, [], ◌∷◌, if◌then◌else◌, codes, length, refl}
use Rattle.model_script.specs.Lines.{lines_of}
use Rattle.model_script.specs.Output.{Meaning, output, state_after, cost_of}

-- a last line needs no newline
last_line_ends : lines_of (codes "ab\nc") ≡ codes "ab" ∷ codes "c" ∷ []
last_line_ends = refl

-- a newline at the end begins no line
newline_ends : lines_of (codes "ab\nc\n") ≡ codes "ab" ∷ codes "c" ∷ []
newline_ends = refl

-- two newlines have an empty line between them, and a carriage return ends nothing
empty_line : lines_of (codes "\n\na\rb") ≡ [] ∷ [] ∷ codes "a\rb" ∷ []
empty_line = refl

no_lines : lines_of [] ≡ []
no_lines = refl

-- counts the bytes of the lines, and replies how many there were before, spelled `none` or `some`
abbrev counter : Meaning ℕ ℕ
counter = record { reply = λ n line. n; next = λ n line. n + length line; cost = λ n line. 1 }

abbrev spelled : ℕ → List ℕ
spelled n = if n == 0 then codes "none" else codes "some"

counted : output spelled counter 0 (codes "\nabc\nd") ≡ codes "none\nnone\nsome\n"
counted = refl

counted_state : state_after counter 0 (lines_of (codes "\nabc\nd")) ≡ 4
counted_state = refl

counted_cost : cost_of counter 0 (lines_of (codes "\nabc\nd")) ≡ 3
counted_cost = refl
