-- The output of a machine for a script.
use Rattle.std.specs.Prelude.{ℕ, ◌+◌, List, [], ◌∷◌, map}
use Rattle.model_script.specs.Lines.{lines_of, with_newlines}

-- The meaning of a machine, for a state of it and a line: W is its states, and R its replies.
pub record Meaning (W R : Type 0) : Type 0 where
  -- its reply to a line
  pub reply : W → List ℕ → R
  -- its state after the line
  pub next : W → List ℕ → W
  -- how many steps it takes at most
  pub cost : W → List ℕ → ℕ

-- the replies to these lines, in order
abbrev pub replies : {W R : Type 0} → Meaning W R → W → List (List ℕ) → List R
replies m world [] = []
replies m world (line ∷ lines) = m.reply world line ∷ replies m (m.next world line) lines

-- the state after them
abbrev pub state_after : {W R : Type 0} → Meaning W R → W → List (List ℕ) → W
state_after m world [] = world
state_after m world (line ∷ lines) = state_after m (m.next world line) lines

-- how many steps they take at most
abbrev pub cost_of : {W R : Type 0} → Meaning W R → W → List (List ℕ) → ℕ
cost_of m world [] = 0
cost_of m world (line ∷ lines) = m.cost world line + cost_of m (m.next world line) lines

-- the output for them: the text of each reply, with a newline
abbrev pub written : {W R : Type 0} → (R → List ℕ) → Meaning W R → W → List (List ℕ) → List ℕ
written spelled m world lines = with_newlines (map spelled (replies m world lines))

-- the output for a script
abbrev pub output : {W R : Type 0} → (R → List ℕ) → Meaning W R → W → List ℕ → List ℕ
output spelled m world script = written spelled m world (lines_of script)
