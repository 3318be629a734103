-- Laws of each generated script.
use Rattle.std.specs.Prelude.{◌≡◌, ℕ, ◌+◌, length}
use Rattle.model_script.specs.Lines.{lines_of}
use Rattle.ve_gen.specs.Generated.{script, script_lines}

-- Its lines are those that it was made of: no newline stands in one of them.
abbrev pub ScriptHasItsLines : Type 0
ScriptHasItsLines = (start edits : ℕ) → lines_of (script start edits) ≡ script_lines start edits

-- There is a line for each edit, and two more.
abbrev pub HasTwoLinesMore : Type 0
HasTwoLinesMore = (start edits : ℕ) → length (script_lines start edits) ≡ edits + 2
