-- The lines that are still to come.
use Rattle.std.specs.Prelude.{ℕ, List, [], ◌∷◌, ◌++◌}
use Rattle.ve_gen.specs.declared.lines.Stage.{Stage}
use Rattle.ve_gen.specs.declared.lines.Stage.TheVariants.{Whole, Edits, Over}
use Rattle.ve_gen.specs.Generated.{edit_lines, html_line, script_lines}

abbrev pub lines_ahead : Stage → (state edits : ℕ) → List (List ℕ)
lines_ahead Whole state edits = script_lines state edits
lines_ahead Edits state edits = edit_lines state edits ++ html_line ∷ []
lines_ahead Over state edits = []
