use Rattle.std.proofs.Common.{◌≡◌, ℕ, drop}
use Rattle.model_edit.specs.Causes.{TableCause}
use Rattle.model_edit.specs.Tables.{first_fault, at_first}
use Rattle.ve_tables.specs.CellQuestions.{cell_answer}
use Rattle.ve_tables.proofs.cell_questions.first_cell.Given as goal

abbrev pub invariant-loop-cell : goal.invariant-loop-cell
invariant-loop-cell l =
    (named : ℕ → TableCause) → first_fault (at_first (cell_answer l.question) (drop l.cell-index l.cells) named) ≡ first_fault (at_first (cell_answer l.question) l.cells named)
