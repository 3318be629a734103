use Rattle.model_line_law.proofs.LineLemmas.{strings_are_utf8}
use Rattle.model_line_law.proofs.laws.texts_of_lines_are_utf8.Goals as goal

pub returns : goal.returns
returns c = strings_are_utf8
