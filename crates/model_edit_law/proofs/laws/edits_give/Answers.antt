use Rattle.model_edit_law.proofs.ResultLemmas as law
use Rattle.model_edit_law.proofs.laws.edits_give.Goals as goal

pub returns-clause-typing : goal.returns-clause-typing
returns-clause-typing c = law.typing_puts

pub returns-clause-insertion : goal.returns-clause-insertion
returns-clause-insertion c = law.insertion_puts

pub returns-clause-split : goal.returns-clause-split
returns-clause-split c = law.split_parts

pub returns-clause-removal : goal.returns-clause-removal
returns-clause-removal c = law.removal_takes

pub returns-clause-marking : goal.returns-clause-marking
returns-clause-marking c = law.marking_marks

pub returns-clause-unmarking : goal.returns-clause-unmarking
returns-clause-unmarking c = law.unmarking_unmarks

pub returns-clause-convert : goal.returns-clause-convert
returns-clause-convert c = law.convert_converts

pub returns-clause-attribute : goal.returns-clause-attribute
returns-clause-attribute c = law.attribute_sets

pub returns-clause-wrap : goal.returns-clause-wrap
returns-clause-wrap c = law.wrap_wraps

pub returns-clause-indent : goal.returns-clause-indent
returns-clause-indent c = law.indent_indents

pub returns-clause-outdent : goal.returns-clause-outdent
returns-clause-outdent c = law.outdent_outdents

pub returns-clause-row_in : goal.returns-clause-row_in
returns-clause-row_in c = law.row_in_puts

pub returns-clause-col_in : goal.returns-clause-col_in
returns-clause-col_in c = law.col_in_puts

pub returns-clause-row_out : goal.returns-clause-row_out
returns-clause-row_out c = law.row_out_takes

pub returns-clause-col_out : goal.returns-clause-col_out
returns-clause-col_out c = law.col_out_takes
