use Rattle.model_edit_law.proofs.ApartEditLemmas.{insertion_apart, typing_apart, plain_typing_apart, split_apart, removal_apart, marking_apart, unmarking_apart, convert_apart, attribute_apart, wrap_apart, indent_apart, outdent_apart, row_in_apart, col_in_apart, row_out_apart, col_out_apart}
use Rattle.model_edit_law.proofs.laws.inserted_names_are_apart.Goals as goal

pub returns-clause-insertion : goal.returns-clause-insertion
returns-clause-insertion c = insertion_apart

pub returns-clause-typing : goal.returns-clause-typing
returns-clause-typing c = typing_apart

pub returns-clause-plain_typing : goal.returns-clause-plain_typing
returns-clause-plain_typing c = plain_typing_apart

pub returns-clause-split : goal.returns-clause-split
returns-clause-split c = split_apart

pub returns-clause-removal : goal.returns-clause-removal
returns-clause-removal c = removal_apart

pub returns-clause-marking : goal.returns-clause-marking
returns-clause-marking c = marking_apart

pub returns-clause-unmarking : goal.returns-clause-unmarking
returns-clause-unmarking c = unmarking_apart

pub returns-clause-convert : goal.returns-clause-convert
returns-clause-convert c = convert_apart

pub returns-clause-attribute : goal.returns-clause-attribute
returns-clause-attribute c = attribute_apart

pub returns-clause-wrap : goal.returns-clause-wrap
returns-clause-wrap c = wrap_apart

pub returns-clause-indent : goal.returns-clause-indent
returns-clause-indent c = indent_apart

pub returns-clause-outdent : goal.returns-clause-outdent
returns-clause-outdent c = outdent_apart

pub returns-clause-row_in : goal.returns-clause-row_in
returns-clause-row_in c = row_in_apart

pub returns-clause-col_in : goal.returns-clause-col_in
returns-clause-col_in c = col_in_apart

pub returns-clause-row_out : goal.returns-clause-row_out
returns-clause-row_out c = row_out_apart

pub returns-clause-col_out : goal.returns-clause-col_out
returns-clause-col_out c = col_out_apart
