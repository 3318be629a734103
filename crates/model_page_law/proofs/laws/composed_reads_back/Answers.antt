use Rattle.model_page_law.proofs.ComposedLemmas.{composed_is_read, composed_keeps_members, composed_keeps_body, composed_twice, composed_owns, composed_is_same, composed_is_barred, composed_reuses}
use Rattle.model_page_law.proofs.laws.composed_reads_back.Goals as goal

pub returns-clause-value : goal.returns-clause-value
returns-clause-value c = composed_is_read

pub returns-clause-members : goal.returns-clause-members
returns-clause-members c = composed_keeps_members

pub returns-clause-body : goal.returns-clause-body
returns-clause-body c = composed_keeps_body

pub returns-clause-owns : goal.returns-clause-owns
returns-clause-owns c = composed_owns

pub returns-clause-barred : goal.returns-clause-barred
returns-clause-barred c = composed_is_barred

pub returns-clause-reuses : goal.returns-clause-reuses
returns-clause-reuses c = composed_reuses

pub returns-clause-twice : goal.returns-clause-twice
returns-clause-twice c = composed_twice

pub returns-clause-same : goal.returns-clause-same
returns-clause-same c = composed_is_same
