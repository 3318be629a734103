use Rattle.model_page_law.proofs.EditsRefer.{fragments_refer, edits_refer, inverses_refer, joins_refer, replays_refer, reversals_refer, join_lists_refer, revokes_refer}
use Rattle.model_page_law.proofs.laws.edits_keep_references.Goals as goal

pub returns-clause-edited : goal.returns-clause-edited
returns-clause-edited c = edits_refer

pub returns-clause-undone : goal.returns-clause-undone
returns-clause-undone c = inverses_refer

pub returns-clause-joined : goal.returns-clause-joined
returns-clause-joined c = joins_refer

pub returns-clause-replayed : goal.returns-clause-replayed
returns-clause-replayed c = replays_refer

pub returns-clause-reversed : goal.returns-clause-reversed
returns-clause-reversed c = reversals_refer

pub returns-clause-lists : goal.returns-clause-lists
returns-clause-lists c = join_lists_refer

pub returns-clause-fragments : goal.returns-clause-fragments
returns-clause-fragments c = fragments_refer

pub returns-clause-revoked : goal.returns-clause-revoked
returns-clause-revoked c = revokes_refer
