use Rattle.model_site_law.proofs.LawLemmas.{list_is_replay, all_entries_run, committed_run, list_is_sound}
use Rattle.model_site_law.proofs.laws.lists_are_replays.Goals as goal

pub returns-clause-list : goal.returns-clause-list
returns-clause-list c = list_is_replay

pub returns-clause-runs : goal.returns-clause-runs
returns-clause-runs c = all_entries_run

pub returns-clause-committed : goal.returns-clause-committed
returns-clause-committed c = committed_run

pub returns-clause-sound : goal.returns-clause-sound
returns-clause-sound c = list_is_sound
