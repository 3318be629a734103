use Rattle.model_change.proofs.ReversalLaw.{revoke_takes_back}
use Rattle.ve_peer_undo.proofs.CountingLemmas.{earlier_do_not_count}
use Rattle.ve_peer_undo.proofs.RunLemmas.{earlier_do_not_matter, revokes_run}
use Rattle.ve_peer_undo.proofs.laws.entries_are_taken_back.Goals as goal

pub returns-clause-run : goal.returns-clause-run
returns-clause-run c = revokes_run

pub returns-clause-back : goal.returns-clause-back
returns-clause-back c = revoke_takes_back

pub returns-clause-later : goal.returns-clause-later
returns-clause-later c = earlier_do_not_matter

pub returns-clause-counting : goal.returns-clause-counting
returns-clause-counting c = earlier_do_not_count
