use Rattle.model_site_law.proofs.LawLemmas.{live_revoke_gives_back, live_revoke_is_without, revoke_leaves_out}
use Rattle.model_site_law.proofs.laws.revokes_leave_out.Goals as goal

pub returns-clause-all : goal.returns-clause-all
returns-clause-all c = revoke_leaves_out

pub returns-clause-live : goal.returns-clause-live
returns-clause-live c = live_revoke_is_without

pub returns-clause-before : goal.returns-clause-before
returns-clause-before c = live_revoke_gives_back
