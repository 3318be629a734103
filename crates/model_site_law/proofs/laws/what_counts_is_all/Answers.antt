use Rattle.model_site_law.proofs.LiveLemmas.{live_revoke_leaves_out, nothing_stands_above, what_counts_is_all}
use Rattle.model_site_law.proofs.laws.what_counts_is_all.Goals as goal

pub returns-clause-all : goal.returns-clause-all
returns-clause-all c = what_counts_is_all

pub returns-clause-left_out : goal.returns-clause-left_out
returns-clause-left_out c = live_revoke_leaves_out

pub returns-clause-before : goal.returns-clause-before
returns-clause-before c = nothing_stands_above
