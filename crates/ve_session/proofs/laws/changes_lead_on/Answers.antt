use Rattle.ve_session.proofs.PatchLemmas.{changes_lead}
use Rattle.ve_session.proofs.laws.changes_lead_on.Goals as goal

pub returns : goal.returns
returns c = changes_lead c.lines_show.ensures
