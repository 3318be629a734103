use Rattle.ve_classify.proofs.CitationLemmas.{references_are_cited}
use Rattle.ve_classify.proofs.laws.references_are_cited.Goals as goal

pub returns : goal.returns
returns c = references_are_cited
