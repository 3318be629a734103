use Rattle.ve_repair.proofs.LeadLemmas.{unlink-leads}
use Rattle.ve_repair.proofs.linking.unlink.Goals as goal

pub returns-clause-leads : goal.returns-clause-leads
returns-clause-leads g c =
    unlink-leads c.args.arena.now.slots c.close_gap.new.arena.slots c.args.parent.0 c.args.n.0 c.requires.leads c.close_gap.ensures.labels c.close_gap.ensures.links
