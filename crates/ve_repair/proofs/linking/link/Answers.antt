use Rattle.ve_repair.proofs.LeadLemmas.{link-leads}
use Rattle.ve_repair.proofs.linking.link.Goals as goal

pub returns-clause-leads : goal.returns-clause-leads
returns-clause-leads g c =
    link-leads c.args.arena.now.slots c.fill_gap.new.arena.slots c.args.parent c.args.n c.args.left c.requires.leads c.requires.parent_live c.requires.live c.requires.left_live
    c.fill_gap.ensures.labels c.fill_gap.ensures.links
