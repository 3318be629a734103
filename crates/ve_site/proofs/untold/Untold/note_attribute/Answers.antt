use Rattle.ve_site.proofs.untold.Untold.note_attribute.Goals as goal

pub returns : goal.returns
returns c = c.put.ensures
