use Rattle.std.proofs.Common.{◌≡◌, IsOk, IfErr, subst}
use Rattle.model_site.specs.Site.{undo}
use Rattle.model_site.specs.declared.site_fault.UndoFault.TheVariants as fault
use Rattle.ve_sites.specs.Senders.{Sender}
use Rattle.ve_sites.proofs.member.Member.undo.Goals as goal

pub returns-clause-memory : goal.returns-clause-memory
returns-clause-memory g c = subst (λ (x : Sender). IfErr c.undo.result (λ why. why ≡ fault.Memory → IsOk (undo x.site))) c.self.view_is c.undo.ensures.memory
