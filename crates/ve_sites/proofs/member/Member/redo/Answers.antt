use Rattle.std.proofs.Common.{◌≡◌, IsOk, IfErr, subst}
use Rattle.model_site.specs.Site.{redo}
use Rattle.model_site.specs.declared.site_fault.RedoFault.TheVariants as fault
use Rattle.ve_sites.specs.Senders.{Sender}
use Rattle.ve_sites.proofs.member.Member.redo.Goals as goal

pub returns-clause-memory : goal.returns-clause-memory
returns-clause-memory g c = subst (λ (x : Sender). IfErr c.redo.result (λ why. why ≡ fault.Memory → IsOk (redo x.site))) c.self.view_is c.redo.ensures.memory
