-- What a call of `send_refusal` tells a caller who then sends.
use Rattle.std.proofs.Common.{◌≡◌, Option, Some, Result, Ok, Err, IfErr, IsOk, refl, subst}
use Rattle.model_site.specs.Causes as cause
use Rattle.model_site.specs.Causes.{SendCause}
use Rattle.model_site.specs.Site.{Site, Submission}
use Rattle.model_site.specs.declared.site_fault.SendFault.{SendFault}
use Rattle.model_site.specs.declared.site_fault.SendFault.TheVariants as fault
use Rattle.ve_site.specs.Refusal.{IsSendRefusal, send_refusal}

pub refusal_is : (r : Result (Site × Submission) SendCause) (why : SendFault) → send_refusal r ≡ Some why → IsSendRefusal r why
refusal_is (Ok sent) why e = absurd (cc)
refusal_is (Err (cause.InFlight n)) why e =
    let same : fault.InFlight n ≡ why = cc in
    subst (λ (f : SendFault). IsSendRefusal {A = Site × Submission} (Err (cause.InFlight n)) f) same refl
refusal_is (Err cause.NothingToSend) why e =
    let same : fault.NothingToSend ≡ why = cc in
    subst (λ (f : SendFault). IsSendRefusal {A = Site × Submission} (Err cause.NothingToSend) f) same refl

pub not_memory : (r : Result (Site × Submission) SendCause) (why : SendFault) → send_refusal r ≡ Some why → why ≡ fault.Memory → IsOk r
not_memory (Ok sent) why e want = refl
not_memory (Err (cause.InFlight n)) why e want = absurd (cc (e, want))
not_memory (Err cause.NothingToSend) why e want = absurd (cc (e, want))

pub may_send : (r : Result (Site × Submission) SendCause) (o : Option SendFault) → o ≡ send_refusal r → ((why : SendFault) → o ≡ Some why → ⊥) → IsOk r
may_send (Ok sent) o told none = refl
may_send (Err (cause.InFlight n)) o told none = absurd (none (fault.InFlight n) told)
may_send (Err cause.NothingToSend) o told none = absurd (none fault.NothingToSend told)

pub if_wanting : {A : Type 0} (r : Result A SendFault) (P : Type 0) → P → IfErr r (λ why. why ≡ fault.Memory → P)
if_wanting (Ok x) P h = tt
if_wanting (Err why) P h = λ _. h
