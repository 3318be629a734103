-- The invariant holds at first and after each event.
use Rattle.std.specs.Prelude.{ℕ}
use Rattle.model_site.specs.Replica.{Replica}
use Rattle.model_site.specs.Session.{Session, started}
use Rattle.model_site.specs.Events.{Event, happens}
use Rattle.model_site_law.specs.Sound.{Opens}
use Rattle.model_site_law.specs.MayHappen.{MayHappen}
use Rattle.model_site_law.specs.Protocol.{SessionHolds}

abbrev pub HoldsAtFirst : Type 0
HoldsAtFirst = (base : Replica) (sites : ℕ) → Opens base → SessionHolds (started base sites)

abbrev pub EventsKeep : Type 0
EventsKeep = (w : Session) (e : Event) → SessionHolds w → MayHappen w e → SessionHolds (happens w e)
