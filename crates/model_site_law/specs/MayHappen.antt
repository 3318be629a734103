-- Which events the laws are of: all whose transactions may be performed.
use Rattle.std.specs.Prelude.{◌≡◌, ◌<◌, true, List, [], ◌∷◌, slice_get, Some, None}
use Rattle.model_change.specs.Transaction.{Transaction, is_reduced, InsertedApart}
use Rattle.model_site.specs.Replica.{Replica}
use Rattle.model_site.specs.Refused.{edit_cause}
use Rattle.model_site.specs.Session.{Member, Session}
use Rattle.model_site.specs.Events.{Event, Perform, Revoke, happens}
use Rattle.model_site_law.specs.Sound.{MayRun, AllMayRun}

-- So may each one that a site does not refuse: the rest is kept by the type of transactions.
abbrev pub EditMayRun : Type 0
EditMayRun = (t : Transaction) (r : Replica) → is_reduced t ≡ true → InsertedApart t → edit_cause t r ≡ None → MayRun t r.items

-- A transaction that is performed may be performed on the site's list, and an entry that is revoked
-- was seen. All else may always happen.
abbrev pub MayHappen : Session → Event → Type 0
MayHappen w (Perform k ts) = (m : Member) → slice_get w.members k ≡ Some m → AllMayRun ts m.site.replica.items
MayHappen w (Revoke k i live) = (m : Member) → slice_get w.members k ≡ Some m → i < m.site.seen
MayHappen w _ = Unit {0}

-- each after those before it
abbrev pub AllMayHappen : Session → List Event → Type 0
AllMayHappen w [] = Unit {0}
AllMayHappen w (e ∷ es) = MayHappen w e × AllMayHappen (happens w e) es
