-- The transactions that a site makes of its list where it undoes, redoes, revokes or takes, in their
-- order.
use Rattle.std.specs.Prelude.{ℕ, Bool, List, [], ◌∷◌, ◌++◌, length, drop, Result, Ok, Err}
use Rattle.model_change.specs.Replay.{flattened, reversal}
use Rattle.model_change.specs.Transaction.{Transaction}
use Rattle.model_site.specs.Entries.{Entry, Hints, Parcel, parcels}
use Rattle.model_site.specs.Joined.{join_entries}
use Rattle.model_site.specs.Live.{RevokeCause, revocation}
use Rattle.model_site.specs.Site.{Site, hinted_entries, init_and_last, pending}
use Rattle.model_site.specs.Take.{take_entry}

-- the last of a site's entries that are not sent, taken back
abbrev pub undoing : List Entry → List Transaction
undoing [] = []
undoing (e ∷ es) = reversal (init_and_last e es).1.txs

-- the first of those that it undid, performed again
abbrev pub redoing : List Parcel → List Transaction
redoing [] = []
redoing (p ∷ ps) = p

-- An entry of another site, taken: the pending ones that are dropped for it are taken back, the last
-- one first, and it is performed over those that are kept.
abbrev pub taking_one : Parcel → Site → List Transaction
taking_one foreign s =
    let j = join_entries foreign (parcels (pending s)) in
    reversal (flattened (parcels (drop (length j.kept) (pending s)))) ++ j.committed

-- entries, one after the other
abbrev pub taking_all : List Parcel → Site → List Transaction
taking_all [] s = []
taking_all (entry ∷ entries) s = taking_one entry s ++ taking_all entries (take_entry entry s)

abbrev pub back_of : Result (List Transaction) RevokeCause → List Transaction
back_of (Err cause) = []
back_of (Ok back) = back

-- entry i of those that a site knows taken back; none, if that is refused
abbrev pub revoking : (committed : List Parcel) → Hints → (live : Bool) → ℕ → Site → List Transaction
revoking committed taken live i s = back_of (revocation live (hinted_entries committed taken s) i)
