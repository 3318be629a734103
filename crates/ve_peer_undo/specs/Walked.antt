-- The walk over the entries behind the first: for private functions.
use Rattle.std.specs.Prelude.{◌≡◌, ℕ, suc, List, [], ◌∷◌, map, Ok, Err, Result}
use Rattle.model_change.specs.Replay.{reversal}
use Rattle.model_change.specs.Transaction.{Transaction}
use Rattle.model_site.specs.Live.{Standing, live_from}
use Rattle.ve_tx.specs.declared.parcel.Parcel.{Parcel}
use Rattle.ve_tx.specs.ByValue.{parcel_by_value}
use Rattle.ve_rebase.specs.Entries.{parcels_by_value}
use Rattle.ve_rebase.specs.Lists.{RunFromOneLength}
use Rattle.ve_peer_undo.specs.Counted.{AreKept, counted}
use Rattle.ve_peer_undo.specs.Counting.{hinted_parcel}
use Rattle.ve_peer_undo.specs.declared.fault.LiveFault.{LiveFault}
use Rattle.ve_peer_undo.specs.declared.fault.LiveFault.TheVariants as live

-- what counts behind the first of these entries, which has number n
abbrev pub counting : (n : ℕ) → List Parcel → Result (List Standing) ℕ
counting n [] = Ok []
counting n (p ∷ ps) = live_from n (parcel_by_value p) (suc n) (map hinted_parcel ps) []

abbrev pub own_txs : List Parcel → List Transaction
own_txs [] = []
own_txs (p ∷ ps) = parcel_by_value p

-- these count, and the first entry may be taken back under them
pub record AreCounted (n : ℕ) (entries : List Parcel) (ns : List ℕ) (ps : List Parcel) : Type 0 where
  pub counts : counting n entries ≡ Ok (counted ns ps)
  pub kept : AreKept ns ps
  pub run : RunFromOneLength (parcels_by_value ps) (reversal (own_txs entries))

-- one of them took the first entry back
abbrev pub IsCounted : (n : ℕ) → List Parcel → LiveFault → Type 0
IsCounted n entries (live.TakenBack by) = counting n entries ≡ Err by
IsCounted n entries (live.Conflict later reversal) = ⊥
IsCounted n entries live.Memory = Unit {0}
