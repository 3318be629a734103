-- The entries that count so far, as the code keeps them: for private functions.
use Rattle.std.specs.Prelude.{◌≡◌, ℕ, suc, Bool, true, false, ◌==◌, if◌then◌else◌, List, [], ◌∷◌, ◌++◌, length, All, Option, Some, None, option_map}
use Rattle.model_change.specs.Replay.{reversal}
use Rattle.model_change.specs.Transaction.{Transaction}
use Rattle.model_site.specs.Live.{Standing, all_standing, left_without, without_hint}
use Rattle.ve_tx.specs.declared.parcel.Parcel.{Parcel}
use Rattle.ve_tx.specs.ByValue.{parcel_by_value, ParcelCites}
use Rattle.ve_rebase.specs.Lists.{RunFromOneLength}

-- parcels with their numbers beside them
abbrev pub counted : List ℕ → List Parcel → List Standing
counted [] ps = []
counted (n ∷ ns) [] = []
counted (n ∷ ns) (p ∷ ps) = record { number = n; txs = parcel_by_value p } ∷ counted ns ps

-- Those after one that is taken back, as they are without it; nothing where `back` doesn't take it
-- back. So it is whatever their numbers are.
abbrev pub IsLeft : (after : List Parcel) (taken back : Parcel) → Option (List Parcel) → Type 0
IsLeft after taken back None =
    (ns : List ℕ) → length ns ≡ length after → left_without (parcel_by_value back) (parcel_by_value taken) (counted ns after) ≡ None
IsLeft after taken back (Some left) =
    ((ns : List ℕ) → length ns ≡ length after → left_without (parcel_by_value back) (parcel_by_value taken) (counted ns after) ≡ Some (counted ns left))
    × (length left ≡ length after) × All ParcelCites left

-- the first position of a number
abbrev pub position_of : ℕ → List ℕ → Option ℕ
position_of m [] = None
position_of m (n ∷ ns) = if n == m then Some 0 else option_map (λ k. suc k) (position_of m ns)

-- each may be taken back under those after it
abbrev pub EachMayLeave : List Standing → Type 0
EachMayLeave standing = (before after : List Standing) (s : Standing) → standing ≡ before ++ s ∷ after →
    RunFromOneLength (all_standing after) (reversal s.txs)

-- whether the entry of the hint was taken out, if there is one
abbrev pub IsTakenOut : (hint : Option ℕ) (back : List Transaction) (old new : List Standing) → Bool → Type 0
IsTakenOut hint back old new true = without_hint hint back old ≡ Some new
IsTakenOut hint back old new false = (without_hint hint back old ≡ None) × (new ≡ old)

-- the entries that are kept and their numbers are as many, and each cites its own values
pub record AreKept (ns : List ℕ) (ps : List Parcel) : Type 0 where
  pub many : length ns ≡ length ps
  pub cite : All ParcelCites ps
