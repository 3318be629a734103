-- Parcels by value: their transactions over the values that they bring.
use Rattle.std.specs.Prelude.{List, All, map}
use Rattle.model_change.specs.Transaction.{Transaction}
use Rattle.ve_tx.specs.declared.parcel.Parcel.{Parcel}
use Rattle.ve_tx.specs.Cites.{TxCites}
use Rattle.ve_tx.specs.Operation.{by_value}

-- a parcel's transactions by value
abbrev pub parcel_by_value : Parcel → List Transaction
parcel_by_value parcel = map (by_value parcel.values) parcel.entry.txs

-- the items of a parcel's transactions cite the values that it brings
abbrev pub ParcelCites : Parcel → Type 0
ParcelCites parcel = All (TxCites parcel.values) parcel.entry.txs
