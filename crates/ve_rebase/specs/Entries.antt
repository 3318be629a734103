-- Entries with their own values: their transactions by value, and the fields that joining leaves as
-- they were.
use Rattle.std.specs.Prelude.{ℕ, List, [], length, flat_map, Result}
use Rattle.model_change.specs.Transaction.{Transaction}
use Rattle.model_change.specs.Join.{join_list, RangeConflict}
use Rattle.ve_tx.specs.declared.parcel.Parcel.{Parcel}
use Rattle.ve_tx.specs.ByValue.{parcel_by_value}
use Rattle.ve_tx.specs.Operation.{Operation}

-- the transactions of all entries, each over its own values, in order
abbrev pub parcels_by_value : List Parcel → List Transaction
parcels_by_value parcels = flat_map parcel_by_value parcels

abbrev pub operations_of : List Parcel → List (List Operation)
operations_of parcels = flat_map (λ parcel. parcel.entry.txs) parcels

-- how many transactions it has, and all else of it
abbrev pub outline : Parcel → ℕ × Parcel
outline parcel = (length parcel.entry.txs, record parcel { entry = record parcel.entry { txs = [] } })

-- entries and one more joined by value, each over its own values
abbrev pub joined_entries : List Parcel → Parcel → Result (List Transaction × List Transaction) RangeConflict
joined_entries committed mine = join_list (parcels_by_value committed) (parcel_by_value mine)

abbrev pub both_entries : List Parcel × Parcel → List Transaction × List Transaction
both_entries two = (parcels_by_value two.0, parcel_by_value two.1)
