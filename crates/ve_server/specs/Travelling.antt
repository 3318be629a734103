-- Entries as they travel, by value.
use Rattle.std.specs.Prelude.{List, [], ◌++◌, map}
use Rattle.model_site.specs.Entries.{Hints, Parcel as Travelled}
use Rattle.ve_tx.specs.declared.parcel.Parcel.{Parcel}
use Rattle.ve_tx.specs.ByValue.{parcel_by_value}

-- entries, and beside them what each takes back
pub record Travelling : Type 0 where
  pub entries : List Travelled
  pub hints : Hints

abbrev pub travelling : List Parcel → Travelling
travelling parcels = record { entries = map parcel_by_value parcels; hints = map (λ (p : Parcel). p.entry.takes_back) parcels }

abbrev pub none_travelling : Travelling
none_travelling = record { entries = []; hints = [] }

-- these and then others
abbrev pub travel_with : Travelling → Travelling → Travelling
travel_with some later = record { entries = some.entries ++ later.entries; hints = some.hints ++ later.hints }
