-- The first of some entries taken back under those behind it that count.
use Rattle.std.specs.Prelude.{◌≡◌, ℕ, suc, ◌<◌, List, [], ◌∷◌, length, drop, Result, Ok}
use Rattle.model_items.specs.declared.plain_item.PlainItem.{PlainItem}
use Rattle.model_items.specs.Law.{Lawful}
use Rattle.model_change.specs.Attributes.{AllNamesApart}
use Rattle.model_change.specs.Transaction.{Transaction}
use Rattle.model_change.specs.Replay.{AllRun, flattened}
use Rattle.model_site.specs.Live.{Hinted, RevokeCause, live_from, revoke_live, under_live}
use Rattle.ve_tx.specs.declared.parcel.Parcel.{Parcel}
use Rattle.ve_tx.specs.ByValue.{parcel_by_value}

-- a parcel by value, with what it takes back
abbrev pub hinted_parcel : Parcel → Hinted
hinted_parcel parcel = record { txs = parcel_by_value parcel; takes_back = parcel.entry.takes_back }

-- The transactions that take the first of these back, which has number n, under what counts behind
-- it. (Of none there is nothing to take back.)
abbrev pub revoke_first : (n : ℕ) → List Hinted → Result (List Transaction) RevokeCause
revoke_first n [] = Ok []
revoke_first n (e ∷ es) = under_live e.txs (live_from n e.txs (suc n) es [])

-- they run one after the other from some page
pub record RunFromPage (entries : List (List Transaction)) : Type 0 where
  pub base : List PlainItem
  pub lawful : Lawful base
  pub apart : AllNamesApart base
  pub runs : AllRun (flattened entries) base

-- An entry is taken back in one way, whatever stands before it.
abbrev pub EarlierDoNotCount : Type 0
EarlierDoNotCount = (entries : List Hinted) (i : ℕ) → i < length entries → revoke_first i (drop i entries) ≡ revoke_live entries i
