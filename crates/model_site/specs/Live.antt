-- What still counts of entries, and an entry taken back under it. What took each other back leaves
-- nothing, and so does not stand in the way.
use Rattle.std.specs.Prelude.{ℕ, suc, Bool, true, false, not, ◌&&◌, ◌==◌, if◌then◌else◌, List, [], ◌∷◌, ◌++◌, length, map, take, drop, Option, Some, None, is_some, option_map, Result, Ok, Err}
use Rattle.model_items.specs.Same.{item_same, list_same, option_same, text_same}
use Rattle.model_change.specs.Attributes.{AttrChange}
use Rattle.model_change.specs.Transaction.{Op, Retain, Replace, Attribute, Transaction}
use Rattle.model_change.specs.Join.{RangeConflict, join_list}
use Rattle.model_change.specs.Replay.{entry_at, mine_of, reversal, revoke}
use Rattle.model_site.specs.Entries.{Parcel, Hints}

-- One effect: equal, but for the position that a change keeps of an attribute that it removes.
abbrev pub change_alike : AttrChange → AttrChange → Bool
change_alike c d =
    text_same c.name d.name
    && (option_same text_same c.from d.from
    && (option_same text_same c.to d.to
    && (if is_some c.from && not (is_some c.to) then true else option_same (λ x y. x == y) c.kept d.kept)))

abbrev pub op_alike : Op → Op → Bool
op_alike (Retain count) (Retain other) = count == other
op_alike (Replace removed inserted) (Replace others instead) = list_same item_same removed others && list_same item_same inserted instead
op_alike (Attribute change) (Attribute other) = change_alike change other
op_alike _ _ = false

abbrev pub all_alike : List Transaction → List Transaction → Bool
all_alike ts others = list_same (list_same op_alike) ts others

-- an entry with what it takes back
pub record Hinted : Type 0 where
  pub txs : Parcel
  pub takes_back : Option ℕ

-- entries, each with the hint beside it, if there is one
abbrev pub hinted : List Parcel → Hints → List Hinted
hinted [] taken = []
hinted (p ∷ ps) [] = record { txs = p; takes_back = None } ∷ hinted ps []
hinted (p ∷ ps) (t ∷ taken) = record { txs = p; takes_back = t } ∷ hinted ps taken

abbrev pub unhinted : List Hinted → List Parcel
unhinted entries = map (λ (e : Hinted). e.txs) entries

-- an entry that counts: its number, and its transactions as they run after those before it that
-- count
pub record Standing : Type 0 where
  pub number : ℕ
  pub txs : List Transaction

abbrev pub all_standing : List Standing → List Transaction
all_standing [] = []
all_standing (s ∷ ss) = s.txs ++ all_standing ss

-- these with other transactions, as many each
abbrev pub with_txs : List Transaction → List Standing → List Standing
with_txs ts [] = []
with_txs ts (s ∷ ss) = record { number = s.number; txs = take (length s.txs) ts } ∷ with_txs (drop (length s.txs) ts) ss

-- Those after one that `back` takes back, as they are without it. `back` takes it back where it has
-- the effect of what takes it back under them.
abbrev pub left_by : (back : List Transaction) → Result (List Transaction × List Transaction) RangeConflict → (after : List Standing) → Option (List Standing)
left_by back (Err clash) after = None
left_by back (Ok joined) after = if all_alike joined.1 back then Some (with_txs joined.0 after) else None

abbrev pub left_without : (back taken : List Transaction) → (after : List Standing) → Option (List Standing)
left_without back taken after = left_by back (join_list (all_standing after) (reversal taken)) after

-- these without number m, if it is among them and `back` takes it back
abbrev pub without : (m : ℕ) (back : List Transaction) → List Standing → Option (List Standing)
without m back [] = None
without m back (s ∷ after) =
    if s.number == m then left_without back s.txs after else option_map (λ rest. s ∷ rest) (without m back after)

abbrev pub without_hint : Option ℕ → List Transaction → List Standing → Option (List Standing)
without_hint None back standing = None
without_hint (Some m) back standing = without m back standing

abbrev pub or_last : Standing → List Standing → Option (List Standing) → List Standing
or_last s standing None = standing ++ s ∷ []
or_last s standing (Some left) = left

-- One more entry, of number n: it takes one of these back, or counts itself.
abbrev pub stand : (n : ℕ) → Hinted → List Standing → List Standing
stand n e standing = or_last (record { number = n; txs = e.txs }) standing (without_hint e.takes_back e.txs standing)

abbrev pub is_back : (i : ℕ) (own : List Transaction) → Hinted → List Standing → Bool
is_back i own e standing = option_same (λ x y. x == y) e.takes_back (Some i) && is_some (left_without e.txs own standing)

-- What counts behind entry i, whose transactions are `own`, after more entries, the first of number
-- n; or the number of the one that took i back.
abbrev pub live_from : (i : ℕ) (own : List Transaction) (n : ℕ) → List Hinted → List Standing → Result (List Standing) ℕ
live_from i own n [] standing = Ok standing
live_from i own n (e ∷ es) standing = if is_back i own e standing then Err n else live_from i own (suc n) es (stand n e standing)

-- what counts behind entry i of these
abbrev pub live : List Hinted → ℕ → Result (List Standing) ℕ
live entries i = live_from i (entry_at (unhinted entries) i) (suc i) (drop (suc i) entries) []

-- Why an entry is not taken back: a later one, of that number, took it back; or the first two ranges
-- in conflict.
pub data RevokeCause : Type 0 where
  TakenBack : (by : ℕ) → RevokeCause
  Conflict : RangeConflict → RevokeCause

abbrev pub in_conflict : Result (List Transaction) RangeConflict → Result (List Transaction) RevokeCause
in_conflict (Ok back) = Ok back
in_conflict (Err clash) = Err (Conflict clash)

abbrev pub under_live : List Transaction → Result (List Standing) ℕ → Result (List Transaction) RevokeCause
under_live own (Err by) = Err (TakenBack by)
under_live own (Ok standing) = in_conflict (mine_of (join_list (all_standing standing) (reversal own)))

-- the transactions that take entry i back under what counts behind it
abbrev pub revoke_live : List Hinted → ℕ → Result (List Transaction) RevokeCause
revoke_live entries i = under_live (entry_at (unhinted entries) i) (live entries i)

-- under what counts, or under all later entries
abbrev pub revocation : (live : Bool) → List Hinted → ℕ → Result (List Transaction) RevokeCause
revocation true entries i = revoke_live entries i
revocation false entries i = in_conflict (revoke (unhinted entries) i)
