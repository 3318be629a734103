-- Entries joined over committed transactions, one after the other, up to the first conflict. So the
-- server accepts a submission, and so a site keeps its pending entries under a foreign one.
use Rattle.std.specs.Prelude.{List, [], ◌∷◌, Option, Some, None, Result, Ok, Err}
use Rattle.model_change.specs.Transaction.{Transaction}
use Rattle.model_change.specs.Join.{RangeConflict, join_list}
use Rattle.model_site.specs.Entries.{Parcel}

pub record Joined : Type 0 where
  -- the entries before the first conflict, over the committed ones
  pub kept : List Parcel
  -- the committed ones over the entries kept
  pub committed : List Transaction
  pub clash : Option RangeConflict

-- the first entry, and the rest over what the committed ones then are; in conflict, it and the rest
-- are not joined
abbrev pub joined_first : List Transaction → Result (List Transaction × List Transaction) RangeConflict → (List Transaction → Joined) →
    Joined
joined_first committed (Err clash) rest = record { kept = []; committed = committed; clash = Some clash }
joined_first committed (Ok joined) rest =
    let j = rest joined.0 in
    record { kept = joined.1 ∷ j.kept; committed = j.committed; clash = j.clash }

abbrev pub join_entries : (committed : List Transaction) → List Parcel → Joined
join_entries committed [] = record { kept = []; committed = committed; clash = None }
join_entries committed (entry ∷ entries) = joined_first committed (join_list committed entry) (λ over. join_entries over entries)
