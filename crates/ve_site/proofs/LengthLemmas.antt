-- How long the transactions of a take become.
use Rattle.std.proofs.Common.{◌≡◌, ◌≤◌, ℕ, zero, suc, ◌+◌, List, [], ◌∷◌, ◌++◌, length, take, arith}
use Rattle.ve_base.specs.Limits.{max_total_length}
use Rattle.model_change.specs.Replay.{flattened, inserted_by}
use Rattle.model_change.specs.Transaction.{Transaction}
use Rattle.model_change.proofs.JoinListLaw.{AllWithin-more}
use Rattle.model_site.specs.Entries.{Parcel, parcels}
use Rattle.model_site.specs.Joined.{join_entries}
use Rattle.model_site.specs.Site.{pending}
use Rattle.model_site_law.proofs.UntilConflictLemmas.{entries_within}
use Rattle.ve_site.specs.Ground.{ground_of}
use Rattle.ve_site.specs.Laws.{TakenStayWithin}

inserted-append : (ts us : List Transaction) → inserted_by (ts ++ us) ≡ inserted_by ts + inserted_by us
inserted-append [] us = omega arith
inserted-append (t ∷ ts) us = let rest = inserted-append ts us in omega arith

-- the first so many insert no more
first_insert : (n : ℕ) (ps : List Parcel) → inserted_by (flattened (take n ps)) ≤ inserted_by (flattened ps)
first_insert zero ps = omega arith
first_insert (suc n) [] = omega arith
first_insert (suc n) (p ∷ ps) =
    let rest = first_insert n ps in
    let some = inserted-append p (flattened (take n ps)) in
    let all = inserted-append p (flattened ps) in
    omega (arith, rest, some, all)

pub taken_stay_within : TakenStayWithin
taken_stay_within foreign s h run fits =
    let floor = ground_of s in
    let own = parcels (pending s) in
    let j = join_entries foreign own in
    let within = entries_within foreign own floor h.sound run h.holds.runs in
    let least = length floor + (inserted_by foreign + inserted_by (flattened (take (length j.kept) own))) in
    let fewer : least ≤ max_total_length =
    let first = first_insert (length j.kept) own in let alone = inserted-append foreign [] in omega (arith, first, alone, fits) in
    (AllWithin-more least max_total_length j.committed fewer within.0, AllWithin-more least max_total_length (flattened j.kept) fewer within.1)
