-- The transactions that taking entries makes: those of some entries and then of others, and the
-- list that they give.
use Rattle.std.proofs.Common.{◌≡◌, ◌≤◌, ◌+◌, List, [], ◌∷◌, ◌++◌, length, drop, refl, sym, ap, ◌∙◌, subst, arith}
use Rattle.std.proofs.lemmas.List.{append_assoc}
use Rattle.model_items.specs.declared.plain_item.PlainItem.{PlainItem}
use Rattle.model_change.specs.Replay.{AllRun, flattened, replay, reversal}
use Rattle.model_change.specs.Transaction.{Transaction, edited}
use Rattle.model_site.specs.Entries.{Entry, Parcel, all_reverted, parcels}
use Rattle.model_site.specs.Joined.{join_entries}
use Rattle.model_site.specs.Replica.{Replica, all_performed, performed}
use Rattle.model_site.specs.Site.{Site, pending}
use Rattle.model_site.specs.Take.{take_entry, take_foreign}
use Rattle.model_site_law.proofs.ReplayLemmas.{AllRun-parts, flattened-append, replay-append}
use Rattle.model_site_law.proofs.RevertLemmas.{items_performed, items_put_back}
use Rattle.model_change.specs.Cost.{cost_of_transactions}
use Rattle.ve_site.specs.Underway.{with_none_undone}
use Rattle.ve_site.specs.Ground.{Stands, ground_of}
use Rattle.model_site.specs.Made.{taking_all, taking_one}
use Rattle.ve_site.proofs.NotedLemmas.{reversal-append}
use Rattle.ve_site.proofs.TakenLemmas.{has_taken, may_take_next, restacked_stands, taken_anyway}

-- ---- transactions, one after the other

pub all_performed-append : (ts us : List Transaction) (r : Replica) → all_performed us (all_performed ts r) ≡ all_performed (ts ++ us) r
all_performed-append [] us r = refl
all_performed-append (t ∷ ts) us r = all_performed-append ts us (performed t r)

pub steps_of_both : (ts us : List Transaction) (items : List PlainItem) → cost_of_transactions (ts ++ us) items ≡ cost_of_transactions ts items + cost_of_transactions us (replay ts items)
steps_of_both [] us items = omega arith
steps_of_both (t ∷ ts) us items = let rest = steps_of_both ts us (edited t items) in omega (arith, rest)

-- the first of them count no more
pub steps_of_first : (ts us : List Transaction) (items : List PlainItem) → cost_of_transactions ts items ≤ cost_of_transactions (ts ++ us) items
steps_of_first ts us items = let both = steps_of_both ts us items in omega (arith, both)

-- ---- the list that they give

pub items_back : (es : List Entry) (r : Replica) → (all_reverted es r).items ≡ replay (reversal (flattened (parcels es))) r.items
items_back [] r = refl
items_back (e ∷ es) r =
    let later = flattened (parcels es) in
    items_put_back (reversal e.txs) (all_reverted es r)
    ∙ (ap (replay (reversal e.txs)) (items_back es r)
    ∙ (sym (replay-append (reversal later) (reversal e.txs) r.items) ∙ ap (λ ts. replay ts r.items) (sym (reversal-append e.txs later))))

pub one_replayed : (foreign : Parcel) (s : Site) → (take_entry foreign s).replica.items ≡ replay (taking_one foreign s) s.replica.items
one_replayed foreign s =
    let j = join_entries foreign (parcels (pending s)) in
    let gone = drop (length j.kept) (pending s) in
    items_performed j.committed (all_reverted gone s.replica)
    ∙ (ap (replay j.committed) (items_back gone s.replica) ∙ sym (replay-append (reversal (flattened (parcels gone))) j.committed s.replica.items))

pub all_replayed : (entries : List Parcel) (s : Site) → (take_foreign entries s).replica.items ≡ replay (taking_all entries s) s.replica.items
all_replayed [] s = refl
all_replayed (entry ∷ entries) s =
    all_replayed entries (take_entry entry s)
    ∙ (ap (replay (taking_all entries (take_entry entry s))) (one_replayed entry s)
    ∙ sym (replay-append (taking_one entry s) (taking_all entries (take_entry entry s)) s.replica.items))

-- ---- some entries, and then others

pub making_anyway : (entries : List Parcel) (s : Site) → taking_all entries s ≡ taking_all entries (with_none_undone s)
making_anyway [] s = refl
making_anyway (entry ∷ entries) s = refl

pub made-append : (first later : List Parcel) (s : Site) → taking_all (first ++ later) s ≡ taking_all first s ++ taking_all later (take_foreign first s)
made-append [] later s = making_anyway later s
made-append (entry ∷ first) later s =
    ap (λ ts. taking_one entry s ++ ts) (made-append first later (take_entry entry s))
    ∙ sym (append_assoc (taking_one entry s) (taking_all first (take_entry entry s)) (taking_all later (take_foreign first (take_entry entry s))))

pub taken-append : (first later : List Parcel) (s : Site) → take_foreign (first ++ later) s ≡ take_foreign later (take_foreign first s)
taken-append [] later s = sym (taken_anyway later s)
taken-append (entry ∷ first) later s = taken-append first later (take_entry entry s)

-- what the first count, and then the later ones
pub steps_of_taking : (first later : List Parcel) (s : Site) →
    cost_of_transactions (taking_all (first ++ later) s) s.replica.items
    ≡ cost_of_transactions (taking_all first s) s.replica.items + cost_of_transactions (taking_all later (take_foreign first s)) (take_foreign first s).replica.items
steps_of_taking first later s =
    let next = take_foreign first s in
    ap (λ ts. cost_of_transactions ts s.replica.items) (made-append first later s)
    ∙ (steps_of_both (taking_all first s) (taking_all later next) s.replica.items
    ∙ ap (λ items. cost_of_transactions (taking_all first s) s.replica.items + cost_of_transactions (taking_all later next) items) (sym (all_replayed first s)))

-- ---- the invariant of a site

-- it stands on the confirmed list that the entries give
pub record HasTakenAll (entries : List Parcel) (s : Site) : Type 0 where
  pub stands : Stands (take_foreign entries s)
  pub ground : ground_of (take_foreign entries s) ≡ replay (flattened entries) (ground_of s)

pub has_taken_all : (entries : List Parcel) (s : Site) → Stands s → AllRun (flattened entries) (ground_of s) → HasTakenAll entries s
has_taken_all [] s stands run = record { stands = restacked_stands s (with_none_undone s) stands refl refl refl; ground = refl }
has_taken_all (entry ∷ entries) s stands run =
    let may = may_take_next entry entries s stands run in
    let first = has_taken entry s stands may.run in
    let rest = has_taken_all entries (take_entry entry s) first.stands may.others_run in
    record {
      stands = rest.stands;
      ground = rest.ground ∙ (ap (replay (flattened entries)) first.ground ∙ sym (replay-append entry (flattened entries) (ground_of s)));
    }

-- the first of them may be taken, and the later ones then
pub record MayTakeBoth (first later : List Parcel) (s : Site) : Type 0 where
  pub first_run : AllRun (flattened first) (ground_of s)
  pub stands : Stands (take_foreign first s)
  pub later_run : AllRun (flattened later) (ground_of (take_foreign first s))

pub may_take_both : (first later : List Parcel) (s : Site) → Stands s → AllRun (flattened (first ++ later)) (ground_of s) → MayTakeBoth first later s
may_take_both first later s stands run =
    let parts = AllRun-parts (flattened first) (flattened later) (ground_of s) (subst (λ ts. AllRun ts (ground_of s)) (flattened-append first later) run) in
    let taken = has_taken_all first s stands parts.0 in
    record { first_run = parts.0; stands = taken.stands; later_run = subst (AllRun (flattened later)) (sym taken.ground) parts.1 }
