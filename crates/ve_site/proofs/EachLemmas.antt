-- Parcels performed one after the other, in place.
use Rattle.std.proofs.Common.{◌≡◌, ◌≤◌, ◌<◌, ◌+◌, ℕ, List, [], ◌∷◌, ◌++◌, length, map, drop, get_or, refl, sym, ap, ◌∙◌, subst, arith}
use Rattle.std.proofs.lemmas.List.{at_drop_more, drop_all}
use Rattle.model_items.specs.declared.plain_item.PlainItem.{PlainItem}
use Rattle.model_change.specs.Replay.{flattened, replay}
use Rattle.model_change.specs.Transaction.{Transaction, edited}
use Rattle.model_site.specs.Replica.{Replica, all_performed}
use Rattle.model_site_law.proofs.RevertLemmas.{items_performed}
use Rattle.ve_tx.specs.declared.parcel.Parcel.{Parcel}
use Rattle.ve_tx.specs.ByValue.{parcel_by_value}
use Rattle.model_change.specs.Cost.{cost_of_transactions}
use Rattle.ve_editor.specs.Edited.{AllStand}
use Rattle.ve_site.proofs.MakingLemmas.{all_performed-append, steps_of_both}

-- the first of them stand, and the others then
stand_both : (ts us : List Transaction) (items : List PlainItem) → AllStand (ts ++ us) items → AllStand ts items × AllStand us (replay ts items)
stand_both [] us items h = (tt, h)
stand_both (t ∷ ts) us items h = let rest = stand_both ts us (edited t items) h.2 in ((h.0, h.1, rest.0), rest.1)

-- the transactions of the parcels from one on
abbrev pub from_on : ℕ → List Parcel → List Transaction
from_on i parcels = flattened (map parcel_by_value (drop i parcels))

-- those before one are performed, and these numbers of steps were counted before and after
pub record ArePerformed (old : Replica) (parcels : List Parcel) (i : ℕ) (now : Replica) (before after : ℕ) : Type 0 where
  pub page : all_performed (from_on i parcels) now ≡ all_performed (from_on 0 parcels) old
  pub stand : AllStand (from_on i parcels) now.items
  pub counted : before ≤ after
  pub spent : after + cost_of_transactions (from_on i parcels) now.items ≤ before + cost_of_transactions (from_on 0 parcels) old.items

pub none_performed : (old : Replica) (parcels : List Parcel) (before : ℕ) → AllStand (from_on 0 parcels) old.items → ArePerformed old parcels 0 old before before
none_performed old parcels before stand = record { page = refl; stand = stand; counted = omega arith; spent = omega arith }

module _ (old : Replica) (parcels : List Parcel) (i : ℕ) (now : Replica) (before after : ℕ) (are : ArePerformed old parcels i now before after) (one : Parcel) (below : i < length parcels)
    (is : one ≡ get_or parcels i one) where
  split : from_on i parcels ≡ parcel_by_value one ++ from_on (i + 1) parcels
  split =
      ap flattened (at_drop_more (map parcel_by_value) parcels i one below) ∙ ap (λ x. parcel_by_value x ++ from_on (i + 1) parcels) (sym is)

  both_stand : AllStand (parcel_by_value one) now.items × AllStand (from_on (i + 1) parcels) (replay (parcel_by_value one) now.items)
  both_stand = stand_both (parcel_by_value one) (from_on (i + 1) parcels) now.items (subst (λ ts. AllStand ts now.items) split are.stand)

  pub next_stands : AllStand (parcel_by_value one) now.items
  next_stands = both_stand.0

  both_count : cost_of_transactions (from_on i parcels) now.items
      ≡ cost_of_transactions (parcel_by_value one) now.items + cost_of_transactions (from_on (i + 1) parcels) (replay (parcel_by_value one) now.items)
  both_count = ap (λ ts. cost_of_transactions ts now.items) split ∙ steps_of_both (parcel_by_value one) (from_on (i + 1) parcels) now.items

  pub next_within : (later : ℕ) → later ≤ after + cost_of_transactions (parcel_by_value one) now.items → later ≤ before + cost_of_transactions (from_on 0 parcels) old.items
  next_within later h = let b = both_count in let s = are.spent in omega (arith, h, b, s)

  pub next_performed : (new : Replica) (later : ℕ) → new ≡ all_performed (parcel_by_value one) now → after ≤ later → later ≤ after + cost_of_transactions (parcel_by_value one) now.items →
      ArePerformed old parcels (i + 1) new before later
  next_performed new later page counted spent =
      let list : new.items ≡ replay (parcel_by_value one) now.items = ap (λ (r : Replica). r.items) page ∙ items_performed (parcel_by_value one) now in
      let b = both_count in
      let s = are.spent in
      let c = are.counted in
      record {
        page = ap (all_performed (from_on (i + 1) parcels)) page
            ∙ (all_performed-append (parcel_by_value one) (from_on (i + 1) parcels) now ∙ (sym (ap (λ ts. all_performed ts now) split) ∙ are.page));
        stand = subst (AllStand (from_on (i + 1) parcels)) (sym list) both_stand.1;
        counted = omega (arith, c, counted);
        spent = subst (λ items. later + cost_of_transactions (from_on (i + 1) parcels) items ≤ before + cost_of_transactions (from_on 0 parcels) old.items) (sym list) (omega (arith, b, s, spent));
      }

pub all_are_performed : (old : Replica) (parcels : List Parcel) (i : ℕ) (now : Replica) (before after : ℕ) → ArePerformed old parcels i now before after → length parcels ≤ i →
    now ≡ all_performed (from_on 0 parcels) old
all_are_performed old parcels i now before after are end =
    sym (ap (λ ps. all_performed (flattened (map parcel_by_value ps)) now) (drop_all i parcels end)) ∙ are.page

pub performed_within : (old : Replica) (parcels : List Parcel) (i : ℕ) (now : Replica) (before after : ℕ) → ArePerformed old parcels i now before after →
    after ≤ before + cost_of_transactions (from_on 0 parcels) old.items
performed_within old parcels i now before after are = let s = are.spent in omega (arith, s)
