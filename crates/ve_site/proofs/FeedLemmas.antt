-- Entries of other sites, taken one run after the other on a trial.
use Rattle.std.proofs.Common.{◌≡◌, ◌≤◌, ◌<◌, ◌+◌, ◌-◌, ℕ, List, [], ◌∷◌, ◌++◌, length, map, take, drop, get_or, refl, sym, ap, ◌∙◌, subst, arith}
use Rattle.std.proofs.lemmas.List.{append-nil, at_drop_more, drop_all, drop-drop, length-drop, map-append, take_all, take_more}
use Rattle.model_change.specs.Replay.{AllRun, flattened}
use Rattle.model_site.specs.Entries.{Parcel as ModelParcel}
use Rattle.model_site.specs.Site.{Site}
use Rattle.model_site.specs.Take.{take_entry, take_foreign}
use Rattle.model_change.specs.Cost.{cost_of_transactions}
use Rattle.ve_tx.specs.declared.parcel.Parcel.{Parcel}
use Rattle.ve_tx.specs.ByValue.{parcel_by_value}
use Rattle.ve_site.specs.declared.taking.Taking.{Taking}
use Rattle.ve_site.specs.Ground.{Stands, ground_of}
use Rattle.model_site.specs.Made.{taking_all, taking_one}
use Rattle.ve_site.specs.Underway.{HaveTaken, IsTaking, taking_site}
use Rattle.ve_site.proofs.FrontSiteLemmas.{parted_by_value}
use Rattle.ve_site.proofs.MakingLemmas.{may_take_both, steps_of_taking, taken-append}

-- it stands as a site does
pub taking_stands : (t : Taking) → IsTaking t → Stands (taking_site t)
taking_stands t is = is.stands t.rest.untold

-- the first so many count no more than all
pub first_within : (n : ℕ) (parcels : List Parcel) (s : Site) (before after : ℕ) → after ≤ before + cost_of_transactions (taking_all (map parcel_by_value (take n parcels)) s) s.replica.items →
    after ≤ before + cost_of_transactions (taking_all (map parcel_by_value parcels) s) s.replica.items
first_within n parcels s before after h =
    let both = ap (λ ps. cost_of_transactions (taking_all ps s) s.replica.items) (parted_by_value n parcels)
    ∙ steps_of_taking (map parcel_by_value (take n parcels)) (map parcel_by_value (drop n parcels)) s in
    omega (arith, h, both)

-- ---- some entries, and then others

module _ (now : Taking) (parcels : List Parcel) (n : ℕ) (new : Taking) (is : IsTaking now) (run : AllRun (flattened (map parcel_by_value parcels)) (ground_of (taking_site now)))
    (taken : HaveTaken parcels now n new) where
  abbrev first : List ModelParcel
  first = map parcel_by_value (take n parcels)

  abbrev later : List ModelParcel
  later = map parcel_by_value (drop n parcels)

  pub later_run : AllRun (flattened later) (ground_of (taking_site new))
  later_run =
      let may = may_take_both first later (taking_site now) (taking_stands now is) (subst (λ ps. AllRun (flattened ps) (ground_of (taking_site now))) (parted_by_value n parcels) run) in
      subst (λ s. AllRun (flattened later) (ground_of s)) (sym taken.site) may.later_run

  pub later_taken : take_foreign later (taking_site new) ≡ take_foreign (map parcel_by_value parcels) (taking_site now)
  later_taken = ap (take_foreign later) taken.site ∙ (sym (taken-append first later (taking_site now)) ∙ ap (λ ps. take_foreign ps (taking_site now)) (sym (parted_by_value n parcels)))

  -- what they count together
  both_count : cost_of_transactions (taking_all (map parcel_by_value parcels) (taking_site now)) now.trial.page.items
      ≡ cost_of_transactions (taking_all first (taking_site now)) now.trial.page.items + cost_of_transactions (taking_all later (taking_site new)) new.trial.page.items
  both_count =
      ap (λ ps. cost_of_transactions (taking_all ps (taking_site now)) now.trial.page.items) (parted_by_value n parcels)
      ∙ (steps_of_taking first later (taking_site now)
      ∙ ap (λ (s : Site). cost_of_transactions (taking_all first (taking_site now)) now.trial.page.items + cost_of_transactions (taking_all later s) s.replica.items) (sym taken.site))

-- ---- a front, and the entry after it

module _ (now : Taking) (parcels : List Parcel) (n : ℕ) (between : Taking) (is : IsTaking now) (run : AllRun (flattened (map parcel_by_value parcels)) (ground_of (taking_site now)))
    (taken : HaveTaken parcels now n between) (below : n < length parcels) (next : Parcel) (next_is : next ≡ get_or parcels n next) where
  abbrev behind : List ModelParcel
  behind = map parcel_by_value (drop (n + 1) parcels)

  split : map parcel_by_value (drop n parcels) ≡ parcel_by_value next ∷ behind
  split = at_drop_more (map parcel_by_value) parcels n next below ∙ ap (λ x. parcel_by_value x ∷ behind) (sym next_is)

  rest_run : AllRun (flattened ((parcel_by_value next ∷ []) ++ behind)) (ground_of (taking_site between))
  rest_run = subst (λ ps. AllRun (flattened ps) (ground_of (taking_site between))) split (later_run now parcels n between is run taken)

  pub next_run : AllRun (parcel_by_value next) (ground_of (taking_site between))
  next_run =
      subst (λ ts. AllRun ts (ground_of (taking_site between))) (append-nil (parcel_by_value next))
      (may_take_both (parcel_by_value next ∷ []) behind (taking_site between) (taking_stands between taken.is) rest_run).first_run

  with_next : map parcel_by_value (take (n + 1) parcels) ≡ map parcel_by_value (take n parcels) ++ parcel_by_value next ∷ []
  with_next =
      ap (map parcel_by_value) (take_more parcels n next below ∙ ap (λ x. take n parcels ++ x ∷ []) (sym next_is))
      ∙ map-append parcel_by_value (take n parcels) (next ∷ [])

  pub some_taken : (new : Taking) → taking_site new ≡ take_entry (parcel_by_value next) (taking_site between) → IsTaking new → HaveTaken parcels now (n + 1) new
  some_taken new took still = record {
    within = omega (arith, below);
    site = took
        ∙ (ap (take_foreign (parcel_by_value next ∷ [])) taken.site
        ∙ (sym (taken-append (map parcel_by_value (take n parcels)) (parcel_by_value next ∷ []) (taking_site now)) ∙ ap (λ ps. take_foreign ps (taking_site now)) (sym with_next)));
    is = still;
  }

  pub some_within : (start one two : ℕ) → one ≤ start + cost_of_transactions (taking_all (map parcel_by_value (take n parcels)) (taking_site now)) now.trial.page.items →
      two ≤ one + cost_of_transactions (taking_one (parcel_by_value next) (taking_site between)) between.trial.page.items →
      two ≤ start + cost_of_transactions (taking_all (map parcel_by_value (take (n + 1) parcels)) (taking_site now)) now.trial.page.items
  some_within start one two h k =
      let first = map parcel_by_value (take n parcels) in
      let both = ap (λ ps. cost_of_transactions (taking_all ps (taking_site now)) now.trial.page.items) with_next ∙ steps_of_taking first (parcel_by_value next ∷ []) (taking_site now) in
      let last = ap (λ (s : Site). cost_of_transactions (taking_all (parcel_by_value next ∷ []) s) s.replica.items) (sym taken.site) in
      let alone = ap (λ ts. cost_of_transactions ts between.trial.page.items) (append-nil (taking_one (parcel_by_value next) (taking_site between))) in
      omega (arith, h, k, both, last, alone)

-- ---- until none is left

-- the first so many are taken, and these numbers of steps were counted before and after
pub record IsAlong (old : Taking) (parcels : List Parcel) (at : ℕ) (now : Taking) (before after : ℕ) : Type 0 where
  pub is : IsTaking now
  pub site : take_foreign (map parcel_by_value (drop at parcels)) (taking_site now) ≡ take_foreign (map parcel_by_value parcels) (taking_site old)
  pub run : AllRun (flattened (map parcel_by_value (drop at parcels))) (ground_of (taking_site now))
  pub within : at ≤ length parcels
  pub first : now.trial.first ≡ old.trial.first
  pub counted : before ≤ after
  pub spent : after + cost_of_transactions (taking_all (map parcel_by_value (drop at parcels)) (taking_site now)) now.trial.page.items
      ≤ before + cost_of_transactions (taking_all (map parcel_by_value parcels) (taking_site old)) old.trial.page.items

pub begun : (old : Taking) (parcels : List Parcel) (before : ℕ) → IsTaking old → AllRun (flattened (map parcel_by_value parcels)) (ground_of (taking_site old)) →
    IsAlong old parcels 0 old before before
begun old parcels before is run = record { is = is; site = refl; run = run; within = omega arith; first = refl; counted = omega arith; spent = omega arith }

-- what a call gets of a slice
pub rest_of : {A : Type 0} (at : ℕ) (xs : List A) → take (length xs - at) (drop at xs) ≡ drop at xs
rest_of at xs = let n = length-drop at xs in take_all (length xs - at) (drop at xs) (omega (arith, n))

module _ (old : Taking) (parcels : List Parcel) (at : ℕ) (now : Taking) (before after : ℕ) (along : IsAlong old parcels at now before after) (rest : List Parcel)
    (rest_is : rest ≡ drop at parcels) where
  pub rest_run_on : AllRun (flattened (map parcel_by_value rest)) (ground_of (taking_site now))
  rest_run_on = subst (λ ps. AllRun (flattened (map parcel_by_value ps)) (ground_of (taking_site now))) (sym rest_is) along.run

  spent_on : after + cost_of_transactions (taking_all (map parcel_by_value rest) (taking_site now)) now.trial.page.items
      ≤ before + cost_of_transactions (taking_all (map parcel_by_value parcels) (taking_site old)) old.trial.page.items
  spent_on =
      subst (λ ps. after + cost_of_transactions (taking_all (map parcel_by_value ps) (taking_site now)) now.trial.page.items
      ≤ before + cost_of_transactions (taking_all (map parcel_by_value parcels) (taking_site old)) old.trial.page.items) (sym rest_is) along.spent

  pub failed_within : (later : ℕ) → later ≤ after + cost_of_transactions (taking_all (map parcel_by_value rest) (taking_site now)) now.trial.page.items →
      later ≤ before + cost_of_transactions (taking_all (map parcel_by_value parcels) (taking_site old)) old.trial.page.items
  failed_within later h = let s = spent_on in omega (arith, h, s)

  module _ (n : ℕ) (new : Taking) (taken : HaveTaken rest now n new) where
    dropped : map parcel_by_value (drop n rest) ≡ map parcel_by_value (drop (at + n) parcels)
    dropped = ap (λ ps. map parcel_by_value (drop n ps)) rest_is ∙ ap (map parcel_by_value) (drop-drop n at parcels)

    pub one_run_further : (later : ℕ) → new.trial.first ≡ now.trial.first → after ≤ later → later ≤ after + cost_of_transactions (taking_all (map parcel_by_value (take n rest)) (taking_site now)) now.trial.page.items →
        IsAlong old parcels (at + n) new before later
    one_run_further later first counted spent =
        let both = both_count now rest n new along.is rest_run_on taken in
        let s = spent_on in
        let c = along.counted in
        let size : length rest ≡ length parcels - at = ap length rest_is ∙ length-drop at parcels in
        let w = along.within in
        record {
          is = taken.is;
          site = ap (λ ps. take_foreign ps (taking_site new)) (sym dropped)
              ∙ (later_taken now rest n new along.is rest_run_on taken ∙ (ap (λ ps. take_foreign (map parcel_by_value ps) (taking_site now)) rest_is ∙ along.site));
          run = subst (λ ps. AllRun (flattened ps) (ground_of (taking_site new))) dropped (later_run now rest n new along.is rest_run_on taken);
          within = omega (arith, taken.within, size, w);
          first = first ∙ along.first;
          counted = omega (arith, c, counted);
          spent =
              subst (λ ps. later + cost_of_transactions (taking_all ps (taking_site new)) new.trial.page.items
              ≤ before + cost_of_transactions (taking_all (map parcel_by_value parcels) (taking_site old)) old.trial.page.items) dropped (omega (arith, both, s, spent));
        }

pub all_taken : (old : Taking) (parcels : List Parcel) (at : ℕ) (now : Taking) (before after : ℕ) → IsAlong old parcels at now before after → length parcels ≤ at →
    taking_site now ≡ take_foreign (map parcel_by_value parcels) (taking_site old)
all_taken old parcels at now before after along end =
    let none : map parcel_by_value (drop at parcels) ≡ [] = ap (map parcel_by_value) (drop_all at parcels end) in
    sym (ap (λ ps. take_foreign ps (taking_site now)) none) ∙ along.site

pub all_within : (old : Taking) (parcels : List Parcel) (at : ℕ) (now : Taking) (before after : ℕ) → IsAlong old parcels at now before after →
    after ≤ before + cost_of_transactions (taking_all (map parcel_by_value parcels) (taking_site old)) old.trial.page.items
all_within old parcels at now before after along = let s = along.spent in omega (arith, s)
