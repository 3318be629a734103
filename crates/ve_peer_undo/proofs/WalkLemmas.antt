-- The walk over the entries behind the first: each of those that count may be taken back, and so may
-- the first.
use Rattle.std.proofs.Common.{◌≡◌, ◌<◌, ◌≤◌, ◌+◌, ℕ, zero, suc, true, false, if◌then◌else◌, List, [], ◌∷◌, ◌++◌, length, map, drop, get_or, Result, Ok, Err, refl, sym, ap, ◌∙◌, subst, arith}
use Rattle.std.proofs.lemmas.List.{drop_all}
use Rattle.model_items.specs.declared.plain_item.PlainItem.{PlainItem}
use Rattle.model_change.specs.Join.{RangeConflict, join_list}
use Rattle.model_change.specs.Replay.{AllRun, flattened, mine_of, replay, reversal}
use Rattle.model_change.specs.Transaction.{Transaction}
use Rattle.model_change.proofs.ReversalLaw.{reversal_undoes}
use Rattle.model_site.specs.Live.{Standing, all_standing, in_conflict, is_back, live_from, stand, under_live}
use Rattle.model_site_law.specs.Sound.{Sound}
use Rattle.model_site_law.proofs.LiveLemmas.{Stands, all_standing-append, stand_stands}
use Rattle.model_site_law.proofs.ReplayLemmas.{AllRun-parts, sound_after}
use Rattle.ve_tx.specs.declared.parcel.Parcel.{Parcel}
use Rattle.ve_tx.specs.ByValue.{parcel_by_value}
use Rattle.ve_rebase.specs.Lists.{RunFromOneLength}
use Rattle.ve_rebase.specs.Entries.{parcels_by_value}
use Rattle.ve_peer_undo.specs.Counted.{AreKept, counted, EachMayLeave}
use Rattle.ve_peer_undo.specs.declared.fault.RevokeFault.{RevokeFault}
use Rattle.ve_peer_undo.specs.declared.fault.RevokeFault.TheVariants as fault
use Rattle.ve_peer_undo.specs.Counting.{hinted_parcel, revoke_first, RunFromPage}
use Rattle.ve_peer_undo.specs.Refusal.{IsLiveRefusal, IsRevokeRefusal, live_fault}
use Rattle.ve_peer_undo.specs.Walked.{AreCounted, counting, own_txs}
use Rattle.ve_peer_undo.proofs.CountedLemmas.{all_counted}
use Rattle.ve_peer_undo.proofs.RunLemmas.{runs_on}

leaves : (ts later : List Transaction) (from : List PlainItem) → Sound from → AllRun ts from → AllRun later (replay ts from) → RunFromOneLength later (reversal ts)
leaves ts later from sound runs after = record {
  length = length (replay ts from);
  committed_run = runs_on later (replay ts from) after;
  mine_run = runs_on (reversal ts) (replay ts from) (reversal_undoes ts from sound.lawful sound.apart runs).runs;
}

each_may_leave : (standing : List Standing) (from now : List PlainItem) → Sound from → Stands standing from now → EachMayLeave standing
each_may_leave standing from now sound h before after s e =
    let all : all_standing standing ≡ all_standing before ++ (s.txs ++ all_standing after) = ap all_standing e ∙ all_standing-append before (s ∷ after) in
    let two = AllRun-parts (all_standing before) (s.txs ++ all_standing after) from (subst (λ ts. AllRun ts from) all h.runs) in
    let there = replay (all_standing before) from in
    let parts = AllRun-parts s.txs (all_standing after) there two.1 in
    leaves s.txs (all_standing after) there (sound_after (all_standing before) from sound two.0) parts.0 parts.1

-- how far the walk has come
pub record WalkedSoFar (n : ℕ) (entries : List Parcel) (k : ℕ) (ns : List ℕ) (ps : List Parcel) : Type 0 where
  pub kept : AreKept ns ps
  pub so_far : live_from n (own_txs entries) (n + k) (map hinted_parcel (drop k entries)) (counted ns ps) ≡ counting n entries
  pub base : List PlainItem
  pub now : List PlainItem
  pub sound : Sound base
  pub own_runs : AllRun (own_txs entries) base
  pub stands : Stands (counted ns ps) (replay (own_txs entries) base) now
  pub rest : AllRun (flattened (map parcel_by_value (drop k entries))) now

pub walk_begun : (n : ℕ) (entries : List Parcel) → 0 < length entries → RunFromPage (map parcel_by_value entries) → WalkedSoFar n entries 1 [] []
walk_begun n [] some page = absurd (omega (arith, some))
walk_begun n (p ∷ ps) some page =
    let own = parcel_by_value p in
    let parts = AllRun-parts own (flattened (map parcel_by_value ps)) page.base page.runs in
    let next : n + 1 ≡ suc n = omega arith in
    record {
      kept = record { many = refl; cite = λ k d l. absurd (omega (arith, l)) };
      so_far = ap (λ m. live_from n own m (map hinted_parcel ps) []) next;
      base = page.base;
      now = replay own page.base;
      sound = record { lawful = page.lawful; apart = page.apart };
      own_runs = parts.0;
      stands = record { runs = tt; list = refl };
      rest = parts.1;
    }

module _ (n : ℕ) (entries : List Parcel) (k : ℕ) (ns : List ℕ) (ps : List Parcel) (w : WalkedSoFar n entries k ns ps) where
  abbrev pub own : List Transaction
  own = own_txs entries

  abbrev pub from : List PlainItem
  from = replay own w.base

  sound_from : Sound from
  sound_from = sound_after own w.base w.sound w.own_runs

  pub all_may_leave : EachMayLeave (counted ns ps)
  all_may_leave = each_may_leave (counted ns ps) from w.now sound_from w.stands

  pub first_may_leave : RunFromOneLength (all_standing (counted ns ps)) (reversal own)
  first_may_leave = leaves own (all_standing (counted ns ps)) w.base w.sound w.own_runs w.stands.runs

  module _ (e : Parcel) (inside : k < length entries) (is : e ≡ get_or entries k e) where
    here : drop k entries ≡ e ∷ drop (suc k) entries
    here = dropped k entries inside is
      where
        dropped : (j : ℕ) (qs : List Parcel) → j < length qs → e ≡ get_or qs j e → drop j qs ≡ e ∷ drop (suc j) qs
        dropped j [] l at = absurd (omega (arith, l))
        dropped zero (q ∷ qs) l at = ap (λ z. z ∷ qs) (sym at)
        dropped (suc j) (q ∷ qs) l at = dropped j qs (omega (arith, l)) at

    step : (if is_back n own (hinted_parcel e) (counted ns ps) then Err (n + k)
        else live_from n own (suc (n + k)) (map hinted_parcel (drop (suc k) entries)) (stand (n + k) (hinted_parcel e) (counted ns ps))) ≡ counting n entries
    step = sym (ap (λ qs. live_from n own (n + k) (map hinted_parcel qs) (counted ns ps)) here) ∙ w.so_far

    pub stops : (next : ℕ) → next ≡ n + k → is_back n own (hinted_parcel e) (counted ns ps) ≡ true → counting n entries ≡ Err next
    stops next same back =
        sym (sym (ap (λ b. if b then Err (n + k) else live_from n own (suc (n + k)) (map hinted_parcel (drop (suc k) entries)) (stand (n + k) (hinted_parcel e) (counted ns ps))) back) ∙ step)
        ∙ ap (λ m. Err m) (sym same)

    pub goes_on : (next : ℕ) (ms : List ℕ) (qs : List Parcel) → next ≡ n + k → is_back n own (hinted_parcel e) (counted ns ps) ≡ false → AreKept ms qs →
        counted ms qs ≡ stand next (hinted_parcel e) (counted ns ps) → WalkedSoFar n entries (k + 1) ms qs
    goes_on next ms qs same other kept passed =
        let one : k + 1 ≡ suc k = omega arith in
        let more : n + (k + 1) ≡ suc (n + k) = omega arith in
        let parts = AllRun-parts (parcel_by_value e) (flattened (map parcel_by_value (drop (suc k) entries))) w.now
        (subst (λ rs. AllRun (flattened (map parcel_by_value rs)) w.now) here w.rest) in
        let is_now : counted ms qs ≡ stand (n + k) (hinted_parcel e) (counted ns ps) = passed ∙ ap (λ m. stand m (hinted_parcel e) (counted ns ps)) same in
        record {
          kept = kept;
          so_far =
              ap (λ m. live_from n own m (map hinted_parcel (drop (k + 1) entries)) (counted ms qs)) more
              ∙ (ap (λ j. live_from n own (suc (n + k)) (map hinted_parcel (drop j entries)) (counted ms qs)) one
              ∙ (ap (live_from n own (suc (n + k)) (map hinted_parcel (drop (suc k) entries))) is_now
              ∙ (sym (ap (λ b. if b then Err (n + k) else live_from n own (suc (n + k)) (map hinted_parcel (drop (suc k) entries)) (stand (n + k) (hinted_parcel e) (counted ns ps))) other) ∙ step)));
          base = w.base;
          now = replay (parcel_by_value e) w.now;
          sound = w.sound;
          own_runs = w.own_runs;
          stands = subst (λ st. Stands st from (replay (parcel_by_value e) w.now)) (sym is_now) (stand_stands (n + k) (hinted_parcel e) (counted ns ps) from w.now sound_from w.stands parts.0);
          rest = subst (λ j. AllRun (flattened (map parcel_by_value (drop j entries))) (replay (parcel_by_value e) w.now)) (sym one) parts.1;
        }

  pub walk_ends : length entries ≤ k → AreCounted n entries ns ps
  walk_ends end =
      let none : drop k entries ≡ [] = drop_all k entries end in
      record {
        counts = sym (sym (ap (λ qs. live_from n own (n + k) (map hinted_parcel qs) (counted ns ps)) none) ∙ w.so_far);
        kept = w.kept;
        run = subst (λ ts. RunFromOneLength ts (reversal own)) (all_counted ns ps w.kept.many) first_may_leave;
      }

pub own_is : (entries : List Parcel) (p : Parcel) → 0 < length entries → p ≡ get_or entries 0 p → parcel_by_value p ≡ own_txs entries
own_is [] p some is = absurd (omega (arith, some))
own_is (q ∷ qs) p some is = ap parcel_by_value is

-- ---- the first taken back

first_revoked : (n : ℕ) (entries : List Parcel) → 0 < length entries → revoke_first n (map hinted_parcel entries) ≡ under_live (own_txs entries) (counting n entries)
first_revoked n [] some = absurd (omega (arith, some))
first_revoked n (p ∷ ps) some = refl

module _ (n : ℕ) (entries : List Parcel) (some : 0 < length entries) (ns : List ℕ) (ps : List Parcel) (counts : AreCounted n entries ns ps)
    (own back : Parcel) (own_is_first : own ≡ get_or entries 0 own) (is : parcel_by_value back ≡ reversal (parcel_by_value own)) (later : List Parcel) (lent : later ≡ ps) where
  back_is : parcel_by_value back ≡ reversal (own_txs entries)
  back_is = is ∙ ap reversal (own_is entries own some own_is_first)

  abbrev joined : Result (List Transaction) RangeConflict
  joined = mine_of (join_list (parcels_by_value later) (parcel_by_value back))

  whole : revoke_first n (map hinted_parcel entries) ≡ in_conflict joined
  whole =
      first_revoked n entries some
      ∙ (ap (under_live (own_txs entries)) counts.counts
      ∙ (ap (λ ts. in_conflict (mine_of (join_list ts (reversal (own_txs entries))))) (all_counted ns ps counts.kept.many ∙ ap parcels_by_value (sym lent))
      ∙ ap (λ ts. in_conflict (mine_of (join_list (parcels_by_value later) ts))) (sym back_is)))

  pub may_join : RunFromOneLength (parcels_by_value later) (parcel_by_value back)
  may_join =
      subst (λ qs. RunFromOneLength (parcels_by_value qs) (parcel_by_value back)) (sym lent)
      (subst (RunFromOneLength (parcels_by_value ps)) (sym back_is) counts.run)

  pub is_revoked : (ts : List Transaction) → joined ≡ Ok ts → revoke_first n (map hinted_parcel entries) ≡ Ok ts
  is_revoked ts e = whole ∙ ap in_conflict e

  pub is_refused : (why : RevokeFault) → IsRevokeRefusal joined why → IsLiveRefusal (revoke_first n (map hinted_parcel entries)) (live_fault why)
  is_refused (fault.Conflict a b) e = whole ∙ ap in_conflict e
  is_refused fault.Memory e = tt
