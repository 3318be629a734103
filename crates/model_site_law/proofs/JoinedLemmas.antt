-- A foreign entry over pending ones: what stays runs after it, it runs after what stays, and one
-- list comes of both.
use Rattle.std.proofs.Common.{◌≡◌, List, [], ◌∷◌, ◌++◌, length, take, Result, Ok, Err, refl, sym, ap, ◌∙◌, subst}
use Rattle.model_items.specs.declared.plain_item.PlainItem.{PlainItem}
use Rattle.model_change.specs.Join.{RangeConflict, join_list}
use Rattle.model_change.specs.Replay.{AllRun, flattened, replay}
use Rattle.model_change.specs.Transaction.{Transaction}
use Rattle.model_change.proofs.JoinListLaw.{lists_agree}
use Rattle.model_site.specs.Entries.{Parcel}
use Rattle.model_site.specs.Joined.{join_entries, joined_first}
use Rattle.model_site_law.specs.Laws.{AreJoined, EntriesJoin}
use Rattle.model_site_law.specs.Sound.{Sound}
use Rattle.model_site_law.proofs.ReplayLemmas.{AllRun-append, AllRun-parts, replay-append, sound_after}

pub entries_join : EntriesJoin
entries_join foreign [] items sound run runs = record { kept_run = tt; committed_run = run; one_list = refl }
entries_join foreign (p ∷ ps) items sound run runs = by_first (λ f l. entries_join f ps l) (join_list foreign p) refl
  where
    by_first : ((f : Parcel) (l : List PlainItem) → Sound l → AllRun f l → AllRun (flattened ps) l → AreJoined f ps l (join_entries f ps)) →
        (o : Result (List Transaction × List Transaction) RangeConflict) → join_list foreign p ≡ o →
        AreJoined foreign (p ∷ ps) items (joined_first foreign o (λ next. join_entries next ps))
    by_first later (Err clash) h = record { kept_run = tt; committed_run = run; one_list = refl }
    by_first later (Ok r) h =
        let parts = AllRun-parts p (flattened ps) items runs in
        let agree = lists_agree foreign p r items sound.lawful run parts.0 h in
        let next = replay p items in
        let rest = later r.0 next (sound_after p items sound parts.0) agree.committed_after parts.1 in
        let j = join_entries r.0 ps in
        let stay = replay-append p (flattened (take (length j.kept) ps)) items in
        let meet = agree.one_list in
        record {
          kept_run = AllRun-append r.1 (flattened j.kept) (replay foreign items) agree.mine_after (subst (AllRun (flattened j.kept)) (sym meet) rest.kept_run);
          committed_run = subst (AllRun j.committed) (sym stay) rest.committed_run;
          one_list = ap (replay j.committed) stay ∙ rest.one_list ∙ ap (replay (flattened j.kept)) (sym meet) ∙ sym (replay-append r.1 (flattened j.kept) (replay foreign items));
        }

-- of pending ones in two parts, the first part stays as if it were alone
pub first_part : (foreign : Parcel) (ps qs : List Parcel) → take (length ps) (join_entries foreign (ps ++ qs)).kept ≡ (join_entries foreign ps).kept
first_part foreign [] qs = refl
first_part foreign (p ∷ ps) qs = by_first (λ f. first_part f ps qs) (join_list foreign p)
  where
    by_first : ((f : Parcel) → take (length ps) (join_entries f (ps ++ qs)).kept ≡ (join_entries f ps).kept) → (o : Result (List Transaction × List Transaction) RangeConflict) →
        take (length (p ∷ ps)) (joined_first foreign o (λ next. join_entries next (ps ++ qs))).kept ≡ (joined_first foreign o (λ next. join_entries next ps)).kept
    by_first later (Err clash) = refl
    by_first later (Ok r) = ap (λ rest. r.1 ∷ rest) (later r.0)
