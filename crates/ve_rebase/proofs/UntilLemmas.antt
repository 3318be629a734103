-- Entries joined one after the other.
use Rattle.std.proofs.Common.{◌≡◌, ◌≤◌, ◌<◌, ℕ, suc, ◌+◌, List, [], ◌∷◌, ◌++◌, length, map, take, drop, get_or, All, Some, None, Result, Ok, Err, refl, sym, ap, subst, ◌∙◌, arith}
use Rattle.std.proofs.lemmas.List.{append_assoc, append-nil, map-append, take_more, take_all, drop_all, length-map, length-take}
use Rattle.std.proofs.lemmas.List.Elements.{All-nil, All-cons, All-append, All-head, All-tail, All-get_or}
use Rattle.ve_base.specs.declared.value.Value.{Value}
use Rattle.model_change.specs.Transaction.{Transaction, new_length}
use Rattle.model_change.specs.Join.{join_list, RangeConflict}
use Rattle.model_site.specs.Joined.{Joined, join_entries, joined_first}
use Rattle.model_site.specs.Session.{clash_of}
use Rattle.ve_tx.specs.declared.parcel.Parcel.{Parcel}
use Rattle.ve_tx.specs.Operation.{Operation, by_value}
use Rattle.ve_rebase.specs.declared.shifted.Shifted.{Shifted}
use Rattle.ve_rebase.specs.declared.until.JoinedEntries.{JoinedEntries}
use Rattle.ve_rebase.specs.Entries.{parcels_by_value, operations_of, outline}
use Rattle.ve_tx.specs.ByValue.{parcel_by_value, ParcelCites}
use Rattle.ve_rebase.specs.declared.fault.RebaseFault.{RebaseFault}
use Rattle.ve_rebase.specs.Lists.{RunOnLength, RunFromOneLength, IsRefusedAs, each_by_value}
use Rattle.ve_rebase.specs.Shifted.{IsShifted, FollowFrom, length_after, shifted_by_value, all_by_value, StartTogether, AreRows, AreWritten}
use Rattle.ve_rebase.specs.Until.{joined_until, AreJoined, length_given, Meet, IsJoinedOver}
use Rattle.ve_rebase.proofs.WrittenLemmas.{written_mine, each_follows, follows, new_is}
use Rattle.ve_rebase.proofs.EntryLemmas.{values_of, parcels_each, written_parcels, here}

-- ---- one entry

pub length_alike : (v : List Value) (n : ℕ) (txs : List (List Operation)) (all : List Shifted) → AreWritten txs all → All IsShifted all →
    length_after n all ≡ length_given n (map (by_value v) txs)
length_alike v n [] [] h g = refl
length_alike v n (t ∷ txs) (a ∷ all) h g =
    ap (λ m. length_after m all) (sym (new_is v t a (h.0 v) (All-head IsShifted a all g))) ∙ length_alike v (new_length (by_value v t)) txs all h.1 (All-tail IsShifted a all g)
length_alike v n [] (a ∷ all) h g = absurd h
length_alike v n (t ∷ txs) [] h g = absurd h

pub length_each : (values : List (List Value)) (n : ℕ) (txs : List (List Operation)) (all : List Shifted) → AreWritten txs all → All IsShifted all →
    length_after n all ≡ length_given n (each_by_value values txs)
length_each values n [] [] h g = refl
length_each [] n (t ∷ txs) (a ∷ all) h g =
    ap (λ m. length_after m all) (sym (new_is [] t a (h.0 []) (All-head IsShifted a all g))) ∙ length_each [] (new_length (by_value [] t)) txs all h.1 (All-tail IsShifted a all g)
length_each (v ∷ values) n (t ∷ txs) (a ∷ all) h g =
    ap (λ m. length_after m all) (sym (new_is v t a (h.0 v) (All-head IsShifted a all g))) ∙ length_each values (new_length (by_value v t)) txs all h.1 (All-tail IsShifted a all g)
length_each values n [] (a ∷ all) h g = absurd h
length_each values n (t ∷ txs) [] h g = absurd h

pub entry_starts : (over more : List Shifted) (mine : Parcel) → AreWritten mine.entry.txs more → All IsShifted more → Meet over (parcel_by_value mine) → StartTogether over more
entry_starts over more mine k i meet = record {
  length = meet.size;
  committed_follow = meet.committed_follow;
  mine_follow = follows mine.values meet.size mine.entry.txs more k i meet.mine_run;
}

abbrev both : List Transaction → List Transaction → Result (List Transaction × List Transaction) RangeConflict
both xs ys = Ok (xs, ys)

pub entry_joined : (over more after more_after : List Shifted) (mine made : Parcel) → AreWritten mine.entry.txs more → All IsShifted more → AreRows over more after more_after →
    AreWritten made.entry.txs more_after → outline made ≡ outline mine → (ParcelCites mine → ParcelCites made) → IsJoinedOver over mine after made
entry_joined over more after more_after mine made k i rows q f cites =
    let same : made.values ≡ mine.values = ap (λ o. o.1.values) f in
    record {
      joined = λ values.
          ap (λ l. join_list (all_by_value values over) l) (written_mine mine.values mine.entry.txs more k)
          ∙ (rows.joined values mine.values
          ∙ ap (λ l. both (all_by_value values after) l) (sym (ap (λ v. map (by_value v) made.entry.txs) same ∙ written_mine mine.values made.entry.txs more_after q)));
      shifted = rows.shifted;
      follow = λ n h run.
          subst (λ m. FollowFrom m after) (length_alike mine.values n mine.entry.txs more k i)
          (rows.follow n h (follows mine.values n mine.entry.txs more k i run));
      outline_kept = f;
      cites = cites;
    }

pub entry_refused : (over more : List Shifted) (mine : Parcel) (why : RebaseFault) → AreWritten mine.entry.txs more →
    ((values : List (List Value)) (others : List Value) → IsRefusedAs (join_list (all_by_value values over) (map (shifted_by_value others) more)) why) →
    (values : List (List Value)) → IsRefusedAs (join_list (all_by_value values over) (parcel_by_value mine)) why
entry_refused over more mine why k refused values =
    subst (λ l. IsRefusedAs (join_list (all_by_value values over) l) why) (sym (written_mine mine.values mine.entry.txs more k)) (refused values mine.values)

-- ---- all entries

pub run_parted : (n : ℕ) (xs ys : List Transaction) → RunOnLength n (xs ++ ys) → RunOnLength n xs × RunOnLength (length_given n xs) ys
run_parted n [] ys h = (tt, h)
run_parted n (x ∷ xs) ys h = let r = run_parted (new_length x) xs ys h.1 in ((h.0, r.0), r.1)

-- what is joined after these were kept
abbrev after_kept : List Parcel → Joined → Joined
after_kept kept j = record { kept = map parcel_by_value kept ++ j.kept; committed = j.committed; clash = j.clash }

-- how far the entries are joined
pub record JoinedSoFar (committed mine : List Parcel) (over : List Shifted) (kept : List Parcel) (i : ℕ) : Type 0 where
  pub shifted : All IsShifted over
  pub meet : Meet over (parcels_by_value (drop i mine))
  pub joined : joined_until committed mine ≡ after_kept kept (join_entries (all_by_value (values_of committed) over) (map parcel_by_value (drop i mine)))
  pub outlines : map outline kept ≡ map outline (take i mine)
  pub cite : All ParcelCites mine → All ParcelCites kept

pub joined_begun : (committed mine : List Parcel) (all : List Shifted) → AreWritten (operations_of committed) all → All IsShifted all →
    RunFromOneLength (parcels_by_value committed) (parcels_by_value mine) → JoinedSoFar committed mine all [] 0
joined_begun committed mine all h g run = record {
  shifted = g;
  meet = record {
    size = run.length;
    committed_follow = each_follows (values_of committed) run.length (operations_of committed) all h g (subst (λ l. RunOnLength run.length l) (parcels_each committed) run.committed_run);
    mine_run = run.mine_run;
  };
  joined = ap (λ l. join_entries l (map parcel_by_value mine)) (written_parcels committed committed all h refl);
  outlines = refl;
  cite = λ h. All-nil ParcelCites;
}

module _ (committed mine : List Parcel) (over : List Shifted) (kept : List Parcel) (i : ℕ) (one : Parcel) (so_far : JoinedSoFar committed mine over kept i) (lt : i < length mine) (is : one ≡ get_or mine i one) where
  abbrev rest : List Parcel
  rest = drop (suc i) mine

  split : drop i mine ≡ one ∷ rest
  split = here mine i one lt is

  abbrev meet_here : Meet over (parcel_by_value one ++ parcels_by_value rest)
  meet_here = subst (λ ps. Meet over (parcels_by_value ps)) split so_far.meet

  pub one_meets : Meet over (parcel_by_value one)
  one_meets = record {
    size = meet_here.size;
    committed_follow = meet_here.committed_follow;
    mine_run = (run_parted meet_here.size (parcel_by_value one) (parcels_by_value rest) meet_here.mine_run).0;
  }

  abbrev values : List (List Value)
  values = values_of committed

  joined_here : joined_until committed mine ≡ after_kept kept (join_entries (all_by_value values over) (parcel_by_value one ∷ map parcel_by_value rest))
  joined_here = so_far.joined ∙ ap (λ ps. after_kept kept (join_entries (all_by_value values over) (map parcel_by_value ps))) split

  next_one : (after : List Shifted) (made : Parcel) → IsJoinedOver over one after made → JoinedSoFar committed mine after (kept ++ made ∷ []) (suc i)
  next_one after made h =
      let run = (run_parted meet_here.size (parcel_by_value one) (parcels_by_value rest) meet_here.mine_run) in
      record {
        shifted = h.shifted;
        meet = record {
          size = length_given meet_here.size (parcel_by_value one);
          committed_follow = h.follow meet_here.size meet_here.committed_follow run.0;
          mine_run = run.1;
        };
        joined =
            joined_here
            ∙ (ap (λ r. after_kept kept (joined_first (all_by_value values over) r (λ o. join_entries o (map parcel_by_value rest)))) (h.joined values)
            ∙ onto (join_entries (all_by_value values after) (map parcel_by_value rest)));
        outlines = map-append outline kept (made ∷ []) ∙ (ap (λ l. l ++ outline made ∷ []) so_far.outlines ∙ (ap (λ o. map outline (take i mine) ++ o ∷ []) h.outline_kept
            ∙ (sym (map-append outline (take i mine) (one ∷ [])) ∙ ap (map outline) (sym taken))));
        cite = λ g. All-append ParcelCites kept (made ∷ []) (so_far.cite g) (All-cons ParcelCites made [] (h.cites (subst ParcelCites (sym is) (All-get_or ParcelCites mine i one lt g))) (All-nil ParcelCites));
      }
    where
      taken : take (suc i) mine ≡ take i mine ++ one ∷ []
      taken = let e : suc i ≡ i + 1 = omega arith in ap (λ m. take m mine) e ∙ (take_more mine i one lt ∙ ap (λ q. take i mine ++ q ∷ []) (sym is))

      onto : (j : Joined) → after_kept kept (record { kept = parcel_by_value made ∷ j.kept; committed = j.committed; clash = j.clash }) ≡ after_kept (kept ++ made ∷ []) j
      onto j = ap (λ ks. record { kept = ks; committed = j.committed; clash = j.clash })
          (sym (ap (λ l. l ++ j.kept) (map-append parcel_by_value kept (made ∷ [])) ∙ append_assoc (map parcel_by_value kept) (parcel_by_value made ∷ []) j.kept))

  pub joined_next : (after : List Shifted) (made : Parcel) → IsJoinedOver over one after made → JoinedSoFar committed mine after (kept ++ made ∷ []) (i + 1)
  joined_next after made h = let e : suc i ≡ i + 1 = omega arith in subst (JoinedSoFar committed mine after (kept ++ made ∷ [])) e (next_one after made h)

  kept_count : length kept ≡ length (take i mine)
  kept_count = sym (length-map kept outline) ∙ (ap length so_far.outlines ∙ length-map (take i mine) outline)

  pub joined_clash : (clash : RangeConflict) (made : JoinedEntries) → join_list (all_by_value values over) (parcel_by_value one) ≡ Err clash → made.kept ≡ kept → made.clash ≡ clash_of (Some clash) →
      AreJoined committed mine made
  joined_clash clash made e k f =
      let refused : Joined = record { kept = []; committed = all_by_value values over; clash = Some clash } in
      let all : joined_until committed mine ≡ after_kept kept refused =
      joined_here ∙ ap (λ r. after_kept kept (joined_first (all_by_value values over) r (λ o. join_entries o (map parcel_by_value rest)))) e in
      let count : length made.kept ≡ i = ap length k ∙ (kept_count ∙ omega (arith, lt, length-take i mine)) in
      record {
        kept = ap (map parcel_by_value) k ∙ (sym (append-nil (map parcel_by_value kept)) ∙ ap (λ j. j.kept) (sym all));
        clash = f ∙ ap (λ j. clash_of j.clash) (sym all);
        outlines = ap (map outline) k ∙ (so_far.outlines ∙ ap (λ n. map outline (take n mine)) (sym count));
        cite = λ g. subst (All ParcelCites) (sym k) (so_far.cite g);
      }

  pub committed_clash : (clash : RangeConflict) → join_list (all_by_value values over) (parcel_by_value one) ≡ Err clash → (joined_until committed mine).committed ≡ all_by_value values over
  committed_clash clash e =
      ap (λ j. j.committed) (joined_here ∙ ap (λ r. after_kept kept (joined_first (all_by_value values over) r (λ o. join_entries o (map parcel_by_value rest)))) e)

pub committed_done : (committed mine : List Parcel) (over : List Shifted) (kept : List Parcel) (i : ℕ) → JoinedSoFar committed mine over kept i → length mine ≤ i →
    (joined_until committed mine).committed ≡ all_by_value (values_of committed) over
committed_done committed mine over kept i so_far end =
    let none : drop i mine ≡ [] = drop_all i mine end in
    ap (λ j. j.committed) (so_far.joined ∙ ap (λ ps. after_kept kept (join_entries (all_by_value (values_of committed) over) (map parcel_by_value ps))) none)

pub joined_done : (committed mine : List Parcel) (over : List Shifted) (kept : List Parcel) (i : ℕ) (made : JoinedEntries) → JoinedSoFar committed mine over kept i → length mine ≤ i →
    made.kept ≡ kept → made.clash ≡ None → AreJoined committed mine made
joined_done committed mine over kept i made so_far end k f =
    let values = values_of committed in
    let none : drop i mine ≡ [] = drop_all i mine end in
    let whole : take i mine ≡ mine = take_all i mine end in
    let all : joined_until committed mine ≡ after_kept kept (record { kept = []; committed = all_by_value values over; clash = None }) =
    so_far.joined ∙ ap (λ ps. after_kept kept (join_entries (all_by_value values over) (map parcel_by_value ps))) none in
    let same : map outline kept ≡ map outline mine = so_far.outlines ∙ ap (map outline) whole in
    let count : length made.kept ≡ length mine = ap length k ∙ (sym (length-map kept outline) ∙ (ap length same ∙ length-map mine outline)) in
    record {
      kept = ap (map parcel_by_value) k ∙ (sym (append-nil (map parcel_by_value kept)) ∙ ap (λ j. j.kept) (sym all));
      clash = f ∙ ap (λ j. clash_of j.clash) (sym all);
      outlines = ap (map outline) k ∙ (same ∙ ap (map outline) (sym (ap (λ n. take n mine) count ∙ take_all (length mine) mine (omega arith))));
      cite = λ g. subst (All ParcelCites) (sym k) (so_far.cite g);
    }
