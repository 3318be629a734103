-- A site's transactions moved over entries of other sites, one after the other.
use Rattle.std.proofs.Common.{◌≡◌, ◌≤◌, ◌<◌, ℕ, zero, suc, ◌+◌, List, [], ◌∷◌, ◌++◌, length, map, take, drop, get_or, slice_get, replicate, All, Some, None, Result, Ok, Err, refl, sym, ap, subst, ◌∙◌, arith}
use Rattle.std.proofs.lemmas.List.{append-nil, map-append, take-append-drop, drop-drop, take_more, take_all, drop_all, length-map, length-take-le}
use Rattle.std.proofs.Math.Seq.{take-add}
use Rattle.std.proofs.lemmas.List.Concat.{flat_map-append}
use Rattle.std.proofs.lemmas.List.Folds.{flat_map-map}
use Rattle.std.proofs.lemmas.List.Elements.{All-nil, All-cons, All-append, All-get_or, All-take, All-drop}
use Rattle.std.proofs.lemmas.Option.{slice_get_past}
use Rattle.ve_base.specs.declared.value.Value.{Value}
use Rattle.model_change.specs.Transaction.{Transaction}
use Rattle.model_change.specs.Join.{join_list, RangeConflict}
use Rattle.ve_tx.specs.declared.entry.Entry.{Entry}
use Rattle.ve_tx.specs.declared.parcel.Parcel.{Parcel}
use Rattle.ve_tx.specs.ByValue.{parcel_by_value, ParcelCites}
use Rattle.ve_tx.specs.Cites.{TxCites}
use Rattle.ve_tx.specs.Operation.{Operation, by_value}
use Rattle.ve_rebase.specs.declared.fault.RebaseFault.{RebaseFault}
use Rattle.ve_rebase.specs.declared.shifted.Shifted.{Shifted}
use Rattle.ve_rebase.specs.Entries.{parcels_by_value, operations_of, outline}
use Rattle.ve_rebase.specs.Lists.{RunOnLength, RunFromOneLength, IsRefusedAs}
use Rattle.ve_rebase.specs.Shifted.{IsShifted, FollowFrom, shifted_by_value, all_by_value, operations, StartTogether, AreRows, AreWritten}
use Rattle.ve_rebase.specs.Until.{length_given}
use Rattle.ve_rebase.specs.Under.{all_over, over_values, AreAllUnder}
use Rattle.ve_rebase.specs.Moved.{all_operations, AreBegun, AreMoved, AreMovedOver, AreWrittenInto, IsMovedOver, IsMoveRefused, IsWrittenInto, MeetMoved, WereMoved}
use Rattle.ve_rebase.proofs.RowLemmas.{length-map-same}
use Rattle.ve_rebase.proofs.WrittenLemmas.{written_alike, written_mine, each_follows, follows}
use Rattle.ve_rebase.proofs.EntryLemmas.{values_of, parcels_each, written_parcels, here, same_outline, GatheredSoFar, gathered_more, PartedSoFar, parted_begun, part_within, part_kept, part_shifted, parted_next, parted_done}
use Rattle.ve_rebase.proofs.UntilLemmas.{length_alike, length_each, run_parted}
use Rattle.ve_rebase.proofs.UnderLemmas.{over_get}
use Rattle.ve_rebase.proofs.ColumnLemmas.{moved_at_once, moved_both}
use Rattle.ve_rebase.proofs.GroupLemmas.{all_of, moved_more, all_joined, refused_as_whole}

-- ---- one entry of another

abbrev both : List Transaction → List Transaction → Result (List Transaction × List Transaction) RangeConflict
both xs ys = Ok (xs, ys)

module _ (foreign : Parcel) (all mine : List Shifted) (written : AreWritten foreign.entry.txs all) (shifted : All IsShifted all) where
  pub moved_starts : MeetMoved (parcel_by_value foreign) mine → StartTogether all mine
  moved_starts meet = record {
    length = meet.size;
    committed_follow = follows foreign.values meet.size foreign.entry.txs all written shifted meet.foreign_run;
    mine_follow = meet.mine_follow;
  }

  abbrev each : List (List Value)
  each = replicate (length all) foreign.values

  by_each : parcel_by_value foreign ≡ all_by_value each all
  by_each = written_alike foreign.values (length all) foreign.entry.txs all written (omega arith)

  pub one_moved : (over after : List Shifted) (made : Parcel) → AreRows all mine over after → AreWritten made.entry.txs over → outline made ≡ outline foreign →
      (ParcelCites foreign → ParcelCites made) → IsMovedOver foreign mine after made
  one_moved over after made rows w same cites =
      let values_same : made.values ≡ foreign.values = ap (λ o. o.1.values) same in
      let count : length over ≡ length all = length-map-same operations over all rows.kept in
      let made_each : parcel_by_value made ≡ all_by_value each over =
      ap (λ v. map (by_value v) made.entry.txs) values_same ∙ written_alike foreign.values (length all) made.entry.txs over w (omega (arith, count)) in
      record {
        joined = λ values.
            ap (λ l. join_list l (map (shifted_by_value values) mine)) by_each
            ∙ (rows.joined each values ∙ ap (λ l. both l (map (shifted_by_value values) after)) (sym made_each));
        shifted = rows.mine_shifted;
        kept = rows.mine_kept;
        follow = λ n run h.
            subst (λ m. FollowFrom m after) (length_alike foreign.values n foreign.entry.txs all written shifted)
            (rows.mine_follow n (follows foreign.values n foreign.entry.txs all written shifted run) h);
        outline_kept = same;
        cites = cites;
      }

  pub one_refused : (why : RebaseFault) →
      ((values : List (List Value)) (others : List Value) → IsRefusedAs (join_list (all_by_value values all) (map (shifted_by_value others) mine)) why) → IsMoveRefused foreign mine why
  one_refused why refused = λ values. subst (λ l. IsRefusedAs (join_list l (map (shifted_by_value values) mine)) why) (sym by_each) (refused each values)

-- ---- all entries of others

-- how far mine are moved
pub record MovedSoFar (foreign : List Parcel) (mine now : List Shifted) (committed : List Parcel) (i : ℕ) : Type 0 where
  pub shifted : All IsShifted now
  pub kept : map operations now ≡ map operations mine
  pub meet : MeetMoved (parcels_by_value (drop i foreign)) now
  pub joined : (values : List Value) →
      AreMovedOver (map parcel_by_value (take i foreign)) (map (shifted_by_value values) mine) (map parcel_by_value committed) (map (shifted_by_value values) now)
  pub outlines : map outline committed ≡ map outline (take i foreign)
  pub cite : All ParcelCites foreign → All ParcelCites committed

pub moved_begun : (foreign : List Parcel) (mine : List Shifted) → All IsShifted mine → MeetMoved (parcels_by_value foreign) mine → MovedSoFar foreign mine mine [] 0
moved_begun foreign mine h meet = record {
  shifted = h;
  kept = refl;
  meet = meet;
  joined = λ values. refl;
  outlines = refl;
  cite = λ h. All-nil ParcelCites;
}

-- where the others' entries before an index are those that are joined
made_so_far : (foreign : List Parcel) (mine now : List Shifted) (committed : List Parcel) (i : ℕ) → MovedSoFar foreign mine now committed i → i ≤ length foreign →
    ((next : Parcel) → slice_get foreign i ≡ Some next → (values : List Value) →
    (clash : RangeConflict) × (join_list (parcel_by_value next) (map (shifted_by_value values) now) ≡ Err clash)) →
    WereMoved foreign mine now committed
made_so_far foreign mine now committed i so_far le stops =
    let count : length committed ≡ i =
    sym (length-map committed outline) ∙ (ap length so_far.outlines ∙ (length-map (take i foreign) outline ∙ length-take-le i foreign le)) in
    record {
      within = subst (λ n. n ≤ length foreign) (sym count) le;
      joined = λ values.
          subst (λ n. AreMovedOver (map parcel_by_value (take n foreign)) (map (shifted_by_value values) mine) (map parcel_by_value committed) (map (shifted_by_value values) now))
          (sym count) (so_far.joined values);
      stops = λ next is. stops next (ap (slice_get foreign) (sym count) ∙ is);
      shifted = so_far.shifted;
      kept = so_far.kept;
      outlines = so_far.outlines ∙ ap (λ n. map outline (take n foreign)) (sym count);
      cite = so_far.cite;
    }

module _ (foreign : List Parcel) (mine now : List Shifted) (committed : List Parcel) (i : ℕ) (one : Parcel) (so_far : MovedSoFar foreign mine now committed i) (lt : i < length foreign)
    (is : one ≡ get_or foreign i one) where
  abbrev rest : List Parcel
  rest = drop (suc i) foreign

  meet_here : MeetMoved (parcel_by_value one ++ parcels_by_value rest) now
  meet_here = subst (λ ps. MeetMoved (parcels_by_value ps) now) (here foreign i one lt is) so_far.meet

  pub moved_meets : MeetMoved (parcel_by_value one) now
  moved_meets = record {
    size = meet_here.size;
    foreign_run = (run_parted meet_here.size (parcel_by_value one) (parcels_by_value rest) meet_here.foreign_run).0;
    mine_follow = meet_here.mine_follow;
  }

  taken : take (i + 1) foreign ≡ take i foreign ++ one ∷ []
  taken = take_more foreign i one lt ∙ ap (λ q. take i foreign ++ q ∷ []) (sym is)

  found_here : slice_get foreign i ≡ Some one
  found_here = get_is foreign i one lt is
    where
      get_is : (ps : List Parcel) (i : ℕ) (p : Parcel) → i < length ps → p ≡ get_or ps i p → slice_get ps i ≡ Some p
      get_is [] i p lt is = absurd (omega arith)
      get_is (q ∷ ps) zero p lt is = ap Some (sym is)
      get_is (q ∷ ps) (suc i) p lt is = get_is ps i p (omega arith) is

  pub moved_next : (after : List Shifted) (made : Parcel) → IsMovedOver one now after made → MovedSoFar foreign mine after (committed ++ made ∷ []) (i + 1)
  moved_next after made h =
      let run = run_parted meet_here.size (parcel_by_value one) (parcels_by_value rest) meet_here.foreign_run in
      let next : suc i ≡ i + 1 = omega arith in
      record {
        shifted = h.shifted;
        kept = h.kept ∙ so_far.kept;
        meet = subst (λ n. MeetMoved (parcels_by_value (drop n foreign)) after) next (record {
          size = length_given meet_here.size (parcel_by_value one);
          foreign_run = run.1;
          mine_follow = h.follow meet_here.size run.0 meet_here.mine_follow;
        });
        joined = λ values.
            let f = shifted_by_value values in
            subst (λ ps. AreMovedOver ps (map f mine) (map parcel_by_value (committed ++ made ∷ [])) (map f after))
            (sym (ap (map parcel_by_value) taken ∙ map-append parcel_by_value (take i foreign) (one ∷ [])))
            (subst (λ cs. AreMovedOver (map parcel_by_value (take i foreign) ++ parcel_by_value one ∷ []) (map f mine) cs (map f after))
            (sym (map-append parcel_by_value committed (made ∷ [])))
            (moved_more (map parcel_by_value (take i foreign)) (map f mine) (map parcel_by_value committed) (map f now) (parcel_by_value one) (parcel_by_value made) (map f after)
            (so_far.joined values) (h.joined values)));
        outlines = map-append outline committed (made ∷ []) ∙ (ap (λ l. l ++ outline made ∷ []) so_far.outlines ∙ (ap (λ o. map outline (take i foreign) ++ o ∷ []) h.outline_kept
            ∙ (sym (map-append outline (take i foreign) (one ∷ [])) ∙ ap (map outline) (sym taken))));
        cite = λ g. All-append ParcelCites committed (made ∷ []) (so_far.cite g)
            (All-cons ParcelCites made [] (h.cites (subst ParcelCites (sym is) (All-get_or ParcelCites foreign i one lt g))) (All-nil ParcelCites));
      }

  pub moved_clash : (clash : RangeConflict) → ((values : List Value) → join_list (parcel_by_value one) (map (shifted_by_value values) now) ≡ Err clash) → WereMoved foreign mine now committed
  moved_clash clash e =
      made_so_far foreign mine now committed i so_far (omega (arith, lt))
      (λ next found values.
      let there : Some next ≡ Some one = sym found ∙ found_here in
      let same : next ≡ one = cc in
      (clash, ap (λ p. join_list (parcel_by_value p) (map (shifted_by_value values) now)) same ∙ e values))

pub moved_done : (foreign : List Parcel) (mine now : List Shifted) (committed : List Parcel) (i : ℕ) → MovedSoFar foreign mine now committed i → length foreign ≤ i → WereMoved foreign mine now committed
moved_done foreign mine now committed i so_far end =
    let n = length foreign in
    let whole : take i foreign ≡ take n foreign = take_all i foreign end ∙ sym (take_all n foreign (omega arith)) in
    let none : drop i foreign ≡ drop n foreign = drop_all i foreign end ∙ sym (drop_all n foreign (omega arith)) in
    made_so_far foreign mine now committed n (record {
      shifted = so_far.shifted;
      kept = so_far.kept;
      meet = subst (λ ps. MeetMoved (parcels_by_value ps) now) none so_far.meet;
      joined = λ values.
          subst (λ ps. AreMovedOver (map parcel_by_value ps) (map (shifted_by_value values) mine) (map parcel_by_value committed) (map (shifted_by_value values) now)) whole (so_far.joined values);
      outlines = so_far.outlines ∙ ap (map outline) whole;
      cite = so_far.cite;
    }) (omega arith)
    (λ next found values.
    let past : slice_get foreign n ≡ None = slice_get_past foreign n (omega arith) in
    absurd (cc))

-- ---- several entries at once

module _ (foreign : List Parcel) (mine now : List Shifted) (committed : List Parcel) (i n : ℕ) (so_far : MovedSoFar foreign mine now committed i) where
  abbrev part : List Parcel
  part = take n (drop i foreign)

  abbrev after_part : List Parcel
  after_part = drop n (drop i foreign)

  meet_parted : MeetMoved (parcels_by_value part ++ parcels_by_value after_part) now
  meet_parted =
      subst (λ ps. MeetMoved ps now) (ap parcels_by_value (sym (take-append-drop n (drop i foreign))) ∙ flat_map-append parcel_by_value part after_part) so_far.meet

  pub some_meet : MeetMoved (parcels_by_value part) now
  some_meet = record {
    size = meet_parted.size;
    foreign_run = (run_parted meet_parted.size (parcels_by_value part) (parcels_by_value after_part) meet_parted.foreign_run).0;
    mine_follow = meet_parted.mine_follow;
  }

  pub moved_some : (after : List Shifted) (some : List Parcel) → AreMoved part now after some → MovedSoFar foreign mine after (committed ++ some) (i + n)
  moved_some after some h =
      let run = run_parted meet_parted.size (parcels_by_value part) (parcels_by_value after_part) meet_parted.foreign_run in
      let taken : take (i + n) foreign ≡ take i foreign ++ part = take-add i n foreign in
      record {
        shifted = h.shifted;
        kept = h.kept ∙ so_far.kept;
        meet = subst (λ ps. MeetMoved (parcels_by_value ps) after) (drop-drop n i foreign) (record {
          size = length_given meet_parted.size (parcels_by_value part);
          foreign_run = run.1;
          mine_follow = h.follow meet_parted.size run.0 meet_parted.mine_follow;
        });
        joined = λ values.
            let f = shifted_by_value values in
            subst (λ ps. AreMovedOver ps (map f mine) (map parcel_by_value (committed ++ some)) (map f after))
            (sym (ap (map parcel_by_value) taken ∙ map-append parcel_by_value (take i foreign) part))
            (subst (λ cs. AreMovedOver (map parcel_by_value (take i foreign) ++ map parcel_by_value part) (map f mine) cs (map f after))
            (sym (map-append parcel_by_value committed some))
            (moved_both (map parcel_by_value (take i foreign)) (map f mine) (map parcel_by_value committed) (map f now) (map parcel_by_value part) (map parcel_by_value some) (map f after)
            (so_far.joined values) (h.joined values)));
        outlines = map-append outline committed some ∙ (ap (λ l. l ++ map outline some) so_far.outlines ∙ (ap (λ l. map outline (take i foreign) ++ l) h.outlines
            ∙ (sym (map-append outline (take i foreign) part) ∙ ap (map outline) (sym taken))));
        cite = λ g. All-append ParcelCites committed some (so_far.cite g) (h.cite (All-take ParcelCites n (drop i foreign) (All-drop ParcelCites i foreign g)));
      }

-- ---- mine entry by entry

pub operations_over : (values : List Value) (entries : List Entry) → operations_of (all_over values entries) ≡ all_operations entries
operations_over values entries = flat_map-map (λ (p : Parcel). p.entry.txs) (over_values values) entries

entries_by_value : (values : List Value) (entries : List Entry) → parcels_by_value (all_over values entries) ≡ map (by_value values) (all_operations entries)
entries_by_value values [] = refl
entries_by_value values (e ∷ entries) =
    ap (λ l. map (by_value values) e.txs ++ l) (entries_by_value values entries) ∙ sym (map-append (by_value values) e.txs (all_operations entries))

-- begun

pub begun_next : (entries : List Entry) (i : ℕ) (e : Entry) (all some more : List Shifted) (txs : List (List Operation)) → i < length entries → e ≡ get_or entries i e → more ≡ all ++ some →
    txs ≡ e.txs → GatheredSoFar txs some → GatheredSoFar (all_operations (take i entries)) all → GatheredSoFar (all_operations (take (i + 1) entries)) more
begun_next entries i e all some more txs lt is m same g h =
    let split : all_operations (take (i + 1) entries) ≡ all_operations (take i entries) ++ txs =
    ap all_operations (take_more entries i e lt ∙ ap (λ q. take i entries ++ q ∷ []) (sym is))
    ∙ (flat_map-append (λ (q : Entry). q.txs) (take i entries) (e ∷ []) ∙ ap (λ l. all_operations (take i entries) ++ l) (append-nil e.txs ∙ sym same)) in
    subst (λ l. GatheredSoFar l more) (sym split) (subst (GatheredSoFar (all_operations (take i entries) ++ txs)) (sym m) (gathered_more (all_operations (take i entries)) txs all some h g))

pub begun_all : (entries : List Entry) (i : ℕ) (all : List Shifted) → length entries ≤ i → GatheredSoFar (all_operations (take i entries)) all → AreBegun entries all
begun_all entries i all end h =
    let g : GatheredSoFar (all_operations entries) all = subst (λ l. GatheredSoFar (all_operations l) all) (take_all i entries end) h in
    record { shifted = g.shifted; written = g.written; kept = g.kept }

pub all_meet : (foreign : List Parcel) (entries : List Entry) (all : List Shifted) → AreBegun entries all → RunFromOneLength (parcels_by_value foreign) (parcels_by_value (all_over [] entries)) →
    MeetMoved (parcels_by_value foreign) all
all_meet foreign entries all h run = record {
  size = run.length;
  foreign_run = run.committed_run;
  mine_follow = follows [] run.length (all_operations entries) all h.written h.shifted (subst (RunOnLength run.length) (entries_by_value [] entries) run.mine_run);
}

-- written

pub entry_written : (e : Entry) (all : List Shifted) (txs : List (List Operation)) → map operations all ≡ e.txs → AreWritten txs all →
    ((values : List Value) → All (TxCites values) (map operations all) → All (TxCites values) txs) →
    IsWrittenInto e all (record { txs = txs; store_before = e.store_before; store_after = e.store_after; takes_back = e.takes_back })
entry_written e all txs kept w cites = record {
  written = w;
  outline_kept = λ values. same_outline (over_values values e) txs values all w kept refl;
  cites = λ values h. cites values (subst (All (TxCites values)) (sym kept) h);
}

-- how far the entries are written, whatever values they cite, and which transactions are left
abbrev pub WrittenSoFar : List Entry → ℕ → (all left : List Shifted) → List Entry → Type 0
WrittenSoFar entries i all left made = (values : List Value) → PartedSoFar (all_over values entries) i all left (all_over values made)

pub written_begun : (entries : List Entry) (all : List Shifted) → All IsShifted all → map operations all ≡ all_operations entries → WrittenSoFar entries 0 all all []
written_begun entries all h kept = λ values. parted_begun (all_over values entries) all h (kept ∙ sym (operations_over values entries))

module _ (entries : List Entry) (i : ℕ) (all left : List Shifted) (made : List Entry) (e : Entry) (n : ℕ) (so_far : WrittenSoFar entries i all left made) (lt : i < length entries)
    (is : e ≡ get_or entries i e) (count : n ≡ length e.txs) where
  lt_over : (values : List Value) → i < length (all_over values entries)
  lt_over values = subst (λ m. i < m) (sym (length-map entries (over_values values))) lt

  pub within_left : n ≤ length left
  within_left = part_within (all_over [] entries) i all left (all_over [] made) (over_values [] e) n (so_far []) (lt_over []) (over_get [] entries i e is) count

  pub kept_left : map operations (take n left) ≡ e.txs
  kept_left = part_kept (all_over [] entries) i all left (all_over [] made) (over_values [] e) n (so_far []) (lt_over []) (over_get [] entries i e is) count

  pub shifted_left : All IsShifted (take n left)
  shifted_left = part_shifted (all_over [] entries) i all left (all_over [] made) (over_values [] e) n (so_far []) (lt_over []) (over_get [] entries i e is) count

  pub written_next : (one : Entry) → IsWrittenInto e (take n left) one → WrittenSoFar entries (i + 1) all (drop n left) (made ++ one ∷ [])
  written_next one h = λ values.
      let next : suc i ≡ i + 1 = omega arith in
      let more = all_over values made ++ over_values values one ∷ [] in
      subst (PartedSoFar (all_over values entries) (i + 1) all (drop n left)) (sym (map-append (over_values values) made (one ∷ [])))
      (subst (λ m. PartedSoFar (all_over values entries) m all (drop n left) more) next
      (parted_next (all_over values entries) i all left (all_over values made) (over_values values e) n (so_far values) (lt_over values) (over_get values entries i e is) count
      (over_values values one) more h.written (h.outline_kept values) (h.cites values) refl))

pub written_done : (entries : List Entry) (i : ℕ) (all left : List Shifted) (made : List Entry) → length entries ≤ i → WrittenSoFar entries i all left made → AreWrittenInto entries all made
written_done entries i all left made end so_far =
    let done = λ (values : List Value). parted_done (all_over values entries) i all left (all_over values made)
    (subst (λ m. m ≤ i) (sym (length-map entries (over_values values))) end) (so_far values) in
    record {
      written = subst (λ l. AreWritten l all) (operations_over [] made) (done []).0;
      outlines = λ values. (done values).1;
      cite = λ values. (so_far values).cite;
    }

-- ---- all together

all_are : (values : List Value) (entries : List Entry) (all : List Shifted) → AreWritten (all_operations entries) all →
    all_of (map parcel_by_value (all_over values entries)) ≡ map (shifted_by_value values) all
all_are values entries all w =
    flat_map-map (λ ts. ts) parcel_by_value (all_over values entries) ∙ (entries_by_value values entries ∙ written_mine values (all_operations entries) all w)

sizes : (parcels : List Parcel) → map length (map parcel_by_value parcels) ≡ map (λ o. o.0) (map outline parcels)
sizes [] = refl
sizes (p ∷ parcels) =
    ap (λ n. n ∷ map length (map parcel_by_value parcels)) (length-map p.entry.txs (by_value p.values)) ∙ ap (λ l. length p.entry.txs ∷ l) (sizes parcels)

parcels_are : (parcels : List Parcel) → all_of (map parcel_by_value parcels) ≡ parcels_by_value parcels
parcels_are parcels = flat_map-map (λ ts. ts) parcel_by_value parcels

module _ (foreign : List Parcel) (all mine : List Shifted) (written : AreWritten (operations_of foreign) all) (shifted : All IsShifted all) where
  pub some_start : MeetMoved (parcels_by_value foreign) mine → StartTogether all mine
  some_start meet = record {
    length = meet.size;
    committed_follow = each_follows (values_of foreign) meet.size (operations_of foreign) all written shifted (subst (RunOnLength meet.size) (parcels_each foreign) meet.foreign_run);
    mine_follow = meet.mine_follow;
  }

  pub some_moved : (over after : List Shifted) (made : List Parcel) → AreRows all mine over after → AreWritten (operations_of made) over → map outline made ≡ map outline foreign →
      (All ParcelCites foreign → All ParcelCites made) → AreMoved foreign mine after made
  some_moved over after made rows w same cite = record {
    joined = λ values.
        let f = shifted_by_value values in
        moved_at_once (map parcel_by_value foreign) (map parcel_by_value made) (map f mine) (map f after)
        (ap (λ l. join_list l (map f mine)) (parcels_are foreign ∙ written_parcels foreign foreign all written refl)
        ∙ (rows.joined (values_of foreign) values ∙ ap (λ l. both l (map f after)) (sym (parcels_are made ∙ written_parcels foreign made over w same))))
        (sizes made ∙ (ap (map (λ o. o.0)) same ∙ sym (sizes foreign)));
    shifted = rows.mine_shifted;
    kept = rows.mine_kept;
    follow = λ n run h.
        subst (λ m. FollowFrom m after) (length_each (values_of foreign) n (operations_of foreign) all written shifted ∙ ap (length_given n) (sym (parcels_each foreign)))
        (rows.mine_follow n (each_follows (values_of foreign) n (operations_of foreign) all written shifted (subst (RunOnLength n) (parcels_each foreign) run)) h);
    outlines = same;
    cite = cite;
  }

pub all_made : (foreign : List Parcel) (entries : List Entry) (all after : List Shifted) (committed : List Parcel) (kept : List Entry) → AreBegun entries all → WereMoved foreign all after committed →
    AreWrittenInto entries after kept → AreAllUnder foreign entries (record { committed = committed; kept = kept })
all_made foreign entries all after committed kept begun moved w = record {
  within = moved.within;
  joined = λ values.
      all_joined (map parcel_by_value (take (length committed) foreign)) (map parcel_by_value (all_over values entries)) (map parcel_by_value committed) (map parcel_by_value (all_over values kept))
      (map (shifted_by_value values) all) (map (shifted_by_value values) after) (moved.joined values) (all_are values entries all begun.written) (all_are values kept after w.written)
      (sizes (all_over values kept) ∙ (ap (map (λ o. o.0)) (w.outlines values) ∙ sym (sizes (all_over values entries))));
  stops = λ next is values.
      let s = moved.stops next is values in
      refused_as_whole (parcel_by_value next) (map parcel_by_value (all_over values kept)) s.0 (ap (join_list (parcel_by_value next)) (all_are values kept after w.written) ∙ s.1);
  committed_outlines = moved.outlines;
  outlines = w.outlines;
  committed_cite = moved.cite;
  cite = w.cite;
}
