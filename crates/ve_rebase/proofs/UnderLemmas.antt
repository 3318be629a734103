-- A site's entries joined one after the other over an entry of another site.
use Rattle.std.proofs.Common.{◌≡◌, ◌≤◌, ◌<◌, ℕ, zero, suc, ◌+◌, List, [], ◌∷◌, ◌++◌, length, map, take, get_or, slice_get, replicate, All, Option, Some, None, Err, refl, sym, ap, subst, ◌∙◌, arith}
use Rattle.std.proofs.lemmas.List.{append-nil, map-append, length-map, length-append, take_more}
use Rattle.std.proofs.lemmas.List.Elements.{All-nil, All-cons, All-append, All-head, All-tail}
use Rattle.ve_base.specs.declared.value.Value.{Value}
use Rattle.model_change.specs.Join.{join_list, RangeConflict}
use Rattle.model_site.specs.Joined.{join_entries}
use Rattle.model_site.specs.declared.served.Clash.{Clash}
use Rattle.model_site.specs.Session.{clash_of}
use Rattle.ve_tx.specs.declared.entry.Entry.{Entry}
use Rattle.ve_tx.specs.declared.parcel.Parcel.{Parcel}
use Rattle.ve_tx.specs.ByValue.{parcel_by_value, ParcelCites}
use Rattle.ve_tx.specs.Cites.{TxCites}
use Rattle.ve_tx.specs.Operation.{Operation}
use Rattle.ve_rebase.specs.declared.shifted.Shifted.{Shifted}
use Rattle.ve_rebase.specs.Entries.{parcels_by_value, outline}
use Rattle.ve_rebase.specs.Lists.{RunFromOneLength}
use Rattle.ve_rebase.specs.Shifted.{IsShifted, shifted_by_value, all_by_value, operations, AreRows, AreWritten}
use Rattle.ve_rebase.specs.Until.{joined_until, AreJoined}
use Rattle.ve_rebase.specs.Under.{over_values, all_over, joined_under, AreUnder, IsJoinedUnder, MeetUnder, WereJoined}
use Rattle.ve_rebase.proofs.WrittenLemmas.{written_mine}
use Rattle.ve_rebase.proofs.EntryLemmas.{values_of, same_outline}
use Rattle.ve_rebase.proofs.UntilLemmas.{JoinedSoFar, entry_joined, joined_begun, one_meets, joined_next, joined_clash, joined_done, committed_clash, committed_done}

-- what is found at a position
pub found : (es : List Entry) (i : ℕ) (e : Entry) → slice_get es i ≡ Some e → e ≡ get_or es i e
found [] i e is = refl
found (x ∷ es) zero e is = let same : x ≡ e = cc in sym same
found (x ∷ es) (suc i) e is = found es i e is

-- ---- one entry

pub under_joined : (over more after more_after : List Shifted) (mine : Entry) (txs : List (List Operation)) → AreWritten mine.txs more → All IsShifted more →
    map operations more ≡ mine.txs → AreRows over more after more_after → AreWritten txs more_after →
    ((values : List Value) → All (TxCites values) (map operations more_after) → All (TxCites values) txs) →
    IsJoinedUnder over mine after (record { txs = txs; store_before = mine.store_before; store_after = mine.store_after; takes_back = mine.takes_back })
under_joined over more after more_after mine txs k i kept rows q cites =
    let own : map operations more_after ≡ mine.txs = rows.mine_kept ∙ kept in
    record {
      joined = λ values.
          entry_joined over more after more_after (over_values values mine) (over_values values (record { txs = txs; store_before = mine.store_before; store_after = mine.store_after; takes_back = mine.takes_back }))
          k i rows q (same_outline (over_values values mine) txs values more_after q own refl) (λ h. cites values (subst (All (TxCites values)) (sym own) h));
      kept = rows.kept;
    }

-- ---- all entries

-- how far they are joined
pub record UnderSoFar (foreign : Parcel) (mine : List Entry) (over : List Shifted) (kept : List Entry) (i : ℕ) : Type 0 where
  pub so_far : (values : List Value) → JoinedSoFar (foreign ∷ []) (all_over values mine) over (all_over values kept) i
  pub operations_kept : map operations over ≡ foreign.entry.txs
  pub count : length kept ≡ length (take i mine)
  pub cite : (values : List Value) → All ParcelCites (all_over values (take i mine)) → All ParcelCites (all_over values kept)

pub under_begun : (foreign : Parcel) (mine : List Entry) (all : List Shifted) → AreWritten foreign.entry.txs all → All IsShifted all → map operations all ≡ foreign.entry.txs →
    ((values : List Value) → RunFromOneLength (parcel_by_value foreign) (parcels_by_value (all_over values mine))) → UnderSoFar foreign mine all [] 0
under_begun foreign mine all w g kept run = record {
  so_far = λ values.
      joined_begun (foreign ∷ []) (all_over values mine) all (subst (λ l. AreWritten l all) (sym (append-nil foreign.entry.txs)) w) g
      (subst (λ l. RunFromOneLength l (parcels_by_value (all_over values mine))) (sym (append-nil (parcel_by_value foreign))) (run values));
  operations_kept = kept;
  count = refl;
  cite = λ values h. All-nil ParcelCites;
}

cite_parts : (values : List Value) (xs ys : List Entry) → All ParcelCites (all_over values (xs ++ ys)) → All ParcelCites (all_over values xs) × All ParcelCites (all_over values ys)
cite_parts values [] ys h = (All-nil ParcelCites, h)
cite_parts values (x ∷ xs) ys h =
    let rest = cite_parts values xs ys (All-tail ParcelCites (over_values values x) (all_over values (xs ++ ys)) h) in
    (All-cons ParcelCites (over_values values x) (all_over values xs) (All-head ParcelCites (over_values values x) (all_over values (xs ++ ys)) h) rest.0, rest.1)

pub over_get : (values : List Value) (mine : List Entry) (i : ℕ) (one : Entry) → one ≡ get_or mine i one → over_values values one ≡ get_or (all_over values mine) i (over_values values one)
over_get values [] i one is = refl
over_get values (e ∷ mine) zero one is = ap (over_values values) is
over_get values (e ∷ mine) (suc i) one is = over_get values mine i one is

alike : (v : List Value) (n : ℕ) (all : List Shifted) → length all ≤ n → all_by_value (replicate n v) all ≡ map (shifted_by_value v) all
alike v n [] h = refl
alike v zero (a ∷ all) h = absurd (omega (arith, h))
alike v (suc n) (a ∷ all) h = ap (λ l. shifted_by_value v a ∷ l) (alike v n all (omega (arith, h)))

foreign_alike : (foreign : Parcel) (over : List Shifted) → map operations over ≡ foreign.entry.txs → all_by_value (values_of (foreign ∷ [])) over ≡ map (shifted_by_value foreign.values) over
foreign_alike foreign over kept =
    let count : length over ≡ length foreign.entry.txs = sym (length-map over operations) ∙ ap length kept in
    ap (λ v. all_by_value v over) (append-nil (replicate (length foreign.entry.txs) foreign.values)) ∙ alike foreign.values (length foreign.entry.txs) over (omega (arith, count))

-- another's entry alone
alone : (foreign : Parcel) (mine : List Entry) (values : List Value) → joined_until (foreign ∷ []) (all_over values mine) ≡ joined_under values foreign mine
alone foreign mine values = ap (λ l. join_entries l (map parcel_by_value (all_over values mine))) (append-nil (parcel_by_value foreign))

taken_again : (i : ℕ) (mine : List Entry) → take (length (take i mine)) mine ≡ take i mine
taken_again zero mine = refl
taken_again (suc i) [] = refl
taken_again (suc i) (x ∷ mine) = ap (λ l. x ∷ l) (taken_again i mine)

first_taken : (i : ℕ) (mine : List Entry) (n : ℕ) → n ≡ length (take i mine) → take n mine ≡ take i mine
first_taken i mine n e = ap (λ m. take m mine) e ∙ taken_again i mine

so_joined : (foreign : Parcel) (mine : List Entry) (over : List Shifted) (kept : List Entry) (i : ℕ) → UnderSoFar foreign mine over kept i →
    ((values : List Value) → (joined_until (foreign ∷ []) (all_over values mine)).committed ≡ all_by_value (values_of (foreign ∷ [])) over) →
    (clash : Option Clash) →
    ((values : List Value) → AreJoined (foreign ∷ []) (all_over values mine) (record { kept = all_over values kept; clash = clash })) → WereJoined foreign mine over kept
so_joined foreign mine over kept i so_far committed clash joined = record {
  shifted = (so_far.so_far []).shifted;
  operations_kept = so_far.operations_kept;
  committed = λ values. ap (λ j. j.committed) (sym (alone foreign mine values)) ∙ (committed values ∙ foreign_alike foreign over so_far.operations_kept);
  kept_are = λ values. (joined values).kept ∙ ap (λ j. j.kept) (alone foreign mine values);
  outlines = λ values. (joined values).outlines ∙ ap (λ n. map outline (take n (all_over values mine))) (length-map kept (over_values values));
  cite = λ values h. so_far.cite values (subst (λ l. All ParcelCites (all_over values l)) (first_taken i mine (length kept) so_far.count) h);
}

module _ (foreign : Parcel) (mine : List Entry) (over : List Shifted) (kept : List Entry) (i : ℕ) (one : Entry) (so_far : UnderSoFar foreign mine over kept i) (lt : i < length mine)
    (is : one ≡ get_or mine i one) where
  within : (values : List Value) → i < length (all_over values mine)
  within values = subst (λ n. i < n) (sym (length-map mine (over_values values))) lt

  taken : take (i + 1) mine ≡ take i mine ++ one ∷ []
  taken = take_more mine i one lt ∙ ap (λ q. take i mine ++ q ∷ []) (sym is)

  pub under_meets : MeetUnder over one
  under_meets = λ values. one_meets (foreign ∷ []) (all_over values mine) over (all_over values kept) i (over_values values one) (so_far.so_far values) (within values) (over_get values mine i one is)

  pub under_next : (after : List Shifted) (made : Entry) → IsJoinedUnder over one after made → UnderSoFar foreign mine after (kept ++ made ∷ []) (i + 1)
  under_next after made h = record {
    so_far = λ values.
        subst (λ ks. JoinedSoFar (foreign ∷ []) (all_over values mine) after ks (i + 1)) (sym (map-append (over_values values) kept (made ∷ [])))
        (joined_next (foreign ∷ []) (all_over values mine) over (all_over values kept) i (over_values values one) (so_far.so_far values) (within values) (over_get values mine i one is)
        after (over_values values made) (h.joined values));
    operations_kept = h.kept ∙ so_far.operations_kept;
    count = length-append kept (made ∷ []) ∙ (ap (λ n. n + 1) so_far.count ∙ (sym (length-append (take i mine) (one ∷ [])) ∙ ap length (sym taken)));
    cite = λ values g.
        let parts = cite_parts values (take i mine) (one ∷ []) (subst (λ l. All ParcelCites (all_over values l)) taken g) in
        subst (All ParcelCites) (sym (map-append (over_values values) kept (made ∷ [])))
        (All-append ParcelCites (all_over values kept) (all_over values (made ∷ [])) (so_far.cite values parts.0)
        (All-cons ParcelCites (over_values values made) [] ((h.joined values).cites (All-head ParcelCites (over_values values one) [] parts.1)) (All-nil ParcelCites)));
  }

  pub under_clash : (clash : RangeConflict) →
      ((values : List (List Value)) (others : List Value) → join_list (all_by_value values over) (parcel_by_value (over_values others one)) ≡ Err clash) → WereJoined foreign mine over kept
  under_clash clash e =
      so_joined foreign mine over kept i so_far
      (λ values. committed_clash (foreign ∷ []) (all_over values mine) over (all_over values kept) i (over_values values one) (so_far.so_far values) (within values) (over_get values mine i one is)
      clash (e (values_of (foreign ∷ [])) values))
      (clash_of (Some clash))
      (λ values. joined_clash (foreign ∷ []) (all_over values mine) over (all_over values kept) i (over_values values one) (so_far.so_far values) (within values) (over_get values mine i one is)
      clash (record { kept = all_over values kept; clash = clash_of (Some clash) }) (e (values_of (foreign ∷ [])) values) refl refl)

pub under_done : (foreign : Parcel) (mine : List Entry) (over : List Shifted) (kept : List Entry) (i : ℕ) → UnderSoFar foreign mine over kept i → length mine ≤ i → WereJoined foreign mine over kept
under_done foreign mine over kept i so_far end =
    let ends : (values : List Value) → length (all_over values mine) ≤ i = λ values. subst (λ n. n ≤ i) (sym (length-map mine (over_values values))) end in
    so_joined foreign mine over kept i so_far
    (λ values. committed_done (foreign ∷ []) (all_over values mine) over (all_over values kept) i (so_far.so_far values) (ends values))
    None
    (λ values. joined_done (foreign ∷ []) (all_over values mine) over (all_over values kept) i (record { kept = all_over values kept; clash = None }) (so_far.so_far values) (ends values) refl refl)

-- ---- written out

pub under_made : (foreign committed : Parcel) (mine : List Entry) (over : List Shifted) (kept : List Entry) → WereJoined foreign mine over kept → AreWritten committed.entry.txs over →
    outline committed ≡ outline foreign → (ParcelCites foreign → ParcelCites committed) → AreUnder foreign mine (record { committed = committed; kept = kept })
under_made foreign committed mine over kept h w same cites =
    let values_same : committed.values ≡ foreign.values = ap (λ o. o.1.values) same in
    record {
      committed = λ values. written_mine committed.values committed.entry.txs over w ∙ (ap (λ v. map (shifted_by_value v) over) values_same ∙ sym (h.committed values));
      kept = h.kept_are;
      committed_outline = same;
      outlines = h.outlines;
      committed_cites = cites;
      cite = h.cite;
    }
