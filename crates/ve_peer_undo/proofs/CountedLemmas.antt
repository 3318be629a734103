-- The entries that count, kept as parcels with their numbers beside them.
use Rattle.std.proofs.Common.{◌≡◌, ℕ, true, false, if◌then◌else◌, List, [], ◌∷◌, ◌++◌, length, map, take, drop, Some, None, Ok, refl, sym, ap, ◌∙◌, subst, arith}
use Rattle.std.proofs.Math.Seq.{drop-append_seam, take-append_seam}
use Rattle.std.proofs.lemmas.List.{length-map}
use Rattle.model_change.specs.Join.{join_list}
use Rattle.model_change.specs.Replay.{reversal}
use Rattle.model_change.specs.Transaction.{Transaction}
use Rattle.model_site.specs.Live.{all_alike, all_standing, left_by, left_without, with_txs}
use Rattle.ve_tx.specs.declared.parcel.Parcel.{Parcel}
use Rattle.ve_tx.specs.ByValue.{parcel_by_value}
use Rattle.ve_tx.specs.Operation.{by_value}
use Rattle.ve_rebase.specs.declared.fault.RebaseFault.{RebaseFault}
use Rattle.ve_rebase.specs.declared.fault.RebaseFault.TheVariants.{Conflict}
use Rattle.ve_rebase.specs.Lists.{IsRefusedAs}
use Rattle.ve_rebase.specs.Entries.{both_entries, joined_entries, outline, parcels_by_value}
use Rattle.ve_peer_undo.specs.Counted.{counted}

pub all_counted : (ns : List ℕ) (ps : List Parcel) → length ns ≡ length ps → all_standing (counted ns ps) ≡ parcels_by_value ps
all_counted [] [] h = refl
all_counted [] (p ∷ ps) h = absurd (omega (arith, h))
all_counted (n ∷ ns) [] h = absurd (omega (arith, h))
all_counted (n ∷ ns) (p ∷ ps) h = ap (λ ts. parcel_by_value p ++ ts) (all_counted ns ps (omega (arith, h)))

-- joined parcels in the place of those that they were
with_counted : (ns : List ℕ) (after left : List Parcel) → length ns ≡ length after → map outline left ≡ map outline after →
    with_txs (parcels_by_value left) (counted ns after) ≡ counted ns left
with_counted [] after [] h e = refl
with_counted [] after (l ∷ left) h e = refl
with_counted (n ∷ ns) [] left h e = absurd (omega (arith, h))
with_counted (n ∷ ns) (a ∷ after) [] h e = absurd (cc)
with_counted (n ∷ ns) (a ∷ after) (l ∷ left) h e =
    let one : outline l ≡ outline a = cc in
    let rest : map outline left ≡ map outline after = cc in
    let many : length (parcel_by_value a) ≡ length (parcel_by_value l) =
    length-map a.entry.txs (by_value a.values) ∙ (sym (ap (λ o. o.0) one) ∙ sym (length-map l.entry.txs (by_value l.values))) in
    let ts = parcel_by_value l in
    let us = parcels_by_value left in
    ap (λ k. record { number = n; txs = take k (ts ++ us) } ∷ with_txs (drop k (ts ++ us)) (counted ns after)) many
    ∙ (ap (λ (vs : List Transaction). record { number = n; txs = vs } ∷ with_txs (drop (length ts) (ts ++ us)) (counted ns after)) (take-append_seam ts us)
    ∙ (ap (λ vs. record { number = n; txs = ts } ∷ with_txs vs (counted ns after)) (drop-append_seam ts us) ∙ ap (λ ss. record { number = n; txs = ts } ∷ ss) (with_counted ns after left (omega (arith, h)) rest)))

module _ (after : List Parcel) (taken back reversed : Parcel) (is : parcel_by_value reversed ≡ reversal (parcel_by_value taken)) where
  abbrev b : List Transaction
  b = parcel_by_value back

  module _ (ns : List ℕ) (many : length ns ≡ length after) where
    same_join : join_list (all_standing (counted ns after)) (reversal (parcel_by_value taken)) ≡ joined_entries after reversed
    same_join = ap (λ ts. join_list ts (reversal (parcel_by_value taken))) (all_counted ns after many) ∙ ap (join_list (parcels_by_value after)) (sym is)

    pub left_in_conflict : (why : RebaseFault) (a_range b_range : ℕ × ℕ) → why ≡ Conflict a_range b_range → IsRefusedAs (joined_entries after reversed) why →
        left_without b (parcel_by_value taken) (counted ns after) ≡ None
    left_in_conflict why a_range b_range is refused =
        ap (λ r. left_by b r (counted ns after)) (same_join ∙ subst (IsRefusedAs (joined_entries after reversed)) is refused)

    module _ (two : List Parcel × Parcel) (e : joined_entries after reversed ≡ Ok (both_entries two)) where
      tested : left_without b (parcel_by_value taken) (counted ns after)
          ≡ (if all_alike (parcel_by_value two.1) b then Some (with_txs (parcels_by_value two.0) (counted ns after)) else None)
      tested = ap (λ r. left_by b r (counted ns after)) (same_join ∙ e)

      pub left_unlike : all_alike (parcel_by_value two.1) b ≡ false → left_without b (parcel_by_value taken) (counted ns after) ≡ None
      left_unlike h = tested ∙ ap (λ t. if t then Some (with_txs (parcels_by_value two.0) (counted ns after)) else None) h

      pub left_alike : all_alike (parcel_by_value two.1) b ≡ true → map outline two.0 ≡ map outline after →
          left_without b (parcel_by_value taken) (counted ns after) ≡ Some (counted ns two.0)
      left_alike h o =
          tested ∙ (ap (λ t. if t then Some (with_txs (parcels_by_value two.0) (counted ns after)) else None) h ∙ ap (λ ss. Some ss) (with_counted ns after two.0 many o))

pub same_many : (left after : List Parcel) → map outline left ≡ map outline after → length left ≡ length after
same_many left after o = sym (length-map left outline) ∙ (ap length o ∙ length-map after outline)
