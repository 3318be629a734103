-- An entry taken out of those that count.
use Rattle.std.proofs.Common.{◌≡◌, ◌<◌, ◌+◌, ◌-◌, ℕ, suc, List, ◌++◌, length, take, drop, get_or, All, Option, Some, None, option_map, sym, ap, ◌∙◌, subst, arith}
use Rattle.std.proofs.lemmas.List.{length-append, length-drop, length-take-le, take_all}
use Rattle.std.proofs.lemmas.List.Elements.{All-append, All-drop, All-take}
use Rattle.model_change.specs.Replay.{reversal}
use Rattle.model_change.specs.Transaction.{Transaction}
use Rattle.model_site.specs.Live.{all_standing, left_without, without}
use Rattle.ve_tx.specs.declared.parcel.Parcel.{Parcel}
use Rattle.ve_tx.specs.ByValue.{parcel_by_value, ParcelCites}
use Rattle.ve_rebase.specs.Entries.{parcels_by_value}
use Rattle.ve_rebase.specs.Lists.{RunFromOneLength}
use Rattle.ve_peer_undo.specs.Counted.{AreKept, counted, EachMayLeave, IsLeft, position_of}
use Rattle.ve_peer_undo.proofs.CountedLemmas.{all_counted}
use Rattle.ve_peer_undo.proofs.PositionLemmas.{counted_left, parts_at, position_within, without_at}

-- what is copied behind a position
pub behind : (all ps after : List Parcel) (at : ℕ) → all ≡ ps → after ≡ take (length all - (at + 1)) (drop (at + 1) all) → after ≡ drop (suc at) ps
behind all ps after at is e =
    let next : at + 1 ≡ suc at = omega arith in
    e ∙ (take_all (length all - (at + 1)) (drop (at + 1) all) (omega (arith, length-drop (at + 1) all)) ∙ (ap (λ k. drop k all) next ∙ ap (drop (suc at)) is))

module _ (ns : List ℕ) (ps : List Parcel) (kept : AreKept ns ps) (m at : ℕ) (is_at : position_of m ns ≡ Some at) (taken : Parcel) (there : taken ≡ get_or ps at taken)
    (after : List Parcel) (is_after : after ≡ drop (suc at) ps) where
  below : at < length ns
  below = position_within m ns at is_at

  many : length (drop (suc at) ns) ≡ length (drop (suc at) ps)
  many = let a = length-drop (suc at) ns in let b = length-drop (suc at) ps in let k = kept.many in omega (arith, a, b, k)

  many_after : length (drop (suc at) ns) ≡ length after
  many_after = many ∙ ap (λ (qs : List Parcel). length qs) (sym is_after)

  pub after_cite : All ParcelCites after
  after_cite = subst (All ParcelCites) (sym is_after) (All-drop ParcelCites (suc at) ps kept.cite)

  pub may_leave : EachMayLeave (counted ns ps) → RunFromOneLength (parcels_by_value after) (reversal (parcel_by_value taken))
  may_leave each =
      let run = each (take at (counted ns ps)) (counted (drop (suc at) ns) (drop (suc at) ps)) (record { number = get_or ns at 0; txs = parcel_by_value (get_or ps at taken) })
      (parts_at ns ps at 0 taken kept.many below) in
      let flat : all_standing (counted (drop (suc at) ns) (drop (suc at) ps)) ≡ parcels_by_value after =
      all_counted (drop (suc at) ns) (drop (suc at) ps) many ∙ ap parcels_by_value (sym is_after) in
      subst (λ ts. RunFromOneLength ts (reversal (parcel_by_value taken))) flat
      (subst (λ p. RunFromOneLength (all_standing (counted (drop (suc at) ns) (drop (suc at) ps))) (reversal (parcel_by_value p))) (sym there) run)

  module _ (back : Parcel) where
    abbrev back_txs : List Transaction
    back_txs = parcel_by_value back

    here : without m back_txs (counted ns ps) ≡ option_map (λ left. take at (counted ns ps) ++ left) (left_without back_txs (parcel_by_value taken) (counted (drop (suc at) ns) after))
    here =
        without_at m back_txs ns ps at taken kept.many is_at
        ∙ (ap (λ p. option_map (λ left. take at (counted ns ps) ++ left) (left_without back_txs (parcel_by_value p) (counted (drop (suc at) ns) (drop (suc at) ps)))) (sym there)
        ∙ ap (λ qs. option_map (λ left. take at (counted ns ps) ++ left) (left_without back_txs (parcel_by_value taken) (counted (drop (suc at) ns) qs))) (sym is_after))

    pub not_out : (o : Option (List Parcel)) → o ≡ None → IsLeft after taken back o → without m back_txs (counted ns ps) ≡ None
    not_out o none left =
        let l = subst (IsLeft after taken back) none left in
        here ∙ ap (option_map (λ rest. take at (counted ns ps) ++ rest)) (l (drop (suc at) ns) many_after)

    module _ (left : List Parcel) (is_left : IsLeft after taken back (Some left)) (ms : List ℕ) (qs : List Parcel) (ms_are : ms ≡ take at ns ++ drop (suc at) ns) (qs_are : qs ≡ take at ps ++ left) where
      pub out : without m back_txs (counted ns ps) ≡ Some (counted ms qs)
      out =
          here
          ∙ (ap (option_map (λ rest. take at (counted ns ps) ++ rest)) (is_left.0 (drop (suc at) ns) many_after)
          ∙ ap (λ ss. Some ss) (sym (counted_left ns ps left at kept.many below)
          ∙ sym (ap (λ l. counted l qs) ms_are ∙ ap (counted (take at ns ++ drop (suc at) ns)) qs_are)))

      pub kept_out : AreKept ms qs
      kept_out = record {
        many =
            let a = ap (λ (l : List ℕ). length l) ms_are ∙ length-append (take at ns) (drop (suc at) ns) in
            let b = ap (λ (l : List Parcel). length l) qs_are ∙ length-append (take at ps) left in
            let k = kept.many in
            let l = below in
            let c = length-take-le at ns (omega (arith, l)) in
            let d = length-take-le at ps (omega (arith, l, k)) in
            let e = is_left.1 in
            let f = many_after in
            omega (arith, a, b, c, d, e, f);
        cite = subst (All ParcelCites) (sym qs_are) (All-append ParcelCites (take at ps) left (All-take ParcelCites at ps kept.cite) is_left.2);
      }
