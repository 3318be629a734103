-- One more entry, and all of them: which count behind the first.
use Rattle.std.proofs.Common.{◌≡◌, ℕ, List, [], ◌∷◌, ◌++◌, length, Some, None, refl, sym, ap, ◌∙◌, arith}
use Rattle.std.proofs.lemmas.List.{length-append}
use Rattle.std.proofs.lemmas.List.Elements.{All-append, All-cons, All-nil}
use Rattle.model_site.specs.Live.{Standing, or_last, stand, without_hint}
use Rattle.ve_tx.specs.declared.parcel.Parcel.{Parcel}
use Rattle.ve_tx.specs.ByValue.{parcel_by_value, ParcelCites}
use Rattle.ve_peer_undo.specs.Counted.{AreKept, counted}
use Rattle.ve_peer_undo.specs.Counting.{hinted_parcel}

-- ---- one more

counted_more : (ns : List ℕ) (ps : List Parcel) (n : ℕ) (p : Parcel) → length ns ≡ length ps →
    counted (ns ++ n ∷ []) (ps ++ p ∷ []) ≡ counted ns ps ++ record { number = n; txs = parcel_by_value p } ∷ []
counted_more [] [] n p h = refl
counted_more [] (q ∷ ps) n p h = absurd (omega (arith, h))
counted_more (m ∷ ns) [] n p h = absurd (omega (arith, h))
counted_more (m ∷ ns) (q ∷ ps) n p h = ap (λ ss. record { number = m; txs = parcel_by_value q } ∷ ss) (counted_more ns ps n p (omega (arith, h)))

-- it counts itself
pub counts_itself : (ns : List ℕ) (ps : List Parcel) (n : ℕ) (e : Parcel) → AreKept ns ps →
    without_hint e.entry.takes_back (parcel_by_value e) (counted ns ps) ≡ None → counted (ns ++ n ∷ []) (ps ++ e ∷ []) ≡ stand n (hinted_parcel e) (counted ns ps)
counts_itself ns ps n e kept none =
    counted_more ns ps n e kept.many ∙ sym (ap (or_last (record { number = n; txs = parcel_by_value e }) (counted ns ps)) none)

-- or takes one of them back
pub takes_one : (standing left : List Standing) (n : ℕ) (e : Parcel) → without_hint e.entry.takes_back (parcel_by_value e) standing ≡ Some left →
    left ≡ stand n (hinted_parcel e) standing
takes_one standing left n e some = sym (ap (or_last (record { number = n; txs = parcel_by_value e }) standing) some)

pub kept_more : (ns : List ℕ) (ps : List Parcel) (n : ℕ) (p : Parcel) → AreKept ns ps → ParcelCites p → AreKept (ns ++ n ∷ []) (ps ++ p ∷ [])
kept_more ns ps n p kept cites = record {
  many =
      let a = length-append ns (n ∷ []) in
      let b = length-append ps (p ∷ []) in
      let k = kept.many in
      omega (arith, a, b, k);
  cite = All-append ParcelCites ps (p ∷ []) kept.cite (All-cons ParcelCites p [] cites (All-nil ParcelCites));
}
