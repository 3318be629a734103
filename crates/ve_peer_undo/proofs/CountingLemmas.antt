-- The first of some entries, taken back under those behind it that count.
use Rattle.std.proofs.Common.{◌≡◌, ◌<◌, ℕ, zero, suc, List, [], ◌∷◌, length, drop, refl, sym, ap, ◌∙◌, arith}
use Rattle.model_change.specs.Transaction.{Transaction}
use Rattle.model_change.specs.Replay.{entry_at}
use Rattle.model_site.specs.Live.{Hinted, live_from, under_live, unhinted}
use Rattle.ve_peer_undo.specs.Counting.{EarlierDoNotCount, revoke_first}

-- entry i and those after it
parted : (entries : List Hinted) (i : ℕ) → i < length entries →
    (e : Hinted) × (drop i entries ≡ e ∷ drop (suc i) entries) × (entry_at (unhinted entries) i ≡ e.txs)
parted [] i below = absurd (omega (arith, below))
parted (e ∷ es) zero below = (e, refl, refl)
parted (e ∷ es) (suc i) below = parted es i (omega (arith, below))

pub earlier_do_not_count : EarlierDoNotCount
earlier_do_not_count entries i below =
    let p = parted entries i below in
    ap (revoke_first i) p.1
    ∙ ap (λ (own : List Transaction). under_live own (live_from i own (suc i) (drop (suc i) entries) [])) (sym p.2)
