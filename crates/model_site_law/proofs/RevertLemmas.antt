-- The list of a replica after transactions are performed, and after entries are taken back.
use Rattle.std.proofs.Common.{◌≡◌, List, [], ◌∷◌, refl, ap, ◌∙◌}
use Rattle.model_items.specs.declared.plain_item.PlainItem.{PlainItem}
use Rattle.model_change.specs.Replay.{AllRun, flattened, replay, reversal}
use Rattle.model_change.specs.Transaction.{Transaction}
use Rattle.model_change.proofs.ReversalLaw.{reversal_undoes}
use Rattle.model_site.specs.Entries.{Entry, all_reverted, parcels, reverted}
use Rattle.model_site.specs.Replica.{Replica, all_performed, all_put_back, performed, put_back}
use Rattle.model_site_law.specs.Sound.{Sound}
use Rattle.model_site_law.proofs.ReplayLemmas.{AllRun-parts, replay-append, sound_after}

pub items_performed : (ts : List Transaction) (s : Replica) → (all_performed ts s).items ≡ replay ts s.items
items_performed [] s = refl
items_performed (t ∷ ts) s = items_performed ts (performed t s)

pub items_put_back : (ts : List Transaction) (s : Replica) → (all_put_back ts s).items ≡ replay ts s.items
items_put_back [] s = refl
items_put_back (t ∷ ts) s = items_put_back ts (put_back t s)

-- an entry that was performed on a list gives it back
pub items_reverted : (e : Entry) (s : Replica) (items : List PlainItem) → Sound items → AllRun e.txs items → s.items ≡ replay e.txs items →
    (reverted e s).items ≡ items
items_reverted e s items sound runs h =
    items_put_back (reversal e.txs) s ∙ ap (replay (reversal e.txs)) h ∙ (reversal_undoes e.txs items sound.lawful sound.apart runs).back

pub items_all_reverted : (es : List Entry) (s : Replica) (items : List PlainItem) → Sound items → AllRun (flattened (parcels es)) items →
    s.items ≡ replay (flattened (parcels es)) items → (all_reverted es s).items ≡ items
items_all_reverted [] s items sound runs h = h
items_all_reverted (e ∷ es) s items sound runs h =
    let parts = AllRun-parts e.txs (flattened (parcels es)) items runs in
    let next = replay e.txs items in
    items_reverted e (all_reverted es s) items sound parts.0
    (items_all_reverted es s next (sound_after e.txs items sound parts.0) parts.1 (h ∙ replay-append e.txs (flattened (parcels es)) items))
