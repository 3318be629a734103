-- A committed entry is taken back at a site.
use Rattle.std.proofs.Common.{◌≡◌, ◌<◌, ◌≤◌, ◌-◌, ℕ, zero, suc, Bool, true, false, List, [], ◌∷◌, ◌++◌, length, map, take, drop, get_or, Some, Result, Ok, refl, sym, ap, ◌∙◌, subst, arith}
use Rattle.std.proofs.lemmas.List.{drop-map, length-append, length-drop, length-map, take-append-drop}
use Rattle.ve_base.specs.declared.value.Value.{Value}
use Rattle.model_items.specs.declared.item.Item.{Item}
use Rattle.model_items.specs.declared.plain_item.PlainItem.{PlainItem}
use Rattle.model_change.specs.Join.{RangeConflict}
use Rattle.model_change.specs.Transaction.{Transaction}
use Rattle.model_change.specs.Replay.{AllRun, entry_at, flattened, made_after, replay, reversal, revoke}
use Rattle.model_site.specs.Entries.{Hints}
use Rattle.model_site.specs.Entries.{Parcel as Travelled}
use Rattle.model_site.specs.Live.{Hinted, hinted, in_conflict, revocation, unhinted}
use Rattle.model_site.specs.Made.{back_of, revoking}
use Rattle.model_site.specs.Session.{Member, Session}
use Rattle.model_site.specs.Site.{Site, entries_of, hinted_entries, hints_of, revoke_by, revoke_entry, with_entry_against}
use Rattle.model_site_law.specs.LiveLaws.{RunFrom, list_after}
use Rattle.model_site_law.specs.Protocol.{MemberHolds}
use Rattle.model_site_law.proofs.LiveLemmas.{revocation_runs}
use Rattle.model_site_law.proofs.ReplayLemmas.{AllRun-parts, flattened-append, sound_after}
use Rattle.model_site_law.proofs.SessionLemmas.{every_get, seen_runs}
use Rattle.model_site_law.proofs.SiteLemmas.{hinted_are, known_run, list_is}
use Rattle.ve_peer_undo.specs.Counting.{EarlierDoNotCount, RunFromPage, hinted_parcel}
use Rattle.ve_peer_undo.specs.Laws.{EarlierDoNotMatter, RevokesRun}
use Rattle.ve_peer_undo.specs.Refusal.{IsLiveRefusal, IsRevokeRefusal, live_fault}
use Rattle.ve_peer_undo.specs.declared.fault.RevokeFault.{RevokeFault}
use Rattle.ve_peer_undo.specs.declared.fault.RevokeFault.TheVariants as fault
use Rattle.ve_rebase.specs.Lists.{RunFromOneLength}
use Rattle.ve_server.specs.Serving.{Serving}
use Rattle.ve_server.specs.Travelling.{Travelling, travelling}
use Rattle.ve_tx.specs.declared.parcel.Parcel.{Parcel}
use Rattle.ve_tx.specs.ByValue.{parcel_by_value}
use Rattle.ve_sites.specs.FirstBack.{first_back}
use Rattle.ve_sites.specs.IsShared.{IsShared}
use Rattle.ve_sites.specs.Senders.{Sender, session_of}
use Rattle.ve_sites.proofs.StayLemmas.{found, here}

-- ---- the entries from one on

seen_part : {A : Type 0} (i n : ℕ) (xs ys : List A) → i ≤ n → n ≤ length xs → take (n - i) (drop i xs) ++ ys ≡ drop i (take n xs ++ ys)
seen_part zero n xs ys a b = let same : n - 0 ≡ n = omega arith in ap (λ j. take j xs ++ ys) same
seen_part (suc i) zero xs ys a b = absurd (omega (arith, a))
seen_part (suc i) (suc n) [] ys a b = absurd (omega (arith, b))
seen_part (suc i) (suc n) (x ∷ xs) ys a b =
    let same : suc n - suc i ≡ n - i = omega arith in
    ap (λ j. take j (drop i xs) ++ ys) same ∙ seen_part i n xs ys (omega (arith, a)) (omega (arith, b))

part_by_value : {A B : Type 0} (f : A → B) (i n : ℕ) (xs : List A) → map f (take n (drop i xs)) ≡ take n (drop i (map f xs))
part_by_value f zero zero xs = refl
part_by_value f zero (suc n) [] = refl
part_by_value f zero (suc n) (x ∷ xs) = ap (λ ys. f x ∷ ys) (part_by_value f zero n xs)
part_by_value f (suc i) zero xs = refl
part_by_value f (suc i) (suc n) [] = refl
part_by_value f (suc i) (suc n) (x ∷ xs) = part_by_value f i (suc n) xs

-- the committed ones that the site has seen, from one on, and its pending ones
pub known_from : {A B : Type 0} (f : A → B) (cs : List A) (committed rest : List B) (i seen : ℕ) → map f cs ≡ committed → i ≤ seen → seen ≤ length committed →
    map f (take (seen - i) (drop i cs)) ++ rest ≡ drop i (take seen committed ++ rest)
known_from f cs committed rest i seen e before within =
    ap (λ ps. ps ++ rest) (part_by_value f i (seen - i) cs ∙ ap (λ ps. take (seen - i) (drop i ps)) e) ∙ seen_part i seen committed rest before within

-- ---- with what they take back

parcels_hinted : (cs : List Parcel) → map hinted_parcel cs ≡ hinted (travelling cs).entries (travelling cs).hints
parcels_hinted [] = refl
parcels_hinted (c ∷ cs) = ap (λ es. hinted_parcel c ∷ es) (parcels_hinted cs)

pub parcels_unhinted : (cs : List Parcel) → unhinted (map hinted_parcel cs) ≡ map parcel_by_value cs
parcels_unhinted [] = refl
parcels_unhinted (c ∷ cs) = ap (λ es. parcel_by_value c ∷ es) (parcels_unhinted cs)

none_left : (i : ℕ) (hs : Hints) → hs ≡ [] → hs ≡ drop i hs
none_left zero hs e = refl
none_left (suc i) [] e = refl
none_left (suc i) (h ∷ hs) e = cc

hinted-drop : (i : ℕ) (ps : List Travelled) (hs : Hints) → hinted (drop i ps) (drop i hs) ≡ drop i (hinted ps hs)
hinted-drop zero ps hs = refl
hinted-drop (suc i) [] [] = refl
hinted-drop (suc i) [] (h ∷ hs) = refl
hinted-drop (suc i) (p ∷ ps) [] = ap (hinted (drop i ps)) (none_left i [] refl) ∙ hinted-drop i ps []
hinted-drop (suc i) (p ∷ ps) (h ∷ hs) = hinted-drop i ps hs

-- the parcels of what a site knows from one on
pub later_hinted : (cs : List Parcel) (known committed : Travelling) (server : Serving) (now site : Site) (i : ℕ) → travelling cs ≡ known →
    known.entries ≡ drop i (entries_of committed.entries now) → known.hints ≡ drop i (hints_of committed.hints now) → committed.entries ≡ server.committed → committed.hints ≡ server.hints →
    now ≡ site → map hinted_parcel cs ≡ drop i (hinted_entries server.committed server.hints site)
later_hinted cs known committed server now site i lent entries hints same_entries same_hints same =
    parcels_hinted cs ∙ ap (λ (t : Travelling). hinted t.entries t.hints) lent ∙ ap (λ es. hinted es known.hints) entries
    ∙ ap (hinted (drop i (entries_of committed.entries now))) hints ∙ hinted-drop i (entries_of committed.entries now) (hints_of committed.hints now)
    ∙ ap (λ es. drop i (hinted (entries_of es now) (hints_of committed.hints now))) same_entries
    ∙ ap (λ hs. drop i (hinted (entries_of server.committed now) (hints_of hs now))) same_hints
    ∙ ap (λ s. drop i (hinted_entries server.committed server.hints s)) same

-- ---- the first one taken back

pub first_may : (cs : List Parcel) → RevokesRun → 0 < length cs → RunFromPage (map parcel_by_value cs) →
    RunFromOneLength (made_after (map parcel_by_value cs) 0) (reversal (entry_at (map parcel_by_value cs) 0))
first_may cs law some run =
    let long = length-map cs parcel_by_value in
    law (map parcel_by_value cs) 0 run.base (omega (arith, long, some)) run.lawful run.apart run.runs

pub first_is : (cs : List Parcel) → in_conflict (revoke (map parcel_by_value cs) 0) ≡ in_conflict (revoke (unhinted (map hinted_parcel cs)) 0)
first_is cs = ap (λ ps. in_conflict (revoke ps 0)) (sym (parcels_unhinted cs))

pub first_refused : (r : Result (List Transaction) RangeConflict) (why : RevokeFault) → IsRevokeRefusal r why → IsLiveRefusal (in_conflict r) (live_fault why)
first_refused r (fault.Conflict later reversal) h = ap in_conflict h
first_refused r fault.Memory h = tt

-- those before it don't matter
drop_is : (live : Bool) (known : List Hinted) (i : ℕ) → i < length known → EarlierDoNotMatter → EarlierDoNotCount → first_back live i (drop i known) ≡ revocation live known i
drop_is true known i within matter count = count known i within
drop_is false known i within matter count =
    let long = length-map known (λ (e : Hinted). e.txs) in
    ap in_conflict (ap (λ ps. revoke ps 0) (sym (drop-map (λ (e : Hinted). e.txs) i known)) ∙ matter (unhinted known) i (omega (arith, long, within)))

-- ---- what is asked of them

flat_parts : (i : ℕ) (es : List Travelled) → flattened es ≡ flattened (take i es) ++ flattened (drop i es)
flat_parts i es = ap flattened (sym (take-append-drop i es)) ∙ flattened-append (take i es) (drop i es)

module _ (values : List Value) (first : List Item) (server : Serving) (senders : List Sender) (h : IsShared values first server senders) (k : ℕ) (m : Sender) (inside : k < length senders) (is : m ≡ get_or senders k m) where
  abbrev w : Session
  w = session_of values first server senders

  abbrev one : Member
  one = here values first server senders h k m inside is

  abbrev base : List PlainItem
  base = w.base.items

  abbrev known : List Hinted
  known = hinted_entries server.committed server.hints m.site

  holds : MemberHolds base server.committed one
  holds = every_get _ w.members k one h.holds.members (found values first server senders h k m inside is)

  list : m.site.replica.items ≡ list_after known base
  list = list_is base holds.before holds.rest server.committed m.site holds.split holds.site ∙ ap (λ ps. replay (flattened ps) base) (sym (hinted_are server.committed server.hints m.site))

  pub seen_within : m.site.seen ≤ length server.committed
  seen_within =
      let whole = sym (length-append holds.before holds.rest) ∙ ap (λ (ps : List Travelled). length ps) holds.split in
      let before = holds.site.seen in
      omega (arith, whole, before)

  module _ (i : ℕ) (seen : i < m.site.seen) where
    run : RunFrom known i base
    run = known_run base holds.before holds.rest server.committed server.hints i m.site h.holds.sound (seen_runs base server.committed one h.holds.committed holds) holds.split holds.site seen

    module _ (cs : List Parcel) (is_later : map hinted_parcel cs ≡ drop i known) where
      pub some_later : 0 < length cs
      some_later =
          let same = sym (length-map cs hinted_parcel) ∙ ap (λ (es : List Hinted). length es) is_later in
          let rest = length-drop i known in
          let some = run.within in
          omega (arith, same, rest, some)

      pub later_run : RunFromPage (map parcel_by_value cs)
      later_run =
          let ps : List Travelled = unhinted known in
          let parts = AllRun-parts (flattened (take i ps)) (flattened (drop i ps)) base (subst (λ us. AllRun us base) (flat_parts i ps) run.runs) in
          let middle = replay (flattened (take i ps)) base in
          let sound = sound_after (flattened (take i ps)) base run.sound parts.0 in
          let same : drop i ps ≡ map parcel_by_value cs = drop-map (λ (e : Hinted). e.txs) i known ∙ ap unhinted (sym is_later) ∙ parcels_unhinted cs in
          record { base = middle; lawful = sound.lawful; apart = sound.apart; runs = subst (λ es. AllRun (flattened es) middle) same parts.1 }

      module _ (live : Bool) (matter : EarlierDoNotMatter) (count : EarlierDoNotCount) where
        pub later_revoked : first_back live i (map hinted_parcel cs) ≡ revocation live known i
        later_revoked = ap (first_back live i) is_later ∙ drop_is live known i run.within matter count

        module _ (back : List Transaction) (done : first_back live i (map hinted_parcel cs) ≡ Ok back) where
          revoked : revocation live known i ≡ Ok back
          revoked = sym later_revoked ∙ done

          pub back_runs : AllRun back m.site.replica.items
          back_runs = subst (AllRun back) (sym list) (revocation_runs live known i back base run revoked)

          pub revoke_gives : revoke_entry server.committed server.hints live i m.site ≡ Ok (with_entry_against (Some i) back m.site)
          revoke_gives = ap (λ r. revoke_by i r m.site) revoked

          pub back_is : back ≡ revoking server.committed server.hints live i m.site
          back_is = sym (ap back_of revoked)
