-- Queues are staged and released one after the other; entries by value are flattened.
use Rattle.std.proofs.Common.{◌≡◌, ℕ, zero, suc, ◌+◌, ◌-◌, ◌<◌, ◌≤◌, List, [], ◌∷◌, ◌++◌, length, map, take, drop, set, get_or, replicate, Option, Some, None, Bor, option_map, ◌↔◌, refl, sym, ap, subst, ◌∙◌, arith}
use Rattle.std.specs.Option.{IfSome, IsSome, option_copied}
use Rattle.std.proofs.lemmas.Grind.{replicate_next}
use Rattle.std.proofs.lemmas.List.{map-set, map-append, get_or-map, take_all, take-append-drop, drop_all, append-nil, drop-map, length-drop, length-map}
use Rattle.model_change.specs.Replay.{flattened}
use Rattle.model_site.specs.Entries.{Hints, Parcel}
use Rattle.model_site.specs.Site.{Submission}
use Rattle.model_site.specs.Joined.{join_entries}
use Rattle.model_site.specs.Session.{SiteFeed, feed_for, accepted_of}
use Rattle.ve_tx.specs.declared.parcel.Parcel.{Parcel as SentParcel}
use Rattle.ve_tx.specs.ByValue.{parcel_by_value}
use Rattle.ve_rebase.specs.Entries.{outline, parcels_by_value}
use Rattle.ve_rebase.specs.Lists.{RunFromOneLength}
use Rattle.ve_rebase.specs.Until.{joined_until}
use Rattle.ve_server.specs.declared.feed.Feed.{Feed}
use Rattle.ve_server.specs.Fed.{feed_of}
use Rattle.ve_server.specs.Serving.{Serving, all_queued, first_of, first_feed, after_serving}
use Rattle.ve_server.specs.Travelling.{Travelling, travel_with, travelling}
use Rattle.ve_server.specs.Waiting.{Waiting, feeds_in, released, all_staged}

flattened_by_value : (ps : List SentParcel) → parcels_by_value ps ≡ flattened (map parcel_by_value ps)
flattened_by_value [] = refl
flattened_by_value (p ∷ ps) = ap (λ ts. parcel_by_value p ++ ts) (flattened_by_value ps)

-- ---- what is accepted

committed_since : (base : ℕ) (ps : List SentParcel) (committed : List Parcel) → map parcel_by_value ps ≡ committed →
    parcels_by_value (take (length ps - base) (drop base ps)) ≡ flattened (drop base committed)
committed_since base ps committed e =
    ap parcels_by_value (take_all (length ps - base) (drop base ps) (omega (arith, length-drop base ps)))
    ∙ (flattened_by_value (drop base ps) ∙ ap flattened (sym (drop-map parcel_by_value base ps) ∙ ap (drop base) e))

pub may_join : (base : ℕ) (ps ms : List SentParcel) (committed entries : List Parcel) → map parcel_by_value ps ≡ committed → map parcel_by_value ms ≡ entries →
    RunFromOneLength (flattened (drop base committed)) (flattened entries) → RunFromOneLength (parcels_by_value (take (length ps - base) (drop base ps))) (parcels_by_value ms)
may_join base ps ms committed entries e f run =
    subst (λ xs. RunFromOneLength xs (parcels_by_value ms)) (sym (committed_since base ps committed e))
    (subst (RunFromOneLength (flattened (drop base committed))) (sym (flattened_by_value ms ∙ ap flattened f)) run)

pub is_accepted : (base : ℕ) (ps ms : List SentParcel) (committed entries : List Parcel) (taken : Hints) → map parcel_by_value ps ≡ committed → map parcel_by_value ms ≡ entries →
    joined_until (take (length ps - base) (drop base ps)) ms ≡ accepted_of committed (record { base = base; entries = entries; hints = taken })
is_accepted base ps ms committed entries taken e f =
    ap (λ xs. join_entries xs (map parcel_by_value ms)) (committed_since base ps committed e) ∙ ap (join_entries (flattened (drop base committed))) f

-- what parcels take back, by what stays of them
of_outlines : (ps qs : List SentParcel) → map outline ps ≡ map outline qs → (travelling ps).hints ≡ (travelling qs).hints
of_outlines ps qs e = sym (told ps) ∙ (ap (map (λ (o : ℕ × SentParcel). o.1.entry.takes_back)) e ∙ told qs)
  where
    told : (rs : List SentParcel) → map (λ (o : ℕ × SentParcel). o.1.entry.takes_back) (map outline rs) ≡ (travelling rs).hints
    told [] = refl
    told (r ∷ rs) = ap (λ hs. r.entry.takes_back ∷ hs) (told rs)

first_hints : (n : ℕ) (ps : List SentParcel) → (travelling (take n ps)).hints ≡ take n (travelling ps).hints
first_hints zero ps = refl
first_hints (suc n) [] = refl
first_hints (suc n) (p ∷ ps) = ap (λ hs. p.entry.takes_back ∷ hs) (first_hints n ps)

pub kept_hints : (made sent : Travelling) (kept mine : List SentParcel) → made ≡ travelling kept → travelling mine ≡ sent →
    map outline kept ≡ map outline (take (length kept) mine) → made.hints ≡ take (length made.entries) sent.hints
kept_hints made sent kept mine is of e =
    ap (λ t. t.hints) is
    ∙ (of_outlines kept (take (length kept) mine) e
    ∙ (first_hints (length kept) mine
    ∙ (ap (λ n. take n (travelling mine).hints) (sym (length-map kept parcel_by_value) ∙ ap (λ t. length t.entries) (sym is))
    ∙ ap (λ t. take (length made.entries) t.hints) of)))

-- ---- staging

pub staged_keep : (sender k : ℕ) (entries : List Parcel) (ws : List Waiting) → feeds_in (all_staged sender k entries ws) ≡ feeds_in ws
staged_keep sender k entries [] = refl
staged_keep sender k entries (w ∷ ws) = ap (λ qs. w.feeds ∷ qs) (staged_keep sender (suc k) entries ws)

-- the first k queues are staged, and the others as they were
abbrev pub staged_to : (sender : ℕ) → List Parcel → List Waiting → ℕ → List Waiting
staged_to sender entries ws k = all_staged sender 0 entries (take k ws) ++ drop k ws

one_staged : (sender j n k : ℕ) (entries : List Parcel) (ws : List Waiting) (d w : Waiting) → n ≡ j + k → k < length ws →
    w.feeds ≡ (get_or ws k d).feeds → w.staged ≡ feed_for sender n entries →
    set (all_staged sender j entries (take k ws) ++ drop k ws) k w ≡ all_staged sender j entries (take (suc k) ws) ++ drop (suc k) ws
one_staged sender j n zero entries (v ∷ vs) d w e lt f s =
    let same : n ≡ j = omega arith in
    ap (λ q. q ∷ vs) (ap (λ fs. record { feeds = fs; staged = w.staged }) f ∙ ap (λ fs. record { feeds = v.feeds; staged = fs }) (s ∙ ap (λ m. feed_for sender m entries) same))
one_staged sender j n (suc k) entries (v ∷ vs) d w e lt f s =
    ap (λ qs. record { feeds = v.feeds; staged = feed_for sender j entries } ∷ qs) (one_staged sender (suc j) n k entries vs d w (omega arith) (omega arith) f s)
one_staged sender j n k entries [] d w e lt f s = absurd (omega arith)

kept_after : (sender j k : ℕ) (entries : List Parcel) (ws : List Waiting) (d : Waiting) → get_or (all_staged sender j entries (take k ws) ++ drop k ws) k d ≡ get_or ws k d
kept_after sender j zero entries ws d = refl
kept_after sender j (suc k) entries [] d = refl
kept_after sender j (suc k) entries (w ∷ ws) d = kept_after sender (suc j) k entries ws d

pub staged_next : (sender k : ℕ) (entries : List Parcel) (old now : List Waiting) (v w : Waiting) → now ≡ staged_to sender entries old k → k < length old →
    w.feeds ≡ (get_or now k v).feeds → w.staged ≡ feed_for sender k entries → set now k w ≡ staged_to sender entries old (k + 1)
staged_next sender k entries old now v w is lt f s =
    let e : suc k ≡ k + 1 = omega arith in
    ap (λ qs. set qs k w) is
    ∙ (one_staged sender 0 k k entries old v w (omega arith) lt (f ∙ ap (λ q. q.feeds) (ap (λ qs. get_or qs k v) is ∙ kept_after sender 0 k entries old v)) s
    ∙ ap (staged_to sender entries old) e)

pub staged_all : (sender k : ℕ) (entries : List Parcel) (old : List Waiting) → length old ≤ k → staged_to sender entries old k ≡ all_staged sender 0 entries old
staged_all sender k entries old end =
    ap (λ qs. all_staged sender 0 entries qs ++ drop k old) (take_all k old end) ∙ (ap (λ qs. all_staged sender 0 entries old ++ qs) (drop_all k old end) ∙ append-nil (all_staged sender 0 entries old))

-- while queues are staged, what can be taken of them stays
pub feeds_stay : (sender k : ℕ) (entries : List Parcel) (old : List Waiting) → feeds_in (staged_to sender entries old k) ≡ feeds_in old
feeds_stay sender k entries old = staying 0 k old
  where
    staying : (j n : ℕ) (ws : List Waiting) → feeds_in (all_staged sender j entries (take n ws) ++ drop n ws) ≡ feeds_in ws
    staying j zero ws = refl
    staying j (suc n) [] = refl
    staying j (suc n) (w ∷ ws) = ap (λ qs. w.feeds ∷ qs) (staying (suc j) n ws)

pub feeds_put : (k : ℕ) (ws : List Waiting) (v w : Waiting) → w.feeds ≡ (get_or ws k v).feeds → feeds_in (set ws k w) ≡ feeds_in ws
feeds_put k [] v w f = refl
feeds_put zero (x ∷ xs) v w f = ap (λ q. q ∷ feeds_in xs) f
feeds_put (suc k) (x ∷ xs) v w f = ap (λ qs. x.feeds ∷ qs) (feeds_put k xs v w f)

pub released_are_queued : (sender k : ℕ) (entries : List Parcel) (ws : List Waiting) → feeds_in (map released (all_staged sender k entries ws)) ≡ all_queued sender k entries (feeds_in ws)
released_are_queued sender k entries [] = refl
released_are_queued sender k entries (w ∷ ws) = ap (λ qs. (w.feeds ++ feed_for sender k entries) ∷ qs) (released_are_queued sender (suc k) entries ws)

-- ---- one queue

pub all_ready : (n ready : ℕ) (feeds : List Feed) → n ≡ length feeds →
    ◌≡◌ {A = Waiting} (record { feeds = map feed_of (take n feeds); staged = map feed_of (drop n feeds) })
    (record { feeds = map feed_of (take ready feeds) ++ map feed_of (drop ready feeds); staged = [] })
all_ready n ready feeds e =
    let all : map feed_of (take n feeds) ≡ map feed_of (take ready feeds) ++ map feed_of (drop ready feeds) =
    ap (map feed_of) (take_all n feeds (omega arith)) ∙ (ap (map feed_of) (sym (take-append-drop ready feeds)) ∙ map-append feed_of (take ready feeds) (drop ready feeds)) in
    let none : map feed_of (drop n feeds) ≡ [] = ap (map feed_of) (drop_all n feeds (omega arith)) in
    ap (λ fs. record { feeds = fs; staged = map feed_of (drop n feeds) }) all
    ∙ ap (λ fs. record { feeds = map feed_of (take ready feeds) ++ map feed_of (drop ready feeds); staged = fs }) none

pub is_fed : (k : ℕ) (committed : List Parcel) (taken : Hints) (ws : List Waiting) (v w : Waiting) (next : Option SiteFeed) → k < length ws → v ≡ get_or ws k v →
    (next, w.feeds) ≡ first_of v.feeds →
    ◌≡◌ {A = Option SiteFeed × Serving} (next, record { committed = committed; hints = taken; queues = feeds_in (set ws k w) }) (first_feed k (record { committed = committed; hints = taken; queues = feeds_in ws }))
is_fed k committed taken ws v w next lt read e =
    let there : v.feeds ≡ get_or (feeds_in ws) k [] = ap (λ q. q.feeds) read ∙ sym (get_or-map (λ (q : Waiting). q.feeds) ws k v [] lt) in
    let left : Option SiteFeed × List SiteFeed → Option SiteFeed × Serving = λ r. (r.0, record { committed = committed; hints = taken; queues = set (feeds_in ws) k r.1 }) in
    ap (λ qs. (next, record { committed = committed; hints = taken; queues = qs })) (map-set (λ (q : Waiting). q.feeds) ws k w) ∙ ap left (e ∙ ap first_of there)

-- the first feed of the deque, where one is ready
pub first_lent : (r : Option (Bor Feed)) (ready n : ℕ) (feeds : List Feed) → 0 < ready → ready ≤ length feeds → n ≡ length feeds → (IsSome r ↔ (0 < n)) →
    IfSome r (λ x. x.now ≡ get_or feeds 0 x.now) → option_map feed_of (option_copied r) ≡ (first_of (map feed_of (take ready feeds))).0
first_lent r zero n feeds some within count is at = absurd (omega (arith, some))
first_lent r (suc k) n [] some within count is at = absurd (omega (arith, within))
first_lent None (suc k) n (f ∷ fs) some within count is at = let e = is.1 (omega (arith, count)) in cc
first_lent (Some x) (suc k) n (f ∷ fs) some within count is at = ap (λ y. Some (feed_of y)) at

pub is_next : (k : ℕ) (committed : List Parcel) (taken : Hints) (ws : List Waiting) (v : Waiting) (next : Option SiteFeed) → k < length ws → v ≡ get_or ws k v →
    next ≡ (first_of v.feeds).0 → next ≡ (first_feed k (record { committed = committed; hints = taken; queues = feeds_in ws })).0
is_next k committed taken ws v next lt read e =
    e ∙ ap (λ q. (first_of q).0) (ap (λ q. q.feeds) read ∙ sym (get_or-map (λ (q : Waiting). q.feeds) ws k v [] lt))

pub one_more : (n : ℕ) (ws : List Waiting) (w : Waiting) → feeds_in ws ≡ replicate n [] → w.feeds ≡ [] → feeds_in (ws ++ w ∷ []) ≡ replicate (n + 1) []
one_more n ws w e f =
    map-append (λ (q : Waiting). q.feeds) ws (w ∷ []) ∙ (ap (λ qs. qs ++ w.feeds ∷ []) e ∙ (ap (λ fs. replicate n [] ++ fs ∷ []) f ∙ sym (replicate_next n [])))

-- ---- all queues

pub is_served : (sender : ℕ) (s : Submission) (committed kept after : Travelling) (old staged new : List Waiting) →
    kept.entries ≡ (accepted_of committed.entries s).kept → kept.hints ≡ take (length kept.entries) s.hints → after ≡ travel_with committed kept →
    staged ≡ all_staged sender 0 kept.entries old → new ≡ map released staged →
    ◌≡◌ {A = Serving} (record { committed = after.entries; hints = after.hints; queues = feeds_in new })
    (after_serving sender s (record { committed = committed.entries; hints = committed.hints; queues = feeds_in old }))
is_served sender s committed kept after old staged new k h a f r =
    let fed_all : List Parcel → Serving = λ more. record {
      committed = committed.entries ++ more;
      hints = committed.hints ++ take (length more) s.hints;
      queues = all_queued sender 0 more (feeds_in old);
    } in
    ap (λ qs. record { committed = after.entries; hints = after.hints; queues = feeds_in qs }) (r ∙ ap (map released) f)
    ∙ (ap (λ (cs : Travelling). record { committed = cs.entries; hints = cs.hints; queues = feeds_in (map released (all_staged sender 0 kept.entries old)) }) a
    ∙ (ap (λ hs. record { committed = committed.entries ++ kept.entries; hints = committed.hints ++ hs; queues = feeds_in (map released (all_staged sender 0 kept.entries old)) }) h
    ∙ (ap (λ qs. record { committed = committed.entries ++ kept.entries; hints = committed.hints ++ take (length kept.entries) s.hints; queues = qs }) (released_are_queued sender 0 kept.entries old)
    ∙ ap fed_all k)))
