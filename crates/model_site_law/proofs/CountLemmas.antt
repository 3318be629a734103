-- How many entries a site has seen, and how many sites there are.
use Rattle.std.proofs.Common.{◌≡◌, ℕ, zero, suc, List, [], ◌∷◌, length, replicate, slice_get, Option, Some, None, Result, Ok, Err, refl, ap, ◌∙◌, arith}
use Rattle.std.proofs.lemmas.List.{length-append}
use Rattle.model_site.specs.Entries.{Parcel}
use Rattle.model_site.specs.Events.{Event, Perform, Redo, Revoke, Select, Send, Serve, Take, Tell, Undo, after_turn, at_member, happens, run, with_sent, with_site_of}
use Rattle.model_site.specs.Session.{SiteFeed, Member, Session, all_fed, joining, put_member, serve_first, started, take_first}
use Rattle.model_site.specs.Site.{Site, Submission, redo, revoke_entry, send, undo}
use Rattle.model_site_law.specs.Laws.{SeenIsCommitted, SitesStay}
use Rattle.model_site_law.proofs.LawLemmas.{at_end}

pub seen_is_committed : SeenIsCommitted
seen_is_committed base sites events k m opens may e =
    let h = (at_end base sites events k m opens may e).member in
    let seen = h.site.seen in
    let whole = length-append h.before h.rest in
    let split = ap (λ (ps : List Parcel). length ps) h.split in
    omega arith

-- ---- as many sites

pub length-put : (k : ℕ) (m : Member) (ms : List Member) → length (put_member k m ms) ≡ length ms
length-put k m [] = refl
length-put zero m (n ∷ ms) = refl
length-put (suc k) m (n ∷ ms) = ap (λ l. suc l) (length-put k m ms)

pub length-fed : (sender k : ℕ) (ps : List Parcel) (ms : List Member) → length (all_fed sender k ps ms) ≡ length ms
length-fed sender k ps [] = refl
length-fed sender k ps (m ∷ ms) = ap (λ l. suc l) (length-fed sender (suc k) ps ms)

length-started : (n : ℕ) (m : Member) → length (replicate n m) ≡ n
length-started zero m = refl
length-started (suc n) m = ap (λ l. suc l) (length-started n m)

count_at : (w : Session) (o : Option Member) (f : Member → Session) → ((m : Member) → length (f m).members ≡ length w.members) →
    length (at_member w o f).members ≡ length w.members
count_at w None f h = refl
count_at w (Some m) f h = h m

count_result : {F : Type 0} (w : Session) (k : ℕ) (m : Member) (r : Result Site F) → length (with_site_of k m r w).members ≡ length w.members
count_result w k m (Ok s) = length-put k (record m { site = s }) w.members
count_result w k m (Err f) = refl

count_sent : {F : Type 0} (w : Session) (k : ℕ) (m : Member) (r : Result (Site × Submission) F) → length (with_sent k m r w).members ≡ length w.members
count_sent w k m (Ok r) = length-put k _ w.members
count_sent w k m (Err f) = refl

count_served : (w : Session) (k : ℕ) (m : Member) (ss : List Submission) → length (after_turn w (serve_first k m ss w)).members ≡ length w.members
count_served w k m [] = refl
count_served w k m (s ∷ later) =
    length-fed k 0 _ (put_member k (record m { submissions = later }) w.members) ∙ length-put k (record m { submissions = later }) w.members

count_taken : (w : Session) (k : ℕ) (m : Member) (fs : List SiteFeed) → length (after_turn w (take_first k m fs w)).members ≡ length w.members
count_taken w k m [] = refl
count_taken w k m (f ∷ later) = length-put k _ w.members

count_stays : (w : Session) (e : Event) → length (happens w e).members ≡ length w.members
count_stays w (Perform k ts) = count_at w (slice_get w.members k) _ (λ m. length-put k _ w.members)
count_stays w (Select k s) = count_at w (slice_get w.members k) _ (λ m. length-put k _ w.members)
count_stays w (Tell k) = count_at w (slice_get w.members k) _ (λ m. length-put k _ w.members)
count_stays w (Undo k) = count_at w (slice_get w.members k) _ (λ m. count_result w k m (undo m.site))
count_stays w (Redo k) = count_at w (slice_get w.members k) _ (λ m. count_result w k m (redo m.site))
count_stays w (Revoke k i live) = count_at w (slice_get w.members k) _ (λ m. count_result w k m (revoke_entry w.committed w.hints live i m.site))
count_stays w (Send k) = count_at w (slice_get w.members k) _ (λ m. count_sent w k m (send m.site))
count_stays w (Serve k) = count_at w (slice_get w.members k) _ (λ m. count_served w k m m.submissions)
count_stays w (Take k) = count_at w (slice_get w.members k) _ (λ m. count_taken w k m m.feeds)

run_count : (es : List Event) (w : Session) → length (run w es).members ≡ length w.members
run_count [] w = refl
run_count (e ∷ es) w = run_count es (happens w e) ∙ count_stays w e

pub sites_stay : SitesStay
sites_stay base sites events = run_count events (started base sites) ∙ length-started sites (joining base)
