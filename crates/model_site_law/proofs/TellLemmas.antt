-- A site tells the patches of the transactions that it made since it told last.
use Rattle.std.proofs.Common.{◌≡◌, ◌≤◌, ◌<◌, ℕ, zero, suc, ◌+◌, Bool, true, false, ◌==◌, if◌then◌else◌, eqb-true, List, [], ◌∷◌, ◌++◌, length, take, replicate, slice_get, Option, Some, None, Result, Ok, Err, refl, sym, ap, ◌∙◌, subst, append_assoc, append-nil, arith}
use Rattle.std.proofs.lemmas.Bool.{eqb-false, le-ltb, lt-ltb}
use Rattle.std.proofs.lemmas.List.{length-append, length-take, take_all}
use Rattle.model_change.specs.Replay.{reversal}
use Rattle.model_change.specs.Transaction.{Attribute, Replace, Retain, Transaction, all_inserted, all_removed}
use Rattle.model_site.specs.Entries.{Entry, Parcel}
use Rattle.model_site.specs.Events.{Event, Perform, Redo, Revoke, Select, Send, Serve, Take, Tell, Undo, after_turn, at_member, happens, run, with_sent, with_site_of}
use Rattle.model_site.specs.Live.{RevokeCause, revocation}
use Rattle.model_site.specs.Made.{back_of, redoing, taking_all, taking_one, undoing}
use Rattle.model_site.specs.Replica.{Replica}
use Rattle.model_site.specs.Session.{Ack, SiteFeed, Foreign, Member, Session, all_fed, feed_for, joining, put_member, serve_first, started, take_first}
use Rattle.model_site.specs.Site.{Site, Submission, hinted_entries, init_and_last, redo_first, revoke_by, send_unless, told, undo_last, with_entry, with_entry_against, with_selection, with_told, with_undone}
use Rattle.model_site.specs.Take.{take_ack, take_entry, take_foreign}
use Rattle.model_site.specs.Untold.{Untold, max_patches, passed, patches_from, patches_of}
use Rattle.model_site.specs.declared.patch.Patch.{Patch}
use Rattle.model_site_law.specs.ViewLaws.{PatchesCount, TellsMade, TellsWhatWasMade, all_out, all_put_in, attributes_in, made_among, made_by, opening, since_at, since_told, taking_first}
use Rattle.model_site_law.proofs.SiteLemmas.{with_redone}

-- ---- what patches count

out-append : (ps qs : List Patch) → all_out (ps ++ qs) ≡ all_out ps + all_out qs
out-append [] qs = omega arith
out-append (p ∷ ps) qs = let rest = out-append ps qs in omega arith

put_in-append : (ps qs : List Patch) → all_put_in (ps ++ qs) ≡ all_put_in ps + all_put_in qs
put_in-append [] qs = omega arith
put_in-append (p ∷ ps) qs = let rest = put_in-append ps qs in omega arith

one_out : (at : ℕ) (t : Transaction) → all_out (patches_from at t) ≡ length (all_removed t) + attributes_in t
one_out at [] = refl
one_out at (Retain count ∷ ops) = one_out (at + count) ops
one_out at (Replace removed inserted ∷ ops) =
    let rest = one_out (at + length inserted) ops in
    let sum = length-append removed (all_removed ops) in
    omega arith
one_out at (Attribute change ∷ ops) = let rest = one_out at ops in omega arith

one_put_in : (at : ℕ) (t : Transaction) → all_put_in (patches_from at t) ≡ length (all_inserted t) + attributes_in t
one_put_in at [] = refl
one_put_in at (Retain count ∷ ops) = one_put_in (at + count) ops
one_put_in at (Replace removed inserted ∷ ops) =
    let rest = one_put_in (at + length inserted) ops in
    let sum = length-append inserted (all_inserted ops) in
    omega arith
one_put_in at (Attribute change ∷ ops) = let rest = one_put_in at ops in omega arith

pub patches_count : PatchesCount
patches_count [] = (refl, refl)
patches_count (t ∷ ts) =
    let rest = patches_count ts in
    let out = one_out 0 t in
    let put_in = one_put_in 0 t in
    let out_sum = out-append (patches_from 0 t) (patches_of ts) in
    let put_in_sum = put_in-append (patches_from 0 t) (patches_of ts) in
    let outs = rest.0 in
    let ins = rest.1 in
    (omega arith, omega arith)

-- ---- what a site notes

patches_of-append : (ts us : List Transaction) → patches_of (ts ++ us) ≡ patches_of ts ++ patches_of us
patches_of-append [] us = refl
patches_of-append (t ∷ ts) us = ap (λ r. patches_from 0 t ++ r) (patches_of-append ts us) ∙ sym (append_assoc (patches_from 0 t) (patches_of ts) (patches_of us))

-- cut and cut again
take_again : (n : ℕ) (ps qs : List Patch) → take n (take n ps ++ qs) ≡ take n (ps ++ qs)
take_again zero ps qs = refl
take_again (suc n) [] qs = refl
take_again (suc n) (p ∷ ps) qs = ap (λ r. p ∷ r) (cut n ps qs)
  where
    cut : (n : ℕ) (ps qs : List Patch) → take n (take n ps ++ qs) ≡ take n (ps ++ qs)
    cut zero ps qs = refl
    cut (suc n) [] qs = refl
    cut (suc n) (p ∷ ps) qs = ap (λ r. p ∷ r) (cut n ps qs)

-- the site has noted the patches of these
abbrev pub Notes : List Transaction → Site → Type 0
Notes made s = s.untold.patches ≡ take (suc max_patches) (patches_of made)

passed_notes : (made ts : List Transaction) (u : Untold) → u.patches ≡ take (suc max_patches) (patches_of made) →
    (passed ts u).patches ≡ take (suc max_patches) (patches_of (made ++ ts))
passed_notes made ts u h =
    ap (λ ps. take (suc max_patches) (ps ++ patches_of ts)) h ∙ take_again (suc max_patches) (patches_of made) (patches_of ts)
    ∙ ap (take (suc max_patches)) (sym (patches_of-append made ts))

nothing_made : (made : List Transaction) (s : Site) → Notes made s → Notes (made ++ []) s
nothing_made made s h = subst (λ ts. Notes ts s) (sym (append-nil made)) h

foreign_notes : (ps : List Parcel) (made : List Transaction) (s : Site) → Notes made s → Notes (made ++ taking_all ps s) (take_foreign ps s)
foreign_notes [] made s h = nothing_made made s h
foreign_notes (p ∷ ps) made s h =
    subst (λ ts. Notes ts (take_foreign ps (take_entry p s))) (append_assoc made (taking_one p s) (taking_all ps (take_entry p s)))
    (foreign_notes ps (made ++ taking_one p s) (take_entry p s) (passed_notes made (taking_one p s) s.untold h))

tells_made : (s : Site) (made : List Transaction) → Notes made s → TellsMade s made
tells_made s made h = record { few = few; many = many }
  where
    few : length (patches_of made) ≤ max_patches → told s ≡ patches_of made
    few within =
        let whole : s.untold.patches ≡ patches_of made = h ∙ take_all (suc max_patches) (patches_of made) (omega arith) in
        let long = ap (λ (ps : List Patch). length ps) whole in
        ap (λ b. if b then record { at = 0; removed = s.untold.was; inserted = length s.replica.items } ∷ [] else s.untold.patches)
        (le-ltb max_patches (length s.untold.patches) (omega arith))
        ∙ whole

    many : max_patches < length (patches_of made) → told s ≡ record { at = 0; removed = s.untold.was; inserted = length s.replica.items } ∷ []
    many over =
        let long = ap (λ (ps : List Patch). length ps) h in
        let cut = length-take (suc max_patches) (patches_of made) in
        ap (λ b. if b then record { at = 0; removed = s.untold.was; inserted = length s.replica.items } ∷ [] else s.untold.patches)
        (lt-ltb max_patches (length s.untold.patches) (omega arith))

-- ---- the site at k among all

abbrev Of : (k : ℕ) → List Transaction → List Member → Type 0
Of k made ms = (m : Member) → slice_get ms k ≡ Some m → Notes made m.site

fed_of : (sender from k : ℕ) (ps : List Parcel) (made : List Transaction) (ms : List Member) → Of k made ms → Of k made (all_fed sender from ps ms)
fed_of sender from k ps made [] all m e = cc
fed_of sender from zero ps made (n ∷ ms) all m e =
    subst (λ (v : Member). Notes made v.site) (let same : record n { feeds = n.feeds ++ feed_for sender from ps } ≡ m = cc in same) (all n refl)
fed_of sender from (suc k) ps made (n ∷ ms) all m e = fed_of sender (suc from) k ps made ms all m e

-- the member at j, in whose place another one comes
put_same : (k : ℕ) (m n : Member) (ms : List Member) → slice_get ms k ≡ Some m → slice_get (put_member k n ms) k ≡ Some n
put_same k m n [] e = cc
put_same zero m n (o ∷ ms) e = refl
put_same (suc k) m n (o ∷ ms) e = put_same k m n ms e

put_other : (j k : ℕ) (n : Member) (ms : List Member) → (j ≡ k → ⊥) → slice_get (put_member j n ms) k ≡ slice_get ms k
put_other j k n [] apart = refl
put_other zero zero n (o ∷ ms) apart = absurd (apart refl)
put_other zero (suc k) n (o ∷ ms) apart = refl
put_other (suc j) zero n (o ∷ ms) apart = refl
put_other (suc j) (suc k) n (o ∷ ms) apart = put_other j k n ms (λ e. apart (ap (λ i. suc i) e))

-- where the site at j makes these, what is known of the site at k
made_if : (j k : ℕ) (made ts : List Transaction) (ms : List Member) (n m : Member) → slice_get ms j ≡ Some m → Of k made ms → (Notes made m.site → Notes (made ++ ts) n.site) →
    Of k (made ++ (if j == k then ts else [])) (put_member j n ms)
made_if j k made ts ms n m there all step = by_number (j == k) refl
  where
    by_number : (b : Bool) → (j == k) ≡ b → Of k (made ++ (if b then ts else [])) (put_member j n ms)
    by_number true e v get =
        let same = eqb-true j k e in
        let here : Some n ≡ Some v = sym (put_same j m n ms there) ∙ ap (slice_get (put_member j n ms)) same ∙ get in
        let is_n : n ≡ v = cc in
        subst (λ (x : Member). Notes (made ++ ts) x.site) is_n (step (all m (sym (ap (slice_get ms) same) ∙ there)))
    by_number false e v get =
        nothing_made made v.site (all v (sym (put_other j k n ms (eqb-false j k e)) ∙ get))

module _ (w : Session) (k : ℕ) (made : List Transaction) (all : Of k made w.members) where
  abbrev After : List Transaction → Session → Type 0
  After ts v = Of k ts v.members

  unchanged : (j : ℕ) (ts : List Transaction) (m : Member) → slice_get w.members j ≡ Some m → ts ≡ [] → After (made ++ (if j == k then ts else [])) w
  unchanged j ts m there none v get =
      subst (λ us. Notes us v.site) (sym (ap (λ us. made ++ (if j == k then us else [])) none ∙ ap (λ us. made ++ us) (either (j == k)) ∙ append-nil made)) (all v get)
    where
      either : (b : Bool) → ◌≡◌ {A = List Transaction} (if b then [] else []) []
      either true = refl
      either false = refl

  -- the member that an event is of makes these
  abbrev Making : (j : ℕ) → (Member → List Transaction) → (Member → Session) → Type 0
  Making j makes f = (m : Member) → slice_get w.members j ≡ Some m → After (made ++ (if j == k then makes m else [])) (f m)

  put : (j : ℕ) (m n : Member) (ts : List Transaction) → slice_get w.members j ≡ Some m → (Notes made m.site → Notes (made ++ ts) n.site) →
      After (made ++ (if j == k then ts else [])) (record w { members = put_member j n w.members })
  put j m n ts there step = made_if j k made ts w.members n m there all step

  at_site : (j : ℕ) (e : Event) (f : Member → Session) → Making j (made_by e w) f →
      After (made ++ (if j == k then made_among (slice_get w.members k) e w else [])) (at_member w (slice_get w.members j) f)
  at_site j e f making = by_number (j == k) refl
    where
      by_number : (b : Bool) → (j == k) ≡ b → After (made ++ (if b then made_among (slice_get w.members k) e w else [])) (at_member w (slice_get w.members j) f)
      by_number true d =
          subst (λ o. After (made ++ made_among o e w) (at_member w (slice_get w.members j) f)) (ap (slice_get w.members) (eqb-true j k d)) (by_site (slice_get w.members j) refl)
        where
          by_site : (o : Option Member) → slice_get w.members j ≡ o → After (made ++ made_among o e w) (at_member w o f)
          by_site None g = λ v get. nothing_made made v.site (all v get)
          by_site (Some m) g = subst (λ b. After (made ++ (if b then made_by e w m else [])) (f m)) d (making m g)
      by_number false d = by_site (slice_get w.members j) refl
        where
          by_site : (o : Option Member) → slice_get w.members j ≡ o → After (made ++ []) (at_member w o f)
          by_site None g = λ v get. nothing_made made v.site (all v get)
          by_site (Some m) g = subst (λ b. After (made ++ (if b then made_by e w m else [])) (f m)) d (making m g)

  undo_notes : (j : ℕ) (m : Member) → slice_get w.members j ≡ Some m → (es : List Entry) → After (made ++ (if j == k then undoing es else [])) (with_site_of j m (undo_last es m.site) w)
  undo_notes j m there [] = unchanged j [] m there refl
  undo_notes j m there (x ∷ es) =
      let p = init_and_last x es in
      put j m (record m { site = with_undone p.1 p.0 m.site }) (reversal p.1.txs) there (passed_notes made (reversal p.1.txs) m.site.untold)

  redo_notes : (j : ℕ) (m : Member) → slice_get w.members j ≡ Some m → (us : List Parcel) → After (made ++ (if j == k then redoing us else [])) (with_site_of j m (redo_first us m.site) w)
  redo_notes j m there [] = unchanged j [] m there refl
  redo_notes j m there (ts ∷ us) = put j m (record m { site = with_redone ts us m.site }) ts there (passed_notes made ts m.site.untold)

  revoke_notes : (j i : ℕ) (m : Member) → slice_get w.members j ≡ Some m → (r : Result (List Transaction) RevokeCause) →
      After (made ++ (if j == k then back_of r else [])) (with_site_of j m (revoke_by i r m.site) w)
  revoke_notes j i m there (Err cause) = unchanged j [] m there refl
  revoke_notes j i m there (Ok back) = put j m (record m { site = with_entry_against (Some i) back m.site }) back there (passed_notes made back m.site.untold)

  send_notes : (j : ℕ) (m : Member) → slice_get w.members j ≡ Some m → (o : Option ℕ) (es : List Entry) →
      After (made ++ (if j == k then [] else [])) (with_sent j m (send_unless o es m.site) w)
  send_notes j m there (Some n) es = unchanged j [] m there refl
  send_notes j m there None [] = unchanged j [] m there refl
  send_notes j m there None (x ∷ es) = put j m _ [] there (nothing_made made m.site)

  serve_notes : (j : ℕ) (m : Member) → slice_get w.members j ≡ Some m → (ss : List Submission) → After (made ++ (if j == k then [] else [])) (after_turn w (serve_first j m ss w))
  serve_notes j m there [] = unchanged j [] m there refl
  serve_notes j m there (s ∷ later) = fed_of j 0 k _ (made ++ (if j == k then [] else [])) _ (put j m (record m { submissions = later }) [] there (nothing_made made m.site))

  take_notes : (j : ℕ) (m : Member) → slice_get w.members j ≡ Some m → (fs : List SiteFeed) → After (made ++ (if j == k then taking_first fs m.site else [])) (after_turn w (take_first j m fs w))
  take_notes j m there [] = unchanged j [] m there refl
  take_notes j m there (Foreign ps ∷ fs) = put j m (record m { site = take_foreign ps m.site; feeds = fs }) (taking_all ps m.site) there (foreign_notes ps made m.site)
  take_notes j m there (Ack n ∷ fs) = put j m (record m { site = take_ack m.site; feeds = fs }) [] there (nothing_made made m.site)

  tell_notes : (j : ℕ) → After (if j == k then [] else made) (happens w (Tell j))
  tell_notes j = by_site (slice_get w.members j) refl
    where
      by_site : (o : Option Member) → slice_get w.members j ≡ o → After (if j == k then [] else made) (at_member w o (λ m. record w { members = put_member j (record m { site = with_told m.site }) w.members }))
      by_site None g v get = by_number (j == k) refl
        where
          by_number : (b : Bool) → (j == k) ≡ b → Notes (if b then [] else made) v.site
          by_number true d = absurd (let none : None ≡ Some v = sym g ∙ ap (slice_get w.members) (eqb-true j k d) ∙ get in let no_such : ⊥ = cc in no_such)
          by_number false d = all v get
      by_site (Some m) g v get = by_number (j == k) refl
        where
          n : Member
          n = record m { site = with_told m.site }

          by_number : (b : Bool) → (j == k) ≡ b → Notes (if b then [] else made) v.site
          by_number true d =
              let here : Some n ≡ Some v = sym (put_same j m n w.members g) ∙ ap (slice_get (put_member j n w.members)) (eqb-true j k d) ∙ get in
              let is_n : n ≡ v = cc in
              subst (λ (x : Member). Notes [] x.site) is_n refl
          by_number false d = all v (sym (put_other j k n w.members (eqb-false j k d)) ∙ get)

event_notes : (w : Session) (k : ℕ) (made : List Transaction) (e : Event) → Of k made w.members → Of k (since_at k w e made) (happens w e).members
event_notes w k made (Perform j ts) all =
    at_site w k made all j (Perform j ts) _ (λ m there. put w k made all j m (record m { site = with_entry ts m.site }) ts there (passed_notes made ts m.site.untold))
event_notes w k made (Select j s) all =
    at_site w k made all j (Select j s) _ (λ m there. put w k made all j m (record m { site = with_selection s m.site }) [] there (nothing_made made m.site))
event_notes w k made (Tell j) all = tell_notes w k made all j
event_notes w k made (Undo j) all = at_site w k made all j (Undo j) _ (λ m there. undo_notes w k made all j m there m.site.unsent)
event_notes w k made (Redo j) all = at_site w k made all j (Redo j) _ (λ m there. redo_notes w k made all j m there m.site.undone)
event_notes w k made (Revoke j i live) all =
    at_site w k made all j (Revoke j i live) _ (λ m there. revoke_notes w k made all j i m there (revocation live (hinted_entries w.committed w.hints m.site) i))
event_notes w k made (Send j) all = at_site w k made all j (Send j) _ (λ m there. send_notes w k made all j m there m.site.in_flight m.site.unsent)
event_notes w k made (Serve j) all = at_site w k made all j (Serve j) _ (λ m there. serve_notes w k made all j m there m.submissions)
event_notes w k made (Take j) all = at_site w k made all j (Take j) _ (λ m there. take_notes w k made all j m there m.feeds)

run_notes : (k : ℕ) (es : List Event) (w : Session) (made : List Transaction) → Of k made w.members → Of k (since_told k w es made) (run w es).members
run_notes k [] w made all = all
run_notes k (e ∷ es) w made all = run_notes k es (happens w e) (since_at k w e made) (event_notes w k made e all)

starts_of : (k n : ℕ) (base : Replica) → Of k (opening base) (replicate n (joining base))
starts_of k zero base m e = cc
starts_of zero (suc n) base m e =
    let same : joining base ≡ m = cc in
    subst (λ (v : Member). Notes (opening base) v.site) same (sym (take_all (suc max_patches) (patches_of (opening base)) (omega arith)))
starts_of (suc k) (suc n) base m e = starts_of k n base m e

pub tells_what_was_made : TellsWhatWasMade
tells_what_was_made base sites events k m e =
    let made = since_told k (started base sites) events (opening base) in
    tells_made m.site made (run_notes k events (started base sites) (opening base) (starts_of k sites base) m e)
