-- A session in which one site is changed by a call.
use Rattle.std.proofs.Common.{◌≡◌, ◌<◌, ℕ, zero, suc, List, [], ◌∷◌, ◌++◌, length, set, get_or, Bool, true, Result, Ok, Err, OnOk, OnErr, IfOk, sym, ap, ◌∙◌, subst, arith}
use Rattle.std.proofs.lemmas.List.{get_or-set_same, length-set, set-get_or}
use Rattle.ve_base.specs.declared.value.Value.{Value}
use Rattle.model_items.specs.declared.item.Item.{Item}
use Rattle.model_change.specs.Transaction.{Transaction, InsertedApart, is_reduced}
use Rattle.model_edit.specs.declared.selection.Selection.{Selection}
use Rattle.model_site.specs.Session.{Member, SiteFeed, joining}
use Rattle.model_site.specs.Site.{Site, edit, redo, revoke_entry, send, undo, with_entry, with_selection, with_told}
use Rattle.model_site_law.specs.Sound.{AllMayRun}
use Rattle.ve_server.specs.Serving.{Serving}
use Rattle.ve_sites.specs.IsShared.{IsShared}
use Rattle.ve_site.specs.Attempted.{IsAttempted}
use Rattle.ve_sites.specs.Senders.{HasGone, Sender, at_site, member_of, shared_of}
use Rattle.ve_sites.specs.Shared.{Shared, member_at, site_at, sites, with_member_at, with_site_at}
use Rattle.ve_sites.specs.Turns.{HasSent}
use Rattle.ve_sites.proofs.MemberLemmas.{members_at}
use Rattle.ve_sites.proofs.StayLemmas.{edit_entry, edit_may, member_is, member_put, performs, redoes, revokes, selects, sends_on, site_put, sites_count, tells, undoes}

-- ---- results

pub on_ok : {A E : Type 0} (r : Result A E) (P Q : Type 0) → (P → Q) → OnOk r P → OnOk r Q
on_ok (Ok x) P Q f h = f h
on_ok (Err e) P Q f h = tt

pub if_so : {A E : Type 0} (r : Result A E) (Q : Type 0) → Q → OnOk r Q
if_so (Ok x) Q h = h
if_so (Err e) Q h = tt

pub on_err : {A E : Type 0} (r : Result A E) (P Q : Type 0) → (P → Q) → OnErr r P → OnErr r Q
on_err (Ok x) P Q f h = tt
on_err (Err e) P Q f h = f h

pub if_ok : {A E : Type 0} (r : Result A E) (P Q : A → Type 0) → ((x : A) → P x → Q x) → IfOk r P → IfOk r Q
if_ok (Ok x) P Q f h = f x h
if_ok (Err e) P Q f h = tt

pub either : {A E : Type 0} (r : Result A E) (P Q R : Type 0) → OnOk r P → OnErr r Q → (P → R) → (Q → R) → R
either (Ok x) P Q R h g f k = f h
either (Err e) P Q R h g f k = k g

pub either_if : {A E : Type 0} (r : Result A E) (P : A → Type 0) (Q R : Type 0) → IfOk r P → OnErr r Q → ((x : A) → P x → R) → (Q → R) → R
either_if (Ok x) P Q R h g f k = f x h
either_if (Err e) P Q R h g f k = k g

-- ---- positions

pub room : (now : Shared) (values : List Value) (first : List Item) (server : Serving) (senders : List Sender) (k : ℕ) → IsShared values first server senders →
    shared_of values first server senders ≡ now → k < sites now → k < length senders
room now values first server senders k h view inside = subst (λ n. k < n) (ap sites (sym view) ∙ sites_count values first server senders h) inside

-- the site at k, of a session that is seen as `now`
pub record Placed (now : Shared) (values : List Value) (first : List Item) (server : Serving) (senders : List Sender) (k : ℕ) (m : Sender) : Type 0 where
  pub holds : IsShared values first server senders
  pub view : shared_of values first server senders ≡ now
  pub inside : k < sites now
  pub is : m ≡ get_or senders k m

module _ {now : Shared} {values : List Value} {first : List Item} {server : Serving} {senders : List Sender} {k : ℕ} {m : Sender} (p : Placed now values first server senders k m) where
  pub below : k < length senders
  below = room now values first server senders k p.holds p.view p.inside

  abbrev queue : List SiteFeed
  queue = get_or server.queues k []

  pub member_now : member_at now k ≡ member_of m queue
  member_now = ap (λ s. member_at s k) (sym p.view) ∙ member_is values first server senders p.holds k m below p.is

  pub site_now : site_at now k ≡ m.site
  site_now = ap (λ (n : Member). n.site) member_now

  -- what is asked of the site
  pub asked : (P : Site → Type 0) → P (site_at now k) → P m.site
  asked P h = subst P site_now h

  -- what is told of the site as it was
  pub told : (P : Site → Type 0) → P m.site → P (site_at now k)
  told P h = subst P (sym site_now) h

  -- the session with another in its place
  abbrev pub with_sender : Sender → Shared
  with_sender t = shared_of values first server (set senders k t)

  pub site_then : (t : Sender) → site_at (with_sender t) k ≡ t.site
  site_then t = ap (λ (n : Member). n.site)
      (members_at (set senders k t) server.queues k t (joining (with_sender t).session.base)
      (p.holds.as_many ∙ sym (length-set senders k t)) (subst (λ n. k < n) (sym (length-set senders k t)) below) (sym (get_or-set_same senders k t t below)))

  -- what is told of the site as it was and as it is
  pub told_both : (P : Site → Site → Type 0) (t : Sender) → P m.site t.site → P (site_at now k) (site_at (with_sender t) k)
  told_both P t h = subst (λ s. P s (site_at (with_sender t) k)) (sym site_now) (subst (P m.site) (sym (site_then t)) h)

  pub with_site_is : (t : Sender) (x : Site) → t ≡ at_site x m → with_sender t ≡ with_site_at k x now
  with_site_is t x e = ap with_sender e ∙ (site_put values first server senders p.holds k m below p.is x ∙ ap (with_site_at k x) p.view)

  pub with_its_site : (t : Sender) → t ≡ at_site t.site m → with_sender t ≡ with_site_at k (site_at (with_sender t) k) now
  with_its_site t e = with_site_is t t.site e ∙ ap (λ x. with_site_at k x now) (sym (site_then t))

  as_it_was : (t : Sender) → t ≡ m → set senders k t ≡ senders
  as_it_was t e = ap (set senders k) (e ∙ p.is) ∙ set-get_or senders k m

  pub kept : (t : Sender) → t ≡ m → with_sender t ≡ now
  kept t e = ap (shared_of values first server) (as_it_was t e) ∙ p.view

  abbrev pub Stays : Sender → Type 0
  Stays t = IsShared values first server (set senders k t)

  pub kept_stays : (t : Sender) → t ≡ m → Stays t
  kept_stays t e = subst (IsShared values first server) (sym (as_it_was t e)) p.holds

  -- ---- what each call keeps

  pub settled_stays : (t : Sender) (ts : List Transaction) → AllMayRun ts m.site.replica.items → t ≡ at_site (with_entry ts m.site) m → Stays t
  settled_stays t ts may e = subst Stays (sym e) (performs values first server senders p.holds k m below p.is ts may)

  pub attempted_stays : {Asked : List Transaction → Type 0} (t : Sender) → IsAttempted Asked m.site t.site → t ≡ at_site t.site m → Stays t
  attempted_stays t by same = settled_stays t by.ts by.may (same ∙ ap (λ x. at_site x m) by.site)

  pub edited_stays : (t : Sender) (u : Transaction) → is_reduced u ≡ true → InsertedApart u → edit u m.site ≡ Ok t.site → t ≡ at_site t.site m → Stays t
  edited_stays t u reduced apart done same =
      settled_stays t (u ∷ []) (edit_may u m.site t.site reduced apart done) (same ∙ ap (λ x. at_site x m) (edit_entry u m.site t.site done))

  pub undone_stays : (t : Sender) → undo m.site ≡ Ok t.site → t ≡ at_site t.site m → Stays t
  undone_stays t done same = subst Stays (sym same) (undoes values first server senders p.holds k m below p.is t.site done)

  pub redone_stays : (t : Sender) → redo m.site ≡ Ok t.site → t ≡ at_site t.site m → Stays t
  redone_stays t done same = subst Stays (sym same) (redoes values first server senders p.holds k m below p.is t.site done)

  pub selected_stays : (t : Sender) (s : Selection) → t ≡ at_site (with_selection s m.site) m → Stays t
  selected_stays t s e = subst Stays (sym e) (selects values first server senders p.holds k m below p.is s)

  pub told_stays : (t : Sender) → t ≡ at_site (with_told m.site) m → Stays t
  told_stays t e = subst Stays (sym e) (tells values first server senders p.holds k m below p.is)

  pub revoked_stays : (t : Sender) (live : Bool) (i : ℕ) → i < m.site.seen → revoke_entry server.committed server.hints live i m.site ≡ Ok t.site → t ≡ at_site t.site m → Stays t
  revoked_stays t live i seen done same = subst Stays (sym same) (revokes values first server senders p.holds k m below p.is live i t.site seen done)

  pub gone_stays : (t : Sender) (count : ℕ) → HasGone count m t → Stays t
  gone_stays t count h =
      sends_on values first server senders p.holds k m below p.is t h.submission h.sent (ap (λ (x : Sender). x.number) h.same) (ap (λ (x : Sender). x.submissions) h.same)

  pub has_sent : (t : Sender) (count : ℕ) → HasGone count m t → HasSent k count now (with_sender t)
  has_sent t count h =
      let more = h.submission ∷ [] in
      let site = site_at (with_sender t) k in
      let behind = ap (λ (x : Sender). x.submissions) h.same in
      record {
        submission = h.submission;
        sent = told_both (λ s x. send s ≡ Ok (x, h.submission)) t h.sent;
        counted = h.counted;
        same = member_put values first server senders p.holds k m below p.is t
            ∙ (ap (λ n. with_member_at k n (shared_of values first server senders))
            (ap (λ x. record { site = x; submissions = t.submissions; feeds = queue }) (sym (site_then t))
            ∙ (ap (λ ss. record { site = site; submissions = ss; feeds = queue }) behind
            ∙ ap (λ (n : Member). record { site = site; submissions = n.submissions ++ more; feeds = n.feeds }) (sym member_now)))
            ∙ ap (with_member_at k (record { site = site; submissions = (member_at now k).submissions ++ more; feeds = (member_at now k).feeds })) p.view);
      }

-- ---- two readings of one position

pub one_place : (ss : List Sender) (k : ℕ) (a b : Sender) → k < length ss → a ≡ get_or ss k a → b ≡ get_or ss k b → a ≡ b
one_place [] k a b lt e f = absurd (omega (arith, lt))
one_place (s ∷ ss) zero a b lt e f = e ∙ sym f
one_place (s ∷ ss) (suc k) a b lt e f = one_place ss k a b (omega (arith, lt)) e f
