-- The invariant of a session's fields, after each event of one site.
use Rattle.std.proofs.Common.{◌≡◌, ◌<◌, ℕ, List, [], ◌∷◌, ◌++◌, length, set, get_or, slice_get, Bool, Option, Some, None, Ok, true, refl, sym, ap, ◌∙◌, subst}
use Rattle.std.proofs.lemmas.List.{length-set}
use Rattle.ve_base.specs.declared.value.Value.{Value}
use Rattle.model_items.specs.declared.item.Item.{Item}
use Rattle.model_change.specs.Transaction.{Transaction, InsertedApart, is_reduced}
use Rattle.model_edit.specs.declared.selection.Selection.{Selection}
use Rattle.model_site.specs.Causes.{EditCause}
use Rattle.model_site.specs.Events.{Perform, Select, Undo, Redo, Revoke, Send, Tell, at_member, with_sent, with_site, with_site_of}
use Rattle.model_site.specs.Refused.{edit_cause}
use Rattle.model_site.specs.Session.{Member, Session, joining, with_member}
use Rattle.model_site.specs.Site.{Site, Submission, edit, edit_unless, redo, revoke_entry, send, undo, with_entry, with_selection, with_told}
use Rattle.model_site_law.specs.Protocol.{SessionHolds}
use Rattle.model_site_law.specs.Sound.{AllMayRun}
use Rattle.model_site_law.proofs.EditLemmas.{edit_may_run}
use Rattle.model_site_law.proofs.ServeLemmas.{event_holds}
use Rattle.ve_server.specs.Serving.{Serving}
use Rattle.ve_sites.specs.IsShared.{IsShared}
use Rattle.ve_sites.specs.Senders.{Sender, at_site, member_of, session_of, shared_of}
use Rattle.ve_sites.specs.Shared.{Shared, member_at, site_at, sites, with_member_at, with_site_at}
use Rattle.ve_sites.proofs.MemberLemmas.{members_at, members_count, members_found, members_put, numbered_put}

-- what a site did not refuse may be performed
pub edit_may : (t : Transaction) (s next : Site) → is_reduced t ≡ true → InsertedApart t → edit t s ≡ Ok next → AllMayRun (t ∷ []) s.replica.items
edit_may t s next reduced apart done = by_cause (edit_cause t s.replica) refl done
  where
    by_cause : (o : Option EditCause) → edit_cause t s.replica ≡ o → edit_unless o t s ≡ Ok next → AllMayRun (t ∷ []) s.replica.items
    by_cause (Some why) e done = cc
    by_cause None e done = (edit_may_run t s.replica reduced apart e, tt)

pub edit_entry : (t : Transaction) (s next : Site) → edit t s ≡ Ok next → next ≡ with_entry (t ∷ []) s
edit_entry t s next done = by_cause (edit_cause t s.replica) done
  where
    by_cause : (o : Option EditCause) → edit_unless o t s ≡ Ok next → next ≡ with_entry (t ∷ []) s
    by_cause (Some why) done = cc
    by_cause None done = cc

-- ---- the member at a position

module _ (values : List Value) (first : List Item) (server : Serving) (senders : List Sender) (h : IsShared values first server senders) where
  abbrev old : Shared
  old = shared_of values first server senders

  abbrev w : Session
  w = session_of values first server senders

  pub sites_count : sites old ≡ length senders
  sites_count = members_count senders server.queues h.as_many

  module _ (k : ℕ) (m : Sender) (inside : k < length senders) (is : m ≡ get_or senders k m) where
    abbrev pub here : Member
    here = member_of m (get_or server.queues k [])

    pub found : slice_get w.members k ≡ Some here
    found = members_found senders server.queues k m h.as_many inside is

    pub member_is : member_at old k ≡ here
    member_is = members_at senders server.queues k m (joining w.base) h.as_many inside is

    pub site_is : site_at old k ≡ m.site
    site_is = ap (λ (n : Member). n.site) member_is

    put_in : (t : Sender) → session_of values first server (set senders k t) ≡ with_member k (member_of t (get_or server.queues k [])) w
    put_in t = ap (λ ms. record w { members = ms }) (members_put senders server.queues k t h.as_many inside)

    -- with another sender under the same number in its place
    pub member_put : (t : Sender) → shared_of values first server (set senders k t) ≡ with_member_at k (member_of t (get_or server.queues k [])) old
    member_put t = ap (λ s. record { first = first; session = s }) (put_in t)

    pub site_put : (x : Site) → shared_of values first server (set senders k (at_site x m)) ≡ with_site_at k x old
    site_put x = member_put (at_site x m) ∙ ap (λ (n : Member). with_member_at k (record n { site = x }) old) (sym member_is)

    pub stays : (t : Sender) → t.number ≡ m.number → SessionHolds (with_member k (member_of t (get_or server.queues k [])) w) → IsShared values first server (set senders k t)
    stays t number holds = record {
      as_many = h.as_many ∙ sym (length-set senders k t);
      numbers = numbered_put 0 senders k m t h.numbers is number;
      cites = h.cites;
      holds = subst SessionHolds (sym (put_in t)) holds;
    }

    this_one : (n : Member) → slice_get w.members k ≡ Some n → here ≡ n
    this_one n e = let f = found in cc

    -- ---- events

    pub performs : (ts : List Transaction) → AllMayRun ts m.site.replica.items → IsShared values first server (set senders k (at_site (with_entry ts m.site) m))
    performs ts may = stays (at_site (with_entry ts m.site) m) refl (
        subst SessionHolds (ap (λ o. at_member w o (λ n. with_site k n (with_entry ts n.site) w)) found)
        (event_holds w (Perform k ts) h.holds (λ n e. subst (λ (x : Member). AllMayRun ts x.site.replica.items) (this_one n e) may)))

    pub selects : (s : Selection) → IsShared values first server (set senders k (at_site (with_selection s m.site) m))
    selects s = stays (at_site (with_selection s m.site) m) refl (
        subst SessionHolds (ap (λ o. at_member w o (λ n. with_site k n (with_selection s n.site) w)) found)
        (event_holds w (Select k s) h.holds tt))

    pub tells : IsShared values first server (set senders k (at_site (with_told m.site) m))
    tells = stays (at_site (with_told m.site) m) refl (
        subst SessionHolds (ap (λ o. at_member w o (λ n. with_site k n (with_told n.site) w)) found)
        (event_holds w (Tell k) h.holds tt))

    pub undoes : (x : Site) → undo m.site ≡ Ok x → IsShared values first server (set senders k (at_site x m))
    undoes x done = stays (at_site x m) refl (
        subst SessionHolds (ap (λ o. at_member w o (λ n. with_site_of k n (undo n.site) w)) found ∙ ap (λ r. with_site_of k here r w) done)
        (event_holds w (Undo k) h.holds tt))

    pub redoes : (x : Site) → redo m.site ≡ Ok x → IsShared values first server (set senders k (at_site x m))
    redoes x done = stays (at_site x m) refl (
        subst SessionHolds (ap (λ o. at_member w o (λ n. with_site_of k n (redo n.site) w)) found ∙ ap (λ r. with_site_of k here r w) done)
        (event_holds w (Redo k) h.holds tt))

    pub revokes : (live : Bool) (i : ℕ) (x : Site) → i < m.site.seen → revoke_entry server.committed server.hints live i m.site ≡ Ok x → IsShared values first server (set senders k (at_site x m))
    revokes live i x seen done = stays (at_site x m) refl (
        subst SessionHolds (ap (λ o. at_member w o (λ n. with_site_of k n (revoke_entry w.committed w.hints live i n.site) w)) found ∙ ap (λ r. with_site_of k here r w) done)
        (event_holds w (Revoke k i live) h.holds (λ n e. subst (λ (x : Member). i < x.site.seen) (this_one n e) seen)))

    pub sends_on : (t : Sender) (submission : Submission) → send m.site ≡ Ok (t.site, submission) → t.number ≡ m.number → t.submissions ≡ m.submissions ++ submission ∷ [] →
        IsShared values first server (set senders k t)
    sends_on t submission done number behind = stays t number (
        subst SessionHolds
        (ap (λ o. at_member w o (λ n. with_sent k n (send n.site) w)) found ∙ ap (λ r. with_sent k here r w) done
        ∙ ap (λ ss. with_member k (record { site = t.site; submissions = ss; feeds = get_or server.queues k [] }) w) (sym behind))
        (event_holds w (Send k) h.holds tt))
