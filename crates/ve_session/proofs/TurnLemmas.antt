-- The session after the turn of a site is the model's.
use Rattle.std.proofs.Common.{◌≡◌, ◌<◌, ℕ, zero, suc, List, [], ◌∷◌, length, refl, ap, sym, ◌∙◌, arith, Option, Some, None}
use Rattle.std.specs.Prelude.{Result, Ok, Err, slice_index_or}
use Rattle.model_change.specs.Transaction.{Transaction}
use Rattle.model_page.specs.PageItems.{Opened}
use Rattle.model_site.specs.Causes.{EditCause}
use Rattle.model_site.specs.Refused.{edit_cause}
use Rattle.model_site.specs.Session.{Member, Session, put_member}
use Rattle.model_site.specs.Site.{Site, edit, edit_unless, with_entry}
use Rattle.model_world.specs.declared.command.Request.{Request}
use Rattle.model_world.specs.declared.refusal.Refusal.{Refusal}
use Rattle.model_world.specs.declared.reply.Reply.{Reply}
use Rattle.model_world.specs.declared.reply.Reply.TheVariants.{Length}
use Rattle.model_world.specs.Answers.{changed_or_no, performed_or_no}
use Rattle.model_world.specs.Edits.{checked_transaction, unless_faulty}
use Rattle.ve_changes.specs.declared.faults.ChangeStop.{ChangeStop}
use Rattle.ve_changes.specs.declared.faults.ChangeStop.TheVariants as stop
use Rattle.ve_changes.specs.Stops.{IsRefused}
use Rattle.ve_json.specs.declared.answer.Answer.{Answer}
use Rattle.ve_json.specs.declared.answer.Answer.TheVariants as answer
use Rattle.ve_session.specs.Asked.{asker, kept_or_new, outcome_completed, IsAnswered, IsPerformed, IsStopped}
use Rattle.ve_sites.specs.Shared.{Shared, member_at, site_at, sites, with_member_at, with_site_at}

-- ---- members put into position

pub put_there : (ms : List Member) (k : ℕ) (m d : Member) → k < length ms → slice_index_or (put_member k m ms) k d ≡ m
put_there [] k m d within = absurd (let none : ⊥ = omega (arith, within) in none)
put_there (n ∷ ms) zero m d within = refl
put_there (n ∷ ms) (suc k) m d within = put_there ms k m d (omega (arith, within))

pub put_again : (ms : List Member) (k : ℕ) (m n : Member) → put_member k n (put_member k m ms) ≡ put_member k n ms
put_again [] k m n = refl
put_again (x ∷ ms) zero m n = refl
put_again (x ∷ ms) (suc k) m n = ap (λ (l : List Member). x ∷ l) (put_again ms k m n)

pub member_put : (s : Shared) (k : ℕ) (m : Member) → k < sites s → member_at (with_member_at k m s) k ≡ m
member_put s k m within = put_there s.session.members k m _ within

pub site_put : (s : Shared) (k : ℕ) (site : Site) → k < sites s → site_at (with_site_at k site s) k ≡ site
site_put s k site within = ap (λ (m : Member). m.site) (member_put s k (record (member_at s k) { site = site }) within)

-- ---- a site that has become another

module _ (old new : Shared) (k : ℕ) (same : new ≡ with_site_at k (site_at new k) old) where
  pub first_stays : new.first ≡ old.first
  first_stays = ap (λ (s : Shared). s.first) same

  pub base_stays : new.session.base ≡ old.session.base
  base_stays = ap (λ (s : Shared). s.session.base) same

  pub told_there : (count : ℕ) → count ≡ length (site_at new k).replica.items →
      ◌≡◌ {A = Reply × Session} (Length (length (site_at new k).replica.items), (with_site_at k (site_at new k) old).session) (Length count, new.session)
  told_there count counted =
      ap (λ n. (Length n, (with_site_at k (site_at new k) old).session)) (sym counted) ∙ ap (λ (s : Shared). (Length count, s.session)) (sym same)

  pub is_changed : (r : Request) (given : Result Site Refusal) (count : ℕ) →
      ((page : Opened) → outcome_completed (asker page old k) r ≡ changed_or_no (asker page old k) given) → given ≡ Ok (site_at new k) →
      count ≡ length (site_at new k).replica.items → IsAnswered r k old (answer.Length count) new
  is_changed r given count asks gives counted = record {
    replies = λ page.
        ap (kept_or_new old.session) (asks page)
        ∙ ap (λ g. kept_or_new old.session (changed_or_no (asker page old k) g)) gives
        ∙ told_there count counted;
    first = first_stays;
    base = base_stays;
    cites = tt;
  }

pub is_refused : (r : Request) (old : Shared) (k : ℕ) (given : Result Site Refusal) (why : Refusal) →
    ((page : Opened) → outcome_completed (asker page old k) r ≡ changed_or_no (asker page old k) given) → given ≡ Err why → IsStopped r k old (stop.Refused why)
is_refused r old k given why asks gives = λ page. asks page ∙ ap (changed_or_no (asker page old k)) gives

-- ---- a transaction that is performed

-- a site that was edited has the transaction as a new entry, and nothing barred it
pub edit_was : (t : Transaction) (s new : Site) → edit t s ≡ Ok new → (edit_cause t s.replica ≡ None) × (new ≡ with_entry (t ∷ []) s)
edit_was t s new e = by (edit_cause t s.replica) refl
  where
    by : (c : Option EditCause) → edit_cause t s.replica ≡ c → (edit_cause t s.replica ≡ None) × (new ≡ with_entry (t ∷ []) s)
    by None is = let done : Ok (with_entry (t ∷ []) s) ≡ Ok new = sym (ap (λ c. edit_unless c t s) is) ∙ e in (is, cc)
    by (Some c) is = let done : Err c ≡ Ok new = sym (ap (λ c. edit_unless c t s) is) ∙ e in cc

pub is_performed : (t : Transaction) (k : ℕ) (old new : Shared) (count : ℕ) → edit t (site_at old k) ≡ Ok (site_at new k) →
    new ≡ with_site_at k (site_at new k) old → count ≡ length (site_at new k).replica.items → IsPerformed t k old (answer.Length count) new
is_performed t k old new count e same counted =
    let was = edit_was t (site_at old k) (site_at new k) e in record {
      replies = λ page.
          ap (λ c. kept_or_new old.session (performed_or_no (asker page old k) (unless_faulty c t))) was.0
          ∙ ap (λ (s : Site). (Length (length s.replica.items), (with_site_at k s old).session)) (sym was.1)
          ∙ told_there old new k same count counted;
      first = first_stays old new k same;
      base = base_stays old new k same;
      cites = tt;
    }

-- a request that is answered by performing the transaction that is meant, where it may be
module _ (r : Request) (k : ℕ) (old : Shared) (meant : Result Transaction Refusal)
    (asks : (page : Opened) → outcome_completed (asker page old k) r ≡ performed_or_no (asker page old k) (checked_transaction (site_at old k).replica meant)) where
  pub answered_by : (t : Transaction) (a : Answer) (new : Shared) → meant ≡ Ok t → IsPerformed t k old a new → IsAnswered r k old a new
  answered_by t a new means is = record {
    replies = λ page.
        ap (kept_or_new old.session) (asks page ∙ ap (λ m. performed_or_no (asker page old k) (checked_transaction (site_at old k).replica m)) means)
        ∙ is.replies page;
    first = is.first;
    base = is.base;
    cites = is.cites;
  }

  -- nothing is meant
  pub unmeant : (why : ChangeStop) → IsRefused why meant → IsStopped r k old why
  unmeant (stop.Refused why) e = λ page. asks page ∙ ap (λ m. performed_or_no (asker page old k) (checked_transaction (site_at old k).replica m)) e
  unmeant stop.Memory e = tt

  -- what is meant isn't performed
  pub barred : (t : Transaction) (why : ChangeStop) → meant ≡ Ok t → IsRefused why (checked_transaction (site_at old k).replica (Ok t)) → IsStopped r k old why
  barred t (stop.Refused why) means e = λ page.
      asks page
      ∙ ap (λ m. performed_or_no (asker page old k) (checked_transaction (site_at old k).replica m)) means
      ∙ ap (performed_or_no (asker page old k)) e
  barred t stop.Memory means e = tt
