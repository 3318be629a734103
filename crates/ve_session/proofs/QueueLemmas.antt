-- Turns between a site and the server are answered as the model answers them.
use Rattle.std.proofs.Common.{◌≡◌, ℕ, List, [], ◌∷◌, ap, sym, ◌∙◌, Option, Some, None}
use Rattle.std.specs.Prelude.{Ok}
use Rattle.model_site.specs.declared.served.Served.{Served}
use Rattle.model_site.specs.declared.taken.Taken.{Taken}
use Rattle.model_site.specs.Replica.{Replica}
use Rattle.model_site.specs.Session.{Member, Session, SiteFeed, serve_first, serve_next, take_first, take_next}
use Rattle.model_site.specs.Site.{Submission}
use Rattle.model_world.specs.declared.command.Request.TheVariants as request
use Rattle.model_world.specs.declared.refusal.Refusal.TheVariants.{NothingQueued}
use Rattle.model_world.specs.declared.reply.Reply.TheVariants as reply
use Rattle.model_world.specs.Answers.{ranges, sent_or_no, served_or_no, taken_or_no, taken_reply}
use Rattle.model_world.specs.Refusals.{refused_as, send_refusal}
use Rattle.ve_changes.specs.declared.faults.ChangeStop.TheVariants as stop
use Rattle.ve_json.specs.declared.answer.Answer.{Answer}
use Rattle.ve_json.specs.declared.answer.Answer.TheVariants as answer
use Rattle.ve_json.specs.Answers.{reply_of, AnswerCites}
use Rattle.ve_session.specs.Asked.{asker, kept_or_new, IsAnswered, IsStopped}
use Rattle.ve_sites.specs.Shared.{Shared, member_at, site_at}
use Rattle.ve_sites.specs.Turns.{HasSent}

pub is_sent : (k count : ℕ) (old new : Shared) → HasSent k count old new → IsAnswered request.Send k old (answer.Sent count) new
is_sent k count old new h = record {
  replies = λ page.
      ap (λ r. kept_or_new old.session (sent_or_no (asker page old k) (refused_as send_refusal r))) h.sent
      ∙ ap (λ n. (reply.Sent n, (kept_or_new old.session (sent_or_no (asker page old k) (Ok (site_at new k, h.submission)))).1)) (sym h.counted)
      ∙ ap (λ (s : Shared). (reply.Sent count, s.session)) (sym h.same);
  first = ap (λ (s : Shared). s.first) h.same;
  base = ap (λ (s : Shared). s.session.base) h.same;
  cites = tt;
}

-- ---- the server's turn

-- the base of the session after a turn, where there was one
abbrev base_in : {A : Type 0} → Replica → Option (Session × A) → Replica
base_in base None = base
base_in base (Some x) = x.0.base

serve_base : (k : ℕ) (m : Member) (queued : List Submission) (w : Session) (x : Session × Served) → serve_first k m queued w ≡ Some x → x.0.base ≡ w.base
serve_base k m [] w x e = ap (base_in w.base) (sym e)
serve_base k m (s ∷ later) w x e = ap (base_in w.base) (sym e)

pub is_served : (k : ℕ) (old new : Shared) (served : Served) → Some (new.session, served) ≡ serve_next k (member_at old k) old.session → new.first ≡ old.first →
    (clash : _) → clash ≡ ranges served.clash → IsAnswered request.Serve k old (answer.Served served.accepted served.total clash) new
is_served k old new served e first clash is = record {
  replies = λ page.
      ap (λ o. kept_or_new old.session (served_or_no o)) (sym e)
      ∙ ap (λ c. (reply.Served served.accepted served.total c, new.session)) (sym is);
  first = first;
  base = serve_base k (member_at old k) (member_at old k).submissions old.session (new.session, served) (sym e);
  cites = tt;
}

pub none_served : (k : ℕ) (old : Shared) → None ≡ serve_next k (member_at old k) old.session → IsStopped request.Serve k old (stop.Refused NothingQueued)
none_served k old e = λ page. ap served_or_no (sym e)

-- ---- a site's turn

take_base : (k : ℕ) (m : Member) (feeds : List SiteFeed) (w : Session) (x : Session × Taken) → take_first k m feeds w ≡ Some x → x.0.base ≡ w.base
take_base k m [] w x e = ap (base_in w.base) (sym e)
take_base k m (f ∷ later) w x e = ap (base_in w.base) (sym e)

pub is_taken : (k : ℕ) (old new : Shared) (taken : Taken) (told : Answer) → Some (new.session, taken) ≡ take_next k (member_at old k) old.session → new.first ≡ old.first →
    reply_of told ≡ taken_reply taken → AnswerCites told → IsAnswered request.Take k old told new
is_taken k old new taken told e first is cites = record {
  replies = λ page.
      ap (λ o. kept_or_new old.session (taken_or_no o)) (sym e)
      ∙ ap (λ r. (r, new.session)) (sym is);
  first = first;
  base = take_base k (member_at old k) (member_at old k).feeds old.session (new.session, taken) (sym e);
  cites = cites;
}

pub none_taken : (k : ℕ) (old : Shared) → None ≡ take_next k (member_at old k) old.session → IsStopped request.Take k old (stop.Refused NothingQueued)
none_taken k old e = λ page. ap taken_or_no (sym e)
