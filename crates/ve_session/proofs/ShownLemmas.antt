-- The reply to a request that changes nothing is its outcome.
use Rattle.std.proofs.Common.{◌≡◌, ℕ, true, false, Bool, refl, ap, ◌∙◌, sym}
use Rattle.std.specs.Prelude.{if◌then◌else◌, List, Result, Ok, Err, IfOk}
use Rattle.model_items.specs.declared.plain_item.PlainItem.{PlainItem}
use Rattle.model_site.specs.Session.{Session}
use Rattle.model_page.specs.PageItems.{Opened}
use Rattle.model_world.specs.declared.command.Request.{Request}
use Rattle.model_world.specs.declared.reply.Reply.{Reply}
use Rattle.model_world.specs.Laws.{is_refusal}
use Rattle.ve_answers.specs.Asked.{outcome_of}
use Rattle.ve_json.specs.declared.answer.Answer.{Answer}
use Rattle.ve_json.specs.Answers.{reply_of, AnswerCites}
use Rattle.ve_session.specs.Asked.{asker, kept_or_new, outcome_completed, IsAnswered}
use Rattle.ve_sites.specs.Shared.{Shared, site_at}

-- a refusal or not, it is the reply, and the session stays
pub stays : (w : Session) (r : Reply) → kept_or_new w (outcome_of w r) ≡ (r, w)
stays w r = by (is_refusal r)
  where
    by : (refuses : Bool) → kept_or_new w (if refuses then Err r else Ok (r, w)) ≡ (r, w)
    by true = refl
    by false = refl

pub is_shown : (r : Request) (k : ℕ) (s : Shared) (answer : Answer) (reply : Reply) →
    ((page : Opened) → outcome_completed (asker page s k) r ≡ outcome_of s.session reply) → reply_of answer ≡ reply → AnswerCites answer → IsAnswered r k s answer s
is_shown r k s answer reply asks is cites = record {
  replies = λ page. ap (kept_or_new s.session) (asks page) ∙ stays s.session reply ∙ ap (λ (x : Reply). (x, s.session)) (sym is);
  first = refl;
  base = refl;
  cites = cites;
}

-- a reply that is told of the items that the site lends
pub shown_over : (r : Request) (k : ℕ) (s : Shared) (told : List PlainItem → Reply) (lent : List PlainItem) →
    ((page : Opened) → outcome_completed (asker page s k) r ≡ outcome_of s.session (told (site_at s k).replica.items)) → lent ≡ (site_at s k).replica.items →
    (answer : Answer) → reply_of answer ≡ told lent → AnswerCites answer → IsAnswered r k s answer s
shown_over r k s told lent asks same answer is cites = is_shown r k s answer (told (site_at s k).replica.items) asks (is ∙ ap told same) cites

pub ok_both : {A E : Type 0} (P Q R : A → Type 0) (r : Result A E) → ((x : A) → P x → Q x → R x) → IfOk r P → IfOk r Q → IfOk r R
ok_both P Q R (Ok x) f p q = f x p q
ok_both P Q R (Err e) f p q = tt
