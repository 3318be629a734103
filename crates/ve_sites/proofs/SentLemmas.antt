-- A submission behind those that wait.
use Rattle.std.proofs.Common.{◌≡◌, ℕ, Bool, true, List, [], ◌∷◌, ◌++◌, length, map, Ok, if◌then◌else◌, sym, ap, ◌∙◌}
use Rattle.std.proofs.lemmas.List.{map-append}
use Rattle.model_site.specs.Site.{send}
use Rattle.ve_server.specs.Fed.{submission_of}
use Rattle.ve_server.specs.declared.feed.Submit.{Submit}
use Rattle.ve_site.specs.Numbered.{Numbered}
use Rattle.ve_sites.specs.Senders.{HasGone, Sender, sender_of}

pub gone : (old : Sender) (s now : Numbered) (waiting all : List Submit) (submit : Submit) (count : ℕ) (pushed : Bool) → sender_of s waiting ≡ old →
    send s.site ≡ Ok (now.site, submission_of submit) → now.number ≡ s.number → all ≡ (if pushed then waiting ++ submit ∷ [] else waiting) → pushed ≡ true →
    count ≡ length submit.parcels.entries → HasGone count old (sender_of now all)
gone old s now waiting all submit count pushed view done number items ok counted =
    let behind : map submission_of all ≡ old.submissions ++ submission_of submit ∷ [] =
    ap (map submission_of) (items ∙ ap (λ (b : Bool). if b then waiting ++ submit ∷ [] else waiting) ok)
    ∙ (map-append submission_of waiting (submit ∷ []) ∙ ap (λ (x : Sender). x.submissions ++ submission_of submit ∷ []) view) in
    record {
      submission = submission_of submit;
      sent = ap (λ (x : Sender). send x.site) (sym view) ∙ done;
      counted = counted;
      same = ap (λ n. record { number = n; site = now.site; submissions = map submission_of all }) (number ∙ ap (λ (x : Sender). x.number) view)
          ∙ ap (λ ss. record { number = old.number; site = now.site; submissions = ss }) behind;
    }
