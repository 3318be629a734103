-- Several changes that a site takes as one.
use Rattle.std.proofs.Common.{◌≡◌, ◌<◌, ℕ, zero, suc, List, [], ◌∷◌, length, Ok, refl, ap, sym, subst, ◌∙◌}
use Rattle.model_change.specs.Transaction.{Transaction}
use Rattle.model_edit.specs.Translate.{between}
use Rattle.model_site.specs.Replica.{Replica, all_performed}
use Rattle.model_site.specs.Session.{Member, put_member}
use Rattle.model_site.specs.Site.{Site, with_entry}
use Rattle.model_site_law.specs.SelectionLaws.{StandsIn}
use Rattle.model_world.specs.declared.edit_command.EditCommand.{EditCommand}
use Rattle.model_world.specs.Answers.{after_text}
use Rattle.model_world.specs.Edits.{batch_on}
use Rattle.ve_site.specs.Attempted.{IsAttempted}
use Rattle.ve_sites.specs.Shared.{Shared, site_at, sites, with_site_at}
use Rattle.ve_session.proofs.TurnLemmas.{site_put}

put_length : (ms : List Member) (k : ℕ) (m : Member) → length (put_member k m ms) ≡ length ms
put_length [] k m = refl
put_length (n ∷ ms) zero m = refl
put_length (n ∷ ms) (suc k) m = ap (λ l. suc l) (put_length ms k m)

-- there is still such a site
pub still_there : (k : ℕ) (site : Site) (old new : Shared) → new ≡ with_site_at k site old → k < sites old → k < sites new
still_there k site old new e within =
    subst (λ (x : Shared). k < sites x) (sym e) (subst (λ n. k < n) (sym (put_length old.session.members k _)) within)

-- The session has these transactions as a new entry of the site.
pub attempted : {Asked : List Transaction → Type 0} (k : ℕ) (old new : Shared) (by : IsAttempted Asked (site_at old k) (site_at new k)) → new ≡ with_site_at k (site_at new k) old →
    new ≡ with_site_at k (with_entry by.ts (site_at old k)) old
attempted k old new by same = same ∙ ap (λ (s : Site). with_site_at k s old) by.site

-- the changes of the batch are those that are asked for
pub batch_meant : (r : Replica) (given changes : List EditCommand) (ts : List Transaction) → given ≡ changes → batch_on r given ≡ Ok ts → batch_on r changes ≡ Ok ts
batch_meant r given changes ts same is = subst (λ cs. batch_on r cs ≡ Ok ts) same is

-- the caret stands where the text is put
pub caret_there : (k : ℕ) (old middle : Shared) (ts : List Transaction) (caret : ℕ) → k < sites old →
    middle ≡ with_site_at k (with_entry ts (site_at old k)) old → caret ≡ after_text ts →
    StandsIn (all_performed ts (site_at old k).replica).items (between (after_text ts) (after_text ts)) →
    StandsIn (site_at middle k).replica.items (between caret caret)
caret_there k old middle ts caret within e at stands =
    subst (λ n. StandsIn (site_at middle k).replica.items (between n n)) (sym at)
    (subst (λ (s : Site). StandsIn s.replica.items (between (after_text ts) (after_text ts)))
    (sym (ap (λ (x : Shared). site_at x k) e ∙ site_put old k (with_entry ts (site_at old k)) within)) stands)
