-- A selection that is set, and a text that is typed.
use Rattle.std.proofs.Common.{◌≡◌, ◌<◌, ℕ, Bool, List, length, ap, sym, ◌∙◌}
use Rattle.std.specs.Prelude.{if◌then◌else◌, Ok}
use Rattle.model_change.specs.Transaction.{Transaction}
use Rattle.model_edit.specs.declared.selection.Selection.{Selection}
use Rattle.model_edit.specs.declared.selection.Dir.{Dir}
use Rattle.model_edit.specs.declared.selection.By.{By}
use Rattle.model_edit.specs.Translate.{between}
use Rattle.model_page.specs.PageItems.{Opened}
use Rattle.model_site.specs.Session.{Member}
use Rattle.model_site.specs.Site.{Site, with_entry, with_selection}
use Rattle.model_world.specs.declared.command.Request.{Request}
use Rattle.model_world.specs.declared.command.Request.TheVariants as request
use Rattle.model_world.specs.declared.reply.Reply.TheVariants as reply
use Rattle.model_world.specs.Answers.{after_text, batch_or_no, moved_or_no, next_place, selection_outcome, typed_or_no, typing}
use Rattle.model_world.specs.Edits.{batch_on}
use Rattle.ve_json.specs.declared.answer.Answer.TheVariants as answer
use Rattle.ve_session.specs.Asked.{asker, kept_or_new, outcome_completed, IsAnswered}
use Rattle.ve_session.proofs.TurnLemmas.{member_put, put_again, site_put}
use Rattle.ve_sites.specs.Shared.{Shared, member_at, site_at, sites, with_member_at, with_site_at}

-- a selection is set, and told
pub is_selected : (r : Request) (k : ℕ) (old new : Shared) (s : Selection) →
    ((page : Opened) → outcome_completed (asker page old k) r ≡ selection_outcome (asker page old k) s) →
    new ≡ with_site_at k (with_selection s (site_at old k)) old → IsAnswered r k old (answer.Caret s.anchor s.focus) new
is_selected r k old new s asks same = record {
  replies = λ page. ap (kept_or_new old.session) (asks page) ∙ ap (λ (x : Shared). (reply.Caret s.anchor s.focus, x.session)) (sym same);
  first = ap (λ (x : Shared). x.first) same;
  base = ap (λ (x : Shared). x.session.base) same;
  cites = tt;
}

-- the focus moves to its next position
pub moves : (k : ℕ) (old : Shared) (dir : Dir) (by : By) (keep : Bool) (at : ℕ) →
    next_place (site_at old k).replica.items (site_at old k).replica.selection.focus dir by ≡ Ok at → (page : Opened) →
    outcome_completed (asker page old k) (request.Move dir by keep)
    ≡ selection_outcome (asker page old k) (between (if keep then (site_at old k).replica.selection.anchor else at) at)
moves k old dir by keep at e page = ap (moved_or_no (asker page old k) keep) e

-- ---- several changes

-- another site, and then another again
pub site_put_again : (k : ℕ) (s t : Site) (old : Shared) → k < sites old → with_site_at k t (with_site_at k s old) ≡ with_site_at k t old
site_put_again k s t old within =
    ap (λ (m : Member). with_member_at k (record m { site = t }) (with_site_at k s old)) (member_put old k (record (member_at old k) { site = s }) within)
    ∙ ap (λ (ms : List Member). record old { session = record old.session { members = ms } }) (put_again old.session.members k (record (member_at old k) { site = s }) (record (member_at old k) { site = t }))

module _ (k : ℕ) (old new : Shared) (ts : List Transaction) (within : k < sites old) where
  pub is_batched : (r : Request) (count : ℕ) →
      ((page : Opened) → outcome_completed (asker page old k) r ≡ batch_or_no (asker page old k) (Ok ts)) →
      new ≡ with_site_at k (with_entry ts (site_at old k)) old → count ≡ length (site_at new k).replica.items →
      IsAnswered r k old (answer.Length count) new
  is_batched r count asks same counted = record {
    replies = λ page.
        ap (kept_or_new old.session) (asks page)
        ∙ ap (λ n. (reply.Length n, (with_site_at k (with_entry ts (site_at old k)) old).session)) (sym (counted ∙ there))
        ∙ ap (λ (x : Shared). (reply.Length count, x.session)) (sym same);
    first = ap (λ (x : Shared). x.first) same;
    base = ap (λ (x : Shared). x.session.base) same;
    cites = tt;
  }
    where
      there : length (site_at new k).replica.items ≡ length (with_entry ts (site_at old k)).replica.items
      there = ap (λ (x : Shared). length (site_at x k).replica.items) same ∙ ap (λ (s : Site). length s.replica.items) (site_put old k (with_entry ts (site_at old k)) within)

  pub is_typed : (text : List ℕ) (middle : Shared) (count : ℕ) → batch_on (site_at old k).replica (typing (site_at old k).replica.selection text) ≡ Ok ts →
      middle ≡ with_site_at k (with_entry ts (site_at old k)) old →
      new ≡ with_site_at k (with_selection (between (after_text ts) (after_text ts)) (site_at middle k)) middle →
      count ≡ length (site_at new k).replica.items → IsAnswered (request.TypeText text) k old (answer.Length count) new
  is_typed text middle count means settled same counted =
      let entry = with_entry ts (site_at old k) in
      let caret = between (after_text ts) (after_text ts) in
      let was : site_at middle k ≡ entry = ap (λ (x : Shared). site_at x k) settled ∙ site_put old k entry within in
      let is : new ≡ with_site_at k (with_selection caret entry) old =
      same ∙ ap (λ (s : Site). with_site_at k (with_selection caret s) middle) was
      ∙ ap (with_site_at k (with_selection caret entry)) settled ∙ site_put_again k entry (with_selection caret entry) old within in
      let there : length (site_at new k).replica.items ≡ length entry.replica.items =
      ap (λ (x : Shared). length (site_at x k).replica.items) is ∙ ap (λ (s : Site). length s.replica.items) (site_put old k (with_selection caret entry) within) in
      record {
        replies = λ page.
            ap (λ r. kept_or_new old.session (typed_or_no (asker page old k) r)) means
            ∙ ap (λ n. (reply.Length n, (with_site_at k (with_selection caret entry) old).session)) (sym (counted ∙ there))
            ∙ ap (λ (x : Shared). (reply.Length count, x.session)) (sym is);
        first = ap (λ (x : Shared). x.first) is;
        base = ap (λ (x : Shared). x.session.base) is;
        cites = tt;
      }
