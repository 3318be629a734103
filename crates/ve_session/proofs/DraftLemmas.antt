-- A draft that a request is, performed at a site.
use Rattle.std.proofs.Common.{◌≡◌, ◌≤◌, ◌+◌, ℕ, true, List, length, refl, ap, sym, subst, ◌∙◌}
use Rattle.std.specs.Prelude.{nat_le, Result, Ok, Err, IfOk, IfErr}
use Rattle.ve_base.specs.declared.value.Value.{Value}
use Rattle.model_change.specs.Transaction.{Transaction}
use Rattle.model_edit.specs.declared.selection.Selection.{Selection}
use Rattle.model_edit.specs.declared.selection.By.{By}
use Rattle.model_edit.specs.declared.selection.Dir.{Dir}
use Rattle.model_items.specs.declared.plain_item.PlainItem.{PlainItem}
use Rattle.model_page.specs.PageItems.{Opened}
use Rattle.model_site.specs.Session.{Member, Session}
use Rattle.model_site_law.specs.Sound.{Sound}
use Rattle.model_world.specs.declared.edit_command.EditCommand.TheVariants as change
use Rattle.model_world.specs.declared.command.Request.{Request}
use Rattle.model_world.specs.declared.command.Request.TheVariants as request
use Rattle.model_world.specs.declared.refusal.Refusal.{Refusal}
use Rattle.model_world.specs.Answers.{Asked, request_outcome, erased_or_no, higher, lower, performed_or_no, to_erase}
use Rattle.model_world.specs.Edits.{checked_transaction, change_of}
use Rattle.model_world.specs.Refusals.{refused_as}
use Rattle.model_world.specs.Cost.{erasing}
use Rattle.model_world_law.specs.Fit.{Fit, MovesFit}
use Rattle.ve_changes.specs.declared.faults.ChangeStop.{ChangeStop}
use Rattle.ve_changes.specs.Carets.{range_to_erase}
use Rattle.ve_changes.specs.Drafts.{IsDrafted}
use Rattle.ve_changes.specs.Moves.{is_move, moved_by}
use Rattle.ve_changes.specs.Stops.{IsRefused}
use Rattle.ve_tx.specs.declared.draft.Draft.{Draft}
use Rattle.ve_session.specs.Asked.{asker, cost_completed, outcome_completed, IsStopped}
use Rattle.ve_session.proofs.CostLemmas.{cost_in_place, cost_of_made}
use Rattle.ve_session.proofs.TurnLemmas.{unmeant}
use Rattle.ve_sites.specs.Shared.{Shared, member_at, site_at}

-- what holds of each value that a call may give holds of the one that it gives
pub ok_as : {A E : Type 0} (P Q : A → Type 0) (r : Result A E) → ((x : A) → P x → Q x) → IfOk r P → IfOk r Q
ok_as P Q (Ok x) f p = f x p
ok_as P Q (Err e) f p = tt

pub err_as : {A E : Type 0} (P Q : E → Type 0) (r : Result A E) → ((e : E) → P e → Q e) → IfErr r P → IfErr r Q
err_as P Q (Ok x) f p = tt
err_as P Q (Err e) f p = f e p

-- a draft over what a site lends is one over the site's values and items
pub drafted_at : (meant : List PlainItem → Result Transaction Refusal) (values store : List Value) (lent items : List PlainItem) (d : Draft) →
    values ≡ store → lent ≡ items → IsDrafted values (meant lent) d → IsDrafted store (meant items) d
drafted_at meant values store lent items d same as_lent is =
    subst (λ (l : List PlainItem). IsDrafted store (meant l) d) as_lent (subst (λ (v : List Value). IsDrafted v (meant lent) d) same is)

-- ---- what is moved

was_ok : {E : Type 0} (named : E → Refusal) (r : Result Transaction E) (t : Transaction) → refused_as named r ≡ Ok t → r ≡ Ok t
was_ok named (Ok u) t e = let same : u ≡ t = cc in ap (λ v. Ok v) same
was_ok named (Err f) t e = cc

pub move_fits : MovesFit → (items : List PlainItem) (r : Request) (t : Transaction) → is_move r ≡ true → Sound items → moved_by items r ≡ Ok t → Fit t
move_fits laws items (request.RowIn at row) t is sound e = laws.row_in items at row t sound (was_ok _ _ t e)
move_fits laws items (request.RowOut at row) t is sound e = laws.row_out items at row t sound (was_ok _ _ t e)
move_fits laws items (request.ColIn at column) t is sound e = laws.col_in items at column t sound (was_ok _ _ t e)
move_fits laws items (request.ColOut at column) t is sound e = laws.col_out items at column t sound (was_ok _ _ t e)
move_fits laws items (request.Indent at) t is sound e = laws.indent items at t sound (was_ok _ _ t e)
move_fits laws items (request.Outdent at) t is sound e = laws.outdent items at t sound (was_ok _ _ t e)
move_fits laws items request.Html t is sound e = cc
move_fits laws items request.Tree t is sound e = cc
move_fits laws items request.Refs t is sound e = cc
move_fits laws items request.Caret t is sound e = cc
move_fits laws items request.Undo t is sound e = cc
move_fits laws items request.Redo t is sound e = cc
move_fits laws items request.Send t is sound e = cc
move_fits laws items request.Serve t is sound e = cc
move_fits laws items request.Take t is sound e = cc
move_fits laws items request.Tell t is sound e = cc
move_fits laws items (request.ShowItems from to) t is sound e = cc
move_fits laws items (request.At at) t is sound e = cc
move_fits laws items (request.Near at dir) t is sound e = cc
move_fits laws items (request.Edit change) t is sound e = cc
move_fits laws items (request.Batch cmds) t is sound e = cc
move_fits laws items (request.Select anchor focus) t is sound e = cc
move_fits laws items (request.Move dir by keep) t is sound e = cc
move_fits laws items (request.TypeText text) t is sound e = cc
move_fits laws items (request.Erase dir by) t is sound e = cc
move_fits laws items (request.Grid at) t is sound e = cc
move_fits laws items (request.Revoke entry live) t is sound e = cc

pub move_costs : (r : Request) (w : Session) (m : Member) → is_move r ≡ true →
    cost_completed w m r ≡ cost_in_place (checked_transaction m.site.replica (moved_by m.site.replica.items r)) m.site.replica.items
move_costs (request.RowIn at row) w m is = refl
move_costs (request.RowOut at row) w m is = refl
move_costs (request.ColIn at column) w m is = refl
move_costs (request.ColOut at column) w m is = refl
move_costs (request.Indent at) w m is = refl
move_costs (request.Outdent at) w m is = refl
move_costs request.Html w m is = cc
move_costs request.Tree w m is = cc
move_costs request.Refs w m is = cc
move_costs request.Caret w m is = cc
move_costs request.Undo w m is = cc
move_costs request.Redo w m is = cc
move_costs request.Send w m is = cc
move_costs request.Serve w m is = cc
move_costs request.Take w m is = cc
move_costs request.Tell w m is = cc
move_costs (request.ShowItems from to) w m is = cc
move_costs (request.At at) w m is = cc
move_costs (request.Near at dir) w m is = cc
move_costs (request.Edit change) w m is = cc
move_costs (request.Batch cmds) w m is = cc
move_costs (request.Select anchor focus) w m is = cc
move_costs (request.Move dir by keep) w m is = cc
move_costs (request.TypeText text) w m is = cc
move_costs (request.Erase dir by) w m is = cc
move_costs (request.Grid at) w m is = cc
move_costs (request.Revoke entry live) w m is = cc

-- what is moved takes nothing from the page as it was first read
pub move_same : (a : Asked) (r : Request) → is_move r ≡ true → outcome_completed a r ≡ request_outcome a r
move_same a (request.RowIn at row) is = refl
move_same a (request.RowOut at row) is = refl
move_same a (request.ColIn at column) is = refl
move_same a (request.ColOut at column) is = refl
move_same a (request.Indent at) is = refl
move_same a (request.Outdent at) is = refl
move_same a request.Html is = refl
move_same a request.Tree is = refl
move_same a request.Refs is = refl
move_same a request.Caret is = refl
move_same a request.Undo is = refl
move_same a request.Redo is = refl
move_same a request.Send is = refl
move_same a request.Serve is = refl
move_same a request.Take is = refl
move_same a request.Tell is = refl
move_same a (request.ShowItems from to) is = refl
move_same a (request.At at) is = refl
move_same a (request.Near at dir) is = refl
move_same a (request.Edit change) is = cc
move_same a (request.Batch cmds) is = cc
move_same a (request.Select anchor focus) is = refl
move_same a (request.Move dir by keep) is = refl
move_same a (request.TypeText text) is = refl
move_same a (request.Erase dir by) is = refl
move_same a (request.Grid at) is = refl
move_same a (request.Revoke entry live) is = refl

-- ---- what is erased

pub erased_at : (k : ℕ) (old : Shared) (dir : Dir) (by : By) (lent : List PlainItem) (selection s : Selection) →
    lent ≡ (site_at old k).replica.items → selection ≡ (site_at old k).replica.selection → range_to_erase lent selection dir by ≡ Ok s →
    to_erase (site_at old k).replica dir by ≡ Ok s
erased_at k old dir by lent selection s items selected e =
    subst (λ (l : List PlainItem). range_to_erase l (site_at old k).replica.selection dir by ≡ Ok s) items
    (subst (λ (x : Selection). range_to_erase lent x dir by ≡ Ok s) selected e)

module _ (k : ℕ) (old : Shared) (dir : Dir) (by : By) (s : Selection) (e : to_erase (site_at old k).replica dir by ≡ Ok s)
    (from to : ℕ) (first : from ≡ lower s) (last : to ≡ higher s) where
  same_change : change.Remove (lower s) (higher s) ≡ change.Remove from to
  same_change = ap (λ n. change.Remove n (higher s)) (sym first) ∙ ap (λ n. change.Remove from n) (sym last)

  pub erases : (page : Opened) → outcome_completed (asker page old k) (request.Erase dir by)
      ≡ performed_or_no (asker page old k) (checked_transaction (site_at old k).replica (change_of (site_at old k).replica.items (change.Remove from to)))
  erases page =
      ap (erased_or_no (asker page old k)) e
      ∙ ap (λ c. performed_or_no (asker page old k) (checked_transaction (site_at old k).replica (change_of (site_at old k).replica.items c))) same_change

  pub erase_cost : (before after : ℕ) → after ≤ before + cost_in_place (checked_transaction (site_at old k).replica (change_of (site_at old k).replica.items (change.Remove from to))) (site_at old k).replica.items →
      after ≤ before + cost_completed old.session (member_at old k) (request.Erase dir by)
  erase_cost before after h =
      let r = (site_at old k).replica in
      subst (λ m. after ≤ before + cost_of_made (nat_le 2 (length (erasing r m))) (erasing r m) r.items) (sym e)
      (subst (λ c. after ≤ before + cost_in_place (checked_transaction r (change_of r.items c)) r.items) (sym same_change) h)

  pub unerased : (why : ChangeStop) (lent : List PlainItem) → lent ≡ (site_at old k).replica.items → IsRefused why (change_of lent (change.Remove from to)) →
      IsStopped (request.Erase dir by) k old why
  unerased why lent same is =
      unmeant (request.Erase dir by) k old (change_of (site_at old k).replica.items (change.Remove from to)) erases why
      (subst (λ (l : List PlainItem). IsRefused why (change_of l (change.Remove from to))) same is)
