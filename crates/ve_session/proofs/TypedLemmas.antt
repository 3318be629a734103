-- A text typed at a caret: one change that is made in place; and one typed over a selection.
use Rattle.std.proofs.Common.{◌≡◌, ◌≢◌, ◌≤◌, ◌+◌, ℕ, Bool, true, false, arith, List, [], ◌∷◌, None, refl, ap, sym, subst, ◌∙◌, eq-eqb, ne_eqb}
use Rattle.std.specs.Prelude.{Ok, if◌then◌else◌}
use Rattle.model_change.specs.Transaction.{Transaction}
use Rattle.model_items.specs.declared.plain_item.PlainItem.{PlainItem}
use Rattle.model_site.specs.Refused.{edit_cause}
use Rattle.model_site.specs.Replica.{Replica}
use Rattle.model_site.specs.Site.{Site, edit, with_entry}
use Rattle.model_site.specs.declared.edit_fault.EditFault.{EditFault}
use Rattle.model_world.specs.declared.edit_command.EditCommand.{EditCommand}
use Rattle.model_world.specs.declared.edit_command.EditCommand.TheVariants as change
use Rattle.model_world.specs.declared.edit_command.TextMarks.TheVariants.{Left}
use Rattle.model_world.specs.declared.command.Request.TheVariants as request
use Rattle.model_world.specs.Answers.{is_collapsed, lower, typed_or_no, typing}
use Rattle.model_world.specs.Edits.{batch_on, change_of, change_on}
use Rattle.model_world.specs.Cost.{cost_of_blank, made_in_turn}
use Rattle.ve_changes.proofs.BatchLemmas.{allowed_is, cost_of_lone, lone_batch, lone_refused, not_allowed, undrafted}
use Rattle.ve_changes.proofs.TypingLemmas.{typing_caret}
use Rattle.ve_changes.specs.Batches.{IsBatchRefused}
use Rattle.ve_changes.specs.declared.batch_stop.BatchStop.{BatchStop}
use Rattle.ve_changes.specs.declared.batch_stop.BatchStop.TheVariants as batch
use Rattle.ve_changes.specs.declared.faults.ChangeStop.{ChangeStop}
use Rattle.ve_changes.specs.declared.faults.ChangeStop.TheVariants as stop
use Rattle.ve_changes.specs.Stops.{IsRefused, edit_stop}
use Rattle.ve_changes.proofs.StopLemmas.{edit_stops}
use Rattle.model_change.specs.Cost.{cost_of_transactions}
use Rattle.ve_editor.specs.Counted.{steps_of_blank}
use Rattle.ve_editor.specs.Refusal.{IsEditRefusal}
use Rattle.ve_session.specs.Asked.{asker, IsStopped}
use Rattle.ve_session.specs.Stopped.{typing_stop}
use Rattle.ve_session.proofs.TurnLemmas.{edit_was}
use Rattle.ve_sites.specs.Shared.{Shared, site_at, with_site_at}

-- what transactions take, and a page without text where no caret is selected
abbrev cost_beside : (caret : Bool) → List Transaction → List PlainItem → ℕ
cost_beside caret ts items = (if caret then 0 else cost_of_blank) + cost_of_transactions ts items

abbrev pub cost_of_typing : Replica → List ℕ → ℕ
cost_of_typing r text = cost_beside (is_collapsed r.selection) (made_in_turn r (typing r.selection text)) r.items

module _ (k : ℕ) (old : Shared) (text : List ℕ) (at : ℕ)
    (caret : (site_at old k).replica.selection.anchor ≡ (site_at old k).replica.selection.focus)
    (here : at ≡ lower (site_at old k).replica.selection) where
  abbrev r : Replica
  r = (site_at old k).replica

  -- what typing is, as one change
  abbrev pub put : EditCommand
  put = change.Text at text Left

  is_typing : put ∷ [] ≡ typing r.selection text
  is_typing = typing_caret r.selection text text at [] (put ∷ []) caret here refl refl refl

  pub typed_batch : (t : Transaction) → change_of r.items put ≡ Ok t → edit_cause t r ≡ None → batch_on r (typing r.selection text) ≡ Ok (t ∷ [])
  typed_batch t means fits = ap (batch_on r) (sym is_typing) ∙ lone_batch r put t (allowed_is r put t means fits)

  stopped : (why : ChangeStop) → IsRefused why (change_on r put) → IsStopped (request.TypeText text) k old why
  stopped (stop.Refused why) e = λ page. ap (typed_or_no (asker page old k)) (ap (batch_on r) (sym is_typing) ∙ lone_refused r put why e)
  stopped stop.Memory e = tt

  -- there is no such change of the list that is borrowed
  pub untyped : (why : ChangeStop) (lent : List PlainItem) → lent ≡ r.items → IsRefused why (change_of lent put) → IsStopped (request.TypeText text) k old why
  untyped why lent items e = stopped why (undrafted r lent put why items e)

  -- and where there is, the site may refuse it
  pub barred_typing : (t : Transaction) (fault : EditFault) → change_of r.items put ≡ Ok t → IsEditRefusal (edit_cause t r) fault →
      IsStopped (request.TypeText text) k old (edit_stop fault)
  barred_typing t fault means e = stopped (edit_stop fault) (not_allowed r put t (edit_stop fault) means (edit_stops fault (edit_cause t r) t e))

  -- nothing is made besides
  pub typing_cost : (t : Transaction) (before after : ℕ) → change_of r.items put ≡ Ok t → edit_cause t r ≡ None → after ≤ before + cost_of_transactions (t ∷ []) r.items →
      after ≤ before + cost_of_typing r text
  typing_cost t before after means fits h =
      let own = cost_of_lone r put t before after (allowed_is r put t means fits) (omega (arith, h)) in
      let in_place : after ≤ before + cost_beside true (made_in_turn r (put ∷ [])) r.items = omega (arith, own) in
      subst (λ b. after ≤ before + cost_beside b (made_in_turn r (typing r.selection text)) r.items) (sym (eq-eqb r.selection.anchor r.selection.focus caret))
      (subst (λ cs. after ≤ before + cost_beside true (made_in_turn r cs) r.items) is_typing in_place)

-- ---- a text typed over a selection: two changes, all or none

module _ (k : ℕ) (old : Shared) (given text : List ℕ) (same : given ≡ text) where
  abbrev s : Site
  s = site_at old k

  pub over_cost : (before after : ℕ) → s.replica.selection.anchor ≢ s.replica.selection.focus →
      after ≤ before + steps_of_blank + cost_of_transactions (made_in_turn s.replica (typing s.replica.selection given)) s.replica.items →
      after ≤ before + cost_of_typing s.replica text
  over_cost before after range h =
      let besides : after ≤ before + cost_beside false (made_in_turn s.replica (typing s.replica.selection given)) s.replica.items = omega (arith, h) in
      subst (λ b. after ≤ before + cost_beside b (made_in_turn s.replica (typing s.replica.selection text)) s.replica.items) (sym (ne_eqb s.replica.selection.anchor s.replica.selection.focus range))
      (subst (λ t. after ≤ before + cost_beside false (made_in_turn s.replica (typing s.replica.selection t)) s.replica.items) same besides)

  pub over_stops : (why : BatchStop) → IsBatchRefused (batch_on s.replica (typing s.replica.selection given)) why → IsStopped (request.TypeText text) k old (typing_stop why)
  over_stops (batch.Refused at why) e = λ page.
      ap (λ t. typed_or_no (asker page old k) (batch_on s.replica (typing s.replica.selection t))) (sym same)
      ∙ ap (typed_or_no (asker page old k)) e
  over_stops batch.Memory e = tt

-- a site that was edited has the transaction as its last entry
pub edited_there : (t : Transaction) (k : ℕ) (old middle : Shared) → edit t (site_at old k) ≡ Ok (site_at middle k) →
    middle ≡ with_site_at k (site_at middle k) old → middle ≡ with_site_at k (with_entry (t ∷ []) (site_at old k)) old
edited_there t k old middle e same = same ∙ ap (λ (s : Site). with_site_at k s old) (edit_was t (site_at old k) (site_at middle k) e).1
