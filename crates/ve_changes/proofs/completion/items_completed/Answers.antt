use Rattle.std.proofs.Common.{ℕ, length, List, Result, sym, ap, ◌∙◌, subst, arith}
use Rattle.std.proofs.lemmas.List.{nil_from_length}
use Rattle.model_items.specs.declared.plain_item.PlainItem.{PlainItem}
use Rattle.model_world.specs.Completed.{all_completed}
use Rattle.model_world.specs.Completed as model
use Rattle.ve_changes.specs.Completions.{first_items, IsUncompleted}
use Rattle.ve_changes.proofs.CompletionLemmas.{joined, joined_none, one_done, one_stops, all_done}
use Rattle.ve_changes.proofs.completion.items_completed.Goals as goal

pub loop-item-init : goal.loop-item-init
loop-item-init c =
    let one = model.item_completed (first_items c.args.first) in
    let gives = c.into_iter-item-iterator.ensures.into_iter_gives in
    record {
      together = ap (λ l. joined l (all_completed one c.into_iter-item-iterator.result.rest.items)) c.new-done.ensures
          ∙ (joined_none (all_completed one c.into_iter-item-iterator.result.rest.items) ∙ ap (all_completed one) (gives.0 ∙ c.into_vec-all.ensures));
      long = gives.1 ∙ (sym c.as_slice-lent.ensures.len ∙ ap (λ (l : List PlainItem). length l) (c.as_slice-lent.ensures.value ∙ sym gives.0));
    }

pub loop-item-preserved : goal.loop-item-preserved
loop-item-preserved c =
    let one = model.item_completed (first_items c.args.first) in
    let rest = c.loop-item.item-iterator.rest.items in
    let later = c.next.new.self.rest.items in
    record {
      together = ap (λ l. joined l (all_completed one later)) c.in_ok-push-in-Ok.ensures.ok
          ∙ (one_done one c.loop-item.done c.in-Some.item c.in-Ok.item later c.in-Ok.ensures
          ∙ (ap (λ l. joined c.loop-item.done (all_completed one l)) (sym c.in-Some.ensures.steps.0) ∙ c.loop-item.invariant.together));
      long = (let n = ap (λ (l : List PlainItem). length l) c.in-Some.ensures.steps.0 in omega (arith, n, c.in-Some.ensures.steps.1, c.loop-item.invariant.long));
    }

pub returns-in-Err : goal.returns-in-Err
returns-in-Err c =
    let one = model.item_completed (first_items c.args.first) in
    subst (λ (r : Result (List PlainItem) ℕ). IsUncompleted c.in-Err.why r) (ap (λ l. joined c.loop-item.done (all_completed one l)) (sym c.in-Some.ensures.steps.0) ∙ c.loop-item.invariant.together)
    (one_stops one c.loop-item.done c.in-Some.item c.next.new.self.rest.items c.in-Err.why c.in-Err.ensures)

pub returns : goal.returns
returns c =
    all_done (model.item_completed (first_items c.args.first)) c.loop-item.done c.loop-item.item-iterator.rest.items _
    (nil_from_length c.loop-item.item-iterator.rest.items (sym c.loop-item.invariant.long ∙ c.in-None.ensures.steps.0)) c.loop-item.invariant.together
