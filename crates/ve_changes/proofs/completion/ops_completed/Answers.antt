use Rattle.std.proofs.Common.{ℕ, length, List, Result, sym, ap, ◌∙◌, subst, arith}
use Rattle.std.proofs.lemmas.List.{nil_from_length}
use Rattle.model_world.specs.declared.edit_command.OpWords.{OpWords}
use Rattle.model_world.specs.Completed.{all_completed}
use Rattle.model_world.specs.Completed as model
use Rattle.ve_changes.specs.Completions.{first_items, IsUncompleted}
use Rattle.ve_changes.proofs.CompletionLemmas.{joined, joined_none, one_done, one_stops, all_done}
use Rattle.ve_changes.proofs.completion.ops_completed.Goals as goal

pub loop-op-init : goal.loop-op-init
loop-op-init c =
    let one = model.op_completed (first_items c.args.first) in
    let gives = c.into_iter-op-iterator.ensures.into_iter_gives in
    record {
      together = ap (λ l. joined l (all_completed one c.into_iter-op-iterator.result.rest.items)) c.new-done.ensures
          ∙ (joined_none (all_completed one c.into_iter-op-iterator.result.rest.items) ∙ ap (all_completed one) (gives.0 ∙ c.into_vec-all.ensures));
      long = gives.1 ∙ (sym c.as_slice-lent.ensures.len ∙ ap (λ (l : List OpWords). length l) (c.as_slice-lent.ensures.value ∙ sym gives.0));
    }

pub loop-op-preserved : goal.loop-op-preserved
loop-op-preserved c =
    let one = model.op_completed (first_items c.args.first) in
    let rest = c.loop-op.op-iterator.rest.items in
    let later = c.next.new.self.rest.items in
    record {
      together = ap (λ l. joined l (all_completed one later)) c.in_ok-push-in-Ok.ensures.ok
          ∙ (one_done one c.loop-op.done c.in-Some.op c.in-Ok.op later c.in-Ok.ensures
          ∙ (ap (λ l. joined c.loop-op.done (all_completed one l)) (sym c.in-Some.ensures.steps.0) ∙ c.loop-op.invariant.together));
      long = (let n = ap (λ (l : List OpWords). length l) c.in-Some.ensures.steps.0 in omega (arith, n, c.in-Some.ensures.steps.1, c.loop-op.invariant.long));
    }

pub returns-in-Err : goal.returns-in-Err
returns-in-Err c =
    let one = model.op_completed (first_items c.args.first) in
    subst (λ (r : Result (List OpWords) ℕ). IsUncompleted c.in-Err.why r) (ap (λ l. joined c.loop-op.done (all_completed one l)) (sym c.in-Some.ensures.steps.0) ∙ c.loop-op.invariant.together)
    (one_stops one c.loop-op.done c.in-Some.op c.next.new.self.rest.items c.in-Err.why c.in-Err.ensures)

pub returns : goal.returns
returns c =
    all_done (model.op_completed (first_items c.args.first)) c.loop-op.done c.loop-op.op-iterator.rest.items _
    (nil_from_length c.loop-op.op-iterator.rest.items (sym c.loop-op.invariant.long ∙ c.in-None.ensures.steps.0)) c.loop-op.invariant.together
