use Rattle.std.proofs.Common.{sym, ap, ◌∙◌, subst}
use Rattle.std.specs.List.{list_any}
use Rattle.model_world.specs.Completed.{op_completed, all_completed}
use Rattle.ve_changes.specs.Completions.{first_items, inserts_first, IsUncompleted}
use Rattle.ve_changes.specs.declared.completion.Uncompleted.{Uncompleted}
use Rattle.ve_changes.proofs.CompletionLemmas.{apply_done, apply_bad, apply_same}
use Rattle.ve_changes.proofs.completion.apply_completed.Goals as goal

pub returns-then-not-insert_first : goal.returns-then-not-insert_first
returns-then-not-insert_first c =
    apply_same (first_items c.args.first) c.args.ops (ap (list_any inserts_first) (sym c.as_slice.ensures) ∙ sym c.insert_first.ensures ∙ c.if-not-insert_first.true)

pub returns-in-Ok : goal.returns-in-Ok
returns-in-Ok c = apply_done (first_items c.args.first) c.args.ops c.in-Ok.ops c.in-Ok.ensures

pub returns-in-Err-NoOrigin : goal.returns-in-Err-NoOrigin
returns-in-Err-NoOrigin c =
    apply_bad (first_items c.args.first) c.args.ops c.in-Err-NoOrigin.origin
    (subst (λ (why : Uncompleted). IsUncompleted why (all_completed (op_completed (first_items c.args.first)) c.args.ops)) c.in-Err-NoOrigin.field-0-is c.in-Err-NoOrigin.ensures)
