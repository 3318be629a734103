use Rattle.std.proofs.Common.{sym, ap, ◌∙◌, subst}
use Rattle.model_world.specs.Completed as model
use Rattle.model_world.specs.declared.edit_command.OpWords.{OpWords}
use Rattle.ve_changes.specs.Completions.{first_items, IsUncompleted}
use Rattle.ve_changes.proofs.CompletionLemmas.{removal_done, removal_bad}
use Rattle.ve_changes.proofs.completion.op_completed.Goals as goal

pub returns-in-Ok : goal.returns-in-Ok
returns-in-Ok c =
    ap (model.op_completed (first_items c.args.first)) c.in-Remove.is
    ∙ removal_done (first_items c.args.first) c.in-Remove.count c.in-Remove.insert c.in-Ok.insert c.in-Ok.ensures

pub returns-in-Err : goal.returns-in-Err
returns-in-Err c =
    subst (λ (o : OpWords). IsUncompleted c.in-Err.why (model.op_completed (first_items c.args.first) o)) (sym c.in-Remove.is)
    (removal_bad (first_items c.args.first) c.in-Remove.count c.in-Remove.insert c.in-Err.why c.in-Err.ensures)
