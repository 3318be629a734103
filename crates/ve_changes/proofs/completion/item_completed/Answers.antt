use Rattle.std.proofs.Common.{sym, ap, ◌∙◌, subst}
use Rattle.model_world.specs.Completed as model
use Rattle.model_items.specs.declared.plain_item.PlainItem.{PlainItem}
use Rattle.ve_changes.specs.Completions.{first_items, IsUncompleted}
use Rattle.ve_changes.proofs.CompletionLemmas.{opening_done, opening_bad}
use Rattle.ve_changes.proofs.completion.item_completed.Goals as goal

pub returns-in-Ok : goal.returns-in-Ok
returns-in-Ok c =
    ap (model.item_completed (first_items c.args.first)) c.in-Opening.is
    ∙ opening_done (first_items c.args.first) c.in-Opening.kind c.in-Opening.head c.in-Ok.head c.in-Opening.marks c.in-Opening.pre c.in-Opening.origin c.in-Opening.generated c.in-Ok.ensures

pub returns-in-Err : goal.returns-in-Err
returns-in-Err c =
    subst (λ (i : PlainItem). IsUncompleted c.in-Err.why (model.item_completed (first_items c.args.first) i)) (sym c.in-Opening.is)
    (opening_bad (first_items c.args.first) c.in-Opening.kind c.in-Opening.head c.in-Opening.marks c.in-Opening.pre c.in-Opening.origin c.in-Opening.generated c.in-Err.why c.in-Err.ensures)
