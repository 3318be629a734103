use Rattle.std.proofs.Common.{◌≤◌, ◌+◌, suc, List, length, sym, ap, ◌∙◌, subst}
use Rattle.model_items.specs.declared.item.Item.{Item}
use Rattle.model_site.specs.Untold.{Untold, max_patches, with_patches}
use Rattle.ve_tx.specs.declared.op.Op.{Op}
use Rattle.ve_site.specs.Patches.{after_op, changed_at}
use Rattle.ve_site.proofs.PatchLemmas.{with_none}
use Rattle.ve_site.proofs.untold.Untold.note_op.Goals as goal

pub returns-in-Retain-clause-noted : goal.returns-in-Retain-clause-noted
returns-in-Retain-clause-noted c =
    let u = c.args.self.now in
    let within = subst (λ (x : Untold). length x.patches ≤ suc max_patches) c.self.view_is c.self.invariant.within in
    sym (with_none u within) ∙ ap (λ (o : Op). with_patches (changed_at c.args.at o) u) (sym c.in-Retain.is)

pub returns-in-Replace-clause-after : goal.returns-in-Replace-clause-after
returns-in-Replace-clause-after c =
    ap (λ (l : List Item). c.args.at + length l) c.as_slice-inserted.ensures ∙ ap (after_op c.args.at) (sym c.in-Replace.is)
