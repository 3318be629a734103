use Rattle.std.proofs.Common.{◌≤◌, suc, length, sym, ap, ◌∙◌, subst}
use Rattle.model_site.specs.Untold.{Untold, max_patches, with_patches}
use Rattle.ve_tx.specs.Turned.{op_back}
use Rattle.ve_tx.specs.declared.op.Op.{Op}
use Rattle.ve_site.specs.Patches.{changed_at}
use Rattle.ve_site.proofs.PatchLemmas.{with_none}
use Rattle.ve_site.proofs.untold.Untold.note_op_back.Goals as goal

pub returns-in-Retain-clause-noted : goal.returns-in-Retain-clause-noted
returns-in-Retain-clause-noted c =
    let u = c.args.self.now in
    let within = subst (λ (x : Untold). length x.patches ≤ suc max_patches) c.self.view_is c.self.invariant.within in
    sym (with_none u within) ∙ ap (λ (o : Op). with_patches (changed_at c.args.at (op_back o)) u) (sym c.in-Retain.is)
