-- When the transaction of edits is in normal form, and what it gives.
use Rattle.std.specs.Prelude.{◌^◌, nat_le}
use Rattle.std.proofs.Common.{◌+◌, ◌&&◌, length, ap, ◌∙◌, zero-add}
use Rattle.model_change.specs.Transaction.{old_length, all_inserted}
use Rattle.model_change.proofs.Fits.{parts_of_Applies}
use Rattle.model_edit_law.specs.Fine.{FineIsNormal, EditsAreFine, EditsSubstitute}
use Rattle.model_edit_law.proofs.EditLemmas.{edited-transaction_from}
use Rattle.model_edit_law.proofs.OrderLemmas.{Fine-edits}

pub fine_is_normal : FineIsNormal
fine_is_normal items t h =
    ap (λ b. b && nat_le (old_length t + length (all_inserted t)) (2 ^ 60)) h.reduced
    ∙ ap (λ n. nat_le (n + length (all_inserted t)) (2 ^ 60)) (parts_of_Applies t items h.applies).0

pub edits_are_fine : EditsAreFine
edits_are_fine = Fine-edits

pub edits_substitute : EditsSubstitute
edits_substitute items edits h = edited-transaction_from 0 items edits (rw zero-add h)
