-- Where memory may be wanting for the draft of a change.
use Rattle.std.proofs.Common.{◌≡◌, Bor, ℕ, List, Option, Result, Ok, Err, refl, subst}
use Rattle.std.specs.Prelude.{IfErr, IsOk}
use Rattle.std.specs.Str.{chars}
use Rattle.std.proofs.lemmas.Result.{IfErr-weaker}
use Rattle.model_items.specs.declared.plain_item.PlainItem.{PlainItem}
use Rattle.model_change.specs.Transaction.{Transaction}
use Rattle.model_edit.specs.Causes.{BuildCause}
use Rattle.model_edit.specs.Convert.{attribute}
use Rattle.model_world.specs.declared.refusal.Refusal.{Refusal}
use Rattle.model_world.specs.Edits.{built_transaction}
use Rattle.ve_build_shape.specs.Setting.{attribute_spelled, value_spelled}
use Rattle.ve_changes.specs.declared.faults.ChangeStop.{ChangeStop}
use Rattle.ve_changes.specs.declared.faults.ChangeStop.TheVariants as stop

-- a refusal is no want of memory
pub no_want : (X : Type 0) (why : Refusal) → stop.Refused why ≡ stop.Memory → X
no_want X why e = absurd (cc)

-- what is known where memory is wanting, told otherwise
pub wants : {A : Type 0} (r : Result A ChangeStop) (X Y : Type 0) → (X → Y) → IfErr r (λ why. why ≡ stop.Memory → X) → IfErr r (λ why. why ≡ stop.Memory → Y)
wants r X Y f h = IfErr-weaker r (λ why. why ≡ stop.Memory → X) (λ why. why ≡ stop.Memory → Y) (λ why given e. f (given e)) h

-- what a builder doesn't refuse isn't refused
pub built_ok : (meant : Result Transaction BuildCause) → IsOk meant → IsOk (built_transaction meant)
built_ok (Ok t) h = refl
built_ok (Err cause) h = absurd (cc)

-- the same attribute, where the name and the value are bytes
pub attribute_ok : (items : List PlainItem) (at : ℕ) (name : List ℕ) (to : Option (List ℕ)) (bytes : List ℕ) (lent : Option (Bor (List ℕ))) →
    chars bytes ≡ name → value_spelled lent ≡ to → IsOk (attribute_spelled items at bytes lent) → IsOk (built_transaction (attribute items at name to))
attribute_ok items at name to bytes lent n t h =
    built_ok (attribute items at name to) (subst (λ v. IsOk (attribute items at name v)) t (subst (λ s. IsOk (attribute items at s (value_spelled lent))) n h))
