-- A change that a wrong body would leave half made, refused by what is promised of it.
use Rattle.std.proofs.Common.{◌≡◌, List, [], ◌∷◌, None, false, codes, Err, OnErr}
use Rattle.ve_base.specs.declared.head.Head.{Head}
use Rattle.ve_base.specs.declared.value.Value.{Value}
use Rattle.ve_base.specs.declared.value.Value.TheVariants as value
use Rattle.model_change.specs.declared.tx_fault.TxFault.{TxFault}
use Rattle.model_change.specs.declared.tx_fault.TxFault.TheVariants.{Memory}

-- the head of an opening that got an `id`
abbrev identified : Head
identified = record { tag = []; attrs = record { name = codes "id"; value = codes "x" } ∷ []; raw = []; reference = None; owner = false }

-- where a change that is refused for want of memory left the store grown, the head would stand in
-- it
a_refused_change_leaves_no_head : OnErr {T = Unit {0}} {E = TxFault} (Err Memory) (◌≡◌ {A = List Value} (value.Head identified ∷ []) []) → ⊥
a_refused_change_leaves_no_head kept = cc
