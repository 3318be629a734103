use Rattle.std.proofs.Common.{List, ◌≡◌, ◌∙◌, ap, subst}
use Rattle.ve_tx.specs.Operation.{Operation, with_positions, IsNormal}
use Rattle.ve_tx.specs.Turned.{turned}
use Rattle.ve_tx.proofs.CitesLemmas.{turned-cites}
use Rattle.ve_tx.proofs.TurnedLemmas.{turned-normal, turned-inverse, turned-undone}
use Rattle.ve_tx.proofs.transaction.Transaction.inverse.Goals as goal

pub invariant_of-result : goal.invariant_of-result
invariant_of-result c =
    let made : with_positions c.in_ok-back.back.ops.items c.in_ok-back.back.kept.items ≡ turned (with_positions c.self.inside.ops.items c.self.inside.kept.items) =
    rw (← c.as_slice.ensures.value, ← c.as_slice-2.ensures.value) c.in_ok-back.ensures in
    rw made (turned-normal (with_positions c.self.inside.ops.items c.self.inside.kept.items) c.self.invariant)

pub returns-clause-inverse : goal.returns-clause-inverse
returns-clause-inverse c values =
    let made : with_positions c.in_ok-back.back.ops.items c.in_ok-back.back.kept.items ≡ turned (with_positions c.self.inside.ops.items c.self.inside.kept.items) =
    rw (← c.as_slice.ensures.value, ← c.as_slice-2.ensures.value) c.in_ok-back.ensures in
    turned-inverse values c.args.self.now (with_positions c.in_ok-back.back.ops.items c.in_ok-back.back.kept.items) (made ∙ ap turned c.self.view_is)

pub returns-clause-undone : goal.returns-clause-undone
returns-clause-undone c values items =
    let made : with_positions c.in_ok-back.back.ops.items c.in_ok-back.back.kept.items ≡ turned (with_positions c.self.inside.ops.items c.self.inside.kept.items) =
    rw (← c.as_slice.ensures.value, ← c.as_slice-2.ensures.value) c.in_ok-back.ensures in
    let P : List Operation → Type 0 = IsNormal in
    turned-undone values c.args.self.now (with_positions c.in_ok-back.back.ops.items c.in_ok-back.back.kept.items) items (made ∙ ap turned c.self.view_is)
    (subst P c.self.view_is c.self.invariant)

pub returns-clause-cites : goal.returns-clause-cites
returns-clause-cites c values =
    let made : with_positions c.in_ok-back.back.ops.items c.in_ok-back.back.kept.items ≡ turned (with_positions c.self.inside.ops.items c.self.inside.kept.items) =
    rw (← c.as_slice.ensures.value, ← c.as_slice-2.ensures.value) c.in_ok-back.ensures in
    turned-cites values c.args.self.now (with_positions c.in_ok-back.back.ops.items c.in_ok-back.back.kept.items) (made ∙ ap turned c.self.view_is)
