-- The test of equality of values is an equivalence, and equal values have one hash.
use Rattle.std.specs.Prelude.{◌≡◌, true, IsTrue}
use Rattle.std.specs.Bool.{Decides}
use Rattle.std.specs.Cmp.{IsEquivalence, IsPartialEquivalence, decided, partial_equiv_from_equiv}
use Rattle.std.proofs.Common.{ap, subst}
use Rattle.ve_base.specs.declared.marks.Mark.{Mark}
use Rattle.ve_base.specs.declared.value.Value.{Value}
use Rattle.model_items.specs.Same.{value_same, mark_same}
use Rattle.model_items.proofs.SameLemmas.{Means-value_same, Means-mark_same}
use Rattle.ve_store.specs.HashInput.{value_input}

pub value_same-Decides : (x y : Value) → Decides (value_same x y) (x ≡ y)
value_same-Decides x y = (Means-value_same.equal x y, λ same. let P : Value → Type 0 = λ v. value_same x v ≡ true in subst P same (Means-value_same.itself x))

pub value_same-equivalence : IsEquivalence value_same
value_same-equivalence = decided value_same value_same-Decides

pub value_same-partial : IsPartialEquivalence value_same
value_same-partial = partial_equiv_from_equiv value_same-equivalence

pub value_input-same : (x y : Value) → IsTrue (value_same x y) → value_input x ≡ value_input y
value_input-same x y same = ap value_input (Means-value_same.equal x y same)

pub mark_same-Decides : (x y : Mark) → Decides (mark_same x y) (x ≡ y)
mark_same-Decides x y = (Means-mark_same.equal x y, λ same. let P : Mark → Type 0 = λ m. mark_same x m ≡ true in subst P same (Means-mark_same.itself x))
