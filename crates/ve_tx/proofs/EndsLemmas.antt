-- Operations between other ends are those by value.
use Rattle.std.proofs.Common.{◌≡◌, ◌<◌, ℕ, zero, suc, ◌+◌, ◌-◌, true, List, [], ◌∷◌, ◌++◌, length, map, take, drop, slice_get, get_or, Option, Some, None, refl, sym, ap, subst, ◌∙◌, append_assoc, arith}
use Rattle.std.specs.Prelude.{All}
use Rattle.std.proofs.lemmas.List.{map-append}
use Rattle.std.proofs.lemmas.List.Elements.{All-nil, All-cons, All-append, All-take, All-drop}
use Rattle.ve_base.specs.declared.value.Value.{Value}
use Rattle.model_change.specs.Transaction.{is_normal}
use Rattle.model_change.specs.Transaction as model
use Rattle.model_change.specs.Join.{retained, with_ends, core, without_end}
use Rattle.ve_tx.specs.declared.op.Op.{Op}
use Rattle.ve_tx.specs.declared.op.Op.TheVariants as op
use Rattle.ve_tx.specs.Operation.{Operation, Retain, Replace, Attribute, with_position, with_positions, bare, operation_by_value, by_value}
use Rattle.ve_tx.specs.Cites.{OperationCites, TxCites}
use Rattle.ve_tx.specs.Ends.{core_start, core_end, core_of, retain_of}
use Rattle.ve_tx.proofs.NormalLemmas.{normal-bare}
use Rattle.ve_tx.proofs.TurnedLemmas.{with_positions-at}

-- the end by the last operation
abbrev pub end_by : Op → ℕ → ℕ
end_by (op.Retain count) n = n - 1
end_by (op.Replace removed inserted) n = n
end_by (op.Attribute name from to) n = n

more_by : (o : Op) (n : ℕ) → suc (end_by o (suc n)) ≡ end_by o (suc (suc n))
more_by (op.Retain count) n = omega arith
more_by (op.Replace removed inserted) n = refl
more_by (op.Attribute name from to) n = refl

first_is : (x last : Op) (P : Op → Type 0) → ◌≡◌ {A = Option Op} (Some x) (Some last) → P x → P last
first_is x last P e p = let same : x ≡ last = cc in subst P same p

later : (x y last : Op) (ops : List Op) → slice_get (x ∷ y ∷ ops) (suc (suc (length ops)) - 1) ≡ Some last → slice_get (y ∷ ops) (suc (length ops) - 1) ≡ Some last
later x y last ops h =
    let m : suc (suc (length ops)) - 1 ≡ suc (length ops) = omega arith in
    let n : suc (length ops) - 1 ≡ length ops = omega arith in
    ap (λ k. slice_get (y ∷ ops) k) n ∙ sym (ap (λ k. slice_get (x ∷ y ∷ ops) k) m) ∙ h

pub core_end-last : (ops : List Op) (last : Op) → slice_get ops (length ops - 1) ≡ Some last → end_by last (length ops) ≡ core_end ops
core_end-last [] last h = cc
core_end-last (op.Retain n ∷ []) last h = first_is (op.Retain n) last (λ o. end_by o 1 ≡ 0) h refl
core_end-last (op.Retain n ∷ y ∷ ops) last h = sym (more_by last (length ops)) ∙ ap suc (core_end-last (y ∷ ops) last (later (op.Retain n) y last ops h))
core_end-last (op.Replace removed inserted ∷ []) last h = first_is (op.Replace removed inserted) last (λ o. end_by o 1 ≡ 1) h refl
core_end-last (op.Replace removed inserted ∷ y ∷ ops) last h = sym (more_by last (length ops)) ∙ ap suc (core_end-last (y ∷ ops) last (later (op.Replace removed inserted) y last ops h))
core_end-last (op.Attribute name from to ∷ []) last h = first_is (op.Attribute name from to) last (λ o. end_by o 1 ≡ 1) h refl
core_end-last (op.Attribute name from to ∷ y ∷ ops) last h = sym (more_by last (length ops)) ∙ ap suc (core_end-last (y ∷ ops) last (later (op.Attribute name from to) y last ops h))

-- one more operation of the core
pub core-next : (ops : List Op) (kept : List (Option ℕ)) (prefix made next : List Operation) (o : Op) (k : Option ℕ) (i end : ℕ) → i < length ops → i < end →
    o ≡ get_or ops i o → k ≡ get_or kept i None → next ≡ made ++ with_position o k ∷ [] →
    made ++ take (end - i) (drop i (with_positions ops kept)) ≡ prefix →
    next ++ take (end - (i + 1)) (drop (i + 1) (with_positions ops kept)) ≡ prefix
core-next ops kept prefix made next o k i end within below here there is so_far =
    let after : i + 1 ≡ suc i = omega arith in
    let left : end - i ≡ suc (end - suc i) = omega arith in
    let rest = drop (suc i) (with_positions ops kept) in
    let part : drop i (with_positions ops kept) ≡ with_position o k ∷ rest =
    with_positions-at i ops kept o within
    ∙ (
    ap (λ x. with_position x (get_or kept i None) ∷ rest) (sym here)
    ∙ ap (λ y. with_position o y ∷ rest) (sym there)
    ) in
    ap (λ prefix. prefix ++ take (end - (i + 1)) (drop (i + 1) (with_positions ops kept))) is
    ∙ (
    append_assoc made (with_position o k ∷ []) (take (end - (i + 1)) (drop (i + 1) (with_positions ops kept)))
    ∙ (
    ap (λ n. made ++ with_position o k ∷ take (end - n) (drop n (with_positions ops kept))) after
    ∙ (sym (ap (λ n. made ++ take n (drop i (with_positions ops kept))) left ∙ ap (λ xs. made ++ take (suc (end - suc i)) xs) part) ∙ so_far)
    )
    )

module _ (values : List Value) where
  retain_by_value : (count : ℕ) → by_value values (retain_of count) ≡ retained count
  retain_by_value zero = refl
  retain_by_value (suc n) = refl

  without_end_by_value : (tx : List Operation) → by_value values (take (core_end (map bare tx)) tx) ≡ without_end (by_value values tx)
  without_end_by_value [] = refl
  without_end_by_value (Retain count ∷ []) = refl
  without_end_by_value (Retain count ∷ o ∷ tx) = ap (λ more. model.Retain count ∷ more) (without_end_by_value (o ∷ tx))
  without_end_by_value (Replace removed inserted ∷ tx) = ap (λ more. operation_by_value values (Replace removed inserted) ∷ more) (without_end_by_value tx)
  without_end_by_value (Attribute change ∷ tx) = ap (λ more. model.Attribute change ∷ more) (without_end_by_value tx)

  core_by_value : (tx : List Operation) → by_value values (core_of (map bare tx) tx) ≡ core (by_value values tx)
  core_by_value [] = refl
  core_by_value (Retain count ∷ []) = refl
  core_by_value (Retain count ∷ o ∷ tx) =
      let n : suc (core_end (map bare (o ∷ tx))) - 1 ≡ core_end (map bare (o ∷ tx)) = omega arith in
      ap (λ k. by_value values (take k (o ∷ tx))) n ∙ without_end_by_value (o ∷ tx)
  core_by_value (Replace removed inserted ∷ tx) =
      let n : core_end (map bare (Replace removed inserted ∷ tx)) - 0 ≡ core_end (map bare (Replace removed inserted ∷ tx)) = omega arith in
      ap (λ k. by_value values (take k (Replace removed inserted ∷ tx))) n ∙ without_end_by_value (Replace removed inserted ∷ tx)
  core_by_value (Attribute change ∷ tx) =
      let n : core_end (map bare (Attribute change ∷ tx)) - 0 ≡ core_end (map bare (Attribute change ∷ tx)) = omega arith in
      ap (λ k. by_value values (take k (Attribute change ∷ tx))) n ∙ without_end_by_value (Attribute change ∷ tx)

  pub ends_by_value : (tx : List Operation) (first last : ℕ) →
      by_value values (retain_of first ++ (core_of (map bare tx) tx ++ retain_of last)) ≡ with_ends first (core (by_value values tx)) last
  ends_by_value tx first last =
      map-append (operation_by_value values) (retain_of first) (core_of (map bare tx) tx ++ retain_of last)
      ∙ (
      ap (λ prefix. prefix ++ by_value values (core_of (map bare tx) tx ++ retain_of last)) (retain_by_value first)
      ∙ ap (λ more. retained first ++ more) (
      map-append (operation_by_value values) (core_of (map bare tx) tx) (retain_of last)
      ∙ (ap (λ middle. middle ++ by_value values (retain_of last)) (core_by_value tx) ∙ ap (λ suffix. core (by_value values tx) ++ suffix) (retain_by_value last))
      )
      )

  pub made_by_value : (ops : List Op) (tx made : List Operation) (first last : ℕ) → ops ≡ map bare tx → made ≡ retain_of first ++ (core_of ops tx ++ retain_of last) →
      by_value values made ≡ with_ends first (core (by_value values tx)) last
  made_by_value ops tx made first last bared is =
      ap (by_value values) (is ∙ ap (λ os. retain_of first ++ (core_of os tx ++ retain_of last)) bared) ∙ ends_by_value tx first last

  retain_cites : (count : ℕ) → All (OperationCites values) (retain_of count)
  retain_cites zero = All-nil (OperationCites values)
  retain_cites (suc n) = All-cons (OperationCites values) (Retain (suc n)) [] tt (All-nil (OperationCites values))

  -- what is between the ends cites as before
  pub made_cites : (ops : List Op) (tx made : List Operation) (first last : ℕ) → made ≡ retain_of first ++ (core_of ops tx ++ retain_of last) →
      TxCites values tx → TxCites values made
  made_cites ops tx made first last is h =
      let P = OperationCites values in
      let core = core_of ops tx in
      let part : All P core = All-take P (core_end ops - core_start ops) (drop (core_start ops) tx) (All-drop P (core_start ops) tx h) in
      subst (All P) (sym is) (All-append P (retain_of first) (core ++ retain_of last) (retain_cites first) (All-append P core (retain_of last) part (retain_cites last)))

-- whatever the values are, the normal form is the same
pub normal-values : (values others : List Value) (tx : List Operation) → is_normal (by_value values tx) ≡ is_normal (by_value others tx)
normal-values values others tx = normal-bare values tx ∙ sym (normal-bare others tx)

-- and so it is with other ends: a caller that knows it of one list of values knows it of all
pub normal-ends : (values others : List Value) (tx : List Operation) (first last : ℕ) → is_normal (with_ends first (core (by_value values tx)) last) ≡ true →
    is_normal (with_ends first (core (by_value others tx)) last) ≡ true
normal-ends values others tx first last h =
    let made = retain_of first ++ (core_of (map bare tx) tx ++ retain_of last) in
    ap is_normal (sym (ends_by_value others tx first last)) ∙ normal-values others values made ∙ ap is_normal (ends_by_value values tx first last) ∙ h
