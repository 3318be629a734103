-- The normal form of operations that cite values is the normal form by value.
use Rattle.std.proofs.Common.{◌≡◌, ℕ, ◌^◌, Bool, true, false, ◌&&◌, not, nat_lt, List, [], ◌∷◌, map, Option, None, refl, sym, ap, subst, ◌∙◌, arith, ◌≤◌}
use Rattle.std.specs.Bool.{Decides}
use Rattle.std.proofs.lemmas.Bool.{leb-true}
use Rattle.std.proofs.lemmas.List.{length-map, length-append}
use Rattle.ve_base.specs.declared.value.Value.{Value}
use Rattle.model_items.specs.Plain.{plain}
use Rattle.model_items.specs.Same.{text_same}
use Rattle.model_items.proofs.SameLemmas.{Means-text_same}
use Rattle.model_change.specs.Attributes.{AttrChange}
use Rattle.model_change.specs.Transaction.{all_inserted, total_length, may_precede, is_something, is_reduced, is_normal}
use Rattle.ve_tx.specs.declared.op.Op.{Op}
use Rattle.ve_tx.specs.declared.op.Op.TheVariants as op
use Rattle.ve_tx.specs.Normal.{may_stand_before, names_apart, is_some_op, are_reduced, total_size, are_normal}
use Rattle.ve_tx.specs.Operation.{Operation, Retain, Replace, Attribute, with_position, with_positions, unkept, bare, operation_by_value, by_value, IsNormal}

pub text_same-Decides : (s t : List ℕ) → Decides (text_same s t) (s ≡ t)
text_same-Decides s t = (Means-text_same.equal s t, λ same. let P : List ℕ → Type 0 = λ u. text_same s u ≡ true in subst P same (Means-text_same.itself s))

module _ (values : List Value) where
  something : (o : Operation) → is_something (operation_by_value values o) ≡ is_some_op (bare o)
  something (Retain count) = refl
  something (Replace removed inserted) = ap (λ n. nat_lt 0 n) (grind (arith, length-map removed (plain values), length-map inserted (plain values)))
  something (Attribute change) = refl

  change_precedes : (change : AttrChange) (tx : List Operation) →
      may_precede (operation_by_value values (Attribute change)) (by_value values tx) ≡ names_apart change.name (map bare tx)
  change_precedes change [] = refl
  change_precedes change (Retain count ∷ tx) = refl
  change_precedes change (Replace removed inserted ∷ tx) = refl
  change_precedes change (Attribute other ∷ tx) = ap (λ b. not (text_same change.name other.name) && b) (change_precedes change tx)

  precedes : (o : Operation) (tx : List Operation) → may_precede (operation_by_value values o) (by_value values tx) ≡ may_stand_before (bare o) (map bare tx)
  precedes (Retain count) [] = refl
  precedes (Retain count) (Retain other ∷ tx) = refl
  precedes (Retain count) (Replace removed inserted ∷ tx) = refl
  precedes (Retain count) (Attribute change ∷ tx) = refl
  precedes (Replace removed inserted) [] = refl
  precedes (Replace removed inserted) (Retain other ∷ tx) = refl
  precedes (Replace removed inserted) (Replace others news ∷ tx) = refl
  precedes (Replace removed inserted) (Attribute change ∷ tx) = refl
  precedes (Attribute change) tx = change_precedes change tx

  reduced : (tx : List Operation) → is_reduced (by_value values tx) ≡ are_reduced (map bare tx)
  reduced [] = refl
  reduced (o ∷ tx) = let s = something o in let p = precedes o tx in let r = reduced tx in cc

  total : (tx : List Operation) → total_length (by_value values tx) ≡ total_size (map bare tx)
  total [] = refl
  total (Retain count ∷ tx) = let t = total tx in omega arith
  total (Replace removed inserted ∷ tx) =
      let t = total tx in
      omega (
        arith,
        length-map removed (plain values),
        length-map inserted (plain values),
        length-append (map (plain values) inserted) (all_inserted (by_value values tx)),
      )
  total (Attribute change ∷ tx) = let t = total tx in omega arith

  pub normal-bare : (tx : List Operation) → is_normal (by_value values tx) ≡ are_normal (map bare tx)
  normal-bare tx = let r = reduced tx in let t = total tx in cc

pub bare-with_positions : (ops : List Op) (kept : List (Option ℕ)) → map bare (with_positions ops kept) ≡ ops
bare-with_positions [] kept = refl
bare-with_positions (op.Retain count ∷ ops) [] = ap (λ more. op.Retain count ∷ more) (bare-with_positions ops [])
bare-with_positions (op.Replace removed inserted ∷ ops) [] = ap (λ more. op.Replace removed inserted ∷ more) (bare-with_positions ops [])
bare-with_positions (op.Attribute name from to ∷ ops) [] = ap (λ more. op.Attribute name from to ∷ more) (bare-with_positions ops [])
bare-with_positions (op.Retain count ∷ ops) (k ∷ kept) = ap (λ more. op.Retain count ∷ more) (bare-with_positions ops kept)
bare-with_positions (op.Replace removed inserted ∷ ops) (k ∷ kept) = ap (λ more. op.Replace removed inserted ∷ more) (bare-with_positions ops kept)
bare-with_positions (op.Attribute name from to ∷ ops) (k ∷ kept) = ap (λ more. op.Attribute name from to ∷ more) (bare-with_positions ops kept)

pub unkept-with_positions : (ops : List Op) → with_positions ops [] ≡ unkept ops
unkept-with_positions [] = refl
unkept-with_positions (o ∷ ops) = ap (λ more. with_position o None ∷ more) (unkept-with_positions ops)

pub normal-with_positions : (values : List Value) (ops : List Op) (kept : List (Option ℕ)) → is_normal (by_value values (with_positions ops kept)) ≡ are_normal ops
normal-with_positions values ops kept = normal-bare values (with_positions ops kept) ∙ ap are_normal (bare-with_positions ops kept)

-- operations that pass the test are in normal form
pub normal-tested : (ops : List Op) (kept : List (Option ℕ)) → are_normal ops ≡ true → IsNormal (with_positions ops kept)
normal-tested ops kept h values = normal-with_positions values ops kept ∙ h

pub normal-unkept : (values : List Value) (ops : List Op) → is_normal (by_value values (unkept ops)) ≡ are_normal ops
normal-unkept values ops = ap (λ tx. is_normal (by_value values tx)) (sym (unkept-with_positions ops)) ∙ normal-with_positions values ops []

both_right : (a b : Bool) → (a && b) ≡ true → b ≡ true
both_right true b h = h
both_right false b h = cc

-- the lengths of a transaction in normal form add up to at most 2^60
pub total-within : (ops : List Op) (kept : List (Option ℕ)) → IsNormal (with_positions ops kept) → total_size ops ≤ 2 ^ 60
total-within ops kept h =
    leb-true (total_size ops) (2 ^ 60) (both_right (are_reduced ops) _ (sym (normal-with_positions [] ops kept) ∙ h []))
