-- The pass over operations is the model's, over whatever values the items cite.
use Rattle.std.proofs.Common.{◌≡◌, ◌≤◌, ℕ, ◌+◌, ◌-◌, ◌^◌, ◌<◌, min, Bool, false, nat_lt, if◌then◌else◌, List, [], ◌∷◌, length, map, refl, sym, ap, ◌∙◌}
use Rattle.std.proofs.lemmas.List.{length-map}
use Rattle.std.proofs.lemmas.Bool.{eq-eqb, ne_eqb, lt-ltb, le-ltb}
use Rattle.ve_base.specs.declared.value.Value.{Value}
use Rattle.model_items.specs.Plain.{plain}
use Rattle.model_edit.specs.declared.selection.Bias.{Bias}
use Rattle.model_edit.specs.declared.selection.Bias.TheVariants.{Left, Right}
use Rattle.model_edit.specs.declared.selection.Selection.{Selection}
use Rattle.model_edit.specs.Translate.{is_before, items_before, translate, translate_range, between}
use Rattle.model_change.specs.Transaction.{Transaction}
use Rattle.ve_tx.specs.Normal.{total_size}
use Rattle.ve_tx.proofs.NormalLemmas.{normal-bare, normal-tested, total-within}
use Rattle.ve_tx.specs.Operation.{Operation, Retain, Replace, Attribute, bare, by_value, IsNormal}
use Rattle.ve_select.specs.Passed.{passed_before}

pub passed-translated : (values : List Value) (bias : Bias) (offset at : ℕ) (tx : List Operation) →
    passed_before bias offset at (map bare tx) ≡ items_before bias offset at (by_value values tx)
passed-translated values bias offset at [] = refl
passed-translated values bias offset at (Retain count ∷ tx) =
    ap (λ n. min count (offset - at) + n) (passed-translated values bias offset (at + count) tx)
passed-translated values bias offset at (Replace removed inserted ∷ tx) =
    rw (length-map removed (plain values), length-map inserted (plain values))
    (ap (λ n. (if is_before bias at offset then length inserted else 0) + n) (passed-translated values bias offset (at + length removed) tx))
passed-translated values bias offset at (Attribute change ∷ tx) = passed-translated values bias offset at tx

-- the lengths of a transaction in normal form add up to at most 2^60
pub total-bound : (tx : List Operation) → IsNormal tx → total_size (map bare tx) ≤ 2 ^ 60
total-bound tx h =
    total-within (map bare tx) [] (normal-tested (map bare tx) [] (sym (normal-bare [] tx) ∙ h []))

-- which side each end of a selection keeps to
module _ (t : Transaction) (s : Selection) where
  abbrev moved_by : Bool → Bool → Selection
  moved_by same below =
      if same then between (translate t s.anchor Left) (translate t s.focus Left)
      else (if below then between (translate t s.anchor Right) (translate t s.focus Left)
      else between (translate t s.anchor Left) (translate t s.focus Right))

  pub caret-moved : s.anchor ≡ s.focus → translate_range t s ≡ between (translate t s.anchor Left) (translate t s.focus Left)
  caret-moved e = ap (λ b. moved_by b (nat_lt s.anchor s.focus)) (eq-eqb s.anchor s.focus e)

  pub forward-moved : (s.anchor ≡ s.focus → ⊥) → s.anchor < s.focus →
      translate_range t s ≡ between (translate t s.anchor Right) (translate t s.focus Left)
  forward-moved n h = ap (λ b. moved_by b (nat_lt s.anchor s.focus)) (ne_eqb s.anchor s.focus n) ∙ ap (moved_by false) (lt-ltb s.anchor s.focus h)

  pub backward-moved : (s.anchor ≡ s.focus → ⊥) → s.focus ≤ s.anchor →
      translate_range t s ≡ between (translate t s.anchor Left) (translate t s.focus Right)
  backward-moved n h = ap (λ b. moved_by b (nat_lt s.anchor s.focus)) (ne_eqb s.anchor s.focus n) ∙ ap (moved_by false) (le-ltb s.anchor s.focus h)
