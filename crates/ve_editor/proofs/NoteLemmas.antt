-- Splices that take a list back, as they are noted and let go.
use Rattle.std.proofs.Common.{◌≡◌, ◌≤◌, ◌<◌, ℕ, zero, suc, ◌+◌, List, [], ◌∷◌, ◌++◌, length, drop, get_or, sym, ap, ◌∙◌, subst, Option, Some, arith}
use Rattle.std.specs.Option.{option_to_list}
use Rattle.model_items.specs.declared.item.Item.{Item}
use Rattle.ve_tx.specs.Spliced.{LieBetween, come_count}
use Rattle.ve_tx.specs.declared.splice.Splice.{Splice}
use Rattle.ve_editor.specs.Back.{backward}
use Rattle.ve_editor.proofs.ReturnLemmas.{come-append}

-- noted so far, from the last one on
pub record AreNoted (old now : List Splice) (items : List Item) (splices : List Splice) (left : ℕ) : Type 0 where
  pub within : left ≤ length splices
  pub notes : now ≡ old ++ backward items (drop left splices)

-- each that is noted can be made of the list
pub noted-fits : (from to : ℕ) (splices : List Splice) (i : ℕ) (splice : Splice) → i < length splices → splice ≡ get_or splices i splice → LieBetween from to splices →
    splice.at + splice.removed ≤ to
noted-fits from to [] i splice below is h = absurd (omega arith)
noted-fits from to (one ∷ more) zero splice below is h = subst (λ (s : Splice). s.at + s.removed ≤ to) (sym is) (lie-order (one.at + one.removed) to more h.1)
  where
    lie-order : (from to : ℕ) (splices : List Splice) → LieBetween from to splices → from ≤ to
    lie-order from to [] h = h
    lie-order from to (one ∷ more) h = let rest = lie-order (one.at + one.removed) to more h.1 in omega (arith, h.0)
noted-fits from to (one ∷ more) (suc i) splice below is h = noted-fits (one.at + one.removed) to more i splice (omega arith) is h.1

-- one is let go
pub come-popped : (old new : List Splice) (last : Option Splice) (splice : Splice) → old ≡ new ++ option_to_list last → last ≡ Some splice →
    come_count old ≡ come_count new + length splice.items
come-popped old new last splice parts is =
    let one : come_count (splice ∷ []) ≡ length splice.items = omega arith in
    ap come_count (parts ∙ ap (λ l. new ++ option_to_list l) is) ∙ come-append new (splice ∷ []) ∙ ap (λ n. come_count new + n) one
