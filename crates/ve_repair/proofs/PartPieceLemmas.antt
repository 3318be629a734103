-- The acts of operations without the numbers of the nodes that come.
use Rattle.std.proofs.Common.{◌≡◌, ℕ, zero, suc, List, [], ◌∷◌, ◌++◌, length, map, replicate, refl, sym, ap, ◌∙◌, append_assoc}
use mathlib.Core.List.{map-append}
use Rattle.model_items.specs.declared.item.Item.{Item}
use Rattle.model_items.specs.declared.item.Item.TheVariants as item
use Rattle.ve_tx.specs.declared.op.Op.{Op}
use Rattle.ve_tx.specs.declared.op.Op.TheVariants as op
use Rattle.ve_repair.specs.Acts.{Stay, Go, come, rest_of, acts_of}
use Rattle.ve_repair.specs.Partly.{unnumbered_act}
use Rattle.ve_repair.specs.Scene.{piece_acts}

abbrev pub zeros : ℕ → List ℕ
zeros k = replicate k 0

pub zeros_count : (k : ℕ) → length (zeros k) ≡ k
zeros_count zero = refl
zeros_count (suc k) = ap suc (zeros_count k)

-- where no number is left the number is zero
come_zeros : (items : List Item) (k : ℕ) → come items [] ≡ come items (zeros k)
come_zeros [] k = refl
come_zeros (item.Char ch marks ∷ items) k = ap (λ l. come (item.Char ch marks ∷ []) [] ++ l) (come_zeros items k)
come_zeros (item.Opening kind generated head marks pre origin ∷ items) zero = refl
come_zeros (item.Opening kind generated head marks pre origin ∷ items) (suc k) =
    ap (λ l. come (item.Opening kind generated head marks pre origin ∷ []) [] ++ l) (come_zeros items k)
come_zeros (item.Closing kind pre ∷ items) k = ap (λ l. come (item.Closing kind pre ∷ []) [] ++ l) (come_zeros items k)

rest_none : (items : List Item) → rest_of items [] ≡ []
rest_none [] = refl
rest_none (item.Char ch marks ∷ items) = rest_none items
rest_none (item.Opening kind generated head marks pre origin ∷ items) = rest_none items
rest_none (item.Closing kind pre ∷ items) = rest_none items

rest_zeros : (items : List Item) (k : ℕ) → (j : ℕ) × (rest_of items (zeros k) ≡ zeros j)
rest_zeros [] k = (k, refl)
rest_zeros (item.Char ch marks ∷ items) k = rest_zeros items k
rest_zeros (item.Opening kind generated head marks pre origin ∷ items) zero = (0, rest_none items)
rest_zeros (item.Opening kind generated head marks pre origin ∷ items) (suc k) = rest_zeros items k
rest_zeros (item.Closing kind pre ∷ items) k = rest_zeros items k

pub acts_zeros : (ops : List Op) (k : ℕ) → acts_of ops [] ≡ acts_of ops (zeros k)
acts_zeros [] k = refl
acts_zeros (op.Retain count ∷ ops) k = ap (λ l. replicate count Stay ++ l) (acts_zeros ops k)
acts_zeros (op.Replace removed inserted ∷ ops) k =
    let rest = rest_zeros inserted k in
    let later = ap (acts_of ops) (rest_none inserted) ∙ acts_zeros ops rest.0 ∙ ap (acts_of ops) (sym rest.1) in
    λ i. replicate (length removed) Go ++ (come_zeros inserted k i ++ later i)
acts_zeros (op.Attribute name from to ∷ ops) k = acts_zeros ops k

-- and such acts have none
stays_unnumbered : (count : ℕ) → map unnumbered_act (replicate count Stay) ≡ replicate count Stay
stays_unnumbered zero = refl
stays_unnumbered (suc count) = ap (λ l. Stay ∷ l) (stays_unnumbered count)

gone_unnumbered : (count : ℕ) → map unnumbered_act (replicate count Go) ≡ replicate count Go
gone_unnumbered zero = refl
gone_unnumbered (suc count) = ap (λ l. Go ∷ l) (gone_unnumbered count)

come_unnumbered : (items : List Item) → map unnumbered_act (come items []) ≡ come items []
come_unnumbered [] = refl
come_unnumbered (item.Char ch marks ∷ items) = ap (λ l. come (item.Char ch marks ∷ []) [] ++ l) (come_unnumbered items)
come_unnumbered (item.Opening kind generated head marks pre origin ∷ items) =
    ap (λ l. come (item.Opening kind generated head marks pre origin ∷ []) [] ++ l) (come_unnumbered items)
come_unnumbered (item.Closing kind pre ∷ items) = ap (λ l. come (item.Closing kind pre ∷ []) [] ++ l) (come_unnumbered items)

acts_unnumbered : (ops : List Op) → map unnumbered_act (acts_of ops []) ≡ acts_of ops []
acts_unnumbered [] = refl
acts_unnumbered (op.Retain count ∷ ops) =
    map-append unnumbered_act (replicate count Stay) (acts_of ops []) ∙ (λ i. stays_unnumbered count i ++ acts_unnumbered ops i)
acts_unnumbered (op.Replace removed inserted ∷ ops) =
    let later = ap (λ ns. map unnumbered_act (acts_of ops ns)) (rest_none inserted) ∙ acts_unnumbered ops ∙ ap (acts_of ops) (sym (rest_none inserted)) in
    map-append unnumbered_act (replicate (length removed) Go) (come inserted [] ++ acts_of ops (rest_of inserted []))
    ∙ (λ i. gone_unnumbered (length removed) i ++ map-append unnumbered_act (come inserted []) (acts_of ops (rest_of inserted [])) i)
    ∙ (λ i. replicate (length removed) Go ++ (come_unnumbered inserted i ++ later i))
acts_unnumbered (op.Attribute name from to ∷ ops) = acts_unnumbered ops

-- a piece without numbers is one with zeros
pub piece_unnumbered : (front : ℕ) (ops : List Op) (tail k : ℕ) →
    map unnumbered_act ((replicate front Stay ++ acts_of ops []) ++ replicate tail Stay) ≡ piece_acts front ops (zeros k) tail
piece_unnumbered front ops tail k =
    map-append unnumbered_act (replicate front Stay ++ acts_of ops []) (replicate tail Stay)
    ∙ (λ i. map-append unnumbered_act (replicate front Stay) (acts_of ops []) i ++ stays_unnumbered tail i)
    ∙ (λ i. (stays_unnumbered front i ++ (acts_unnumbered ops ∙ acts_zeros ops k) i) ++ replicate tail Stay)
    ∙ append_assoc (replicate front Stay) (acts_of ops (zeros k)) (replicate tail Stay)
