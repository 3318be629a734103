-- The tests of equality of keys and of texts are equivalences, and equal ones have one hash.
use Rattle.std.specs.Prelude.{◌≡◌, true, IsTrue, ℕ, List, ◌++◌}
use Rattle.std.specs.Bool.{Decides}
use Rattle.std.specs.Cmp.{IsEquivalence, IsPartialEquivalence, decided, partial_equiv_from_equiv}
use Rattle.std.proofs.Common.{ap, subst}
use Rattle.ve_base.specs.declared.head.RefKey.{RefKey}
use Rattle.model_items.specs.Same.{ref_key_same, text_same}
use Rattle.model_items.proofs.SameLemmas.{Means-ref_key_same, Means-text_same}
use Rattle.ve_base.specs.Digest.{text_input}
use Rattle.ve_store.specs.HashInput.{key_input}

-- the input of a key's hash
abbrev pub ref_key_input : RefKey → List (List ℕ)
ref_key_input k = text_input k.group ++ key_input k.key

pub ref_key_same-Decides : (x y : RefKey) → Decides (ref_key_same x y) (x ≡ y)
ref_key_same-Decides x y = (Means-ref_key_same.equal x y, λ same. let P : RefKey → Type 0 = λ k. ref_key_same x k ≡ true in subst P same (Means-ref_key_same.itself x))

pub ref_key_same-equivalence : IsEquivalence ref_key_same
ref_key_same-equivalence = decided ref_key_same ref_key_same-Decides

pub ref_key_same-partial : IsPartialEquivalence ref_key_same
ref_key_same-partial = partial_equiv_from_equiv ref_key_same-equivalence

pub ref_key_input-same : (x y : RefKey) → IsTrue (ref_key_same x y) → ref_key_input x ≡ ref_key_input y
ref_key_input-same x y same = ap ref_key_input (Means-ref_key_same.equal x y same)

pub text_same-Decides : (x y : List ℕ) → Decides (text_same x y) (x ≡ y)
text_same-Decides x y = (Means-text_same.equal x y, λ same. let P : List ℕ → Type 0 = λ t. text_same x t ≡ true in subst P same (Means-text_same.itself x))

pub text_same-equivalence : IsEquivalence text_same
text_same-equivalence = decided text_same text_same-Decides

pub text_same-partial : IsPartialEquivalence text_same
text_same-partial = partial_equiv_from_equiv text_same-equivalence

pub text_input-same : (x y : List ℕ) → IsTrue (text_same x y) → text_input x ≡ text_input y
text_input-same x y same = ap text_input (Means-text_same.equal x y same)
