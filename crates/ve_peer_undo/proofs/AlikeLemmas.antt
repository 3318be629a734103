-- Two lists that are compared member by member.
use Rattle.std.proofs.Common.{◌≡◌, ◌≢◌, ◌<◌, ◌+◌, ℕ, zero, suc, List, [], ◌∷◌, ◌++◌, length, map, take, get_or, Option, refl, sym, ap, ◌∙◌, subst, arith}
use Rattle.std.proofs.lemmas.List.{length-map, map-append, take_more}
use Rattle.ve_tx.specs.declared.op.Op.{Op}
use Rattle.ve_tx.specs.Operation.{Operation, Retain, Replace, Attribute, bare, kept_at, kept_by, with_position}

module _ {A B C : Type 0} (f : A → C) (g : B → C) where
  pub they_differ : (xs : List A) (ys : List B) (i : ℕ) (d : A) (e : B) → i < length xs → i < length ys → f (get_or xs i d) ≢ g (get_or ys i e) →
      map f xs ≢ map g ys
  they_differ [] ys i d e l m other h = absurd (omega (arith, l))
  they_differ (v ∷ xs) [] i d e l m other h = absurd (omega (arith, m))
  they_differ (v ∷ xs) (w ∷ ys) zero d e l m other h = other (cc)
  they_differ (v ∷ xs) (w ∷ ys) (suc i) d e l m other h = they_differ xs ys i d e (omega (arith, l)) (omega (arith, m)) other (cc)

  pub alike_more : (xs : List A) (ys : List B) (i : ℕ) (d : A) (e : B) → i < length xs → i < length ys → map f (take i xs) ≡ map g (take i ys) →
      f (get_or xs i d) ≡ g (get_or ys i e) → map f (take (i + 1) xs) ≡ map g (take (i + 1) ys)
  alike_more xs ys i d e l m h same =
      ap (map f) (take_more xs i d l)
      ∙ (map-append f (take i xs) (get_or xs i d ∷ [])
      ∙ (ap (λ cs. cs ++ f (get_or xs i d) ∷ []) h
      ∙ (ap (λ c. map g (take i ys) ++ c ∷ []) same ∙ (sym (map-append g (take i ys) (get_or ys i e ∷ [])) ∙ ap (map g) (sym (take_more ys i e m))))))

-- an operation as it is lent, with the position that it keeps
put_back : (o : Operation) → with_position (bare o) (kept_by o) ≡ o
put_back (Retain count) = refl
put_back (Replace removed inserted) = refl
put_back (Attribute change) = refl

op_at : (tx : List Operation) (k : ℕ) (o : Op) (d : Operation) → k < length tx → o ≡ get_or (map bare tx) k o → with_position o (kept_at tx k) ≡ get_or tx k d
op_at [] k o d l is = absurd (omega (arith, l))
op_at (x ∷ tx) zero o d l is = ap (λ p. with_position p (kept_by x)) is ∙ put_back x
op_at (x ∷ tx) (suc k) o d l is = op_at tx k o d (omega (arith, l)) is

pub within : (tx : List Operation) (lent : List Op) (k : ℕ) → lent ≡ map bare tx → k < length lent → k < length tx
within tx lent k is l = subst (λ n. k < n) (ap length is ∙ length-map tx bare) l

pub op_here : (tx : List Operation) (lent : List Op) (k : ℕ) (o : Op) (kept : Option ℕ) (d : Operation) → lent ≡ map bare tx → k < length lent →
    o ≡ get_or lent k o → kept ≡ kept_at tx k → with_position o kept ≡ get_or tx k d
op_here tx lent k o kept d is l at p = ap (with_position o) p ∙ op_at tx k o d (within tx lent k is l) (at ∙ ap (λ ops. get_or ops k o) is)
