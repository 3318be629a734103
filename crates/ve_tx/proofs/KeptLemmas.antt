-- The position that an operation keeps, found beside it.
use Rattle.std.proofs.Common.{◌≡◌, ◌<◌, ◌≤◌, ℕ, zero, suc, true, false, List, [], ◌∷◌, length, get_or, Option, None, refl, arith}
use Rattle.ve_tx.specs.declared.op.Op.{Op}
use Rattle.ve_tx.specs.declared.op.Op.TheVariants as op
use Rattle.ve_tx.specs.Operation.{is_setting, kept_at, with_positions}

pub kept_other : (k : ℕ) (ops : List Op) (kept : List (Option ℕ)) (o : Op) → k < length ops → o ≡ get_or ops k o → is_setting o ≡ false →
    kept_at (with_positions ops kept) k ≡ None
kept_other k [] kept o below is other = absurd (omega (arith, below))
kept_other zero (op.Retain count ∷ ops) [] o below is other = refl
kept_other zero (op.Replace removed inserted ∷ ops) [] o below is other = refl
kept_other zero (op.Attribute name from to ∷ ops) [] o below is other = refl
kept_other zero (op.Retain count ∷ ops) (p ∷ kept) o below is other = refl
kept_other zero (op.Replace removed inserted ∷ ops) (p ∷ kept) o below is other = refl
kept_other zero (op.Attribute name from to ∷ ops) (p ∷ kept) o below is other = absurd (cc)
kept_other (suc k) (x ∷ ops) [] o below is other = kept_other k ops [] o (omega (arith, below)) is other
kept_other (suc k) (x ∷ ops) (p ∷ kept) o below is other = kept_other k ops kept o (omega (arith, below)) is other

pub kept_past : (k : ℕ) (ops : List Op) (kept : List (Option ℕ)) → k < length ops → length kept ≤ k → kept_at (with_positions ops kept) k ≡ None
kept_past k [] kept below past = absurd (omega (arith, below))
kept_past zero (op.Retain count ∷ ops) [] below past = refl
kept_past zero (op.Replace removed inserted ∷ ops) [] below past = refl
kept_past zero (op.Attribute name from to ∷ ops) [] below past = refl
kept_past zero (x ∷ ops) (p ∷ kept) below past = absurd (omega (arith, past))
kept_past (suc k) (x ∷ ops) [] below past = kept_past k ops [] (omega (arith, below)) (omega arith)
kept_past (suc k) (x ∷ ops) (p ∷ kept) below past = kept_past k ops kept (omega (arith, below)) (omega (arith, past))

pub kept_setting : (k : ℕ) (ops : List Op) (kept : List (Option ℕ)) (o : Op) → k < length ops → k < length kept → o ≡ get_or ops k o → is_setting o ≡ true →
    get_or kept k None ≡ kept_at (with_positions ops kept) k
kept_setting k [] kept o below inside is sets = absurd (omega (arith, below))
kept_setting k (x ∷ ops) [] o below inside is sets = absurd (omega (arith, inside))
kept_setting zero (op.Retain count ∷ ops) (q ∷ kept) o below inside is sets = absurd (cc)
kept_setting zero (op.Replace removed inserted ∷ ops) (q ∷ kept) o below inside is sets = absurd (cc)
kept_setting zero (op.Attribute name from to ∷ ops) (q ∷ kept) o below inside is sets = refl
kept_setting (suc k) (x ∷ ops) (q ∷ kept) o below inside is sets = kept_setting k ops kept o (omega (arith, below)) (omega (arith, inside)) is sets
