-- Attribute operations of one position, looked for by their names.
use Rattle.std.proofs.Common.{◌≡◌, ℕ, zero, suc, ◌+◌, ◌-◌, ◌<◌, Bool, true, false, ◌&&◌, not, List, [], ◌∷◌, length, take, drop, get_or, Contains, refl, sym, ap, ◌∙◌, subst, arith, inl, inr}
use Rattle.std.proofs.lemmas.Bool.{false_from_ne_true, and_parts}
use Rattle.std.proofs.lemmas.List.{take_all, length-drop, at_drop_more}
use Rattle.model_items.specs.Same.{text_same}
use Rattle.ve_tx.specs.declared.op.Op.{Op}
use Rattle.ve_tx.specs.declared.op.Op.TheVariants.{Retain, Replace, Attribute}
use Rattle.ve_tx.specs.Normal.{names_apart, first_names, may_follow_attribute, may_stand_before, is_some_op, are_reduced}
use Rattle.ve_tx.specs.Noted.{HaveSameNames}
use Rattle.ve_tx.proofs.NormalLemmas.{text_same-Decides}
use Rattle.ve_tx.proofs.NotedLemmas.{first_or_later, is_first, is_later}

not_both : (b : Bool) {c : Bool} → c ≡ false → (b && c) ≡ false
not_both true e = e
not_both false e = refl

-- ---- an attribute operation before others

-- what may stand after one attribute operation may stand after another, their names aside
still_follows : (name : List ℕ) (later : List Op) → names_apart name later ≡ true → may_follow_attribute later ≡ true
still_follows name [] may = cc
still_follows name (Retain count ∷ later) may = refl
still_follows name (Replace removed inserted ∷ later) may = cc
still_follows name (Attribute other from to ∷ later) may = refl

apart_after_none : (name : List ℕ) (later : List Op) → are_reduced later ≡ true → may_follow_attribute later ≡ true → ¬ Contains (first_names later) name → names_apart name later ≡ true
apart_after_none name [] reduced follows new = cc
apart_after_none name (Retain count ∷ later) reduced follows new = refl
apart_after_none name (Replace removed inserted ∷ later) reduced follows new = cc
apart_after_none name (Attribute other from to ∷ later) reduced follows new =
    let parts = and_parts (names_apart other later) (are_reduced later) reduced in
    let differs = false_from_ne_true (text_same name other) (λ same. new (is_first other name (first_names later) (sym ((text_same-Decides name other).0 same)))) in
    rw differs (apart_after_none name later parts.1 (still_follows other later parts.0) (λ h. new (is_later other name (first_names later) h)))

never_follows : (name : List ℕ) (later : List Op) → may_follow_attribute later ≡ false → names_apart name later ≡ false
never_follows name [] follows = refl
never_follows name (Retain count ∷ later) follows = cc
never_follows name (Replace removed inserted ∷ later) follows = refl
never_follows name (Attribute other from to ∷ later) follows = cc

named_twice : (name : List ℕ) (later : List Op) → Contains (first_names later) name → names_apart name later ≡ false
named_twice name [] (k, within, is) = absurd (let none : ⊥ = omega arith in none)
named_twice name (Retain count ∷ later) (k, within, is) = absurd (let none : ⊥ = omega arith in none)
named_twice name (Replace removed inserted ∷ later) (k, within, is) = absurd (let none : ⊥ = omega arith in none)
named_twice name (Attribute other from to ∷ later) h = elim (first_or_later other name (first_names later) h) [
  | inl same ↦ rw ((text_same-Decides name other).1 (sym same)) refl
  | inr before ↦ not_both (not (text_same name other)) (named_twice name later before)
]

-- a new name may come wherever an attribute operation may stand
pub new_apart : (name : List ℕ) (later : List Op) (noted : List (List ℕ)) (may : Bool) → are_reduced later ≡ true → HaveSameNames noted (first_names later) → ¬ Contains noted name →
    may ≡ may_follow_attribute later → may ≡ names_apart name later
new_apart name later noted true reduced same new is = sym (apart_after_none name later reduced (sym is) (λ h. new ((same name).1 h)))
new_apart name later noted false reduced same new is = sym (never_follows name later (sym is))

-- a name that was noted may not come again
pub noted_apart : (name : List ℕ) (later : List Op) (noted : List (List ℕ)) (new : Bool) → HaveSameNames noted (first_names later) → (¬ Contains noted name → new ≡ true) → new ≡ false →
    names_apart name later ≡ false
noted_apart name later noted new same otherwise is =
    false_from_ne_true (names_apart name later) (λ may. twice (λ h. let once = named_twice name later h in cc))
  where
    twice : ¬ (¬ Contains (first_names later) name)
    twice none = let new_one = otherwise (λ h. none ((same name).0 h)) in cc

-- ---- operations from the last one back

pub rest_of : {A : Type 0} (xs : List A) (k : ℕ) → take (length xs - k) (drop k xs) ≡ drop k xs
rest_of xs k = take_all (length xs - k) (drop k xs) (omega (arith, length-drop k xs))

reduced_later : (ops : List Op) (k : ℕ) → are_reduced ops ≡ true → are_reduced (drop k ops) ≡ true
reduced_later ops zero reduced = reduced
reduced_later [] (suc k) reduced = refl
reduced_later (op ∷ ops) (suc k) reduced =
    let rest = and_parts (is_some_op op) (may_stand_before op ops && are_reduced ops) reduced in
    reduced_later ops k (and_parts (may_stand_before op ops) (are_reduced ops) rest.1).1

-- where an operation is nothing, or may not stand before the rest, the whole isn't reduced
none_reduced : (ops : List Op) (i : ℕ) (op : Op) → i < length ops → op ≡ get_or ops i op → are_reduced (op ∷ drop (i + 1) ops) ≡ false → are_reduced ops ≡ false
none_reduced ops i op within is other =
    let here : are_reduced (drop i ops) ≡ false = at_drop_more are_reduced ops i op within ∙ ap (λ (o : Op). are_reduced (o ∷ drop (i + 1) ops)) (sym is) ∙ other in
    false_from_ne_true (are_reduced ops) (λ reduced. let yes = reduced_later ops i reduced in cc)

pub nothing_reduced : (ops : List Op) (i : ℕ) (op : Op) → i < length ops → op ≡ get_or ops i op → is_some_op op ≡ false → are_reduced ops ≡ false
nothing_reduced ops i op within is other = none_reduced ops i op within is (rw other refl)

pub misplaced_reduced : (ops : List Op) (i : ℕ) (op : Op) → i < length ops → op ≡ get_or ops i op → may_stand_before op (drop (i + 1) ops) ≡ false → are_reduced ops ≡ false
misplaced_reduced ops i op within is other = none_reduced ops i op within is (not_both (is_some_op op) (ap (λ b. b && are_reduced (drop (i + 1) ops)) other))

-- one more operation that is something and may stand there
pub reduced_more : (ops : List Op) (i : ℕ) (op : Op) → i < length ops → op ≡ get_or ops i op → is_some_op op ≡ true → may_stand_before op (drop (i + 1) ops) ≡ true →
    are_reduced (drop (i + 1) ops) ≡ true → are_reduced (drop i ops) ≡ true
reduced_more ops i op within is something precedes reduced =
    at_drop_more are_reduced ops i op within ∙ ap (λ (o : Op). are_reduced (o ∷ drop (i + 1) ops)) (sym is)
    ∙ ap (λ b. b && (may_stand_before op (drop (i + 1) ops) && are_reduced (drop (i + 1) ops))) something ∙ ap (λ b. b && are_reduced (drop (i + 1) ops)) precedes ∙ reduced

pub names_more : (ops : List Op) (i : ℕ) (op : Op) (noted : List (List ℕ)) → i < length ops → op ≡ get_or ops i op → HaveSameNames noted (first_names (op ∷ drop (i + 1) ops)) → HaveSameNames noted (first_names (drop i ops))
names_more ops i op noted within is same =
    subst (HaveSameNames noted) (ap (λ (o : Op). first_names (o ∷ drop (i + 1) ops)) is ∙ sym (at_drop_more first_names ops i op within)) same
