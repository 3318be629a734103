-- Attributes that are set at one position, looked for by their names.
use Rattle.std.proofs.Common.{◌≡◌, ℕ, zero, suc, ◌+◌, ◌<◌, Bool, true, false, ◌&&◌, not, List, [], ◌∷◌, length, drop, get_or, Option, Contains, refl, sym, ap, ◌∙◌, subst, arith, inl, inr}
use Rattle.std.proofs.lemmas.Bool.{false_from_ne_true, and_parts}
use Rattle.std.proofs.lemmas.List.{at_drop_more}
use Rattle.model_items.specs.Same.{text_same}
use Rattle.model_world.specs.declared.edit_command.OpWords.{OpWords}
use Rattle.model_world.specs.declared.edit_command.OpWords.TheVariants.{Retain, Remove, Attr as Setting}
use Rattle.model_world.specs.Operations.{word_is_something, word_may_precede, words_are_normal}
use Rattle.ve_tx.specs.Noted.{HaveSameNames}
use Rattle.ve_json.specs.Settings.{names_set, may_follow_setting}
use Rattle.ve_json.proofs.ApartLemmas.{text_decides, not_both}
use Rattle.ve_tx.proofs.NotedLemmas.{first_or_later, is_first, is_later}

-- ---- the setting of an attribute before others

-- what may stand after one setting may stand after another, their names aside
still_follows : (name : List ℕ) (to : Option (List ℕ)) (later : List OpWords) → word_may_precede (Setting name to) later ≡ true → may_follow_setting later ≡ true
still_follows name to [] may = cc
still_follows name to (Retain count ∷ later) may = refl
still_follows name to (Remove count insert ∷ later) may = cc
still_follows name to (Setting other value ∷ later) may = refl

set_after_none : (name : List ℕ) (to : Option (List ℕ)) (later : List OpWords) → words_are_normal later ≡ true → may_follow_setting later ≡ true → ¬ Contains (names_set later) name →
    word_may_precede (Setting name to) later ≡ true
set_after_none name to [] normal follows new = cc
set_after_none name to (Retain count ∷ later) normal follows new = refl
set_after_none name to (Remove count insert ∷ later) normal follows new = cc
set_after_none name to (Setting other value ∷ later) normal follows new =
    let parts = and_parts (word_may_precede (Setting other value) later) (words_are_normal later) normal in
    let differs = false_from_ne_true (text_same name other) (λ same. new (is_first other name (names_set later) (sym ((text_decides name other).0 same)))) in
    rw differs (set_after_none name to later parts.1 (still_follows other value later parts.0) (λ h. new (is_later other name (names_set later) h)))

never_follows : (name : List ℕ) (to : Option (List ℕ)) (later : List OpWords) → may_follow_setting later ≡ false → word_may_precede (Setting name to) later ≡ false
never_follows name to [] follows = refl
never_follows name to (Retain count ∷ later) follows = cc
never_follows name to (Remove count insert ∷ later) follows = refl
never_follows name to (Setting other value ∷ later) follows = cc

set_twice : (name : List ℕ) (to : Option (List ℕ)) (later : List OpWords) → Contains (names_set later) name → word_may_precede (Setting name to) later ≡ false
set_twice name to [] (k, within, is) = absurd (let none : ⊥ = omega arith in none)
set_twice name to (Retain count ∷ later) (k, within, is) = absurd (let none : ⊥ = omega arith in none)
set_twice name to (Remove count insert ∷ later) (k, within, is) = absurd (let none : ⊥ = omega arith in none)
set_twice name to (Setting other value ∷ later) h = elim (first_or_later other name (names_set later) h) [
  | inl same ↦ rw ((text_decides name other).1 (sym same)) refl
  | inr before ↦ not_both (not (text_same name other)) (set_twice name to later before)
]

-- a new name may be set wherever a setting may stand
pub new_set : (name : List ℕ) (to : Option (List ℕ)) (later : List OpWords) (noted : List (List ℕ)) (may : Bool) → words_are_normal later ≡ true → HaveSameNames noted (names_set later) → ¬ Contains noted name →
    may ≡ may_follow_setting later → may ≡ word_may_precede (Setting name to) later
new_set name to later noted true normal same new is = sym (set_after_none name to later normal (sym is) (λ h. new ((same name).1 h)))
new_set name to later noted false normal same new is = sym (never_follows name to later (sym is))

-- a name that was noted may not be set again
pub noted_set : (name : List ℕ) (to : Option (List ℕ)) (later : List OpWords) (noted : List (List ℕ)) (new : Bool) → HaveSameNames noted (names_set later) → (¬ Contains noted name → new ≡ true) → new ≡ false →
    word_may_precede (Setting name to) later ≡ false
noted_set name to later noted new same otherwise is =
    false_from_ne_true (word_may_precede (Setting name to) later) (λ may. twice (λ h. let once = set_twice name to later h in cc))
  where
    twice : ¬ (¬ Contains (names_set later) name)
    twice none = let new_one = otherwise (λ h. none ((same name).0 h)) in cc

-- ---- operations from the last one back

normal_later : (ops : List OpWords) (k : ℕ) → words_are_normal ops ≡ true → words_are_normal (drop k ops) ≡ true
normal_later ops zero normal = normal
normal_later [] (suc k) normal = refl
normal_later (op ∷ ops) (suc k) normal =
    let rest = and_parts (word_is_something op) (word_may_precede op ops && words_are_normal ops) normal in
    normal_later ops k (and_parts (word_may_precede op ops) (words_are_normal ops) rest.1).1

-- an operation that is nothing, or may not stand before the rest, is in no normal form
none_normal : (ops : List OpWords) (i : ℕ) (op : OpWords) → i < length ops → op ≡ get_or ops i op → words_are_normal (op ∷ drop (i + 1) ops) ≡ false → words_are_normal ops ≡ false
none_normal ops i op within is other =
    let here : words_are_normal (drop i ops) ≡ false = at_drop_more words_are_normal ops i op within ∙ ap (λ (o : OpWords). words_are_normal (o ∷ drop (i + 1) ops)) (sym is) ∙ other in
    false_from_ne_true (words_are_normal ops) (λ normal. let yes = normal_later ops i normal in cc)

pub nothing_normal : (ops : List OpWords) (i : ℕ) (op : OpWords) → i < length ops → op ≡ get_or ops i op → word_is_something op ≡ false → words_are_normal ops ≡ false
nothing_normal ops i op within is other = none_normal ops i op within is (rw other refl)

pub misplaced_normal : (ops : List OpWords) (i : ℕ) (op : OpWords) → i < length ops → op ≡ get_or ops i op → word_may_precede op (drop (i + 1) ops) ≡ false → words_are_normal ops ≡ false
misplaced_normal ops i op within is other = none_normal ops i op within is (not_both (word_is_something op) (ap (λ b. b && words_are_normal (drop (i + 1) ops)) other))

-- one more operation in normal form
pub normal_more : (ops : List OpWords) (i : ℕ) (op : OpWords) → i < length ops → op ≡ get_or ops i op → word_is_something op ≡ true → word_may_precede op (drop (i + 1) ops) ≡ true →
    words_are_normal (drop (i + 1) ops) ≡ true → words_are_normal (drop i ops) ≡ true
normal_more ops i op within is something precedes normal =
    at_drop_more words_are_normal ops i op within ∙ ap (λ (o : OpWords). words_are_normal (o ∷ drop (i + 1) ops)) (sym is)
    ∙ ap (λ b. b && (word_may_precede op (drop (i + 1) ops) && words_are_normal (drop (i + 1) ops))) something ∙ ap (λ b. b && words_are_normal (drop (i + 1) ops)) precedes ∙ normal

pub names_more : (ops : List OpWords) (i : ℕ) (op : OpWords) (noted : List (List ℕ)) → i < length ops → op ≡ get_or ops i op → HaveSameNames noted (names_set (op ∷ drop (i + 1) ops)) → HaveSameNames noted (names_set (drop i ops))
names_more ops i op noted within is same =
    subst (HaveSameNames noted) (ap (λ (o : OpWords). names_set (o ∷ drop (i + 1) ops)) is ∙ sym (at_drop_more names_set ops i op within)) same
